-- `part::part` meets its contract. Assumes nothing.
use mathlib.Core.Path.{◌≡◌, ap, ◌∙◌}
use Prim.Native.Nat.{◌-◌, ◌≤◌}
use native.Mathlib.Omega.{arith}
use lib.ListN.{length}
use Rattle.std.specs.Result.{result_unwrap_or}
use Rattle.part.specs.declared.Bounds.{Bounds}
use Rattle.part.specs.Part.{bounds_of, flags_in, stand_in}
use Rattle.part.proofs.Found.{end_of, answer-within}
use Rattle.part.proofs.part.Goals as goal

pub slice_bounds-result-end : goal.slice_bounds-result-end
slice_bounds-result-end c =
    let is = c.unwrap_or-bounds.ensures ∙ ap (result_unwrap_or c.find.result) c.empty.ensures ∙ ap bounds_of c.find.ensures in
    let w : end_of c.unwrap_or-bounds.result ≤ length c.args.flags.now = rw is (answer-within _ _ _ _) in
    omega arith

pub returns : goal.returns
unfolding flags_in stand_in
returns c =
    let flags = c.args.flags in
    let bounds = c.unwrap_or-bounds.result in
    let is = c.unwrap_or-bounds.ensures ∙ ap (result_unwrap_or c.find.result) c.empty.ensures ∙ ap bounds_of c.find.ensures in
    let count : end_of bounds - bounds.start.0 ≡ bounds.count = omega arith in
    record {
      result_value = rw count (ap (λ (part : Bounds). flags_in part flags.now) is);
      ref_ptr_value = ap (λ (part : Bounds). stand_in part flags.ref_ptr) is;
    }
