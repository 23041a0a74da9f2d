-- `compare::put_entries` meets its contract. Assumes nothing.
use mathlib.Core.Path.{refl, ap, ◌∙◌}
use mathlib.Core.List.{map}
use Prim.Native.Nat.{◌+◌}
use native.Mathlib.Omega.{arith}
use lib.ListN.{length}
use lib.Seq.{sets, length-sets}
use Rattle.compare.specs.declared.Fields.{Fields}
use Rattle.compare.specs.Compare.{points_of, fields_at, entries_for, entries_to, number_in, code_in}
use Rattle.compare.proofs.Entries.{length-next, entries_mono, list-next}
use Rattle.compare.proofs.put_entries.Goals as goal

pub loop-k-init : goal.loop-k-init
unfolding entries_to
loop-k-init c = ((omega arith, refl), ((refl, refl), (refl, refl)))

pub put_entry-at-requires : goal.put_entry-at-requires
put_entry-at-requires c =
    let a = c.args in
    let l = c.loop-k in
    let n = length-next (points_of a.a.now) a.a.now.flags (points_of a.b.now) a.b.now.flags l.k in
    let m = entries_mono (points_of a.a.now) a.a.now.flags (points_of a.b.now) a.b.now.flags (l.k + 1) a.most (omega arith) in
    let one = ap (λ (f : Fields). length (entries_for l.k f)) c.fields_at-differing.ensures in
    record {
      differing_in_bounds = omega arith;
      differing_in_bounds_2 = omega arith;
    }

pub loop-k-preserved : goal.loop-k-preserved
loop-k-preserved c =
    let a = c.args in
    let l = c.loop-k in
    let put = c.put_entry-at in
    let is = c.fields_at-differing.ensures in
    let n = length-next (points_of a.a.now) a.a.now.flags (points_of a.b.now) a.b.now.flags l.k in
    let m = entries_mono (points_of a.a.now) a.a.now.flags (points_of a.b.now) a.b.now.flags (l.k + 1) a.most (omega arith) in
    let one = ap (λ (f : Fields). length (entries_for l.k f)) is in
    let entry = entries_for l.k (fields_at (points_of a.a.now) a.a.now.flags (points_of a.b.now) a.b.now.flags l.k) in
    let numbers = put.ensures.numbers_after ∙ ap (λ (f : Fields). sets l.numbers l.at (map number_in (entries_for l.k f))) is in
    let fields = put.ensures.fields_after ∙ ap (λ (f : Fields). sets l.fields l.at (map code_in (entries_for l.k f))) is in
    let next-numbers = list-next number_in (points_of a.a.now) a.a.now.flags (points_of a.b.now) a.b.now.flags l.k a.numbers.now l.invariant.1.0.0 l.invariant.0.1 (omega arith) numbers in
    let next-fields = list-next code_in (points_of a.a.now) a.a.now.flags (points_of a.b.now) a.b.now.flags l.k a.fields.now l.invariant.1.1.0 l.invariant.0.1 (omega arith) fields in
    ((omega arith, omega arith), ((next-numbers, ap length numbers ∙ length-sets l.numbers l.at (map number_in entry) ∙ l.invariant.1.0.1), (next-fields, ap length fields ∙ length-sets l.fields l.at (map code_in entry) ∙ l.invariant.1.1.1)))
