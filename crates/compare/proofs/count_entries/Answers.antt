-- `compare::count_entries` meets its contract. Assumes nothing.
use mathlib.Core.Path.{refl, ap, ◌∙◌}
use native.Mathlib.Omega.{arith}
use lib.ListN.{length}
use Rattle.std.specs.Int.{from_bool}
use Rattle.compare.specs.Compare.{points_of, entries_for, entries_to}
use Rattle.compare.proofs.Entries.{entry-byte, length-next}
use Rattle.compare.proofs.Told.{byte-most}
use Rattle.compare.proofs.count_entries.Goals as goal

pub loop-k-init : goal.loop-k-init
unfolding entries_to
loop-k-init c = (omega arith, (refl, omega arith))

pub loop-k-preserved : goal.loop-k-preserved
loop-k-preserved c =
    let k = c.loop-k.k in
    let a = c.args in
    let n = length-next (points_of a.a.now) a.a.now.flags (points_of a.b.now) a.b.now.flags k in
    let one = c.from-count.ensures ∙ ap from_bool c.any.ensures ∙ entry-byte k _ ∙ ap (λ f. length (entries_for k f)) c.fields_at.ensures in
    (omega arith, (omega arith, omega (arith, byte-most c.any.result)))
