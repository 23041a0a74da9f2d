-- `sheet::store` meets its contract. Assumes nothing.
use mathlib.Core.Path.{refl}
use native.Mathlib.Omega.{arith}
use Rattle.floats.proofs.Choice.{yes, no}
use Rattle.moves.proofs.Laws.{byte_bit}
use Rattle.moves.proofs.Finite.{doubt-more}
use Rattle.moves.proofs.Origins.{origins-length}
use Rattle.sheet.specs.InnerSteps.{stored}
use Rattle.sheet.proofs.store.Goals as goal

pub returns-then-not-drawn : goal.returns-then-not-drawn
returns-then-not-drawn g c = no _ _ _ c.if-not-drawn.true refl

pub put-requires-2-clause-places : goal.put-requires-2-clause-places
put-requires-2-clause-places g c =
    let room = c.requires.0 c.if-not-drawn.false in
    (omega (arith, room.flags), omega (arith, room.origins, origins-length c.args.marks.now.origins.now), omega (arith, room.indexes))

pub returns : goal.returns
unfolding stored
returns g c =
    let marks = c.put-2.ensures in
    yes _ _ _ c.if-not-drawn.false
    (rw (c.doubt.ensures, doubt-more, marks.origins, marks.flags, marks.indexes, marks.same_loans, c.put.ensures, byte_bit, c.is_invalid-invalid.ensures))
