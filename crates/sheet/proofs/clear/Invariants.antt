-- `sheet::clear` meets its contract. Assumes nothing.
use Rattle.sheet.proofs.Writing.{Clearing}
use Rattle.sheet.proofs.clear.Given as goal

abbrev pub invariant-loop-place : goal.invariant-loop-place
invariant-loop-place g l = Clearing l.value 0 l.place-index-end l.initial.place-items l.place-index l.place-items
