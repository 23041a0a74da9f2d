-- `why::ask_copy` meets its contract. Assumes nothing.
use borrow.Author.Tests.{lt-ltb, le-ltb}
use mathlib.Core.Path.{◌≡◌, refl}
use lib.Ieee.{Float}
use Rattle.floats.specs.Binary64.{zero}
use Rattle.floats.specs.Choice.{when◌give◌else◌}
use Rattle.floats.proofs.Choice.{yes, no}
use Rattle.moves.specs.declared.Reason.TheVariants.{Copied}
use Rattle.why.specs.Why.{param_of, copy_answer}
use Rattle.why.proofs.ask_copy.Goals as goal

none-shown : (t : Float) → param_of Copied t ≡ zero
unfolding param_of when◌give◌else◌
none-shown t = refl

pub returns-then-segment-segments : goal.returns-then-segment-segments
unfolding copy_answer
returns-then-segment-segments c = yes _ _ _ (lt-ltb _ _ c.if-segment-segments.true) (simp none-shown)

pub returns : goal.returns
unfolding copy_answer
returns c = no _ _ _ (le-ltb _ _ c.if-segment-segments.false) refl
