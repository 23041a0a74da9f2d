-- The choice between two candidates, from the distances that the code worked out: `first` and `second` say of what. The rules told are those of the one that is taken.
-- Assumes nothing.
use mathlib.Core.Path.{◌≡◌, refl, sym, ap, ◌∙◌}
use mathlib.Core.Bool.{Bool, true, false}
use lib.Ieee.{Float, lt}
use Rattle.std.specs.Prelude.{Result, Ok, Err, is_ok}
use Rattle.floats.specs.Choice.{when◌give◌else◌}
use Rattle.floats.proofs.Choice.{yes, no, told}
use Rattle.segments.specs.declared.RawOffsetSeg.{RawOffsetSeg}
use Rattle.meetings.specs.declared.Meeting.{Meeting}
use Rattle.meetings.specs.declared.Miss.{Miss}
use Rattle.meetings.specs.declared.SeenArc.{SeenArc}
use Rattle.meetings.specs.declared.SeenMet.{SeenMet}
use Rattle.meetings.specs.Params.{squared_distances_equal}
use Rattle.meetings.specs.Meetings.{or_else, nearer_of}
use Rattle.meetings.specs.Rules.{ruled}
use Rattle.meetings.specs.InnerSteps.{Shows}

module _ (g h : RawOffsetSeg) (η d e ε : Float) (a b : Result Meeting Miss) (arc : SeenArc) {x y : Float} {t : Bool} {r : SeenMet} (first : x ≡ d) (second : y ≡ e) (asked : t ≡ squared_distances_equal x y ε) where
  pub either : t ≡ true → Shows r (ruled g h η (or_else a b)) arc → Shows r (ruled g h η (nearer_of d e ε a b)) arc
  unfolding nearer_of
  either y q = rw (← first, ← second, ← yes _ (or_else a b) _ (told asked y) refl) q

  pub the_first : t ≡ false → lt x y ≡ true → Shows r (ruled g h η a) arc → Shows r (ruled g h η (nearer_of d e ε a b)) arc
  unfolding nearer_of
  the_first n l q = rw (← first, ← second, ← no _ _ _ (told asked n) (yes _ a b l refl)) q

  pub the_second : t ≡ false → lt x y ≡ false → Shows r (ruled g h η b) arc → Shows r (ruled g h η (nearer_of d e ε a b)) arc
  unfolding nearer_of
  the_second n l q = rw (← first, ← second, ← no _ _ _ (told asked n) (no _ a b l refl)) q

-- `or_else` chooses by whether the first met
by_first : (a b : Result Meeting Miss) → when is_ok a give a else b ≡ or_else a b
unfolding when◌give◌else◌
by_first (Ok m) b = refl
by_first (Err e) b = refl

-- which the rules leave as it is
ruled-at : (g h : RawOffsetSeg) (ε : Float) (a : Result Meeting Miss) → is_ok (ruled g h ε a) ≡ is_ok a
unfolding ruled
ruled-at g h ε (Ok m) = refl
ruled-at g h ε (Err e) = refl

module _ (g h : RawOffsetSeg) (ε : Float) (a b : Result Meeting Miss) (arc : SeenArc) {t : Bool} {f : SeenMet} (first : Shows f (ruled g h ε a) arc) (asked : t ≡ is_ok f.met) where
  same : is_ok f.met ≡ is_ok a
  same = ap is_ok first.met ∙ ruled-at g h ε a

  pub kept : t ≡ true → Shows f (ruled g h ε (or_else a b)) arc
  kept q = rw (← by_first, ← yes (is_ok a) a b (sym same ∙ told asked q) refl) first

  pub tried : {r : SeenMet} → t ≡ false → Shows r (ruled g h ε b) arc → Shows r (ruled g h ε (or_else a b)) arc
  tried q s = rw (← by_first, ← no (is_ok a) a b (sym same ∙ told asked q) refl) s
