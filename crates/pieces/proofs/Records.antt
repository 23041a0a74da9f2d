-- A record by its words: its mode, and how many output segments it can have. Assumes nothing.
use mathlib.Core.Path.{◌≡◌, refl}
use mathlib.Core.Bool.{Bool, true, false, not}
use Prim.Native.Nat.{ℕ, ◌*◌, ◌-◌}
use mir.Val.{bool_byte}
use lib.Dec.{eqb, leb}
use Rattle.floats.specs.Choice.{when◌give◌else◌}
use Rattle.segments.specs.declared.Corners.{Corners}
use Rattle.segments.specs.declared.Corners.TheVariants.{Round, Pointed}
use Rattle.segments.specs.Modes.{are_pointed, round_by, pointed_by}
use Rattle.job.specs.InnerSteps.{moves_if}
use Rattle.job.proofs.Ends.{moves_if_lem}
use Rattle.pieces.specs.declared.OpenJob.{OpenJob}
use Rattle.pieces.specs.Calls.{settings_of, most_number, mode_of}

pub mode-is : (j : OpenJob) → not (eqb j.pointed 0) ≡ are_pointed (settings_of j).corners
unfolding settings_of
mode-is j = by (eqb j.pointed 0)
  where
    by : (t : Bool) → not t ≡ are_pointed (when t give round_by j.offset j.eps else pointed_by j.offset j.eps j.ratio).corners
    by true = unfold when◌give◌else◌ in refl
    by false = unfold when◌give◌else◌ in refl

pub mode_byte : (c : Corners) → bool_byte (are_pointed c) ≡ mode_of c
mode_byte Round = refl
mode_byte (Pointed ratio) = refl

pub few-is : (j : OpenJob) {p : Bool} {m l : ℕ} → p ≡ are_pointed (settings_of j).corners → m ≡ moves_if p → l ≡ j.course.taken - 2
    → leb j.course.number (m * l) ≡ leb j.course.number (most_number (settings_of j) j.course.taken)
few-is j a b c = rw (b, a, c, moves_if_lem (settings_of j).corners)
