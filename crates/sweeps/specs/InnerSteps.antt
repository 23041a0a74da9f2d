-- The memo of sweeps as two lists: what is remembered of the bulges met so far. No rule rests on it, and the type `Memo` of the code says it of its slots. Definitions only.
use Rattle.std.specs.Prelude.{◌≡◌, List, ℕ, ◌<◌, length, get_or, Float}
use Rattle.std.specs.Float.{nan, binary64}
use Rattle.std.specs.Float.Ieee.{of_bits}
use Rattle.angles.specs.Angle.{sweep_of}

-- each of sixteen slots has a bulge's bits, and its sweep
pub record Memo (keys : List ℕ) (sweeps : List Float) : Type 0 where
  pub long : length keys ≡ 16
  pub sweeps-long : length sweeps ≡ 16
  pub each : (j : ℕ) → j < 16 → get_or sweeps j nan ≡ sweep_of (of_bits binary64 (get_or keys j 0))
