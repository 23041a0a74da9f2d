-- Outputs as a job gives them, whose text reads back as the output itself (`read_back` in proofs). Definitions only.
use Rattle.std.specs.Prelude.{◌≡◌, ℕ, ◌≤◌, true, false, get_or}
use Rattle.compare.specs.Compare.{Output, is_even, is_many}
use Rattle.compare.specs.Claim.{Doubles}

-- each number is a double, each flag is 0 or 1, there is a flag for each segment, and there are at most 12,288 vertices
pub record Printable (o : Output) : Type 0 where
  pub doubles : Doubles o.numbers
  pub flags : (i : ℕ) → get_or o.flags i 0 ≤ 1
  pub even : is_even o ≡ true
  pub few : is_many o.numbers ≡ false
