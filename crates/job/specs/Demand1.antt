-- Demand 1: what a job of any numbers is refused for, and what a refusal leaves (01 §1). `proofs/Demand1.antt` shows it of every job. Definitions only.
use Rattle.std.specs.Prelude.{◌≡◌, ◌↔◌, ℕ, ◌≤◌}
use Rattle.moves.specs.Drawing.{nothing, empty_result}
use Rattle.sheet.specs.Buffers.{shown}
use Rattle.job.specs.Job.{result_in}
use Rattle.refusals.specs.Table.{number, place}
use Rattle.job.specs.Rows.{Job, outcome, places, Given, Row1, Row2, Row3, Row4, Row5, Row6}

-- no row holds
pub record Accepted (j : Job) : Type 0 where
  pub one : Row1 j → ⊥
  pub two : Row2 j → ⊥
  pub three : (k : ℕ) → Row3 j k → ⊥
  pub four : Row4 j → ⊥
  pub five : (k : ℕ) → Row5 j k → ⊥
  pub six : Row6 j → ⊥

pub record Demand1 (j : Job) : Type 0 where
  -- each refusal is given exactly when its row holds
  pub one : Given j 1 0 ↔ Row1 j
  pub two : Given j 2 0 ↔ Row2 j
  pub three : (k : ℕ) → Given j 3 k ↔ Row3 j k
  pub four : Given j 4 0 ↔ Row4 j
  pub five : (k : ℕ) → Given j 5 k ↔ Row5 j k
  pub six : Given j 6 0 ↔ Row6 j
  -- a job is done exactly when no row holds, and there is no other number
  pub zero : Given j 0 0 ↔ Accepted j
  pub only : number (outcome j).answer ≤ 6
  -- no place but of Nos. 3 and 5
  pub placeless : (number (outcome j).answer ≡ 3 → ⊥) → (number (outcome j).answer ≡ 5 → ⊥) → place (outcome j).answer ≡ 0
  -- a refusal has counts 0 and is open
  pub counts : 1 ≤ number (outcome j).answer → result_in (outcome j).answer ≡ empty_result
  -- Nos. 1 to 5 change no buffer; No. 6 leaves zeros in the places asked for of each, and the others as they were
  pub unchanged : 1 ≤ number (outcome j).answer → number (outcome j).answer ≤ 5 → (outcome j).buffers ≡ j.buffers
  pub zeroed : number (outcome j).answer ≡ 6 → (outcome j).buffers ≡ shown (places j) nothing j.buffers
