-- What a caller in C is told of an output segment. Definitions only.
use Rattle.std.specs.Prelude.{ℕ, List, [], ◌∷◌, Float}
use Rattle.why.specs.declared.WhyNumbers.{WhyNumbers}

-- the number returned, the seven numbers of `answer`, and the two of `params`
pub record Handed : Type 0 where
  pub returned : ℕ
  pub answer : List ℕ
  pub params : List Float

abbrev pub handed : ℕ → List ℕ → List Float → Handed
handed n seven two = record { returned = n; answer = seven; params = two }

-- number, place, 1 for a connector, source segment, reason, rule at the start, rule at the end; start and end parameter
unfoldable pub handed_of : WhyNumbers → Handed
handed_of n =
    handed n.number (n.number ∷ n.place ∷ n.connector ∷ n.source ∷ n.reason ∷ n.start_rule ∷ n.end_rule ∷ []) (n.start_param ∷ n.end_param ∷ [])
