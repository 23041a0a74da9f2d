-- An output in lent lists that are longer than it, and what is told of it and a second text. No rule rests on this. Definitions only.
use Rattle.std.specs.Prelude.{◌≡◌, List, ◌++◌, Bool, ℕ, ◌-◌, ◌*◌, ◌≤◌, Float, length, take, replicate}
use Rattle.floats.specs.Choice.{when◌give◌else◌}
use Rattle.source.specs.Source.{segments_of}
use Rattle.refusals.specs.declared.Refusal.TheVariants.{Malformed}
use Rattle.refusals.specs.Table.{number_of, place_of}
use Rattle.packed.specs.Text.{refusal_of}
use Rattle.compare.specs.Compare.{Output, points_of, compare_of}
use Rattle.same_reply.specs.Read.{read_of, is_text}
use Rattle.same_reply.specs.Same.{outcome_text, blank}

-- The output o at the start of two lists, with its count and its closed mark beside them. Past its flags all is 0; past its numbers anything may stand.
pub record Kept (o : Output) (count : ℕ) (closed : Bool) (numbers : List Float) (flags : List ℕ) : Type 0 where
  pub few : count ≤ 12288
  pub room : length numbers ≡ 36864
  pub places : length flags ≡ 12288
  pub counted : count ≡ length (points_of o)
  pub mark : closed ≡ o.closed
  pub segments : segments_of closed count ≡ length o.flags
  pub front : take (3 * count) numbers ≡ o.numbers
  pub flagged : flags ≡ o.flags ++ replicate (12288 - length o.flags) 0

-- what is told of an output and of a text, which may be no output's
unfoldable pub against_text : Output → List ℕ → List ℕ
against_text o b =
    when is_text b give outcome_text (compare_of o (read_of b) blank blank) else
    refusal_of (number_of Malformed) (place_of Malformed)
