-- What `rawwhy` writes for the bytes that it reads (02's 2026-01): the number of an output segment, 4 bytes, and after it a packed job (01 §5) or a pointed one (2026-13). Definitions only.
use Rattle.std.specs.Prelude.{ℕ, List, eqb, drop, Result}
use Rattle.floats.specs.Choice.{when◌give◌else◌}
use Rattle.words.specs.Words.{big_endian}
use Rattle.refusals.specs.declared.Refusal.TheVariants.{Malformed}
use Rattle.refusals.specs.Table.{number_of, place_of}
use Rattle.segments.specs.declared.Corners.{Corners}
use Rattle.source.specs.Source.{rows}
use Rattle.packed.specs.declared.unpacked.Form.TheVariants.{Either}
use Rattle.packed.specs.Packed.{well_formed, source_of, closed_of, settings_of, job_in, corners_in}
use Rattle.packed.specs.Text.{refusal_of, told_of}
use Rattle.why.specs.declared.WhyNumbers.{WhyNumbers}
use Rattle.why.specs.Why.{why_of, numbers_of}
use Rattle.refusals.specs.declared.Refusal.{Refusal}
use Rattle.why.specs.declared.Telling.{Telling}

-- told, the line of all its numbers; refused, the number and the place
unfoldable pub telling_text : WhyNumbers → List ℕ
telling_text n =
    when eqb n.number 0 give told_of n.number n.place n.connector n.source n.reason n.start_rule n.end_rule n.start_param n.end_param else
    refusal_of n.number n.place

-- why output segment k of a packed job is as it is, with corners that are told beside it
unfoldable pub packed_answer : Corners → List ℕ → ℕ → Result Telling Refusal
packed_answer corners job k = why_of (rows (source_of job)) (closed_of job) (settings_of corners job) k

-- 01 §5: what is no packed job is refused as malformed
unfoldable pub packed_reply : List ℕ → ℕ → List ℕ
packed_reply bytes k =
    when well_formed (job_in Either bytes) give telling_text (numbers_of (packed_answer (corners_in Either bytes) (job_in Either bytes) k)) else
    refusal_of (number_of Malformed) (place_of Malformed)

-- the number stands first, its most significant byte first; where it is cut short no job follows it
unfoldable pub why_reply_of : List ℕ → List ℕ
why_reply_of bytes = packed_reply (drop 4 bytes) (big_endian bytes 0 4)
