-- What `rawoffset` (01 §5), `rawpointed` (02's 2026-13) and `raworigins` (02's 2026-09) write for the bytes that they read: the job that these hold, worked over blank buffers, and its answer as
-- text. Definitions only.
use Rattle.std.specs.Prelude.{ℕ, List, eqb, replicate, Float}
use Rattle.floats.specs.Binary64.{zero}
use Rattle.floats.specs.Choice.{when◌give◌else◌}
use Rattle.segments.specs.declared.Corners.{Corners}
use Rattle.refusals.specs.declared.Refusal.TheVariants.{Malformed}
use Rattle.refusals.specs.Table.{number_of, place_of}
use Rattle.source.specs.Source.{Lent, rows, columns, segments_of}
use Rattle.moves.specs.declared.Origin.{Origin}
use Rattle.moves.specs.declared.RawOffsetResult.{RawOffsetResult}
use Rattle.moves.specs.Origins.{origins_in}
use Rattle.sheet.specs.Buffers.{Buffers, buffers}
use Rattle.job.specs.Job.{Outcome, result_in, job_of}
use Rattle.refusals.specs.Table.{number, place}
use Rattle.job.specs.Layouts.{interleaved}
use Rattle.packed.specs.declared.unpacked.Form.{Form}
use Rattle.packed.specs.declared.unpacked.Form.TheVariants.{Round, Pointed, Either}
use Rattle.packed.specs.Packed.{well_formed, source_of, closed_of, settings_of, job_in, corners_in}
use Rattle.packed.specs.Text.{refusal_of, text_of, origins_text}
use Rattle.reply.specs.declared.Asked.{Asked}
use Rattle.reply.specs.declared.Asked.TheVariants.{Drawing, Origins}

-- room for the offset of 512 vertices, closed: three vertices a segment
abbrev pub blank : Buffers
blank = buffers (rows (replicate 4608 zero)) (replicate 1536 0) (replicate 1536 0) (origins_in (replicate 1536 0))

-- lent numbers in rows, as they are in these programs
abbrev pub numbers_in : Lent → List Float
numbers_in (rows ns) = ns
numbers_in (columns xs ys bs) = interleaved xs ys bs

-- done: the drawing with its flags (01 §5), or the origins of as many segments as its vertices have (02's 2026-09)
unfoldable pub done_text : Asked → RawOffsetResult → List Float → List ℕ → List Origin → List ℕ
done_text Drawing r vertices flags origins = text_of r.vertices r.closed vertices flags
done_text Origins r vertices flags origins = origins_text (segments_of r.closed r.vertices) origins

-- refused: the number and the place
unfoldable pub answer_text : Asked → Outcome → List ℕ
answer_text asked o =
    when eqb (number o.answer) 0 give done_text asked (result_in o.answer) (numbers_in o.buffers.vertices) o.buffers.flags o.buffers.origins else
    refusal_of (number o.answer) (place o.answer)

-- what becomes of a packed job, with corners that are told beside it
unfoldable pub outcome_of : Corners → List ℕ → Outcome
outcome_of corners job = job_of (rows (source_of job)) (closed_of job) (settings_of corners job) blank

-- 01 §5: what is no packed job is refused as malformed
unfoldable pub reply_by : Asked → Form → List ℕ → List ℕ
reply_by asked form bytes =
    when well_formed (job_in form bytes) give answer_text asked (outcome_of (corners_in form bytes) (job_in form bytes)) else
    refusal_of (number_of Malformed) (place_of Malformed)

-- 01 §5: of a packed job
abbrev pub reply_of : List ℕ → List ℕ
reply_of bytes = reply_by Drawing Round bytes

-- 02's 2026-13: of a ratio and a packed job
abbrev pub pointed_reply_of : List ℕ → List ℕ
pointed_reply_of bytes = reply_by Drawing Pointed bytes

-- of either
abbrev pub origins_reply_of : List ℕ → List ℕ
origins_reply_of bytes = reply_by Origins Either bytes
