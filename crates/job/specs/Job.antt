-- The whole job, in rows or in columns (01 §1; 02's 2026-08): the answer, and what the buffers hold afterwards. A source with a number left over is refused; of any other the
-- verdict over its vertices is placed in the buffers. Definitions only.
use Rattle.std.specs.Prelude.{Err, Ok, Result, ℕ, Bool, not, leb, eqb, length}
use Rattle.floats.specs.Choice.{when◌give◌else◌, ◌and◌}
use Rattle.segments.specs.declared.Settings.{Settings}
use Rattle.source.specs.Source.{Lent, vertices_in, is_whole}
use Rattle.refusals.specs.declared.Refusal.{Refusal}
use Rattle.refusals.specs.declared.Refusal.TheVariants.{Ragged}
use Rattle.refusals.specs.Table.{number_of}
use Rattle.moves.specs.declared.RawOffsetResult.{RawOffsetResult}
use Rattle.moves.specs.Drawing.{nothing, empty_result, result_of}
use Rattle.sheet.specs.Buffers.{Buffers, shown}
use Rattle.job.specs.Verdict.{Verdict, refused, drawn, room_for, verdict_of}

-- a refusal has counts 0 and is open
abbrev pub result_in : Result RawOffsetResult Refusal → RawOffsetResult
result_in (Ok r) = r
result_in (Err r) = empty_result

-- how a job ends: its answer, and what the buffers hold
pub record Outcome : Type 0 where
  pub answer : Result RawOffsetResult Refusal
  pub buffers : Buffers

abbrev pub ending : Result RawOffsetResult Refusal → Buffers → Outcome
ending a b = record { answer = a; buffers = b }

-- what a refusal leaves: No. 6 zeros up to the room, any other all as it was
unfoldable pub after_refusal : Refusal → ℕ → Buffers → Buffers
after_refusal r room old = when eqb (number_of r) 6 give shown room nothing old else old

-- a verdict in the first `room` places of the buffers
abbrev pub placed : ℕ → Verdict → Buffers → Outcome
placed room (refused r) old = ending (Err r) (after_refusal r room old)
placed room (drawn d) old = ending (Ok (result_of d)) (shown room d old)

-- so many vertices, flags, indexes and origins fit: the vertices by as many as the lent numbers make, in rows a third of them, rounded down, in columns the shortest
unfoldable pub has_room : Buffers → ℕ → Bool
has_room b room = leb room (length (vertices_in b.vertices)) and (leb room (length b.flags) and (leb room (length b.indexes) and leb room (length b.origins)))

unfoldable pub job_of : Lent → Bool → Settings → Buffers → Outcome
job_of source closed σ old =
    let vs = vertices_in source in
    when not (is_whole source) give placed 0 (refused Ragged) old else
    placed (room_for σ.corners closed (length vs)) (verdict_of (has_room old) closed σ vs) old
