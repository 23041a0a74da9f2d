-- Pieces read off the buffers: a piece handed out is what is read of the call (`handed_out_lem`), a call that hands out nothing has nothing read of it (`handed-none`), and the output of a
-- drawing is the drawing (`shown_read`). Assumes nothing.
use mathlib.Core.Path.{◌≡◌, refl, sym, ap, ◌∙◌}
use mathlib.Core.List.{List, ◌++◌, append_assoc}
use mathlib.Core.Bool.{true, false}
use Prim.Native.Nat.{ℕ, ◌-◌, ◌≤◌}
use native.Mathlib.Omega.{arith}
use lib.ListN.{length, take, drop, replicate}
use lib.Seq.{take-append_seam}
use Rattle.segments.specs.declared.PlineVertex.{PlineVertex}
use Rattle.source.specs.Source.{Lent, rows, columns, vertices_in}
use Rattle.moves.specs.Drawing.{Drawing, nothing}
use Rattle.moves.specs.InnerSteps.{Fits}
use Rattle.sheet.specs.Buffers.{Buffers, padded, no_origin, laid_in, shown}
use Rattle.sheet.specs.InnerSteps.{blank}
use Rattle.sheet.proofs.Holding.{laid-rows, laid-columns}
use Rattle.job.specs.Job.{has_room}
use Rattle.job.proofs.Ways.{all_fit}
use Rattle.course.proofs.Reached.{same-drawing}
use Rattle.pieces.specs.declared.OpenJob.{OpenJob}
use Rattle.pieces.specs.Calls.{answering, called, handed_out}
use Rattle.pieces.specs.Claim.{first, handed}

-- what is written first is read
take-padded : {A : Type 0} (z : A) (n : ℕ) (xs old : List A) → take (length xs) (padded z n xs old) ≡ xs
take-padded z n xs old = ap (take (length xs)) (append_assoc xs (replicate (n - length xs) z) (drop n old)) ∙ take-append_seam xs (replicate (n - length xs) z ++ drop n old)

take-laid : (room : ℕ) (vs : List PlineVertex) (l : Lent) → room ≤ length (vertices_in l) → take (length vs) (vertices_in (laid_in room vs l)) ≡ vs
take-laid room vs (rows ns) h = ap (take (length vs)) (laid-rows room vs ns h).made ∙ take-padded blank room vs _
take-laid room vs (columns xs ys bs) h = ap (take (length vs)) (laid-columns room vs xs ys bs h).made ∙ take-padded blank room vs _

-- room in each buffer
pub has_room_lem : (old : Buffers) (n : ℕ) → has_room old n ≡ true → n ≤ length (vertices_in old.vertices)
unfolding has_room
has_room_lem old n h = (all_fit n (length (vertices_in old.vertices)) (length old.flags) (length old.indexes) (length old.origins) h).0

module _ (d : Drawing) (unclosed : d.closed ≡ false) (origins : length d.origins ≡ length d.flags) where
  -- with as many vertices, segments and indexes as the drawing has
  pub shown_read : (room : ℕ) (old : Buffers) (n : ℕ) → room ≤ length (vertices_in old.vertices) → n ≡ length d.flags → first (length d.vertices) n (length d.indexes) (shown room d old) ≡ d
  unfolding shown
  shown_read room old n h e =
      same-drawing _ d (take-laid room d.vertices old.vertices h) (rw e (take-padded 0 room d.flags old.flags)) (take-padded 0 room d.indexes old.indexes)
      (rw (e, ← origins) (take-padded no_origin room d.origins old.origins)) (sym unclosed)

  pub handed-read : (old : Buffers) → length d.vertices ≤ length (vertices_in old.vertices) → first (length d.vertices) (length d.flags) (length d.indexes) (handed_out d old) ≡ d
  unfolding handed_out
  handed-read old h =
      same-drawing _ d (take-laid (length d.vertices) d.vertices old.vertices h) (take-padded 0 (length d.flags) d.flags old.flags) (take-padded 0 (length d.indexes) d.indexes old.indexes)
      (rw (← origins) (take-padded no_origin (length d.origins) d.origins old.origins)) (sym unclosed)

pub handed_out_lem : (d : Drawing) (n k : ℕ) (j : OpenJob) (old : Buffers) (room : ℕ) → d.closed ≡ false → Fits room d → has_room old room ≡ true → handed (called (answering n k d) j (handed_out d old)) ≡ d
unfolding handed
handed_out_lem d n k j old room o f h = handed-read d o f.origins old (omega (arith, f.vertices, has_room_lem old room h))

pub handed-none : (n k : ℕ) (j : OpenJob) (old : Buffers) → handed (called (answering n k nothing) j old) ≡ nothing
unfolding handed
handed-none n k j old = refl
