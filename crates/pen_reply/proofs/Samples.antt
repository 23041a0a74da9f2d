-- Samples, by computation of the definitions: the text of each step of a corner, of a pointed one, of a copy, and of what is refused. Assumes nothing.
use mathlib.Core.Path.{◌≡◌, refl}
use mathlib.Core.List.{List, [], ◌∷◌, ◌++◌}
use Prim.Native.Nat.{ℕ}
use Rattle.moves.specs.Origins.{origin_of, origins_in}
use Rattle.course.specs.Course as Course
use Rattle.job.proofs.PRows as Rows
use Rattle.packed.specs.Text.{ascii}
use Rattle.packed.proofs.Samples as Packed
use Rattle.packed.proofs.Samples.{word}
use Rattle.pieces.specs.declared.OpenJob.{OpenJob}
use Rattle.pieces.specs.Calls.{settings_of, is_open, was_refused, handed_out, shut_answer, start_call, drawn_call, draw_call, end_call}
use Rattle.pen_reply.specs.Pen.{well_formed, settings_in, segment_line, last_line, place_text, piece_text, closing_text, segments_before, start_said, draw_said, end_said, begin_of, draw_of, end_of, next_of}

-- all that the samples look through
unfoldable opened : Unit {0}
unfolding Rows.reckoned Rows.joined Rows.judged Rows.walked Rows.laid Packed.opened origin_of origins_in Course.◌then◌ Course.held Course.entered Course.turn_moves Course.turned Course.copies Course.step_on Course.refusal_of Course.draw_one Course.draw_all Course.last_piece Course.end_piece Course.end_refusal settings_of is_open was_refused handed_out shut_answer start_call drawn_call draw_call end_call well_formed settings_in segment_line last_line place_text piece_text closing_text segments_before start_said draw_said end_said begin_of draw_of end_of next_of
opened = tt

-- the texts of steps from a job on
unfoldable pub texts_from : OpenJob → List (List ℕ) → List (List ℕ)
texts_from j [] = []
texts_from j (b ∷ bs) = (next_of j b).text ∷ texts_from (next_of j b).job bs

-- of a head and what follows it
unfoldable pub texts : List ℕ → List (List ℕ) → List (List ℕ)
texts head bs = (begin_of head).text ∷ texts_from (begin_of head).job bs

abbrev nought : List ℕ
nought = word 0 0

abbrev one : List ℕ
one = word 0x3f 0xf0

abbrev two : List ℕ
two = word 0x40 0x00

abbrev four : List ℕ
four = word 0x40 0x10

-- the mode, the offset, ε = 1e-5, and the ratio
abbrev packed_head : ℕ → List ℕ → List ℕ → List ℕ
packed_head mode offset ratio = mode ∷ offset ++ (0x3e ∷ 0xe4 ∷ 0xf8 ∷ 0xb5 ∷ 0x88 ∷ 0xe3 ∷ 0x68 ∷ 0xf1 ∷ ratio)

abbrev vertex : List ℕ → List ℕ → List ℕ
vertex x y = x ++ y ++ nought

-- the sixth row: the third vertex makes two segments certain, and the end the last one
pub sixth_row :
    texts (packed_head 0 two nought) (vertex nought nought ∷ vertex four nought ∷ vertex four one ∷ [] ∷ [])
    ≡ []
    ∷ []
    ∷ []
    ∷ (ascii "0000000000000000 4000000000000000 0000000000000000 . span 0\n" ++ ascii "4010000000000000 4000000000000000 0000000000000000 ! connector 0\n")
    ∷ (ascii "4000000000000000 0000000000000000 0000000000000000 . span 1\n" ++ ascii "4000000000000000 3ff0000000000000 0000000000000000 -\n" ++ ascii "0 4 open\n")
    ∷ []
unfolding opened texts_from texts
sixth_row = refl

-- (0,0)(10,0)(17,-24) at offset 25 and ratio 1.25: a span and two connectors come with the third vertex
pub pointed :
    texts (packed_head 1 (word 0x40 0x39) (word 0x3f 0xf4)) (vertex nought nought ∷ vertex (word 0x40 0x24) nought ∷ vertex (word 0x40 0x31) (word 0xc0 0x38) ∷ [])
    ≡ []
    ∷ []
    ∷ []
    ∷ (ascii "0000000000000000 4039000000000000 0000000000000000 . span 0\n"
    ++ ascii "4024000000000000 4039000000000000 0000000000000000 . connector 0\n"
    ++ ascii "403cc00000000000 4039000000000000 0000000000000000 . connector 0\n")
    ∷ []
unfolding opened texts_from texts
pointed = refl

-- a copy, where two vertices may be equal; and its count
pub copy :
    texts (packed_head 0 nought nought) (vertex four nought ∷ vertex four nought ∷ [] ∷ [])
    ≡ []
    ∷ []
    ∷ ascii "4010000000000000 0000000000000000 0000000000000000 . span 0\n"
    ∷ (ascii "4010000000000000 0000000000000000 0000000000000000 -\n" ++ ascii "0 2 open\n")
    ∷ []
unfolding opened texts_from texts
copy = refl

-- a bad start, whose refusal every step repeats; an equal vertex, and an infinite one; a vertex cut short, and a head; and nothing at all
pub refusals :
    texts (packed_head 0 (word 0x7f 0xf8) nought) (vertex nought nought ∷ [] ∷ [])
    ++ texts (packed_head 0 one nought) (vertex four nought ∷ vertex four nought ∷ [])
    ++ texts (packed_head 0 one nought) (vertex four nought ∷ vertex (word 0x7f 0xf0) nought ∷ [])
    ++ texts (packed_head 0 one nought) ((0 ∷ []) ∷ [] ∷ [])
    ++ texts (packed_head 2 one nought) []
    ++ texts [] []
    ≡ ascii "3 0\n" ∷ ascii "3 0\n" ∷ ascii "3 0\n" ∷ [] ∷ [] ∷ ascii "5 1\n" ∷ [] ∷ [] ∷ ascii "3 1\n" ∷ [] ∷ ascii "7 0\n" ∷ ascii "0 0 open\n" ∷ ascii "7 0\n" ∷ ascii "7 0\n" ∷ []
unfolding opened texts_from texts
refusals = refl
