-- Samples, by computation of the definitions: 01 §5's program on the bytes of the sixth row, a pointed corner, and a job for each number that it can refuse by, but No. 6. Assumes nothing.
use mathlib.Core.Path.{◌≡◌, refl}
use mathlib.Core.List.{List, [], ◌∷◌, ◌++◌}
use Prim.Native.Nat.{ℕ}
use lib.ListN.{replicate}
use Rattle.moves.specs.Origins.{origin_of, origins_in}
use Rattle.job.proofs.PRows as Rows
use Rattle.packed.specs.Text.{ascii}
use Rattle.packed.proofs.Samples as Packed
use Rattle.packed.proofs.Samples.{word, sixth_text}
use Rattle.reply.specs.Reply.{done_text, answer_text, outcome_of, reply_by, reply_of, pointed_reply_of, origins_reply_of}

-- all that the samples look through
unfoldable opened : Unit {0}
unfolding Rows.reckoned Rows.joined Rows.judged Rows.walked Rows.laid Packed.opened done_text answer_text outcome_of reply_by origins_in origin_of
opened = tt

-- the first 16 bits, the offset, ε = 1e-5, and the numbers of the vertices
abbrev packed_job : ℕ → ℕ → List ℕ → List ℕ → List ℕ
packed_job a b offset numbers = a ∷ b ∷ offset ++ (0x3e ∷ 0xe4 ∷ 0xf8 ∷ 0xb5 ∷ 0x88 ∷ 0xe3 ∷ 0x68 ∷ 0xf1 ∷ numbers)

abbrev nought : List ℕ
nought = word 0 0

abbrev one : List ℕ
one = word 0x3f 0xf0

abbrev two : List ℕ
two = word 0x40 0x00

abbrev four : List ℕ
four = word 0x40 0x10

-- an infinity
abbrev endless : List ℕ
endless = word 0x7f 0xf0

-- (0,0)(4,0)
abbrev line : List ℕ
line = nought ++ nought ++ nought ++ four ++ nought ++ nought

pub sixth_row : reply_of (packed_job 0 3 two (line ++ four ++ one ++ nought)) ≡ sixth_text
unfolding opened
sixth_row = refl

-- 02's 2026-09: the origins of its segments; of a closed drawing of one line, which has four; and of a job that is refused
pub origins :
    origins_reply_of (packed_job 0 3 two (line ++ four ++ one ++ nought)) ∷ origins_reply_of (packed_job 0x80 2 one line) ∷ origins_reply_of (packed_job 0 2 endless line) ∷ []
    ≡ ascii "0 3\nspan 0\nconnector 0\nspan 1\n" ∷ ascii "0 4\nspan 0\nconnector 0\nspan 1\nconnector 1\n" ∷ ascii "3 2\n" ∷ []
unfolding opened
origins = refl

-- 02's 2026-13: (0,0)(10,0)(17,-24) at offset 25 and ratio 1.25, where both sides of the test are 976.5625, and its origins
abbrev tip : List ℕ
tip = word 0x3f 0xf4 ++ packed_job 0 3 (word 0x40 0x39) (nought ++ nought ++ nought ++ word 0x40 0x24 ++ nought ++ nought ++ word 0x40 0x31 ++ word 0xc0 0x38 ++ nought)

pub pointed :
    pointed_reply_of tip ∷ origins_reply_of tip ∷ []
    ≡ (ascii "0 5 open\n"
    ++ ascii "0000000000000000 4039000000000000 0000000000000000 .\n"
    ++ ascii "4024000000000000 4039000000000000 0000000000000000 .\n"
    ++ ascii "403cc00000000000 4039000000000000 0000000000000000 .\n"
    ++ ascii "4041000000000000 401c000000000001 0000000000000000 .\n"
    ++ ascii "4044800000000000 c031000000000000 0000000000000000 -\n")
    ∷ ascii "0 4\nspan 0\nconnector 0\nconnector 0\nspan 1\n"
    ∷ []
unfolding opened
pointed = refl

-- no vertex and the ratio a NaN, 1 or under 1: No. 3 at place v + 2; and no job: a packed job with no ratio, and a ratio with none or cut short
pub pointed-refusals :
    pointed_reply_of (word 0x7f 0xf8 ++ packed_job 0 0 one [])
    ∷ pointed_reply_of (one ++ packed_job 0 0 one [])
    ∷ pointed_reply_of (word 0x3f 0xe0 ++ packed_job 0 0 one [])
    ∷ pointed_reply_of (packed_job 0 2 one line)
    ∷ pointed_reply_of one
    ∷ pointed_reply_of (replicate 7 0)
    ∷ reply_of tip
    ∷ []
    ≡ ascii "3 2\n" ∷ ascii "0 0 open\n" ∷ ascii "3 2\n" ∷ ascii "7 0\n" ∷ ascii "7 0\n" ∷ ascii "7 0\n" ∷ ascii "7 0\n" ∷ []
unfolding opened
pointed-refusals = refl

-- No. 3 at the second vertex, and at the offset; No. 5 at the second vertex; and no job: a byte more, a zero bit, 513 vertices, nothing at all
pub refusals :
    reply_of (packed_job 0 2 one (nought ++ nought ++ nought ++ endless ++ nought ++ nought))
    ∷ reply_of (packed_job 0 2 endless line)
    ∷ reply_of (packed_job 0 3 one (line ++ four ++ nought ++ nought))
    ∷ reply_of (packed_job 0 2 one (line ++ 0 ∷ []))
    ∷ reply_of (packed_job 0x10 2 one line)
    ∷ reply_of (packed_job 2 1 one (replicate 12312 0))
    ∷ reply_of []
    ∷ []
    ≡ ascii "3 1\n" ∷ ascii "3 2\n" ∷ ascii "5 1\n" ∷ ascii "7 0\n" ∷ ascii "7 0\n" ∷ ascii "7 0\n" ∷ ascii "7 0\n" ∷ []
unfolding opened
refusals = refl
