-- Samples, by computation of the definitions: what is no question, what each job is refused by, and what is told of a pointed corner. Assumes nothing.
use mathlib.Core.Path.{◌≡◌, refl}
use mathlib.Core.List.{List, [], ◌∷◌, ◌++◌}
use Prim.Native.Nat.{ℕ}
use lib.ListN.{replicate}
use Rattle.joins.specs.Rules.{ruled_boundary}
use Rattle.walk.specs.Spans.{corners_from, starts_of, ends_of}
use Rattle.job.proofs.PRows as Rows
use Rattle.packed.specs.Text.{ascii}
use Rattle.packed.proofs.Samples as Packed
use Rattle.packed.proofs.Samples.{word}
use Rattle.why.specs.Why.{param_of, telling_of, told_at, walk_answer, copy_answer, why_of}
use Rattle.why_reply.specs.WhyReply.{telling_text, packed_answer, packed_reply, why_reply_of}

-- all that the samples look through
unfoldable opened : Unit {0}
unfolding Rows.reckoned Rows.joined Rows.judged Rows.walked Rows.laid Packed.opened ruled_boundary corners_from starts_of ends_of param_of telling_of told_at walk_answer copy_answer why_of telling_text packed_answer packed_reply why_reply_of
opened = tt

abbrev pub nought : List ℕ
nought = word 0 0

abbrev pub four : List ℕ
four = word 0x40 0x10

-- the segment's number, the first 16 bits, the offset, ε = 1e-5, and (0,0)(4,0)
abbrev pub question : ℕ → ℕ → ℕ → List ℕ → List ℕ
question k a b offset = 0 ∷ 0 ∷ 0 ∷ k ∷ a ∷ b ∷ offset ++ (0x3e ∷ 0xe4 ∷ 0xf8 ∷ 0xb5 ∷ 0x88 ∷ 0xe3 ∷ 0x68 ∷ 0xf1 ∷ nought ++ nought ++ nought ++ four ++ nought ++ nought)

-- nothing, a number cut short, a number alone, a byte more than the job has, and a bad offset
pub refusals :
    why_reply_of [] ∷ why_reply_of (0 ∷ 0 ∷ 0 ∷ []) ∷ why_reply_of (0 ∷ 0 ∷ 0 ∷ 0 ∷ []) ∷ why_reply_of (question 0 0 2 four ++ 0 ∷ []) ∷ why_reply_of (question 0 0 2 (word 0x7f 0xf0)) ∷ []
    ≡ ascii "7 0\n" ∷ ascii "7 0\n" ∷ ascii "7 0\n" ∷ ascii "7 0\n" ∷ ascii "3 2\n" ∷ []
unfolding opened
refusals = refl

-- 02's 2026-13: (0,0)(10,0)(17,-24) at offset 25, with the ratio 1.25 before it: both lines of its pointed corner, and the span after them
abbrev tip : ℕ → List ℕ
tip k =
    0 ∷ 0 ∷ 0 ∷ k ∷ word 0x3f 0xf4 ++ (0 ∷ 3 ∷ word 0x40 0x39 ++ (0x3e ∷ 0xe4 ∷ 0xf8 ∷ 0xb5 ∷ 0x88 ∷ 0xe3 ∷ 0x68 ∷ 0xf1 ∷ nought ++ nought ++ nought ++ word 0x40 0x24 ++ nought ++ nought ++ word 0x40 0x31 ++ word 0xc0 0x38 ++ nought))

pub pointed :
    why_reply_of (tip 1) ∷ why_reply_of (tip 2) ∷ why_reply_of (tip 3) ∷ why_reply_of (tip 4) ∷ []
    ≡ ascii "0 0 1 0 13 0 0 0000000000000000 0000000000000000\n"
    ∷ ascii "0 0 1 0 13 0 0 0000000000000000 0000000000000000\n"
    ∷ ascii "0 0 0 1 1 0 0 0000000000000000 0000000000000000\n"
    ∷ ascii "8 0\n"
    ∷ []
unfolding opened
pointed = refl

-- no vertex and the ratio a NaN, No. 3 at place v + 2; and a byte more
pub pointed-refusals :
    why_reply_of (0 ∷ 0 ∷ 0 ∷ 0 ∷ word 0x7f 0xf8 ++ (0 ∷ 0 ∷ replicate 16 0x3f)) ∷ why_reply_of (tip 1 ++ 0 ∷ []) ∷ []
    ≡ ascii "3 2\n" ∷ ascii "7 0\n" ∷ []
unfolding opened
pointed-refusals = refl

-- a copy's two segments, closed, and no third one
pub copies :
    why_reply_of (question 1 0x80 2 nought) ∷ why_reply_of (question 2 0x80 2 nought) ∷ []
    ≡ ascii "0 0 0 1 12 0 0 0000000000000000 0000000000000000\n" ∷ ascii "8 0\n" ∷ []
unfolding opened
copies = refl
