-- Samples: 01 §5's text and others like it, and small packed jobs, well formed and malformed. Assumes nothing.
use mathlib.Core.Path.{◌≡◌, refl}
use mathlib.Core.List.{List, [], ◌∷◌, ◌++◌, map}
use mathlib.Core.Bool.{Bool, true, false}
use Prim.Native.Nat.{ℕ}
use lib.ListN.{replicate}
use lib.Ieee.{Float, binary64, of_bits, to_bits}
use Rattle.std.specs.Prelude.{Option, Some, None}
use Rattle.floats.specs.Choice.{when◌give◌else◌, ◌and◌}
use Rattle.moves.specs.declared.Origin.{Origin}
use Rattle.moves.specs.declared.Origin.TheVariants.{Span, Connector}
use Rattle.words.specs.Words.{big_endian, number_at}
use Rattle.segments.specs.declared.Settings.{Settings}
use Rattle.segments.specs.Modes.{round_by, pointed_by}
use Rattle.packed.specs.declared.unpacked.Form.TheVariants.{Round, Pointed, Either}
use Rattle.packed.specs.declared.unpacked.PackedJob.{PackedJob}
use Rattle.packed.specs.Packed.{header_of, closed_of, zero_of, count_of, offset_of, eps_of, numbers_of, source_of, well_formed, packed_of, decoded, decoded_by, job_in, corners_in, decoded_of}
use Rattle.packed.specs.Text.{ascii, places_of, decimal_of, hex_of, refusal_of, head_of, mark_of, row_of, line_at, lines_of, text_of, printed, printed_of, origin_line, origin_lines, origins_text, three_of, pair_of, told_of}

-- all that the samples look through
unfoldable texts : Unit {0}
unfolding when◌give◌else◌ ◌and◌ to_bits places_of decimal_of hex_of refusal_of head_of mark_of row_of line_at lines_of text_of printed origin_line origin_lines origins_text three_of pair_of told_of
texts = tt

unfoldable pub opened : Unit {0}
unfolding texts of_bits big_endian number_at header_of closed_of zero_of count_of offset_of eps_of numbers_of source_of well_formed packed_of decoded_by job_in corners_in
opened = tt

abbrev pub numbers : List ℕ → List Float
numbers ns = map (of_bits binary64) ns

abbrev pub one : ℕ
one = 0x3ff0_0000_0000_0000

abbrev pub two : ℕ
two = 0x4000_0000_0000_0000

abbrev pub four : ℕ
four = 0x4010_0000_0000_0000

abbrev pub nan : ℕ
nan = 0x7ff8_0000_0000_0000

-- ---- text

-- (0,2)(4,2)(2,0)(2,1), and a vertex more, which is not printed
abbrev pub corners : List Float
corners = numbers (0 ∷ two ∷ 0 ∷ four ∷ two ∷ 0 ∷ two ∷ 0 ∷ 0 ∷ two ∷ one ∷ 0 ∷ one ∷ one ∷ one ∷ [])

-- 01 §5: the sixth row, as it is printed
abbrev pub sixth_text : List ℕ
sixth_text =
    ascii "0 4 open\n"
    ++ ascii "0000000000000000 4000000000000000 0000000000000000 .\n"
    ++ ascii "4010000000000000 4000000000000000 0000000000000000 !\n"
    ++ ascii "4000000000000000 0000000000000000 0000000000000000 .\n"
    ++ ascii "4000000000000000 3ff0000000000000 0000000000000000 -\n"

pub sixth_row : printed_of 4 false corners (0 ∷ 1 ∷ 0 ∷ 0 ∷ []) ≡ sixth_text
unfolding opened
sixth_row = refl

-- each vertex of a closed answer has a mark, the last too; a NaN has one text, and −0 keeps its sign
pub closed-pair :
    printed_of 2 true (numbers (nan ∷ 0x8000_0000_0000_0000 ∷ 0x7ff0_0000_0000_0000 ∷ one ∷ two ∷ four ∷ [])) (0 ∷ 1 ∷ [])
    ≡ ascii "0 2 closed\n"
    ++ ascii "7ff8000000000000 8000000000000000 7ff0000000000000 .\n"
    ++ ascii "3ff0000000000000 4000000000000000 4010000000000000 !\n"
unfolding opened
closed-pair = refl

pub nothing : printed_of 0 false corners [] ≡ ascii "0 0 open\n"
unfolding opened
nothing = refl

pub heads : head_of 9 false ∷ head_of 10 true ∷ head_of 1536 true ∷ [] ≡ ascii "0 9 open\n" ∷ ascii "0 10 closed\n" ∷ ascii "0 1536 closed\n" ∷ []
unfolding opened
heads = refl

pub refusals : refusal_of 7 0 ∷ refusal_of 3 513 ∷ refusal_of 4294967295 4294967295 ∷ [] ≡ ascii "7 0\n" ∷ ascii "3 513\n" ∷ ascii "4294967295 4294967295\n" ∷ []
unfolding opened
refusals = refl

-- 02's 2026-09: the sixth row's three segments, and an origin more, which is not printed; none; and the largest number that an origin can have
abbrev span : ℕ → Origin
span i = Span (record { 0 = i })

abbrev connector : ℕ → Origin
connector i = Connector (record { 0 = i })

pub origins :
    origins_text 3 (span 0 ∷ connector 0 ∷ span 1 ∷ span 2 ∷ [])
    ∷ origins_text 0 (span 0 ∷ [])
    ∷ origins_text 2 (connector 10 ∷ span 2147483647 ∷ [])
    ∷ []
    ≡ ascii "0 3\nspan 0\nconnector 0\nspan 1\n"
    ∷ ascii "0 0\n"
    ∷ ascii "0 2\nconnector 10\nspan 2147483647\n"
    ∷ []
unfolding opened
origins = refl

-- the closing span of the square of side 4 at offset 3, turned back from 0.75 to 0.25; and the largest numbers
pub tellings :
    told_of 0 0 0 3 2 0 0 (of_bits binary64 0x3fe8_0000_0000_0000) (of_bits binary64 0x3fd0_0000_0000_0000)
    ∷ told_of 4294967295 4294967295 1 10 9 3 4 (of_bits binary64 nan) (of_bits binary64 0x8000_0000_0000_0000)
    ∷ []
    ≡ ascii "0 0 0 3 2 0 0 3fe8000000000000 3fd0000000000000\n"
    ∷ ascii "4294967295 4294967295 1 10 9 3 4 7ff8000000000000 8000000000000000\n"
    ∷ []
unfolding opened
tellings = refl

-- ---- packed jobs

-- 64 bits that begin so
abbrev pub word : ℕ → ℕ → List ℕ
word a b = a ∷ b ∷ replicate 6 0

-- closed, one vertex: offset 1, ε 2, and (4, 0, a NaN of another pattern)
abbrev pub vertex : List ℕ
vertex = 0x80 ∷ 0x01 ∷ word 0x3f 0xf0 ++ word 0x40 0x00 ++ word 0x40 0x10 ++ word 0x00 0x00 ++ word 0xff 0xff

abbrev before : List Float
before = numbers (one ∷ one ∷ one ∷ one ∷ [])

abbrev after : List Float
after = numbers (four ∷ 0 ∷ nan ∷ one ∷ [])

-- a closed job of one vertex
abbrev one_closed : Settings → Option PackedJob
one_closed σ = Some (record { closed = true; vertices = 1; settings = σ })

pub one-vertex : decoded_of Round vertex before ≡ decoded (one_closed (round_by (of_bits binary64 one) (of_bits binary64 two))) after
unfolding opened
one-vertex = refl

-- 02's 2026-13: with the ratio 4 before it; either form where either may come; neither where the other is asked for; and a ratio cut short
pub one-vertex-pointed :
    decoded_of Pointed (word 0x40 0x10 ++ vertex) before
    ∷ decoded_of Either (word 0x40 0x10 ++ vertex) before
    ∷ decoded_of Either vertex before
    ∷ decoded_of Pointed vertex before
    ∷ decoded_of Round (word 0x40 0x10 ++ vertex) before
    ∷ decoded_of Pointed (replicate 7 0) before
    ∷ []
    ≡ decoded (one_closed (pointed_by (of_bits binary64 one) (of_bits binary64 two) (of_bits binary64 four))) after
    ∷ decoded (one_closed (pointed_by (of_bits binary64 one) (of_bits binary64 two) (of_bits binary64 four))) after
    ∷ decoded (one_closed (round_by (of_bits binary64 one) (of_bits binary64 two))) after
    ∷ decoded None before
    ∷ decoded None before
    ∷ decoded None before
    ∷ []
unfolding opened
one-vertex-pointed = refl

-- a job of v vertices by its first two bytes and its size
abbrev pub sized : ℕ → ℕ → ℕ → Bool
sized a b n = well_formed (a ∷ b ∷ replicate n 0)

-- no vertex; one; 512; a byte too few, a byte too many; each zero bit set; 513; nothing at all
pub shapes :
    sized 0 0 16 ∷ sized 0x80 1 40 ∷ sized 2 0 12304 ∷ sized 0 1 39 ∷ sized 0 1 41 ∷ sized 0x10 0 16 ∷ sized 0x20 0 16 ∷ sized 0x40 0 16 ∷ sized 2 1 12328 ∷ well_formed [] ∷ []
    ≡ true ∷ true ∷ true ∷ false ∷ false ∷ false ∷ false ∷ false ∷ false ∷ false ∷ []
unfolding opened
shapes = refl
