-- The text that `rawoffset` prints (01 §5), as the list of its bytes. Definitions only.
use Rattle.std.specs.Prelude.{ℕ, zero, suc, ◌+◌, ◌*◌, ◌/◌, List, [], ◌∷◌, ◌++◌, Bool, not, eqb, ltb, leb, get_or, take, Float}
use Prim.Native.Char.{code}
use Prim.Native.String.{String, [] as ε, ◌∷◌ as ◌◂◌}
use Rattle.std.specs.Float.{binary64, nan}
use Rattle.std.specs.Float.Ieee.{to_bits}
use Rattle.floats.specs.Choice.{when◌give◌else◌, ◌and◌}
use Rattle.io.specs.Digits.{last_digits}
use Rattle.moves.specs.declared.Origin.{Origin}
use Rattle.moves.specs.declared.Origin.TheVariants.{Span, Connector}

-- a text's bytes
abbrev pub ascii : String → List ℕ
ascii ε = []
ascii (c ◂ t) = code c ∷ ascii t

abbrev pub space : ℕ
space = code " "

abbrev pub line_end : ℕ
line_end = code "\n"

-- a word and the byte after it
abbrev pub ◌then◌ : List ℕ → ℕ → List ℕ
w then end = w ++ end ∷ []

-- how many digits n takes in base 10, up to d + 1
unfoldable pub places_of : ℕ → ℕ → ℕ
places_of zero n = 1
places_of (suc d) n = when ltb n 10 give 1 else suc (places_of d (n / 10))

-- n in decimal, with no zero in front; 64 bits take at most 20 digits
unfoldable pub decimal_of : ℕ → List ℕ
decimal_of n = last_digits 10 (places_of 19 n) n

-- the bits of x in 16 hexadecimal digits
unfoldable pub hex_of : Float → List ℕ
hex_of x = last_digits 16 16 (to_bits binary64 x)

-- 01 §5: a refusal is its number and its place
unfoldable pub refusal_of : ℕ → ℕ → List ℕ
refusal_of number place = (decimal_of number then space) ++ (decimal_of place then line_end)

abbrev pub word_of : Bool → List ℕ
word_of closed = when closed give ascii "closed" else ascii "open"

-- 01 §5: the first line is 0, the count of vertices, and the closed mark
unfoldable pub head_of : ℕ → Bool → List ℕ
head_of count closed = (decimal_of 0 then space) ++ (decimal_of count then space) ++ (word_of closed then line_end)

-- `-` where no segment leaves the vertex; else `!` where the flag of that segment is 1, and `.` where it is 0
unfoldable pub mark_of : Bool → ℕ → ℕ
mark_of last flag = when last give code "-" else when eqb flag 1 give code "!" else code "."

-- x, y and bulge by their bits, a mark, and the byte after it
unfoldable pub row_of : Float → Float → Float → ℕ → ℕ → List ℕ
row_of x y bulge mark end = (hex_of x then space) ++ (hex_of y then space) ++ (hex_of bulge then space) ++ (mark ∷ end ∷ [])

-- 01 §5: a vertex's line is x, y and bulge by their bits, and the mark of the segment that leaves it
abbrev pub line_of : Float → Float → Float → ℕ → List ℕ
line_of x y bulge mark = row_of x y bulge mark line_end

-- the line of vertex i: no segment leaves the last of an open answer
unfoldable pub line_at : ℕ → Bool → List Float → List ℕ → ℕ → List ℕ
line_at count closed vertices flags i =
    line_of (get_or vertices (3 * i) nan) (get_or vertices (3 * i + 1) nan) (get_or vertices (3 * i + 2) nan)
    (mark_of (not closed and eqb (i + 1) count) (get_or flags i 0))

-- the lines of the first k vertices
unfoldable pub lines_of : ℕ → Bool → List Float → List ℕ → ℕ → List ℕ
lines_of count closed vertices flags zero = []
lines_of count closed vertices flags (suc k) = lines_of count closed vertices flags k ++ line_at count closed vertices flags k

unfoldable pub text_of : ℕ → Bool → List Float → List ℕ → List ℕ
text_of count closed vertices flags = head_of count closed ++ lines_of count closed vertices flags count

-- 512 closed vertices are offset to 1536 at most, and to 1024 in the round mode: of more than 1536 nothing is printed
unfoldable pub printed : ℕ → List ℕ → List ℕ
printed count text = when leb count 1536 give text else []

abbrev pub printed_of : ℕ → Bool → List Float → List ℕ → List ℕ
printed_of count closed vertices flags = printed count (text_of count closed vertices flags)

-- 02's 2026-09: an output segment's line is its origin, span or connector, and the number of the source segment
unfoldable pub origin_line : Origin → List ℕ
origin_line (Span i) = (ascii "span" then space) ++ (decimal_of i.0 then line_end)
origin_line (Connector i) = (ascii "connector" then space) ++ (decimal_of i.0 then line_end)

unfoldable pub origin_lines : List Origin → List ℕ
origin_lines [] = []
origin_lines (o ∷ os) = origin_line o ++ origin_lines os

-- the first line is 0 and the count of output segments; then comes a line for each of them
unfoldable pub origins_text : ℕ → List Origin → List ℕ
origins_text count origins = (decimal_of 0 then space) ++ (decimal_of count then line_end) ++ origin_lines (take count origins)

-- three numbers, a space after each
unfoldable pub three_of : ℕ → ℕ → ℕ → List ℕ
three_of a b c = (decimal_of a then space) ++ (decimal_of b then space) ++ (decimal_of c then space)

-- two numbers by their bits, which end a line
unfoldable pub pair_of : Float → Float → List ℕ
pair_of x y = (hex_of x then space) ++ (hex_of y then line_end)

-- 02's 2026-01: what is told of an output segment is number and place, whether it is a connector, its source segment, its reason, the rules at start and end, and the parameters there
unfoldable pub told_of : ℕ → ℕ → ℕ → ℕ → ℕ → ℕ → ℕ → Float → Float → List ℕ
told_of number place connector source reason startRule endRule s e =
    three_of number place connector ++ three_of source reason startRule ++ (decimal_of endRule then space) ++ pair_of s e

infixl 8 ◌then◌
