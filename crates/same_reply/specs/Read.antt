-- Outputs read back from the text that `rawoffset` prints (01 §5). Digits are read as they come: what is read counts only where its own text is the one that was read (`is_text`). Definitions only.
use Rattle.std.specs.Prelude.{ℕ, zero, suc, ◌+◌, ◌*◌, ◌%◌, List, [], ◌∷◌, ◌++◌, Bool, true, false, eqb, ltb, leb, length, get_or, Float}
use Prim.Native.Char.{code}
use Rattle.std.specs.Float.{binary64}
use Rattle.std.specs.Float.Ieee.{of_bits}
use Rattle.floats.specs.Choice.{when◌give◌else◌, ◌and◌}
use Rattle.source.specs.Source.{segments_of}
use Rattle.packed.specs.Text.{space, decimal_of, ◌then◌, head_of, text_of}
use Rattle.compare.specs.Compare.{Output, output, points_of}

-- the byte at place i; past the end 0
abbrev pub byte_at : List ℕ → ℕ → ℕ
byte_at bytes i = get_or bytes i 0

-- the value of a digit, 0 to 9 or a to f; of another byte some value below 16
unfoldable pub digit_of : ℕ → ℕ
digit_of c = when ltb c 64 give c % 16 else (c % 16 + 9) % 16

-- the number in k hexadecimal digits from place i on
unfoldable pub hexadecimal : List ℕ → ℕ → ℕ → ℕ
hexadecimal bytes i zero = 0
hexadecimal bytes i (suc k) = hexadecimal bytes i k * 16 + digit_of (byte_at bytes (i + k))

unfoldable pub double_at : List ℕ → ℕ → Float
double_at bytes i = of_bits binary64 (hexadecimal bytes i 16)

-- the number n, carried on with the decimal digits from place i on, up to a space or d of them
unfoldable pub decimal_from : List ℕ → ℕ → ℕ → ℕ → ℕ
decimal_from bytes zero n i = n
decimal_from bytes (suc d) n i = when eqb (byte_at bytes i) space give n else decimal_from bytes d (n * 10 + digit_of (byte_at bytes i)) (suc i)

-- an output's first line is 0, the count, and the closed mark: what these are in a text
unfoldable pub count_of : List ℕ → ℕ
count_of text = decimal_from text 5 0 2

unfoldable pub closed_of : List ℕ → Bool
closed_of text = eqb (byte_at text (2 + length (decimal_of (count_of text) then space))) (code "c")

-- where the lines of its vertices start: after the first line
unfoldable pub lines_from : List ℕ → ℕ
lines_from text = length (head_of (count_of text) (closed_of text))

-- the numbers of k vertices, whose lines stand from place i on, 53 bytes each
unfoldable pub numbers_at : List ℕ → ℕ → ℕ → List Float
numbers_at bytes i zero = []
numbers_at bytes i (suc k) = numbers_at bytes i k ++ double_at bytes (i + 53 * k) ∷ double_at bytes (i + 53 * k + 17) ∷ double_at bytes (i + 53 * k + 34) ∷ []

-- the flags of k segments, by their marks at the end of these lines
unfoldable pub flag_of : ℕ → ℕ
flag_of mark = when eqb mark (code "!") give 1 else 0

unfoldable pub flags_at : List ℕ → ℕ → ℕ → List ℕ
flags_at bytes i zero = []
flags_at bytes i (suc k) = flags_at bytes i k ++ flag_of (byte_at bytes (i + 53 * k + 51)) ∷ []

-- the output that a text is read as
unfoldable pub read_of : List ℕ → Output
read_of text = output (numbers_at text (lines_from text) (count_of text)) (closed_of text) (flags_at text (lines_from text) (segments_of (closed_of text) (count_of text)))

-- the text of an output, as `rawoffset` prints it
unfoldable pub text_in : Output → List ℕ
text_in o = text_of (length (points_of o)) o.closed o.numbers o.flags

-- two lists are equal
unfoldable pub same : List ℕ → List ℕ → Bool
same [] [] = true
same [] (y ∷ ys) = false
same (x ∷ xs) [] = false
same (x ∷ xs) (y ∷ ys) = eqb x y and same xs ys

-- A text is an output's: it is just what would be printed for what is read, and has at most 12,288 vertices.
unfoldable pub is_text : List ℕ → Bool
is_text text = leb (count_of text) 12288 and same text (text_in (read_of text))
