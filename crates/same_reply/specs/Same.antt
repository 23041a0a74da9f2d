-- What `rawsame` writes for the bytes that it reads (02's 2026-03): the length of a text, that text, and another; the outputs whose texts they are, are compared. Definitions only.
use Rattle.std.specs.Prelude.{ℕ, ◌+◌, List, [], ◌∷◌, ◌++◌, replicate, take, drop}
use Rattle.floats.specs.Choice.{when◌give◌else◌, ◌and◌}
use Rattle.words.specs.Words.{big_endian}
use Rattle.refusals.specs.declared.Refusal.TheVariants.{Malformed}
use Rattle.refusals.specs.Table.{number_of, place_of}
use Rattle.packed.specs.Text.{space, line_end, decimal_of, ◌then◌, three_of, refusal_of}
use Rattle.compare.specs.declared.Differences.{Differences}
use Rattle.compare.specs.Compare.{Outcome, differences_of, marks_number, compare_of}
use Rattle.same_reply.specs.Read.{read_of, is_text}

-- a line for each vertex that is listed: its number, and what differs, as one number
unfoldable pub entry_lines : List ℕ → List ℕ → List ℕ
entry_lines [] fs = []
entry_lines (n ∷ ns) [] = []
entry_lines (n ∷ ns) (f ∷ fs) = (decimal_of n then space) ++ (decimal_of f then line_end) ++ entry_lines ns fs

-- the first line is 0, how many vertices are listed, how many only one output has, and 1 where the closed marks differ and else 0
unfoldable pub differences_text : Differences → List ℕ → List ℕ → List ℕ
differences_text d numbers fields = three_of 0 d.listed d.unmatched ++ (decimal_of (marks_number d) then line_end) ++ entry_lines (take d.listed numbers) (take d.listed fields)

-- what is told of two outputs that are read back: they are never refused (`never_refused` in proofs)
unfoldable pub outcome_text : Outcome → List ℕ
outcome_text o = differences_text (differences_of o.answer) o.numbers o.fields

-- room for as many entries as an output has vertices
abbrev pub blank : List ℕ
blank = replicate 12288 0

-- two texts are told apart by the length of the first, 4 bytes, most significant first, which stands before it
unfoldable pub first_in : List ℕ → List ℕ
first_in bytes = take (big_endian bytes 0 4) (drop 4 bytes)

unfoldable pub second_in : List ℕ → List ℕ
second_in bytes = drop (4 + big_endian bytes 0 4) bytes

-- what is told of two texts: where one is no output's they are refused as malformed
unfoldable pub pair_text : List ℕ → List ℕ → List ℕ
pair_text a b =
    when is_text a and is_text b give outcome_text (compare_of (read_of a) (read_of b) blank blank) else
    refusal_of (number_of Malformed) (place_of Malformed)

unfoldable pub same_reply_of : List ℕ → List ℕ
same_reply_of bytes = pair_text (first_in bytes) (second_in bytes)
