-- Outputs that are read are never refused when they are compared (`never_refused`), and `rawsame` may stop reading a byte after the longest two texts with the length before them (`cut`). Assumes nothing.
use mathlib.Core.Path.{◌≡◌, refl, sym, ap, ◌∙◌}
use mathlib.Core.List.{List}
use mathlib.Core.Bool.{Bool, true, false}
use Prim.Native.Nat.{ℕ, ◌+◌, ◌%◌, ◌<◌, ◌≤◌}
use native.Mathlib.Omega.{arith}
use borrow.Author.Tests.{eq-eqb, le-leb, leb-true, le-ltb}
use lib.Dec.{leb}
use lib.ListN.{length, take, drop, length-take, length-drop, length-replicate}
use Rattle.floats.proofs.Choice.{both_pass}
use Rattle.words.specs.Words.{big_endian}
use Rattle.source.specs.Source.{segments_of}
use Rattle.packed.proofs.Bytes.{cut_by_lem}
use Rattle.refusals.specs.Table.{number}
use Rattle.compare.specs.Compare.{points_of, is_even, is_many, has_room, list_of, compare_of}
use Rattle.compare.proofs.Answers.{listed, both-good}
use Rattle.same_reply.specs.Read.{count_of, closed_of, lines_from, read_of, text_in, same, is_text}
use Rattle.same_reply.specs.Same.{blank, first_in, second_in, pair_text, same_reply_of}
use Rattle.same_reply.proofs.Reading.{length-numbers, length-flags}
use Rattle.same_reply.proofs.Equal.{same-equal}
use Rattle.same_reply.proofs.Exact.{text-length}
use Rattle.same_reply.proofs.Pairs.{count-read, refusal, first_fails, second_fails}
use Rattle.same_reply.proofs.Listed.{listed-most}

-- ---- what is read

module _ (text : List ℕ) where
  even-read : is_even (read_of text) ≡ true
  unfolding is_even read_of
  even-read =
      let closed = closed_of text in
      let n = length-numbers text (lines_from text) (count_of text) in
      let s = length-flags text (lines_from text) (segments_of closed (count_of text)) in
      let o = read_of text in
      (both_pass _ _).1 (eq-eqb (length o.numbers % 3) 0 (omega arith), eq-eqb _ _ (s ∙ ap (segments_of closed) (sym (count-read text))))

  module _ (told : is_text text ≡ true) where
    parts : (leb (count_of text) 12288 ≡ true) × (same text (text_in (read_of text)) ≡ true)
    unfolding is_text
    parts = (both_pass _ _).0 told

    few_points : length (points_of (read_of text)) ≤ 12288
    few_points = omega (arith, count-read text, leb-true (count_of text) 12288 parts.0)

    few-read : is_many (read_of text).numbers ≡ false
    unfolding is_many
    few-read = le-ltb 12288 (length (points_of (read_of text))) few_points

pub text-short : (text : List ℕ) → is_text text ≡ true → length text ≤ 651279
unfolding text_in
text-short text told =
    let o = read_of text in
    let few = few_points text told in
    omega (arith, ap length (same-equal text _ (parts text told).1), text-length (length (points_of o)) o.closed o.numbers o.flags few)

-- ---- the comparison

roomy : (a b : List ℕ) → is_text a ≡ true → has_room (length (list_of (read_of a) (read_of b))) (length blank) (length blank) ≡ true
unfolding has_room
roomy a b p =
    let z = length-replicate {A = ℕ} 12288 0 in
    let few = few_points a p in
    let most = listed-most (read_of a) (read_of b) in
    let n = length (list_of (read_of a) (read_of b)) in
    (both_pass _ _).1 (le-leb n (length blank) (omega arith), le-leb n (length blank) (omega arith))

pub never_refused : (a b : List ℕ) → is_text a ≡ true → is_text b ≡ true → number (compare_of (read_of a) (read_of b) blank blank).answer ≡ 0
never_refused a b p q =
    let one = read_of a in
    let two = read_of b in
    let found = listed one two blank blank (list_of one two) refl refl (roomy a b p) refl refl refl refl in
    let good = both-good one two blank blank (even-read a) (few-read a p) (even-read b) (few-read b q) found in
    sym (ap (λ o. number o.answer) good)

-- ---- where the program stops reading

-- of so many bytes one of the two texts is too long
crowded : (bytes : List ℕ) → 1302562 < length bytes → length (first_in bytes) ≤ 651279 → length (second_in bytes) ≤ 651279 → ⊥
unfolding first_in second_in
crowded bytes h p q =
    let n = big_endian bytes 0 4 in
    omega (arith, length-take n (drop 4 bytes), length-drop 4 bytes, length-drop (4 + n) bytes)

longer : (bytes : List ℕ) → 1302562 < length bytes → same_reply_of bytes ≡ refusal
unfolding same_reply_of
longer bytes h = by (is_text (first_in bytes)) refl (is_text (second_in bytes)) refl
  where
    by : (s : Bool) → is_text (first_in bytes) ≡ s → (t : Bool) → is_text (second_in bytes) ≡ t → pair_text (first_in bytes) (second_in bytes) ≡ refusal
    by true p true q = absurd (crowded bytes h (text-short (first_in bytes) p) (text-short (second_in bytes) q))
    by true p false q = sym (second_fails (first_in bytes) (second_in bytes) q)
    by false p t q = sym (first_fails (first_in bytes) (second_in bytes) p)

-- what is longer than two texts can be is malformed, cut or not; what is not has its own answer, since nothing is cut
pub cut : (bytes : List ℕ) → same_reply_of (take 1302563 bytes) ≡ same_reply_of bytes
cut bytes = cut_by_lem 1302562 same_reply_of refusal longer bytes
