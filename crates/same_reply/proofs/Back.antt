-- What `rawoffset` prints of an output reads back as that output, and two texts are split where they were joined. Assumes nothing.
use mathlib.Core.Path.{◌≡◌, refl, sym, ap, ◌∙◌, subst}
use mathlib.Core.List.{List, [], ◌∷◌, ◌++◌, append_assoc}
use mathlib.Core.Bool.{Bool, true, false, not}
use Prim.Native.Nat.{ℕ, zero, suc, ◌+◌, ◌-◌, ◌*◌, ◌%◌, ◌<◌, ◌≤◌}
use native.Mathlib.Nat.{zero-add}
use native.Mathlib.Omega.{arith}
use borrow.Author.Tests.{ltb-true, ltb-false, eqb-true, le-leb, ne_eqb}
use lib.Dec.{T, eqb, ltb, leb}
use lib.Ieee.{Float, binary64, fits, nan}
use lib.ListN.{length, take, drop, get_or, length-append, get_or-append}
use lib.Seq.{take-suc, take_all, take_at, drop_at}
use Rattle.floats.specs.Choice.{when◌give◌else◌, ◌and◌}
use Rattle.floats.proofs.Choice.{yes, both_pass}
use Rattle.words.specs.Words.{big_endian}
use Rattle.source.specs.Source.{segments_of}
use Rattle.source.proofs.Source.{length-vertices}
use Rattle.source.proofs.Segments.{segments-most}
use Rattle.packed.specs.Text.{space, line_end, ◌then◌, decimal_of, hex_of, word_of, head_of, mark_of, row_of, line_at, lines_of, text_of}
use Rattle.packed.proofs.Lines.{length-number, length-lines}
use Rattle.compare.specs.Compare.{Output, points_of, is_even, compare_of}
use Rattle.compare.proofs.Answers.{few}
use Rattle.compare.proofs.Alike.{flags-many}
use Rattle.same_reply.specs.Read.{byte_at, count_of, closed_of, numbers_at, flag_of, flags_at, lines_from, read_of, text_in, is_text}
use Rattle.same_reply.specs.Same.{outcome_text, blank, first_in, second_in, pair_text}
use Rattle.same_reply.specs.Back.{Printable}
use Rattle.same_reply.proofs.Reading.{length_nought}
use Rattle.same_reply.proofs.Equal.{equal-same}
use Rattle.same_reply.proofs.Held.{Holds, left, right, first, itself}
use Rattle.same_reply.proofs.Spelling.{double_back, count_back, closed_back, flag_back}

-- ---- the parts of a line

module _ {bytes : List ℕ} {i : ℕ} (x y b : Float) (mark end : ℕ) (w : Holds bytes i (row_of x y b mark end)) where
  row-x : Holds bytes i (hex_of x)
  unfolding row_of
  row-x =
      let u = hex_of x then space in
      let v = hex_of y then space in
      left (hex_of x) (space ∷ []) (left u v (left (u ++ v) (hex_of b then space) (left (u ++ v ++ (hex_of b then space)) (mark ∷ end ∷ []) w)))

  row-y : Holds bytes (i + 17) (hex_of y)
  unfolding row_of
  row-y =
      let u = hex_of x then space in
      let v = hex_of y then space in
      left (hex_of y) (space ∷ []) (right u v 17 (length-number x space) (left (u ++ v) (hex_of b then space) (left (u ++ v ++ (hex_of b then space)) (mark ∷ end ∷ []) w)))

  row-bulge : Holds bytes (i + 34) (hex_of b)
  unfolding row_of
  row-bulge =
      let u = hex_of x then space in
      let v = hex_of y then space in
      let z = hex_of b then space in
      let long : length (u ++ v) ≡ 34 = simp (length-append u v, length-number) in
      left (hex_of b) (space ∷ []) (right (u ++ v) z 34 long (left (u ++ v ++ z) (mark ∷ end ∷ []) w))

  row-mark : byte_at bytes (i + 51) ≡ mark
  unfolding row_of
  row-mark =
      let u = hex_of x then space in
      let v = hex_of y then space in
      let z = hex_of b then space in
      let long : length (u ++ v ++ z) ≡ 51 = simp (length-append (u ++ v) z, length-append u v, length-number) in
      first (right (u ++ v ++ z) (mark ∷ end ∷ []) 51 long w)

-- three more
take-three : (l : List Float) (j : ℕ) → j + 2 < length l → take (suc (suc (suc j))) l ≡ take j l ++ (get_or l j nan ∷ get_or l (suc j) nan ∷ get_or l (suc (suc j)) nan ∷ [])
take-three [] j h = absurd (omega arith)
take-three (x ∷ []) zero h = absurd (omega arith)
take-three (x ∷ y ∷ []) zero h = absurd (omega arith)
take-three (x ∷ y ∷ z ∷ l) zero h = refl
take-three (x ∷ l) (suc j) h = ap (λ t. x ∷ t) (take-three l j (omega arith))

-- ---- the lines

module _ (bytes : List ℕ) (i count : ℕ) (closed : Bool) (ns : List Float) (fs : List ℕ) where
  line_in : (k : ℕ) → Holds bytes i (lines_of count closed ns fs k) → (j : ℕ) → j < k → Holds bytes (i + 53 * j) (line_at count closed ns fs j)
  unfolding lines_of
  line_in zero w j h = absurd (omega arith)
  line_in (suc k) w j h =
      let before = lines_of count closed ns fs k in
      let last = line_at count closed ns fs k in
      by (ltb j k) refl (right before last (53 * k) (length-lines count closed ns fs k) w) (line_in k (left before last w) j)
    where
      by : (b : Bool) → ltb j k ≡ b → Holds bytes (i + 53 * k) (line_at count closed ns fs k) → (j < k → Holds bytes (i + 53 * j) (line_at count closed ns fs j)) → Holds bytes (i + 53 * j) (line_at count closed ns fs j)
      by true e here rest = rest (ltb-true j k e)
      by false e here rest = let l = ltb-false j k e in let n : j ≡ k = omega arith in rw n here

  module _ (lines : (j : ℕ) → j < count → Holds bytes (i + 53 * j) (line_at count closed ns fs j)) where
    numbers_back : length ns ≡ 3 * count → ((j : ℕ) → T (fits binary64 (get_or ns j nan))) → (k : ℕ) → k ≤ count → numbers_at bytes i k ≡ take (3 * k) ns
    unfolding numbers_at line_at
    numbers_back whole doubles zero h = refl
    numbers_back whole doubles (suc k) h =
        let w = lines k (omega arith) in
        let x = get_or ns (3 * k) nan in
        let y = get_or ns (3 * k + 1) nan in
        let b = get_or ns (3 * k + 2) nan in
        let mark = mark_of (not closed and eqb (k + 1) count) (get_or fs k 0) in
        let x-back = double_back bytes (i + 53 * k) x (doubles (3 * k)) (row-x x y b mark line_end w) in
        let y-back = double_back bytes (i + 53 * k + 17) y (doubles (3 * k + 1)) (row-y x y b mark line_end w) in
        let b-back = double_back bytes (i + 53 * k + 34) b (doubles (3 * k + 2)) (row-bulge x y b mark line_end w) in
        let before = numbers_back whole doubles k (omega arith) in
        let three : 3 * suc k ≡ suc (suc (suc (3 * k))) = omega arith in
        let one : 3 * k + 1 ≡ suc (3 * k) = omega arith in
        let two : 3 * k + 2 ≡ suc (suc (3 * k)) = omega arith in
        rw (before, x-back, y-back, b-back, three, take-three ns (3 * k) (omega arith), one, two)

    flags_back : ((j : ℕ) → get_or fs j 0 ≤ 1) → (k : ℕ) → k ≤ length fs → k ≤ count → ((j : ℕ) → j < k → (not closed and eqb (j + 1) count) ≡ false) → flags_at bytes i k ≡ take k fs
    unfolding flags_at line_at
    flags_back small zero l h inner = refl
    flags_back small (suc k) l h inner =
        let w = lines k (omega arith) in
        let mark = mark_of (not closed and eqb (k + 1) count) (get_or fs k 0) in
        let here : byte_at bytes (i + 53 * k + 51) ≡ mark = row-mark (get_or ns (3 * k) nan) (get_or ns (3 * k + 1) nan) (get_or ns (3 * k + 2) nan) mark line_end w in
        let flag : flag_of (byte_at bytes (i + 53 * k + 51)) ≡ get_or fs k 0 = rw (here, inner k (omega arith)) (flag_back (get_or fs k 0) (small k)) in
        let before = flags_back small k (omega arith) (omega arith) (λ j m. inner j (omega arith)) in
        rw (before, flag, take-suc fs k 0 (omega arith))

-- a segment leaves the vertex
leaves : (closed : Bool) (count j : ℕ) → j < segments_of closed count → (not closed and eqb (j + 1) count) ≡ false
unfolding segments_of when◌give◌else◌ ◌and◌
leaves closed count j h = by (ltb count 2) refl closed h
  where
    by : (b : Bool) → ltb count 2 ≡ b → (closed : Bool) → j < (when b give 0 else when closed give count else count - 1) → (not closed and eqb (j + 1) count) ≡ false
    by true e closed h = absurd (omega arith)
    by false e true h = refl
    by false e false h = ne_eqb (j + 1) count (λ n. omega arith)

-- ---- an output

whole : (o : Output) → is_even o ≡ true → length o.numbers ≡ 3 * length (points_of o)
unfolding is_even
whole o even =
    let left_over = eqb-true (length o.numbers % 3) 0 ((both_pass _ _).0 even).0 in
    omega (arith, length-vertices o.numbers)

module _ (o : Output) (p : Printable o) where
  head_held : Holds (text_in o) 0 (head_of (length (points_of o)) o.closed)
  unfolding text_in text_of
  head_held = let count = length (points_of o) in left (head_of count o.closed) (lines_of count o.closed o.numbers o.flags count) (itself (text_in o))

  count_held : count_of (text_in o) ≡ length (points_of o)
  unfolding head_of
  count_held =
      let count = length (points_of o) in
      let nought = decimal_of 0 then space in
      let counted = decimal_of count then space in
      count_back (text_in o) count (few o.numbers p.few) (right nought counted 2 length_nought (left (nought ++ counted) (word_of o.closed then line_end) head_held))

  closed-held : closed_of (text_in o) ≡ o.closed
  unfolding head_of
  closed-held =
      let count = length (points_of o) in
      let nought = decimal_of 0 then space in
      let counted = decimal_of count then space in
      let long : length (nought ++ counted) ≡ 2 + length counted = omega (arith, length-append nought counted, length_nought) in
      let word = right (nought ++ counted) (word_of o.closed then line_end) (2 + length counted) long head_held in
      let place : 0 + (2 + length counted) ≡ 2 + length (decimal_of (count_of (text_in o)) then space) = rw count_held (zero-add _) in
      closed_back (text_in o) o.closed (subst (λ k. Holds (text_in o) k (word_of o.closed then line_end)) place word)

  lines-held : Holds (text_in o) (lines_from (text_in o)) (lines_of (length (points_of o)) o.closed o.numbers o.flags (length (points_of o)))
  unfolding text_in text_of lines_from
  lines-held =
      let count = length (points_of o) in
      let head = head_of count o.closed in
      let place : 0 + length head ≡ lines_from (text_in o) = rw (count_held, closed-held) (zero-add _) in
      subst (λ k. Holds (text_in o) k (lines_of count o.closed o.numbers o.flags count)) place
      (right head (lines_of count o.closed o.numbers o.flags count) (length head) refl (itself (text_in o)))

  numbers-held : numbers_at (text_in o) (lines_from (text_in o)) (length (points_of o)) ≡ o.numbers
  numbers-held =
      let text = text_in o in
      let count = length (points_of o) in
      let from = lines_from text in
      let three = whole o p.even in
      numbers_back text from count o.closed o.numbers o.flags (line_in text from count o.closed o.numbers o.flags count lines-held) three p.doubles count (omega arith) ∙
      take_all (3 * count) o.numbers (omega arith)

  flags-held : flags_at (text_in o) (lines_from (text_in o)) (segments_of o.closed (length (points_of o))) ≡ o.flags
  flags-held =
      let text = text_in o in
      let count = length (points_of o) in
      let from = lines_from text in
      let segments = segments_of o.closed count in
      let long = flags-many o p.even in
      flags_back text from count o.closed o.numbers o.flags (line_in text from count o.closed o.numbers o.flags count lines-held) p.flags segments (omega arith) (segments-most o.closed count) (leaves o.closed count) ∙
      take_all segments o.flags (omega arith)

pub read_back : (o : Output) → Printable o → read_of (text_in o) ≡ o
unfolding read_of
read_back o p = rw (count_held o p, closed-held o p, numbers-held o p, flags-held o p)

pub text_back : (o : Output) → Printable o → is_text (text_in o) ≡ true
unfolding is_text
text_back o p =
    let few-back : leb (count_of (text_in o)) 12288 ≡ true = rw (count_held o p) (le-leb _ _ (few o.numbers p.few)) in
    (both_pass _ _).1 (few-back, equal-same (text_in o) _ (ap text_in (sym (read_back o p))))

-- ---- two outputs

pub reply_back : (a b : Output) → Printable a → Printable b → pair_text (text_in a) (text_in b) ≡ outcome_text (compare_of a b blank blank)
unfolding pair_text
reply_back a b p q = sym (yes _ _ _ ((both_pass _ _).1 (text_back a p, text_back b q)) (rw (read_back a p, read_back b q)))

-- ---- two texts are split where they were joined

number-front : (xs ys : List ℕ) (k : ℕ) → k ≤ length xs → big_endian (xs ++ ys) 0 k ≡ big_endian xs 0 k
unfolding big_endian
number-front xs ys zero h = refl
number-front xs ys (suc k) h = rw (number-front xs ys k (omega arith), get_or-append xs ys 0 (0 + k) (omega arith))

pub split : (n : ℕ) (a b : List ℕ) → n ≡ length a → (head : List ℕ) → length head ≡ 4 → big_endian head 0 4 ≡ n → (first_in (head ++ a ++ b) ≡ a) × (second_in (head ++ a ++ b) ≡ b)
unfolding first_in second_in
split n a b e head four told =
    let number : big_endian (head ++ a ++ b) 0 4 ≡ n = rw (append_assoc, number-front head (a ++ b) 4 (omega arith)) told in
    let long : length (head ++ a) ≡ 4 + n = omega (arith, length-append head a) in
    let rest : drop 4 (head ++ a ++ b) ≡ a ++ b = rw append_assoc (drop_at head (a ++ b) 4 four) in
    (rw (number, rest) (take_at a b n (sym e)), rw number (drop_at (head ++ a) b (4 + n) long))
