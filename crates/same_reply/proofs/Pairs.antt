-- An output that is read into lent lists, its text, and how the tests of the code decide the reply. Assumes nothing.
use mathlib.Core.Path.{◌≡◌, refl, sym, ap, ◌∙◌}
use mathlib.Core.Logic.{inl, inr}
use mathlib.Core.List.{List, [], ◌++◌}
use mathlib.Core.Bool.{Bool, true, false}
use Prim.Native.Nat.{ℕ, zero, suc, ◌+◌, ◌-◌, ◌*◌, ◌<◌, ◌≤◌}
use native.Mathlib.Numerals.{unary_clauses}
use native.Mathlib.Omega.{arith}
use borrow.Author.Tests.{le-leb, lt-leb}
use lib.Ieee.{Float}
use lib.ListN.{length, take, drop, replicate, length-append, length-drop, length-replicate, take-append-drop, drop_of_length-le}
use lib.Seq.{length-take-le, take_at, take_all}
use Rattle.floats.specs.Choice.{when◌give◌else◌}
use Rattle.floats.proofs.Choice.{yes, no, and_yes, and_no, either_fails}
use Rattle.refusals.specs.declared.Refusal.TheVariants.{Malformed}
use Rattle.refusals.specs.Table.{number_of, place_of}
use Rattle.words.specs.Words.{big_endian}
use Rattle.source.specs.Source.{segments_of}
use Rattle.source.proofs.Source.{length-vertices}
use Rattle.source.proofs.Segments.{segments-most}
use Rattle.packed.specs.Text.{places_of, decimal_of, head_of, text_of, refusal_of}
use Rattle.compare.specs.Compare.{Output, output, points_of, compare_of}
use Rattle.same_reply.specs.Read.{count_of, closed_of, numbers_at, flags_at, lines_from, read_of, text_in, same, is_text}
use Rattle.same_reply.specs.Same.{outcome_text, blank, first_in, second_in, pair_text, same_reply_of}
use Rattle.same_reply.specs.InnerSteps.{Kept, against_text}
use Rattle.same_reply.proofs.Reading.{length-numbers, length-flags}
use Rattle.same_reply.proofs.Exact.{text_exact}

-- ---- what is read

drop-replicate : {A : Type 0} (k n : ℕ) (a : A) → drop k (replicate n a) ≡ replicate (n - k) a
drop-replicate zero n a = simp unary_clauses
drop-replicate (suc k) zero a = let none : 0 - suc k ≡ 0 = omega arith in rw none
drop-replicate (suc k) (suc n) a = simp unary_clauses (drop-replicate k n a)

module _ (text : List ℕ) where
  abbrev count : ℕ
  count = count_of text

  abbrev closed : Bool
  closed = closed_of text

  abbrev numbers : List Float
  numbers = numbers_at text (lines_from text) (count_of text)

  abbrev flags : List ℕ
  flags = flags_at text (lines_from text) (segments_of closed count)

  pub count-read : length (points_of (read_of text)) ≡ count_of text
  unfolding read_of
  count-read =
      let n = length-numbers text (lines_from text) count in
      let v = length-vertices numbers in
      omega arith

  kept_exact : (old : List Float) → count_of text ≤ 12288 → length old ≡ 36864 →
      Kept (read_of text) count closed (numbers ++ drop (3 * count) old) (flags ++ drop (segments_of closed count) (replicate 12288 0))
  unfolding read_of
  kept_exact old h e =
      let n = length-numbers text (lines_from text) count in
      let s = length-flags text (lines_from text) (segments_of closed count) in
      let most = segments-most closed count in
      let zeros : List ℕ = replicate 12288 0 in
      let z : length zeros ≡ 12288 = length-replicate {A = ℕ} 12288 0 in
      record {
        few = h;
        room = omega (arith, length-append numbers (drop (3 * count) old), length-drop (3 * count) old);
        places = omega (arith, length-append flags (drop (segments_of closed count) zeros), length-drop (segments_of closed count) zeros);
        counted = sym count-read;
        mark = refl;
        segments = sym s;
        front = take_at numbers (drop (3 * count) old) (3 * count) n;
        flagged = rw (s, drop-replicate {A = ℕ} (segments_of closed count) 12288 0);
      }

  pub kept_read : {n segs lines : ℕ} {c : Bool} {ms : List Float} {fs gs : List ℕ} (old : List Float) →
      n ≡ count_of text → c ≡ closed_of text → lines ≡ lines_from text → segs ≡ segments_of c n → length old ≡ 36864 → fs ≡ replicate 12288 0 →
      ms ≡ numbers_at text lines n ++ drop (3 * n) old → gs ≡ flags_at text lines segs ++ drop segs fs → n ≤ 12288 → Kept (read_of text) n c ms gs
  kept_read {n} old p q l s e f g h few =
      let less : count_of text ≤ 12288 = rw p at few in
      rw (g, h, s, f, l, q, p) (kept_exact old less e)

-- ---- its text and itself

module _ {o : Output} {count : ℕ} {closed : Bool} {ns : List Float} {fs : List ℕ} (k : Kept o count closed ns fs) where
  pub kept-text : text_of count closed ns fs ≡ text_in o
  unfolding text_in
  kept-text =
      let whole : length o.numbers ≡ 3 * count = ap length (sym k.front) ∙ length-take-le (3 * count) ns (omega (arith, k.room, k.few)) in
      let split : ns ≡ o.numbers ++ drop (3 * count) ns = sym (take-append-drop (3 * count) ns) ∙ ap (λ (t : List Float). t ++ drop (3 * count) ns) k.front in
      ap (λ (t : List Float). text_of count closed t fs) split
      ∙ ap (λ (t : List ℕ). text_of count closed (o.numbers ++ drop (3 * count) ns) t) k.flagged
      ∙ text_exact count closed o.numbers (drop (3 * count) ns) o.flags (12288 - length o.flags) whole
      ∙ rw (k.counted, k.mark)

  pub kept-output : {segs : ℕ} → segs ≡ segments_of closed count → output (take (3 * count) ns) closed (take segs fs) ≡ o
  kept-output {segs} e =
      let f : take segs fs ≡ o.flags = ap (take segs) k.flagged ∙ take_at o.flags (replicate (12288 - length o.flags) 0) segs (sym (e ∙ k.segments)) in
      rw (k.front, k.mark, f)

  -- the parts are cut in range, and are as long as the cut says
  pub numbers-within : 3 * count ≤ length ns
  numbers-within = omega (arith, k.room, k.few)

  pub numbers_fit : 3 * count ≡ length (take (3 * count) ns)
  numbers_fit = sym (length-take-le (3 * count) ns numbers-within)

  module _ {segs : ℕ} (e : segs ≡ segments_of closed count) where
    pub flags-within : segs ≤ length fs
    flags-within = omega (arith, k.places, k.few, segments-most closed count)

    pub flags-fit : segs ≡ length (take segs fs)
    flags-fit = sym (length-take-le segs fs flags-within)

-- ---- whether a text is an output's

module _ (text : List ℕ) where
  pub text-many : {n : ℕ} → n ≡ count_of text → 12288 < n → false ≡ is_text text
  unfolding is_text
  text-many e h = and_no _ _ (lt-leb (count_of text) 12288 (omega arith)) refl

  pub text-told : {n : ℕ} {c : Bool} {ns : List Float} {fs : List ℕ} → Kept (read_of text) n c ns fs → same text (text_of n c ns fs) ≡ is_text text
  unfolding is_text
  text-told k = and_yes _ _ (le-leb (count_of text) 12288 (omega (arith, k.few, k.counted, count-read text))) (ap (same text) (kept-text k))

-- a text starts with a digit
pub no_text : is_text [] ≡ false
unfolding is_text text_in text_of head_of decimal_of places_of when◌give◌else◌ same
no_text = (either_fails _ _).1 (inr refl)

-- ---- the reply

abbrev pub refusal : List ℕ
refusal = refusal_of (number_of Malformed) (place_of Malformed)

pub first_fails : (a b : List ℕ) → is_text a ≡ false → refusal ≡ pair_text a b
unfolding pair_text
first_fails a b h = no _ _ _ ((either_fails _ _).1 (inl h)) refl

pub second_fails : (a b : List ℕ) → is_text b ≡ false → refusal ≡ pair_text a b
unfolding pair_text
second_fails a b h = no _ _ _ ((either_fails _ _).1 (inr h)) refl

module _ {n : ℕ} {c : Bool} {ns : List Float} {fs : List ℕ} (b : List ℕ) where
  pub first_read : (a : List ℕ) → is_text a ≡ true → Kept (read_of a) n c ns fs → {segs : ℕ} → segs ≡ segments_of c n →
      against_text (output (take (3 * n) ns) c (take segs fs)) b ≡ pair_text a b
  unfolding pair_text against_text
  first_read a h k s = rw (kept-output k s) (ap (λ t. when t give outcome_text (compare_of (read_of a) (read_of b) blank blank) else refusal) (and_yes (is_text a) (is_text b) h refl))

  pub second-read : (o : Output) → is_text b ≡ true → Kept (read_of b) n c ns fs → {segs : ℕ} → segs ≡ segments_of c n →
      outcome_text (compare_of o (output (take (3 * n) ns) c (take segs fs)) blank blank) ≡ against_text o b
  unfolding against_text
  second-read o h k s = yes _ _ _ h (rw (kept-output k s))

pub against_fails : (o : Output) (b : List ℕ) → is_text b ≡ false → refusal ≡ against_text o b
unfolding against_text
against_fails o b h = no _ _ _ h refl

-- where the first text does not end before the bytes do, there is no second
pub cut_off : (bytes : List ℕ) → length bytes ≤ 4 + big_endian bytes 0 4 → refusal ≡ same_reply_of bytes
unfolding same_reply_of second_in
cut_off bytes h = second_fails (first_in bytes) (drop (4 + big_endian bytes 0 4) bytes) (rw drop_of_length-le no_text)

-- the two texts as the code cuts them
pub parted : (bytes : List ℕ) {n : ℕ} → n ≡ big_endian bytes 0 4 → 4 + n ≤ length bytes → pair_text (take (4 + n - 4) (drop 4 bytes)) (take (length bytes - (4 + n)) (drop (4 + n) bytes)) ≡ same_reply_of bytes
unfolding same_reply_of first_in second_in
parted bytes {n} e h =
    let first : 4 + n - 4 ≡ n = omega arith in
    let rest = take_all (length bytes - (4 + n)) (drop (4 + n) bytes) (omega (arith, length-drop (4 + n) bytes)) in
    rw (first, rest, e)
