-- How long lines are, and the lines of the next vertex and the next segment. Assumes nothing.
use mathlib.Core.Path.{◌≡◌, refl, sym, ap, ◌∙◌}
use mathlib.Core.List.{List, [], ◌∷◌, ◌++◌, append_assoc, append-nil}
use mathlib.Core.Bool.{Bool, true, false}
use Prim.Native.Nat.{ℕ, zero, suc, ◌+◌, ◌*◌, ◌<◌, ◌≤◌}
use native.Mathlib.Omega.{arith}
use borrow.Author.Tests.{le-leb, lt-leb}
use lib.ListN.{length, take, get_or, length-append}
use lib.Seq.{take-suc}
use lib.Ieee.{Float, binary64, to_bits}
use Rattle.floats.specs.Choice.{when◌give◌else◌}
use Rattle.floats.proofs.Choice.{yes, no}
use Rattle.moves.specs.declared.Origin.{Origin}
use Rattle.moves.specs.declared.Origin.TheVariants.{Span, Connector}
use Rattle.moves.specs.Origins.{origin_of, origins_in}
use Rattle.moves.proofs.Origins.{origins-append, origins-take}
use Rattle.packed.specs.Text.{◌then◌, hex_of, space, line_end, head_of, row_of, line_at, lines_of, printed, origin_line, origin_lines, refusal_of, three_of, pair_of}
use Rattle.packed.proofs.Digits.{length_digits, length-then, most_decimal}

-- ---- lengths

pub length_hex : (x : Float) → length (hex_of x) ≡ 16
unfolding hex_of
length_hex x = length_digits 16 16 (to_bits binary64 x)

pub length-number : (x : Float) (e : ℕ) → length (hex_of x then e) ≡ 17
length-number x e = length-then (hex_of x) e ∙ ap (λ k. k + 1) (length_hex x)

pub most_number : (x : Float) (e : ℕ) → length (hex_of x then e) ≤ 17
most_number x e = omega (arith, length-number x e)

pub length-row : (x y b : Float) (mark end : ℕ) → length (row_of x y b mark end) ≡ 53
unfolding row_of
length-row x y b mark end = simp (length-append, length_hex)

pub length-lines : (count : ℕ) (closed : Bool) (vertices : List Float) (flags : List ℕ) (k : ℕ) → length (lines_of count closed vertices flags k) ≡ 53 * k
unfolding lines_of line_at
length-lines count closed vertices flags zero = refl
length-lines count closed vertices flags (suc k) =
    let l = length-lines count closed vertices flags k in
    rw (length-append, length-row) (omega arith)

pub length-pair : (x y : Float) → length (pair_of x y) ≡ 34
unfolding pair_of
length-pair x y = rw length-append (omega (arith, length-number x space, length-number y line_end))

pub most_refusal : (number place : ℕ) → length (refusal_of number place) ≤ 42
unfolding refusal_of
most_refusal number place = rw length-append (omega (arith, most_decimal number space, most_decimal place line_end))

pub most_three : (a b c : ℕ) → length (three_of a b c) ≤ 63
unfolding three_of
most_three a b c = rw (length-append, length-append) (omega (arith, most_decimal a space, most_decimal b space, most_decimal c space))

pub most_head : (count : ℕ) (closed : Bool) → length (head_of count closed) ≤ 49
unfolding head_of when◌give◌else◌
most_head count true = rw (length-append, length-append) (omega (arith, most_decimal 0 space, most_decimal count space))
most_head count false = rw (length-append, length-append) (omega (arith, most_decimal 0 space, most_decimal count space))

pub most_origin : (o : Origin) → length (origin_line o) ≤ 31
unfolding origin_line
most_origin (Span i) = rw length-append (omega (arith, most_decimal i.0 line_end))
most_origin (Connector i) = rw length-append (omega (arith, most_decimal i.0 line_end))

-- ---- the origins of output segments

origin-lines-append : (os ps : List Origin) → origin_lines (os ++ ps) ≡ origin_lines os ++ origin_lines ps
unfolding origin_lines
origin-lines-append [] ps = refl
origin-lines-append (o ∷ os) ps = rw (origin-lines-append os ps) (sym (append_assoc (origin_line o) (origin_lines os) (origin_lines ps)))

-- the line of the next one
pub origin-lines-next : (codes : List ℕ) (k : ℕ) → k < length codes →
    origin_lines (take (suc k) (origins_in codes)) ≡ origin_lines (take k (origins_in codes)) ++ origin_line (origin_of (get_or codes k 0))
unfolding origins_in origin_lines
origin-lines-next codes k h =
    rw (← origins-take (suc k) codes, ← origins-take k codes, take-suc codes k 0 h, origins-append, origin-lines-append, append-nil)

pub most_origins : (os : List Origin) → length (origin_lines os) ≤ 31 * length os
unfolding origin_lines
most_origins [] = omega arith
most_origins (o ∷ os) = rw length-append (omega (arith, most_origin o, most_origins os))

-- ---- what is printed

module _ (count : ℕ) (text : List ℕ) where
  pub printed-text : count ≤ 1536 → text ≡ printed count text
  unfolding printed
  printed-text h = yes _ _ _ (le-leb _ _ h) refl

  pub printed-none : 1536 < count → [] ≡ printed count text
  unfolding printed
  printed-none h = no _ _ _ (lt-leb _ _ h) refl
