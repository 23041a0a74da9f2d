-- `big_endian` meets its contract. Assumes nothing.
use mathlib.Core.List.{List}
use mathlib.Core.Path.{◌≡◌, refl, ap, ◌∙◌}
use Prim.Native.Nat.{ℕ, ◌+◌, ◌-◌, ◌*◌, ◌^◌, ◌<◌, ◌≤◌}
use native.Mathlib.Omega.{arith}
use lib.ListN.{drop, get_or, length, length-drop, length-take, take}
use Rattle.words.specs.Words.{big_endian}
use Rattle.words.proofs.Reading.{big_endian_fits, big_endian_more}
use Rattle.words.proofs.big_endian.Goals as goal

-- the bytes that the loop goes over
abbrev those : List ℕ → ℕ → ℕ → List ℕ
those bytes at count = take (at + count - at) (drop at bytes)

module _ (bytes : List ℕ) (at count k word : ℕ) (h : k < length (those bytes at count)) (e : word ≡ big_endian bytes at k) where
  more : word * 256 + get_or (those bytes at count) k 0 ≡ big_endian bytes at (k + 1)
  more = rw e (big_endian_more bytes at (at + count - at) k (omega (arith, length-take (at + count - at) (drop at bytes))))

  fits : ((i : ℕ) → get_or bytes i 0 < 256) → count ≤ 8 → word * 256 + get_or (those bytes at count) k 0 < 2 ^ 64
  fits byte m = rw more (big_endian_fits bytes byte at (k + 1) (omega (arith, length-take (at + count - at) (drop at bytes))))

pub loop-byte-init : goal.loop-byte-init
unfolding big_endian
loop-byte-init c = refl

pub overflow_mul-word : goal.overflow_mul-word
overflow_mul-word c =
    let a = c.args in
    omega (arith, fits a.bytes.now a.at a.count c.loop-byte.byte-index c.loop-byte.word c.loop-byte-test.true c.loop-byte.invariant (λ i. omega (arith, c.type_inv.bytes i)) c.requires.count_bound)

pub overflow_add-word : goal.overflow_add-word
overflow_add-word c =
    let a = c.args in
    omega (arith, fits a.bytes.now a.at a.count c.loop-byte.byte-index c.loop-byte.word c.loop-byte-test.true c.loop-byte.invariant (λ i. omega (arith, c.type_inv.bytes i)) c.requires.count_bound)

pub loop-byte-preserved : goal.loop-byte-preserved
loop-byte-preserved c = more _ _ _ _ _ c.loop-byte-test.true c.loop-byte.invariant

pub returns : goal.returns
returns c =
    let a = c.args in
    let n : c.loop-byte.byte-index ≡ a.count =
    omega (arith, length-take (a.at + a.count - a.at) (drop a.at a.bytes.now), length-drop a.at a.bytes.now) in
    c.loop-byte.invariant ∙ ap (big_endian a.bytes.now a.at) n
