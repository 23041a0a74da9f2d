-- `hex` meets its contract. Assumes nothing.
use mathlib.Core.Path.{◌≡◌, ◌∙◌}
use native.Mathlib.Omega.{arith}
use lib.Ieee.{binary64, to_bits}
use Rattle.io.specs.Digits.{last_digits}
use Rattle.packed.specs.Text.{hex_of}
use Rattle.packed.proofs.Digits.{sixteen}
use Rattle.packed.proofs.text.Text.hex.Goals as goal

pub word-requires : goal.word-requires
word-requires c =
    let d = c.hex-n in
    omega (arith, sixteen c.bits_of.result d.result (omega arith) d.ensures.len, d.ensures.in_bounds.1)

pub returns : goal.returns
unfolding hex_of
returns c =
    let d = c.hex-n in
    let b = c.bits_of in
    let s = sixteen b.result d.result (omega arith) d.ensures.len in
    let e : last_digits 16 d.result b.result ≡ last_digits 16 16 (to_bits binary64 c.args.x) = rw (s, b.ensures) in
    rw (d.ensures.digits ∙ e) at c.word.ensures
