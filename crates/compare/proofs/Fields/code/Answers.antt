-- `compare::Fields::code` meets its contract. Assumes nothing.
use native.Mathlib.Omega.{arith}
use Rattle.compare.specs.Compare.{code_of}
use Rattle.compare.proofs.Told.{bit-byte, bit_times}
use Rattle.compare.proofs.Fields.code.Goals as goal

pub returns : goal.returns
unfolding code_of
returns c =
    let f = c.args.self in
    omega (arith, bit-byte f.x, bit-byte f.y, bit-byte f.bulge, bit-byte f.flag, bit_times f.y 2, bit_times f.bulge 4, bit_times f.flag 8)
