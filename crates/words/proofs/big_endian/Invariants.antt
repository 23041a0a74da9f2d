-- `big_endian` meets its contract. Assumes nothing.
use mathlib.Core.Path.{◌≡◌}
use Rattle.words.specs.Words.{big_endian}
use Rattle.words.proofs.big_endian.Given as goal

abbrev pub invariant-loop-byte : goal.invariant-loop-byte
invariant-loop-byte l = l.word ≡ big_endian l.bytes l.at l.byte-index
