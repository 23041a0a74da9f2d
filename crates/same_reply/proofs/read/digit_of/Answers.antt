-- `read::digit_of` meets its contract. Assumes nothing.
use borrow.Author.Tests.{lt-ltb, le-ltb}
use mathlib.Core.Path.{refl}
use native.Mathlib.Omega.{arith}
use Rattle.floats.proofs.Choice.{yes, no}
use Rattle.same_reply.specs.Read.{digit_of}
use Rattle.same_reply.proofs.read.digit_of.Goals as goal

pub returns-then-c-lt64 : goal.returns-then-c-lt64
unfolding digit_of
returns-then-c-lt64 c = record {
  value = yes _ _ _ (lt-ltb _ _ c.if-c-lt64.true) refl;
  upper_bound = omega arith;
}

pub returns : goal.returns
unfolding digit_of
returns c = record {
  value = no _ _ _ (le-ltb _ _ c.if-c-lt64.false) refl;
  upper_bound = omega arith;
}
