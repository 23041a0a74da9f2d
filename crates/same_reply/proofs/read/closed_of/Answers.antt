-- `read::closed_of` meets its contract. Assumes nothing.
use mathlib.Core.Path.{◌≡◌, ap, ◌∙◌}
use Prim.Native.Nat.{◌+◌, ◌-◌}
use Prim.Native.Char.{code}
use native.Mathlib.Omega.{arith}
use lib.Dec.{eqb}
use lib.ListN.{length}
use Rattle.packed.specs.Text.{◌then◌, decimal_of, space}
use Rattle.same_reply.specs.Read.{byte_at, count_of, closed_of}
use Rattle.same_reply.proofs.Reading.{length_head}
use Rattle.same_reply.proofs.read.closed_of.Goals as goal

pub overflow_sub-length_of_head : goal.overflow_sub-length_of_head
overflow_sub-length_of_head c = omega (arith, length_head c.args.count)

pub returns : goal.returns
unfolding closed_of
returns c =
    let a = c.args in
    let place : c.length_of_head.result - 5 ≡ 2 + length (decimal_of a.count then space) = omega (arith, length_head a.count) in
    let counted : 2 + length (decimal_of a.count then space) ≡ 2 + length (decimal_of (count_of a.text.now) then space) = ap (λ k. 2 + length (decimal_of k then space)) c.requires.count_value in
    ap (λ b. eqb b (code "c")) (c.byte_at.ensures ∙ ap (byte_at a.text.now) (place ∙ counted))
