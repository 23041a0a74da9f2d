-- `blidrosk_draw::blidrosk_draw_vertices` meets its contract. Assumes nothing.
use mathlib.Core.Path.{ap}
use borrow.Author.Rules.{rules}
use Rattle.pieces.specs.Calls.{Called}
use Rattle.pieces.specs.Handed.{call_handed}
use Rattle.blidrosk_draw.proofs.blidrosk_draw_vertices.Goals as goal

pub returns : goal.returns
unfolding call_handed
returns c =
    let e = ap (λ (o : Called). call_handed o) c.draw-called.ensures.called in
    let h = c.hand.ensures in
    search (rules, h, e)
