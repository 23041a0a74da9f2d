-- `blidrosk_draw::blidrosk_draw_start_pointed` meets its contract. Assumes nothing.
use mathlib.Core.Path.{ap, ◌∙◌}
use Rattle.segments.specs.declared.Settings.{Settings}
use Rattle.pieces.specs.Calls.{Started, start_call}
use Rattle.pieces.specs.Handed.{start_handed}
use Rattle.blidrosk_draw.proofs.blidrosk_draw_start_pointed.Goals as goal

pub returns : goal.returns
unfolding start_handed
returns c =
    let h = c.hand.ensures in
    rw (h.0, h.1) (ap (λ (s : Started). start_handed s) (c.start-called.ensures ∙ ap (λ (σ : Settings). start_call σ) c.pointed.ensures))
