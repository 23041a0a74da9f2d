-- `sheet::store_move` meets its contract. Assumes nothing.
use mathlib.Core.Path.{sym, ap, ◌∙◌}
use lib.Dec.{eqb}
use Rattle.floats.specs.Choice.{◌and◌}
use Rattle.moves.specs.declared.Stepped.{Stepped}
use Rattle.walk.specs.InnerSteps.{drawn_by}
use Rattle.sheet.proofs.Storing.{step_coded, drawn-room, stores-last}
use Rattle.sheet.proofs.store_move.Goals as goal

pub step-stepped-requires : goal.step-stepped-requires
step-stepped-requires g c = c.requires.1

pub store-requires : goal.store-requires
store-requires g c =
    let pre = c.requires in
    ((λ t. drawn-room _ _ c.both-drawn.ensures pre.0 t), step_coded _ _ _ c.step-stepped.ensures pre.2)

pub returns : goal.returns
unfolding drawn_by
returns g c =
    let step = c.step-stepped.ensures in
    let drawn = c.both-drawn.ensures ∙ ap (λ (s : Stepped). eqb c.args.leading 0 and s.kept) step in
    record {
      stored = c.store.ensures ∙ rw (drawn, step) (sym (stores-last _ _ _));
      stepped = (ap (λ (s : Stepped). s.pen) step, drawn);
    }
