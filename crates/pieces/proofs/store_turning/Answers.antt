-- `pieces::store_turning` meets its contract. Assumes nothing.
use mathlib.Core.Path.{◌∙◌}
use Rattle.pieces.proofs.Stored.{three-stored, first-room, second-room, third-room}
use Rattle.pieces.proofs.store_turning.Goals as goal

pub store_stroke-first-requires : goal.store_stroke-first-requires
store_stroke-first-requires g c = let pre = c.requires in (first-room _ _ pre.0, pre.1.span)

pub store_stroke-second-requires : goal.store_stroke-second-requires
store_stroke-second-requires g c = let pre = c.requires in (second-room _ _ pre.0 c.store_stroke-first.ensures, pre.1.tip)

pub store_stroke-requires : goal.store_stroke-requires
store_stroke-requires g c = let pre = c.requires in (third-room _ _ pre.0 c.store_stroke-first.ensures c.store_stroke-second.ensures, pre.1.connector)

pub returns : goal.returns
returns g c = c.store_stroke.ensures ∙ rw (c.store_stroke-second.ensures, c.store_stroke-first.ensures) (three-stored _ _)
