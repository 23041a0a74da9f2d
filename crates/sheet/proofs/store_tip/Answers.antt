-- `sheet::store_tip` meets its contract. Assumes nothing.
use mathlib.Core.Path.{refl, sym, ap, ◌∙◌}
use mathlib.Core.Bool.{Bool}
use native.Mathlib.Omega.{arith}
use Rattle.floats.specs.Choice.{◌and◌}
use Rattle.floats.proofs.Choice.{both_pass}
use Rattle.moves.proofs.Tips.{tip-none, tip-some}
use Rattle.walk.specs.InnerSteps.{strokes_by, pen_by}
use Rattle.sheet.specs.InnerSteps.{stores}
use Rattle.sheet.proofs.Storing.{unpointed, room_fewer, move_row}
use Rattle.sheet.proofs.store_tip.Goals as goal

pub returns-then-not-both : goal.returns-then-not-both
unfolding strokes_by pen_by stores
returns-then-not-both g c =
    let none = unpointed _ _ c.requires.coded.1 (sym (c.both.ensures ∙ ap (λ (b : Bool). c.args.pointed and b) c.is_pointed.ensures) ∙ c.if-not-both.true) in
    record {
      stored = rw (tip-none c.args.join c.args.connector none) refl;
      stepped = rw (tip-none c.args.join c.args.connector none) refl;
    }

pub store_move-requires : goal.store_move-requires
store_move-requires g c =
    let some = sym c.is_pointed.ensures ∙ ((both_pass _ _).0 (sym c.both.ensures ∙ c.if-not-both.false)).1 in (
      (λ z. room_fewer (rw (tip-some c.args.join c.args.connector some) (omega arith)) (c.requires.rooms.0 z)),
      c.requires.rooms.1,
      rw c.to_tip-tip.ensures c.requires.coded.0,
    )

pub returns : goal.returns
unfolding pen_by
returns g c =
    let end = c.store_move in
    let tip = c.to_tip-tip.ensures in
    let some = sym c.is_pointed.ensures ∙ ((both_pass _ _).0 (sym c.both.ensures ∙ c.if-not-both.false)).1 in
    record {
      stored = rw (tip-some c.args.join c.args.connector some, move_row) (end.ensures.stored ∙ rw tip);
      stepped = rw (tip-some c.args.join c.args.connector some) (end.ensures.stepped.0 ∙ rw tip);
    }
