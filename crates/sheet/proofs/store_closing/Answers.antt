-- `sheet::store_closing` meets its contract. Assumes nothing.
use native.Mathlib.Omega.{arith}
use Rattle.sheet.proofs.Storing.{room_fewer, next-number, span_coded, connector_coded, move_leaves, span-stored, closing-connectors, closing-length, closing-room}
use Rattle.sheet.proofs.store_closing.Goals as goal

pub store_move-half-requires : goal.store_move-half-requires
store_move-half-requires g c =
    let pre = c.requires in
    ((λ z. room_fewer (omega arith) pre.rooms), omega (arith, pre.closing_bound.0), span_coded _ _ _ _ _ c.span_to-span.ensures pre.closing_bound.1)

pub store_connectors-whole-requires : goal.store_connectors-whole-requires
store_connectors-whole-requires g c =
    let made = c.connector-connector.ensures in
    let half = c.store_move-half in
    let pre = c.requires in
    let e = closing-length _ _ made in
    record {
      rooms = ((λ z. move_leaves _ _ _ _ _ half.ensures.stored (closing-room _ _ made pre.rooms)), omega (arith, next-number _ _ _ half.ensures.stepped.0, pre.closing_bound.0, e));
      coded = (connector_coded _ _ made pre.closing_bound.1, pre.pointed_value);
    }

pub returns : goal.returns
returns g c =
    let half = c.store_move-half in
    rw (← c.span_to-span.ensures, ← closing-connectors _ _ c.connector-connector.ensures)
    (span-stored _ _ _ _ _ half.ensures.stepped.0 _ half.ensures.stored c.store_connectors-whole.ensures.stored)
