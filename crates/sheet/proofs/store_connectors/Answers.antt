-- `sheet::store_connectors` meets its contract. Assumes nothing.
use native.Mathlib.Omega.{arith}
use Rattle.sheet.proofs.Storing.{room_fewer, row_number, row_leaves, row-stored, row-pen, tip-one}
use Rattle.sheet.proofs.store_connectors.Goals as goal

pub store_tip-tipped-requires : goal.store_tip-tipped-requires
store_tip-tipped-requires g c =
    let pre = c.requires in
    record {
      rooms = ((λ z. room_fewer (omega arith) (pre.rooms.0 z)), omega (arith, pre.rooms.1));
      coded = pre.coded;
    }

pub store_move-requires : goal.store_move-requires
store_move-requires g c =
    let tipped = c.store_tip-tipped in
    let pre = c.requires in (
      (λ z. row_leaves _ 1 _ _ _ tipped.ensures.stored (room_fewer (omega arith) (pre.rooms.0 z))),
      omega (arith, row_number _ _ _ tipped.ensures.stepped, pre.rooms.1, tip-one c.args.join c.args.connector),
      pre.coded.0,
    )

pub returns : goal.returns
returns g c =
    let tipped = c.store_tip-tipped in
    let whole = c.store_move in
    record {
      stored = row-stored _ _ _ _ _ tipped.ensures.stepped _ tipped.ensures.stored whole.ensures.stored;
      stepped = row-pen _ _ _ _ tipped.ensures.stepped whole.ensures.stepped.0;
    }
