-- `sheet::store_turn` meets its contract. Assumes nothing.
use native.Mathlib.Omega.{arith}
use Rattle.sheet.proofs.Storing.{room_fewer, next-number, move_leaves, span-stored, span-pen, tip-one}
use Rattle.sheet.proofs.store_turn.Goals as goal

pub store_move-half-requires : goal.store_move-half-requires
store_move-half-requires g c =
    let pre = c.requires in
    ((λ z. room_fewer (omega arith) (pre.rooms.0 z)), omega (arith, pre.rooms.1), pre.coded.0)

pub store_connectors-whole-requires : goal.store_connectors-whole-requires
store_connectors-whole-requires g c =
    let half = c.store_move-half in
    let pre = c.requires in
    record {
      rooms = ((λ z. move_leaves _ _ _ _ _ half.ensures.stored (room_fewer (omega arith) (pre.rooms.0 z))), omega (arith, next-number _ _ _ half.ensures.stepped.0, pre.rooms.1, tip-one c.args.turned.join c.args.turned.connector));
      coded = (pre.coded.1, pre.coded.2);
    }

pub returns : goal.returns
returns g c =
    let half = c.store_move-half in
    let whole = c.store_connectors-whole in
    record {
      stored = span-stored _ _ _ _ _ half.ensures.stepped.0 _ half.ensures.stored whole.ensures.stored;
      stepped = (span-pen _ _ _ _ half.ensures.stepped.0 whole.ensures.stepped, rw (c.both.ensures, half.ensures.stepped.1));
    }
