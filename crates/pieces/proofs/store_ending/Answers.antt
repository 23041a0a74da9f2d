-- `pieces::store_ending` meets its contract. Assumes nothing.
use native.Mathlib.Omega.{arith}
use Rattle.sheet.proofs.Storing.{drawn-few, room_fewer}
use Rattle.pieces.proofs.Last.{few-places, last-place, unended, with-last}
use Rattle.pieces.proofs.store_ending.Goals as goal

pub store_stroke-places-requires : goal.store_stroke-places-requires
store_stroke-places-requires g c = let pre = c.requires in (room_fewer (omega (arith, drawn-few 0 c.args.ending.span)) pre.1, pre.2)

pub put-requires : goal.put-requires
put-requires g c =
    let a = c.args in
    last-place a.ending a.first c.store_stroke-places.result _ _ c.args.marks.now c.store_stroke-places.new.marks c.requires.0 c.requires.1 c.store_stroke-places.ensures

pub returns-in-Some : goal.returns-in-Some
returns-in-Some g c =
    let a = c.args in
    let all = with-last a.ending a.first c.store_stroke-places.result _ _ c.args.marks.now c.store_stroke-places.new.marks c.requires.0 c.requires.1 c.store_stroke-places.ensures _ _ c.in-Some.is c.put.ensures in
    let few = few-places a.ending a.first c.store_stroke-places.result _ _ c.args.marks.now c.store_stroke-places.new.marks c.requires.0 c.requires.1 c.store_stroke-places.ensures in
    (all.0, all.1, few.0, few.1)

pub returns-in_default : goal.returns-in_default
returns-in_default g c =
    let a = c.args in
    let all = unended a.ending a.first c.store_stroke-places.result _ _ c.args.marks.now c.store_stroke-places.new.marks c.requires.0 c.requires.1 c.store_stroke-places.ensures c.in_default.is in
    let few = few-places a.ending a.first c.store_stroke-places.result _ _ c.args.marks.now c.store_stroke-places.new.marks c.requires.0 c.requires.1 c.store_stroke-places.ensures in
    (all.0, all.1, few.0, few.1)
