-- `put_entries` meets its contract. Assumes nothing.
use mathlib.Core.Path.{◌≡◌, ◌∙◌}
use Prim.Native.Nat.{◌*◌, ◌<◌, ◌≤◌}
use native.Mathlib.Numerals.{add-one}
use native.Mathlib.Omega.{arith}
use lib.ListN.{get_or, length, length-append, length-take, take}
use Rattle.std.specs.Iterator.Adapters.{zip_first, zip_second}
use Rattle.std.specs.Slice.Iter.{iter_rest}
use Rattle.std.proofs.lemmas.List.{get_or-take}
use Rattle.std.proofs.lemmas.Slice.Zip.{zip_turn, zip_end}
use Rattle.packed.proofs.Writing.{room_left, writes_more, writes_none}
use Rattle.same_reply.specs.Same.{entry_lines}
use Rattle.same_reply.proofs.Entries.{entry-lines-next, most_entries}
use Rattle.same_reply.proofs.text.put_entries.Goals as goal
use Rattle.same_reply.proofs.text.put_entries.Goals.{In-Some}

pub loop-number-init : goal.loop-number-init
unfolding entry_lines
loop-number-init c = writes_none (omega arith)

-- where this turn's pair stands
turn : (c : In-Some) → (length c.loop-number.yielded < c.args.count) ×
    (c.in-Some.field-0-0.now ≡ get_or c.args.numbers.now (length c.loop-number.yielded) 0) ×
    (c.in-Some.field-0-1.now ≡ get_or c.args.fields.now (length c.loop-number.yielded) 0)
turn c =
    let a = c.args in
    let at = c.loop-number in
    let k = length at.yielded in
    let begun = c.into_iter-number-iterator.result in
    let first : iter_rest (zip_first begun) ≡ take a.count a.numbers.now = cc in
    let second : iter_rest (zip_second begun) ≡ take a.count a.fields.now = cc c.zip-number-items.ensures.second.0 in
    let pair = zip_turn (take a.count a.numbers.now) (take a.count a.fields.now) at.yielded begun at.number-iterator c.next.new.self c.next.result first second at.yielded_by
    (c.in-Some.field-0-0, c.in-Some.field-0-1) c.in-Some.is c.next.ensures.steps in
    let h : k < a.count = omega (arith, pair.0, length-take a.count a.numbers.now) in
    (h, pair.2 0 ∙ rw get_or-take, pair.3 0 ∙ rw get_or-take)

pub put_entry-requires : goal.put_entry-requires
put_entry-requires c =
    let a = c.args in
    let k = length c.loop-number.yielded in
    let h = (turn (goal.at.put_entry-requires c).In-Some).0 in
    let most : length (entry_lines (take k a.numbers.now) (take k a.fields.now)) ≤ 42 * k =
    omega (arith, most_entries (take k a.numbers.now) (take k a.fields.now), length-take k a.numbers.now) in
    room_left c.loop-number.invariant (42 * k) 42 most (omega arith)

pub loop-number-preserved : goal.loop-number-preserved
loop-number-preserved c =
    let a = c.args in
    let t = turn (goal.at.loop-number-preserved c).In-Some in
    let next = entry-lines-next a.numbers.now a.fields.now (length c.loop-number.yielded) (omega arith) (omega arith) in
    rw (length-append, add-one, next, ← t.1, ← t.2) (writes_more c.loop-number.invariant c.put_entry.ensures)

pub returns : goal.returns
returns c =
    let a = c.args in
    let at = c.loop-number in
    let begun = c.into_iter-number-iterator.result in
    let first : iter_rest (zip_first begun) ≡ take a.count a.numbers.now = cc in
    let second : iter_rest (zip_second begun) ≡ take a.count a.fields.now = cc c.zip-number-items.ensures.second.0 in
    let end = zip_end (take a.count a.numbers.now) (take a.count a.fields.now) at.yielded begun at.number-iterator c.next.new.self c.next.result first second at.yielded_by c.in-None.is c.next.ensures.steps in
    let n : length at.yielded ≡ a.count = omega (arith, end, length-take a.count a.numbers.now, length-take a.count a.fields.now) in
    rw n at at.invariant
