-- `job::offset_good` meets its contract. Assumes nothing.
use native.Mathlib.Omega.{arith}
use Rattle.source.specs.Source.{vertices_in}
use Rattle.walk.specs.Walk.{copied}
use Rattle.sheet.proofs.Holding.{held_same}
use Rattle.job.proofs.Ends.{few-places, drawable, copyable, no_room, zero-offset, nonzero-offset}
use Rattle.job.proofs.offset_good.Goals as goal

pub overflow_mul-room : goal.overflow_mul-room
overflow_mul-room g c =
    let few = few-places _ _ c.args.pointed c.requires.0.most c.moves_a_segment.ensures (rw c.count.ensures at c.segment_count.ensures) in
    omega (arith, few)

pub returns-then-not-has_room-clause-ending : goal.returns-then-not-has_room-clause-ending
returns-then-not-has_room-clause-ending g c =
    no_room _ _ (g.V.VerticesMut.lent c.args.vertices.now) c.args.marks.now c.args.settings c.args.pointed c.requires.1 _ _ _ _ _ c.requires.0 c.moves_a_segment.ensures (rw c.count.ensures at c.segment_count.ensures) c.count-2.ensures c.has_room.ensures c.if-not-has_room.true-raw

pub copy-requires : goal.copy-requires
copy-requires g c =
    copyable _ _ (g.V.VerticesMut.lent c.args.vertices.now) c.args.marks.now c.args.settings c.args.pointed c.requires.1 _ _ _ _ _ c.requires.0 c.moves_a_segment.ensures (rw c.count.ensures at c.segment_count.ensures) c.count-2.ensures c.has_room.ensures c.if-not-has_room.false-raw

pub returns-then-settings-clause-ending : goal.returns-then-settings-clause-ending
returns-then-settings-clause-ending g c =
    zero-offset _ _ (g.V.VerticesMut.lent c.args.vertices.now) c.args.marks.now c.args.settings c.args.pointed c.requires.1 _ _ _ _ _ c.requires.0 c.moves_a_segment.ensures (rw c.count.ensures at c.segment_count.ensures) c.count-2.ensures c.has_room.ensures c.if-not-has_room.false-raw c.if-settings.true _ c.copy.new.marks c.copy.ensures.0 c.copy.ensures.1

pub returns-then-settings-clause-same_loans : goal.returns-then-settings-clause-same_loans
returns-then-settings-clause-same_loans g c =
    held_same _ _ _ c.copy.new.marks _ (copied c.args.closed (vertices_in (g.S.Vertices.lent c.args.source))) c.copy.ensures.1

pub offset_nonzero-requires : goal.offset_nonzero-requires
offset_nonzero-requires g c =
    drawable _ _ (g.V.VerticesMut.lent c.args.vertices.now) c.args.marks.now c.args.settings c.args.pointed c.requires.1 _ _ _ _ _ c.requires.0 c.moves_a_segment.ensures (rw c.count.ensures at c.segment_count.ensures) c.count-2.ensures c.has_room.ensures c.if-not-has_room.false-raw

pub returns-clause-ending : goal.returns-clause-ending
returns-clause-ending g c =
    nonzero-offset _ _ (g.V.VerticesMut.lent c.args.vertices.now) c.args.marks.now c.args.settings c.args.pointed c.requires.1 _ _ _ _ _ c.requires.0 c.moves_a_segment.ensures (rw c.count.ensures at c.segment_count.ensures) c.count-2.ensures c.has_room.ensures c.if-not-has_room.false-raw c.if-settings.false c.offset_nonzero.ensures.ending
