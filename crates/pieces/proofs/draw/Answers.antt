-- `pieces::draw` meets its contract. Assumes nothing.
use mathlib.Core.Path.{refl, sym, ap, ◌∙◌}
use mathlib.Core.Bool.{not}
use native.Mathlib.Omega.{arith}
use Rattle.source.proofs.Source.{length-vertices}
use Rattle.job.proofs.Ends.{moves-most}
use Rattle.sheet.proofs.Products.{product_most}
use Rattle.pieces.proofs.Tested.{open_facts, draw-shut, draw-ragged, draw_roomless, draw-goes, same-room, room_rules}
use Rattle.pieces.proofs.Drawn.{few-counts, drawn-same, drawn-called}
use Rattle.pieces.proofs.draw.Goals as goal

pub returns-then-not-is_open-clause-called : goal.returns-then-not-is_open-clause-called
returns-then-not-is_open-clause-called g c = draw-shut _ _ _ (ap not (sym c.is_open.ensures) ∙ c.if-not-is_open.true-raw) c.shut.ensures.0 c.shut.ensures.1

pub returns-then-not-is_whole-clause-called : goal.returns-then-not-is_whole-clause-called
returns-then-not-is_whole-clause-called g c =
    draw-ragged _ _ _ (ap not (sym c.is_open.ensures) ∙ c.if-not-is_open.false-raw) (ap not (sym c.is_whole.ensures) ∙ c.if-not-is_whole.true-raw) c.unchanged.ensures.0 c.unchanged.ensures.1

pub overflow_mul-room : goal.overflow_mul-room
overflow_mul-room g c =
    let m = c.moves_a_segment in
    let n = c.args.source.now in
    let p = product_most m.result 3 c.count.result (omega (arith, m.ensures, moves-most c.is_pointed-pointed.result)) in
    omega (arith, p, c.count.ensures, length-vertices n, c.well_formed)

pub returns-then-not-has_room-clause-called : goal.returns-then-not-has_room-clause-called
returns-then-not-has_room-clause-called g c =
    draw_roomless _ _ _ (ap not (sym c.is_open.ensures) ∙ c.if-not-is_open.false-raw) (ap not (sym c.is_whole.ensures) ∙ c.if-not-is_whole.false-raw) (sym (same-room c.args.job c.args.source.now (g.V.VerticesMut.lent c.args.vertices.now) c.args.marks.now c.is_pointed-pointed.ensures c.moves_a_segment.ensures c.count.ensures c.has_room.ensures) ∙ c.if-not-has_room.true-raw) c.unchanged-then-not-has_room.ensures.0 c.unchanged-then-not-has_room.ensures.1

pub take_vertices-taken-requires : goal.take_vertices-taken-requires
take_vertices-taken-requires g c =
    let facts = open_facts _ (sym c.is_open.ensures ∙ c.if-not-is_open.false) in
    rw (c.none-first.ensures, c.settings-settings.ensures) (record {
      taken = facts.taken;
      number = facts.number;
      told = c.is_pointed-pointed.ensures;
      rooms = room_rules c.args.job c.args.source.now (g.V.VerticesMut.lent c.args.vertices.now) c.args.marks.now c.is_pointed-pointed.ensures c.moves_a_segment.ensures c.count.ensures c.has_room.ensures c.if-not-has_room.false-raw;
    })

pub after-requires : goal.after-requires
after-requires g c =
    let facts = open_facts _ (sym c.is_open.ensures ∙ c.if-not-is_open.false) in
    let rooms = room_rules c.args.job c.args.source.now (g.V.VerticesMut.lent c.args.vertices.now) c.args.marks.now c.is_pointed-pointed.ensures c.moves_a_segment.ensures c.count.ensures c.has_room.ensures c.if-not-has_room.false-raw in
    few-counts _ c.args.job _ _ c.take_vertices-taken.result _ _ c.args.marks.now c.take_vertices-taken.new.marks rooms c.settings-settings.ensures c.none-first.ensures c.take_vertices-taken.ensures facts.taken

pub returns-clause-called : goal.returns-clause-called
returns-clause-called g c =
    let rooms = room_rules c.args.job c.args.source.now (g.V.VerticesMut.lent c.args.vertices.now) c.args.marks.now c.is_pointed-pointed.ensures c.moves_a_segment.ensures c.count.ensures c.has_room.ensures c.if-not-has_room.false-raw in
    draw-goes _ _ _ (ap not (sym c.is_open.ensures) ∙ c.if-not-is_open.false-raw) (ap not (sym c.is_whole.ensures) ∙ c.if-not-is_whole.false-raw) (sym (same-room c.args.job c.args.source.now (g.V.VerticesMut.lent c.args.vertices.now) c.args.marks.now c.is_pointed-pointed.ensures c.moves_a_segment.ensures c.count.ensures c.has_room.ensures) ∙ c.if-not-has_room.false-raw)
    (drawn-called _ c.args.job _ _ c.take_vertices-taken.result _ _ c.args.marks.now c.take_vertices-taken.new.marks rooms c.settings-settings.ensures c.none-first.ensures c.take_vertices-taken.ensures c.after.ensures.0 c.after.ensures.1)

pub returns-clause-same_loans : goal.returns-clause-same_loans
returns-clause-same_loans g c =
    let rooms = room_rules c.args.job c.args.source.now (g.V.VerticesMut.lent c.args.vertices.now) c.args.marks.now c.is_pointed-pointed.ensures c.moves_a_segment.ensures c.count.ensures c.has_room.ensures c.if-not-has_room.false-raw in
    drawn-same _ c.args.job _ _ c.take_vertices-taken.result _ _ c.args.marks.now c.take_vertices-taken.new.marks rooms c.settings-settings.ensures c.none-first.ensures c.take_vertices-taken.ensures
