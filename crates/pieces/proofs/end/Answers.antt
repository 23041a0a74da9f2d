-- `pieces::end` meets its contract. Assumes nothing.
use mathlib.Core.Path.{sym, ap, ◌∙◌}
use mathlib.Core.Bool.{not}
use native.Mathlib.Omega.{arith}
use Rattle.pieces.proofs.Tested.{open_facts, end-shut, end_roomless, end_goes, end-endless, room_tested, room_had}
use Rattle.segments.specs.declared.Settings.{Settings}
use Rattle.course.specs.Course.{end_refusal}
use Rattle.pieces.specs.declared.Taken.{Taken}
use Rattle.pieces.proofs.Last.{end-endless as endless, end-finite, ended_same, ended-called}
use Rattle.pieces.proofs.end.Goals as goal

pub returns-then-not-is_open-clause-called : goal.returns-then-not-is_open-clause-called
returns-then-not-is_open-clause-called g c = end-shut _ _ (ap not (sym c.is_open.ensures) ∙ c.if-not-is_open.true-raw) c.shut.ensures.0 c.shut.ensures.1

pub returns-then-not-has_room-clause-called : goal.returns-then-not-has_room-clause-called
returns-then-not-has_room-clause-called g c =
    end_roomless _ _ (ap not (sym c.is_open.ensures) ∙ c.if-not-is_open.false-raw) (ap not (sym (c.has_room.ensures ∙ room_tested 2 (g.V.VerticesMut.lent c.args.vertices.now) c.args.marks.now)) ∙ c.if-not-has_room.true-raw) c.unchanged.ensures.0 c.unchanged.ensures.1

pub end-ending-requires : goal.end-ending-requires
end-ending-requires g c =
    let facts = open_facts _ (sym c.is_open.ensures ∙ c.if-not-is_open.false) in
    (facts.taken, omega (arith, facts.taken, facts.number))

pub returns-then-is_endless_end-clause-called : goal.returns-then-is_endless_end-clause-called
returns-then-is_endless_end-clause-called g c =
    let j = c.args.job in
    let n = c.number-number.ensures in
    let e = n ∙ endless _ _ c.end-ending.ensures.0 c.is_endless_end.ensures c.if-is_endless_end.true ∙ ap (λ (σ : Settings). end_refusal σ j.course) c.settings-settings.ensures in
    end-endless _ _ (ap not (sym c.is_open.ensures) ∙ c.if-not-is_open.false-raw) (ap not (sym (c.has_room.ensures ∙ room_tested 2 (g.V.VerticesMut.lent c.args.vertices.now) c.args.marks.now)) ∙ c.if-not-has_room.false-raw) e (λ z. omega (arith, n))
    (rw (c.none.ensures, c.staged.ensures))

pub store_ending-places-requires : goal.store_ending-places-requires
store_ending-places-requires g c =
    let none = ap (λ (t : Taken). t.places) c.none-2.ensures in
    (none, rw none (room_had 2 (g.V.VerticesMut.lent c.args.vertices.now) c.args.marks.now (sym c.has_room.ensures ∙ c.if-not-has_room.false)), c.end-ending.ensures.1)

pub ending_answer-requires : goal.ending_answer-requires
ending_answer-requires g c = let e = c.store_ending-places.ensures in (e.2, e.3)

pub returns-clause-called : goal.returns-clause-called
returns-clause-called g c =
    let j = c.args.job in
    let e = c.store_ending-places.ensures in
    let room = room_had 2 (g.V.VerticesMut.lent c.args.vertices.now) c.args.marks.now (sym c.has_room.ensures ∙ c.if-not-has_room.false) in
    let z = ap (λ (σ : Settings). end_refusal σ j.course) (sym c.settings-settings.ensures) ∙ end-finite _ _ c.end-ending.ensures.0 c.is_endless_end.ensures c.if-is_endless_end.false in
    end_goes _ _ (ap not (sym c.is_open.ensures) ∙ c.if-not-is_open.false-raw) (ap not (sym (c.has_room.ensures ∙ room_tested 2 (g.V.VerticesMut.lent c.args.vertices.now) c.args.marks.now)) ∙ c.if-not-has_room.false-raw) z
    (ended-called j c.end-ending.result c.store_ending-places.result _ _ c.args.marks.now c.store_ending-places.new.marks c.settings-settings.ensures c.end-ending.ensures.0 e.0 e.1 e.2 room c.ending_answer.ensures c.staged-2.ensures)

pub returns-clause-same_loans : goal.returns-clause-same_loans
returns-clause-same_loans g c =
    let e = c.store_ending-places.ensures in
    ended_same c.args.job c.end-ending.result c.store_ending-places.result _ _ c.args.marks.now c.store_ending-places.new.marks c.settings-settings.ensures c.end-ending.ensures.0 e.0 e.1 e.2 (room_had 2 (g.V.VerticesMut.lent c.args.vertices.now) c.args.marks.now (sym c.has_room.ensures ∙ c.if-not-has_room.false))
