-- `begin_on` meets its contract. Assumes nothing.
use mathlib.Core.Bool.{not}
use mathlib.Core.Path.{ap}
use native.Mathlib.Omega.{arith}
use Rattle.packed.proofs.Writing.{writes_none}
use Rattle.pen_reply.proofs.Steps.{sized, head_malformed, head_refused, head_begun}
use Rattle.pen_reply.proofs.begin_on.Goals as goal

pub returns-then-not-well_formed : goal.returns-then-not-well_formed
returns-then-not-well_formed c =
    let e = head_malformed _ c.well_formed-2.ensures (ap not c.if-not-well_formed.true) c.start-called.ensures c.round.ensures in
    record {
      step = rw e (rw (c.number.ensures, c.place.ensures) at c.refused.ensures.step);
      text = rw e (rw (c.number.ensures, c.place.ensures) at c.refused.ensures.text);
    }

pub settings_in-requires : goal.settings_in-requires
settings_in-requires c = sized _ c.well_formed-2.ensures (ap not c.if-not-well_formed.false)

pub returns-then-answer-ne0 : goal.returns-then-answer-ne0
returns-then-answer-ne0 c =
    let e = head_refused _ c.well_formed-2.ensures (ap not c.if-not-well_formed.false) c.settings_in.ensures c.start-called-2.ensures c.if-answer-ne0.true in
    record {
      step = rw e c.refused-then-answer-ne0.ensures.step;
      text = rw e c.refused-then-answer-ne0.ensures.text;
    }

pub returns : goal.returns
returns c =
    let e = head_begun _ c.well_formed-2.ensures (ap not c.if-not-well_formed.false) c.settings_in.ensures c.start-called-2.ensures c.if-answer-ne0.false in
    record {
      step = rw e;
      text = rw e (writes_none (omega arith));
    }
