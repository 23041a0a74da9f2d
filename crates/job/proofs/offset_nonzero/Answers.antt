-- `job::offset_nonzero` meets its contract. Assumes nothing.
use mathlib.Core.Path.{sym, ◌∙◌}
use Rattle.walk.specs.Walk.{drawing_of}
use Rattle.source.specs.Source.{vertices_in}
use Rattle.job.proofs.Ends.{repeated-ends, drawn-ends, built-same}
use Rattle.job.proofs.offset_nonzero.Goals as goal

pub returns-in-Some-clause-ending : goal.returns-in-Some-clause-ending
returns-in-Some-clause-ending g c =
    repeated-ends _ _ _ _ _ _ (sym c.first_repeated.ensures ∙ c.in-Some.is)

pub returns-clause-ending : goal.returns-clause-ending
returns-clause-ending g c =
    let nowhere = sym c.first_repeated.ensures ∙ c.in_default.is in
    rw c.ok_or.ensures.value (drawn-ends _ _ c.args.marks.now c.draw.new.marks _ c.requires.ready.vertices _ _ _ nowhere c.draw.ensures)

pub returns-clause-same_loans : goal.returns-clause-same_loans
returns-clause-same_loans g c =
    built-same _ _ c.args.marks.now c.draw.new.marks _ c.requires.ready.vertices (drawing_of c.args.closed c.args.settings (vertices_in (g.S.Vertices.lent c.args.source))) c.draw.ensures
