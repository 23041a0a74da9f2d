-- `course::Course::with` meets its contract. Assumes nothing.
use mathlib.Core.Path.{refl}
use mathlib.Core.List.{append-nil}
use Rattle.course.specs.InnerSteps.{strokes_in}
use Rattle.course.proofs.Course.with.Goals as goal

pub returns : goal.returns
unfolding strokes_in
returns c =
    let none = c.undrawn-none.ensures in
    (rw none.0 (append-nil _), refl, record { span = c.requires; tip = none.1; connector = none.1 })
