-- `sheet::chord_to` meets its contract. Assumes nothing.
use mathlib.Core.Path.{ap, ◌∙◌}
use Rattle.segments.specs.InnerSteps.{chord_of}
use Rattle.sheet.proofs.chord_to.Goals as goal

pub returns : goal.returns
returns g c =
    c.chord_length.ensures ∙ ap (chord_of _) c.vertex.ensures
