-- `compare::Output::vertices` meets its contract. Assumes nothing.
use mathlib.Core.Path.{sym, ap, ◌∙◌}
use lib.ListN.{length}
use Rattle.source.proofs.Source.{length-vertices}
use Rattle.compare.specs.Compare.{Output, points_of}
use Rattle.compare.proofs.Output.vertices.Goals as goal

pub returns : goal.returns
returns c = sym (length-vertices _) ∙ ap (λ (o : Output). length (points_of o)) c.self.view_is
