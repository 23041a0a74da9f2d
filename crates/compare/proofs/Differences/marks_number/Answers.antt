-- `compare::Differences::marks_number` meets its contract. Assumes nothing.
use mathlib.Core.Path.{◌∙◌}
use Rattle.compare.proofs.Told.{bit-byte}
use Rattle.compare.proofs.Differences.marks_number.Goals as goal

pub returns : goal.returns
returns c = c.from.ensures ∙ bit-byte c.args.self.marks
