-- `compare::Output::fields_at` meets its contract. Assumes nothing.
use mathlib.Core.Path.{sym}
use Rattle.source.specs.InnerSteps.{vertex_of}
use Rattle.compare.specs.Compare.{fields_at}
use Rattle.compare.proofs.Output.fields_at.Goals as goal

pub returns : goal.returns
unfolding fields_at vertex_of
returns c =
    let first = sym c.self.view_is in
    let second = sym c.other.view_is in
    simp (
      c.flag_at-2.ensures,
      c.flag_at.ensures,
      c.differ-3.ensures,
      c.differ-2.ensures,
      c.differ.ensures,
      c.vertex_at-w.ensures,
      c.vertex_at-v.ensures,
      first,
      second,
    )
