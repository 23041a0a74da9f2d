-- `connector_bulge` meets its contract. Assumes nothing.
use mathlib.Core.Path.{ap, ◌∙◌}
use Rattle.floats.specs.declared.Roots.{Roots}
use Rattle.floats.specs.Root.{sqrt_of}
use Rattle.floats.proofs.Choice.{yes, no}
use Rattle.vectors.specs.Plane.{length_of}
use Rattle.joins.specs.Connector.{connector_bulge_of}
use Rattle.joins.proofs.connector_bulge.Goals as goal

-- the roots are the lengths
pub normalize_by-current_direction-requires : goal.normalize_by-current_direction-requires
unfolding length_of
normalize_by-current_direction-requires c = ap (λ (r : Roots). r.first) c.roots_near-lengths.ensures ∙ ap sqrt_of c.length_squared.ensures

pub normalize_by-next_direction-requires : goal.normalize_by-next_direction-requires
unfolding length_of
normalize_by-next_direction-requires c = ap (λ (r : Roots). r.second) c.roots_near-lengths.ensures ∙ ap sqrt_of c.length_squared-2.ensures

pub returns-then-offset : goal.returns-then-offset
unfolding connector_bulge_of
returns-then-offset c = yes _ _ _ c.if-offset.true (simp (c.bulge_size-size.ensures, c.clamp_sin-sin_sweep.ensures, c.abs-2.ensures, c.perp_dot.ensures, c.clamp_cos-cos_sweep.ensures, c.dot.ensures, c.normalize_by-next_direction.ensures, c.normalize_by-current_direction.ensures, c.sub-to_start.ensures, c.sub-to_end.ensures))

pub returns : goal.returns
unfolding connector_bulge_of
returns c = no _ _ _ c.if-offset.false (cc)
