-- A join is what is settled without intersection, and the inner join where nothing is. Assumes nothing.
use mathlib.Core.Path.{◌≡◌, refl}
use Rattle.vectors.specs.declared.Vector2.{Vector2}
use Rattle.segments.specs.declared.RawOffsetSeg.{RawOffsetSeg}
use Rattle.segments.specs.declared.Settings.{Settings}
use Rattle.joins.specs.declared.JoinTurn.{JoinTurn}
use Rattle.joins.specs.declared.JoinTurn.TheVariants.{Coincident, ZeroTangent, SameDirection, Reversal, Outer, Inner}
use Rattle.joins.specs.Join.{inner_join, join_by}
use Rattle.joins.specs.InnerSteps.{settled_by, or_else_join}

pub settled_or_inner : (turn : JoinTurn) (current next : RawOffsetSeg) (shared : Vector2) (σ : Settings) →
    join_by turn current next shared σ ≡ or_else_join (settled_by turn current next shared σ) (inner_join current next shared σ.eps)
settled_or_inner Coincident current next shared σ = refl
settled_or_inner ZeroTangent current next shared σ = refl
settled_or_inner SameDirection current next shared σ = refl
settled_or_inner Reversal current next shared σ = refl
settled_or_inner Outer current next shared σ = refl
settled_or_inner Inner current next shared σ = refl
