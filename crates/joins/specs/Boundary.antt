-- The boundary between two offset segments: its cause, where the current span ends and the next one starts, and the connector between them (000's JoinBoundary, with
-- the cause for the class, and its tip: where it has none, its next start). No rule is told as yet: `ruled_join` (Rules.antt) tells them. Definitions only.
use Rattle.std.specs.Prelude.{None, Float}
use Rattle.floats.specs.Binary64.{zero, one}
use Rattle.vectors.specs.declared.Vector2.{Vector2}
use Rattle.joins.specs.declared.JoinCause.{JoinCause}
use Rattle.joins.specs.declared.JoinCause.TheVariants.{Met}
use Rattle.joins.specs.declared.JoinBoundary.{JoinBoundary}

-- both spans whole, with a connector of the given bulge
abbrev pub connected : JoinCause → Vector2 → Vector2 → Float → JoinBoundary
connected cause a b bulge = record {
  cause = cause;
  current_rule = None;
  next_rule = None;
  current_end = a;
  current_param = one;
  next_start = b;
  next_param = zero;
  connector_bulge = bulge;
  tip = b;
}

-- 000's line_connection_boundary: a straight connector
abbrev pub straight : JoinCause → Vector2 → Vector2 → JoinBoundary
straight cause a b = connected cause a b zero

-- 000's trimmed_boundary: both spans cut at one point
abbrev pub trimmed : Vector2 → Float → Float → JoinBoundary
trimmed p s t = record {
  cause = Met;
  current_rule = None;
  next_rule = None;
  current_end = p;
  current_param = s;
  next_start = p;
  next_param = t;
  connector_bulge = zero;
  tip = p;
}
