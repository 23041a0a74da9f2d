-- `joins::inner_join` meets its contract. Assumes nothing.
use mathlib.Core.Path.{subst}
use Rattle.segments.specs.declared.RawOffsetSeg.TheVariants.{Arc}
use Rattle.segments.specs.InnerSteps.{full_seg}
use Rattle.meetings.specs.declared.SeenArc.{SeenArc}
use Rattle.meetings.specs.InnerSteps.{angled}
use Rattle.joins.specs.Join.{inner_join}
use Rattle.joins.specs.Rules.{ruled_boundary}
use Rattle.joins.specs.InnerSteps.{Joins}
use Rattle.joins.proofs.Seen.{unseen_joins}
use Rattle.joins.proofs.inner_join.Goals as goal

pub returns-in-Line : goal.returns-in-Line
returns-in-Line c = rw c.in-Line.is c.join_from_line.ensures

pub returns-in-Arc : goal.returns-in-Arc
returns-in-Arc c =
    let a = c.args in
    rw c.in-Arc.is
    (subst (λ (x : SeenArc). Joins c.join_from_arc.result (ruled_boundary (Arc (angled x)) (full_seg a.next) a.eps (inner_join (Arc (angled x)) (full_seg a.next) a.shared_source_vertex a.eps)) a.next) c.seen_arc.ensures c.join_from_arc.ensures)

pub returns-in-Collapsed : goal.returns-in-Collapsed
unfolding ruled_boundary
returns-in-Collapsed c = rw c.in-Collapsed.is (unseen_joins _ c.unseen.ensures (simp (c.collapsed_side.ensures, c.start.ensures)))
