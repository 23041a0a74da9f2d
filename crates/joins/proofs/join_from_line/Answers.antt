-- `joins::join_from_line` meets its contract. Assumes nothing.
use mathlib.Core.Path.{ap, ◌∙◌}
use Rattle.segments.specs.declared.RawOffsetArc.{RawOffsetArc}
use Rattle.segments.specs.declared.RawOffsetSeg.TheVariants.{Line}
use lib.Ieee.{Float}
use Rattle.meetings.specs.Meetings.{line_arc_meeting}
use Rattle.joins.specs.InnerSteps.{seen_arc}
use Rattle.joins.specs.Rules.{ruled_boundary}
use Rattle.joins.proofs.Rules.{ruled_cut}
use Rattle.joins.proofs.Seen.{unseen_joins, arc_joins}
use Rattle.joins.proofs.join_from_line.Goals as goal

pub returns-in-Line : goal.returns-in-Line
returns-in-Line c = rw c.in-Line.is (unseen_joins _ c.unseen.ensures (simp (c.trimmed_or_gap.ensures, c.line_line_meeting.ensures, ruled_cut)))

pub returns-in-Arc : goal.returns-in-Arc
returns-in-Arc c =
    let arc = c.in-Arc.arc in
    let unknown = c.seen_arc-unknown.ensures ∙ ap (λ (s : Float). seen_arc s arc) c.not_seen.ensures in
    rw c.in-Arc.is
    (arc_joins arc (Line c.args.current) c.args.eps (λ (x : RawOffsetArc). line_arc_meeting c.args.current x c.args.shared_source_vertex c.args.eps) _ unknown c.line_arc_meeting-shown.ensures c.trimmed_or_gap-in-Arc.ensures)

pub returns-in-Collapsed : goal.returns-in-Collapsed
unfolding ruled_boundary
returns-in-Collapsed c = rw c.in-Collapsed.is (unseen_joins _ c.unseen-in-Collapsed.ensures c.collapsed_side.ensures)
