-- `meetings::line_arc_nearer` meets its contract. Assumes nothing.
use Rattle.meetings.proofs.Nearer.{either, the_first, the_second}
use Rattle.meetings.proofs.line_arc_nearer.Goals as goal

pub returns-then-squared_distances_equal : goal.returns-then-squared_distances_equal
returns-then-squared_distances_equal c =
    either _ _ _ _ _ _ _ _ _ c.dist_squared-dist1.ensures c.dist_squared-dist2.ensures c.squared_distances_equal.ensures c.if-squared_distances_equal.true
    c.line_arc_either.ensures

pub returns-then-dist1-dist2 : goal.returns-then-dist1-dist2
returns-then-dist1-dist2 c =
    the_first _ _ _ _ _ _ _ _ _ c.dist_squared-dist1.ensures c.dist_squared-dist2.ensures c.squared_distances_equal.ensures c.if-squared_distances_equal.false
    c.if-dist1-dist2.true c.line_arc_candidate.ensures

pub returns : goal.returns
returns c =
    the_second _ _ _ _ _ _ _ _ _ c.dist_squared-dist1.ensures c.dist_squared-dist2.ensures c.squared_distances_equal.ensures c.if-squared_distances_equal.false
    c.if-dist1-dist2.false c.line_arc_candidate-2.ensures
