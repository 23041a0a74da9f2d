-- No answer has more vertices than the room asked for. Assumes nothing.
use Prim.Native.Nat.{◌≤◌}
use native.Mathlib.Omega.{arith}
use Rattle.source.specs.Source.{vertices_in, segments_of}
use Rattle.walk.specs.Walk.{moves_a_segment, copied}
use Rattle.walk.proofs.Lengths.{two-moves, drawing-fits}
use Rattle.sheet.proofs.Products.{product_most}
use Rattle.sheet.proofs.Copied.{source-room}
use Rattle.job.specs.Job.{result_in}
use Rattle.job.specs.Rows.{Job, outcome, count, places}
use Rattle.job.proofs.Ways.{Way, ragged, many, bad, few, tight, copy, repeated, endless, whole, leads_to, ends, way}

fits : (j : Job) (w : Way j) → (result_in (leads_to j w).answer).vertices ≤ places j
unfolding copied
fits j (ragged r) = omega arith
fits j (many r) = omega arith
fits j (bad k r) = omega arith
fits j (few n h) = omega arith
fits j (tight r) = omega arith
fits j (copy r z) =
    let room = source-room j.closed (count j) r.two in
    let more = product_most 2 (moves_a_segment j.settings.corners) (segments_of j.closed (count j)) (two-moves j.settings.corners) in
    omega (arith, room, more)
fits j (repeated k r) = omega arith
fits j (endless r) = omega arith
fits j (whole d f) = (drawing-fits j.closed j.settings (vertices_in j.source)).vertices

pub vertices-fit : (j : Job) → (result_in (outcome j).answer).vertices ≤ places j
vertices-fit j = rw (ends j (way j)) at (fits j (way j))
