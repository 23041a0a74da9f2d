-- `sheet::copy` meets its contract. Assumes nothing.
use mathlib.Core.Path.{◌∙◌}
use native.Mathlib.Omega.{arith}
use lib.ListN.{length}
use Rattle.source.specs.Source.{vertices_in}
use Rattle.source.proofs.Segments.{segments-most}
use Rattle.moves.proofs.Origins.{origins-length}
use Rattle.walk.specs.Walk.{copied}
use Rattle.sheet.proofs.Copied.{source_fits, copied-fits, spans_fit, source-within, copied-shown}
use Rattle.sheet.proofs.copy.Goals as goal

pub copy_vertices-requires : goal.copy_vertices-requires
copy_vertices-requires g c = let pre = c.requires in source_fits _ _ _ _ _ pre.0 pre.1

pub wipe-requires : goal.wipe-requires
wipe-requires g c =
    let pre = c.requires in
    rw c.count-v.ensures (source-within _ _ _ _ _ pre.0 pre.1 pre.2 _ (copied-fits _ _ _ _ _ pre.0 pre.1 c.copy_vertices.ensures))

pub put_spans-requires : goal.put_spans-requires
put_spans-requires g c =
    let pre = c.requires in
    let fits = spans_fit _ _ _ _ _ pre.0 pre.1 _ (rw c.count-v.ensures at c.wipe.ensures) in
    let n = rw c.count-v.ensures at c.segment_count.ensures in
    (omega (arith, n, fits, origins-length c.wipe.new.marks.origins.now), omega (arith, n, pre.0.most, segments-most c.args.closed (length (vertices_in (g.S.Vertices.lent c.args.source)))))

pub returns : goal.returns
unfolding copied
returns g c =
    let pre = c.requires in (
      rw c.count-v.ensures,
      copied-shown _ _ _ _ _ pre.0 pre.1 _ _ (rw c.count-v.ensures at c.wipe.ensures ∙ rw c.copy_vertices.ensures) (c.put_spans.ensures ∙ rw (c.segment_count.ensures, c.count-v.ensures)),
    )
