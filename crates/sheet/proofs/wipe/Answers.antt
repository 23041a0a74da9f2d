-- `sheet::wipe` meets its contract. Assumes nothing.
use native.Mathlib.Omega.{arith}
use Rattle.moves.proofs.Origins.{origins-length}
use Rattle.sheet.specs.InnerSteps.{wiped}
use Rattle.sheet.proofs.Origins.{origins-cleared}
use Rattle.sheet.proofs.wipe.Goals as goal

pub clear-requires-3 : goal.clear-requires-3
clear-requires-3 g c =
    (c.requires.from-flag, omega (arith, c.requires.origins, origins-length c.args.marks.now.origins.now))

pub returns : goal.returns
unfolding wiped
returns g c =
    rw (c.clear_vertices.ensures, c.clear.ensures, c.clear-2.ensures, c.clear-3.ensures, origins-cleared)
