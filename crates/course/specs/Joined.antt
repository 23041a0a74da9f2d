-- What drawn vertices are held to (02's 2026-05): what the rules draw of all of them at once, and when a piece is the beginning of that. `proofs/Joined.antt` shows the law of the
-- request. Definitions only.
use Rattle.std.specs.Prelude.{◌≡◌, List, ◌++◌, false, ℕ, ltb, length}
use Rattle.std.specs.Float.Ieee.{eq}
use Rattle.floats.specs.Binary64.{zero}
use Rattle.floats.specs.Choice.{when◌give◌else◌}
use Rattle.segments.specs.declared.Settings.{Settings}
use Rattle.segments.specs.declared.PlineVertex.{PlineVertex}
use Rattle.moves.specs.declared.Origin.{Origin}
use Rattle.moves.specs.Drawing.{Drawing, nothing}
use Rattle.walk.specs.Walk.{drawing_of, copied}

-- all vertices at once, open (01 §1, §2)
unfoldable pub drawn_whole : Settings → List PlineVertex → Drawing
drawn_whole σ vs =
    when ltb (length vs) 2 give nothing else
    when eq σ.offset zero give copied false vs else
    drawing_of false σ vs

-- each list of d is the beginning of that of e
pub record Beginning (d e : Drawing) : Type 0 where
  pub vertices : List PlineVertex
  pub flags : List ℕ
  pub indexes : List ℕ
  pub origins : List Origin
  pub vertices-begin : d.vertices ++ vertices ≡ e.vertices
  pub flags-begin : d.flags ++ flags ≡ e.flags
  pub indexes-begin : d.indexes ++ indexes ≡ e.indexes
  pub origins-begin : d.origins ++ origins ≡ e.origins
