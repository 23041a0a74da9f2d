-- What kept moves draw, by how many they are, and the room that it takes. Assumes nothing.
use mathlib.Core.Path.{◌≡◌, refl}
use mathlib.Core.List.{List, [], ◌∷◌, ◌++◌}
use mathlib.Core.Bool.{Bool, true, false}
use Prim.Native.Nat.{ℕ, ◌+◌, ◌<◌, ◌≤◌}
use native.Mathlib.Omega.{arith}
use lib.ListN.{length, length-append}
use Rattle.floats.specs.Binary64.{zero}
use Rattle.vectors.specs.declared.Vector2.{Vector2}
use Rattle.segments.specs.Vertex.{vertex_at}
use Rattle.moves.specs.declared.Move.{Move}
use Rattle.moves.specs.Drawing.{Drawing, nothing, drawn_open, drawn_closed, last_point, corners, flags_of, marks, origins_of}
use Rattle.moves.specs.InnerSteps.{Fits}
use Rattle.moves.proofs.Lists.{length-corners, length-flags_of, length-marks, length-origins_of}

-- the lists of kept moves, as an unfinished drawing
abbrev pub path : Vector2 → List Move → Bool → Drawing
path p ks c = record { vertices = corners p ks; flags = flags_of ks; indexes = marks 0 ks; origins = origins_of ks; closed = c }

pub path_fits : (room : ℕ) (p : Vector2) (ks : List Move) (c : Bool) → length ks ≤ room → Fits room (path p ks c)
path_fits room p ks c l =
    let a = length-corners p ks in
    let b = length-flags_of ks in
    let i = length-marks 0 ks in
    let o = length-origins_of ks in
    record { vertices = omega arith; flags = omega arith; indexes = omega arith; origins = omega arith }

-- and with the last point of an open one
abbrev pub ray : Vector2 → List Move → Drawing
ray p ks = record { vertices = corners p ks ++ vertex_at (last_point p ks) zero ∷ []; flags = flags_of ks; indexes = marks 0 ks; origins = origins_of ks; closed = false }

pub length_ray : (p : Vector2) (ks : List Move) → length ks + 1 ≡ length (ray p ks).vertices
length_ray p ks = let a = length-corners p ks in let l = length-append (corners p ks) (vertex_at (last_point p ks) zero ∷ []) in omega arith

pub ray_fits : (room : ℕ) (p : Vector2) (ks : List Move) → length ks + 1 ≤ room → Fits room (ray p ks)
ray_fits room p ks l =
    let a = length_ray p ks in
    let b = length-flags_of ks in
    let i = length-marks 0 ks in
    let o = length-origins_of ks in
    record { vertices = omega arith; flags = omega arith; indexes = omega arith; origins = omega arith }

-- what is drawn, by the number of moves
pub open_none : (p : Vector2) (ks : List Move) → length ks ≡ 0 → drawn_open p ks ≡ nothing
unfolding drawn_open
open_none p [] h = refl
open_none p (k ∷ ks) h = absurd (omega arith)

pub open_some : (p : Vector2) (ks : List Move) → (length ks ≡ 0 → ⊥) → drawn_open p ks ≡ ray p ks
unfolding drawn_open
open_some p [] h = absurd (h refl)
open_some p (k ∷ ks) h = refl

pub closed-few : (p : Vector2) (ks : List Move) → length ks < 2 → drawn_closed p ks ≡ nothing
unfolding drawn_closed
closed-few p [] h = refl
closed-few p (k ∷ []) h = refl
closed-few p (k ∷ l ∷ ks) h = absurd (omega arith)

pub closed_some : (p : Vector2) (ks : List Move) → 2 ≤ length ks → drawn_closed p ks ≡ path p ks true
unfolding drawn_closed
closed_some p [] h = absurd (omega arith)
closed_some p (k ∷ []) h = absurd (omega arith)
closed_some p (k ∷ l ∷ ks) h = refl

-- a drawing fits its room
pub nothing-fits : (room : ℕ) → Fits room nothing
nothing-fits room = record { vertices = omega arith; flags = omega arith; indexes = omega arith; origins = omega arith }

pub fits_open : (room : ℕ) (p : Vector2) (ks : List Move) → length ks + 1 ≤ room → Fits room (drawn_open p ks)
unfolding drawn_open
fits_open room p [] l = nothing-fits room
fits_open room p (k ∷ ks) l = ray_fits room p (k ∷ ks) l

pub fits-closed : (room : ℕ) (p : Vector2) (ks : List Move) → length ks ≤ room → Fits room (drawn_closed p ks)
unfolding drawn_closed
fits-closed room p [] l = nothing-fits room
fits-closed room p (k ∷ []) l = nothing-fits room
fits-closed room p (k ∷ j ∷ ks) l = path_fits room p (k ∷ j ∷ ks) true l
