-- The lists that kept moves draw: with one move more, and how long they are. Assumes nothing.
use mathlib.Core.Path.{◌≡◌, refl, ap, ◌∙◌}
use mathlib.Core.List.{List, [], ◌∷◌, ◌++◌}
use mathlib.Core.Bool.{Bool, true, false}
use Prim.Native.Nat.{ℕ, suc, ◌+◌, ◌≤◌}
use native.Mathlib.Nat.{add-suc, suc-add, add-zero}
use native.Mathlib.Omega.{arith}
use lib.ListN.{length}
use Rattle.vectors.specs.declared.Vector2.{Vector2}
use Rattle.segments.specs.declared.PlineVertex.{PlineVertex}
use Rattle.segments.specs.Vertex.{vertex_at}
use Rattle.moves.specs.declared.Move.{Move}
use Rattle.moves.specs.declared.Origin.{Origin}
use Rattle.moves.specs.Moves as M
use Rattle.moves.specs.Reason.{invalid_move}
use Rattle.moves.specs.Drawing.{last_point, corners, flags_of, marks, mark, bit, origins_of}

-- ---- one move more

pub corners-snoc : (p : Vector2) (ks : List Move) (m : Move) → corners p (ks ++ m ∷ []) ≡ corners p ks ++ vertex_at (last_point p ks) m.bulge ∷ []
unfolding corners M.last_point
corners-snoc p [] m = refl
corners-snoc p (k ∷ ks) m = ap (λ (t : List PlineVertex). vertex_at p k.bulge ∷ t) (corners-snoc k.end ks m)

pub flags_of-snoc : (ks : List Move) (m : Move) → flags_of (ks ++ m ∷ []) ≡ flags_of ks ++ bit (invalid_move m) ∷ []
unfolding flags_of
flags_of-snoc [] m = refl
flags_of-snoc (k ∷ ks) m = ap (λ (t : List ℕ). bit (invalid_move k) ∷ t) (flags_of-snoc ks m)

pub origins_of-snoc : (ks : List Move) (m : Move) → origins_of (ks ++ m ∷ []) ≡ origins_of ks ++ m.origin ∷ []
unfolding origins_of
origins_of-snoc [] m = refl
origins_of-snoc (k ∷ ks) m = ap (λ (t : List Origin). k.origin ∷ t) (origins_of-snoc ks m)

mark-append : (b : Bool) (k : ℕ) (xs ys : List ℕ) → mark b k (xs ++ ys) ≡ mark b k xs ++ ys
mark-append true k xs ys = refl
mark-append false k xs ys = refl

pub marks-snoc : (n : ℕ) (ks : List Move) (m : Move) → marks n (ks ++ m ∷ []) ≡ marks n ks ++ mark (invalid_move m) (n + length ks) []
unfolding marks
marks-snoc n [] m = rw add-zero
marks-snoc n (k ∷ ks) m =
    ap (mark (invalid_move k) n) (marks-snoc (suc n) ks m)
    ∙ mark-append (invalid_move k) n (marks (suc n) ks) (mark (invalid_move m) (suc n + length ks) [])
    ∙ rw (suc-add, add-suc)

-- ---- lengths

pub length-corners : (p : Vector2) (ks : List Move) → length (corners p ks) ≡ length ks
unfolding corners
length-corners p [] = refl
length-corners p (k ∷ ks) = ap suc (length-corners k.end ks)

pub length-flags_of : (ks : List Move) → length (flags_of ks) ≡ length ks
unfolding flags_of
length-flags_of [] = refl
length-flags_of (k ∷ ks) = ap suc (length-flags_of ks)

pub length-origins_of : (ks : List Move) → length (origins_of ks) ≡ length ks
unfolding origins_of
length-origins_of [] = refl
length-origins_of (k ∷ ks) = ap suc (length-origins_of ks)

length-mark : (b : Bool) (k : ℕ) (xs : List ℕ) → length (mark b k xs) ≤ suc (length xs)
length-mark true k xs = omega arith
length-mark false k xs = omega arith

pub length-marks : (n : ℕ) (ks : List Move) → length (marks n ks) ≤ length ks
unfolding marks
length-marks n [] = omega arith
length-marks n (k ∷ ks) = omega (arith, length-mark (invalid_move k) n (marks (suc n) ks), length-marks (suc n) ks)
