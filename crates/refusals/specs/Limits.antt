-- What makes a source's numbers bad, and which of its vertices repeat (01 §1, Nos. 3 and 5, as 02's 2026-02 and 2026-13 have them). Definitions only.
use Rattle.std.specs.Prelude.{Option, None, Some, ℕ, suc, List, [], ◌∷◌, ◌++◌, map, Bool, true, false, not, Float}
use Rattle.std.specs.Float.{binary64}
use Rattle.std.specs.Float.Ieee.{neg, le, eq, of_bits}
use Rattle.floats.specs.Choice.{◌and◌}
use Rattle.segments.specs.declared.Corners.{Corners}
use Rattle.segments.specs.declared.Corners.TheVariants.{Round, Pointed}
use Rattle.segments.specs.declared.PlineVertex.{PlineVertex}
use Rattle.segments.specs.declared.Settings.{Settings}
use Rattle.source.specs.Source.{around}

-- 1,000,000: for x, y and the offset, on either side
abbrev pub reach : Float
reach = of_bits binary64 0x412e_8480_0000_0000

-- 1,000,000,000: for a bulge, on either side
abbrev pub bulge_limit : Float
bulge_limit = of_bits binary64 0x41cd_cd65_0000_0000

-- 1e-9 and 0.01: for ε
abbrev pub least_eps : Float
least_eps = of_bits binary64 0x3e11_2e0b_e826_d695

abbrev pub most_eps : Float
most_eps = of_bits binary64 0x3f84_7ae1_47ae_147b

-- 1 and 10: for the ratio of pointed corners (02's 2026-13)
abbrev pub least_ratio : Float
least_ratio = of_bits binary64 0x3ff0_0000_0000_0000

abbrev pub most_ratio : Float
most_ratio = of_bits binary64 0x4024_0000_0000_0000

-- from lo to hi, both counted; a NaN is not
unfoldable pub inside : Float → Float → Float → Bool
inside lo hi x = le lo x and le x hi

unfoldable pub good_vertex : PlineVertex → Bool
good_vertex v = inside (neg reach) reach v.x and inside (neg reach) reach v.y and inside (neg bulge_limit) bulge_limit v.bulge

unfoldable pub good_offset : Float → Bool
good_offset offset = inside (neg reach) reach offset

unfoldable pub good_eps : Float → Bool
good_eps ε = inside least_eps most_eps ε

-- round corners have no number of their own
abbrev pub good_corners : Corners → Bool
good_corners Round = true
good_corners (Pointed ratio) = inside least_ratio most_ratio ratio

-- the tests of No. 3 in their order: each vertex, then the offset at place v, then ε at place v + 1, then the ratio at place v + 2
unfoldable pub number_tests : List PlineVertex → Settings → List Bool
number_tests vs σ = map (λ v. not (good_vertex v)) vs ++ not (good_offset σ.offset) ∷ not (good_eps σ.eps) ∷ not (good_corners σ.corners) ∷ []

-- two vertices are equal in x and in y, by value: −0 equals +0. (The one definition of "repeated".)
unfoldable pub repeats : PlineVertex → PlineVertex → Bool
repeats a b = eq a.x b.x and eq a.y b.y

-- the same of each vertex with the next
unfoldable pub neighbour_tests : List PlineVertex → List Bool
neighbour_tests [] = []
neighbour_tests (a ∷ []) = []
neighbour_tests (a ∷ b ∷ vs) = repeats a b ∷ neighbour_tests (b ∷ vs)

-- the tests of No. 5 in their order: the earlier vertex of a pair is its place, so that last to first has the place v − 1
unfoldable pub repeat_tests : Bool → List PlineVertex → List Bool
repeat_tests closed vs = neighbour_tests (around closed vs)

-- the place of the first test that holds, the first test having the place k
unfoldable pub first_from : ℕ → List Bool → Option ℕ
first_from k [] = None
first_from k (b ∷ bs) = elim b [ true ↦ Some k | false ↦ first_from (suc k) bs ]

abbrev pub first_of : List Bool → Option ℕ
first_of bs = first_from 0 bs
