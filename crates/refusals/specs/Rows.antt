-- Nos. 3 and 5 of 01 §1, as 02's 2026-02 and 2026-13 have them, as propositions over the vertices, with no search in them. Definitions only.
use Rattle.std.specs.Prelude.{◌≡◌, List, Bool, true, ℕ, ◌+◌, ◌<◌, T, length, get_or, Float}
use Rattle.std.specs.Float.{nan, inf}
use Rattle.std.specs.Float.Ieee.{neg, lt, eq}
use Rattle.segments.specs.declared.Corners.TheVariants.{Pointed}
use Rattle.segments.specs.declared.PlineVertex.{PlineVertex}
use Rattle.segments.specs.declared.Settings.{Settings}
use Rattle.refusals.specs.Limits.{reach, bulge_limit, least_eps, most_eps, least_ratio, most_ratio}

-- a NaN, an infinity, or outside the limits
pub data Bad (lo hi x : Float) : Type 0 where
  not-a-number : x ≡ nan → Bad lo hi x
  infinite : (s : Bool) → x ≡ inf s → Bad lo hi x
  below : T (lt x lo) → Bad lo hi x
  above : T (lt hi x) → Bad lo hi x

pub data BadVertex (v : PlineVertex) : Type 0 where
  by-x : Bad (neg reach) reach v.x → BadVertex v
  by-y : Bad (neg reach) reach v.y → BadVertex v
  by-bulge : Bad (neg bulge_limit) bulge_limit v.bulge → BadVertex v

-- vertex k of the source is there, and is v
pub record VertexIs (vs : List PlineVertex) (k : ℕ) (v : PlineVertex) : Type 0 where
  pub there : k < length vs
  pub is : get_or vs k v ≡ v

-- no vertex before place k is bad
abbrev pub NoneBadBefore : List PlineVertex → ℕ → Type 0
NoneBadBefore vs k = (j : ℕ) (v : PlineVertex) → j < k → VertexIs vs j v → BadVertex v → ⊥

-- No. 3 at place k: the first bad vertex; or the offset, at v, where no vertex is bad; or ε, at v + 1, where the offset is not bad either; or the ratio of pointed corners, at
-- v + 2, where ε is not bad either
pub data NumberRow (vs : List PlineVertex) (σ : Settings) : ℕ → Type 0 where
  vertex : (k : ℕ) (v : PlineVertex) → VertexIs vs k v → BadVertex v → NoneBadBefore vs k → NumberRow vs σ k
  by-offset : NoneBadBefore vs (length vs) → Bad (neg reach) reach σ.offset → NumberRow vs σ (length vs)
  by-eps : NoneBadBefore vs (length vs) → (Bad (neg reach) reach σ.offset → ⊥) → Bad least_eps most_eps σ.eps → NumberRow vs σ (length vs + 1)
  by-ratio : NoneBadBefore vs (length vs) → (Bad (neg reach) reach σ.offset → ⊥) → (Bad least_eps most_eps σ.eps → ⊥)
      → (ratio : Float) → σ.corners ≡ Pointed ratio → Bad least_ratio most_ratio ratio → NumberRow vs σ (length vs + 2)

-- two vertices are equal in x and in y
pub record Repeats (a b : PlineVertex) : Type 0 where
  pub x : T (eq a.x b.x)
  pub y : T (eq a.y b.y)

-- vertices a at k and b are joined by a segment: b follows a, or the source is closed, a is its last vertex and b its first
pub data Joined (closed : Bool) (vs : List PlineVertex) (k : ℕ) (a b : PlineVertex) : Type 0 where
  next : VertexIs vs k a → VertexIs vs (k + 1) b → Joined closed vs k a b
  closing : closed ≡ true → k + 1 ≡ length vs → VertexIs vs k a → VertexIs vs 0 b → Joined closed vs k a b

-- No. 5 at place k: the first joined pair that repeats, by its earlier vertex
pub record RepeatedRow (vs : List PlineVertex) (closed : Bool) (k : ℕ) : Type 0 where
  pub a : PlineVertex
  pub b : PlineVertex
  pub joined : Joined closed vs k a b
  pub repeats : Repeats a b
  pub first : (j : ℕ) (p q : PlineVertex) → j < k → Joined closed vs j p q → Repeats p q → ⊥
