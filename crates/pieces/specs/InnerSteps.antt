-- The steps of the calls: strokes stored in rows, vertex by vertex. No rule rests on these: `proofs/Stored.antt` ties them to the pieces of the rules. Definitions only.
use Rattle.std.specs.Prelude.{◌≡◌, ℕ, ◌+◌, ◌*◌, ◌≤◌, List, [], ◌∷◌, Bool, false, not, eqb, is_some, Float}
use Rattle.floats.specs.Choice.{when◌give◌else◌}
use Rattle.segments.specs.declared.Settings.{Settings}
use Rattle.segments.specs.declared.PlineVertex.{PlineVertex}
use Rattle.segments.specs.Modes.{are_pointed}
use Rattle.walk.specs.Walk.{moves_a_segment}
use Rattle.moves.specs.Drawing.{bit}
use Rattle.sheet.specs.declared.Places.{Places}
use Rattle.sheet.specs.InnerSteps.{Contents, no_places, Laid, laid, stores, Rooms}
use Rattle.course.specs.declared.Course.{Course}
use Rattle.course.specs.declared.Ending.{Ending}
use Rattle.course.specs.Course.{step_on, refusal_of}
use Rattle.course.specs.InnerSteps.{step_strokes}
use Rattle.pieces.specs.declared.Taken.{Taken}
use Rattle.pieces.specs.declared.OpenJob.{OpenJob}
use Rattle.pieces.specs.declared.DrawAnswer.{DrawAnswer}
use Rattle.pieces.specs.Calls.{drawing, refused, staged}

-- how far vertices are taken, and what is stored of them
pub record Went : Type 0 where
  pub laid : Laid
  pub course : Course
  pub refusal : ℕ

abbrev pub went : Taken → Contents → Went
went t b = record { laid = laid t.places b; course = t.course; refusal = t.refusal }

unfoldable pub went_one : Settings → PlineVertex → Went → Went
went_one σ c g =
    let n = refusal_of σ g.course c in
    when not (eqb g.refusal 0) give g else
    when eqb n 0 give record { laid = stores (step_strokes σ g.course c) g.laid; course = (step_on σ g.course c).course; refusal = 0 } else
    record { laid = g.laid; course = g.course; refusal = n }

unfoldable pub went_all : Settings → List PlineVertex → Went → Went
went_all σ [] g = g
went_all σ (c ∷ vs) g = went_all σ vs (went_one σ c g)

-- what n vertices more need
pub record Ready (n : ℕ) (g : Went) (σ : Settings) (pointed : Bool) : Type 0 where
  pub taken : g.course.taken ≤ 4096
  pub number : g.course.number ≤ 3 * g.course.taken
  pub told : pointed ≡ are_pointed σ.corners
  pub rooms : Rooms (moves_a_segment σ.corners * n) g.laid

-- before the first vertex of a call
abbrev pub none_taken : Course → Taken
none_taken w = record { course = w; refusal = 0; places = no_places }

-- ---- what a call leaves

abbrev pub counted : ℕ → ℕ → Places → DrawAnswer
counted n k p = record { number = n; place = k; vertices = p.strokes; indexes = p.marks; segments = p.strokes }

unfoldable pub taken_answer : Taken → DrawAnswer
taken_answer t = when eqb t.refusal 0 give counted 0 0 t.places else counted t.refusal t.course.taken t.places

unfoldable pub taken_job : Taken → OpenJob → OpenJob
taken_job t j = when eqb t.refusal 0 give staged drawing 0 0 t.course j else staged refused t.refusal t.course.taken t.course j

-- at the end
abbrev pub end_counts : Places → Ending → DrawAnswer
end_counts p e = record { number = 0; place = 0; vertices = p.strokes + bit (is_some e.last); indexes = p.marks; segments = p.strokes }
