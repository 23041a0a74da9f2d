-- The packed job that `rawoffset` reads (01 §5), and the pointed one of `rawpointed` (02's 2026-13), over the list of its bytes: fields stand most significant first. Definitions only.
use Rattle.std.specs.Prelude.{ℕ, zero, suc, ◌+◌, ◌*◌, ◌/◌, ◌%◌, List, [], ◌∷◌, ◌++◌, Bool, true, false, eqb, leb, length, drop, Float, Option, Some, None}
use Rattle.floats.specs.Choice.{when◌give◌else◌, ◌and◌}
use Rattle.words.specs.Words.{big_endian, number_at}
use Rattle.segments.specs.declared.Corners.{Corners}
use Rattle.segments.specs.declared.Settings.{Settings}
use Rattle.packed.specs.declared.unpacked.Form.{Form}
use Rattle.packed.specs.declared.unpacked.Form.TheVariants.{Round, Pointed, Either}
use Rattle.packed.specs.declared.unpacked.PackedJob.{PackedJob}

-- 01 §5: the first 16 bits are closed (1 bit), zero (3 bits) and v (12 bits)
unfoldable pub header_of : List ℕ → ℕ
header_of bytes = big_endian bytes 0 2

unfoldable pub closed_of : List ℕ → Bool
closed_of bytes = eqb (header_of bytes / 32768) 1

unfoldable pub zero_of : List ℕ → ℕ
zero_of bytes = header_of bytes / 4096 % 8

unfoldable pub count_of : List ℕ → ℕ
count_of bytes = header_of bytes % 4096

-- 01 §5: then 64 bits each for the offset, ε, and x, y and bulge of each vertex
unfoldable pub offset_of : List ℕ → Float
offset_of bytes = number_at bytes 2

unfoldable pub eps_of : List ℕ → Float
eps_of bytes = number_at bytes 10

-- the first k numbers of the vertices
unfoldable pub numbers_of : List ℕ → ℕ → List Float
numbers_of bytes zero = []
numbers_of bytes (suc k) = numbers_of bytes k ++ number_at bytes (18 + 8 * k) ∷ []

unfoldable pub source_of : List ℕ → List Float
source_of bytes = numbers_of bytes (3 * count_of bytes)

-- 01 §5: the size fits the count, no zero bit is set, and there are at most 512 vertices
unfoldable pub well_formed : List ℕ → Bool
well_formed bytes = eqb (length bytes) (2 + 16 + 24 * count_of bytes) and eqb (zero_of bytes) 0 and leb (count_of bytes) 512

-- what a packed job asks for, with corners that are told beside it
abbrev pub settings_of : Corners → List ℕ → Settings
settings_of corners bytes = record { offset = offset_of bytes; eps = eps_of bytes; corners = corners }

unfoldable pub packed_of : Corners → List ℕ → PackedJob
packed_of corners bytes = record { closed = closed_of bytes; vertices = count_of bytes; settings = settings_of corners bytes }

-- the answer and what the lent list holds
pub record Decoded : Type 0 where
  pub answer : Option PackedJob
  pub source : List Float

abbrev pub decoded : Option PackedJob → List Float → Decoded
decoded p s = record { answer = p; source = s }

-- The job, with the vertices' numbers at the start of the list and the rest as it was; or none, where it is malformed, and the list as it was.
unfoldable pub decoded_by : Corners → List ℕ → List Float → Decoded
decoded_by corners bytes old =
    when well_formed bytes give decoded (Some (packed_of corners bytes)) (source_of bytes ++ drop (3 * count_of bytes) old) else decoded None old

-- ---- a packed job, a pointed one, or either

-- 02's 2026-13: a pointed packed job is the ratio, 64 bits, and then a packed job. Where either may come, the size tells them apart.
abbrev pub has_ratio : Form → ℕ → Bool
has_ratio Round size = false
has_ratio Pointed size = true
has_ratio Either size = eqb (size % 24) 2

unfoldable pub job_in : Form → List ℕ → List ℕ
job_in form bytes = when has_ratio form (length bytes) give drop 8 bytes else bytes

unfoldable pub corners_in : Form → List ℕ → Corners
corners_in form bytes = when has_ratio form (length bytes) give Corners.Pointed (number_at bytes 0) else Corners.Round

abbrev pub decoded_of : Form → List ℕ → List Float → Decoded
decoded_of form bytes old = decoded_by (corners_in form bytes) (job_in form bytes) old
