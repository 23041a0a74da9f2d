-- What a job asks for in either mode (02's 2026-13). Definitions only.
use Rattle.std.specs.Prelude.{Bool, true, false, Float}
use Rattle.segments.specs.declared.Corners.{Corners}
use Rattle.segments.specs.declared.Corners.TheVariants.{Round, Pointed}
use Rattle.segments.specs.declared.Settings.{Settings}

abbrev pub are_pointed : Corners → Bool
are_pointed Round = false
are_pointed (Pointed ratio) = true

-- round corners: all that 01 has
abbrev pub round_by : Float → Float → Settings
round_by offset ε = record { offset = offset; eps = ε; corners = Round }

-- pointed ones, up to a ratio
abbrev pub pointed_by : Float → Float → Float → Settings
pointed_by offset ε ratio = record { offset = offset; eps = ε; corners = Pointed ratio }
