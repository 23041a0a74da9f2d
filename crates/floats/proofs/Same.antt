-- Each operation gives equal results at equal arguments: what a search needs to follow a chain of calls. Assumes nothing.
use Rattle.std.proofs.Common.{◌≡◌, sym, refl, ◌∙◌}
use lib.Ieee.{Float, binary64, add, sub, mul, div, neg, lt, le}
use Rattle.floats.specs.Size.{abs_of}
use Rattle.floats.specs.Root.{sqrt_of}
use Rattle.floats.proofs.Choice.{yes, no, and_yes, and_no, or_yes, or_no}

pub add_same : (a b c d : Float) → a ≡ b → c ≡ d → add binary64 a c ≡ add binary64 b d
add_same a b c d p q = cc

pub sub_same : (a b c d : Float) → a ≡ b → c ≡ d → sub binary64 a c ≡ sub binary64 b d
sub_same a b c d p q = cc

pub mul-same : (a b c d : Float) → a ≡ b → c ≡ d → mul binary64 a c ≡ mul binary64 b d
mul-same a b c d p q = cc

pub div_same : (a b c d : Float) → a ≡ b → c ≡ d → div binary64 a c ≡ div binary64 b d
div_same a b c d p q = cc

pub neg_same : (a b : Float) → a ≡ b → neg a ≡ neg b
neg_same a b p = cc

pub lt_same : (a b c d : Float) → a ≡ b → c ≡ d → lt a c ≡ lt b d
lt_same a b c d p q = cc

pub le_same : (a b c d : Float) → a ≡ b → c ≡ d → le a c ≡ le b d
le_same a b c d p q = cc

pub abs-same : (a b : Float) → a ≡ b → abs_of a ≡ abs_of b
abs-same a b p = cc

pub sqrt-same : (a b : Float) → a ≡ b → sqrt_of a ≡ sqrt_of b
sqrt-same a b p = cc

-- the fact first: it shows what was tested
pub tested : {X : Type 0} {a b v : X} → a ≡ v → a ≡ b → b ≡ v
tested p q = sym q ∙ p

pub ruleset sames = (refl, tt, add_same, sub_same, mul-same, div_same, neg_same, lt_same, le_same, abs-same, sqrt-same)

pub ruleset choices = (sames, yes, no, and_yes, and_no, or_yes, or_no, tested)
