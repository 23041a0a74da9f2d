-- What the slots have: at the start, and after one is written; and the one that stands where a bulge's bits stand. Assumes nothing.
use mathlib.Core.Path.{◌≡◌, refl, sym, ap, ◌∙◌, subst}
use mathlib.Core.Bool.{Bool, true, false}
use mathlib.Core.List.{List, map}
use Prim.Native.Nat.{ℕ, ◌<◌}
use lib.Dec.{T, eqb, eqb→eq, eqb_refl}
use lib.ListN.{length, get_or, set, length-set, length-map, replicate, get_or-replicate}
use lib.Seq.{get_or-set_same, get_or-set_other}
use lib.Ieee.{Float, nan, binary64, fits, of_bits, to_bits, neg, add, sub, mul, div, lt, le, eq}
use lib.Ieee.Bits.{of_bits-to_bits}
use Rattle.std.proofs.lemmas.List.{get_or-map}
use Rattle.floats.specs.Binary64.{zero}
use Rattle.floats.specs.Choice.{when◌give◌else◌}
use Rattle.floats.specs.Size.{abs_of}
use Rattle.floats.specs.Root.{sqrt_of}
use Rattle.angles.specs.Angle.{horner, halve, atan_small, quarter_turn, atan_of, sweep_of}
use Rattle.sweeps.specs.declared.Kept.{Kept}
use Rattle.sweeps.specs.InnerSteps.{Memo}

-- the sweep of +0 is +0
pub sweep-of-zero : zero ≡ sweep_of (of_bits binary64 0)
unfolding sweep_of atan_of atan_small quarter_turn halve horner sqrt_of abs_of when◌give◌else◌ of_bits neg add sub mul div lt le eq
sweep-of-zero = refl

-- a bulge's bits tell its sweep
pub sweep_by_bits : (x : Float) {b : ℕ} → T (fits binary64 x) → b ≡ to_bits binary64 x → sweep_of (of_bits binary64 b) ≡ sweep_of x
sweep_by_bits x held is = ap sweep_of (ap (of_bits binary64) is ∙ of_bits-to_bits binary64 x held)

-- so a slot with a bulge's bits has its sweep
pub found : (k : Kept) (x : Float) {b : ℕ} → T (fits binary64 x) → b ≡ to_bits binary64 x → k.bits ≡ b → k.sweep ≡ sweep_of x
found k x held is e = k.swept ∙ ap (λ (n : ℕ). sweep_of (of_bits binary64 n)) e ∙ sweep_by_bits x held is

-- ---- the slots as two lists

-- a slot may be written with any bulge and its sweep
module _ (ks : List ℕ) (ss : List Float) (i : ℕ) (b : ℕ) (s x : Float) (i_lt : i < 16) (kept : Memo ks ss) where
  here : b ≡ to_bits binary64 x → T (fits binary64 x) → s ≡ sweep_of x → get_or (set ss i s) i nan ≡ sweep_of (of_bits binary64 (get_or (set ks i b) i 0))
  here is held swept =
      get_or-set_same ss i s nan (subst (λ (n : ℕ). i < n) (sym kept.sweeps-long) i_lt)
      ∙ swept
      ∙ sym (sweep_by_bits x held is)
      ∙ ap (λ (n : ℕ). sweep_of (of_bits binary64 n)) (sym (get_or-set_same ks i b 0 (subst (λ (n : ℕ). i < n) (sym kept.long) i_lt)))

  pub kept_put : b ≡ to_bits binary64 x → T (fits binary64 x) → s ≡ sweep_of x → Memo (set ks i b) (set ss i s)
  kept_put is held swept = record { long = length-set ks i b ∙ kept.long; sweeps-long = length-set ss i s ∙ kept.sweeps-long; each = λ (j : ℕ) (h : j < 16). at j h (eqb j i) refl }
    where
      at : (j : ℕ) → j < 16 → (t : Bool) → eqb j i ≡ t → get_or (set ss i s) j nan ≡ sweep_of (of_bits binary64 (get_or (set ks i b) j 0))
      at j h true e = subst (λ (k : ℕ). get_or (set ss i s) k nan ≡ sweep_of (of_bits binary64 (get_or (set ks i b) k 0))) (sym (eqb→eq j i (subst T (sym e) tt))) (here is held swept)
      at j h false e =
          let apart : j ≡ i → ⊥ = λ (q : j ≡ i). subst T (ap (λ (k : ℕ). eqb k i) (sym q) ∙ e) (eqb_refl i) in
          get_or-set_other ss i j s nan apart ∙ kept.each j h ∙ ap (λ (n : ℕ). sweep_of (of_bits binary64 n)) (sym (get_or-set_other ks i j b 0 apart))

-- at the start each slot has +0
pub kept-none : Memo (replicate 16 0) (replicate 16 zero)
kept-none = record {
  long = refl;
  sweeps-long = refl;
  each = λ (j : ℕ) (h : j < 16). get_or-replicate 16 j zero nan h ∙ sweep-of-zero ∙ ap (λ (n : ℕ). sweep_of (of_bits binary64 n)) (sym (get_or-replicate 16 j 0 0 h));
}

-- the slots of the code are such lists, by their type
pub slots-kept : (slots : List Kept) (k : Kept) → length slots ≡ 16 → Memo (map (λ (s : Kept). s.bits) slots) (map (λ (s : Kept). s.sweep) slots)
slots-kept slots k long = record {
  long = length-map slots (λ (s : Kept). s.bits) ∙ long;
  sweeps-long = length-map slots (λ (s : Kept). s.sweep) ∙ long;
  each = λ (j : ℕ) (h : j < 16). at j (subst (λ (n : ℕ). j < n) (sym long) h);
}
  where
    at : (j : ℕ) → j < length slots → get_or (map (λ (s : Kept). s.sweep) slots) j nan ≡ sweep_of (of_bits binary64 (get_or (map (λ (s : Kept). s.bits) slots) j 0))
    at j h = get_or-map (λ (s : Kept). s.sweep) slots j k nan h ∙ (get_or slots j k).swept ∙ ap (λ (n : ℕ). sweep_of (of_bits binary64 n)) (sym (get_or-map (λ (s : Kept). s.bits) slots j k 0 h))
