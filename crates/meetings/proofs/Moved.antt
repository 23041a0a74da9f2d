-- A candidate that was moved to an end says nothing of lying apart. Assumes nothing.
use mathlib.Core.Path.{◌≡◌, sym, ap, ◌∙◌}
use mathlib.Core.Bool.{true, false, false≢true}
use Rattle.vectors.specs.declared.Vector2.{Vector2}
use Rattle.meetings.specs.declared.Snapped.{Snapped}

pub moved_to : {A : Type 0} {s : Snapped} {p q : Vector2} → s ≡ record { point = p; apart = false } → p ≡ q → (s.point ≡ q) × (s.apart ≡ true → A)
moved_to e h = (ap (λ (x : Snapped). x.point) e ∙ h, λ t. absurd (false≢true (sym (ap (λ (x : Snapped). x.apart) e) ∙ t)))
