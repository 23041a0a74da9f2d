-- The lines of the entries, one after the other, and how long they are. Assumes nothing.
use mathlib.Core.Path.{◌≡◌, sym, ap, ◌∙◌}
use mathlib.Core.List.{List, [], ◌∷◌, ◌++◌, append_assoc, append-nil}
use Prim.Native.Nat.{ℕ, zero, suc, ◌*◌, ◌<◌, ◌≤◌}
use native.Mathlib.Omega.{arith}
use lib.ListN.{length, take, get_or, length-append}
use Rattle.packed.specs.Text.{◌then◌, decimal_of, space, line_end}
use Rattle.packed.proofs.Digits.{most_decimal}
use Rattle.same_reply.specs.Same.{entry_lines}

-- the line of one vertex
abbrev pub line_for : ℕ → ℕ → List ℕ
line_for n f = (decimal_of n then space) ++ (decimal_of f then line_end)

-- the line of the next one
pub entry-lines-next : (ns fs : List ℕ) (k : ℕ) → k < length ns → k < length fs →
    entry_lines (take (suc k) ns) (take (suc k) fs) ≡ entry_lines (take k ns) (take k fs) ++ line_for (get_or ns k 0) (get_or fs k 0)
unfolding entry_lines
entry-lines-next [] fs k h g = absurd (omega arith)
entry-lines-next (n ∷ ns) [] k h g = absurd (omega arith)
entry-lines-next (n ∷ ns) (f ∷ fs) zero h g = append-nil (line_for n f)
entry-lines-next (n ∷ ns) (f ∷ fs) (suc k) h g =
    let next = entry-lines-next ns fs k (omega arith) (omega arith) in
    ap (λ t. line_for n f ++ t) next ∙ sym (append_assoc (line_for n f) (entry_lines (take k ns) (take k fs)) (line_for (get_or ns k 0) (get_or fs k 0)))

pub most_entries : (ns fs : List ℕ) → length (entry_lines ns fs) ≤ 42 * length ns
unfolding entry_lines
most_entries [] fs = omega arith
most_entries (n ∷ ns) [] = omega arith
most_entries (n ∷ ns) (f ∷ fs) = rw (length-append, length-append) (omega (arith, most_decimal n space, most_decimal f line_end, most_entries ns fs))
