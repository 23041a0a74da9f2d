-- What the methods of `Text` do to a text that is being written into a lent buffer. Definitions only.
use Rattle.std.specs.Prelude.{◌≡◌, ℕ, ◌+◌, ◌≤◌, List, length}
use Rattle.std.proofs.lemmas.List.Edits.{sets}
use Rattle.packed.specs.declared.text.Text.{Text}

-- n bytes more fit into the buffer
abbrev pub HasRoom : ℕ → Text → Type 0
HasRoom n t = t.at + n ≤ length t.out.now

-- The bytes xs are written after what stands there, and all else is as it was. They fitted, and it is still the same buffer.
pub record Writes (xs : List ℕ) (old new : Text) : Type 0 where
  pub bytes : new.out.now ≡ sets old.out.now old.at xs
  pub at : new.at ≡ old.at + length xs
  pub within : new.at ≤ length old.out.now
  pub same_buffer : new.out.ghost_name ≡ old.out.ghost_name
