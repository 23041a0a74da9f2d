-- `word` meets its contract. Assumes nothing.
use mathlib.Core.List.{[], ◌∷◌, append_assoc}
use mathlib.Core.Path.{◌≡◌, refl, sym, ap, ◌∙◌}
use Prim.Native.Nat.{◌+◌, ◌-◌}
use native.Mathlib.Omega.{arith}
use lib.ListN.{drop, length, length-append, set, take}
use lib.Seq.{sets, sets-eq}
use borrow.Rule.Slice.PartMut.{put_mid}
use Rattle.std.proofs.lemmas.Slice.{put_mid-paste}
use Rattle.std.proofs.lemmas.List.Edits.{paste_all}
use Rattle.packed.proofs.Writing.{sets_append}
use Rattle.packed.proofs.text.Text.word.Goals as goal

pub returns : goal.returns
returns c =
    let a = c.args in
    let t = a.self.now in
    let w = a.word.now in
    let n = length w in
    let part : put_mid t.at (t.at + n - t.at) t.out.now c.copy_from_slice.new.self ≡ sets t.out.now t.at w =
    put_mid-paste t.at (t.at + n - t.at) t.out.now c.copy_from_slice.new.self w n c.copy_from_slice.ensures.after (omega arith) refl
    ∙ paste_all t.out.now t.at w n refl ∙ sym (append_assoc (take t.at t.out.now) w (drop (t.at + n) t.out.now)) ∙ sym (sets-eq w t.out.now t.at (omega arith)) in
    record {
      bytes = ap (λ l. set l (t.at + n) a.end) part ∙ sym (sets_append t.out.now t.at w (a.end ∷ []));
      at = omega (arith, length-append w (a.end ∷ []));
      within = omega arith;
      same_buffer = refl;
    }
