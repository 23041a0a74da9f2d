-- An offset of zero: the source copied, and zeros after it, are the drawing of the source. Assumes nothing.
use mathlib.Core.Path.{◌≡◌, sym, ap, ◌∙◌}
use mathlib.Core.List.{List, [], ◌++◌}
use mathlib.Core.Bool.{Bool, true, false}
use Prim.Native.Nat.{ℕ, ◌+◌, ◌*◌, ◌-◌, ◌≤◌}
use native.Mathlib.Omega.{arith}
use lib.ListN.{length, take, drop, replicate, length-append, length-drop, length-replicate}
use lib.Seq.{length-take-le}
use Rattle.segments.specs.declared.PlineVertex.{PlineVertex}
use Rattle.source.specs.Source.{segments_of}
use Rattle.source.proofs.Segments.{segments-closed, segments_open}
use Rattle.moves.specs.declared.Origin.{Origin}
use Rattle.walk.specs.Walk.{spans_from, copied}
use Rattle.walk.proofs.Origins.{length_spans}
use Rattle.sheet.specs.Buffers.{no_origin}
use Rattle.sheet.specs.InnerSteps.{Held, MarkLoans, Contents, contents, fitting, making, blank, showing, over, over_at, cleared, wiped, Ready, Within}
use Rattle.sheet.proofs.Over.{cleared-after, cleared-whole, padded-same, over-padded}

pub source-room : (closed : Bool) (v : ℕ) → 2 ≤ v → v ≤ 2 * segments_of closed v
source-room true v h = rw (segments-closed v h) (omega arith)
source-room false v h = rw (segments_open v h) (omega arith)

over_fits : (vs ws : List PlineVertex) → length vs ≤ length ws → length (over vs ws) ≡ length ws
over_fits vs ws h = omega (arith, length-append vs (drop (length vs) ws), length-drop (length vs) ws)

cleared_long : {A : Type 0} (z : A) (n : ℕ) (l : List A) → n ≤ length l → length (cleared z 0 (n - 0) l) ≡ length l
cleared_long z n l h =
    omega (
      arith,
      length-append (take 0 l ++ replicate (n - 0) z) (drop (0 + (n - 0)) l),
      length-append (take 0 l) (replicate (n - 0) z),
      length-replicate (n - 0) z,
      length-drop (0 + (n - 0)) l,
      length-take-le 0 l (omega arith),
    )

contents-same : {v v' : Held} {f f' i i' : List ℕ} {o o' : List Origin} {l : MarkLoans} → v ≡ v' → f ≡ f' → i ≡ i' → o ≡ o' → contents v f i o l ≡ contents v' f' i' o' l
contents-same a b c d = cc

module _ (closed : Bool) (s : List PlineVertex) (v room : ℕ) (old : Contents) (ready : Ready v room s old) (enough : 2 * segments_of closed v ≤ room) where
  -- the room takes the source
  pub source_fits : v ≤ fitting old
  source_fits = omega (arith, source-room closed v ready.two, ready.vertices)

  pub copied-fits : {h : Held} → h ≡ over_at s old.vertices → length h.made ≡ fitting old
  copied-fits e = ap (λ (g : Held). length g.made) e ∙ over_fits s old.vertices.made (rw (← ready.long) source_fits)

  -- and after it is wiped the spans of its segments
  pub spans_fit : (h : Held) {b : Contents} → b ≡ wiped room v 0 0 (contents h old.flags old.indexes old.origins old.loans) → segments_of closed v ≤ length b.origins
  unfolding wiped
  spans_fit h e =
      let l = ap (λ (c : Contents). length c.origins) e ∙ cleared_long no_origin room old.origins ready.origins in
      omega (arith, ready.origins)

  pub source-within : room ≤ 12288 → (h : Held) → length h.made ≡ fitting old → Within room v 0 0 (contents h old.flags old.indexes old.origins old.loans)
  source-within small h e =
      let f = source-room closed v ready.two in
      record {
        small = small;
        from-vertex = omega arith;
        from-flag = omega arith;
        from-index = omega arith;
        vertices = omega (arith, ready.vertices);
        flags = ready.flags;
        indexes = ready.indexes;
        origins = ready.origins;
      }

  pub copied-shown : (b : Contents) (os : List Origin) → b ≡ wiped room v 0 0 (contents (over_at s old.vertices) old.flags old.indexes old.origins old.loans)
      → os ≡ over (spans_from 0 (segments_of closed v)) b.origins → contents b.vertices b.flags b.indexes os b.loans ≡ showing room (copied closed s) old
  unfolding wiped showing copied
  copied-shown b os wipes spans =
      let fits = source-room closed v ready.two in
      let f : segments_of closed v ≤ room = omega arith in
      rw (wipes, spans)
      (contents-same (rw ready.long (ap (λ (vs : List PlineVertex). making vs old.vertices) (cleared-after blank room s old.vertices.made (rw (← ready.long) (omega arith)))))
      (rw (← ready.long) (cleared-whole 0 room [] old.flags (omega arith) ∙ sym (padded-same 0 room (segments_of closed v) old.flags f)))
      (cleared-whole 0 room [] old.indexes (omega arith))
      (rw (wipes, ← ready.long, cleared-whole no_origin room [] old.origins (omega arith)) (over-padded no_origin room (spans_from 0 (segments_of closed v)) old.origins (rw length_spans f))))
