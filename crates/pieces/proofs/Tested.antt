-- What the tests of a call show of it, in their order: no open job (`draw-shut`, `end-shut`), a number left over (`draw-ragged`), no room (`draw_roomless`, `end_roomless`), and else what
-- the vertices and the end leave. Assumes nothing.
use mathlib.Core.Path.{◌≡◌, sym, ap, ◌∙◌}
use mathlib.Core.List.{List, []}
use mathlib.Core.Bool.{Bool, true, false, not}
use Prim.Native.Nat.{ℕ, ◌*◌, ◌-◌, ◌/◌, ◌≤◌}
use native.Mathlib.Omega.{arith}
use borrow.Author.Tests.{leb-true, eq-eqb, ne_eqb, not-false}
use lib.Dec.{leb}
use lib.ListN.{length}
use lib.Ieee.{Float}
use Rattle.floats.specs.Choice.{◌and◌}
use Rattle.floats.proofs.Choice.{yes, no, both_pass}
use Rattle.segments.specs.declared.Settings.{Settings}
use Rattle.segments.specs.Modes.{are_pointed}
use Rattle.source.specs.Source.{rows, vertices_of, is_whole}
use Rattle.refusals.specs.declared.Refusal.TheVariants.{Ragged, NoRoom}
use Rattle.refusals.specs.Table.{number_of}
use Rattle.moves.specs.Origins.{origins_in}
use Rattle.moves.specs.Drawing.{nothing}
use Rattle.moves.proofs.Origins.{origins-length}
use Rattle.walk.specs.Walk.{moves_a_segment}
use Rattle.walk.proofs.Lengths.{moves-few}
use Rattle.sheet.specs.Buffers.{Buffers, buffers}
use Rattle.sheet.specs.InnerSteps.{Loaned, held_by, held, lent, no_places, laid, Rooms}
use Rattle.sheet.specs.declared.lent.Marks.{Marks}
use Rattle.sheet.proofs.Holding.{held-made}
use Rattle.sheet.proofs.Products.{product_most}
use Rattle.job.specs.Job.{has_room}
use Rattle.job.specs.InnerSteps.{moves_if}
use Rattle.job.proofs.Ways.{all_fit}
use Rattle.job.proofs.Ends.{moves_if_lem}
use Rattle.course.specs.declared.Course.{Course}
use Rattle.course.specs.Course.{draw_all, none_drawn, end_piece, end_refusal}
use Rattle.pieces.specs.declared.OpenJob.{OpenJob}
use Rattle.pieces.specs.declared.DrawAnswer.{DrawAnswer}
use Rattle.pieces.specs.Calls.{settings_of, most_number, is_open, answering, Called, called, handed_out, staged, ended, refused, shut_answer, drawn_call, draw_call, end_call}

-- ---- room

module _ (n : ℕ) (l : Loaned) (m : Marks) where
  abbrev tests : Bool
  tests = leb n (length (held_by l).made) and (leb n (length m.flags.now) and (leb n (length m.indexes.now) and leb n (length m.origins.now)))

  pub room_tested : tests ≡ has_room (lent l m) n
  unfolding has_room
  room_tested = rw (held-made l, origins-length m.origins.now)

  pub room_had : tests ≡ true → Rooms n (laid no_places (held l m))
  room_had h =
      let fit = all_fit n (length (held_by l).made) (length m.flags.now) (length m.indexes.now) (length m.origins.now) h in
      record { vertices = omega (arith, fit.0); flags = omega (arith, fit.1); indexes = omega (arith, fit.2); origins = omega (arith, fit.3, origins-length m.origins.now) }

-- ---- an open job

pub record Facts (j : OpenJob) : Type 0 where
  pub taken : j.course.taken ≤ 4096
  pub number : j.course.number ≤ 3 * j.course.taken

pub open_facts : (j : OpenJob) → is_open j ≡ true → Facts j
unfolding is_open
open_facts j h =
    let a = ((both_pass _ _).0 h).1 in
    let b = ((both_pass _ _).0 a).1 in
    let c = ((both_pass _ _).0 b).1 in
    let d = ((both_pass _ _).0 c).1 in
    let e = (both_pass _ _).0 d in
    let σ = settings_of j in
    let v = j.course.taken in
    let n = leb-true j.course.number (most_number σ v) e.1 in
    let m = product_most (moves_a_segment σ.corners) 3 (v - 2) (moves-few σ.corners) in
    record { taken = leb-true v 4096 e.0; number = omega arith }

-- ---- vertices

module _ (j : OpenJob) (source : List Float) (old : Buffers) where
  pub draw-shut : {a : DrawAnswer} {j' : OpenJob} → not (is_open j) ≡ true → a ≡ shut_answer j → j' ≡ j → called a j' old ≡ draw_call j source old
  unfolding draw_call
  draw-shut h p q = yes _ _ _ h (rw (p, q))

  module _ (h : not (is_open j) ≡ false) where
    pub draw-ragged : {a : DrawAnswer} {j' : OpenJob} → not (is_whole (rows source)) ≡ true → a ≡ answering (number_of Ragged) 0 nothing → j' ≡ j → called a j' old ≡ draw_call j source old
    unfolding draw_call
    draw-ragged k p q = no _ _ _ h (yes _ _ _ k (rw (p, q)))

    module _ (k : not (is_whole (rows source)) ≡ false) where
      pub draw_roomless : {a : DrawAnswer} {j' : OpenJob} → not (has_room old (moves_a_segment (settings_of j).corners * length (vertices_of source))) ≡ true
          → a ≡ answering (number_of NoRoom) 0 nothing → j' ≡ j → called a j' old ≡ draw_call j source old
      unfolding draw_call
      draw_roomless r p q = no _ _ _ h (no _ _ _ k (yes _ _ _ r (rw (p, q))))

      pub draw-goes : {c : Called} → not (has_room old (moves_a_segment (settings_of j).corners * length (vertices_of source))) ≡ false
          → c ≡ drawn_call j (draw_all (settings_of j) (vertices_of source) (none_drawn j.course)) old → c ≡ draw_call j source old
      unfolding draw_call
      draw-goes r e = no _ _ _ h (no _ _ _ k (no _ _ _ r e))

-- the room of the code is that of the rules: v counts the source's vertices, and t is what its test answers
module _ (j : OpenJob) (source : List Float) (l : Loaned) (k : Marks) {p t : Bool} {m v : ℕ} (a : p ≡ are_pointed (settings_of j).corners) (b : m ≡ moves_if p) (n : v ≡ length (vertices_of source))
    (r : t ≡ (leb (m * v) (length (held_by l).made) and (leb (m * v) (length k.flags.now) and (leb (m * v) (length k.indexes.now) and leb (m * v) (length k.origins.now))))) where
  moves-told : m ≡ moves_a_segment (settings_of j).corners
  moves-told = b ∙ ap moves_if a ∙ moves_if_lem (settings_of j).corners

  pub same-room : not t ≡ not (has_room (lent l k) (moves_a_segment (settings_of j).corners * length (vertices_of source)))
  same-room =
      let e : t ≡ has_room (lent l k) (moves_a_segment (settings_of j).corners * length (vertices_of source)) =
      r ∙ room_tested (m * v) l k ∙ rw (moves-told, n) in
      ap not e

  pub room_rules : not t ≡ false → Rooms (moves_a_segment (settings_of j).corners * length (vertices_of source)) (laid no_places (held l k))
  room_rules h = rw (← moves-told, ← n) (room_had (m * v) l k (sym r ∙ not-false t h))

-- ---- the end

module _ (j : OpenJob) (old : Buffers) where
  abbrev w : Course
  w = j.course

  abbrev σ : Settings
  σ = settings_of j

  pub end-shut : {a : DrawAnswer} {j' : OpenJob} → not (is_open j) ≡ true → a ≡ shut_answer j → j' ≡ j → called a j' old ≡ end_call j old
  unfolding end_call
  end-shut h p q = yes _ _ _ h (rw (p, q))

  module _ (h : not (is_open j) ≡ false) where
    pub end_roomless : {a : DrawAnswer} {j' : OpenJob} → not (has_room old 2) ≡ true → a ≡ answering (number_of NoRoom) 0 nothing → j' ≡ j → called a j' old ≡ end_call j old
    unfolding end_call
    end_roomless r p q = no _ _ _ h (yes _ _ _ r (rw (p, q)))

    module _ (r : not (has_room old 2) ≡ false) where
      pub end_goes : {c : Called} → end_refusal σ w ≡ 0 → c ≡ called (answering 0 0 (end_piece σ w)) (staged ended 0 0 w j) (handed_out (end_piece σ w) old) → c ≡ end_call j old
      unfolding end_call
      end_goes z e = no _ _ _ h (no _ _ _ r (yes _ _ _ (eq-eqb (end_refusal σ w) 0 z) e))

      pub end-endless : {c : Called} {n : ℕ} → n ≡ end_refusal σ w → (n ≡ 0 → ⊥) → c ≡ called (answering n w.taken nothing) (staged refused n w.taken w j) old → c ≡ end_call j old
      unfolding end_call
      end-endless {n = n} e z k = no _ _ _ h (no _ _ _ r (no _ _ _ (ne_eqb (end_refusal σ w) 0 (λ y. z (e ∙ y))) (k ∙ rw e)))
