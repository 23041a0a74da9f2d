-- `lines` meets its contract. Assumes nothing.
use mathlib.Core.Bool.{not}
use mathlib.Core.Path.{◌≡◌, ◌∙◌}
use Prim.Native.Nat.{◌+◌, ◌*◌, ◌<◌}
use native.Mathlib.Numerals.{add-one}
use native.Mathlib.Omega.{arith}
use lib.ListN.{get_or, length-take, take}
use Rattle.std.proofs.lemmas.List.{get_or-take}
use lib.Dec.{eqb}
use Rattle.floats.specs.Choice.{◌and◌}
use Rattle.packed.specs.Text.{line_at, lines_of, mark_of}
use Rattle.packed.proofs.Lines.{length-lines}
use Rattle.packed.proofs.Writing.{room_left, writes_more, writes_none}
use Rattle.packed.proofs.text.Text.lines.Goals as goal

pub loop-i-init : goal.loop-i-init
unfolding lines_of
loop-i-init c = writes_none (omega arith)

pub line-requires : goal.line-requires
line-requires c =
    let a = c.args in
    let i = c.loop-i.i in
    let h : i < a.count = omega (arith, length-take a.count a.flags.now) in
    room_left c.loop-i.invariant (53 * i) 53 (omega (arith, length-lines a.count a.closed a.vertices.now a.flags.now i)) (omega arith)

pub loop-i-preserved : goal.loop-i-preserved
unfolding lines_of line_at
loop-i-preserved c =
    let a = c.args in
    let i = c.loop-i.i in
    let h : i < a.count = omega (arith, length-take a.count a.flags.now) in
    let f : get_or (take a.count a.flags.now) i 0 ≡ get_or a.flags.now i 0 = rw get_or-take in
    let marks : mark_of c.is_last.result (get_or (take a.count a.flags.now) i 0) ≡ mark_of (not a.closed and eqb (i + 1) a.count) (get_or a.flags.now i 0) =
    rw (c.is_last.ensures, f) in
    let m = c.mark_of.ensures ∙ marks in
    rw add-one (writes_more c.loop-i.invariant (rw (← m) c.line.ensures))

pub returns : goal.returns
returns c =
    let a = c.args in
    let n : c.loop-i.i ≡ a.count = omega (arith, length-take a.count a.flags.now) in
    rw n at c.loop-i.invariant
