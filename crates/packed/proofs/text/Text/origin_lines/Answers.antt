-- `origin_lines` meets its contract. Assumes nothing.
use mathlib.Core.Path.{◌≡◌, ap, ◌∙◌}
use Prim.Native.Nat.{◌*◌, ◌<◌, ◌≤◌}
use native.Mathlib.Numerals.{add-one}
use native.Mathlib.Omega.{arith}
use lib.ListN.{get_or, length, length-take, take}
use Rattle.std.proofs.lemmas.List.{get_or-take}
use Rattle.moves.specs.Origins.{origin_of, origins_in}
use Rattle.packed.specs.Text.{origin_lines}
use Rattle.packed.proofs.Lines.{most_origins, origin-lines-next}
use Rattle.packed.proofs.Writing.{room_left, writes_more, writes_none}
use Rattle.packed.proofs.text.Text.origin_lines.Goals as goal

pub loop-code-init : goal.loop-code-init
unfolding origin_lines
loop-code-init c = writes_none (omega arith)

pub origin-requires : goal.origin-requires
origin-requires c =
    let a = c.args in
    let k = c.loop-code.code-index in
    let os = take k (origins_in a.origins.now) in
    let h : k < a.count = omega (arith, length-take a.count a.origins.now) in
    let m : length os ≤ k = omega (arith, length-take k (origins_in a.origins.now)) in
    room_left c.loop-code.invariant (31 * k) 31 (omega (arith, most_origins os)) (omega arith)

pub loop-code-preserved : goal.loop-code-preserved
loop-code-preserved c =
    let a = c.args in
    let k = c.loop-code.code-index in
    let h : k < a.count = omega (arith, length-take a.count a.origins.now) in
    let f : get_or (take a.count a.origins.now) k 0 ≡ get_or a.origins.now k 0 = rw get_or-take in
    let o = c.from.ensures ∙ ap origin_of f in
    rw (add-one, origin-lines-next a.origins.now k (omega arith), ← o) (writes_more c.loop-code.invariant c.origin.ensures)

pub returns : goal.returns
returns c =
    let a = c.args in
    let n : c.loop-code.code-index ≡ a.count = omega (arith, length-take a.count a.origins.now) in
    rw n at c.loop-code.invariant
