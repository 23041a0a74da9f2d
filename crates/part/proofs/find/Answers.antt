-- `part::find` meets its contract. Assumes nothing.
use mathlib.Core.Path.{◌≡◌, sym, ap, ◌∙◌}
use mathlib.Core.Bool.{true, false}
use Prim.Native.Nat.{◌-◌}
use native.Mathlib.Omega.{arith}
use lib.ListN.{length, take, drop, length-drop}
use lib.Seq.{take_all}
use Rattle.moves.specs.Origins.{origins_in}
use Rattle.moves.proofs.Origins.{origins-length, origins-take, origins-drop}
use Rattle.part.specs.Part.{front, part_of}
use Rattle.part.proofs.Found.{as-part, looked, ragged, none_such, found}
use Rattle.part.proofs.find.Goals as goal

pub returns-then-flags-origins : goal.returns-then-flags-origins
returns-then-flags-origins c =
    let codes = c.args.origins.now in
    ragged _ _ (origins_in codes) _ (λ e. c.if-flags-origins.true (e ∙ origins-length codes))

pub returns-then-source-n : goal.returns-then-source-n
returns-then-source-n c =
    let codes = c.args.origins.now in
    none_such _ _ (origins_in codes) _ (c.if-flags-origins.false ∙ sym (origins-length codes)) (omega (arith, c.if-source-n.true))

pub returns : goal.returns
returns c =
    let s = c.args.source.0 in
    let codes = c.args.origins.now in
    let most = c.min.result in
    let even = sym (origins-length codes) in
    let lent = origins-take most codes in
    let start = c.count_front-start.ensures.value ∙ ap (front false s) lent in
    let rest = drop c.count_front-start.result (take most codes) in
    let whole : origins_in (take (length (take most codes) - c.count_front-start.result) rest) ≡ origins_in rest =
    ap origins_in (take_all _ rest (omega (arith, length-drop c.count_front-start.result (take most codes)))) in
    let count = c.count_front-count.ensures.value ∙ ap (front true s) (whole ∙ origins-drop _ _ ∙ ap (drop c.count_front-start.result) lent) in
    found c.args.n c.args.flags (origins_in codes) s (c.if-flags-origins.false ∙ even) c.if-source-n.false
    (c.from_on.ensures ∙ as-part s (take most (origins_in codes)) start count ∙ ap (part_of s) (looked (origins_in codes) most (length codes) c.min.ensures even))
