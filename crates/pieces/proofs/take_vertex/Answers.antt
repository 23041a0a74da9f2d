-- `pieces::take_vertex` meets its contract. Assumes nothing.
use mathlib.Core.Path.{◌≡◌, sym, ap, ◌∙◌}
use native.Mathlib.Omega.{arith}
use Rattle.refusals.specs.Table.{number}
use Rattle.refusals.proofs.Table.{some_number}
use Rattle.pieces.proofs.Went.{refused-early, refused-endless, not-refused, soon_taken, strokes-fit, went_old, went-refused, went-taken}
use Rattle.sheet.proofs.Storing.{room_fewer}
use Rattle.pieces.proofs.take_vertex.Goals as goal

pub returns-then-taken-ne0 : goal.returns-then-taken-ne0
returns-then-taken-ne0 g c = went_old _ _ _ c.if-taken-ne0.true

pub returns-in-Err : goal.returns-in-Err
returns-in-Err g c =
    let n = c.number.ensures in
    let h = λ (z : c.number.result ≡ 0). some_number _ (sym n ∙ z) in
    went-refused _ _ _ c.if-taken-ne0.false (refused-early _ _ _ (n ∙ c.in-Err.ensures.told) h) h

pub take-turning-requires : goal.take-turning-requires
take-turning-requires g c =
    let r = c.requires in
    record { taken = soon_taken _ _ _ (sym c.check.ensures.told ∙ ap number c.in_default.is); number = r.number; told = r.told }

pub returns-then-is_endless : goal.returns-then-is_endless
returns-then-is_endless g c =
    let n = c.number-then-is_endless.ensures in
    let soon = sym c.check.ensures.told ∙ ap number c.in_default.is in
    went-refused _ _ _ c.if-taken-ne0.false (n ∙ refused-endless _ _ _ c.take-turning.ensures.0 soon c.is_endless.ensures c.if-is_endless.true) (λ z. omega (arith, n))

pub store_turning-places-requires : goal.store_turning-places-requires
store_turning-places-requires g c = let t = c.take-turning.ensures in (room_fewer (strokes-fit _ _ _ t.0) c.requires.rooms, t.2)

pub returns : goal.returns
returns g c =
    let t = c.take-turning.ensures in
    let soon = sym c.check.ensures.told ∙ ap number c.in_default.is in
    went-taken _ _ _ c.if-taken-ne0.false (not-refused _ _ _ t.0 soon c.is_endless.ensures c.if-is_endless.false) t.0 t.1 c.store_turning-places.ensures
