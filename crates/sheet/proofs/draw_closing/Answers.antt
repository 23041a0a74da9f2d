-- `sheet::draw_closing` meets its contract. Assumes nothing.
use mathlib.Core.Path.{◌∙◌}
use native.Mathlib.Omega.{arith}
use Rattle.sheet.proofs.Whole.{lasts-room, closing-within, closing-done}
use Rattle.sheet.proofs.draw_closing.Goals as goal

pub store_closing-places-requires : goal.store_closing-places-requires
store_closing-places-requires g c = let pre = c.requires in
    record {
      rooms = lasts-room pre.0;
      closing_bound = (pre.0.outputs, pre.0.sources);
      pointed_value = pre.1;
    }

-- after the moves there is room
pub overflow_cast-result : goal.overflow_cast-result
overflow_cast-result g c =
    let all = c.store_closing-places in
    let w = closing-within _ _ _ _ all.result c.requires.0 all.ensures in
    omega (arith, w.from-flag, w.small)

pub overflow_cast-result-2 : goal.overflow_cast-result-2
overflow_cast-result-2 g c =
    let all = c.store_closing-places in
    let w = closing-within _ _ _ _ all.result c.requires.0 all.ensures in
    omega (arith, w.from-index, w.small)

pub finish-requires : goal.finish-requires
finish-requires g c =
    let all = c.store_closing-places in
    closing-within _ _ _ _ all.result c.requires.0 all.ensures

pub returns : goal.returns
returns g c =
    let all = c.store_closing-places in
    c.finish.ensures ∙ closing-done _ _ _ _ all.result c.requires.0 all.ensures
