-- `closed` meets its contract. Assumes nothing.
use mathlib.Core.Path.{◌≡◌, refl}
use Rattle.floats.proofs.Choice.{no, yes}
use Rattle.packed.specs.Text.{ascii, word_of}
use Rattle.packed.proofs.text.Text.closed.Goals as goal

pub returns-then-closed : goal.returns-then-closed
returns-then-closed c =
    let w : ascii "closed" ≡ word_of c.args.closed = yes _ _ _ c.if-closed.true refl in
    rw (← w) c.word.ensures

pub returns-else-closed : goal.returns-else-closed
returns-else-closed c =
    let w : ascii "open" ≡ word_of c.args.closed = no _ _ _ c.if-closed.false refl in
    rw (← w) c.word-else-closed.ensures
