-- `well_formed` meets its contract. Assumes nothing.
use borrow.Author.Tests.{eq-eqb, ne_eqb}
use mathlib.Core.Path.{refl, sym}
use Rattle.floats.proofs.Choice.{and_no, and_yes}
use Rattle.packed.specs.Packed.{count_of, header_of, well_formed, zero_of}
use Rattle.packed.proofs.Bytes.{short}
use Rattle.packed.proofs.unpacked.well_formed.Goals as goal

pub returns-then-bytes-lt18 : goal.returns-then-bytes-lt18
returns-then-bytes-lt18 c = short _ c.if-bytes-lt18.true

pub returns-then-header-eq0 : goal.returns-then-header-eq0
unfolding well_formed count_of zero_of header_of
returns-then-header-eq0 c =
    rw (← c.big_endian-header.ensures)
    (and_yes _ _ (sym (and_yes _ _ (eq-eqb _ _ c.if-bytes-v.true) (sym (eq-eqb _ _ c.if-header-eq0.true)))) refl)

pub returns-else-header-eq0 : goal.returns-else-header-eq0
unfolding well_formed count_of zero_of header_of
returns-else-header-eq0 c =
    rw (← c.big_endian-header.ensures)
    (and_no _ _ (sym (and_yes _ _ (eq-eqb _ _ c.if-bytes-v.true) (sym (ne_eqb _ _ c.if-header-eq0.false)))) (ne_eqb _ _ c.if-header-eq0.false))

pub returns-else-bytes-v : goal.returns-else-bytes-v
unfolding well_formed count_of zero_of header_of
returns-else-bytes-v c =
    rw (← c.big_endian-header.ensures)
    (and_no _ _ (sym (and_no _ _ (ne_eqb _ _ c.if-bytes-v.false) refl)) (ne_eqb _ _ c.if-bytes-v.false))
