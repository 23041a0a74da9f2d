-- `decode_by` meets its contract. Assumes nothing.
use mathlib.Core.Bool.{not}
use mathlib.Core.Path.{refl, sym, ap, ◌∙◌}
use Prim.Native.Nat.{◌*◌, ◌%◌}
use native.Mathlib.Omega.{arith}
use lib.Seq.{length-take-le}
use Rattle.floats.proofs.Choice.{yes, no}
use Rattle.packed.specs.Packed.{closed_of, count_of, decoded_by, eps_of, header_of, packed_of, offset_of, source_of}
use Rattle.packed.proofs.Bytes.{few, formed, sized}
use Rattle.packed.proofs.unpacked.decode_by.Goals as goal

pub returns-then-not-well_formed : goal.returns-then-not-well_formed
unfolding decoded_by
returns-then-not-well_formed c = no _ _ _ (sym c.well_formed-2.ensures ∙ c.if-not-well_formed.true) refl

pub big_endian-header-requires : goal.big_endian-header-requires
big_endian-header-requires c =
    let n = sized _ (formed _ c.well_formed-2.ensures (ap not c.if-not-well_formed.false)) in
    record {
      count_in_bounds = omega arith;
      count_bound = omega arith;
    }

pub slice_bounds-fill-end : goal.slice_bounds-fill-end
unfolding count_of header_of
slice_bounds-fill-end c =
    let m = few _ (formed _ c.well_formed-2.ensures (ap not c.if-not-well_formed.false)) in
    omega (arith, c.big_endian-header.ensures)

pub fill-requires : goal.fill-requires
unfolding count_of header_of
fill-requires c =
    let well = formed _ c.well_formed-2.ensures (ap not c.if-not-well_formed.false) in
    let n = sized _ well in
    let m = few _ well in
    let k = 3 * (c.big_endian-header.result % 4096) in
    rw (length-take-le k c.args.source.now (omega (arith, c.big_endian-header.ensures))) (omega (arith, c.big_endian-header.ensures))

pub number_at-requires : goal.number_at-requires
number_at-requires c =
    let n = sized _ (formed _ c.well_formed-2.ensures (ap not c.if-not-well_formed.false)) in
    omega arith

pub number_at-requires-2 : goal.number_at-requires-2
number_at-requires-2 c =
    let n = sized _ (formed _ c.well_formed-2.ensures (ap not c.if-not-well_formed.false)) in
    omega arith

pub returns : goal.returns
unfolding decoded_by count_of header_of closed_of offset_of eps_of source_of packed_of
returns c =
    let a = c.args in
    let well = formed _ c.well_formed-2.ensures (ap not c.if-not-well_formed.false) in
    let m = few _ well in
    let h = c.big_endian-header in
    let e = h.ensures in
    let k = 3 * (h.result % 4096) in
    yes _ _ _ well
    (rw (← e, c.number_at.ensures, c.number_at-2.ensures, c.fill.ensures, length-take-le k a.source.now (omega arith)) refl)
