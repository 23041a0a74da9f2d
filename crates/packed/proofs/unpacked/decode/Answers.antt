-- `decode` meets its contract. Assumes nothing.
use mathlib.Core.Bool.{not}
use mathlib.Core.Path.{◌∙◌, ap}
use Rattle.packed.proofs.Bytes.{decoded-round, decoded-short, decoded-pointed}
use Rattle.packed.proofs.unpacked.decode.Goals as goal

pub returns-then-not-has_ratio : goal.returns-then-not-has_ratio
returns-then-not-has_ratio c =
    c.decode_by.ensures ∙ decoded-round _ _ _ c.has_ratio.ensures (ap not c.if-not-has_ratio.true)

pub returns-then-bytes-lt8 : goal.returns-then-bytes-lt8
returns-then-bytes-lt8 c = decoded-short _ _ _ c.if-bytes-lt8.true

pub returns : goal.returns
returns c =
    c.decode_by-2.ensures ∙ decoded-pointed _ _ _ c.has_ratio.ensures (ap not c.if-not-has_ratio.false) c.number_at-ratio.ensures
