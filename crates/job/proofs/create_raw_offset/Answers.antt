-- `job::create_raw_offset` meets its contract: its tests are those of the job, in their order. Assumes nothing.
use mathlib.Core.Path.{refl, sym, ap, ◌∙◌}
use Rattle.segments.specs.Modes.{are_pointed}
use Rattle.job.proofs.Ends.{told-ragged, told-whole, ragged-ends, many-ends, bad-ends, few-ends, good-ends}
use Rattle.job.proofs.create_raw_offset.Goals as goal

pub returns-then-not-is_whole-clause-ending : goal.returns-then-not-is_whole-clause-ending
returns-then-not-is_whole-clause-ending g c =
    ragged-ends _ _ _ _ (told-ragged _ c.is_whole.ensures c.if-not-is_whole.true-raw)

pub returns-then-v-gt-MOST_VERTICES-clause-ending : goal.returns-then-v-gt-MOST_VERTICES-clause-ending
returns-then-v-gt-MOST_VERTICES-clause-ending g c =
    many-ends _ _ _ _ (told-whole _ c.is_whole.ensures c.if-not-is_whole.false-raw) (rw c.count-v.ensures at c.if-v-gt-MOST_VERTICES.true)

pub returns-in-Some-clause-ending : goal.returns-in-Some-clause-ending
returns-in-Some-clause-ending g c =
    rw (← c.corners.ensures) (bad-ends _ _ _ _ (told-whole _ c.is_whole.ensures c.if-not-is_whole.false-raw) (rw c.count-v.ensures at c.if-v-gt-MOST_VERTICES.false) _ (sym c.first_bad_number.ensures ∙ c.in-Some.is))

pub returns-then-v-lt2-clause-ending : goal.returns-then-v-lt2-clause-ending
returns-then-v-lt2-clause-ending g c =
    let n = c.count-v.ensures in
    let nowhere = sym c.first_bad_number.ensures ∙ c.in_default.is in
    rw (c.empty.ensures, ← c.corners.ensures) (few-ends _ _ _ _ (told-whole _ c.is_whole.ensures c.if-not-is_whole.false-raw) (rw n at c.if-v-gt-MOST_VERTICES.false) nowhere (rw n at c.if-v-lt2.true))

pub offset_good-requires : goal.offset_good-requires
offset_good-requires g c =
    let n = c.count-v.ensures in
    (record { long = refl; two = rw n at c.if-v-lt2.false; most = rw n at c.if-v-gt-MOST_VERTICES.false }, c.is_pointed.ensures ∙ ap are_pointed (sym c.corners.ensures))

pub returns-clause-ending : goal.returns-clause-ending
returns-clause-ending g c =
    let n = c.count-v.ensures in
    let nowhere = sym c.first_bad_number.ensures ∙ c.in_default.is in
    rw (← c.corners.ensures) (good-ends _ _ _ _ (told-whole _ c.is_whole.ensures c.if-not-is_whole.false-raw) (rw n at c.if-v-gt-MOST_VERTICES.false) nowhere (rw n at c.if-v-lt2.false) c.offset_good.ensures.ending)
