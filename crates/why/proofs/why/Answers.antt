-- `why::why` meets its contract: its tests are those of the answer, in their order. Assumes nothing.
use borrow.Author.Tests.{ne_eqb}
use mathlib.Core.Path.{sym, ◌∙◌}
use Rattle.source.specs.Source.{rows}
use Rattle.source.proofs.Source.{length-vertices}
use Rattle.why.proofs.Whole.{ragged-why, many-why, bad-why, few-why, good-why}
use Rattle.why.proofs.why.Goals as goal

pub returns-then-source-ne0 : goal.returns-then-source-ne0
returns-then-source-ne0 c = ragged-why (rows _) _ _ _ (ne_eqb _ _ c.if-source-ne0.true)

pub returns-then-v-gt-MOST_VERTICES : goal.returns-then-v-gt-MOST_VERTICES
returns-then-v-gt-MOST_VERTICES c = many-why (rows _) _ _ _ c.if-source-ne0.false _ (sym (length-vertices _)) c.if-v-gt-MOST_VERTICES.true

pub first_bad_number-requires : goal.first_bad_number-requires
first_bad_number-requires c = rw length-vertices c.if-v-gt-MOST_VERTICES.false

pub returns-in-Some : goal.returns-in-Some
returns-in-Some c =
    bad-why (rows _) _ _ _ c.if-source-ne0.false _ (sym (length-vertices _)) c.if-v-gt-MOST_VERTICES.false _ (sym c.first_bad_number.ensures ∙ c.in-Some.is)

pub returns-then-v-lt2 : goal.returns-then-v-lt2
returns-then-v-lt2 c =
    few-why (rows _) _ _ _ c.if-source-ne0.false _ (sym (length-vertices _)) c.if-v-gt-MOST_VERTICES.false (sym c.first_bad_number.ensures ∙ c.in_default.is) c.if-v-lt2.true

pub ask_good-requires : goal.ask_good-requires
ask_good-requires c = record { long = sym (length-vertices _); two = c.if-v-lt2.false; most = c.if-v-gt-MOST_VERTICES.false }

pub returns : goal.returns
returns c =
    good-why (rows _) _ _ _ c.if-source-ne0.false _ (sym (length-vertices _)) c.if-v-gt-MOST_VERTICES.false (sym c.first_bad_number.ensures ∙ c.in_default.is) c.if-v-lt2.false
    c.ask_good.ensures
