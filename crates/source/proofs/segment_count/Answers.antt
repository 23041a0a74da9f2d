-- `source::segment_count` meets its contract. Assumes nothing.
use mathlib.Core.Path.{refl}
use borrow.Author.Tests.{lt-ltb, le-ltb}
use borrow.Author.Rules.{rules}
use Rattle.floats.proofs.Choice.{yes, no}
use Rattle.source.specs.Source.{segments_of}
use Rattle.source.proofs.segment_count.Goals as goal

pub returns-then-v-lt2 : goal.returns-then-v-lt2
unfolding segments_of
returns-then-v-lt2 c = yes _ _ _ (lt-ltb _ _ c.if-v-lt2.true) refl

pub returns-then-closed : goal.returns-then-closed
unfolding segments_of
returns-then-closed c = no _ _ _ (le-ltb _ _ c.if-v-lt2.false) (yes _ _ _ c.if-closed.true refl)

pub overflow_sub-result : goal.overflow_sub-result
unfolding segments_of
overflow_sub-result c = search rules

pub returns : goal.returns
unfolding segments_of
returns c = no _ _ _ (le-ltb _ _ c.if-v-lt2.false) (no _ _ _ c.if-closed.false refl)
