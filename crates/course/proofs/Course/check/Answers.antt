-- `course::Course::check` meets its contract. Assumes nothing.
use mathlib.Core.Path.{refl, sym, ap, ◌∙◌}
use mathlib.Core.Bool.{not}
use borrow.Author.Tests.{le-leb, lt-leb}
use Rattle.floats.proofs.Choice.{yes, no}
use Rattle.course.specs.InnerSteps.{checked, early}
use Rattle.course.proofs.Course.check.Goals as goal

pub returns-then-self-ge-MOST_VERTICES : goal.returns-then-self-ge-MOST_VERTICES
unfolding checked early
returns-then-self-ge-MOST_VERTICES c = let e = le-leb _ _ c.if-self-ge-MOST_VERTICES.true in record { value = yes _ _ _ e refl; told = yes _ _ _ e refl }

pub returns-then-not-good_vertex : goal.returns-then-not-good_vertex
unfolding checked early
returns-then-not-good_vertex c =
    let few = lt-leb _ _ c.if-self-ge-MOST_VERTICES.false in
    let bad = ap not (sym c.good_vertex.ensures) ∙ c.if-not-good_vertex.true-raw in
    record { value = no _ _ _ few (yes _ _ _ bad refl); told = no _ _ _ few (yes _ _ _ bad refl) }

pub returns-then-offset : goal.returns-then-offset
unfolding checked early
returns-then-offset c =
    let few = lt-leb _ _ c.if-self-ge-MOST_VERTICES.false in
    let good = ap not (sym c.good_vertex.ensures) ∙ c.if-not-good_vertex.false-raw in
    record { value = no _ _ _ few (no _ _ _ good (yes _ _ _ c.if-offset.true refl)); told = no _ _ _ few (no _ _ _ good (yes _ _ _ c.if-offset.true refl)) }

pub returns-then-is_repeated : goal.returns-then-is_repeated
unfolding checked early
returns-then-is_repeated c =
    let few = lt-leb _ _ c.if-self-ge-MOST_VERTICES.false in
    let good = ap not (sym c.good_vertex.ensures) ∙ c.if-not-good_vertex.false-raw in
    let again = sym c.is_repeated.ensures ∙ c.if-is_repeated.true in
    record { value = no _ _ _ few (no _ _ _ good (no _ _ _ c.if-offset.false (yes _ _ _ again refl))); told = no _ _ _ few (no _ _ _ good (no _ _ _ c.if-offset.false (yes _ _ _ again refl))) }

pub returns : goal.returns
unfolding checked early
returns c =
    let few = lt-leb _ _ c.if-self-ge-MOST_VERTICES.false in
    let good = ap not (sym c.good_vertex.ensures) ∙ c.if-not-good_vertex.false-raw in
    let apart = sym c.is_repeated.ensures ∙ c.if-is_repeated.false in
    record { value = no _ _ _ few (no _ _ _ good (no _ _ _ c.if-offset.false (no _ _ _ apart refl))); told = no _ _ _ few (no _ _ _ good (no _ _ _ c.if-offset.false (no _ _ _ apart refl))) }
