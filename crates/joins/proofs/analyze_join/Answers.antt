-- `joins::analyze_join` meets its contract. Assumes nothing.
use mathlib.Core.Path.{refl, sym, ◌∙◌}
use Rattle.joins.proofs.Seen.{unseen_joins, join-seen}
use Rattle.joins.proofs.analyze_join.Goals as goal

pub join_without_intersection-settled-requires : goal.join_without_intersection-settled-requires
join_without_intersection-settled-requires c = c.requires

pub returns-in-Some : goal.returns-in-Some
returns-in-Some c =
    unseen_joins _ c.unseen.ensures (rw (join-seen _ _ _ _ _) (rw (sym c.join_without_intersection-settled.ensures ∙ c.in-Some.is) refl))

pub returns : goal.returns
returns c =
    let inner = c.inner_join.ensures in
    record {
      boundary = inner.boundary ∙ sym (rw (join-seen _ _ _ _ _) (rw (sym c.join_without_intersection-settled.ensures ∙ c.in_default.is) refl));
      seen = inner.seen;
    }
