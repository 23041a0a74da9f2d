-- `joins::join_without_intersection` meets its contract. Assumes nothing.
use mathlib.Core.Path.{refl, sym, ◌∙◌}
use borrow.Author.Rules.{rules}
use Rattle.joins.specs.Join.{rounded}
use Rattle.joins.proofs.join_without_intersection.Goals as goal

pub classify_join-turn-requires : goal.classify_join-turn-requires
unfolding rounded
classify_join-turn-requires c = c.requires

pub enum_told-1 : goal.enum_told-1
unfolding rounded
enum_told-1 c = search rules

pub enum_told-in-ZeroTangent : goal.enum_told-in-ZeroTangent
unfolding rounded
enum_told-in-ZeroTangent c = search rules

pub enum_told-in-SameDirection : goal.enum_told-in-SameDirection
unfolding rounded
enum_told-in-SameDirection c = search rules

pub enum_told-in-Reversal : goal.enum_told-in-Reversal
unfolding rounded
enum_told-in-Reversal c = search rules

pub enum_told-in-Outer : goal.enum_told-in-Outer
unfolding rounded
enum_told-in-Outer c = search rules

pub enum_told-in-Inner : goal.enum_told-in-Inner
unfolding rounded
enum_told-in-Inner c = search rules

pub returns-in-Coincident : goal.returns-in-Coincident
unfolding rounded
returns-in-Coincident c = rw (sym c.classify_join-turn.ensures ∙ c.in-Coincident.is) (simp (c.straight.ensures, c.end-end.ensures))

pub returns-in-ZeroTangent : goal.returns-in-ZeroTangent
unfolding rounded
returns-in-ZeroTangent c = rw (sym c.classify_join-turn.ensures ∙ c.in-ZeroTangent.is) (simp (c.straight-in-ZeroTangent.ensures, c.start-start.ensures, c.end-end.ensures))

pub returns-in-SameDirection : goal.returns-in-SameDirection
unfolding rounded
returns-in-SameDirection c = rw (sym c.classify_join-turn.ensures ∙ c.in-SameDirection.is) (simp (c.straight-in-SameDirection.ensures, c.start-start.ensures, c.end-end.ensures))

pub returns-in-Reversal : goal.returns-in-Reversal
unfolding rounded
returns-in-Reversal c = rw (sym c.classify_join-turn.ensures ∙ c.in-Reversal.is) (simp (c.connected.ensures, c.connector_bulge.ensures, c.start-start.ensures, c.end-end.ensures))

pub returns-in-Outer : goal.returns-in-Outer
unfolding rounded
returns-in-Outer c = rw (sym c.classify_join-turn.ensures ∙ c.in-Outer.is) (simp (c.connected-in-Outer.ensures, c.connector_bulge-in-Outer.ensures, c.start-start.ensures, c.end-end.ensures))

pub returns-in-Inner : goal.returns-in-Inner
unfolding rounded
returns-in-Inner c = rw (sym c.classify_join-turn.ensures ∙ c.in-Inner.is) (refl)
