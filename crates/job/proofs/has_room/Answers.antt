-- `job::has_room` meets its contract. Assumes nothing.
use borrow.Author.Tests.{le-leb, lt-leb}
use mathlib.Core.Path.{refl}
use Rattle.floats.proofs.Choice.{and_yes, and_no}
use Rattle.job.proofs.has_room.Goals as goal

pub returns-then-room-indexes : goal.returns-then-room-indexes
returns-then-room-indexes c = and_yes _ _ (le-leb _ _ c.if-room-vertices.true) (and_yes _ _ (le-leb _ _ c.if-room-flags.true) (and_yes _ _ (le-leb _ _ c.if-room-indexes.true) refl))

pub returns-else-room-indexes : goal.returns-else-room-indexes
returns-else-room-indexes c = and_yes _ _ (le-leb _ _ c.if-room-vertices.true) (and_yes _ _ (le-leb _ _ c.if-room-flags.true) (and_no _ _ (lt-leb _ _ c.if-room-indexes.false) (lt-leb _ _ c.if-room-indexes.false)))

pub returns-else-room-flags : goal.returns-else-room-flags
returns-else-room-flags c = and_yes _ _ (le-leb _ _ c.if-room-vertices.true) (and_no _ _ (lt-leb _ _ c.if-room-flags.false) (lt-leb _ _ c.if-room-flags.false))

pub returns-else-room-vertices : goal.returns-else-room-vertices
returns-else-room-vertices c = and_no _ _ (lt-leb _ _ c.if-room-vertices.false) (lt-leb _ _ c.if-room-vertices.false)
