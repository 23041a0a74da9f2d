-- `pieces::store_stroke` meets its contract. Assumes nothing.
use mathlib.Core.Path.{◌∙◌}
use Rattle.pieces.proofs.Stored.{store-drawn, store-room}
use Rattle.pieces.proofs.store_stroke.Goals as goal

pub store-requires : goal.store-requires
store-requires g c = (store-room c.args.stepped c.requires.0, c.requires.1)

pub returns : goal.returns
returns g c = c.store.ensures ∙ store-drawn c.args.stepped _
