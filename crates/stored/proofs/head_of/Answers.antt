-- `head_of` meets its contract: the settings are those of its mode. Assumes nothing.
use Rattle.stored.proofs.head_of.Goals as goal

pub returns-clause-settings : goal.returns-clause-settings
returns-clause-settings c = c.settings_of.ensures
