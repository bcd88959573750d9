use Rattle.ft_schema.proofs.SpellableLaws.{created-spellable, altered-spellable, read-anew}
use Rattle.ft_schema.proofs.laws.what_is_read_is_spellable.Goals as goal

pub returns-clause-created : goal.returns-clause-created
returns-clause-created c = created-spellable

pub returns-clause-added : goal.returns-clause-added
returns-clause-added c = altered-spellable

pub returns-clause-again : goal.returns-clause-again
returns-clause-again c = read-anew
