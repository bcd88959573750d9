-- What FT.DEBUG leaves of the index that it names.
use Rattle.std.specs.Prelude.{◌≡◌, ℕ, List}
use Rattle.cmd_parse.specs.Asked.{Asked, Plain}
use Rattle.cmd_parse.specs.declared.command.Verb.TheVariants.{Debug}
use Rattle.ft_base.specs.Reply.{spelling}
use Rattle.ft_base.specs.Words.{second}
use Rattle.ft_index.specs.Index.{Index}
use Rattle.ft_machine.specs.Indexes.{done}
use Rattle.indexed_store.specs.Collecting.{IsCleanAt}

-- Whatever is asked: where FT.DEBUG says that it is done, no list of the index has a dead entry.
abbrev pub Collects : Asked → List Index → List ℕ → Type 0
Collects (Plain Debug args) indexes written = written ≡ spelling done → IsCleanAt (second args) indexes
Collects _ indexes written = Unit {0}
