use Rattle.std.proofs.Common.{◌≡◌, true, false, List, rules}
use Rattle.ft_schema.specs.declared.index_options.IndexOptions.{IndexOptions}
use Rattle.ft_schema.specs.Names.{Word}
use Rattle.ft_schema.specs.Options.{no_options, is_at_schema, option_at, options_at}
use Rattle.ft_base.proofs.PartsLaws.{Reads, begins, goes_on, ended}
use Rattle.ft_schema.proofs.Parts.{stops_so}
use Rattle.ft_schema.proofs.index_options.options.Goals as goal

-- reading begins with no option at all words
from_all : (given : IndexOptions) (words rest : List Word) → given ≡ no_options → rest ≡ words → Reads is_at_schema option_at given rest (options_at words)
from_all given words rest none all = rw (none, all) (begins is_at_schema option_at no_options words)

pub reading-init : goal.reading-init
reading-init c = from_all _ _ _ c.no_options-given.ensures c.rest-rest.ensures

pub reading-preserved : goal.reading-preserved
reading-preserved c =
    let more : is_at_schema c.reading.rest ≡ false = search rules in
    goes_on is_at_schema option_at _ _ _ _ _ more c.in-Ok.ensures.read c.in-Ok.ensures.shorter c.reading.invariant

pub returns-in-Err : goal.returns-in-Err
returns-in-Err c =
    let more : is_at_schema c.reading.rest ≡ false = search rules in
    stops_so is_at_schema option_at c.reading.given c.reading.rest _ c.in-Err.stop more c.in-Err.ensures.read c.reading.invariant

pub returns : goal.returns
returns c =
    let done : is_at_schema c.reading.rest ≡ true = search rules in
    ended is_at_schema option_at _ _ _ done c.reading.invariant
