use Rattle.std.proofs.Common.{◌≡◌, true, false, List, [], rules}
use Rattle.ft_base.specs.declared.definition.Field.{Field}
use Rattle.ft_base.specs.Reading.{parts_at}
use Rattle.ft_schema.specs.Names.{Word}
use Rattle.ft_schema.specs.Fields.{is_at_end, next_field_at}
use Rattle.ft_base.proofs.PartsLaws.{Reads, begins, goes_on, ended}
use Rattle.ft_schema.proofs.Parts.{stops_so}
use Rattle.ft_schema.proofs.fields.fields_behind.Goals as goal

-- reading begins with no field at all words
from_all : (before : List Field) (words rest : List Word) → before ≡ [] → rest ≡ words → Reads is_at_end next_field_at before rest (parts_at is_at_end next_field_at [] words)
from_all before words rest none all = rw (none, all) (begins is_at_end next_field_at [] words)

pub reading-init : goal.reading-init
reading-init c = from_all _ _ _ c.new-before.ensures c.rest-rest.ensures

pub reading-preserved : goal.reading-preserved
reading-preserved c =
    let more : is_at_end c.reading.rest ≡ false = search rules in
    goes_on is_at_end next_field_at _ _ _ _ _ more c.in-Ok.ensures.read c.in-Ok.ensures.shorter c.reading.invariant

pub returns-in-Err : goal.returns-in-Err
returns-in-Err c =
    let more : is_at_end c.reading.rest ≡ false = search rules in
    stops_so is_at_end next_field_at _ _ _ c.in-Err.stop more c.in-Err.ensures.read c.reading.invariant

pub returns : goal.returns
returns c =
    let done : is_at_end c.reading.rest ≡ true = search rules in
    ended is_at_end next_field_at _ _ _ done c.reading.invariant
