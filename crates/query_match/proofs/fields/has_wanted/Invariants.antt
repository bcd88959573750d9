use Rattle.ft_base.specs.declared.definition.Field.{Field}
use Rattle.ft_meaning.specs.Meaning.{field_tokens}
use Rattle.query_match.specs.Wanted.{is_met}
use Rattle.query_match.proofs.SearchedLemmas.{Missed}
use Rattle.query_match.proofs.fields.has_wanted.Given as goal

-- none of the fields so far has it
abbrev pub invariant-fields : goal.invariant-fields
invariant-fields l = Missed (λ (field : Field). is_met l.wanted (field_tokens l.def l.doc field)) l.def l.fields l.number
