use Rattle.std.proofs.Common.{sym, subst}
use Rattle.term_dict.specs.Tags.{FieldTags, FieldsKept}
use Rattle.term_dict.proofs.TagLaws.{none_kept}
use Rattle.term_dict.proofs.tags.TagLists.new.Goals as goal

pub invariant_of-result : goal.invariant_of-result
invariant_of-result c = subst (λ (rows : FieldTags). FieldsKept rows 0) (sym c.new.ensures.empty) none_kept
