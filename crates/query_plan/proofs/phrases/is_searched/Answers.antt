use Rattle.std.proofs.Common.{List, ℕ, sym, ap, ◌∙◌}
use Rattle.std.specs.List.{list_any, slice_get}
use Rattle.ft_base.specs.declared.definition.Field.{Field}
use Rattle.ft_base.specs.declared.query.Fields.{Fields}
use Rattle.ft_meaning.specs.Holds.{named}
use Rattle.ft_meaning.specs.Meaning.{has_words}
use Rattle.query_plan.specs.Sought.{passes}
use Rattle.query_plan.proofs.AnyLaws.{each_named}
use Rattle.query_plan.proofs.phrases.is_searched.Goals as goal

pub returns-in-Named : goal.returns-in-Named
returns-in-Named c =
    c.has_words_at.ensures
    ∙ ap (λ (fields : List Field). list_any (λ number. passes has_words (slice_get fields number)) c.as_slice-in-Named-2.result.now) c.as_slice-in-Named.ensures
    ∙ ap (λ (numbers : List ℕ). list_any (λ number. passes has_words (slice_get c.args.def.now.fields number)) numbers) c.as_slice-in-Named-2.ensures
    ∙ each_named has_words c.args.def.now.fields c.in-Named.numbers
    ∙ ap (λ (fields : Fields). list_any has_words (named c.args.def.now fields)) (sym c.in-Named.is)
