use Rattle.std.proofs.Common.{◌∙◌, ap, sym}
use Rattle.indexed_store.specs.DefinitionsOf.{definitions_of}
use Rattle.indexed_store.specs.Holding.{Holding, state_of}
use Rattle.ft_engine.proofs.indexes.index_reads.answer_tag_vals.Goals as goal

pub returns-clause-does : goal.returns-clause-does
returns-clause-does c =
    c.answer_tags_in.ensures.does c.args.held.now.next (state_of c.args.held.now) (sym (ap (λ (h : Holding). h.space) c.held.view_is)) (ap definitions_of (sym (ap (λ (h : Holding). h.indexes) c.held.view_is) ∙ sym c.as_slice.ensures.value))
