use Rattle.std.proofs.Common.{◌∙◌, ap, sym}
use Rattle.ft_engine.proofs.IndexCommandLaws.{list-told}
use Rattle.indexed_store.specs.DefinitionsOf.{definitions_of}
use Rattle.indexed_store.specs.Holding.{Holding, state_of}
use Rattle.ft_engine.proofs.indexes.index_reads.answer_names.Goals as goal

pub returns-clause-does : goal.returns-clause-does
returns-clause-does c =
    list-told c.args._args.now c.as_slice.result.now c.args.held.now.next (state_of c.args.held.now) _ c.names_of_indexes.result (ap definitions_of (sym (ap (λ (h : Holding). h.indexes) c.held.view_is) ∙ sym c.as_slice.ensures.value)) c.names_of_indexes.ensures.reply
    c.set_made.ensures.told
