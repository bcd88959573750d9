use Rattle.std.proofs.Common.{◌∙◌, ap, sym}
use Rattle.indexed_store.specs.DefinitionsOf.{definitions_of}
use Rattle.indexed_store.specs.Holding.{Holding, state_of}
use Rattle.ft_engine.proofs.SearchLaws.{readable-held}
use Rattle.ft_engine.proofs.indexes.aggregation.answer_aggregate.Goals as goal

pub answer_in-requires-clause-step : goal.answer_in-requires-clause-step
answer_in-requires-clause-step c =
    readable-held c.held.inside.store c.held.inside.indexes.items _ _ _ c.as_slice.ensures.value (ap (λ (h : Holding). h.next) c.held.view_is) c.requires.number c.held.invariant.step

pub returns-clause-does : goal.returns-clause-does
returns-clause-does c =
    c.answer_in.ensures.does c.args.held.now.next (state_of c.args.held.now) (sym (ap (λ (h : Holding). h.space) c.held.view_is)) (ap definitions_of (sym (ap (λ (h : Holding). h.indexes) c.held.view_is) ∙ sym c.as_slice.ensures.value))
