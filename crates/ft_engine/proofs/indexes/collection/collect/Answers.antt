use Rattle.std.proofs.Common.{◌∙◌, ap, subst, sym, List, ℕ, refl}
use Rattle.std.specs.Prelude.{is_some, not}
use Rattle.cmd_parse.specs.Read.{Plain}
use Rattle.cmd_parse.specs.declared.command.Verb.TheVariants.{Debug}
use Rattle.ft_base.specs.Memory.{want_of_memory}
use Rattle.ft_machine.specs.Definitions.{index_of}
use Rattle.ft_machine.specs.Indexes.{unknown_index}
use Rattle.indexed_store.specs.Collecting.{IsCleanAt}
use Rattle.indexed_store.specs.DefinitionsOf.{definitions_of}
use Rattle.indexed_store.specs.Holding.{state_of}
use Rattle.ft_engine.proofs.CollectionLaws.{collect-done, collect-unknown, collects-refused, done_written, prepares-collected}
use Rattle.ft_engine.proofs.IndexCommandLaws.{named-known, prepares-stays, stays-same}
use Rattle.ft_engine.proofs.PreparedLaws.{prepares-wanting}
use Rattle.ft_engine.proofs.indexes.collection.collect.Goals as goal

pub returns-then-is_none-clause-prepares : goal.returns-then-is_none-clause-prepares
returns-then-is_none-clause-prepares c =
    let held = c.args.held.now in
    let known = named-known held.indexes (definitions_of held.indexes) c.word-name.result.now c.index_named.result refl c.index_named.ensures ∙ (c.is_none.ensures ∙ ap not c.if-is_none.true) in
    prepares-stays _ held held _ (stays-same held) refl
    (collect-unknown c.args.args.now held.next (state_of held) _ (ap (λ (w : List ℕ). is_some (index_of (definitions_of held.indexes) w)) (sym c.word-name.ensures) ∙ known) c.set_fault.ensures.bytes)

pub returns-then-is_none-clause-collects : goal.returns-then-is_none-clause-collects
returns-then-is_none-clause-collects c = collects-refused (Plain Debug c.args.args.now) _ _ (unknown_index, c.set_fault.ensures.bytes)

pub returns-in-Ok-clause-prepares : goal.returns-in-Ok-clause-prepares
returns-in-Ok-clause-prepares c =
    let held = c.args.held.now in
    let known = named-known held.indexes (definitions_of held.indexes) c.word-name.result.now c.index_named.result refl c.index_named.ensures ∙ (c.is_none.ensures ∙ ap not c.if-is_none.false) in
    prepares-collected c.args.args.now held _ _ c.word-name.result.now c.word-name.ensures c.in-Ok.ensures.clean c.collect.ensures.others c.in-Ok.ensures.stays
    (collect-done c.args.args.now held.next (state_of held) _ (ap (λ (w : List ℕ). is_some (index_of (definitions_of held.indexes) w)) (sym c.word-name.ensures) ∙ known) (done_written _ c.set_short.ensures.bytes))

pub returns-in-Ok-clause-collects : goal.returns-in-Ok-clause-collects
returns-in-Ok-clause-collects c said = subst (λ (w : List ℕ). IsCleanAt w c.collect.new.self.indexes) c.word-name.ensures c.in-Ok.ensures.clean

pub returns-in-Err-clause-prepares : goal.returns-in-Err-clause-prepares
returns-in-Err-clause-prepares c = prepares-wanting _ _ _ _ tt c.in-Err.ensures.stays c.set_no_memory.ensures.bytes

pub returns-in-Err-clause-collects : goal.returns-in-Err-clause-collects
returns-in-Err-clause-collects c = collects-refused (Plain Debug c.args.args.now) _ _ (want_of_memory, c.set_no_memory.ensures.bytes)
