use Rattle.std.proofs.Common.{subst, [], refl}
use Rattle.ft_base.specs.declared.definition.IndexDef.{IndexDef}
use Rattle.ft_schema.specs.Gives.{IsFaultOf}
use Rattle.ft_schema.specs.Schema.{extended}
use Rattle.ft_engine.proofs.IndexCommandLaws.{alter-fault, alter-prepares, alter-unknown, extended-few, named-none, named-some, prepares-stays, prepares-wanting, stays-same}
use Rattle.indexed_store.specs.DefinitionsOf.{defined, definitions_of}
use Rattle.indexed_store.specs.Holding.{state_of}
use Rattle.reply_buffer.proofs.Spellings.{ok_written}
use Rattle.ft_engine.proofs.indexes.definitions.alter.Goals as goal

pub returns-in_default-clause-prepares : goal.returns-in_default-clause-prepares
returns-in_default-clause-prepares c =
    let held = c.args.held.now in
    prepares-stays _ held held _ (stays-same held) refl
    (alter-unknown c.args.name.now c.args.fields.now held.next (state_of held) _ (named-none held.indexes (definitions_of held.indexes) c.args.name.now refl c.in_default.ensures) c.set_fault.ensures.bytes)

pub returns-in-Err-clause-prepares : goal.returns-in-Err-clause-prepares
returns-in-Err-clause-prepares c =
    let held = c.args.held.now in
    let index = c.in-Some.index.now in
    prepares-stays _ held held _ (stays-same held) refl
    (alter-fault c.args.name.now c.args.fields.now held.next (state_of held) _ (defined index) c.in-Err.fault (named-some held.indexes (definitions_of held.indexes) c.args.name.now index refl c.in-Some.ensures)
    (subst (λ (d : IndexDef). IsFaultOf c.in-Err.fault (extended d c.args.fields.now)) c.def.ensures.def c.in-Err.ensures.err) c.set_schema_refusal.ensures.bytes)

pub index_over-requires-clause-fields : goal.index_over-requires-clause-fields
index_over-requires-clause-fields c = extended-few c.def.result.now c.in-Some.index.now.def c.in-Ok.def c.args.fields.now c.def.ensures.def c.in-Ok.ensures.ok

pub returns-in-Ok-index_over-clause-prepares : goal.returns-in-Ok-index_over-clause-prepares
returns-in-Ok-index_over-clause-prepares c =
    alter-prepares c.args.name.now c.args.fields.now c.args.held.now _ c.in-Some.index.now c.in-Ok-index_over.extended c.def.result.now c.in-Ok.def c.failures-failures.result _ c.in-Some.ensures c.requires.some c.def.ensures.def c.in-Ok.ensures.ok
    c.failures-failures.ensures.count c.in-Ok-index_over.ensures.made c.in-Ok-index_over.ensures.stays c.in-Ok-index_over.ensures.indexes (ok_written [] _ refl c.set_short.ensures.bytes)

pub returns-in-Err-index_over-clause-prepares : goal.returns-in-Err-index_over-clause-prepares
returns-in-Err-index_over-clause-prepares c = prepares-wanting _ _ _ _ tt c.in-Err-index_over.ensures.stays c.in-Err-index_over.ensures.indexes c.set_no_memory.ensures.bytes
