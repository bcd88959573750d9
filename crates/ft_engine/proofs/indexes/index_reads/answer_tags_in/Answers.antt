use Rattle.std.proofs.Common.{◌≡◌, ◌∙◌, ap, sym, subst, List}
use Rattle.std.specs.Prelude.{IfOk, Some}
use Rattle.ft_base.specs.declared.definition.Field.{Field}
use Rattle.ft_base.specs.declared.definition.IndexDef.{IndexDef}
use Rattle.ft_base.specs.Docs.{Doc}
use Rattle.ft_machine.specs.Definitions.{index_of}
use Rattle.indexed_store.specs.DefinitionsOf.{defined}
use Rattle.ft_engine.proofs.IndexCommandLaws.{named-none, named-some, tags-no_field, tags-told, tags-unknown}
use Rattle.ft_base.specs.Words.{second}
use Rattle.ft_machine.specs.Indexes.{tag_field, tags_reply}
use Rattle.ft_engine.proofs.indexes.index_reads.answer_tags_in.Goals as goal

pub returns-in_default-clause-does : goal.returns-in_default-clause-does
returns-in_default-clause-does c number state space same =
    tags-unknown c.args.args.now number state _ (ap (index_of state.definitions) (sym c.word.ensures) ∙ named-none c.args.indexes.now state.definitions c.word.result.now same c.in_default.ensures) c.set_fault.ensures.bytes

pub returns-in_default-tag_field-clause-does : goal.returns-in_default-tag_field-clause-does
returns-in_default-tag_field-clause-does c number state space same =
    let index = c.in-Some.index.now in
    let there = ap (index_of state.definitions) (sym c.word.ensures) ∙ named-some c.args.indexes.now state.definitions c.word.result.now index same c.in-Some.ensures in
    let fields = c.as_slice.ensures ∙ ap (λ (d : IndexDef). d.fields) c.def-def.ensures.def in
    let none = ap (λ (fs : List Field). tag_field fs (second c.args.args.now)) (sym fields) ∙ (ap (tag_field c.as_slice.result.now) (sym c.word-2.ensures) ∙ sym c.in_default-tag_field.ensures) in
    tags-no_field c.args.args.now number state _ (defined index) there none c.set_fault-in_default-tag_field.ensures.bytes

pub returns-clause-does : goal.returns-clause-does
returns-clause-does c number state space same =
    let index = c.in-Some.index.now in
    let field = c.in-Some-tag_field.field.now in
    let there = ap (index_of state.definitions) (sym c.word.ensures) ∙ named-some c.args.indexes.now state.definitions c.word.result.now index same c.in-Some.ensures in
    let fields = c.as_slice.ensures ∙ ap (λ (d : IndexDef). d.fields) c.def-def.ensures.def in
    let here = ap (λ (fs : List Field). tag_field fs (second c.args.args.now)) (sym fields) ∙ (ap (tag_field c.as_slice.result.now) (sym c.word-2.ensures) ∙ sym c.in-Some-tag_field.ensures) in
    let tags = subst (λ (d : IndexDef). IfOk c.tags_reply.result (λ reply. reply ≡ tags_reply (Some field) d state.space)) c.def-def.ensures.def
    (subst (λ (docs : List Doc). IfOk c.tags_reply.result (λ reply. reply ≡ tags_reply (Some field) c.def-def.result.now docs)) (sym space) c.tags_reply.ensures.reply) in
    tags-told c.args.args.now number state _ (defined index) field c.tags_reply.result there here tags c.set_made.ensures.told
