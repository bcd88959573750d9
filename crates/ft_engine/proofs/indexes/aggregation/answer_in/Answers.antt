use Rattle.std.proofs.Common.{inl, inr, refl, sym}
use Rattle.cmd_parse.specs.Aggregating.{aggregate_of}
use Rattle.ft_machine.specs.Aggregating.{aggregate_reply}
use Rattle.ft_machine.specs.Indexes.{unknown_index}
use Rattle.ft_engine.proofs.AnsweringLaws.{queries-fault_of, queries-found, queries-none}
use Rattle.ft_engine.proofs.AggregateLaws.{aggregate_query, gives-all, is-aggregate}
use Rattle.query_grammar.specs.Refusals.{query_refusal}
use Rattle.ft_engine.proofs.SearchLaws.{readable}
use Rattle.ft_engine.proofs.indexes.aggregation.answer_in.Goals as goal

pub answer_parsed-requires : goal.answer_parsed-requires
answer_parsed-requires c = record { readable = readable c.args.store.now c.args.indexes.now c.args.aggregate.now.index.now c.in-Some.index.now c.requires.step c.in-Some.ensures }

pub returns-in_default-clause-does : goal.returns-in_default-clause-does
returns-in_default-clause-does c number state all same =
    let what = aggregate_of c.args.aggregate.now in
    queries-none (aggregate_query what) number state (is-aggregate what number state) c.args.indexes.now same _ (sym c.in_default.ensures) c.set_fault.ensures.bytes

pub returns-in-Ok-clause-does : goal.returns-in-Ok-clause-does
returns-in-Ok-clause-does c number state all same =
    let what = aggregate_of c.args.aggregate.now in
    let def = c.in-Some.index.now.def in
    queries-found (aggregate_query what) number state (is-aggregate what number state) c.args.indexes.now same c.in-Some.index.now c.def.result.now _ c.in-Ok.query
    (aggregate_reply what c.args.store.now.space def c.in-Ok.query) (sym c.in-Some.ensures) c.def.ensures.def c.in-Ok.ensures.exact
    (gives-all what what.cursor number state c.args.store.now.space def c.in-Ok.query c.requires.cursor all) c.answer_parsed.ensures.found

pub returns-in-Err-clause-does : goal.returns-in-Err-clause-does
returns-in-Err-clause-does c number state all same =
    let what = aggregate_of c.args.aggregate.now in
    queries-fault_of (aggregate_query what) number state (is-aggregate what number state) c.args.indexes.now same c.in-Some.index.now c.def.result.now _ c.in-Err.fault
    (sym c.in-Some.ensures) c.def.ensures.def c.in-Err.ensures.exact c.set_query_refusal.ensures.bytes

pub returns-in_default-clause-reads : goal.returns-in_default-clause-reads
returns-in_default-clause-reads c = inr (inl ((unknown_index, c.set_fault.ensures.bytes), refl))

pub returns-in-Err-clause-reads : goal.returns-in-Err-clause-reads
returns-in-Err-clause-reads c = inr (inl ((query_refusal c.in-Err.fault, c.set_query_refusal.ensures.bytes), refl))
