use Rattle.std.proofs.Common.{sym}
use Rattle.cmd_parse.specs.Aggregating.{aggregate_of}
use Rattle.ft_engine.proofs.AggregateLaws.{aggregate_query, is-aggregate}
use Rattle.ft_engine.proofs.AnsweringLaws.{queries-fault_of, queries-given, queries-none}
use Rattle.ft_engine.proofs.OpeningLaws.{first-does, gives-opened}
use Rattle.ft_engine.proofs.SearchLaws.{readable}
use Rattle.ft_engine.proofs.indexes.opening.read_first.Goals as goal

pub read_new-requires-clause-readable : goal.read_new-requires-clause-readable
read_new-requires-clause-readable c = readable c.args.store.now c.args.indexes.now c.args.asked.index.now c.in-Some.index.now c.requires.step c.in-Some.ensures

pub returns-in_default-clause-does : goal.returns-in_default-clause-does
returns-in_default-clause-does c state all same =
    let what = aggregate_of c.args.asked in
    queries-none (aggregate_query what) c.args.number state (is-aggregate what c.args.number state) c.args.indexes.now same _ (sym c.in_default.ensures) c.set_fault.ensures.bytes

pub returns-in-Ok-clause-does : goal.returns-in-Ok-clause-does
returns-in-Ok-clause-does c state all same =
    let what = aggregate_of c.args.asked in
    let number = c.args.number in
    let def = c.in-Some.index.now.def in
    first-does what c.args.cursor number state def c.in-Ok.query c.args.store.now.space c.read_new.result _ all
    (gives-opened what c.args.cursor number state def c.in-Ok.query c.requires.cursor
    (queries-given (aggregate_query what) number state (is-aggregate what number state) c.args.indexes.now same c.in-Some.index.now c.def.result.now c.in-Ok.query (sym c.in-Some.ensures) c.def.ensures.def c.in-Ok.ensures.exact))
    c.read_new.ensures.first

pub returns-in-Err-clause-does : goal.returns-in-Err-clause-does
returns-in-Err-clause-does c state all same =
    let what = aggregate_of c.args.asked in
    queries-fault_of (aggregate_query what) c.args.number state (is-aggregate what c.args.number state) c.args.indexes.now same c.in-Some.index.now c.def.result.now _ c.in-Err.fault
    (sym c.in-Some.ensures) c.def.ensures.def c.in-Err.ensures.exact c.set_query_refusal.ensures.bytes
