use Rattle.cmd_parse.specs.declared.command.Verb.TheVariants.{Info, ListIndexes, TagVals}
use Rattle.indexed_store.specs.Holding.{state_of}
use Rattle.ft_engine.proofs.PlainLaws.{of_verb}
use Rattle.ft_engine.proofs.plain.answer_plain.Goals as goal

pub returns-in-ListIndexes-clause-does : goal.returns-in-ListIndexes-clause-does
returns-in-ListIndexes-clause-does c =
    of_verb c.args.verb ListIndexes c.args.args.now c.args.held.now.next (state_of c.args.held.now) (state_of c.args.held.now) _ c.in-ListIndexes.is c.answer_names.ensures.does

pub returns-in-Info-clause-does : goal.returns-in-Info-clause-does
returns-in-Info-clause-does c =
    of_verb c.args.verb Info c.args.args.now c.args.held.now.next (state_of c.args.held.now) (state_of c.args.held.now) _ c.in-Info.is c.answer_info.ensures.does

pub returns-in-TagVals-clause-does : goal.returns-in-TagVals-clause-does
returns-in-TagVals-clause-does c =
    of_verb c.args.verb TagVals c.args.args.now c.args.held.now.next (state_of c.args.held.now) (state_of c.args.held.now) _ c.in-TagVals.is c.answer_tag_vals.ensures.does
