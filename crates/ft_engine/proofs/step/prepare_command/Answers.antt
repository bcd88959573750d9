use Rattle.std.proofs.Common.{subst, sym}
use Rattle.cmd_parse.specs.Aggregating.{aggregate_of}
use Rattle.cmd_parse.specs.Reading.{command_of}
use Rattle.cmd_parse.specs.declared.command.Command.{Command}
use Rattle.ft_engine.proofs.ExactLaws.{reads-all}
use Rattle.ft_engine.specs.Exactness.{ReadsFew}
use Rattle.ft_engine.proofs.step.prepare_command.Goals as goal

pub returns-in-Aggregate-clause-reads : goal.returns-in-Aggregate-clause-reads
returns-in-Aggregate-clause-reads c =
    subst (λ (command : Command). ReadsFew (command_of command) c.aggregate.new.reply.bytes c.args.held.now.reads c.aggregate.new.held.reads) (sym c.in-Aggregate.is)
    (reads-all (aggregate_of c.in-Aggregate.asked) c.aggregate.new.reply.bytes c.args.held.now.reads c.aggregate.new.held.reads c.aggregate.ensures.reads)
