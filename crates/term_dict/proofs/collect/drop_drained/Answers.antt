use Rattle.std.proofs.Common.{◌∙◌, sym}
use Rattle.term_dict.proofs.SpliceLaws.{drained_count, drained_sets}
use Rattle.term_dict.proofs.TermLaws.{sets_rows}
use Rattle.term_dict.proofs.collect.drop_drained.Goals as goal

pub returns-then-is_drained-clause-sets : goal.returns-then-is_drained-clause-sets
returns-then-is_drained-clause-sets g c =
    drained_sets c.args.word.now c.args.lists.now.entries c.remove.new.self.entries (sym c.is_drained.ensures ∙ c.if-is_drained.true)
    (sets_rows c.args.word.now _ c.args.lists.now.entries c.remove.new.self.entries c.remove.ensures.updates.1 c.remove.ensures.updates.3)

pub returns-then-is_drained-clause-counted : goal.returns-then-is_drained-clause-counted
returns-then-is_drained-clause-counted g c =
    drained_count c.args.word.now c.args.lists.now.entries c.remove.new.self.entries (sym c.is_drained.ensures ∙ c.if-is_drained.true) c.remove.ensures.entries
