use Rattle.term_dict.specs.Rows.{lists_of}
use Rattle.term_dict.specs.Terms.{list_of}
use Rattle.term_dict.proofs.SpliceLaws.{counted_done}
use Rattle.term_dict.proofs.collect.splice_word.Goals as goal

pub returns-in-Done-clause-counted : goal.returns-in-Done-clause-counted
returns-in-Done-clause-counted g c =
    counted_done c.args.word.now c.args.repair.now c.args.marker (list_of (lists_of c.args.lists.now.entries) c.args.word.now) c.args.lists.now.entries c.splice_row.new.lists.entries
    c.drop_drained.new.lists.entries c.in-Done.removed c.in-Done.tail_kept c.in-Done.ensures.gone c.in-Done.ensures.there c.requires c.drop_drained.ensures.counted
