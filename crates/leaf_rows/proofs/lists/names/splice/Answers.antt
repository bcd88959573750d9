use Rattle.leaf_rows.specs.Splicing.{live_but}
use Rattle.term_dict.specs.Terms.{list_of}
use Rattle.leaf_rows.proofs.SplicingLaws.{fits-some}
use Rattle.leaf_rows.proofs.lists.names.splice.Goals as goal

pub splice-requires : goal.splice-requires
splice-requires c = fits-some (live_but c.args.dead.now.ids.now) (list_of c.args.terms.now c.args.word.now) c.args.repair c.requires
