use Rattle.leaf_rows.specs.Splicing.{live_but}
use Rattle.term_dict.specs.Tags.{list_in}
use Rattle.leaf_rows.proofs.SplicingLaws.{fits-some}
use Rattle.leaf_rows.proofs.lists.tags.splice.Goals as goal

pub splice-requires : goal.splice-requires
splice-requires c = fits-some (live_but c.args.dead.now.ids.now) (list_in c.args.lists.now c.args.of c.args.tag.now) c.args.repair c.requires
