use Rattle.leaf_rows.specs.Splicing.{live_but}
use Rattle.leaf_rows.proofs.SplicingLaws.{fits-grown}
use Rattle.leaf_rows.proofs.lists.splices.grow_and_splice.Goals as goal

pub splice_list-requires : goal.splice_list-requires
splice_list-requires c = λ same.
    let live = live_but c.args.dead.now.ids.now in
    (live, fits-grown live c.args.list.now c.append_all.new.list c.args.repair c.requires.repair c.in_ok-append_all.ensures.grows)
