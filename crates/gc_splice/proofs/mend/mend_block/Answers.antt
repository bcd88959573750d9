use Rattle.std.proofs.Common.{◌∙◌, ap, set}
use Rattle.gc_splice.proofs.MendLaws.{write_gone, write_changed, write_same}
use Rattle.gc_splice.proofs.mend.mend_block.Goals as goal
use Rattle.gc_splice.proofs.mend.mend_block.Goals.{in-Changed, in-Same}

pub returns-in-Gone : goal.returns-in-Gone
returns-in-Gone g c = λ start taken n w. write_gone start taken c.args.i c.args.kept c.args.blocks.now.items w c.requires.within c.args.repair.now n c.in-Gone.is

pub returns : goal.returns
returns g c = λ start taken n w.
    let e = c.keep_block.ensures in
    elim c.match-repair.branch [
      | in-Changed v ↦ write_changed start taken c.args.i c.args.kept c.args.blocks.now.items w c.requires.within c.args.repair.now v.in-Changed.block c.match-repair.blocks.items c.keep_block.new.blocks.items n v.in-Changed.is
          (ap (λ b. b.items) v.blocks-is ∙ ap (λ b. set c.args.blocks.now.items c.args.i b) v.swap.ensures.y_after) e.first e.behind e.len
      | in-Same v ↦ write_same start taken c.args.i c.args.kept c.args.blocks.now.items w c.requires.within c.args.repair.now c.match-repair.blocks.items c.keep_block.new.blocks.items n v.in-Same.is
          (ap (λ b. b.items) v.blocks-is) e.first e.behind e.len
    ]
