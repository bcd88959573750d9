use Rattle.std.specs.Option.{option_copied}
use Rattle.id_iters.proofs.LeafLaws.{word_read}
use Rattle.id_iters.proofs.leaf.Leaf.read_word.Goals as goal

pub returns-clause-at : goal.returns-clause-at
returns-clause-at g c =
    word_read (g.T.Lists.held c.args.lists.now) c.args.self.now c.read_in.result (option_copied c.word_list.result) c.read_in.new.place c.read_in.new.ahead c.args.from
    c.word_list.ensures c.read_in.ensures.sound c.read_in.ensures.least c.read_in.ensures.ahead
