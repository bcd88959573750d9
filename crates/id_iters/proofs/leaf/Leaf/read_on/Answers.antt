use Rattle.std.proofs.Common.{rules, ◌≡◌, true}
use Rattle.std.specs.Option.{option_copied}
use Rattle.id_iters.specs.Entries.{counts_in, has_entry}
use Rattle.id_iters.specs.Held.{entries_of}
use Rattle.posting_block.specs.declared.hits.TagHit.{TagHit}
use Rattle.id_iters.proofs.LeafLaws.{leaf_read, tag_fits, tag_same, word_fits, word_same}
use Rattle.id_iters.proofs.leaf.Leaf.read_on.Goals as goal

pub returns-in-Word-clause-ready : goal.returns-in-Word-clause-ready
returns-in-Word-clause-ready g c =
    let held = g.T.Lists.held c.args.lists.now in
    let leaf = c.args.self.now in
    let found : option_copied c.text.result ≡ held.words c.in-Word.text = search rules in
    leaf_read held leaf c.read_in.result (has_entry (counts_in leaf.fields) (entries_of (option_copied c.text.result))) c.read_in.new.place c.read_in.new.ahead
    (word_same held leaf c.in-Word.text (option_copied c.text.result) c.in-Word.is found)
    (word_fits held leaf c.in-Word.text (option_copied c.text.result) c.read_in.new.place c.in-Word.is found c.read_in.ensures.sound) c.read_in.ensures.ahead

pub returns-in-Tag-clause-ready : goal.returns-in-Tag-clause-ready
returns-in-Tag-clause-ready g c =
    let held = g.T.Lists.held c.args.lists.now in
    let leaf = c.args.self.now in
    let found : option_copied c.tag.result ≡ held.tags c.in-Tag.field c.in-Tag.text = search rules in
    leaf_read held leaf c.read_in-in-Tag.result (has_entry (λ (hit : TagHit). true) (entries_of (option_copied c.tag.result))) c.read_in-in-Tag.new.place c.read_in-in-Tag.new.ahead
    (tag_same held leaf c.in-Tag.field c.in-Tag.text (option_copied c.tag.result) c.in-Tag.is found)
    (tag_fits held leaf c.in-Tag.field c.in-Tag.text (option_copied c.tag.result) c.read_in-in-Tag.new.place c.in-Tag.is found c.read_in-in-Tag.ensures.sound) c.read_in-in-Tag.ensures.ahead
