use Rattle.std.proofs.Common.{◌∙◌}
use Rattle.query_parse.proofs.PhraseLemmas.{phrase-made}
use Rattle.query_parse.proofs.phrases.phrase.Goals as goal

pub returns : goal.returns
returns c = phrase-made c.args.slop c.args.in_order c.args.parts.items c.index.result.now c.in_ok-fields.fields c.from_vec.result c.requires.several c.requires.words c.index.ensures c.in_ok-fields.ensures (c.from_vec.ensures ∙ c.in_ok-words.ensures)
