use Rattle.std.proofs.Common.{subst}
use Rattle.term_dict.specs.Terms.{WordsRise}
use Rattle.term_dict.proofs.StartLaws.{words_rise}
use Rattle.term_dict.proofs.dictionary.Dictionary.len.Goals as goal

pub returns-clause-words : goal.returns-clause-words
returns-clause-words g c = subst WordsRise c.self.view_is (words_rise c.self.inside.lists.entries c.len.ensures.ordered)
