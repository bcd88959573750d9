use Rattle.std.proofs.Common.{◌∙◌, ap, sym}
use Rattle.term_dict.specs.Terms.{list_of}
use Rattle.term_dict.proofs.TermLaws.{list_of-rows}
use Rattle.term_dict.proofs.dictionary.Dictionary.list.Goals as goal

pub returns : goal.returns
returns g c =
    c.get.ensures.value ∙ (sym (list_of-rows c.args.word.now c.self.inside.lists.entries) ∙ ap (λ lists. list_of lists c.args.word.now) c.self.view_is)
