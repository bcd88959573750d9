use Rattle.std.proofs.Common.{◌∙◌, ap, sym}
use Rattle.std.specs.Map.{keys_of}
use Rattle.std.specs.Option.{option_copied}
use Rattle.term_dict.specs.Rows.{lists_of}
use Rattle.term_dict.specs.Starts.{words_from, first_with}
use Rattle.term_dict.specs.Terms.{next_word}
use Rattle.term_dict.proofs.StartLaws.{next_found}
use Rattle.term_dict.proofs.dictionary.Dictionary.next_name.Goals as goal

pub returns : goal.returns
returns g c =
    c.first_from.ensures.first
    ∙ (ap (λ start. first_with c.args.prefix.now (words_from start (keys_of (lists_of c.self.inside.lists.entries)))) c.in_ok-start.ensures
    ∙ (sym (next_found c.args.prefix.now (option_copied c.args.after) (lists_of c.self.inside.lists.entries) c.first_from.ensures.ordered)
    ∙ ap (λ lists. next_word lists c.args.prefix.now (option_copied c.args.after)) c.self.view_is))
