use Rattle.std.proofs.Common.{◌∙◌, ap, sym, Some, None, nat_eq}
use Rattle.term_dict.specs.Changes.{is_drained}
use Rattle.term_dict.proofs.TermLaws.{found}
use Rattle.term_dict.proofs.collect.is_drained.Goals as goal

pub returns-in-Some : goal.returns-in-Some
returns-in-Some g c =
    ap (λ n. nat_eq n 0) c.len.ensures.len ∙ sym (ap is_drained (found c.args.word.now c.args.lists.now.entries (Some c.in-Some.list.now) c.in-Some.ensures.value))

pub returns-in-None : goal.returns-in-None
returns-in-None g c = sym (ap is_drained (found c.args.word.now c.args.lists.now.entries None c.in-None.ensures.value))
