use Rattle.std.proofs.Common.{rules, not, nat_eq}
use Rattle.std.proofs.lemmas.List.Elements.{filter_from_retain}
use Rattle.doc_table.proofs.changes.drop_spent.Goals as goal

pub returns : goal.returns
returns c = filter_from_retain _ (λ page. not (nat_eq page.word 0)) (λ p x b q k. search rules) _ _ _ c.retain.ensures.filtered
