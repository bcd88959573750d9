use Rattle.std.proofs.Common.{◌≡◌, ◌++◌, ◌∷◌, List, sym, ap, ◌∙◌, subst}
use Rattle.std.specs.Prelude.{OnOk, pos}
use Rattle.std.proofs.lemmas.Iterator.Adapters.{fact_from_extend, YieldsList-from_vec}
use Rattle.std.proofs.lemmas.List.{map-id}
use Rattle.ft_base.specs.declared.reply.Reply.{Reply}
use Rattle.ft_base.specs.declared.reply.Reply.TheVariants.{Number}
use Rattle.search_exec.proofs.FieldLaws.{items-more}
use Rattle.search_exec.proofs.by_field.into_page.Goals as goal

pub showing-preserved : goal.showing-preserved
showing-preserved c =
    let old = c.showing.replies.items in
    let more = c.in-Some.row.item in
    let added : c.extend.new.self.items ≡ old ++ more =
    subst (λ made. OnOk made (c.extend.new.self.items ≡ old ++ more)) c.in_ok-extend.was
    (fact_from_extend (λ reply. reply) c.extend.result c.extend.ensures.ran (λ it from. YieldsList-from_vec {s = it} _ from.0 (from.1 ∙ c.into_vec.result.ok.0))
    (λ replies all gives. gives.0 ∙ ap (λ replies. old ++ replies) (sym (map-id replies) ∙ (all ∙ c.into_vec.ensures)))) in
    added
    ∙ (ap (λ replies. replies ++ more) c.showing.invariant
    ∙ ap (λ (replies : List Reply). Number (pos c.args.total) ∷ replies) (sym (items-more c.showing.yielded c.in-Some.row)))
