use Rattle.std.proofs.Common.{sym, ap, ◌∙◌}
use Rattle.std.proofs.lemmas.Result.{IfOk-weaker}
use Rattle.std.specs.List.{list_all, list_any}
use Rattle.ft_meaning.specs.Holds.{has_of, holds_by}
use Rattle.ft_meaning.proofs.HoldsLaws.{holds-And, holds-Or}
use Rattle.query_match.proofs.matcher.+matches.Goals as goal

pub matches-returns-in-And : goal.matches-returns-in-And
matches-returns-in-And t c =
    let has = has_of c.args.def.now c.args.doc.now in
    IfOk-weaker c.matches_all.result _ _
    (λ met same. same
    ∙ (ap (list_all (holds_by has)) c.as_slice-in-And.ensures
    ∙ (sym (holds-And has c.in-And.parts) ∙ ap (holds_by has) (sym c.in-And.is))))
    c.matches_all.ensures

pub matches-returns-in-Or : goal.matches-returns-in-Or
matches-returns-in-Or t c =
    let has = has_of c.args.def.now c.args.doc.now in
    IfOk-weaker c.matches_any.result _ _
    (λ met same. same
    ∙ (ap (list_any (holds_by has)) c.as_slice-in-Or.ensures
    ∙ (sym (holds-Or has c.in-Or.parts) ∙ ap (holds_by has) (sym c.in-Or.is))))
    c.matches_any.ensures
