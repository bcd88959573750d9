use Rattle.std.proofs.Common.{◌∙◌, sym, subst}
use Rattle.ft_base.specs.declared.query.Query.{Query}
use Rattle.query_merge.specs.Merged.{IsPart, marked}
use Rattle.query_merge.proofs.MarkLaws.{got, marked_at, set_at}
use Rattle.query_merge.proofs.merge.is_marked.Goals as goal

pub returns-then-is_set : goal.returns-then-is_set
returns-then-is_set c = λ yes.
    subst (λ (part : Query). IsPart part (marked c.args.queries.now c.args.marks.now)) (sym (c.is_same.ensures yes))
    (marked_at c.args.queries.now c.args.marks.now c.in-Some.place c.in-Some-get.other.now
    (got c.args.queries.now c.in-Some.place c.in-Some-get.other.now c.in-Some-get.ensures.lookup.0 c.in-Some-get.ensures.lookup.1)
    (set_at c.args.marks.now c.in-Some.place (sym c.is_set.ensures ∙ c.if-is_set.true)))
