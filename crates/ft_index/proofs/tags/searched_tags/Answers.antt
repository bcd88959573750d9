use Rattle.std.proofs.Common.{sym, subst}
use Rattle.std.proofs.lemmas.Result.{IfOk-weaker}
use Rattle.ft_index.specs.Tagging.{AreApart}
use Rattle.ft_index.proofs.TagLaws.{tags-apart}
use Rattle.ft_index.proofs.tags.searched_tags.Goals as goal

pub returns-in-Some-clause-apart : goal.returns-in-Some-clause-apart
returns-in-Some-clause-apart c =
    IfOk-weaker c.tags.result _ AreApart (λ tags is. subst AreApart (sym is) (tags-apart c.in-Some.value.now c.in-Tag.separator c.in-Tag.case)) c.tags.ensures
