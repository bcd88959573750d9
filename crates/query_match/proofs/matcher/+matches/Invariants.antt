use Rattle.std.proofs.Common.{◌≡◌, drop}
use Rattle.std.specs.List.{list_all, list_any}
use Rattle.ft_base.specs.declared.query.Query.{Query}
use Rattle.ft_meaning.specs.Holds.{holds}
use Rattle.query_match.proofs.matcher.+matches.Given as goal

-- the answer is that of the parts that are left
abbrev pub invariant-matches_all-every : goal.invariant-matches_all-every
invariant-matches_all-every l =
    list_all (λ (part : Query). holds part l.def l.doc) l.parts ≡ list_all (λ (part : Query). holds part l.def l.doc) (drop l.part-index l.parts)

abbrev pub invariant-matches_any-some : goal.invariant-matches_any-some
invariant-matches_any-some l =
    list_any (λ (part : Query). holds part l.def l.doc) l.parts ≡ list_any (λ (part : Query). holds part l.def l.doc) (drop l.part-index l.parts)
