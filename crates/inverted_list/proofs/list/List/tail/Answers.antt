use Rattle.std.proofs.Common.{◌≡◌, ◌++◌, refl, subst, sym}
use Rattle.inverted_list.specs.Listing.{joined, tail_behind}
use Rattle.inverted_list.proofs.BlocksLaws.{tail_is}
use Rattle.inverted_list.proofs.list.List.tail.Goals as goal

pub returns-clause-tail : goal.returns-clause-tail
returns-clause-tail g c =
    subst (λ l. c.self.inside.parts.tail ≡ tail_behind l.sealed l.entries) c.self.view_is (sym (tail_is c.self.inside.parts.sealed c.self.inside.parts.tail))

pub returns-clause-whole : goal.returns-clause-whole
returns-clause-whole g c = subst (λ l. joined l.sealed ++ c.self.inside.parts.tail ≡ l.entries) c.self.view_is refl
