use Rattle.std.proofs.Common.{sym, subst}
use Rattle.ft_meaning.specs.Member.{members}
use Rattle.ft_index.specs.Coming.{ListsCome}
use Rattle.ft_index.specs.Index.{Index, Indexes, is_live}
use Rattle.ft_index.specs.Markers.{AreBefore}
use Rattle.ft_index.specs.Thinned.{ListsThin}
use Rattle.ft_index.specs.contracts.index.FtIndex.{the_view}
use Rattle.ft_index.proofs.ThinLaws.{has-thin, index-thinned}
use Rattle.ft_index.proofs.index.FtIndex.collect.Goals as goal

pub collect-collected-requires-clause-before : goal.collect-collected-requires-clause-before
collect-collected-requires-clause-before c = subst (λ (i : Index). AreBefore c.args.markers.now i.lists) (sym c.self.view_is) c.requires.markers

pub invariant_of-self : goal.invariant_of-self
invariant_of-self c = (index-thinned (the_view c.self.inside) c.collect-collected.new.self c.collect-collected.ensures.thin c.collect-collected.ensures.differ c.self.invariant.0, c.self.invariant.1)

pub returns-clause-sound : goal.returns-clause-sound
returns-clause-sound c = index-thinned (the_view c.self.inside) c.collect-collected.new.self c.collect-collected.ensures.thin c.collect-collected.ensures.differ c.self.invariant.0

pub returns-clause-thin : goal.returns-clause-thin
returns-clause-thin c = subst (λ (i : Index). ListsThin (is_live i) i.lists c.collect-collected.new.self) c.self.view_is c.collect-collected.ensures.thin

pub returns-clause-stands : goal.returns-clause-stands
returns-clause-stands c docs stands =
    let inside = the_view c.self.inside in
    let before : Indexes inside docs = subst (λ (i : Index). Indexes i docs) (sym c.self.view_is) stands in
    has-thin inside.def inside.table.live inside.lists c.collect-collected.new.self (members inside.def docs) c.collect-collected.ensures.thin before

pub returns-clause-comes : goal.returns-clause-comes
returns-clause-comes c = subst (λ (i : Index). ListsCome c.args.markers.now.event i.lists c.collect-collected.new.self) c.self.view_is c.collect-collected.ensures.comes
