use Rattle.std.proofs.Common.{ap, sym, subst, refl}
use Rattle.doc_table.specs.Table.{Table}
use Rattle.ft_index.specs.Index.{Index, Indexes, IsIndex}
use Rattle.ft_index.specs.contracts.index.FtIndex.{the_view}
use Rattle.ft_index.proofs.MemberLaws.{index-gone, indexes-gone}
use Rattle.ft_index.proofs.index.FtIndex.kill.Goals as goal

pub invariant_of-self : goal.invariant_of-self
invariant_of-self c =
    let inside = the_view c.self.inside in (
      subst (λ (t : Table). IsIndex (record inside { table = t })) (sym c.kill-was.ensures.gone) (index-gone inside c.args.id c.self.invariant.0),
      c.self.invariant.1,
    )

pub returns-clause-docs : goal.returns-clause-docs
returns-clause-docs c docs stands =
    let inside = the_view c.self.inside in
    let before = subst (λ (i : Index). Indexes i docs) (sym c.self.view_is) stands in
    indexes-gone inside (record inside { table = c.kill-was.new.self }) c.args.id docs refl refl (ap (λ (t : Table). t.live) c.kill-was.ensures.gone) c.self.invariant.0.kept before
