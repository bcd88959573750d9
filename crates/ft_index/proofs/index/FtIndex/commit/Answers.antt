-- The table becomes what the index's commit says of it.
use Rattle.std.proofs.Common.{◌≡◌, ◌∙◌, Some, None, Option, ap, sym, subst}
use Rattle.doc_table.specs.Table.{Table}
use Rattle.ft_index.specs.Index.{Index, IsIndex, WaitsIn, commits, commits_as}
use Rattle.ft_index.specs.contracts.index.FtIndex.{the_view}
use Rattle.ft_index.specs.declared.ready.Fit.{Fit}
use Rattle.ft_index.specs.declared.ready.Ready.{Ready}
use Rattle.ft_index.proofs.IndexLaws.{table-committed}
use Rattle.ft_index.proofs.MemberLaws.{commits-is, index-committed}
use Rattle.ft_index.proofs.index.FtIndex.commit.Goals as goal

pub invariant_of-self : goal.invariant_of-self
invariant_of-self c =
    let inside = the_view c.self.inside in
    let waits : inside.waits ≡ Some c.args.ready = ap (λ (i : Index). i.waits) c.self.view_is ∙ c.requires in
    let held : WaitsIn (Some c.args.ready) inside.table = subst (λ (w : Option Ready). WaitsIn w inside.table) waits c.self.invariant.0.waits in
    let after : c.commit.new.self ≡ commits inside.table.ready inside.table = table-committed inside.table c.commit.new.self inside.table.ready c.args.ready.id (held c.in-Member.is) c.commit.ensures in
    let becomes = commits-is inside c.args.ready waits ∙ ap (λ (f : Fit). commits_as f (record inside { waits = None })) c.in-Member.is in (
      subst (λ (t : Table). IsIndex (record inside { table = t; waits = None })) (sym after) (subst IsIndex becomes (index-committed inside c.self.invariant.0)),
      c.self.invariant.1,
    )
