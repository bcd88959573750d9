use Rattle.std.specs.Prelude.{find, map, nat_le}
use Rattle.std.proofs.Common.{◌∙◌, ap, sym, arith}
use Rattle.doc_table.specs.Table.{Table}
use Rattle.ft_index.specs.Index.{Index}
use Rattle.indexed_store.proofs.DroppingLaws.{row-fewer, row-removed, rows-removed}
use Rattle.indexed_store.proofs.StepLaws.{rest-after}
use Rattle.indexed_store.proofs.MovingLaws.{moves-again}
use Rattle.indexed_store.proofs.dropping.remove_live.Goals as goal

pub removing-smaller : goal.removing-smaller
removing-smaller c =
    let found = sym (c.in-Some.ensures ∙ ap (λ (t : Table). find (λ n. nat_le 0 n) (map (λ row. row.0) t.live)) c.table.ensures) in
    row-fewer c.removing.dropped.table.live c.kill.new.self.table.live c.in-Some.id found (ap (λ (i : Index). i.table.live) c.kill.ensures.gone)

pub removing-preserved : goal.removing-preserved
removing-preserved c =
    let found = sym (c.in-Some.ensures ∙ ap (λ (t : Table). find (λ n. nat_le 0 n) (map (λ row. row.0) t.live)) c.table.ensures) in
    let gone = ap (λ (i : Index). i.table.live) c.kill.ensures.gone in
    record {
      left = row-removed c.removing.dropped.table.live c.kill.new.self.table.live c.in-Some.id c.removing.store.space c.remove_id.new.store.space found gone c.remove_id.ensures.space ∙ c.removing.invariant.left;
      rest = rest-after c.args.store.now c.removing.store c.remove_id.new.store c.removing.invariant.rest c.remove_id.ensures.rest;
      kept = λ next step. c.remove_id.ensures.kept next (c.removing.invariant.kept next step);
      definitions = c.remove_id.ensures.definitions ∙ c.removing.invariant.definitions;
      lists = c.remove_id.ensures.lists ∙ c.removing.invariant.lists;
      moves = λ event. moves-again event event c.args.indexes.now c.removing.indexes c.remove_id.new.indexes (omega arith) (c.removing.invariant.moves event) (c.remove_id.ensures.moves event);
    }

pub returns-clause-space : goal.returns-clause-space
returns-clause-space c =
    let none = sym (c.in_default.ensures ∙ ap (λ (t : Table). find (λ n. nat_le 0 n) (map (λ row. row.0) t.live)) c.table.ensures) in
    rows-removed c.removing.dropped.table.live c.removing.store.space c.args.store.now.space (map (λ row. row.0) c.args.dropped.now.table.live) none c.removing.invariant.left
