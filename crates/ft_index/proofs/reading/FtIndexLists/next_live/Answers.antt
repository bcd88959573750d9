use Rattle.std.proofs.Common.{ap, sym, subst, ◌∙◌, map, find}
use Rattle.std.specs.Prelude.{nat_le}
use Rattle.doc_table.specs.Table.{Table}
use Rattle.id_iters.specs.Least.{IsLeast}
use Rattle.ft_index.specs.Lists.{has_id}
use Rattle.ft_index.proofs.ReadingLaws.{least-live}
use Rattle.ft_index.proofs.reading.FtIndexLists.next_live.Goals as goal

pub returns : goal.returns
returns c =
    subst (IsLeast (has_id c.args.self.now.table.live) c.args.from)
    (sym (c.next_live.ensures ∙ ap (λ (table : Table). find (λ id. nat_le c.args.from id) (map (λ row. row.0) table.live)) c.table.ensures))
    (least-live 0 c.args.from c.args.self.now.table.live c.def.ensures.sound.kept.rise)
