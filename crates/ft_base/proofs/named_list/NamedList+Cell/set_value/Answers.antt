use Rattle.std.proofs.Common.{◌∙◌, ◌<◌, ap, length, List, subst, sym}
use Rattle.ft_base.specs.declared.row.Cell.{Cell}
use Rattle.ft_base.specs.Cells.{value_set}
use Rattle.ft_base.proofs.CellsLaws.{put_is}
use Rattle.ft_base.proofs.named_list.NamedList+Cell.set_value.Goals as goal

pub returns : goal.returns
returns c =
    put_is c.self.inside.items.items c.args.place c.index_mut.result.now c.args.value (subst (λ (cells : List Cell). c.args.place < length cells) (sym c.self.view_is) c.requires) c.index_mut.ensures.value
    ∙ ap (λ (cells : List Cell). value_set cells c.args.place c.args.value) c.self.view_is
