use Rattle.list_figures.specs.Figures.{but_tenth}
use Rattle.list_figures.proofs.FigureLaws.{fits-own}
use Rattle.list_figures.proofs.one_list.print_spliced.Goals as goal

pub splice_list-requires : goal.splice_list-requires
splice_list-requires g c = λ same.
    let live = but_tenth c.args.live.now.till in
    (live, fits-own live c.args.list.now c.args.repair c.requires)
