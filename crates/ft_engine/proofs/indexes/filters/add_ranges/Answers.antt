use Rattle.std.proofs.Common.{◌∙◌, ◌&&◌, List, ap, sym, arith}
use Rattle.std.proofs.lemmas.Grind.{common_steps}
use Rattle.std.specs.List.{list_all}
use Rattle.std.proofs.lemmas.List.{map_more}
use Rattle.cmd_parse.specs.Filters.{Filter}
use Rattle.cmd_parse.specs.Seen.{filter_of}
use Rattle.ft_base.specs.declared.query.Query.{Query}
use Rattle.ft_machine.specs.Counted.{passes}
use Rattle.ft_meaning.specs.Holds.{holds}
use Rattle.ft_engine.proofs.FilterLaws.{ranges-more}
use Rattle.ft_engine.proofs.indexes.filters.add_ranges.Goals as goal

pub ranges-2-preserved : goal.ranges-2-preserved
ranges-2-preserved c doc =
    let def = c.args.def.now in
    let asks = λ (part : Query). holds part def doc in
    ap (list_all asks) c.in_ok-push.ensures.items
    ∙ (ranges-more asks (passes def doc) (list_all asks c.args.parts.now.items) c.ranges-2.parts.items c.range.result _ _ (c.ranges-2.invariant doc) (c.range.ensures doc)
    ∙ ap (λ (filters : List Filter). list_all asks c.args.parts.now.items && list_all (passes def doc) filters) (sym (map_more filter_of c.args.filters.now c.ranges-2.filter-index _ c.ranges-2-test.true)))

pub returns : goal.returns
returns c = grind (arith, common_steps)
