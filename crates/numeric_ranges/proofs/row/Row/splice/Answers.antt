use Rattle.std.proofs.Common.{refl, sym, subst}
use Rattle.posting_block.specs.declared.hits.NumHit.{NumHit}
use Rattle.inverted_list.specs.Listing.{Listing}
use Rattle.numeric_ranges.specs.Rows.{Knows}
use Rattle.numeric_ranges.proofs.GoneLaws.{part_spliced, same_undone}
use Rattle.numeric_ranges.proofs.row.Row.splice.Goals as goal

pub returns-in-Done-clause-part : goal.returns-in-Done-clause-part
returns-in-Done-clause-part c =
    part_spliced c.args.repair.now c.args.marker c.args.self.now.list c.splice_list-spliced.new.list c.splice_list-spliced.result c.splice_list-spliced.ensures c.requires.fits

pub returns-in-Done-clause-knows : goal.returns-in-Done-clause-knows
returns-in-Done-clause-knows c =
    let old = c.args.self.now.list in
    let new = c.splice_list-spliced.new.list in
    let part = part_spliced c.args.repair.now c.args.marker old new c.splice_list-spliced.result c.splice_list-spliced.ensures c.requires.fits in
    c.of_part-self.ensures old.entries new.entries c.requires.knows part c.len-left.ensures.len

pub returns-in_default : goal.returns-in_default
returns-in_default c =
    let old = c.args.self.now.list in
    let new = c.splice_list-spliced.new.list in
    let same = same_undone c.args.repair.now c.args.marker old new c.splice_list-spliced.result c.splice_list-spliced.ensures (λ removed kept. c.in_default.not-Done removed kept) in
    record {
      low = refl;
      list = c.splice_list-spliced.ensures;
      part = part_spliced c.args.repair.now c.args.marker old new c.splice_list-spliced.result c.splice_list-spliced.ensures c.requires.fits;
      rises = c.len-left.ensures.rises;
      knows = subst (λ (l : Listing NumHit). Knows c.args.self.now.spread l.entries) (sym same) c.requires.knows;
    }
