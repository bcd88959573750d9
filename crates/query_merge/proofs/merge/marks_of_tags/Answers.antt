use Rattle.std.proofs.Common.{[], Bool, List, length, true, false, sym, ap, subst}
use Rattle.query_merge.specs.Merged.{AreParts, IsPart, marked}
use Rattle.query_merge.proofs.MarkLaws.{count_more, none_marked, one_marked, one_passed}
use Rattle.query_merge.proofs.merge.marks_of_tags.Goals as goal

pub tags-init : goal.tags-init
tags-init c = record {
  count = ap length c.new-marks.ensures.items;
  parts = subst (λ (marks : List Bool). AreParts [] (marked c.args.tags.now marks)) (sym c.new-marks.ensures.items) (none_marked c.args.tags.now);
}

pub tags-preserved-then-is_marked_tag : goal.tags-preserved-then-is_marked_tag
tags-preserved-then-is_marked_tag c = record {
  count = count_more c.tags.marks.items c.push.new.self.items false c.tags.at c.tags.invariant.count c.in_ok-push.ensures.items;
  parts = one_passed c.args.tags.now c.tags.marks.items c.push.new.self.items c.tags.at c.index-tags-at.result c.tags-test.true (sym c.index-tags-at.is) c.in_ok-push.ensures.items
      (subst (λ (marks : List Bool). IsPart c.index-tags-at.result (marked c.args.tags.now marks)) c.as_slice.ensures.value (c.is_marked_tag.ensures c.if-is_marked_tag.true)) c.tags.invariant.parts;
}

pub tags-preserved : goal.tags-preserved
tags-preserved c = record {
  count = count_more c.tags.marks.items c.push-in-tags.new.self.items true c.tags.at c.tags.invariant.count c.in_ok-push-2.ensures.items;
  parts = one_marked c.args.tags.now c.tags.marks.items c.push-in-tags.new.self.items c.tags.at c.index-tags-at.result c.tags-test.true c.tags.invariant.count c.in_ok-push-2.ensures.items c.tags.invariant.parts;
}
