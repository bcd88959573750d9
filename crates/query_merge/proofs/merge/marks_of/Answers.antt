use Rattle.std.proofs.Common.{[], Bool, List, length, true, false, sym, ap, subst}
use Rattle.query_merge.specs.Merged.{AreParts, IsPart, marked}
use Rattle.query_merge.proofs.MarkLaws.{count_more, none_marked, one_marked, one_passed}
use Rattle.query_merge.proofs.merge.marks_of.Goals as goal

pub queries-init : goal.queries-init
queries-init c = record {
  count = ap length c.new-marks.ensures.items;
  parts = subst (λ (marks : List Bool). AreParts [] (marked c.args.queries.now marks)) (sym c.new-marks.ensures.items) (none_marked c.args.queries.now);
}

pub queries-preserved-then-is_marked : goal.queries-preserved-then-is_marked
queries-preserved-then-is_marked c = record {
  count = count_more c.queries.marks.items c.push.new.self.items false c.queries.at c.queries.invariant.count c.in_ok-push.ensures.items;
  parts = one_passed c.args.queries.now c.queries.marks.items c.push.new.self.items c.queries.at c.index-queries-at.result c.queries-test.true (sym c.index-queries-at.is) c.in_ok-push.ensures.items
      (subst (λ (marks : List Bool). IsPart c.index-queries-at.result (marked c.args.queries.now marks)) c.as_slice.ensures.value (c.is_marked.ensures c.if-is_marked.true)) c.queries.invariant.parts;
}

pub queries-preserved : goal.queries-preserved
queries-preserved c = record {
  count = count_more c.queries.marks.items c.push-in-queries.new.self.items true c.queries.at c.queries.invariant.count c.in_ok-push-2.ensures.items;
  parts = one_marked c.args.queries.now c.queries.marks.items c.push-in-queries.new.self.items c.queries.at c.index-queries-at.result c.queries-test.true c.queries.invariant.count c.in_ok-push-2.ensures.items c.queries.invariant.parts;
}
