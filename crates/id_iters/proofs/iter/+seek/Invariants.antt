use Rattle.std.proofs.Common.{◌≡◌, ◌≤◌, ◌+◌, ◌-◌, ◌*◌, ◌^◌, ◌&&◌, not, map, length}
use Rattle.id_iters.specs.Least.{NoneBetween}
use Rattle.id_iters.specs.Ready.{Ready, AheadReady}
use Rattle.id_iters.specs.Sets.{About, about, about_ahead, deepest}
use Rattle.id_iters.specs.declared.iter.Iter.{Iter}
use Rattle.id_iters.proofs.LoopLaws.{Agreed}
use Rattle.id_iters.specs.Stretch.{limit_of}
use Rattle.id_iters.proofs.PartLaws.{Tried}
use Rattle.id_iters.proofs.UnionLaws.{Taken, Marked}
use Rattle.id_iters.proofs.iter.+seek.Given as goal

abbrev pub decreases-Iter::seek : goal.decreases-Iter::seek
decreases-Iter::seek g l = 6 * (about (g.T.Lists.held l.lists.now) l.self.now).depth

abbrev pub decreases-Ahead::seek : goal.decreases-Ahead::seek
decreases-Ahead::seek g l = 6 * (about_ahead (g.T.Lists.held l.lists.now) l.self.now).depth + 1

abbrev pub decreases-seek_other : goal.decreases-seek_other
decreases-seek_other g l = 6 * (about_ahead (g.T.Lists.held l.lists.now) l.part.now).depth + 2

abbrev pub decreases-seek_any : goal.decreases-seek_any
decreases-seek_any g l = 6 * deepest (map (about_ahead (g.T.Lists.held l.lists.now)) l.parts.now) + 3

abbrev pub decreases-seek_some : goal.decreases-seek_some
decreases-seek_some g l = 6 * deepest (map (about_ahead (g.T.Lists.held l.lists.now)) l.parts.now) + 4

abbrev pub decreases-fill : goal.decreases-fill
decreases-fill g l = 6 * deepest (map (about_ahead (g.T.Lists.held l.lists.now)) l.parts.now) + 3

abbrev pub decreases-mark : goal.decreases-mark
decreases-mark g l = 6 * (about_ahead (g.T.Lists.held l.lists.now) l.part.now).depth + 2

abbrev pub decreases-seek_all : goal.decreases-seek_all
decreases-seek_all g l = 6 * deepest (map (about (g.T.Lists.held l.lists.now)) l.parts.now) + 2

abbrev pub invariant-seek_all-parts : goal.invariant-seek_all-parts
invariant-seek_all-parts g l =
    let held = g.T.Lists.held l.lists in
    record {
      agreed : Agreed (about held) (λ (a : About). a.has) held.live (Ready held) (λ (i : Iter) id. Ready held i (id + 1)) l.fn.parts l.parts l.from l.id l.lead l.at;
      counts : l.fn.steps ≤ l.steps;
    }

abbrev pub decreases-seek_all-parts : goal.decreases-seek_all-parts
decreases-seek_all-parts g l = (2 ^ 64 - l.id) * (length l.parts + 1) + (length l.parts - l.at)

abbrev pub invariant-seek_any-parts : goal.invariant-seek_any-parts
invariant-seek_any-parts g l = record {
  long : length l.parts ≡ l.at-end;
  tried : Tried (g.T.Lists.held l.lists) l.fn.parts l.parts l.from l.at l.best;
  counts : l.fn.steps ≤ l.steps;
}

abbrev pub invariant-seek_other-live : goal.invariant-seek_other-live
invariant-seek_other-live g l =
    let held = g.T.Lists.held l.lists in
    record {
      same : about_ahead held l.part ≡ about_ahead held l.fn.part;
      low : l.from ≤ l.next;
      ready : AheadReady held l.part l.next;
      none : NoneBetween (λ id. held.live id && not ((about_ahead held l.fn.part).has id)) l.from l.next;
      counts : l.fn.steps ≤ l.steps;
    }

abbrev pub decreases-seek_other-live : goal.decreases-seek_other-live
decreases-seek_other-live g l = 2 ^ 64 - l.next

abbrev pub invariant-fill-parts : goal.invariant-fill-parts
invariant-fill-parts g l = record {
  long : length l.parts ≡ l.at-end;
  marked : Marked (g.T.Lists.held l.lists) l.fn.parts l.parts l.stretch l.from l.at;
  counts : l.fn.steps ≤ l.steps;
}

abbrev pub invariant-mark-ids : goal.invariant-mark-ids
invariant-mark-ids g l = record {
  same : about_ahead (g.T.Lists.held l.lists) l.part ≡ about_ahead (g.T.Lists.held l.lists) l.fn.part;
  ready : AheadReady (g.T.Lists.held l.lists) l.part l.next;
  end : l.limit ≡ limit_of l.fn.stretch;
  bits : Taken (g.T.Lists.held l.lists) l.fn.part l.fn.stretch l.stretch l.from l.next;
  counts : l.fn.steps ≤ l.steps;
}

abbrev pub decreases-mark-ids : goal.decreases-mark-ids
decreases-mark-ids g l = 2 ^ 64 - l.next
