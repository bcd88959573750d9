use Rattle.std.proofs.Common.{◌∙◌, ap, refl, subst, sym}
use Rattle.ft_meaning.specs.Member.{members}
use Rattle.ft_index.specs.Coming.{ListsCome}
use Rattle.ft_index.specs.Index.{Index, Indexes, is_live}
use Rattle.ft_index.specs.Lists.{AllLists, rows_of}
use Rattle.ft_index.specs.Markers.{AreBefore}
use Rattle.ft_index.specs.Thinned.{ListsThin}
use Rattle.ft_index.specs.contracts.index.FtIndex.{the_view}
use Rattle.ft_index.proofs.CollectLaws.{tags-same, thin-same}
use Rattle.ft_index.proofs.ComingLaws.{lists-stay}
use Rattle.ft_index.proofs.ThinLaws.{has-thin, index-thinned, slot-same}
use Rattle.ft_index.proofs.index.FtIndex.scan_next.Goals as goal

pub next_pictures-requires-clause-before : goal.next_pictures-requires-clause-before
next_pictures-requires-clause-before c = subst (λ (i : Index). AreBefore c.args.markers.now i.lists) (sym c.self.view_is) c.requires.markers

pub next_pictures-requires-clause-differ : goal.next_pictures-requires-clause-differ
next_pictures-requires-clause-differ c = c.self.invariant.0.kept.differ

pub returns-in_err-live-clause-thin : goal.returns-in_err-live-clause-thin
returns-in_err-live-clause-thin c =
    let index = c.args.self.now in
    let live = is_live index in
    record { words = thin-same live index.lists.words; tags = tags-same live index.lists.tags; ranges = λ field. slot-same live (rows_of index.lists.ranges field) }

pub returns-in_err-live-clause-comes : goal.returns-in_err-live-clause-comes
returns-in_err-live-clause-comes c = lists-stay c.args.markers.now.event c.args.self.now.lists

pub invariant_of-self : goal.invariant_of-self
invariant_of-self c =
    (index-thinned (the_view c.self.inside) c.next_pictures.new.lists c.next_pictures.ensures.thin c.next_pictures.ensures.differ c.self.invariant.0, c.self.invariant.1)

pub invariant_of-self-2 : goal.invariant_of-self-2
invariant_of-self-2 c =
    (index-thinned (the_view c.self.inside) c.next_pictures.new.lists c.next_pictures.ensures.thin c.next_pictures.ensures.differ c.self.invariant.0, c.self.invariant.1)

pub returns-in_err-lists-clause-still : goal.returns-in_err-lists-clause-still
returns-in_err-lists-clause-still c late =
    let same = c.next_pictures.ensures.still late in
    (ap (λ (lists : AllLists). record (the_view c.self.inside) { lists = lists }) same.0 ∙ c.self.view_is, same.1)

pub returns-in_err-lists-clause-sound : goal.returns-in_err-lists-clause-sound
returns-in_err-lists-clause-sound c = index-thinned (the_view c.self.inside) c.next_pictures.new.lists c.next_pictures.ensures.thin c.next_pictures.ensures.differ c.self.invariant.0

pub returns-in_err-lists-clause-thin : goal.returns-in_err-lists-clause-thin
returns-in_err-lists-clause-thin c = subst (λ (i : Index). ListsThin (is_live i) i.lists c.next_pictures.new.lists) c.self.view_is c.next_pictures.ensures.thin

pub returns-in_err-lists-clause-stands : goal.returns-in_err-lists-clause-stands
returns-in_err-lists-clause-stands c docs stands =
    let inside = the_view c.self.inside in
    let before : Indexes inside docs = subst (λ (i : Index). Indexes i docs) (sym c.self.view_is) stands in
    has-thin inside.def inside.table.live inside.lists c.next_pictures.new.lists (members inside.def docs) c.next_pictures.ensures.thin before

pub returns-in_err-lists-clause-comes : goal.returns-in_err-lists-clause-comes
returns-in_err-lists-clause-comes c = subst (λ (i : Index). ListsCome c.args.markers.now.event i.lists c.next_pictures.new.lists) c.self.view_is c.next_pictures.ensures.comes

pub returns-clause-still : goal.returns-clause-still
returns-clause-still c late =
    let same = c.next_pictures.ensures.still late in
    (ap (λ (lists : AllLists). record (the_view c.self.inside) { lists = lists }) same.0 ∙ c.self.view_is, same.1)

pub returns-clause-sound : goal.returns-clause-sound
returns-clause-sound c = index-thinned (the_view c.self.inside) c.next_pictures.new.lists c.next_pictures.ensures.thin c.next_pictures.ensures.differ c.self.invariant.0

pub returns-clause-thin : goal.returns-clause-thin
returns-clause-thin c = subst (λ (i : Index). ListsThin (is_live i) i.lists c.next_pictures.new.lists) c.self.view_is c.next_pictures.ensures.thin

pub returns-clause-stands : goal.returns-clause-stands
returns-clause-stands c docs stands =
    let inside = the_view c.self.inside in
    let before : Indexes inside docs = subst (λ (i : Index). Indexes i docs) (sym c.self.view_is) stands in
    has-thin inside.def inside.table.live inside.lists c.next_pictures.new.lists (members inside.def docs) c.next_pictures.ensures.thin before

pub returns-clause-comes : goal.returns-clause-comes
returns-clause-comes c = subst (λ (i : Index). ListsCome c.args.markers.now.event i.lists c.next_pictures.new.lists) c.self.view_is c.next_pictures.ensures.comes

pub returns-clause-scanned : goal.returns-clause-scanned
returns-clause-scanned c = record {
  serial = refl;
  number = refl;
  live = c.in_ok-live.ensures;
  pictures = c.in_ok-lists.ensures.pictures.own;
  rise = c.in_ok-lists.ensures.pictures.rise;
}
