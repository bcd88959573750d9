use Rattle.std.proofs.Common.{sym, subst}
use Rattle.ft_meaning.specs.Member.{members}
use Rattle.ft_index.specs.Coming.{ListsCome}
use Rattle.ft_index.specs.Index.{Index, Indexes, is_live}
use Rattle.ft_index.specs.Lists.{has_id}
use Rattle.ft_index.specs.Markers.{AreBefore}
use Rattle.ft_index.specs.Splicing.{FitsName, GainsMarker, IsNew}
use Rattle.ft_index.specs.Thinned.{ListsThin}
use Rattle.ft_index.specs.contracts.index.FtIndex.{the_view}
use Rattle.ft_index.proofs.SplicingLaws.{NameSpliced, before-spliced, differ-spliced, gains-spliced, name-spliced}
use Rattle.ft_index.proofs.ThinLaws.{has-thin, index-thinned}
use Rattle.ft_index.proofs.index.FtIndex.splice.Goals as goal

pub invariant_of-self : goal.invariant_of-self
invariant_of-self c =
    let inside = the_view c.self.inside in
    let fits = subst (λ (i : Index). FitsName (is_live i) i.lists c.args.name.now c.args.repair.now) (sym c.self.view_is) c.requires.fits in
    let fresh = subst (λ (i : Index). IsNew c.args.marker i.lists) (sym c.self.view_is) c.requires.fresh in
    let done : NameSpliced (has_id inside.table.live) c.args.name.now c.args.marker inside.lists c.splice.new.self =
    name-spliced (has_id inside.table.live) c.args.name.now c.args.repair.now c.args.marker inside.lists c.splice.new.self c.splice.result fits c.splice.ensures in (
      index-thinned inside c.splice.new.self done.thin (differ-spliced c.args.name.now c.args.marker inside.lists c.splice.new.self done.changes fresh c.self.invariant.0.kept.differ) c.self.invariant.0,
      c.self.invariant.1,
    )

pub returns-clause-sound : goal.returns-clause-sound
returns-clause-sound c =
    let inside = the_view c.self.inside in
    let fits = subst (λ (i : Index). FitsName (is_live i) i.lists c.args.name.now c.args.repair.now) (sym c.self.view_is) c.requires.fits in
    let fresh = subst (λ (i : Index). IsNew c.args.marker i.lists) (sym c.self.view_is) c.requires.fresh in
    let done : NameSpliced (has_id inside.table.live) c.args.name.now c.args.marker inside.lists c.splice.new.self =
    name-spliced (has_id inside.table.live) c.args.name.now c.args.repair.now c.args.marker inside.lists c.splice.new.self c.splice.result fits c.splice.ensures in
    index-thinned inside c.splice.new.self done.thin (differ-spliced c.args.name.now c.args.marker inside.lists c.splice.new.self done.changes fresh c.self.invariant.0.kept.differ) c.self.invariant.0

pub returns-clause-thin : goal.returns-clause-thin
returns-clause-thin c =
    let inside = the_view c.self.inside in
    let fits = subst (λ (i : Index). FitsName (is_live i) i.lists c.args.name.now c.args.repair.now) (sym c.self.view_is) c.requires.fits in
    subst (λ (i : Index). ListsThin (is_live i) i.lists c.splice.new.self) c.self.view_is
    (name-spliced (has_id inside.table.live) c.args.name.now c.args.repair.now c.args.marker inside.lists c.splice.new.self c.splice.result fits c.splice.ensures).thin

pub returns-clause-stands : goal.returns-clause-stands
returns-clause-stands c docs stands =
    let inside = the_view c.self.inside in
    let fits = subst (λ (i : Index). FitsName (is_live i) i.lists c.args.name.now c.args.repair.now) (sym c.self.view_is) c.requires.fits in
    let thin = (name-spliced (has_id inside.table.live) c.args.name.now c.args.repair.now c.args.marker inside.lists c.splice.new.self c.splice.result fits c.splice.ensures).thin in
    let before : Indexes inside docs = subst (λ (i : Index). Indexes i docs) (sym c.self.view_is) stands in
    has-thin inside.def inside.table.live inside.lists c.splice.new.self (members inside.def docs) thin before

pub returns-clause-before : goal.returns-clause-before
returns-clause-before c markers given before =
    let inside = the_view c.self.inside in
    let fits = subst (λ (i : Index). FitsName (is_live i) i.lists c.args.name.now c.args.repair.now) (sym c.self.view_is) c.requires.fits in
    let done = name-spliced (has_id inside.table.live) c.args.name.now c.args.repair.now c.args.marker inside.lists c.splice.new.self c.splice.result fits c.splice.ensures in
    before-spliced c.args.name.now c.args.marker inside.lists c.splice.new.self done.changes markers given (subst (λ (i : Index). AreBefore markers i.lists) (sym c.self.view_is) before)

pub returns-clause-gains : goal.returns-clause-gains
returns-clause-gains c =
    let inside = the_view c.self.inside in
    let fits = subst (λ (i : Index). FitsName (is_live i) i.lists c.args.name.now c.args.repair.now) (sym c.self.view_is) c.requires.fits in
    let done = name-spliced (has_id inside.table.live) c.args.name.now c.args.repair.now c.args.marker inside.lists c.splice.new.self c.splice.result fits c.splice.ensures in
    subst (λ (i : Index). GainsMarker i.lists c.splice.new.self c.args.marker) c.self.view_is (gains-spliced c.args.name.now c.args.marker inside.lists c.splice.new.self done.changes)

pub returns-clause-comes : goal.returns-clause-comes
returns-clause-comes c =
    let inside = the_view c.self.inside in
    let fits = subst (λ (i : Index). FitsName (is_live i) i.lists c.args.name.now c.args.repair.now) (sym c.self.view_is) c.requires.fits in
    subst (λ (i : Index). ListsCome c.args.marker.event i.lists c.splice.new.self) c.self.view_is
    (name-spliced (has_id inside.table.live) c.args.name.now c.args.repair.now c.args.marker inside.lists c.splice.new.self c.splice.result fits c.splice.ensures).comes
