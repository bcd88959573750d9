-- A document that is no member changes nothing that is seen; a member enters the lists.
use Rattle.std.proofs.Common.{ℕ, List, ◌≡◌, ◌∙◌, ◌⊎◌, Some, ap, sym, subst, inl, inr, refl, arith}
use Rattle.doc_table.specs.Table.{Vector}
use Rattle.ft_meaning.specs.Member.{members}
use Rattle.ft_index.specs.Has.{Has}
use Rattle.ft_index.specs.Fits.{fit_of}
use Rattle.ft_index.specs.Coming.{ListsCome}
use Rattle.ft_index.specs.Index.{Index, Indexes}
use Rattle.ft_index.specs.Markers.{AreBefore, GainsMarkers}
use Rattle.ft_index.specs.contracts.index.FtIndex.{the_view}
use Rattle.ft_index.specs.declared.ready.Fit.{Fit}
use Rattle.ft_index.specs.declared.ready.Fit.TheVariants.{Member, NoPrefix, Failed}
use Rattle.ft_index.specs.declared.ready.Ready.{Ready}
use Rattle.ft_index.proofs.ComingLaws.{lists-stay}
use Rattle.ft_index.proofs.MemberLaws.{indexes-same, seen-member, seen-other}
use Rattle.ft_index.proofs.index.FtIndex.prepare.Goals as goal

no-member : (fit : Fit) → (fit ≡ NoPrefix) ⊎ (fit ≡ Failed) → fit ≡ Member → ⊥
no-member fit is member = elim is [ inl n ↦ cc (n, member) | inr f ↦ cc (f, member) ]

pub returns-in-NoPrefix : goal.returns-in-NoPrefix
returns-in-NoPrefix c =
    let inside = the_view c.self.inside in
    let ready : Ready = record { id = c.id.result; fit = c.fit_of-fit.result } in
    let now : Index = record inside { waits = Some ready } in
    let other : fit_of inside.def c.args.doc.now ≡ Member → ⊥ = λ is. no-member c.fit_of-fit.result c.in-NoPrefix.is (c.fit_of-fit.ensures ∙ is) in
    record {
      unseen = λ docs stands. indexes-same inside now docs refl refl refl (subst (λ (i : Index). Indexes i docs) (sym c.self.view_is) stands);
      live = ap (λ (i : Index). i.table.live) c.self.view_is;
      def = ap (λ (i : Index). i.def) c.self.view_is;
      failures = ap (λ (i : Index). i.failures) c.self.view_is;
      ready = ap (λ (n : ℕ). record { id = n; fit = c.fit_of-fit.result }) c.id.ensures ∙ ap (λ (f : Fit). record { id = c.args.doc.now.id; fit = f }) (c.fit_of-fit.ensures ∙ ap (λ (i : Index). fit_of i.def c.args.doc.now) c.self.view_is);
      waits = refl;
      seen = λ docs stands.
          seen-other inside now ready c.args.doc.now docs refl refl refl refl c.fit_of-fit.ensures other (subst (λ (i : Index). Indexes i docs) (sym c.self.view_is) stands);
      last = omega (arith, c.requires.id, ap (λ (i : Index). i.table.last) c.self.view_is);
      sound = record { kept = c.self.invariant.0.kept; waits = λ is. absurd (no-member c.fit_of-fit.result c.in-NoPrefix.is is); counted = c.self.invariant.0.counted };
      others = λ other. ap (λ (i : Index). record i { waits = Some ready }) c.self.view_is;
      none = tt;
      before = subst (λ (i : Index). AreBefore c.args.markers.now i.lists) (sym c.self.view_is) c.requires.markers;
      gains = subst (λ (i : Index). GainsMarkers i.lists inside.lists c.args.markers.now c.args.markers.now) c.self.view_is (λ marker has. inl has);
      comes = subst (λ (i : Index). ListsCome c.args.markers.now.event i.lists inside.lists) c.self.view_is (lists-stay c.args.markers.now.event inside.lists);
      event = refl;
      next = omega arith;
    }

pub enter-requires-clause-markers : goal.enter-requires-clause-markers
enter-requires-clause-markers c = subst (λ (i : Index). AreBefore c.args.markers.now i.lists) (sym c.self.view_is) c.requires.markers

pub returns-in_err-enter-clause-unseen : goal.returns-in_err-enter-clause-unseen
returns-in_err-enter-clause-unseen c docs stands =
    let inside = the_view c.self.inside in
    let before : Indexes inside docs = subst (λ (i : Index). Indexes i docs) (sym c.self.view_is) stands in
    let has = c.enter.ensures.unseen (members inside.def docs) before in
    subst (λ (rows : List (ℕ × Vector)). Has inside.def rows c.enter.new.lists (members inside.def docs)) (sym c.enter.ensures.live) has

pub returns-clause-unseen : goal.returns-clause-unseen
returns-clause-unseen c docs stands =
    let inside = the_view c.self.inside in
    let before : Indexes inside docs = subst (λ (i : Index). Indexes i docs) (sym c.self.view_is) stands in
    let has = c.enter.ensures.unseen (members inside.def docs) before in
    subst (λ (rows : List (ℕ × Vector)). Has inside.def rows c.enter.new.lists (members inside.def docs)) (sym c.enter.ensures.live) has

pub returns-clause-seen : goal.returns-clause-seen
returns-clause-seen c docs stands =
    let inside = the_view c.self.inside in
    let ready : Ready = record { id = c.id.result; fit = c.fit_of-fit.result } in
    let now : Index = record inside { table = c.enter.new.table; lists = c.enter.new.lists; waits = Some ready } in
    let before : Indexes inside docs = subst (λ (i : Index). Indexes i docs) (sym c.self.view_is) stands in
    seen-member inside now ready c.args.doc.now docs refl c.in_ok-enter.ensures.waits refl c.fit_of-fit.ensures (sym c.fit_of-fit.ensures ∙ c.in-Member.is)
    (c.in_ok-enter.ensures.seen (members inside.def docs) before)
