-- The documents that an index has, as those that it stands for change.
use Rattle.std.specs.Prelude.{◌≡◌, ◌≤◌, ℕ, true, false, List, [], ◌∷◌, ◌++◌, Option, None, Some, nat_eq, not, refl}
use Rattle.std.proofs.Common.{sym, ap, ◌∙◌, subst, inl, inr, arith}
use Rattle.std.specs.Map.{remove_entry}
use Rattle.std.proofs.lemmas.Bool.{cases_Bool}
use Rattle.std.proofs.lemmas.List.{append-nil}
use Rattle.std.proofs.lemmas.List.Elements.{filter-append}
use Rattle.doc_table.specs.Table.{Table, Vector}
use Rattle.ft_base.specs.declared.definition.IndexDef.{IndexDef}
use Rattle.ft_base.specs.Docs.{Doc}
use Rattle.ft_meaning.specs.Member.{failed, member, members, most_failures, one_more}
use Rattle.ft_meaning.specs.Sortable.{sorting_vector}
use Rattle.ft_index.specs.Entering.{awaiting}
use Rattle.ft_index.specs.Fits.{fit_of}
use Rattle.ft_index.specs.Index.{Index, Indexes, IsIndex, WaitsIn, commits, commits_as, commits_ready, committed}
use Rattle.ft_index.specs.Kept.{AreKept}
use Rattle.ft_index.proofs.ListsLaws.{has-without}
use Rattle.ft_index.proofs.PartedLaws.{filter-twice}
use Rattle.ft_index.specs.Has.{Has}
use Rattle.ft_index.specs.Lists.{AllLists}
use Rattle.ft_index.specs.Without.{without}
use Rattle.ft_index.specs.declared.ready.Fit.{Fit}
use Rattle.ft_index.specs.declared.ready.Fit.TheVariants.{Member, NoPrefix, Failed}
use Rattle.ft_index.specs.declared.ready.Ready.{Ready}
use Rattle.ft_index.proofs.IndexLaws.{kept-committed, kept-gone, live-committed}

-- the members but one are those of the documents but that one
pub members-without : (def : IndexDef) (id : ℕ) (docs : List Doc) → without id (members def docs) ≡ members def (without id docs)
members-without def id docs = filter-twice (λ (doc : Doc). not (nat_eq id doc.id)) (member def) docs

-- a document more, which is a member
pub members-more : (def : IndexDef) (docs : List Doc) (doc : Doc) → member def doc ≡ true → members def (docs ++ doc ∷ []) ≡ members def docs ++ doc ∷ []
members-more def docs doc is = filter-append (member def) docs (doc ∷ []) ∙ ap (λ (rest : List Doc). members def docs ++ rest) (rw is refl)

-- and one that is none
pub members-same : (def : IndexDef) (docs : List Doc) (doc : Doc) → member def doc ≡ false → members def (docs ++ doc ∷ []) ≡ members def docs
members-same def docs doc other =
    filter-append (member def) docs (doc ∷ []) ∙ (ap (λ (rest : List Doc). members def docs ++ rest) (rw other refl) ∙ append-nil (members def docs))

-- what an index stands for depends on its definition, its documents and its lists alone
pub indexes-same : (old new : Index) (docs : List Doc) → new.def ≡ old.def → new.table.live ≡ old.table.live → new.lists ≡ old.lists → Indexes old docs → Indexes new docs
indexes-same old new docs def live lists has =
    subst (λ (d : IndexDef). Has d new.table.live new.lists (members d docs)) (sym def)
    (subst (λ (rows : List (ℕ × Vector)). Has old.def rows new.lists (members old.def docs)) (sym live)
    (subst (λ (ls : AllLists). Has old.def old.table.live ls (members old.def docs)) (sym lists) has))

-- what a commit leaves, by how the document fits
pub commits-is : (index : Index) (ready : Ready) → index.waits ≡ Some ready → committed index ≡ commits_as ready.fit (record index { waits = None })
commits-is index ready waits = ap (λ (w : Option Ready). commits_ready w index) waits

-- a fit is that of a member where the document is one
pub fit-member : (def : IndexDef) (doc : Doc) → fit_of def doc ≡ Member → member def doc ≡ true
fit-member def doc is = elim (cases_Bool (member def doc)) [
  | inl y ↦ y
  | inr n ↦ elim (cases_Bool (failed def doc)) [ inl f ↦ absurd (cc (rw (n, f) at is)) | inr f ↦ absurd (cc (rw (n, f) at is)) ]
]

pub fit-other : (def : IndexDef) (doc : Doc) → (fit_of def doc ≡ Member → ⊥) → member def doc ≡ false
fit-other def doc other = elim (cases_Bool (member def doc)) [ inl y ↦ absurd (other (rw y refl)) | inr n ↦ n ]

-- A commit of another document than a member changes neither documents nor lists.
other-same : (fit : Fit) (index : Index) → (fit ≡ Member → ⊥) → ((commits_as fit index).def ≡ index.def) × ((commits_as fit index).table ≡ index.table) × ((commits_as fit index).lists ≡ index.lists)
other-same Member index other = absurd (other refl)
other-same NoPrefix index other = (refl, refl, refl)
other-same Failed index other = (refl, refl, refl)

pub def-commits : (fit : Fit) (index : Index) → (commits_as fit index).def ≡ index.def
def-commits Member index = refl
def-commits NoPrefix index = refl
def-commits Failed index = refl

-- Once a document is committed that is no member, the index stands for it too.
pub seen-other : (old new : Index) (ready : Ready) (doc : Doc) (docs : List Doc) → new.def ≡ old.def → new.table ≡ old.table → new.lists ≡ old.lists → new.waits ≡ Some ready
    → ready.fit ≡ fit_of old.def doc → (fit_of old.def doc ≡ Member → ⊥) → Indexes old docs → Indexes (committed new) (docs ++ doc ∷ [])
seen-other old new ready doc docs def table lists waits fit other stands =
    let bare : Index = record new { waits = None } in
    let away : ready.fit ≡ Member → ⊥ = λ is. other (sym fit ∙ is) in
    let same = other-same ready.fit bare away in
    let after = commits_as ready.fit bare in
    let has : Indexes after docs = indexes-same old after docs (same.0 ∙ def) (ap (λ (t : Table). t.live) (same.1 ∙ table)) (same.2 ∙ lists) stands in
    let more : members after.def docs ≡ members after.def (docs ++ doc ∷ []) =
    sym (members-same after.def docs doc (ap (λ (d : IndexDef). member d doc) (same.0 ∙ def) ∙ fit-other old.def doc other)) in
    subst (λ (i : Index). Indexes i (docs ++ doc ∷ [])) (sym (commits-is new ready waits)) (subst (Has after.def after.table.live after.lists) more has)

-- And once a member is.
pub seen-member : (old new : Index) (ready : Ready) (doc : Doc) (docs : List Doc) → new.def ≡ old.def → new.table ≡ awaiting old.def doc old.table → new.waits ≡ Some ready
    → ready.fit ≡ fit_of old.def doc → fit_of old.def doc ≡ Member
    → Has old.def (old.table.live ++ (doc.id, sorting_vector old.def doc) ∷ []) new.lists (members old.def docs ++ doc ∷ []) → Indexes (committed new) (docs ++ doc ∷ [])
seen-member old new ready doc docs def table waits fit is has =
    let live : Index = record new { table = commits new.table.ready new.table; waits = None } in
    let all : Has old.def (old.table.live ++ (doc.id, sorting_vector old.def doc) ∷ []) new.lists (members old.def (docs ++ doc ∷ [])) =
    subst (Has old.def (old.table.live ++ (doc.id, sorting_vector old.def doc) ∷ []) new.lists) (sym (members-more old.def docs doc (fit-member old.def doc is))) has in
    let here : Has old.def live.table.live new.lists (members old.def (docs ++ doc ∷ [])) =
    subst (λ (rows : List (ℕ × Vector)). Has old.def rows new.lists (members old.def (docs ++ doc ∷ []))) (sym (live-committed old.def old.table new.table doc table)) all in
    let stands : Indexes live (docs ++ doc ∷ []) = subst (λ (d : IndexDef). Has d live.table.live new.lists (members d (docs ++ doc ∷ []))) (sym def) here in
    let becomes : committed new ≡ live = commits-is new ready waits ∙ ap (λ (f : Fit). commits_as f (record new { waits = None })) (fit ∙ is) in
    subst (λ (i : Index). Indexes i (docs ++ doc ∷ [])) (sym becomes) stands

-- where an id is taken out
pub indexes-gone : (old new : Index) (id : ℕ) (docs : List Doc) → new.def ≡ old.def → new.lists ≡ old.lists → new.table.live ≡ remove_entry (nat_eq id) old.table.live
    → AreKept old.table old.lists → Indexes old docs → Indexes new (without id docs)
indexes-gone old new id docs def lists live kept stands =
    let gone : Index = record old { table = record old.table { live = remove_entry (nat_eq id) old.table.live } } in
    let has : Has old.def (remove_entry (nat_eq id) old.table.live) old.lists (without id (members old.def docs)) = has-without old.def old.table.live old.lists (members old.def docs) id kept.rise stands in
    indexes-same gone new (without id docs) def live lists (subst (Has old.def (remove_entry (nat_eq id) old.table.live) old.lists) (members-without old.def id docs) has)

one_more-most : (n : ℕ) → one_more n ≤ most_failures
one_more-most n = omega arith

-- What holds of every index goes on holding where the document that waits is committed,
pub index-committed : (index : Index) → IsIndex index → IsIndex (committed index)
index-committed index sound = by_ready index.waits
  where
    by_fit : (fit : Fit) → IsIndex (commits_as fit (record index { waits = None }))
    by_fit Member = record { kept = kept-committed index.table index.lists sound.kept; waits = tt; counted = sound.counted }
    by_fit NoPrefix = record { kept = sound.kept; waits = tt; counted = sound.counted }
    by_fit Failed = record { kept = sound.kept; waits = tt; counted = one_more-most index.failures }

    by_ready : (ready : Option Ready) → IsIndex (commits_ready ready index)
    by_ready None = sound
    by_ready (Some ready) = by_fit ready.fit

-- and where an id is taken out.
pub index-gone : (index : Index) (id : ℕ) → IsIndex index → IsIndex (record index { table = record index.table { live = remove_entry (nat_eq id) index.table.live } })
index-gone index id sound = record { kept = kept-gone index.table index.lists id sound.kept; waits = waits-gone index.waits sound.waits; counted = sound.counted }
  where
    waits-gone : (ready : Option Ready) → WaitsIn ready index.table → WaitsIn ready (record index.table { live = remove_entry (nat_eq id) index.table.live })
    waits-gone None waits = tt
    waits-gone (Some ready) waits = waits
