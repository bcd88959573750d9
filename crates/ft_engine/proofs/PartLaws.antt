-- The scans of parts: what is pictured is good, and what is legal of them.
use Rattle.std.proofs.Common.{◌≡◌, ℕ, Bool, true, false, cond, List, [], ◌∷◌, Option, Some, None, Ok, Err, refl, sym, ap, subst, ◌∙◌}
use Rattle.std.specs.Prelude.{find, IfOk, IfSome}
use Rattle.std.specs.Option.{option_map}
use Rattle.std.specs.List.{All}
use Rattle.std.specs.Str.{bytes_eq}
use Rattle.std.specs.declared.result.Result.{Result}
use Rattle.std.proofs.lemmas.List.Elements.{All-head, All-tail}
use Rattle.ft_base.specs.Docs.{Doc}
use Rattle.ft_index.specs.Index.{Index, is_live}
use Rattle.ft_index.specs.Thinned.{ListsLive}
use Rattle.ft_index.specs.declared.snapshots.Snapshot.{Snapshot}
use Rattle.ft_machine.specs.Definitions.{Defined, index_of}
use Rattle.ft_machine.specs.History.{Found, has_member}
use Rattle.ft_machine.specs.Machine.{State}
use Rattle.history_core.specs.Entries.{NoIndex, Taken}
use Rattle.indexed_store.proofs.NamedLaws.{index_of-named, named-has}
use Rattle.indexed_store.specs.Collecting.{IsClean, IsCleanAt}
use Rattle.indexed_store.specs.DefinitionsOf.{defined, definitions_of}
use Rattle.indexed_store.specs.Named.{is_named}
use Rattle.indexed_store.specs.Parting.{ScansPartOf, ShowsPart}
use Rattle.indexed_store.specs.Repairing.{IndexesThin}
use Rattle.indexed_store.specs.Standing.{IndexStands, markers_at}
use Rattle.ft_engine.specs.Cleaning.{AreClean}
use Rattle.ft_engine.specs.Entries.{readings}
use Rattle.ft_engine.specs.Kept.{HoldsTaken, scanned}
use Rattle.ft_engine.specs.Stands.{IsIndexed, Stands, unused}
use Rattle.ft_engine.specs.Stepping.{ScansPartAt}
use Rattle.ft_engine.proofs.PictureLaws.{find-is, good-snapshot, live-same, members-live, no-memory}
use Rattle.ft_engine.proofs.ThinningLaws.{lists-still}

-- the index of a name that is pictured in part
record PartIndex (engine : Stands) (name : List ℕ) (event : ℕ) (snapshot : Snapshot) : Type 0 where
  pub index : Index
  pub found : find (is_named name) engine.indexes ≡ Some index
  pub shows : ShowsPart index event snapshot

part-index : (engine : Stands) (name : List ℕ) (event : ℕ) (snapshot : Snapshot) → ScansPartAt name event engine (Some snapshot) → PartIndex engine name event snapshot
part-index engine name event snapshot scans = by (find (is_named name) engine.indexes) refl scans
  where
    by : (o : Option Index) → find (is_named name) engine.indexes ≡ o → ScansPartOf o event (Some snapshot) → PartIndex engine name event snapshot
    by None e s = absurd (let no : ⊥ = cc in no)
    by (Some index) e s = record { index = index; found = e; shows = s }

-- what is taken of a part is good behind its event
pub part-good : {E : Type 0} (engine : Stands) (name : List ℕ) (event : ℕ) (result : Result (Option Snapshot) E) → engine.pending ≡ false → IsIndexed engine → IfOk result (ScansPartAt name event engine) → HoldsTaken (scanned result) engine
part-good engine name event (Err fault) free indexed taken = tt
part-good engine name event (Ok None) free indexed taken = tt
part-good engine name event (Ok (Some snapshot)) free indexed taken = λ place.
    let its : PartIndex engine name event snapshot = part-index engine name event snapshot taken in
    good-snapshot engine its.index event snapshot place free indexed (find-is (is_named name) engine.indexes its.index its.found).0 its.shows.is

definition-of : (engine : Stands) (name : List ℕ) (o : Option Index) → IsIndexed engine → find (is_named name) engine.indexes ≡ o → index_of engine.state.definitions name ≡ option_map defined o
definition-of engine name o indexed e = ap (λ (ds : List Defined). index_of ds name) indexed.definitions ∙ (index_of-named engine.indexes name ∙ ap (option_map defined) e)

found-now : {E : Type 0} (engine : Stands) (name : List ℕ) (event : ℕ) (result : Result (Option Snapshot) E) → IsIndexed engine → IfOk result (ScansPartAt name event engine)
    → Found readings (index_of engine.state.definitions name) engine.state.space (scanned result)
found-now engine name event (Err fault) indexed taken = no-memory (index_of engine.state.definitions name) engine.state.space
found-now engine name event (Ok None) indexed taken = by (find (is_named name) engine.indexes) refl taken
  where
    by : (o : Option Index) → find (is_named name) engine.indexes ≡ o → ScansPartOf o event None → Found readings (index_of engine.state.definitions name) engine.state.space NoIndex
    by None e s = subst (λ (d : Option Defined). Found readings d engine.state.space NoIndex) (sym (definition-of engine name None indexed e)) tt
    by (Some index) e s = absurd s
found-now engine name event (Ok (Some snapshot)) indexed taken =
    subst (λ (d : Option Defined). Found readings d engine.state.space (Taken snapshot)) (sym (definition-of engine name (Some its.index) indexed its.found))
    (record { serial = its.shows.is.serial; live = λ id. its.shows.is.live id ∙ members-live its.index engine.state.space number id stands })
  where
    number : ℕ
    number = unused engine.pending engine.next

    its : PartIndex engine name event snapshot
    its = part-index engine name event snapshot taken

    stands : IndexStands engine.state.space number (markers_at number) its.index
    stands = named-has (IndexStands engine.state.space number (markers_at number)) engine.indexes name its.index indexed.indexes its.found

-- a scan of a part finds the index of the name, or none
pub part-found : {E : Type 0} (old new : Stands) (name : List ℕ) (event : ℕ) (result : Result (Option Snapshot) E) → new.state ≡ old.state → IsIndexed new → IfOk result (ScansPartAt name event new)
    → Found readings (index_of old.state.definitions name) old.state.space (scanned result)
part-found old new name event result same indexed taken =
    subst (λ (s : State). Found readings (index_of s.definitions name) s.space (scanned result)) same (found-now new name event result indexed taken)

-- indexes of the same definitions and members, whose lists only lost dead entries, are clean on
thin-clean-at : (name : List ℕ) (space : List Doc) (n m : ℕ) (olds news : List Index) → definitions_of olds ≡ definitions_of news → All (IndexStands space n (markers_at n)) olds → All (IndexStands space m (markers_at m)) news
    → IndexesThin olds news → IsCleanAt name olds → IsCleanAt name news
thin-clean-at name space n m [] [] same stood stand thin clean = tt
thin-clean-at name space n m [] (y ∷ ys) same stood stand thin clean = absurd thin
thin-clean-at name space n m (x ∷ xs) [] same stood stand thin clean = absurd thin
thin-clean-at name space n m (x ∷ xs) (y ∷ ys) same stood stand thin clean =
    by (is_named name x) (is_named name y) (ap (λ (d : Defined). bytes_eq name d.def.name) first)
    (thin-clean-at name space n m xs ys rest (All-tail (IndexStands space n (markers_at n)) x xs stood) (All-tail (IndexStands space m (markers_at m)) y ys stand) thin.1) clean
  where
    first : defined x ≡ defined y
    first = cc (same)

    rest : definitions_of xs ≡ definitions_of ys
    rest = cc (same)

    live : is_live x ≡ is_live y
    live = live-same (is_live x) (is_live y)
        (λ id. members-live x space n id (All-head (IndexStands space n (markers_at n)) x xs stood) ∙ (ap (λ (d : Defined). has_member d space id) first ∙ sym (members-live y space m id (All-head (IndexStands space m (markers_at m)) y ys stand))))

    still : IsClean x → IsClean y
    still was = subst (λ (f : ℕ → Bool). ListsLive f y.lists) live (lists-still (is_live x) x.lists y.lists thin.0 was)

    by : (here there : Bool) → here ≡ there → (IsCleanAt name xs → IsCleanAt name ys) → IfSome (cond here (Some x) (find (is_named name) xs)) IsClean → IfSome (cond there (Some y) (find (is_named name) ys)) IsClean
    by true true e later was = still was
    by true false e later was = absurd (cc (e))
    by false true e later was = absurd (cc (e))
    by false false e later was = later was

-- the clean indexes of an engine are clean behind a scan of a part
pub part-clean : (old new : Stands) (clean : List (List ℕ)) → new.state ≡ old.state → IsIndexed old → IsIndexed new → IndexesThin old.indexes new.indexes → AreClean clean old.indexes → AreClean clean new.indexes
part-clean old new [] same was is thin are = tt
part-clean old new (name ∷ names) same was is thin are = (
  thin-clean-at name old.state.space _ _ old.indexes new.indexes (sym was.definitions ∙ (ap (λ (s : State). s.definitions) (sym same) ∙ is.definitions)) was.indexes
      (subst (λ (s : State). All (IndexStands s.space (unused new.pending new.next) (markers_at (unused new.pending new.next))) new.indexes) same is.indexes) thin are.0,
  part-clean old new names same was is thin are.1,
)
