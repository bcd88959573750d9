-- No list gets the marker again that a splice took from it.
use Rattle.std.proofs.Common.{◌≡◌, ◌≢◌, ◌≤◌, ◌<◌, ℕ, List, [], ◌∷◌, ◌++◌, Option, None, Some, Ok, Err, inl, inr, take, drop, take-append-drop, refl, sym, ap, subst, ◌∙◌, arith}
use Rattle.std.specs.Prelude.{find, IfOk}
use Rattle.std.specs.List.{Contains}
use Rattle.std.specs.declared.result.Result.{Result}
use Rattle.doc_table.specs.Pages.{has_id}
use Rattle.ft_index.specs.Index.{Index}
use Rattle.ft_index.specs.Snapshots.{NamesRise, names_of}
use Rattle.ft_index.specs.declared.repairs.AnyRepair.{AnyRepair}
use Rattle.ft_index.specs.declared.snapshots.NamedPicture.{NamedPicture}
use Rattle.ft_index.specs.declared.snapshots.Snapshot.{Snapshot}
use Rattle.ft_machine.proofs.CleanLaws.{history-legal}
use Rattle.ft_machine.specs.Clean.{empty_marked}
use Rattle.ft_machine.specs.Machine.{empty_state}
use Rattle.ft_machine.specs.Step.{last_number}
use Rattle.gc_splice.specs.declared.splice.Spliced.{Spliced}
use Rattle.gc_splice.specs.declared.splice.Spliced.TheVariants.{LastEvent}
use Rattle.history_core.proofs.GrowingLaws.{at_more, each_at, each_map, each_more}
use Rattle.history_core.specs.Entries.{Exec, Scan, Splice, Taken}
use Rattle.history_core.specs.Histories.{Each, at, number}
use Rattle.history_core.specs.Pictures.{Pictured}
use Rattle.id_iters.specs.declared.list_name.ListName.{ListName}
use Rattle.indexed_store.specs.DefinitionsOf.{definitions_of}
use Rattle.indexed_store.specs.Named.{is_named}
use Rattle.indexed_store.specs.Parting.{ScansPartOf}
use Rattle.inverted_list.proofs.ReachLaws.{le_or_lt}
use Rattle.inverted_list.specs.declared.marker.Marker.{Marker}
use Rattle.ft_engine.specs.Cleaning.{StandsFor, marked}
use Rattle.ft_engine.specs.Entries.{Entry, marker_of, readings}
use Rattle.ft_engine.specs.Kept.{scanned}
use Rattle.ft_engine.specs.Pictures.{IsGoodNamed, RepairsPicture}
use Rattle.ft_engine.specs.Stands.{IsIndexed, Stands}
use Rattle.ft_engine.specs.Stepping.{Moves, ScansPartAt, SplicesAt, seen_marker}
use Rattle.ft_engine.proofs.PictureLaws.{fits-now}
use Rattle.ft_engine.proofs.SplicedLaws.{repair-marker}
use Rattle.ft_server.specs.Passes.{ChangesNothing, WasSpliced}
use Rattle.ft_server.specs.Telling.{IsSpent, LacksMarker, NamesOnce, Spends, SpendsPicture}
use Rattle.ft_server.proofs.MarkerLaws.{lacks-kept, lacks-spliced, marker-past, one-picture, unchanged-spliced}
use Rattle.ft_server.proofs.SerialLaws.{Rise, history-rise}

-- ---- over each event

spent-kept : (old new : Stands) (serial : ℕ) (name : ListName) (marker : Marker) → Moves old new → IsSpent serial name marker old → IsSpent serial name marker new
spent-kept old new serial name marker moves was = record {
  past = omega (arith, was.past, moves.next);
  lacks = lacks-kept serial old.next name marker old.indexes new.indexes was.past moves.indexes was.lacks;
}

spends-kept : (old new : Stands) → Moves old new → (before : List Entry) (entry : Entry) → Spends old before entry → Spends new before entry
spends-kept old new moves before (Exec caller moment words reply) spends = tt
spends-kept old new moves before (Scan caller index result) spends = spends
spends-kept old new moves before (Splice caller scan name answer) spends = λ event.
    let was : SpendsPicture old before scan name = spends event in
    record {
      snapshot = was.snapshot;
      pictured = was.pictured;
      spent = λ named there called. spent-kept old new was.snapshot.serial name (marker_of named.picture) moves (was.spent named there called);
    }

-- one entry more
pub spends-more : (old new : Stands) (entries : List Entry) (entry : Entry) → Moves old new → Each (Spends old) [] entries → Spends new entries entry → Each (Spends new) [] (entries ++ entry ∷ [])
spends-more old new entries entry moves each spends = each_more (Spends new) [] entries entry (each_map (Spends old) (Spends new) (spends-kept old new moves) [] entries each) spends

-- ---- a scan

-- no list of the part that it took is there twice
pub part-once : {E : Type 0} (engine : Stands) (name : List ℕ) (event : ℕ) (result : Result (Option Snapshot) E) → IfOk result (ScansPartAt name event engine) → NamesOnce (scanned result)
part-once engine name event (Err fault) taken = tt
part-once engine name event (Ok None) taken = tt
part-once engine name event (Ok (Some snapshot)) taken = by_index (find (is_named name) engine.indexes) taken
  where
    by_index : (index : Option Index) → ScansPartOf index event (Some snapshot) → NamesRise (names_of snapshot.lists)
    by_index None shows = absurd (let no : ⊥ = cc in no)
    by_index (Some index) shows = shows.is.rise

-- ---- a splice

-- no two indexes of an engine that stands for entries have one serial: their serials rise
pub serials-rise : (engine : Stands) (entries : List Entry) (first : ℕ) → StandsFor first entries engine → IsIndexed engine → Rise (number first entries) (definitions_of engine.indexes)
serials-rise engine entries first stands indexed =
    subst (Rise (number first entries)) indexed.definitions
    (history-rise readings first [] empty_state entries engine.state (history-legal readings first [] empty_marked entries (marked engine stands.clean) stands.history) tt)

-- the list of a good picture has lost its marker behind the splice
spent-spliced : (old new : Stands) (below : ℕ) (snapshot : Snapshot) (named : NamedPicture) (repair : AnyRepair) (outcome : Spliced) → Rise below (definitions_of old.indexes) → IsGoodNamed snapshot named old
    → RepairsPicture (has_id snapshot.live) named.picture repair → SplicesAt snapshot.serial named.name repair old new outcome → old.next ≤ new.next → outcome ≢ LastEvent
    → IsSpent snapshot.serial named.name (marker_of named.picture) new
spent-spliced old new below snapshot named repair outcome rise good its splices on event =
    subst (λ (m : Marker). IsSpent snapshot.serial named.name m new) marker (record {
      past = omega (arith, low, on);
      lacks = elim (le_or_lt last_number old.next) [
        | inl late ↦ absurd (event (splices.last late).0)
        | inr before ↦ lacks-spliced snapshot.serial below named.name repair _ old.indexes new.indexes outcome rise (fits-now old snapshot named repair good its) low (splices.splices before)
      ];
    })
  where
    marker : seen_marker repair ≡ marker_of named.picture
    marker = repair-marker (has_id snapshot.live) named.picture repair its

    low : (seen_marker repair).event < old.next
    low = omega (arith, marker-past good.taken.number good.taken.lists named.name named.picture good.good.lists good.list, ap (λ (m : Marker). m.event) marker, good.good.past)

pub spends-splice : (old new : Stands) (seen : List Entry) (below scan : ℕ) (snapshot : Snapshot) (named : NamedPicture) (repair : AnyRepair) (outcome : Spliced) → Rise below (definitions_of old.indexes) → IsGoodNamed snapshot named old
    → RepairsPicture (has_id snapshot.live) named.picture repair → SplicesAt snapshot.serial named.name repair old new outcome → old.next ≤ new.next
    → Pictured seen scan snapshot → Contains snapshot.lists named → NamesRise (names_of snapshot.lists) → outcome ≢ LastEvent → SpendsPicture new seen scan named.name
spends-splice old new seen below scan snapshot named repair outcome rise good its splices on pictured there once event = record {
  snapshot = snapshot;
  pictured = pictured;
  spent = λ other in_ called.
      subst (λ (n : NamedPicture). IsSpent snapshot.serial named.name (marker_of n.picture) new) (one-picture snapshot.lists named other once there in_ (sym called))
      (spent-spliced old new below snapshot named repair outcome rise good its splices on event);
}

-- ---- a splice that is made again

-- the list of a picture whose marker is spent is not spliced
pub spent-again : (old new : Stands) (snapshot : Snapshot) (named : NamedPicture) (repair : AnyRepair) (outcome : Spliced) → IsGoodNamed snapshot named old → RepairsPicture (has_id snapshot.live) named.picture repair
    → SplicesAt snapshot.serial named.name repair old new outcome → IsSpent snapshot.serial named.name (marker_of named.picture) old → ChangesNothing outcome
spent-again old new snapshot named repair outcome good its splices spent = elim (le_or_lt last_number old.next) [
  | inl late ↦ subst ChangesNothing (sym (splices.last late).0) tt
  | inr before ↦ unchanged-spliced snapshot.serial named.name repair _ old.indexes new.indexes outcome (fits-now old snapshot named repair good its)
      (subst (λ (m : Marker). LacksMarker snapshot.serial named.name m old.indexes) (sym (repair-marker (has_id snapshot.live) named.picture repair its)) spent.lacks) (splices.splices before)
]

same-snapshot : (caller caller' : ℕ) (index index' : List ℕ) (a b : Snapshot) → let entry : Entry = Scan caller index (Taken a) in Some entry ≡ Some (Scan caller' index' (Taken b)) → a ≡ b
same-snapshot caller caller' index index' a b is = cc (is)

-- the list that one of the entries is the splice of has lost the marker that was pictured
pub was-spent : (engine : Stands) (entries : List Entry) (scan : ℕ) (snapshot : Snapshot) (named : NamedPicture) → Each (Spends engine) [] entries → WasSpliced entries scan named.name
    → Pictured entries scan snapshot → Contains snapshot.lists named → IsSpent snapshot.serial named.name (marker_of named.picture) engine
was-spent engine entries scan snapshot named each was pictured there =
    let its : SpendsPicture engine (take was.place entries) scan named.name = each_at (Spends engine) [] entries was.place (Splice was.caller scan named.name was.answer) each was.is was.event in
    let found : at entries scan ≡ Some (Scan its.pictured.caller its.pictured.index (Taken its.snapshot)) =
    ap (λ (l : List Entry). at l scan) (sym (take-append-drop was.place entries))
    ∙ at_more (take was.place entries) (drop was.place entries) scan (Scan its.pictured.caller its.pictured.index (Taken its.snapshot)) its.pictured.is in
    let same : its.snapshot ≡ snapshot = same-snapshot its.pictured.caller pictured.caller its.pictured.index pictured.index its.snapshot snapshot (sym found ∙ pictured.is) in
    subst (λ (k : Snapshot). (n : NamedPicture) → Contains k.lists n → n.name ≡ named.name → IsSpent k.serial named.name (marker_of n.picture) engine) same its.spent named there refl
