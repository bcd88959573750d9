-- A turn goes on from the entries that an engine stands for.
use Rattle.std.proofs.Common.{◌≡◌, ◌≢◌, ◌<◌, ℕ, suc, Bool, cond, arith, Some, false, List, [], ◌∷◌, ◌++◌, length, refl, sym, ap, subst, ◌∙◌, IfOk, Option}
use Rattle.std.specs.List.{Contains}
use Rattle.std.specs.declared.result.Result.{Result}
use Rattle.std.proofs.lemmas.Bool.Decides.{nat_tests}
use Rattle.doc_table.specs.Pages.{has_id}
use Rattle.gc_splice.specs.declared.splice.Spliced.{Spliced}
use Rattle.id_iters.specs.declared.list_name.ListName.{ListName}
use Rattle.inverted_list.specs.declared.marker.Marker.{Marker}
use Rattle.ft_base.specs.Words.{KeepsLimits}
use Rattle.history_core.proofs.GrowingLaws.{at_more, each_at, leads_more, number_more}
use Rattle.history_core.specs.Commands.{caller_of}
use Rattle.history_core.specs.Pictures.{Pictured}
use Rattle.history_core.specs.Histories.{at, number}
use Rattle.ft_index.specs.declared.repairs.AnyRepair.{AnyRepair}
use Rattle.ft_index.specs.declared.snapshots.NamedPicture.{NamedPicture}
use Rattle.ft_index.specs.declared.snapshots.Snapshot.{Snapshot}
use Rattle.ft_index.specs.Snapshots.{NamesRise, names_of}
use Rattle.ft_machine.specs.History.{Comes}
use Rattle.indexed_store.specs.Repairing.{FitsSerial, IndexesThin}
use Rattle.ft_engine.specs.Entries.{Entry, Follows, IsHistory, MayFollow, readings}
use Rattle.ft_engine.specs.Kept.{Holds, HoldsEnd, IsGoodSnapshot, scanned}
use Rattle.ft_engine.specs.Pictures.{IsGoodNamed, RepairsPicture, SplicesBy}
use Rattle.ft_engine.specs.Stepping.{Counts, KeepsLast, Moves, ScansPartAt, SplicesAt, counted}
use Rattle.ft_engine.proofs.KeptLaws.{holds-more, last-more}
use Rattle.ft_engine.proofs.PartLaws.{part-clean, part-found, part-good}
use Rattle.ft_engine.proofs.PictureLaws.{fits-now}
use Rattle.ft_engine.proofs.SplicedLaws.{contains-at, repair-marker, spliced-comes, splices-by}
use Rattle.ft_engine.proofs.ThinningLaws.{splice-clean}
use Rattle.turn_gate.specs.Log.{NoneBy}
use Rattle.history_core.specs.Entries.{Exec, Scan, Splice, Taken}
use Rattle.ft_machine.specs.Clean.{Keeps, KeepsMarks, empty_marked}
use Rattle.ft_machine.specs.Step.{Answers, next_number}
use Rattle.ft_engine.specs.Cleaning.{AreClean, KeepsClean, StandsFor, marked}
use Rattle.ft_engine.specs.Stands.{IsIndexed, Stands}
use Rattle.ft_server.specs.Passes.{ChangesNothing, LegalFrom, WasSpliced, is_scan, last_scan, last_scan_from}
use Rattle.ft_server.specs.Telling.{Spends, Tells}
use Rattle.ft_server.proofs.SpentLaws.{part-once, serials-rise, spends-more, spends-splice, spent-again, was-spent}

-- what an engine that executes words tells of its step
abbrev Executes : ℕ → Stands → List (List ℕ) → List ℕ → Stands → Type 0
Executes moment old words reply new = Answers words old.next moment old.state reply new.state × KeepsClean old.next words old reply new

-- which indexes are clean behind it, where these were before it
step_marks : (words : List (List ℕ)) (old new : Stands) (reply : List ℕ) (clean : List (List ℕ)) → KeepsClean old.next words old reply new → AreClean clean old.indexes
    → (behind : List (List ℕ)) × KeepsMarks old.next words (marked old clean) reply (marked new behind) × AreClean behind new.indexes
step_marks words old new reply clean keeps are = let kept = keeps clean are in (_, record { clean = refl; tells = kept.1 }, kept.0)

-- an event leads from an engine that stands for entries to one that stands for one more
pub tells_on : (old new : Stands) (seen : List Entry) (first first' : ℕ) (entry : Entry) (behind : List (List ℕ)) (told : Tells old seen first) → first' ≡ first
    → MayFollow first seen old.state entry new.state → Keeps readings first seen (marked old told.history.clean) entry (marked new behind) → AreClean behind new.indexes
    → new.next ≡ next_number old.next → new.pending ≡ false → IsIndexed new → Moves old new → Holds new seen entry → Spends new seen entry → HoldsEnd new seen entry → Tells new (seen ++ entry ∷ []) first'
tells_on old new seen first first' entry behind told same may keeps are next free indexed moves holds spends last = record {
  history = record {
    clean = behind;
    history = subst (λ (n : ℕ). IsHistory n (seen ++ entry ∷ []) (marked new behind)) (sym same)
        (leads_more (Follows first) [] seen entry empty_marked (marked old told.history.clean) (marked new behind) told.history.history (may, keeps));
    are = are;
  };
  next = next ∙ (ap next_number told.next ∙ (number_more first seen entry ∙ ap (λ (n : ℕ). number n (seen ++ entry ∷ [])) (sym same)));
  free = free;
  indexed = indexed;
  holds = holds-more old new seen entry moves told.holds holds;
  spent = spends-more old new seen entry moves told.spent spends;
  last = last-more new seen entry last;
}

-- an engine that executed a command stands for one entry more
pub tells_more : (old mid new : Stands) (seen : List Entry) (first first' caller moment : ℕ) (words asked : List (List ℕ)) (reply written : List ℕ)
    → Tells old seen first → first' ≡ first → mid ≡ old → asked ≡ words → reply ≡ written → 0 < length words → KeepsLimits words
    → Answers asked mid.next moment mid.state written new.state → KeepsClean mid.next asked mid written new → new.next ≡ next_number mid.next → new.pending ≡ false → IsIndexed new → Moves mid new
    → Tells new (seen ++ Exec caller moment words reply ∷ []) first'
tells_more old mid new seen first first' caller moment words asked reply written tells same is asks told some limits answer keeps next free indexed moves =
    let entry : Entry = Exec caller moment words reply in
    let at_old : Executes moment old asked written new = subst (λ (e : Stands). Executes moment e asked written new) is (answer, keeps) in
    let of_words : Executes moment old words written new = subst (λ (ws : List (List ℕ)). Executes moment old ws written new) asks at_old in
    let step : Executes moment old words reply new = subst (λ (r : List ℕ). Executes moment old words r new) (sym told) of_words in
    let was : StandsFor first seen old = tells.history in
    let kept = step_marks words old new reply was.clean step.1 was.are in
    let behind : List (List ℕ) = kept.0 in
    let marks : KeepsMarks old.next words (marked old was.clean) reply (marked new behind) = kept.1 in
    let answered : Answers words (number first seen) moment old.state reply new.state = subst (λ (n : ℕ). Answers words n moment old.state reply new.state) tells.next step.0 in
    tells_on old new seen first first' entry behind tells same (some, limits, answered) (subst (λ (n : ℕ). KeepsMarks n words (marked old was.clean) reply (marked new behind)) tells.next marks) kept.2
    (next ∙ ap (λ (e : Stands). next_number e.next) is) free indexed (subst (λ (e : Stands). Moves e new) is moves) tt tt tt

-- what the scan of a part tells of its event
pub record Scans {E : Type 0} (old : Stands) (index : List ℕ) (result : Result (Option Snapshot) E) (new : Stands) : Type 0 where
  pub taken : IfOk result (ScansPartAt index old.next new)
  pub next : Counts old new
  pub still : new ≡ record (counted old) { indexes = new.indexes }
  pub thin : IndexesThin old.indexes new.indexes
  pub indexed : IsIndexed new
  pub moves : Moves old new

-- an engine that took a part stands for the scan too
pub tells_scan : {E : Type 0} (old mid new : Stands) (seen : List Entry) (first first' caller : ℕ) (index : List ℕ) (result : Result (Option Snapshot) E) → Tells old seen first → first' ≡ first → mid ≡ old → Scans mid index result new
    → Tells new (seen ++ Scan caller index (scanned result) ∷ []) first'
tells_scan {E} old mid new seen first first' caller index result tells same is scans =
    let s : Scans old index result new = subst (λ (e : Stands). Scans {E = E} e index result new) is scans in
    let state : new.state ≡ old.state = ap (λ (e : Stands). e.state) s.still in
    let free : new.pending ≡ false = ap (λ (e : Stands). e.pending) s.still ∙ tells.free in
    tells_on old new seen first first' (Scan caller index (scanned result)) tells.history.clean tells same (state, part-found old new index old.next result state s.indexed s.taken) refl
    (part-clean old new tells.history.clean state tells.indexed s.indexed s.thin tells.history.are) s.next free s.indexed s.moves (part-good new index old.next result free s.indexed s.taken) (part-once new index old.next result s.taken) tt

-- the snapshot of a scan that an engine stands for is good
good-taken : (engine : Stands) (seen : List Entry) (first scan : ℕ) (snapshot : Snapshot) → Tells engine seen first → Pictured seen scan snapshot → IsGoodSnapshot snapshot engine
good-taken engine seen first scan snapshot tells pictured = each_at (Holds engine) [] seen scan (Scan pictured.caller pictured.index (Taken snapshot)) tells.holds pictured.is

-- and no list is there twice
names-once : (engine : Stands) (seen : List Entry) (first scan : ℕ) (snapshot : Snapshot) → Tells engine seen first → Pictured seen scan snapshot → NamesRise (names_of snapshot.lists)
names-once engine seen first scan snapshot tells pictured = each_at (Spends engine) [] seen scan (Scan pictured.caller pictured.index (Taken snapshot)) tells.spent pictured.is

-- the repair of a picture that an engine stands for fits
pub fits_turn : (old mid : Stands) (seen : List Entry) (first scan : ℕ) (snapshot : Snapshot) (named : NamedPicture) (repair : AnyRepair) → Tells old seen first → mid ≡ old → Pictured seen scan snapshot → Contains snapshot.lists named
    → RepairsPicture (has_id snapshot.live) named.picture repair → FitsSerial snapshot.serial mid.indexes named.name repair
fits_turn old mid seen first scan snapshot named repair tells is pictured there its =
    let at_place = contains-at snapshot.lists named there in
    subst (λ (e : Stands). FitsSerial snapshot.serial e.indexes named.name repair) (sym is)
    (fits-now old snapshot named repair (good-taken old seen first scan snapshot tells pictured at_place.0 named at_place.1) its)

-- what a splice tells of its event
pub record Splices (old : Stands) (serial : ℕ) (name : ListName) (repair : AnyRepair) (outcome : Spliced) (new : Stands) : Type 0 where
  pub splices : SplicesAt serial name repair old new outcome
  pub last : KeepsLast repair outcome new
  pub still : new ≡ record (counted old) { indexes = new.indexes; last = new.last }
  pub thin : IndexesThin old.indexes new.indexes
  pub indexed : IsIndexed new
  pub moves : Moves old new

-- an engine that spliced stands for the splice too
pub tells_splice : (old mid new : Stands) (seen : List Entry) (first first' caller scan : ℕ) (snapshot : Snapshot) (named : NamedPicture) (repair : AnyRepair) (outcome : Spliced) → Tells old seen first → first' ≡ first → mid ≡ old
    → Pictured seen scan snapshot → Contains snapshot.lists named → RepairsPicture (has_id snapshot.live) named.picture repair → Splices mid snapshot.serial named.name repair outcome new
    → Tells new (seen ++ Splice caller scan named.name outcome ∷ []) first'
tells_splice old mid new seen first first' caller scan snapshot named repair outcome tells same is pictured there its told =
    let s : Splices old snapshot.serial named.name repair outcome new = subst (λ (e : Stands). Splices e snapshot.serial named.name repair outcome new) is told in
    let at_place = contains-at snapshot.lists named there in
    let good : IsGoodNamed snapshot named old = good-taken old seen first scan snapshot tells pictured at_place.0 named at_place.1 in
    let by : SplicesBy old (record { snapshot = snapshot; place = at_place.0 }) outcome new = splices-by old new snapshot at_place.0 named repair outcome at_place.1 good its s.splices s.last s.still s.thin s.indexed in
    let comes : Comes readings (number first seen) old.state.definitions snapshot named.name outcome =
    subst (λ (n : ℕ). Comes readings n old.state.definitions snapshot named.name outcome) tells.next (spliced-comes old new snapshot at_place.0 named repair outcome at_place.1 good its s.splices s.last s.still s.thin s.indexed) in
    tells_on old new seen first first' (Splice caller scan named.name outcome) tells.history.clean tells same (ap (λ (e : Stands). e.state) s.still, (snapshot, pictured, comes)) refl
    (splice-clean old (record { snapshot = snapshot; place = at_place.0 }) outcome new tells.history.clean by tells.history.are) (ap (λ (e : Stands). e.next) s.still) (ap (λ (e : Stands). e.pending) s.still ∙ tells.free) s.indexed s.moves tt
    (spends-splice old new seen (number first seen) scan snapshot named repair outcome (serials-rise old seen first tells.history tells.indexed) good its s.splices s.moves.next pictured there
    (names-once old seen first scan snapshot tells pictured))
    (record {
      snapshot = snapshot;
      pictured = pictured;
      place = at_place.0;
      named = named;
      there = at_place.1;
      called = refl;
      last = s.last ∙ ap (λ (m : Marker). Some (record { seen = m; answer = outcome })) (repair-marker (has_id snapshot.live) named.picture repair its);
    })

-- a list that was spliced as a scan pictured it is not spliced so again
pub again_turn : (old mid new : Stands) (seen others log : List Entry) (first scan : ℕ) (snapshot : Snapshot) (named : NamedPicture) (repair : AnyRepair) (outcome : Spliced) → Tells old log first → mid ≡ old → log ≡ seen ++ others
    → Pictured seen scan snapshot → Contains snapshot.lists named → RepairsPicture (has_id snapshot.live) named.picture repair → Splices mid snapshot.serial named.name repair outcome new → WasSpliced seen scan named.name
    → ChangesNothing outcome
again_turn old mid new seen others log first scan snapshot named repair outcome tells is told pictured there its splices was =
    let s : Splices old snapshot.serial named.name repair outcome new = subst (λ (e : Stands). Splices e snapshot.serial named.name repair outcome new) is splices in
    let whole : Tells old (seen ++ others) first = subst (λ (l : List Entry). Tells old l first) told tells in
    let now : Pictured (seen ++ others) scan snapshot = record {
      caller = pictured.caller;
      index = pictured.index;
      is = at_more seen others scan (Scan pictured.caller pictured.index (Taken snapshot)) pictured.is;
    } in
    let then : WasSpliced (seen ++ others) scan named.name = record {
      place = was.place;
      caller = was.caller;
      answer = was.answer;
      is = at_more seen others was.place (Splice was.caller scan named.name was.answer) was.is;
      event = was.event;
    } in
    let at_place = contains-at snapshot.lists named there in
    spent-again old new snapshot named repair outcome (good-taken old (seen ++ others) first scan snapshot whole now at_place.0 named at_place.1) its s.splices
    (was-spent old (seen ++ others) scan snapshot named whole.spent then now there)

-- entries of others leave the last scan where it is
no-scan : (caller : ℕ) (entry : Entry) → caller_of entry ≢ caller → is_scan caller entry ≡ false
no-scan caller (Exec other moment words reply) apart = refl
no-scan caller (Scan other index result) apart = grind (arith, nat_tests, apart)
no-scan caller (Splice other scan name answer) apart = refl

past-others : (caller best place : ℕ) (others : List Entry) → NoneBy caller_of caller others → last_scan_from caller best place others ≡ best
past-others caller best place [] none = refl
past-others caller best place (entry ∷ others) none =
    ap (λ (b : Bool). last_scan_from caller (cond b place best) (suc place) others) (no-scan caller entry none.0) ∙ past-others caller best (suc place) others none.1

scan-others : (caller best place : ℕ) (seen others : List Entry) → NoneBy caller_of caller others → last_scan_from caller best place (seen ++ others) ≡ last_scan_from caller best place seen
scan-others caller best place [] others none = past-others caller best place others none
scan-others caller best place (entry ∷ seen) others none = scan-others caller (cond (is_scan caller entry) place best) (suc place) seen others none

-- the picture of the last scan is where the turn finds it
pub pictured_on : (caller caller' : ℕ) (seen others log : List Entry) (snapshot : Snapshot) → caller' ≡ caller → log ≡ seen ++ others → NoneBy caller_of caller others → Pictured seen (last_scan caller seen) snapshot
    → Pictured log (last_scan caller' log) snapshot
pictured_on caller caller' seen others log snapshot same is none pictured =
    let here : Pictured (seen ++ others) (last_scan caller (seen ++ others)) snapshot = record {
      caller = pictured.caller;
      index = pictured.index;
      is = ap (at (seen ++ others)) (scan-others caller 0 0 seen others none) ∙ at_more seen others (last_scan caller seen) (Scan pictured.caller pictured.index (Taken snapshot)) pictured.is;
    } in
    subst (λ (c : ℕ). Pictured log (last_scan c log) snapshot) (sym same) (subst (λ (l : List Entry). Pictured l (last_scan caller l) snapshot) (sym is) here)

-- the entry of a splice, as the pass sees it
pub splice_logged : (caller caller' : ℕ) (seen others log seen' : List Entry) (name : ListName) (answer : Spliced) → caller' ≡ caller → log ≡ seen ++ others → NoneBy caller_of caller others
    → seen' ≡ log ++ Splice caller' (last_scan caller' log) name answer ∷ [] → seen' ≡ (seen ++ others) ++ Splice caller (last_scan caller seen) name answer ∷ []
splice_logged caller caller' seen others log seen' name answer same is none told =
    told
    ∙ (ap (λ (c : ℕ). log ++ Splice c (last_scan c log) name answer ∷ []) same
    ∙ (ap (λ (l : List Entry). l ++ Splice caller (last_scan caller l) name answer ∷ []) is
    ∙ ap (λ (n : ℕ). (seen ++ others) ++ Splice caller n name answer ∷ []) (scan-others caller 0 0 seen others none)))

-- what a pass has seen is legal where an engine stands for it
pub legal_of : (engine : Stands) (log seen : List Entry) (first first' : ℕ) → Tells engine log first → seen ≡ log → first ≡ first' → LegalFrom first' seen
legal_of engine log seen first first' tells is same =
    let after = marked engine tells.history.clean in (
      after,
      subst (λ (l : List Entry). IsHistory first' l after) (sym is) (subst (λ (n : ℕ). IsHistory n log after) same tells.history.history),
    )
