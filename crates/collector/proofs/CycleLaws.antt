-- A cycle begins, goes on by one list after another, and ends.
use Rattle.std.proofs.Common.{◌≡◌, ◌≢◌, ◌<◌, ◌≤◌, ℕ, ◌+◌, Bool, true, false, cond, List, [], ◌∷◌, ◌++◌, length, drop, get_or, map, Option, Some, None, refl, sym, ap, ◌∙◌, subst, arith, append_assoc}
use Rattle.std.specs.Prelude.{filter}
use Rattle.std.specs.List.{All}
use Rattle.std.proofs.lemmas.List.{append-nil, drop_all, drop_more, length-append, length-map, map_push}
use Rattle.std.proofs.lemmas.List.Elements.{All-append, All-nil, All-push}
use Rattle.doc_table.specs.Pages.{has_id}
use Rattle.fs_ports.specs.Paces.{AskedOnce}
use Rattle.gc_splice.specs.declared.splice.Spliced.{Spliced}
use Rattle.gc_splice.specs.declared.splice.Spliced.TheVariants.{Done, Gone, LastEvent, Moved}
use Rattle.id_iters.specs.declared.list_name.ListName.{ListName}
use Rattle.ft_index.specs.declared.snapshots.NamedPicture.{NamedPicture}
use Rattle.ft_index.specs.declared.snapshots.Snapshot.{Snapshot}
use Rattle.history_core.specs.Commands.{caller_of, own}
use Rattle.history_core.specs.Entries.{Scan, Scanned, Splice, Taken}
use Rattle.history_core.specs.Histories.{at}
use Rattle.history_core.specs.Pictures.{Pictured}
use Rattle.history_core.proofs.CommandLaws.{own-append, own-push}
use Rattle.history_core.proofs.GrowingLaws.{at_end, at_more}
use Rattle.turn_gate.specs.Known.{GateName, Known}
use Rattle.turn_gate.specs.Log.{NoneBy}
use Rattle.ft_engine.specs.Entries.{Entry}
use Rattle.ft_server.specs.Passes.{AddsEntry, IsOf, TookLast, last_scan}
use Rattle.collector.specs.Cycles.{AskedTimes, Cycled, EndsWith, Tried, asks_of, dirty_among, is_dirty, names_of, splices_of, stops}
use Rattle.collector.specs.Ways.{Collected, Did, Going, Ran, Tries, counted, counted_step, ended, ending}
use Rattle.collector.specs.declared.counts.Counts.{Counts}
use Rattle.collector.specs.declared.cycle.Cycle.{Cycle}
use Rattle.collector.specs.declared.cycle.Cycle.TheVariants as cycles
use Rattle.collector.specs.declared.cycle.Step.{Step}
use Rattle.collector.specs.declared.cycle.Step.TheVariants as steps
use Rattle.collector.proofs.CountLaws.{asked-more, asked-none, counts-more, none-more, room-for}
use Rattle.collector.proofs.ScanLaws.{own-before, own-none, scan-new, scan-splice}

-- an entry of a caller
abbrev IsBy : ℕ → Entry → Type 0
IsBy caller entry = caller_of entry ≡ caller

-- nothing was counted
abbrev none_counted : Counts
none_counted = record { spliced = 0; moved = 0; gone = 0; removed = 0 }

module _ (server : GateName) (snapshot : Snapshot) (start : Known Entry) where
  abbrev live : ℕ → Bool
  live = has_id snapshot.live

  abbrev left : ℕ → List ListName
  left number = dirty_among live (drop number snapshot.lists)

  -- the lists that are left before a list, by whether it has a dead entry
  left-next : (number : ℕ) (named : NamedPicture) → number < length snapshot.lists → named ≡ get_or snapshot.lists number named
      → left number ≡ map (λ (n : NamedPicture). n.name) (cond (is_dirty live named) (named ∷ filter (is_dirty live) (drop (number + 1) snapshot.lists)) (filter (is_dirty live) (drop (number + 1) snapshot.lists)))
  left-next number named inside is =
      ap (dirty_among live) (drop_more snapshot.lists number named inside ∙ ap (λ (n : NamedPicture). n ∷ drop (number + 1) snapshot.lists) (sym is))

  left-by : (number : ℕ) (named : NamedPicture) (is : Bool) → number < length snapshot.lists → named ≡ get_or snapshot.lists number named → is_dirty live named ≡ is
      → left number ≡ map (λ (n : NamedPicture). n.name) (cond is (named ∷ filter (is_dirty live) (drop (number + 1) snapshot.lists)) (filter (is_dirty live) (drop (number + 1) snapshot.lists)))
  left-by number named is inside item test =
      left-next number named inside item
      ∙ ap (λ (b : Bool). map (λ (n : NamedPicture). n.name) (cond b (named ∷ filter (is_dirty live) (drop (number + 1) snapshot.lists)) (filter (is_dirty live) (drop (number + 1) snapshot.lists)))) test

  -- ---- a cycle begins

  pub begins : (asked : Option ℕ) (is_stopped : Bool) → IsOf server start → is_stopped ≡ false → Going server snapshot start start 0 none_counted asked asked is_stopped
  begins asked is_stopped of going = record {
    tried = [];
    ran = record {
      of = of;
      same = (refl, refl);
      added = [];
      seen = sym (append-nil start.seen);
      own_are = refl;
      alone = λ _. All-nil (IsBy start.caller);
      scan = refl;
      turns = omega arith;
      names = refl;
    };
    few = omega arith;
    none_last = tt;
    counts_are = record { spliced = refl; moved = refl; gone = refl; removed = refl };
    asks = asked-none asked;
    going = going;
  }

  -- the last scan is still the one that took the snapshot
  pub took-now : (pass : Known Entry) (tried : List Tried) (names : List ListName) → TookLast start snapshot → Ran server snapshot start pass tried names → TookLast pass snapshot
  took-now pass tried names took ran =
      let here : Pictured pass.seen (last_scan start.caller start.seen) snapshot = record {
        caller = took.caller;
        index = took.index;
        is = ap (λ (l : List Entry). at l (last_scan start.caller start.seen)) ran.seen
            ∙ at_more start.seen ran.added (last_scan start.caller start.seen) (Scan took.caller took.index (Taken snapshot)) took.is;
      } in
      subst (λ (caller : ℕ). Pictured pass.seen (last_scan caller pass.seen) snapshot) (sym ran.same.0)
      (subst (λ (place : ℕ). Pictured pass.seen place snapshot) (sym ran.scan) here)

  left-to : (pass : Known Entry) (tried : List Tried) (names others : List ListName) → names ≡ others → Ran server snapshot start pass tried names → Ran server snapshot start pass tried others
  left-to pass tried names others same ran = subst (Ran server snapshot start pass tried) same ran

  -- ---- a splice was made

  module _ (pass pass' : Known Entry) (tried : List Tried) (names : List ListName) (named : NamedPicture) (answer : Spliced)
      (ran : Ran server snapshot start pass tried (named.name ∷ names)) (of : IsOf server pass') (tries : Tries named pass pass' answer) where
    abbrev place : ℕ
    place = last_scan start.caller start.seen

    abbrev entry : Entry
    entry = Splice start.caller place named.name answer

    abbrev others : List Entry
    others = tries.adds.others

    abbrev one : Tried
    one = record { name = named.name; answer = answer }

    none : NoneBy caller_of start.caller others
    none = subst (λ (caller : ℕ). NoneBy caller_of caller others) ran.same.0 tries.adds.none_own

    seen-is : pass'.seen ≡ (pass.seen ++ others) ++ entry ∷ []
    seen-is =
        tries.adds.seen
        ∙ (ap (λ (caller : ℕ). (pass.seen ++ others) ++ Splice caller (last_scan caller pass.seen) named.name answer ∷ []) ran.same.0
        ∙ ap (λ (scan : ℕ). (pass.seen ++ others) ++ Splice start.caller scan named.name answer ∷ []) ran.scan)

    seen-more : pass'.seen ≡ start.seen ++ ((ran.added ++ others) ++ entry ∷ [])
    seen-more =
        seen-is
        ∙ (ap (λ (l : List Entry). (l ++ others) ++ entry ∷ []) ran.seen
        ∙ (ap (λ (l : List Entry). l ++ entry ∷ []) (append_assoc start.seen ran.added others)
        ∙ append_assoc start.seen (ran.added ++ others) (entry ∷ [])))

    own-more : own start.caller ((ran.added ++ others) ++ entry ∷ []) ≡ splices_of start.caller place (tried ++ one ∷ [])
    own-more =
        own-push start.caller entry (ran.added ++ others) refl
        ∙ (ap (λ (l : List Entry). l ++ entry ∷ []) (own-before start.caller ran.added others none ∙ ran.own_are)
        ∙ sym (map_push (λ (t : Tried). Splice start.caller place t.name t.answer) tried one))

    alone-more : start.alone ≡ true → All (IsBy start.caller) ((ran.added ++ others) ++ entry ∷ [])
    alone-more is =
        All-push (IsBy start.caller) (ran.added ++ others) entry
        (subst (All (IsBy start.caller)) (sym (ap (λ (l : List Entry). ran.added ++ l) (tries.adds.none (ran.same.1 ∙ is)) ∙ append-nil ran.added)) (ran.alone is))
        refl

    names-more : names_of tried ++ named.name ∷ names ≡ names_of (tried ++ one ∷ []) ++ names
    names-more =
        sym (append_assoc (names_of tried) (named.name ∷ []) names)
        ∙ ap (λ (l : List ListName). l ++ names) (sym (map_push (λ (t : Tried). t.name) tried one))

    ran-more : Ran server snapshot start pass' (tried ++ one ∷ []) names
    ran-more = record {
      of = of;
      same = (tries.same.0 ∙ ran.same.0, tries.same.1 ∙ ran.same.1);
      added = (ran.added ++ others) ++ entry ∷ [];
      seen = seen-more;
      own_are = own-more;
      alone = alone-more;
      scan = ap (last_scan start.caller) seen-is ∙ (scan-splice start.caller start.caller place named.name answer pass.seen others none ∙ ran.scan);
      turns = omega (arith, tries.turns, ran.turns, length-append tried (one ∷ []));
      names = ran.names ∙ names-more;
    }

  -- ---- what a step leaves, and how it may end the cycle

  module _ (pass pass' : Known Entry) (number : ℕ) (named : NamedPicture) (counts : Counts) (first mid last : Option ℕ) (was is_stopped : Bool)
      (before : Going server snapshot start pass number counts first mid was) (inside : number < length snapshot.lists) (item : named ≡ get_or snapshot.lists number named) (of : IsOf server pass') where
    abbrev Its : Step → Type 0
    Its step = Did snapshot named pass pass' mid last is_stopped step

    abbrev with_one : Spliced → List Tried
    with_one answer = before.tried ++ record { name = named.name; answer = answer } ∷ []

    one-longer : (answer : Spliced) → length (with_one answer) ≡ length before.tried + 1
    one-longer answer = length-append before.tried (record { name = named.name; answer = answer } ∷ [])

    clean : is_dirty live named ≡ false → Ran server snapshot start pass before.tried (left (number + 1))
    clean is = left-to pass before.tried (left number) (left (number + 1)) (left-by number named false inside item is) before.ran

    dirty : is_dirty live named ≡ true → Ran server snapshot start pass before.tried (named.name ∷ left (number + 1))
    dirty is = left-to pass before.tried (left number) (named.name ∷ left (number + 1)) (left-by number named true inside item is) before.ran

    ran-tried : (answer : Spliced) → Its (steps.Tried answer) → Ran server snapshot start pass' (with_one answer) (left (number + 1))
    ran-tried answer did = ran-more pass pass' before.tried (left (number + 1)) named answer (dirty did.0) of did.3

    asked-one : (answer : Spliced) → AskedOnce mid last → AskedTimes first last (length (with_one answer))
    asked-one answer once = subst (AskedTimes first last) (sym (one-longer answer)) (asked-more first mid last (length before.tried) before.asks once)

    behind-tried : (answer : Spliced) → answer ≢ LastEvent → Its (steps.Tried answer) → Going server snapshot start pass' (number + 1) (counted counts answer) first last is_stopped
    behind-tried answer other did = record {
      tried = with_one answer;
      ran = ran-tried answer did;
      few = omega (arith, before.few, one-longer answer);
      none_last = none-more before.tried (record { name = named.name; answer = answer }) before.none_last other;
      counts_are = counts-more counts before.tried named.name answer before.counts_are;
      asks = asked-one answer did.1;
      going = did.2;
    }

    pub goes-on : (step : Step) → Its step → ending step ≡ None → Going server snapshot start pass' (number + 1) (counted_step counts step) first last is_stopped
    goes-on steps.Clean did none = record {
      tried = before.tried;
      ran = subst (λ (p : Known Entry). Ran server snapshot start p before.tried (left (number + 1))) (sym did.0) (clean did.1);
      few = omega (arith, before.few);
      none_last = before.none_last;
      counts_are = before.counts_are;
      asks = subst (λ (asked : Option ℕ). AskedTimes first asked (length before.tried)) (sym did.2) before.asks;
      going = did.3;
    }
    goes-on (steps.Tried (Done removed tail_kept)) did none = behind-tried (Done removed tail_kept) (λ x. let no : ⊥ = cc in no) did
    goes-on (steps.Tried (Moved seen now)) did none = behind-tried (Moved seen now) (λ x. let no : ⊥ = cc in no) did
    goes-on (steps.Tried Gone) did none = behind-tried Gone (λ x. let no : ⊥ = cc in no) did
    goes-on (steps.Tried LastEvent) did none = absurd (let no : ⊥ = cc in no)
    goes-on steps.Stopped did none = absurd (let no : ⊥ = cc in no)
    goes-on steps.NoMemory did none = absurd (let no : ⊥ = cc in no)

    abbrev Ended : Cycle → Type 0
    Ended cycle = Collected server snapshot start pass' first last is_stopped cycle

    at-last : Its (steps.Tried LastEvent) → Ended cycles.LastEvent
    at-last did = record {
      tried = with_one LastEvent;
      left = left (number + 1);
      ran = ran-tried LastEvent did;
      ends = (before.tried, named.name, refl, before.none_last);
      asks = asked-one LastEvent did.1;
      stopped = did.2;
    }

    at-stop : Its steps.Stopped → Ended cycles.Stopped
    at-stop did = record {
      tried = before.tried;
      left = named.name ∷ left (number + 1);
      ran = subst (λ (p : Known Entry). Ran server snapshot start p before.tried (named.name ∷ left (number + 1))) (sym did.0) (dirty did.1);
      ends = ((λ x. let no : ⊥ = cc in no), before.none_last);
      asks = asked-more first mid last (length before.tried) before.asks did.2;
      stopped = did.3;
    }

    at-no-memory : Its steps.NoMemory → Ended cycles.NoMemory
    at-no-memory did = record {
      tried = before.tried;
      left = left number;
      ran = subst (λ (p : Known Entry). Ran server snapshot start p before.tried (left number)) (sym did.0) before.ran;
      ends = before.none_last;
      asks = subst (λ (asked : Option ℕ). AskedTimes first asked (length before.tried)) (sym did.1) before.asks;
      stopped = did.2;
    }

    pub ends-by : (step : Step) (cycle : Cycle) → Its step → ending step ≡ Some cycle → Ended cycle
    ends-by steps.Clean cycle did is = absurd (let no : ⊥ = cc in no)
    ends-by (steps.Tried (Done removed tail_kept)) cycle did is = absurd (let no : ⊥ = cc in no)
    ends-by (steps.Tried (Moved seen now)) cycle did is = absurd (let no : ⊥ = cc in no)
    ends-by (steps.Tried Gone) cycle did is = absurd (let no : ⊥ = cc in no)
    ends-by (steps.Tried LastEvent) cycle did is = let same : cycles.LastEvent ≡ cycle = cc in subst Ended same (at-last did)
    ends-by steps.Stopped cycle did is = let same : cycles.Stopped ≡ cycle = cc in subst Ended same (at-stop did)
    ends-by steps.NoMemory cycle did is = let same : cycles.NoMemory ≡ cycle = cc in subst Ended same (at-no-memory did)

  -- each list was tried
  pub finishes : (pass : Known Entry) (number : ℕ) (counts : Counts) (first last : Option ℕ) (is_stopped : Bool) → Going server snapshot start pass number counts first last is_stopped → length snapshot.lists ≤ number
      → Collected server snapshot start pass first last is_stopped (ended counts)
  finishes pass number counts first last is_stopped behind all = record {
    tried = behind.tried;
    left = left number;
    ran = behind.ran;
    ends = (ap (dirty_among live) (drop_all number snapshot.lists all), behind.none_last, behind.counts_are.spliced, behind.counts_are.moved, behind.counts_are.gone, behind.counts_are.removed);
    asks = behind.asks;
    stopped = behind.going;
  }

-- ---- the scan's turn

module _ (pass mid : Known Entry) (index : List ℕ) (result : Scanned Snapshot) (adds : AddsEntry pass mid (Scan pass.caller index result)) where
  abbrev scan_entry : Entry
  scan_entry = Scan pass.caller index result

  abbrev its_place : ℕ
  its_place = length (pass.seen ++ adds.others)

  scan-own : own pass.caller (adds.others ++ scan_entry ∷ []) ≡ scan_entry ∷ []
  scan-own =
      own-push pass.caller scan_entry adds.others refl
      ∙ ap (λ (l : List Entry). l ++ scan_entry ∷ []) (own-none pass.caller adds.others adds.none_own)

  scan-alone : pass.alone ≡ true → All (IsBy pass.caller) (adds.others ++ scan_entry ∷ [])
  scan-alone is = All-push (IsBy pass.caller) adds.others scan_entry (subst (All (IsBy pass.caller)) (sym (adds.none is)) (All-nil (IsBy pass.caller))) refl

  scan-place : mid.caller ≡ pass.caller → last_scan mid.caller mid.seen ≡ length (pass.seen ++ adds.others)
  scan-place same =
      ap (λ (caller : ℕ). last_scan caller mid.seen) same
      ∙ (ap (last_scan pass.caller) adds.seen ∙ scan-new pass.caller index result (pass.seen ++ adds.others))

  scan-there : at mid.seen (length (pass.seen ++ adds.others)) ≡ Some (Scan pass.caller index result)
  scan-there = ap (λ (l : List Entry). at l (length (pass.seen ++ adds.others))) adds.seen ∙ at_end (pass.seen ++ adds.others) (Scan pass.caller index result)

  scan-behind : length pass.seen ≤ length (pass.seen ++ adds.others)
  scan-behind = omega (arith, length-append pass.seen adds.others)

-- what a new scan took is what the pass's last scan took
pub took-new : (pass mid : Known Entry) (index : List ℕ) (snapshot : Snapshot) → mid.caller ≡ pass.caller → AddsEntry pass mid (Scan pass.caller index (Taken snapshot)) → TookLast mid snapshot
took-new pass mid index snapshot same adds = record {
  caller = pass.caller;
  index = index;
  is = ap (at mid.seen) (scan-place pass mid index (Taken snapshot) adds same) ∙ scan-there pass mid index (Taken snapshot) adds;
}

-- a cycle ends behind its scan
pub ends-at-once : (server : GateName) (pass mid : Known Entry) (index : List ℕ) (result : Scanned Snapshot) (asked : Option ℕ) (is_stopped : Bool) (cycle : Cycle) → IsOf server mid
    → (mid.caller ≡ pass.caller) × (mid.alone ≡ pass.alone) → mid.turns ≡ pass.turns + 1 → AddsEntry pass mid (Scan pass.caller index result) → is_stopped ≡ false → stops cycle ≡ false
    → EndsWith result cycle [] → Cycled server pass mid index asked asked is_stopped cycle
ends-at-once server pass mid index result asked is_stopped cycle of same turns adds going stop ends = record {
  of = of;
  same = same;
  took = result;
  tried = [];
  added = adds.others ++ Scan pass.caller index result ∷ [];
  seen = adds.seen ∙ append_assoc pass.seen adds.others (Scan pass.caller index result ∷ []);
  scan = length (pass.seen ++ adds.others);
  own_are = scan-own pass mid index result adds;
  alone = scan-alone pass mid index result adds;
  turns = omega (arith, turns, ap length (scan-own pass mid index result adds));
  new = scan-behind pass mid index result adds;
  there = scan-there pass mid index result adds;
  ends = ends;
  asks = subst (λ (b : Bool). AskedTimes asked asked (cond b (0 + 1) 0)) (sym stop) (asked-none asked);
  stopped = going ∙ sym stop;
}

-- it ends behind its splices
module _ (server : GateName) (pass mid pass' : Known Entry) (index : List ℕ) (snapshot : Snapshot) (first last : Option ℕ) (is_stopped : Bool) (cycle : Cycle)
    (same : (mid.caller ≡ pass.caller) × (mid.alone ≡ pass.alone)) (turns : mid.turns ≡ pass.turns + 1) (adds : AddsEntry pass mid (Scan pass.caller index (Taken snapshot)))
    (behind : Collected server snapshot mid pass' first last is_stopped cycle) where
  abbrev result : Scanned Snapshot
  result = Taken snapshot

  abbrev scan : List Entry
  scan = adds.others ++ Scan pass.caller index (Taken snapshot) ∷ []

  abbrev its : ℕ
  its = length (pass.seen ++ adds.others)

  place-is : last_scan mid.caller mid.seen ≡ its
  place-is = scan-place pass mid index result adds same.0

  splices-are : own pass.caller behind.ran.added ≡ splices_of pass.caller its behind.tried
  splices-are =
      subst (λ (caller : ℕ). own caller behind.ran.added ≡ splices_of caller its behind.tried) same.0
      (behind.ran.own_are ∙ ap (λ (place : ℕ). splices_of mid.caller place behind.tried) place-is)

  own-all : own pass.caller (scan ++ behind.ran.added) ≡ Scan pass.caller index (Taken snapshot) ∷ splices_of pass.caller its behind.tried
  own-all =
      own-append pass.caller scan behind.ran.added
      ∙ (ap (λ (l : List Entry). l ++ own pass.caller behind.ran.added) (scan-own pass mid index result adds)
      ∙ ap (λ (l : List Entry). Scan pass.caller index (Taken snapshot) ∷ l) splices-are)

  alone-all : pass.alone ≡ true → All (IsBy pass.caller) (scan ++ behind.ran.added)
  alone-all is =
      All-append (IsBy pass.caller) scan behind.ran.added (scan-alone pass mid index result adds is)
      (subst (λ (caller : ℕ). All (IsBy caller) behind.ran.added) same.0 (behind.ran.alone (same.1 ∙ is)))

  seen-all : pass'.seen ≡ pass.seen ++ (scan ++ behind.ran.added)
  seen-all =
      behind.ran.seen
      ∙ (ap (λ (l : List Entry). l ++ behind.ran.added) (adds.seen ∙ append_assoc pass.seen adds.others (Scan pass.caller index (Taken snapshot) ∷ []))
      ∙ append_assoc pass.seen scan behind.ran.added)

  there-still : at pass'.seen its ≡ Some (Scan pass.caller index (Taken snapshot))
  there-still =
      ap (λ (l : List Entry). at l its) behind.ran.seen
      ∙ at_more mid.seen behind.ran.added its (Scan pass.caller index (Taken snapshot)) (scan-there pass mid index result adds)

  pub ends-later : Cycled server pass pass' index first last is_stopped cycle
  ends-later = record {
    of = behind.ran.of;
    same = (behind.ran.same.0 ∙ same.0, behind.ran.same.1 ∙ same.1);
    took = Taken snapshot;
    tried = behind.tried;
    added = scan ++ behind.ran.added;
    seen = seen-all;
    scan = its;
    own_are = own-all;
    alone = alone-all;
    turns = omega (arith, behind.ran.turns, turns, ap length own-all, length-map {B = Entry} behind.tried (λ (t : Tried). Splice pass.caller its t.name t.answer));
    new = scan-behind pass mid index result adds;
    there = there-still;
    ends = (behind.left, behind.ran.names, behind.ends);
    asks = behind.asks;
    stopped = behind.stopped;
  }
