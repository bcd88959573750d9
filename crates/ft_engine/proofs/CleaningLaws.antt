-- What a command leaves of the indexes that are clean.
use Rattle.std.specs.Prelude.{◌≡◌, ◌≢◌, ◌<◌, ◌≤◌, ◌⊎◌, ◌&&◌, ◌||◌, ℕ, List, [], ◌∷◌, find, filter, map, nat_eq, nat_lt, slice_index_or, Bool, true, false, cond, Option, Some, None, IfSome, Result, Ok, Err, is_some, refl}
use Rattle.std.specs.List.{All, list_any}
use Rattle.std.specs.Map.{lookup}
use Rattle.std.specs.Option.{option_map}
use Rattle.std.specs.Str.{bytes_eq}
use Rattle.std.proofs.Common.{sym, ap, ◌∙◌, subst, inl, inr}
use Rattle.std.proofs.lemmas.Slice.Eq.{bytes_eq-Decides}
use Rattle.cmd_parse.specs.Asked.{Asked, Plain}
use Rattle.cmd_parse.specs.Read.{read}
use Rattle.cmd_parse.specs.Refusals.{refusal}
use Rattle.cmd_parse.specs.declared.command.CmdFault.{CmdFault}
use Rattle.cmd_parse.specs.declared.command.Verb.TheVariants.{Debug, Info}
use Rattle.ft_base.proofs.SpellingLaws.{spelling-Fault}
use Rattle.ft_base.specs.Docs.{Doc}
use Rattle.ft_base.specs.Memory.{out_of_memory}
use Rattle.ft_base.specs.Space.{erase}
use Rattle.ft_base.specs.Reply.{spelling}
use Rattle.ft_base.specs.Words.{first, second}
use Rattle.ft_base.specs.declared.definition.IndexDef.{IndexDef}
use Rattle.gc_splice.specs.Alive.{all_alive}
use Rattle.inverted_list.proofs.ReachLaws.{le_or_lt}
use Rattle.inverted_list.specs.Listing.{Listing}
use Rattle.ft_index.specs.Index.{Index, Indexes, is_live}
use Rattle.ft_index.specs.Lists.{AllLists, Vector, has_id, list_from, rows_of}
use Rattle.ft_index.specs.Thinned.{ListsLive}
use Rattle.ft_machine.proofs.CleanLaws.{info-refused, same-marks}
use Rattle.ft_machine.specs.Clean.{IsToldJust, TellsClean, all_named, clean_after, is_as_it_was, marks_of, with_collected}
use Rattle.ft_machine.specs.Definitions.{Defined, all_tried, index_of}
use Rattle.ft_machine.specs.Indexes.{done}
use Rattle.ft_machine.specs.Machine.{State, at_moment}
use Rattle.ft_machine.specs.Step.{Answers, last_event, last_number}
use Rattle.ft_meaning.specs.Member.{member, members}
use Rattle.ft_meaning.specs.Sortable.{sorting_vector}
use Rattle.indexed_store.proofs.ListedLaws.{entered-at}
use Rattle.indexed_store.proofs.NamedLaws.{index_of-named, named-has}
use Rattle.indexed_store.specs.Changing.{HasMore, IsReady, changed}
use Rattle.indexed_store.specs.Collecting.{IsClean, IsCleanAt}
use Rattle.indexed_store.specs.DefinitionsOf.{defined, definitions_of}
use Rattle.indexed_store.specs.Listed.{Enters, EntersDoc, EntersWaiting, Gathers, KeepsLists, lists_at, touches}
use Rattle.indexed_store.specs.Named.{is_named}
use Rattle.indexed_store.specs.Standing.{AreWritten}
use Rattle.indexed_store.specs.Writing.{Waits}
use Rattle.indexed_store.specs.declared.change.Change.{Change}
use Rattle.indexed_store.specs.declared.change.Change.TheVariants.{Nothing, Write, Move, EraseKey, EraseKeys, Create, Alter, Drop, DropMembers, OpenCursor, ReadCursor, CloseCursor, CloseCursors, Flush}
use Rattle.ft_engine.specs.Cleaning.{AreClean, KeepsClean, marked}
use Rattle.ft_engine.specs.Collecting.{Collects}
use Rattle.ft_engine.specs.Commands.{TellsFault, TellsLast, WordsCollect, WordsTell}
use Rattle.ft_engine.specs.Exactness.{IsRefusal, TellsExactly, TellsOf}
use Rattle.ft_engine.specs.Quiet.{IsQuietFor}
use Rattle.ft_engine.specs.Stands.{IsIndexed, Stands, begun}
use Rattle.ft_engine.proofs.ExactLaws.{tells-refused}
use Rattle.ft_engine.proofs.CollectionLaws.{collects-refused}
use Rattle.ft_engine.proofs.MarkLaws.{come-differ, erased-has, fewer-differ, fields-differ, last-has, member_ids, more-differ, none-has, same-ids}

-- ---- a clean index whose members and lists are as they were

live-ids : (rows : List (ℕ × Vector)) (id : ℕ) → has_id rows id ≡ list_any (nat_eq id) (map (λ (row : ℕ × Vector). row.0) rows)
live-ids [] id = refl
live-ids (row ∷ rows) id = by_test (nat_eq id row.0) (live-ids rows id)
  where
    by_test : (here : Bool) → has_id rows id ≡ list_any (nat_eq id) (map (λ (row : ℕ × Vector). row.0) rows)
        → is_some (cond here (Some row.1) (lookup (nat_eq id) rows)) ≡ (here || list_any (nat_eq id) (map (λ (row : ℕ × Vector). row.0) rows))
    by_test true rest = refl
    by_test false rest = rest

rows-ids : (def : IndexDef) (docs : List Doc) → map (λ (row : ℕ × Vector). row.0) (map (λ (doc : Doc). (doc.id, sorting_vector def doc)) docs) ≡ map (λ (doc : Doc). doc.id) docs
rows-ids def [] = refl
rows-ids def (doc ∷ docs) = ap (λ (ids : List ℕ). doc.id ∷ ids) (rows-ids def docs)

ids-live : (index : Index) (space : List Doc) → Indexes index space → map (λ (row : ℕ × Vector). row.0) index.table.live ≡ member_ids index.def space
ids-live index space stands = ap (λ (rows : List (ℕ × Vector)). map (λ (row : ℕ × Vector). row.0) rows) stands.live ∙ rows-ids index.def (members index.def space)

same-live : (o n : Index) (old new : List Doc) → Indexes o old → Indexes n new → member_ids o.def old ≡ member_ids n.def new → (id : ℕ) → is_live o id ≡ is_live n id
same-live o n old new before after same id =
    live-ids o.table.live id ∙ (ap (λ (ids : List ℕ). list_any (nat_eq id) ids) (ids-live o old before ∙ (same ∙ sym (ids-live n new after))) ∙ sym (live-ids n.table.live id))

alive-as : {P : Type 0} (live other : ℕ → Bool) → ((id : ℕ) → live id ≡ other id) → (es : List (ℕ × P)) → all_alive live es ≡ all_alive other es
alive-as live other same [] = refl
alive-as live other same (e ∷ es) = ap (λ (b : Bool). b && all_alive live es) (same e.0) ∙ ap (λ (b : Bool). other e.0 && b) (alive-as live other same es)

lists-live-as : (live other : ℕ → Bool) → ((id : ℕ) → live id ≡ other id) → (lists : AllLists) → ListsLive live lists → ListsLive other lists
lists-live-as live other same lists each = record {
  words = λ word. sym (alive-as live other same _) ∙ each.words word;
  tags = λ field tag. sym (alive-as live other same _) ∙ each.tags field tag;
  ranges = λ field low. by_list (list_from (rows_of lists.ranges field) low) (each.ranges field low);
}
  where
    by_list : {P : Type 0} (list : Option (Listing P)) → IfSome list (λ l. all_alive live l.entries ≡ true) → IfSome list (λ l. all_alive other l.entries ≡ true)
    by_list None here = tt
    by_list (Some l) here = sym (alive-as live other same l.entries) ∙ here

-- the index of a name is the first that has it
named-first : (xs : List Index) (name : List ℕ) (index : Index) → find (is_named name) xs ≡ Some index → (rest : List Defined) × (all_named name (definitions_of xs) ≡ defined index ∷ rest)
named-first [] name index there = cc (there)
named-first (x ∷ xs) name index there = by_test (is_named name x) there (named-first xs name index)
  where
    by_test : (here : Bool) → cond here (Some x) (find (is_named name) xs) ≡ Some index
        → (find (is_named name) xs ≡ Some index → (rest : List Defined) × (all_named name (definitions_of xs) ≡ defined index ∷ rest))
        → (rest : List Defined) × (cond here (defined x ∷ all_named name (definitions_of xs)) (all_named name (definitions_of xs)) ≡ defined index ∷ rest)
    by_test true there later = let same : x ≡ index = cc (there) in (all_named name (definitions_of xs), ap (λ (i : Index). defined i ∷ all_named name (definitions_of xs)) same)
    by_test false there later = later there

first-named : (state : State) (xs : List Index) (name : List ℕ) (index : Index) → state.definitions ≡ definitions_of xs → find (is_named name) xs ≡ Some index
    → (rest : List Defined) × (all_named name state.definitions ≡ defined index ∷ rest)
first-named state xs name index defs there = let found = named-first xs name index there in (found.0, ap (all_named name) defs ∙ found.1)

-- it is clean on
clean-again : (name : List ℕ) (olds news : List Index) (old new : State) → old.definitions ≡ definitions_of olds → new.definitions ≡ definitions_of news
    → All (λ (index : Index). Indexes index old.space) olds → All (λ (index : Index). Indexes index new.space) news
    → lists_at name news ≡ lists_at name olds → marks_of old name ≡ marks_of new name → IsCleanAt name olds → IsCleanAt name news
clean-again name olds news old new before after stood stand lists marks clean = by_found (find (is_named name) olds) (find (is_named name) news) refl refl lists clean
  where
    by_found : (o n : Option Index) → find (is_named name) olds ≡ o → find (is_named name) news ≡ n → option_map (λ (index : Index). index.lists) n ≡ option_map (λ (index : Index). index.lists) o
        → IfSome o IsClean → IfSome n IsClean
    by_found o None was is same clean = tt
    by_found None (Some n) was is same clean = cc (same)
    by_found (Some o) (Some n) was is same clean =
        let lists : o.lists ≡ n.lists = cc (same) in
        let one = first-named old olds name o before was in
        let two = first-named new news name n after is in
        let ids : member_ids o.def old.space ≡ member_ids n.def new.space = same-ids old new name (defined o) (defined n) one.0 two.0 one.1 two.1 marks in
        subst (ListsLive (is_live n)) lists
        (lists-live-as (is_live o) (is_live n)
        (same-live o n old.space new.space (named-has (λ (index : Index). Indexes index old.space) olds name o stood was) (named-has (λ (index : Index). Indexes index new.space) news name n stand is) ids)
        o.lists clean)

stand-for : (engine : Stands) → IsIndexed engine → All (λ (index : Index). Indexes index engine.state.space) engine.indexes
stand-for engine is k d short = (is.indexes k d short).documents

-- ---- a change that touches the index of a name

no-index : (name : List ℕ) (xs : List Index) → [] ≡ definitions_of xs → IsCleanAt name xs
no-index name [] none = tt
no-index name (x ∷ xs) none = cc (none)

touched : (change : Change) (mid new : Stands) (name : List ℕ) → touches change name ≡ true → IsReady change mid.next mid.state.space mid.waits mid.indexes
    → mid.state.definitions ≡ definitions_of mid.indexes → new.state.definitions ≡ definitions_of new.indexes → new.state ≡ changed change mid.waits mid.opens mid.state
    → marks_of mid.state name ≡ marks_of new.state name → IsCleanAt name new.indexes
touched Nothing mid new name touch ready defs after is marks = cc (touch)
touched (Write put) mid new name touch ready defs after is marks = cc (touch)
touched (Move put from) mid new name touch ready defs after is marks = cc (touch)
touched (EraseKey key) mid new name touch ready defs after is marks = cc (touch)
touched (EraseKeys keys) mid new name touch ready defs after is marks = cc (touch)
touched OpenCursor mid new name touch ready defs after is marks = cc (touch)
touched (ReadCursor place taken) mid new name touch ready defs after is marks = cc (touch)
touched (CloseCursor place) mid new name touch ready defs after is marks = cc (touch)
touched CloseCursors mid new name touch ready defs after is marks = cc (touch)
touched (Create index) mid new name touch ready defs after is marks = absurd (more-differ name mid.state new.state (defined index) touch (ap (λ (s : State). s.definitions) is) marks)
touched (Alter index) mid new name touch ready defs after is marks =
    by_index (index_of mid.state.definitions index.def.name) refl (subst (λ (ds : List Defined). HasMore (index_of ds index.def.name) index) (sym defs) ready.0)
  where
    by_index : (found : Option Defined) → index_of mid.state.definitions index.def.name ≡ found → HasMore found index → IsCleanAt name new.indexes
    by_index None there more = absurd more
    by_index (Some was) there more = absurd (fields-differ name mid.state new.state was (defined index) touch there more (ap (λ (s : State). s.definitions) is) marks)
touched (Drop dropped) mid new name touch ready defs after is marks =
    absurd (fewer-differ name dropped.now mid.state new.state touch (ap (λ (ds : List Defined). is_some (index_of ds dropped.now)) defs ∙ ready) (ap (λ (s : State). s.definitions) is) marks)
touched (DropMembers dropped) mid new name touch ready defs after is marks =
    absurd (fewer-differ name dropped.now mid.state new.state touch (ap (λ (ds : List Defined). is_some (index_of ds dropped.now)) defs ∙ ready) (ap (λ (s : State). s.definitions) is) marks)
touched Flush mid new name touch ready defs after is marks = no-index name new.indexes (sym (ap (λ (s : State). s.definitions) is) ∙ after)

-- ---- a document that is written

-- whether a document is written, also behind the one of another key
abbrev IsWritten : Doc → List Doc → List Doc → Type 0
IsWritten doc old new = (def : IndexDef) → member def doc ≡ true → list_any (nat_eq doc.id) (member_ids def new) ≡ true

written-at : (name : List ℕ) (doc : Doc) (old mid new : Stands) → IsIndexed mid → doc.id ≡ mid.next → AreWritten mid.state.space mid.next → EntersDoc doc old.indexes mid.indexes
    → all_tried (Some doc) mid.state.definitions ≡ new.state.definitions → IsWritten doc mid.state.space new.state.space → marks_of mid.state name ≡ marks_of new.state name
    → lists_at name mid.indexes ≡ lists_at name old.indexes
written-at name doc old mid new stands id documents enters defs there marks =
    entered-at doc name old.indexes mid.indexes enters (λ index found. by_member index found (member index.def doc) refl)
  where
    by_member : (index : Index) → find (is_named name) mid.indexes ≡ Some index → (m : Bool) → member index.def doc ≡ m → member index.def doc ≡ false
    by_member index found false none = none
    by_member index found true member_is =
        let one = first-named mid.state mid.indexes name index stands.definitions found in
        let absent : list_any (nat_eq doc.id) (member_ids index.def mid.state.space) ≡ false =
        subst (λ (n : ℕ). list_any (nat_eq n) (member_ids index.def mid.state.space) ≡ false) (sym id) (none-has index.def 0 mid.next mid.state.space documents.rise documents.earlier) in
        absurd (come-differ name mid.state new.state doc (defined index) one.0 one.1 (sym defs) (there index.def member_is) absent marks)

other-key : (from key : List ℕ) → from ≢ key → bytes_eq from key ≡ false
other-key from key apart = by_test (bytes_eq from key) refl
  where
    by_test : (same : Bool) → bytes_eq from key ≡ same → bytes_eq from key ≡ false
    by_test true is = absurd (apart ((bytes_eq-Decides from key).0 is))
    by_test false is = is

-- ---- a command that is not out of memory

-- what is entered before the change is made leaves the lists of an index that is as it was
prepared-at : (change : Change) (name : List ℕ) (old mid new : Stands) → IsIndexed mid → AreWritten mid.state.space mid.next → IsReady change mid.next mid.state.space mid.waits mid.indexes
    → Enters change mid.waits old.indexes mid.indexes → new.state ≡ changed change mid.waits mid.opens mid.state → marks_of mid.state name ≡ marks_of new.state name
    → lists_at name mid.indexes ≡ lists_at name old.indexes
prepared-at (Write put) name old mid new stands documents ready enters is marks = by_waits mid.waits refl ready enters is
  where
    by_waits : (waits : Option Doc) → mid.waits ≡ waits → Waits put mid.next mid.state.space mid.indexes waits → EntersWaiting waits old.indexes mid.indexes
        → new.state ≡ changed (Write put) waits mid.opens mid.state → lists_at name mid.indexes ≡ lists_at name old.indexes
    by_waits None here waits enters is = absurd waits
    by_waits (Some doc) here waits enters is =
        written-at name doc old mid new stands waits.id documents enters (sym (ap (λ (s : State). s.definitions) is))
        (λ def member_is. subst (λ (docs : List Doc). list_any (nat_eq doc.id) (member_ids def docs) ≡ true) (sym (ap (λ (s : State). s.space) is)) (last-has def doc (erase mid.state.space doc.key) member_is)) marks
prepared-at (Move put from) name old mid new stands documents ready enters is marks = by_waits mid.waits refl ready enters is
  where
    by_waits : (waits : Option Doc) → mid.waits ≡ waits → IsReady (Move put from) mid.next mid.state.space waits mid.indexes → EntersWaiting waits old.indexes mid.indexes
        → new.state ≡ changed (Move put from) waits mid.opens mid.state → lists_at name mid.indexes ≡ lists_at name old.indexes
    by_waits None here waits enters is = absurd waits.0
    by_waits (Some doc) here waits enters is =
        written-at name doc old mid new stands waits.0.id documents enters (sym (ap (λ (s : State). s.definitions) is))
        (λ def member_is. subst (λ (docs : List Doc). list_any (nat_eq doc.id) (member_ids def docs) ≡ true) (sym (ap (λ (s : State). s.space) is))
        (erased-has def doc from.now (erase mid.state.space doc.key) member_is (other-key from.now doc.key waits.1))) marks
prepared-at Nothing name old mid new stands documents ready enters is marks = ap (lists_at name) enters
prepared-at (EraseKey key) name old mid new stands documents ready enters is marks = ap (lists_at name) enters
prepared-at (EraseKeys keys) name old mid new stands documents ready enters is marks = ap (lists_at name) enters
prepared-at (Create index) name old mid new stands documents ready enters is marks = ap (lists_at name) enters
prepared-at (Alter index) name old mid new stands documents ready enters is marks = ap (lists_at name) enters
prepared-at (Drop dropped) name old mid new stands documents ready enters is marks = ap (lists_at name) enters
prepared-at (DropMembers dropped) name old mid new stands documents ready enters is marks = ap (lists_at name) enters
prepared-at OpenCursor name old mid new stands documents ready enters is marks = ap (lists_at name) enters
prepared-at (ReadCursor place taken) name old mid new stands documents ready enters is marks = ap (lists_at name) enters
prepared-at (CloseCursor place) name old mid new stands documents ready enters is marks = ap (lists_at name) enters
prepared-at CloseCursors name old mid new stands documents ready enters is marks = ap (lists_at name) enters
prepared-at Flush name old mid new stands documents ready enters is marks = ap (lists_at name) enters

-- an event that begins leaves each index as it was
begun-marks : (number moment : ℕ) (state : State) (name : List ℕ) → marks_of (begun number moment state) name ≡ marks_of state name
begun-marks number moment state name = by_test (nat_lt number last_number)
  where
    by_test : (early : Bool) → marks_of (cond early (at_moment moment state) state) name ≡ marks_of state name
    by_test true = refl
    by_test false = refl

-- A command that was prepared and committed leaves an index clean that is as it was, unless memory ran out.
pub command-keeps : (asks : Asked) (change : Change) (moment : ℕ) (old mid new : Stands) (written name : List ℕ) → IsIndexed old → IsIndexed mid → IsIndexed new
    → mid.state ≡ begun old.next moment old.state → AreWritten mid.state.space mid.next → IsReady change mid.next mid.state.space mid.waits mid.indexes
    → (written ≡ spelling out_of_memory) ⊎ (Enters change mid.waits old.indexes mid.indexes ⊎ Gathers asks old.indexes mid.indexes) → IsQuietFor asks change
    → new.state ≡ changed change mid.waits mid.opens mid.state → KeepsLists change mid.indexes new.indexes → (change ≡ Nothing → new.indexes ≡ mid.indexes)
    → written ≢ spelling out_of_memory → is_as_it_was old.state new.state name ≡ true → IsCleanAt name old.indexes → IsCleanAt name new.indexes
command-keeps asks change moment old mid new written name stood between stands started documents ready enters quiet is lists kept known as_it_was clean = by_entry enters
  where
    marks : marks_of old.state name ≡ marks_of new.state name
    marks = same-marks old.state new.state name as_it_was

    mid_marks : marks_of mid.state name ≡ marks_of old.state name
    mid_marks = ap (λ (s : State). marks_of s name) started ∙ begun-marks old.next moment old.state name

    again : lists_at name new.indexes ≡ lists_at name old.indexes → IsCleanAt name new.indexes
    again same = clean-again name old.indexes new.indexes old.state new.state stood.definitions stands.definitions (stand-for old stood) (stand-for new stands) same marks clean

    by_touch : Enters change mid.waits old.indexes mid.indexes → (touch : Bool) → touches change name ≡ touch → IsCleanAt name new.indexes
    by_touch entered true touch = touched change mid new name touch ready between.definitions stands.definitions is (mid_marks ∙ marks)
    by_touch entered false touch = again (lists name touch ∙ prepared-at change name old mid new between documents ready entered is (mid_marks ∙ marks))

    by_name : (args : List (List ℕ)) → new.indexes ≡ mid.indexes → Gathers (Plain Debug args) old.indexes mid.indexes → (same : Bool) → bytes_eq name (second args) ≡ same → IsCleanAt name new.indexes
    by_name args still gathers true same =
        subst (λ (n : List ℕ). IsCleanAt n new.indexes) (sym ((bytes_eq-Decides name (second args)).0 same)) (subst (IsCleanAt (second args)) (sym still) gathers.0)
    by_name args still gathers false apart = again (ap (lists_at name) still ∙ gathers.1 name apart)

    by_asks : (a : Asked) → IsQuietFor a change → Gathers a old.indexes mid.indexes → IsCleanAt name new.indexes
    by_asks (Plain Debug args) nothing gathers = by_name args (kept nothing) gathers (bytes_eq name (second args)) refl
    by_asks _ nothing gathers = absurd gathers

    by_entry : (written ≡ spelling out_of_memory) ⊎ (Enters change mid.waits old.indexes mid.indexes ⊎ Gathers asks old.indexes mid.indexes) → IsCleanAt name new.indexes
    by_entry (inl want) = absurd (known want)
    by_entry (inr (inl entered)) = by_touch entered (touches change name) refl
    by_entry (inr (inr gathers)) = by_asks asks quiet gathers

-- ---- all clean indexes, and what is told of them

-- the names of a list that is filtered
kept-clean : (old new : State) (olds news : List Index) → ((name : List ℕ) → is_as_it_was old new name ≡ true → IsCleanAt name olds → IsCleanAt name news) → (clean : List (List ℕ)) → AreClean clean olds
    → AreClean (filter (is_as_it_was old new) clean) news
kept-clean old new olds news keeps [] are = tt
kept-clean old new olds news keeps (name ∷ clean) are = by_test (is_as_it_was old new name) refl (kept-clean old new olds news keeps clean are.1)
  where
    by_test : (same : Bool) → is_as_it_was old new name ≡ same → AreClean (filter (is_as_it_was old new) clean) news
        → AreClean (cond same (name ∷ filter (is_as_it_was old new) clean) (filter (is_as_it_was old new) clean)) news
    by_test true same rest = (keeps name same are.0, rest)
    by_test false other rest = rest

collected-clean : (asked : Result Asked CmdFault) (written : List ℕ) (names : List (List ℕ)) (news : List Index) → ((asks : Asked) → asked ≡ Ok asks → Collects asks news written)
    → AreClean names news → AreClean (with_collected asked written names) news
collected-clean (Err fault) written names news collects are = are
collected-clean (Ok (Plain Debug args)) written names news collects are = by_test (bytes_eq written (spelling done)) refl
  where
    by_test : (said : Bool) → bytes_eq written (spelling done) ≡ said → AreClean (cond said (second args ∷ names) names) news
    by_test true said = (collects (Plain Debug args) refl ((bytes_eq-Decides written (spelling done)).0 said), are)
    by_test false other = are
collected-clean (Ok _) written names news collects are = are

after-clean : (asked : Result Asked CmdFault) (old new : Stands) (written : List ℕ) → ((asks : Asked) → asked ≡ Ok asks → Collects asks new.indexes written)
    → ((name : List ℕ) → written ≢ spelling out_of_memory → is_as_it_was old.state new.state name ≡ true → IsCleanAt name old.indexes → IsCleanAt name new.indexes)
    → (clean : List (List ℕ)) → AreClean clean old.indexes → AreClean (clean_after asked old.state written new.state clean) new.indexes
after-clean asked old new written collects keeps clean are = by_test (bytes_eq written (spelling out_of_memory)) refl
  where
    by_test : (want : Bool) → bytes_eq written (spelling out_of_memory) ≡ want
        → AreClean (cond want [] (with_collected asked written (filter (is_as_it_was old.state new.state) clean))) new.indexes
    by_test true want = tt
    by_test false other =
        let known : written ≢ spelling out_of_memory = λ want. cc ((bytes_eq-Decides written (spelling out_of_memory)).1 want, other) in
        collected-clean asked written (filter (is_as_it_was old.state new.state) clean) new.indexes collects
        (kept-clean old.state new.state old.indexes new.indexes (λ name same was. keeps name known same was) clean are)

-- one of the names is that of a clean index
named-clean : (name : List ℕ) (clean : List (List ℕ)) (indexes : List Index) → AreClean clean indexes → list_any (bytes_eq name) clean ≡ true → IsCleanAt name indexes
named-clean name [] indexes are there = cc (there)
named-clean name (first ∷ clean) indexes are there = by_test (bytes_eq name first) refl there (named-clean name clean indexes are.1)
  where
    by_test : (here : Bool) → bytes_eq name first ≡ here → (here || list_any (bytes_eq name) clean) ≡ true → (list_any (bytes_eq name) clean ≡ true → IsCleanAt name indexes) → IsCleanAt name indexes
    by_test true same there later = subst (λ (n : List ℕ). IsCleanAt n indexes) (sym ((bytes_eq-Decides name first).0 same)) are.0
    by_test false apart there later = later there

refusal-minus : (written : List ℕ) → IsRefusal written → slice_index_or written 0 0 ≡ 45
refusal-minus written (text, is) = ap (λ (bytes : List ℕ). slice_index_or bytes 0 0) (is ∙ spelling-Fault text)

-- FT.INFO of an index that is clean tells just the live records
told-just : (args : List (List ℕ)) (words : List (List ℕ)) (number moment : ℕ) (old : Stands) (written : List ℕ) (new : State) → number < last_number → read number words ≡ Ok (Plain Info args) → IsIndexed old
    → TellsOf (find (is_named (first args)) old.indexes) written → Answers words number moment old.state written new → IsCleanAt (first args) old.indexes
    → IsToldJust (index_of old.state.definitions (first args)) old.state.space written
told-just args words number moment old written new below asks stood tells answer clean =
    subst (λ (i : Option Defined). IsToldJust i old.state.space written) (sym named) (by_found (find (is_named (first args)) old.indexes) refl tells clean)
  where
    named : index_of old.state.definitions (first args) ≡ option_map defined (find (is_named (first args)) old.indexes)
    named = ap (λ (ds : List Defined). index_of ds (first args)) stood.definitions ∙ index_of-named old.indexes (first args)

    by_found : (found : Option Index) → find (is_named (first args)) old.indexes ≡ found → TellsOf found written → IfSome found IsClean → IsToldJust (option_map defined found) old.state.space written
    by_found None there tells clean = tt
    by_found (Some index) there (inl told) clean =
        let documents : Indexes index old.state.space = named-has (λ (i : Index). Indexes i old.state.space) old.indexes (first args) index (stand-for old stood) there in
        inl (record {
          counts = told.1.counts;
          records = told.1.just index.def index.table.live (members index.def old.state.space) documents clean;
          told = told.2 ∙ ap spelling told.1.same;
        })
    by_found (Some index) there (inr refused) clean =
        inr (info-refused args (defined index) words number moment old.state written new below asks (named ∙ ap (option_map defined) there) (refusal-minus written refused) answer)

tells-clean : (asked : Result Asked CmdFault) (words : List (List ℕ)) (number moment : ℕ) (old : Stands) (written : List ℕ) (new : State) → number < last_number → read number words ≡ asked → IsIndexed old
    → ((asks : Asked) → asked ≡ Ok asks → TellsExactly asks old.indexes written) → Answers words number moment old.state written new → (clean : List (List ℕ)) → AreClean clean old.indexes
    → TellsClean asked (marked old clean) written
tells-clean (Err fault) words number moment old written new below reads stood tells answer clean are = tt
tells-clean (Ok (Plain Info args)) words number moment old written new below reads stood tells answer clean are = λ there.
    told-just args words number moment old written new below reads stood (tells (Plain Info args) refl) answer (named-clean (first args) clean old.indexes are there)
tells-clean (Ok _) words number moment old written new below reads stood tells answer clean are = tt

-- A command keeps what is clean, where it leaves each index clean that is as it was, unless memory ran out.
pub keeps-clean : (words : List (List ℕ)) (number moment : ℕ) (old new : Stands) (written : List ℕ) → IsIndexed old → WordsTell number words old.indexes written → WordsCollect number words new.indexes written
    → Answers words number moment old.state written new.state
    → ((name : List ℕ) → written ≢ spelling out_of_memory → is_as_it_was old.state new.state name ≡ true → IsCleanAt name old.indexes → IsCleanAt name new.indexes)
    → KeepsClean number words old written new
keeps-clean words number moment old new written stood tells collects answer keeps clean are = (
  after-clean (read number words) old new written collects keeps clean are,
  λ below. tells-clean (read number words) words number moment old written new.state below refl stood tells answer clean are,
)

-- the text of a refusal, whatever the number
pub refused-text : (number : ℕ) (words : List (List ℕ)) (fault : CmdFault) (written : List ℕ) → TellsFault number words fault written → TellsLast number written → IsRefusal written
refused-text number words fault written before last = by_number (le_or_lt last_number number)
  where
    by_number : (last_number ≤ number) ⊎ (number < last_number) → IsRefusal written
    by_number (inl late) = (last_event, last late)
    by_number (inr early) = (refusal (slice_index_or words 0 []) fault, before early)

pub refused-tells : (number : ℕ) (words : List (List ℕ)) (indexes : List Index) (written : List ℕ) → IsRefusal written → WordsTell number words indexes written
refused-tells number words indexes written refused asks reads = tells-refused asks indexes written refused

pub refused-collects : (number : ℕ) (words : List (List ℕ)) (indexes : List Index) (written : List ℕ) → IsRefusal written → WordsCollect number words indexes written
refused-collects number words indexes written refused asks reads = collects-refused asks indexes written refused
