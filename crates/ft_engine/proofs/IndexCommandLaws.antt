-- What the commands of indexes give.
use Rattle.std.proofs.Common.{◌≡◌, ◌<◌, ◌≤◌, ◌+◌, ℕ, Bool, true, false, cond, List, [], ◌∷◌, ◌++◌, length, map, Option, Some, None, refl, sym, ap, ◌∙◌, subst, arith, inl, inr}
use Rattle.std.specs.Prelude.{◌||◌, Result, Ok, Err, IfOk, IsTrue, codes, drop, find, is_some, nat_le, nat_lt}
use Rattle.std.specs.Borrow.{Bor}
use Rattle.std.specs.List.{All}
use Rattle.std.specs.Option.{option_copied, option_map}
use Rattle.std.proofs.lemmas.Bool.Decides.{nat_tests}
use Rattle.std.proofs.lemmas.List.{length-append}
use Rattle.std.proofs.lemmas.Result.{IfOk-weaker}
use Rattle.std.proofs.lemmas.Slice.Eq.{bytes_eq-Decides}
use Rattle.cmd_parse.specs.Read.{Asked, AlterIndex, CreateIndex, Plain}
use Rattle.cmd_parse.specs.declared.command.Verb.TheVariants.{DropIndex, ListIndexes, TagVals}
use Rattle.ft_base.specs.Memory.{out_of_memory}
use Rattle.ft_base.specs.Reply.{fits_wire, spelling}
use Rattle.ft_base.specs.declared.definition.Field.{Field}
use Rattle.ft_base.specs.declared.definition.IndexDef.{IndexDef}
use Rattle.ft_base.specs.declared.reply.Reply.{Reply}
use Rattle.ft_base.specs.declared.reply.Reply.TheVariants.{Array, Bulk, Fault, Line}
use Rattle.ft_index.specs.Index.{Index}
use Rattle.ft_schema.specs.Gives.{IsFaultOf}
use Rattle.ft_schema.specs.Schema.{extended, has_any_alias, is_over}
use Rattle.ft_schema.specs.declared.fault.SchemaFault.{SchemaFault}
use Rattle.ft_schema.specs.declared.fault.SchemaFault.TheVariants as schema
use Rattle.indexed_store.proofs.NamedLaws.{index_of-named}
use Rattle.ft_machine.specs.Definitions.{Defined, failures_over, index_of, with_index, without_index, without_members}
use Rattle.indexed_store.proofs.MovingLaws.{moves_same}
use Rattle.indexed_store.specs.DefinitionsOf.{defined, definitions_of}
use Rattle.indexed_store.specs.Named.{is_named}
use Rattle.ft_base.proofs.RepliesLaws.{fits-Bulk, shown-fits}
use Rattle.ft_machine.proofs.Stepping.{gives, told, wants}
use Rattle.ft_base.specs.Words.{first, second}
use Rattle.ft_machine.specs.Indexes.{altered, altered_to, created, defines, dropped, index_over, listed, most_indexes, name_bulk, tag_field, tag_vals, tags_reply, undefines, unknown_index}
use Rattle.ft_machine.specs.Machine.{State, answered}
use Rattle.indexed_store.specs.Changing.{HasMore, without_cursors_of}
use Rattle.indexed_store.specs.Holding.{Holding, state_of}
use Rattle.indexed_store.specs.Preparing.{IsMade, Prepares, Stays}
use Rattle.indexed_store.specs.Standing.{AreApart}
use Rattle.indexed_store.specs.declared.change.Change.TheVariants.{Alter, Nothing}
use Rattle.ft_schema.specs.Refusals.{schema_refusal}
use Rattle.ft_machine.specs.Step.{Does, MayWant, Told}

-- whether a name is taken, as a look-up says
pub named-known : (indexes : List Index) (definitions : List Defined) (name : List ℕ) (index : Option (Bor Index)) → definitions ≡ definitions_of indexes → option_copied index ≡ find (is_named name) indexes
    → is_some (index_of definitions name) ≡ is_some index
named-known indexes definitions name index same found =
    ap (λ (o : Option Defined). is_some o) (ap (λ (ds : List Defined). index_of ds name) same ∙ index_of-named indexes name)
    ∙ (mapped (find (is_named name) indexes) ∙ (ap is_some (sym found) ∙ copied index))
  where
    mapped : (o : Option Index) → is_some (option_map defined o) ≡ is_some o
    mapped None = refl
    mapped (Some index) = refl

    copied : (o : Option (Bor Index)) → is_some (option_copied o) ≡ is_some o
    copied None = refl
    copied (Some index) = refl

-- the definition of a name that was found, and of one that was not
pub named-some : (indexes : List Index) (definitions : List Defined) (name : List ℕ) (index : Index) → definitions ≡ definitions_of indexes → Some index ≡ find (is_named name) indexes → index_of definitions name ≡ Some (defined index)
named-some indexes definitions name index same found = ap (λ (ds : List Defined). index_of ds name) same ∙ (index_of-named indexes name ∙ ap (option_map defined) (sym found))

pub named-none : (indexes : List Index) (definitions : List Defined) (name : List ℕ) → definitions ≡ definitions_of indexes → None ≡ find (is_named name) indexes → index_of definitions name ≡ None
named-none indexes definitions name same found = ap (λ (ds : List Defined). index_of ds name) same ∙ (index_of-named indexes name ∙ ap (option_map defined) (sym found))

-- nothing is seen of what was only looked at
pub stays-same : (held : Holding) → Stays held held
stays-same held = record { space = refl; definitions = refl; cursors = refl; latest = refl; next = omega arith; moves = moves_same held.next held.indexes }

-- a command that changes nothing is prepared
pub prepares-stays : (asks : Asked) (old new : Holding) (written : List ℕ) → Stays old new → new.indexes ≡ old.indexes → Does asks old.next (state_of old) written (state_of old) → Prepares asks old new written Nothing
prepares-stays asks old new written stays same does = record {
  does = does;
  stays = stays;
  ready = tt;
  enters = inr (inl same);
}

-- where memory ran out for an index, no change is prepared
pub prepares-wanting : (asks : Asked) (old new : Holding) (written : List ℕ) → MayWant asks → Stays old new → new.indexes ≡ old.indexes → written ≡ spelling out_of_memory → Prepares asks old new written Nothing
prepares-wanting asks old new written may stays same said = prepares-stays asks old new written stays same (wants asks old.next (state_of old) written may said)

-- FT.CREATE of a name that is taken
created-taken : (def : IndexDef) (state : State) → is_some (index_of state.definitions def.name) ≡ true → created def state ≡ answered (Fault (codes "Index already exists")) state
created-taken def state taken = rw taken refl

pub create-taken : (def : IndexDef) (number : ℕ) (state : State) (written : List ℕ) → is_some (index_of state.definitions def.name) ≡ true → written ≡ spelling (Fault (codes "Index already exists"))
    → Does (CreateIndex def) number state written state
create-taken def number state written taken said = gives (CreateIndex def) number state (answered (Fault (codes "Index already exists")) state) written state (sym (created-taken def state taken)) said refl

-- where there is no room
created-full : (def : IndexDef) (state : State) → is_some (index_of state.definitions def.name) ≡ false → nat_le most_indexes (length state.definitions) ≡ true → created def state ≡ answered (Fault (codes "Too many indexes")) state
created-full def state free full = rw (free, full) refl

pub create-full : (def : IndexDef) (number : ℕ) (state : State) (written : List ℕ) → is_some (index_of state.definitions def.name) ≡ false → most_indexes ≤ length state.definitions → written ≡ spelling (Fault (codes "Too many indexes"))
    → Does (CreateIndex def) number state written state
create-full def number state written free full said =
    gives (CreateIndex def) number state (answered (Fault (codes "Too many indexes")) state) written state (sym (created-full def state free (grind (arith, nat_tests, full)))) said refl

-- where the index goes last
created-last : (def : IndexDef) (state : State) → is_some (index_of state.definitions def.name) ≡ false → nat_le most_indexes (length state.definitions) ≡ false
    → created def state ≡ defines (state.definitions ++ index_over def state.space 0 ∷ []) state
created-last def state free room = rw (free, room) refl

same-defined : (index : Index) (def : IndexDef) (failures : ℕ) → index.def ≡ def → index.failures ≡ failures → defined index ≡ record { def = def; failures = failures }
same-defined index def failures is counted = ap (λ (d : IndexDef). record { def = d; failures = index.failures }) is ∙ ap (λ (n : ℕ). record { def = def; failures = n }) counted

pub create-done : (def : IndexDef) (number : ℕ) (state : State) (written : List ℕ) (index : Index) → is_some (index_of state.definitions def.name) ≡ false → length state.definitions < most_indexes
    → index.def ≡ def → index.failures ≡ failures_over def state.space 0 → written ≡ spelling (Line (codes "OK"))
    → Does (CreateIndex def) number state written (record state { definitions = state.definitions ++ defined index ∷ [] })
create-done def number state written index free room is counted said =
    gives (CreateIndex def) number state (defines (state.definitions ++ index_over def state.space 0 ∷ []) state) written (record state { definitions = state.definitions ++ defined index ∷ [] })
    (sym (created-last def state free (grind (arith, nat_tests, room)))) said
    (ap (λ (d : Defined). record state { definitions = state.definitions ++ d ∷ [] }) (same-defined index def (failures_over def state.space 0) is counted))

-- FT.ALTER where no index has the name
pub alter-unknown : (name : List ℕ) (fields : List Field) (number : ℕ) (state : State) (written : List ℕ) → index_of state.definitions name ≡ None → written ≡ spelling (Fault unknown_index)
    → Does (AlterIndex name fields) number state written state
alter-unknown name fields number state written none said =
    gives (AlterIndex name fields) number state (answered (Fault unknown_index) state) written state (sym (ap (λ (i : Option Defined). altered i fields state) none)) said refl

-- where the fields have a fault
alter-stays : (name : List ℕ) (fields : List Field) (number : ℕ) (state : State) (written : List ℕ) (old : Defined) (fault : SchemaFault) → index_of state.definitions name ≡ Some old
    → extended old.def fields ≡ Err fault → written ≡ spelling (Fault (schema_refusal fault)) → Does (AlterIndex name fields) number state written state
alter-stays name fields number state written old fault there is said =
    gives (AlterIndex name fields) number state (answered (Fault (schema_refusal fault)) state) written state
    (sym (ap (λ (i : Option Defined). altered i fields state) there ∙ ap (λ (r : Result IndexDef SchemaFault). altered_to old.failures r state) is)) said refl

pub alter-fault : (name : List ℕ) (fields : List Field) (number : ℕ) (state : State) (written : List ℕ) (old : Defined) (fault : SchemaFault) → index_of state.definitions name ≡ Some old
    → IsFaultOf fault (extended old.def fields) → written ≡ spelling (Fault (schema_refusal fault)) → Does (AlterIndex name fields) number state written state
alter-fault name fields number state written old schema.NoMemory there is said = wants (AlterIndex name fields) number state written tt said
alter-fault name fields number state written old (schema.BadOption at) there is said = alter-stays name fields number state written old (schema.BadOption at) there is said
alter-fault name fields number state written old (schema.BadKind at) there is said = alter-stays name fields number state written old (schema.BadKind at) there is said
alter-fault name fields number state written old (schema.DuplicateField at) there is said = alter-stays name fields number state written old (schema.DuplicateField at) there is said
alter-fault name fields number state written old (schema.TooManyFields at) there is said = alter-stays name fields number state written old (schema.TooManyFields at) there is said
alter-fault name fields number state written old (schema.BadNumber at) there is said = alter-stays name fields number state written old (schema.BadNumber at) there is said
alter-fault name fields number state written old (schema.OutOfScope at) there is said = alter-stays name fields number state written old (schema.OutOfScope at) there is said

-- where they are added
pub alter-done : (name : List ℕ) (fields : List Field) (number : ℕ) (state : State) (written : List ℕ) (old : Defined) (index : Index) → index_of state.definitions name ≡ Some old
    → extended old.def fields ≡ Ok index.def → index.failures ≡ failures_over index.def state.space old.failures → written ≡ spelling (Line (codes "OK"))
    → Does (AlterIndex name fields) number state written (record state { definitions = with_index state.definitions (defined index) })
alter-done name fields number state written old index there is counted said =
    gives (AlterIndex name fields) number state (defines (with_index state.definitions (index_over index.def state.space old.failures)) state) written (record state { definitions = with_index state.definitions (defined index) })
    (sym (ap (λ (i : Option Defined). altered i fields state) there ∙ ap (λ (r : Result IndexDef SchemaFault). altered_to old.failures r state) is)) said
    (ap (λ (d : Defined). record state { definitions = with_index state.definitions d }) (same-defined index index.def (failures_over index.def state.space old.failures) refl counted))

or-right : (a b : Bool) → (a || b) ≡ false → b ≡ false
or-right true b none = cc (none)
or-right false b none = none

-- what more fields leave
pub record Grows (def : IndexDef) (fields : List Field) (made : IndexDef) : Type 0 where
  pub name : made.name ≡ def.name
  pub number : length made.fields ≡ length def.fields + length fields
  pub few : length made.fields ≤ 1024

pub extended-grows : (def : IndexDef) (fields : List Field) (made : IndexDef) → extended def fields ≡ Ok made → Grows def fields made
unfolding extended
extended-grows def fields made is = by_tests (has_any_alias def.fields fields) (is_over def.fields fields) refl is
  where
    by_tests : (twice over : Bool) → is_over def.fields fields ≡ over
        → cond twice (Err (schema.DuplicateField 5)) (cond over (Err (schema.TooManyFields 5)) (Ok (record def { fields = def.fields ++ fields }))) ≡ Ok made → Grows def fields made
    by_tests true over within is = cc (is)
    by_tests false true within is = cc (is)
    by_tests false false within is =
        let same : record def { fields = def.fields ++ fields } ≡ made = cc (is) in
        let all : length made.fields ≡ length def.fields + length fields = ap (λ (d : IndexDef). length d.fields) (sym same) ∙ length-append def.fields fields in
        let short : nat_lt 1024 (length def.fields + length fields) ≡ false = or-right _ (nat_lt 1024 (length def.fields + length fields)) within in
        record { name = ap (λ (d : IndexDef). d.name) (sym same); number = all; few = grind (arith, nat_tests, short, all) }

found-named : (indexes : List Index) (name : List ℕ) (index : Index) → find (is_named name) indexes ≡ Some index → is_named name index ≡ true
found-named [] name index found = cc (found)
found-named (first ∷ indexes) name index found = by_test (is_named name first) refl found (found-named indexes name index)
  where
    by_test : (here : Bool) → is_named name first ≡ here → cond here (Some first) (find (is_named name) indexes) ≡ Some index → (find (is_named name) indexes ≡ Some index → is_named name index ≡ true) → is_named name index ≡ true
    by_test true test found later = let same : first ≡ index = cc (found) in subst (λ (i : Index). is_named name i ≡ true) same test
    by_test false test found later = later found

-- an index with more fields has more than the one whose place it takes
pub alter-more : (indexes all : List Index) (name : List ℕ) (fields : List Field) (old made : Index) → all ≡ indexes → Some old ≡ find (is_named name) indexes → 0 < length fields → extended old.def fields ≡ Ok made.def
    → HasMore (index_of (definitions_of all) made.def.name) made
alter-more indexes all name fields old made same found some is =
    let grows = extended-grows old.def fields made.def is in
    let named : name ≡ made.def.name = (bytes_eq-Decides name old.def.name).0 (found-named indexes name old (sym found)) ∙ sym grows.name in
    let there : index_of (definitions_of all) made.def.name ≡ Some (defined old) = ap (index_of (definitions_of all)) (sym named) ∙ named-some indexes (definitions_of all) name old (ap definitions_of same) found in
    subst (λ (d : Option Defined). HasMore d made) (sym there) (omega (arith, some, grows.number))

-- a definition that is read elsewhere is extended alike
extended-as : (read def made new : IndexDef) (fields : List Field) → read ≡ def → extended read fields ≡ Ok made → new ≡ made → extended def fields ≡ Ok new
extended-as read def made new fields same is to = subst (λ (d : IndexDef). extended d fields ≡ Ok new) same (subst (λ (m : IndexDef). extended read fields ≡ Ok m) (sym to) is)

-- few fields are declared where a definition was extended
pub extended-few : (read def made : IndexDef) (fields : List Field) → read ≡ def → extended read fields ≡ Ok made → length made.fields ≤ 1024
extended-few read def made fields same is = (extended-grows def fields made (extended-as read def made made fields same is refl)).few

-- FT.ALTER is prepared once an index of the extended definition is made.
pub alter-prepares : (name : List ℕ) (fields : List Field) (old new : Holding) (index made : Index) (read def : IndexDef) (count : ℕ) (written : List ℕ) → Some index ≡ find (is_named name) old.indexes → 0 < length fields
    → read ≡ index.def → extended read fields ≡ Ok def → count ≡ index.failures → IsMade def count made old new → Stays old new → new.indexes ≡ old.indexes → written ≡ spelling (Line (codes "OK"))
    → Prepares (AlterIndex name fields) old new written (Alter made)
alter-prepares name fields old new index made read def count written found some reads is counted done stays same said =
    let all : extended index.def fields ≡ Ok made.def = extended-as read index.def def made.def fields reads is done.same in
    let failed : made.failures ≡ failures_over made.def old.space index.failures =
    done.failures ∙ (ap (λ (d : IndexDef). failures_over d old.space count) (sym done.same) ∙ ap (failures_over made.def old.space) counted) in
    record {
      does = alter-done name fields old.next (state_of old) written (defined index) made (named-some old.indexes (definitions_of old.indexes) name index refl found) all failed said;
      stays = stays;
      ready = (
        alter-more old.indexes new.indexes name fields index made same found some all,
        done.stands,
        subst (All (AreApart made)) (sym same) done.apart,
        done.given,
      );
      enters = inr (inl same);
    }

-- FT.DROPINDEX
pub drop-unknown : (args : List (List ℕ)) (number : ℕ) (state : State) (written : List ℕ) → is_some (index_of state.definitions (first args)) ≡ false → written ≡ spelling (Fault unknown_index)
    → Does (Plain DropIndex args) number state written state
drop-unknown args number state written none said =
    gives (Plain DropIndex args) number state (answered (Fault unknown_index) state) written state (by_index (index_of state.definitions (first args)) none) said refl
  where
    by_index : (index : Option Defined) → is_some index ≡ false → answered (Fault unknown_index) state ≡ dropped index (first args) (drop 1 args) state
    by_index None none = refl
    by_index (Some index) none = cc (none)

-- the state without an index and its cursors
abbrev pub dropped_state : List ℕ → State → State
dropped_state name state = record state {
  definitions = without_index state.definitions name;
  cursors = without_cursors_of (index_of state.definitions name) state.cursors;
}

-- and without its members too
abbrev pub dropped_members : List ℕ → State → State
dropped_members name state = record state {
  space = without_members (index_of state.definitions name) state.space;
  definitions = without_index state.definitions name;
  cursors = without_cursors_of (index_of state.definitions name) state.cursors;
}

pub drop-one : (args : List (List ℕ)) (number : ℕ) (state : State) (written name : List ℕ) → is_some (index_of state.definitions (first args)) ≡ true → length args ≡ 1 → name ≡ first args → written ≡ spelling (Line (codes "OK"))
    → Does (Plain DropIndex args) number state written (dropped_state name state)
drop-one [] number state written name there one is said = absurd (omega (arith, one))
drop-one (word ∷ []) number state written name there one is said = by_index (index_of state.definitions word) refl there
  where
    by_index : (index : Option Defined) → index_of state.definitions word ≡ index → is_some index ≡ true → Does (Plain DropIndex (word ∷ [])) number state written (dropped_state name state)
    by_index None found there = cc (there)
    by_index (Some index) found there =
        gives (Plain DropIndex (word ∷ [])) number state (undefines index word state) written (dropped_state name state)
        (sym (ap (λ (i : Option Defined). dropped i word [] state) found)) said
        (ap (λ (w : List ℕ). dropped_state w state) is
        ∙ ap (λ (i : Option Defined). record state { definitions = without_index state.definitions word; cursors = without_cursors_of i state.cursors }) found)
drop-one (word ∷ more ∷ args) number state written name there one is said = absurd (omega (arith, one))

pub drop-two : (args : List (List ℕ)) (number : ℕ) (state : State) (written name : List ℕ) → is_some (index_of state.definitions (first args)) ≡ true → 2 ≤ length args → name ≡ first args → written ≡ spelling (Line (codes "OK"))
    → Does (Plain DropIndex args) number state written (dropped_members name state)
drop-two [] number state written name there two is said = absurd (omega (arith, two))
drop-two (word ∷ []) number state written name there two is said = absurd (omega (arith, two))
drop-two (word ∷ how ∷ args) number state written name there two is said = by_index (index_of state.definitions word) refl there
  where
    by_index : (index : Option Defined) → index_of state.definitions word ≡ index → is_some index ≡ true
        → Does (Plain DropIndex (word ∷ how ∷ args)) number state written (dropped_members name state)
    by_index None found there = cc (there)
    by_index (Some index) found there =
        gives (Plain DropIndex (word ∷ how ∷ args)) number state (undefines index word (record state { space = without_members (Some index) state.space })) written (dropped_members name state)
        (sym (ap (λ (i : Option Defined). dropped i word (how ∷ args) state) found)) said
        (ap (λ (w : List ℕ). dropped_members w state) is
        ∙ ap (λ (i : Option Defined). record state { space = without_members i state.space; definitions = without_index state.definitions word; cursors = without_cursors_of i state.cursors }) found)

-- FT._LIST
pub names-fit : (definitions : List Defined) (names : List Reply) → names ≡ map name_bulk definitions → IsTrue (fits_wire (Array names))
names-fit definitions names is = subst (λ (rs : List Reply). IsTrue (fits_wire (Array rs))) (sym is) (shown-fits name_bulk definitions (λ index. fits-Bulk index.def.name))

pub list-told : {E : Type 0} (args : List (List ℕ)) (indexes : List Index) (number : ℕ) (state : State) (written : List ℕ) (made : Result Reply E) → state.definitions ≡ definitions_of indexes
    → IfOk made (λ reply. reply ≡ listed (definitions_of indexes)) → Told made written → Does (Plain ListIndexes args) number state written state
list-told args indexes number state written made same is said =
    told (Plain ListIndexes args) number state written made tt
    (IfOk-weaker made _ _ (λ reply listing. ap (λ (r : Reply). answered r state) (listing ∙ ap listed (sym same))) is) said

-- FT.TAGVALS
pub tags-fit : (tags : List Reply) (values : List (List ℕ)) → tags ≡ map Bulk values → IsTrue (fits_wire (Array tags))
tags-fit tags values is = subst (λ (rs : List Reply). IsTrue (fits_wire (Array rs))) (sym is) (shown-fits Bulk values fits-Bulk)

pub tags-unknown : (args : List (List ℕ)) (number : ℕ) (state : State) (written : List ℕ) → index_of state.definitions (first args) ≡ None → written ≡ spelling (Fault unknown_index)
    → Does (Plain TagVals args) number state written state
tags-unknown args number state written none said =
    gives (Plain TagVals args) number state (answered (Fault unknown_index) state) written state (sym (ap (λ (i : Option Defined). answered (tag_vals i (second args) state.space) state) none)) said refl

pub tags-no_field : (args : List (List ℕ)) (number : ℕ) (state : State) (written : List ℕ) (index : Defined) → index_of state.definitions (first args) ≡ Some index → tag_field index.def.fields (second args) ≡ None
    → written ≡ spelling (Fault (codes "Unknown field at word 2")) → Does (Plain TagVals args) number state written state
tags-no_field args number state written index there none said =
    gives (Plain TagVals args) number state (answered (Fault (codes "Unknown field at word 2")) state) written state
    (sym (ap (λ (i : Option Defined). answered (tag_vals i (second args) state.space) state) there ∙ ap (λ (f : Option Field). answered (tags_reply f index.def state.space) state) none)) said refl

pub tags-told : {E : Type 0} (args : List (List ℕ)) (number : ℕ) (state : State) (written : List ℕ) (index : Defined) (field : Field) (made : Result Reply E) → index_of state.definitions (first args) ≡ Some index
    → tag_field index.def.fields (second args) ≡ Some field → IfOk made (λ reply. reply ≡ tags_reply (Some field) index.def state.space) → Told made written → Does (Plain TagVals args) number state written state
tags-told args number state written index field made there here is said =
    told (Plain TagVals args) number state written made tt
    (IfOk-weaker made _ _ (λ reply tags. ap (λ (r : Reply). answered r state) tags
    ∙ sym (ap (λ (i : Option Defined). answered (tag_vals i (second args) state.space) state) there ∙ ap (λ (f : Option Field). answered (tags_reply f index.def state.space) state) here)) is) said
