-- Over a history the serials of indexes rise in order of creation, and are numbers of earlier events.
use Rattle.std.proofs.Common.{◌≡◌, ℕ, ◌<◌, ◌≤◌, ◌+◌, ◌+ℤ◌, min, ℤ, Bool, true, false, cond, nat_le, nat_lt, List, [], ◌∷◌, ◌++◌, length, drop, map, is_some, Option, Some, None, Result, Ok, Err, inl, inr, refl, sym, ap, subst, ◌∙◌, arith, append_assoc, append-nil}
use Rattle.std.specs.Str.{bytes_eq}
use Rattle.std.proofs.lemmas.Slice.Eq.{bytes_eq-Decides}
use Rattle.cmd_parse.specs.Asked.{Asked, Plain, CreateIndex, AlterIndex, Search, Aggregate, CursorRead, CursorDel}
use Rattle.cmd_parse.specs.Lawful.{HasSerial}
use Rattle.cmd_parse.specs.Read.{read}
use Rattle.cmd_parse.specs.declared.command.CmdFault.{CmdFault}
use Rattle.cmd_parse.specs.declared.command.Verb.{Verb}
use Rattle.cmd_parse.specs.declared.command.Verb.TheVariants.{Ping, Echo, Select, Quit, Hset, Hsetnx, Hget, Hmget, Hgetall, Hdel, Hlen, Hexists, Hincrby, Hkeys, Hvals, Del, Exists, TypeOf, Dbsize, Rename, Flushall, DropIndex, ListIndexes, Info, TagVals, Debug}
use Rattle.ft_base.specs.Docs.{Doc}
use Rattle.ft_base.specs.Hash.{Hash, get_field}
use Rattle.ft_base.specs.Number.{int_of, is_i64}
use Rattle.ft_base.specs.Space.{doc_of}
use Rattle.ft_base.specs.Words.{first, second, third}
use Rattle.ft_base.specs.declared.definition.Field.{Field}
use Rattle.ft_base.specs.declared.definition.IndexDef.{IndexDef}
use Rattle.ft_base.specs.declared.query.Param.{Param}
use Rattle.ft_base.specs.declared.query.Query.{Query}
use Rattle.ft_schema.specs.Schema.{extended, has_any_alias, is_over}
use Rattle.ft_schema.specs.declared.fault.SchemaFault.{SchemaFault}
use Rattle.ft_schema.specs.declared.fault.SchemaFault.TheVariants.{DuplicateField, TooManyFields}
use Rattle.history_core.proofs.GrowingLaws.{number_more}
use Rattle.history_core.specs.Entries.{Entry, Exec, Scan, Splice}
use Rattle.history_core.specs.Histories.{Leads}
use Rattle.history_core.specs.Histories as histories
use Rattle.ft_machine.specs.Answering.{query_gives, queried}
use Rattle.ft_machine.specs.Cursors.{cursor_deleted, cursor_read, deleted_of, read_of}
use Rattle.ft_machine.specs.Definitions.{Defined, index_of, tried, with_index, without_index}
use Rattle.ft_machine.specs.History.{MayFollow, Readings}
use Rattle.ft_machine.specs.Indexes.{altered, altered_to, created, dropped, index_over, most_indexes}
use Rattle.ft_machine.specs.Info.{informed}
use Rattle.ft_machine.specs.Machine.{Outcome, State, at_moment, hash_of}
use Rattle.ft_machine.specs.Opening.{aggregate_gives, body_of}
use Rattle.ft_machine.specs.Parts.{part_of}
use Rattle.ft_machine.specs.PlainCommands.{plain}
use Rattle.ft_machine.specs.Step.{Answers, given, last_number, next_number, read_gives, words_give}
use Rattle.ft_machine.specs.Writes.{hash_left, hincrby, hset_unless, number_in, put, rename, without_fields}
use Rattle.cursor_law.proofs.ListLaws.{Up, up-higher, up-lower, up-push}
use Rattle.cursor_law.proofs.SerialLaws.{read-serial}

abbrev serial_of : Defined → ℕ
serial_of index = index.def.serial

-- the serials rise, from a low one on and below a high one
abbrev pub Between : ℕ → ℕ → List Defined → Type 0
Between = Up serial_of

-- they rise, and are below a number
abbrev pub Rise : ℕ → List Defined → Type 0
Rise = Between 0

-- ---- what commands make of definitions

between-tried : (doc : Doc) (low high : ℕ) (indexes : List Defined) → Between low high indexes → Between low high (map (tried doc) indexes)
between-tried doc low high [] rise = tt
between-tried doc low high (index ∷ indexes) rise = (rise.0, rise.1, between-tried doc (index.def.serial + 1) high indexes rise.2)

between-dropped : (low high : ℕ) (indexes : List Defined) (name : List ℕ) → Between low high indexes → Between low high (without_index indexes name)
between-dropped low high [] name rise = tt
between-dropped low high (index ∷ indexes) name rise = by_test (bytes_eq name index.def.name) (between-dropped (index.def.serial + 1) high indexes name rise.2)
  where
    by_test : (here : Bool) → Between (index.def.serial + 1) high (without_index indexes name) → Between low high (cond here indexes (index ∷ without_index indexes name))
    by_test true others = up-lower serial_of low (index.def.serial + 1) high indexes (omega (arith, rise.0)) rise.2
    by_test false others = (rise.0, rise.1, others)

has-name : (indexes : List Defined) (name : List ℕ) (index : Defined) → index_of indexes name ≡ Some index → bytes_eq name index.def.name ≡ true
has-name [] name index there = absurd (let no : ⊥ = cc in no)
has-name (x ∷ indexes) name index there = by_test (bytes_eq name x.def.name) refl there (has-name indexes name index)
  where
    by_test : (here : Bool) → bytes_eq name x.def.name ≡ here → cond here (Some x) (index_of indexes name) ≡ Some index → (index_of indexes name ≡ Some index → bytes_eq name index.def.name ≡ true)
        → bytes_eq name index.def.name ≡ true
    by_test true e is later = let same : x ≡ index = cc in subst (λ (i : Defined). bytes_eq name i.def.name ≡ true) same e
    by_test false e is later = later is

between-with : (low high : ℕ) (indexes : List Defined) (index new : Defined) → index_of indexes new.def.name ≡ Some index → new.def.serial ≡ index.def.serial
    → Between low high indexes → Between low high (with_index indexes new)
between-with low high [] index new there same rise = tt
between-with low high (x ∷ indexes) index new there same rise =
    by_test (bytes_eq new.def.name x.def.name) there (λ is. between-with (x.def.serial + 1) high indexes index new is same rise.2)
  where
    by_test : (here : Bool) → cond here (Some x) (index_of indexes new.def.name) ≡ Some index → (index_of indexes new.def.name ≡ Some index → Between (x.def.serial + 1) high (with_index indexes new))
        → Between low high (cond here (new ∷ indexes) (x ∷ with_index indexes new))
    by_test true is later =
        let one : x ≡ index = cc in
        let serial : new.def.serial ≡ x.def.serial = same ∙ sym (ap (λ (i : Defined). i.def.serial) one) in
        (omega (arith, rise.0, serial), omega (arith, rise.1, serial), up-lower serial_of (new.def.serial + 1) (x.def.serial + 1) high indexes (omega (arith, serial)) rise.2)
    by_test false is later = (rise.0, rise.1, later is)

-- an index with more fields is the same index
extended-same : (def new : IndexDef) (fields : List Field) → extended def fields ≡ Ok new → (new.name ≡ def.name) × (new.serial ≡ def.serial)
unfolding extended
extended-same def new fields is = by_tests (has_any_alias def.fields fields) (is_over def.fields fields) is
  where
    more : IndexDef
    more = record def { fields = def.fields ++ fields }

    Read : Type 0
    Read = Result IndexDef SchemaFault

    ok : (read : Read) → read ≡ Ok new → read ≡ Ok more → more ≡ new
    ok read e f = cc

    by_tests : (twice many : Bool) → let read : Read = cond twice (Err (DuplicateField 5)) (cond many (Err (TooManyFields 5)) (Ok more)) in read ≡ Ok new → (new.name ≡ def.name) × (new.serial ≡ def.serial)
    by_tests true many e = absurd (let no : ⊥ = cc in no)
    by_tests false true e = absurd (let no : ⊥ = cc in no)
    by_tests false false e = let same = ok (Ok more) e refl in (sym (ap (λ (d : IndexDef). d.name) same), sym (ap (λ (d : IndexDef). d.serial) same))

-- A command at an event's number, before which the serials rose: they rise behind it too.
module _ (number : ℕ) (state : State) (rise : Rise number state.definitions) where
  abbrev RiseIn : State → Type 0
  RiseIn after = Rise (number + 1) after.definitions

  same : RiseIn state
  same = up-higher serial_of 0 number (number + 1) state.definitions (omega arith) rise

  by : (made outcome : Outcome) → outcome ≡ made → RiseIn made.after → RiseIn outcome.after
  by made outcome e is = subst (λ (o : Outcome). RiseIn o.after) (sym e) is

  either : (b : Bool) (made other : Outcome) → RiseIn made.after → RiseIn other.after → RiseIn (cond b made other).after
  either true made other is is' = is
  either false made other is is' = is'

  put-rise : (key : List ℕ) (hash : Hash) → RiseIn (put key hash number state)
  put-rise key hash = up-higher serial_of 0 number (number + 1) _ (omega arith) (between-tried (record { id = number; key = key; hash = hash }) 0 number state.definitions rise)

  unless-rise : (there : Bool) (args : List (List ℕ)) → RiseIn (hset_unless there args number state).after
  unless-rise true args = same
  unless-rise false args = put-rise _ _

  left-rise : (less : Bool) (left : Hash) (key : List ℕ) → RiseIn (hash_left less left key number state)
  left-rise false left key = same
  left-rise true [] key = same
  left-rise true (field ∷ fields) key = put-rise key (field ∷ fields)

  incremented-rise : (old by_ : Option ℤ) (args : List (List ℕ)) → RiseIn (hincrby old by_ args number state).after
  incremented-rise old None args = same
  incremented-rise None (Some by_) args = same
  incremented-rise (Some old) (Some by_) args = either (is_i64 (old +ℤ by_)) _ _ (put-rise _ _) same

  renamed-rise : (doc : Option Doc) (from to : List ℕ) → RiseIn (rename doc from to number state).after
  renamed-rise None from to = same
  renamed-rise (Some doc) from to = either (bytes_eq from to) _ _ same (put-rise to doc.hash)

  dropped-rise : (index : Option Defined) (name : List ℕ) (how : List (List ℕ)) → RiseIn (dropped index name how state).after
  dropped-rise None name how = same
  dropped-rise (Some index) name [] = up-higher serial_of 0 number (number + 1) _ (omega arith) (between-dropped 0 number state.definitions name rise)
  dropped-rise (Some index) name (word ∷ how) = up-higher serial_of 0 number (number + 1) _ (omega arith) (between-dropped 0 number state.definitions name rise)

  informed-rise : (index : Option Defined) (outcome : Outcome) → informed index state outcome → RiseIn outcome.after
  informed-rise None outcome e = by _ outcome e same
  informed-rise (Some index) outcome e = subst RiseIn (sym e.1) same

  plain-rise : (verb : Verb) (args : List (List ℕ)) (outcome : Outcome) → plain verb args number state outcome → RiseIn outcome.after
  plain-rise Ping [] o e = by _ o e same
  plain-rise Ping (message ∷ args) o e = by _ o e same
  plain-rise Echo args o e = by _ o e same
  plain-rise Select args o e = by _ o e same
  plain-rise Quit args o e = by _ o e same
  plain-rise Hget args o e = by _ o e same
  plain-rise Hmget args o e = by _ o e same
  plain-rise Hgetall args o e = by _ o e same
  plain-rise Hkeys args o e = by _ o e same
  plain-rise Hvals args o e = by _ o e same
  plain-rise Hlen args o e = by _ o e same
  plain-rise Hexists args o e = by _ o e same
  plain-rise Exists args o e = by _ o e same
  plain-rise TypeOf args o e = by _ o e same
  plain-rise Dbsize args o e = by _ o e same
  plain-rise ListIndexes args o e = by _ o e same
  plain-rise TagVals args o e = by _ o e same
  plain-rise Debug args o e = by _ o e same
  plain-rise Hset args o e = by _ o e (put-rise _ _)
  plain-rise Hsetnx args o e = by _ o e (unless-rise (is_some (get_field (hash_of state (first args)) (second args))) args)
  plain-rise Hdel args o e =
      let old = hash_of state (first args) in let left = without_fields old (drop 1 args) in
      by _ o e (left-rise (nat_lt (length left) (length old)) left (first args))
  plain-rise Hincrby args o e = by _ o e (incremented-rise (number_in (get_field (hash_of state (first args)) (second args))) (int_of (third args)) args)
  plain-rise Rename args o e = by _ o e (renamed-rise (doc_of state.space (first args)) (first args) (second args))
  plain-rise Del args o e = by _ o e same
  plain-rise DropIndex args o e = by _ o e (dropped-rise (index_of state.definitions (first args)) (first args) (drop 1 args))
  plain-rise Flushall args o e = by _ o e tt
  plain-rise Info args o e = informed-rise (index_of state.definitions (first args)) o e

  created-rise : (index : IndexDef) → index.serial ≡ number → RiseIn (created index state).after
  created-rise index is =
      either (is_some (index_of state.definitions index.name)) _ _ same
      (either (nat_le most_indexes (length state.definitions)) _ _ same (up-push serial_of 0 number state.definitions (index_over index state.space 0) (omega arith) is rise))

  altered_to-rise : (name : List ℕ) (index : Defined) (def : Result IndexDef SchemaFault) → index_of state.definitions name ≡ Some index
      → ((new : IndexDef) → def ≡ Ok new → (new.name ≡ index.def.name) × (new.serial ≡ index.def.serial)) → RiseIn (altered_to index.failures def state).after
  altered_to-rise name index (Err fault) there is_same = same
  altered_to-rise name index (Ok new) there is_same =
      let is = is_same new refl in
      let named : name ≡ new.name = (bytes_eq-Decides name index.def.name).0 (has-name state.definitions name index there) ∙ sym is.0 in
      up-higher serial_of 0 number (number + 1) _ (omega arith)
      (between-with 0 number state.definitions index (index_over new state.space index.failures) (subst (λ (n : List ℕ). index_of state.definitions n ≡ Some index) named there) is.1 rise)

  altered-rise : (name : List ℕ) (index : Option Defined) (fields : List Field) → index_of state.definitions name ≡ index → RiseIn (altered index fields state).after
  altered-rise name None fields there = same
  altered-rise name (Some index) fields there = altered_to-rise name index (extended index.def fields) there (λ new e. extended-same index.def new fields e)

  answer-rise : (gives : Query → Outcome) (answer : Result Query _) → ((query : Query) → RiseIn (gives query).after) → RiseIn (query_gives gives state answer).after
  answer-rise gives (Ok query) each = each query
  answer-rise gives (Err fault) each = same

  queried-rise : (index : Option Defined) (params : List Param) (query : List ℕ) (gives : IndexDef → Query → Outcome) (outcome : Outcome)
      → ((def : IndexDef) (query : Query) → RiseIn (gives def query).after) → queried index params query gives state outcome → RiseIn outcome.after
  queried-rise None params query gives outcome each e = by _ outcome e same
  queried-rise (Some index) params query gives outcome each e = by _ outcome e.same (answer-rise (gives index.def) e.answer (each index.def))

  aggregate-rise : (what : _) (spec : Option _) (def : IndexDef) (query : Query) → RiseIn (aggregate_gives what spec number state def query).after
  aggregate-rise what None def query = same
  aggregate-rise what (Some spec) def query =
      let body = body_of what def query state.space in let part = part_of def state.space spec.count body in
      either part.ends _ _ same (either _ _ _ same same)

  read_of-rise : (def : IndexDef) (count : Option ℕ) (cursor : Option _) → RiseIn (read_of def count cursor state).after
  read_of-rise def count None = same
  read_of-rise def count (Some cursor) = same

  read-rise : (index : Option Defined) (id : ℕ) (count : Option ℕ) → RiseIn (cursor_read index id count state).after
  read-rise None id count = same
  read-rise (Some index) id count = read_of-rise index.def count _

  deleted_of-rise : (cursor : Option _) → RiseIn (deleted_of cursor state).after
  deleted_of-rise None = same
  deleted_of-rise (Some cursor) = same

  deleted-rise : (index : Option Defined) (id : ℕ) → RiseIn (cursor_deleted index id state).after
  deleted-rise None id = same
  deleted-rise (Some index) id = deleted_of-rise _

  given-rise : (asks : Asked) (outcome : Outcome) → HasSerial number asks → given asks number state outcome → RiseIn outcome.after
  given-rise (Plain verb args) o serial e = plain-rise verb args o e
  given-rise (CreateIndex index) o serial e = by _ o e (created-rise index serial)
  given-rise (AlterIndex index fields) o serial e = by _ o e (altered-rise index (index_of state.definitions index) fields refl)
  given-rise (Search what) o serial e = queried-rise _ _ _ _ o (λ def query. same) e
  given-rise (Aggregate what) o serial e = queried-rise _ _ _ _ o (aggregate-rise what what.cursor) e
  given-rise (CursorRead index id count) o serial e = by _ o e (read-rise (index_of state.definitions index) id count)
  given-rise (CursorDel index id) o serial e = by _ o e (deleted-rise (index_of state.definitions index) id)

  asked-rise : (words : List (List ℕ)) (name : List ℕ) (asked : Result Asked CmdFault) (outcome : Outcome) → read number words ≡ asked → read_gives name asked number state outcome → RiseIn outcome.after
  asked-rise words name (Ok asks) o is (inl e) = given-rise asks o (read-serial number words asks is) e
  asked-rise words name (Ok asks) o is (inr want) = by _ o want.1 same
  asked-rise words name (Err fault) o is e = by _ o e same

  words-rise : (words : List (List ℕ)) (outcome : Outcome) → words_give words number state outcome → RiseIn outcome.after
  words-rise words o (inl e) = asked-rise words _ (read number words) o refl e
  words-rise words o (inr want) = by _ o want.1 same

-- ---- a history

next-is : (number top : ℕ) → number < top → number + 1 ≡ min (number + 1) top
next-is number top below = omega (arith, below)

next-later : (number top : ℕ) → number ≤ top → number ≤ min (number + 1) top
next-later number top low = omega (arith, low)

cut-below : (n top : ℕ) → min n top ≤ top
cut-below n top = omega arith

answers-rise : (words : List (List ℕ)) (number moment : ℕ) (old : State) (reply : List ℕ) (new : State) → number ≤ last_number → Answers words number moment old reply new
    → Rise number old.definitions → Rise (next_number number) new.definitions
answers-rise words number moment old reply new low (inl x) rise =
    let behind : Rise (number + 1) x.1.outcome.after.definitions = words-rise number (at_moment moment old) rise words x.1.outcome x.1.may in
    subst (λ (n : ℕ). Rise n new.definitions) (next-is number last_number x.0) (subst (λ (s : State). Rise (number + 1) s.definitions) (sym x.1.after) behind)
answers-rise words number moment old reply new low (inr x) rise =
    up-higher serial_of 0 number (next_number number) new.definitions (next-later number last_number low) (subst (λ (s : State). Rise number s.definitions) (sym x.2) rise)

module _ {K N A : Type 0} (readings : Readings K N A) where
  entry-rise : (first_ : ℕ) (before : List (Entry K N A)) (old : State) (entry : Entry K N A) (new : State) → MayFollow readings first_ before old entry new
      → Rise (histories.number first_ before) old.definitions → Rise (histories.number first_ (before ++ entry ∷ [])) new.definitions
  entry-rise first_ before old entry new may rise = subst (λ (n : ℕ). Rise n new.definitions) (number_more first_ before entry) (by_entry entry may)
    where
      here : ℕ
      here = histories.number first_ before

      low : here ≤ last_number
      low = cut-below (first_ + length before) last_number

      still : new ≡ old → Rise (next_number here) new.definitions
      still is = up-higher serial_of 0 here (next_number here) new.definitions (next-later here last_number low) (subst (λ (s : State). Rise here s.definitions) (sym is) rise)

      by_entry : (e : Entry K N A) → MayFollow readings first_ before old e new → Rise (next_number here) new.definitions
      by_entry (Exec caller moment words reply) follows = answers-rise words here moment old reply new low follows.2 rise
      by_entry (Scan caller index result) follows = still follows.0
      by_entry (Splice caller scan name answer) follows = still follows.0

  pub history-rise : (first_ : ℕ) (before : List (Entry K N A)) (old : State) (entries : List (Entry K N A)) (new : State) → Leads (MayFollow readings first_) before old entries new
      → Rise (histories.number first_ before) old.definitions → Rise (histories.number first_ (before ++ entries)) new.definitions
  history-rise first_ before old [] new leads rise =
      subst (λ (l : List (Entry K N A)). Rise (histories.number first_ l) new.definitions) (sym (append-nil before)) (subst (λ (s : State). Rise (histories.number first_ before) s.definitions) leads rise)
  history-rise first_ before old (entry ∷ entries) new leads rise =
      subst (λ (l : List (Entry K N A)). Rise (histories.number first_ l) new.definitions) (append_assoc before (entry ∷ []) entries)
      (history-rise first_ (before ++ entry ∷ []) leads.0 entries new leads.2 (entry-rise first_ before old entry leads.0 leads.1 rise))
