-- What each command leaves of the order of ids and serials, and of a cursor that it does not read.
use Rattle.std.proofs.Common.{◌≡◌, inl, inr, ℕ, ℤ, ◌<◌, ◌≤◌, ◌+◌, ◌+ℤ◌, Bool, true, false, cond, nat_le, nat_lt, List, [], ◌∷◌, ◌++◌, length, drop, filter, map, is_some, unwrap_or, Option, Some, None, Result, Ok, Err, refl, sym, ap, subst, ◌∙◌, arith}
use Rattle.std.specs.List.{AllByRecursion}
use Rattle.std.specs.Str.{bytes_eq}
use Rattle.std.proofs.lemmas.Slice.Eq.{bytes_eq-Decides}
use Rattle.cmd_parse.specs.Aggregating.{Aggregating}
use Rattle.cmd_parse.specs.Asked.{Asked, Plain, CreateIndex, AlterIndex, Search, Aggregate, CursorRead, CursorDel}
use Rattle.cmd_parse.specs.Lawful.{HasSerial}
use Rattle.cmd_parse.specs.declared.aggregate_words.CursorSpec.{CursorSpec}
use Rattle.cmd_parse.specs.declared.command.Verb.{Verb}
use Rattle.cmd_parse.specs.declared.command.Verb.TheVariants.{Ping, Echo, Select, Quit, Hset, Hsetnx, Hget, Hmget, Hgetall, Hdel, Hlen, Hexists, Hincrby, Hkeys, Hvals, Del, Exists, TypeOf, Dbsize, Rename, Flushall, DropIndex, ListIndexes, Info, TagVals, Debug}
use Rattle.cursor_book.specs.Cursors.{body_left, cursor_of, cursor_read as read_cursor, cursors_of, is_cursor, read_one}
use Rattle.cursor_book.specs.declared.cursor.Cursor.{Cursor}
use Rattle.cursor_book.specs.declared.cursor.Taken.{Taken}
use Rattle.ft_base.specs.Hash.{Hash, get_field}
use Rattle.ft_base.specs.Number.{int_of, is_i64}
use Rattle.ft_base.specs.Space.{doc_of, erase}
use Rattle.ft_base.specs.Words.{first, second, third}
use Rattle.ft_base.specs.declared.definition.Field.{Field}
use Rattle.ft_base.specs.declared.definition.IndexDef.{IndexDef}
use Rattle.ft_base.specs.Docs.{Doc}
use Rattle.ft_base.specs.declared.query.Param.{Param}
use Rattle.ft_base.specs.declared.query.Query.{Query}
use Rattle.ft_base.specs.declared.reply.Reply.{Reply}
use Rattle.ft_schema.specs.Schema.{extended, has_any_alias, is_over}
use Rattle.ft_schema.specs.declared.fault.SchemaFault.{SchemaFault}
use Rattle.ft_schema.specs.declared.fault.SchemaFault.TheVariants.{DuplicateField, TooManyFields}
use Rattle.ft_machine.specs.Answering.{query_gives, queried}
use Rattle.ft_machine.specs.Cursors.{cursor_deleted, cursor_read, deleted_of, read_gives, read_of}
use Rattle.ft_machine.specs.Definitions.{Defined, index_of, member_keys, tried, with_index, without_index, without_keys}
use Rattle.ft_machine.specs.Indexes.{altered, altered_to, created, dropped, index_over, most_indexes}
use Rattle.ft_machine.specs.Info.{informed}
use Rattle.ft_machine.specs.Machine.{Outcome, State, answered, hash_of}
use Rattle.ft_machine.specs.Opening.{aggregate_gives, body_of, kept, most_cursors, new_cursor}
use Rattle.ft_machine.specs.Parts.{Part, part_of}
use Rattle.ft_machine.specs.PlainCommands.{plain}
use Rattle.ft_machine.specs.Step.{given}
use Rattle.ft_machine.specs.Writes.{hash_left, hincrby, hset_unless, number_in, put, rename, without_fields}
use Rattle.cursor_law.specs.StreamCursor.{StreamCursor}
use Rattle.cursor_law.proofs.CursorLaws.{IsAt, Left, filter-leaves, push-leaves}
use Rattle.cursor_law.proofs.ListLaws.{Up, all-filter, all-map, all-push, up-higher, up-lower, up-push}
use Rattle.cursor_law.proofs.ReadLaws.{DocsUp, doc_id}

abbrev pub serial_of : Defined → ℕ
serial_of index = index.def.serial

abbrev pub Below : ℕ → Cursor → Type 0
Below number cursor = cursor.id < number

-- Ids and serials are numbers of events before this one, and rise.
pub record Sound (number : ℕ) (state : State) : Type 0 where
  pub first : 1 ≤ number
  pub docs : DocsUp 1 number state.space
  pub serials : Up serial_of 0 number state.definitions
  pub ids : AllByRecursion (Below number) state.cursors

-- ---- documents

up-erase : (low high : ℕ) (docs : List Doc) (key : List ℕ) → DocsUp low high docs → DocsUp low high (erase docs key)
up-erase low high [] key u = tt
up-erase low high (doc ∷ docs) key u = pick (bytes_eq key doc.key) (up-erase (doc.id + 1) high docs key u.2)
  where
    pick : (b : Bool) → DocsUp (doc.id + 1) high (erase docs key) → DocsUp low high (cond b docs (doc ∷ erase docs key))
    pick true more = up-lower doc_id low (doc.id + 1) high docs (omega (arith, u.0)) u.2
    pick false more = (u.0, u.1, more)

up-without : (low high : ℕ) (docs : List Doc) (keys : List (List ℕ)) → DocsUp low high docs → DocsUp low high (without_keys docs keys)
up-without low high docs [] u = u
up-without low high docs (key ∷ keys) u = up-without low high (erase docs key) keys (up-erase low high docs key u)

-- ---- definitions

up-tried : (doc : Doc) (low high : ℕ) (indexes : List Defined) → Up serial_of low high indexes → Up serial_of low high (map (tried doc) indexes)
up-tried doc low high [] u = tt
up-tried doc low high (index ∷ indexes) u = (u.0, u.1, up-tried doc (index.def.serial + 1) high indexes u.2)

up-dropped : (low high : ℕ) (indexes : List Defined) (name : List ℕ) → Up serial_of low high indexes → Up serial_of low high (without_index indexes name)
up-dropped low high [] name u = tt
up-dropped low high (index ∷ indexes) name u = pick (bytes_eq name index.def.name) (up-dropped (index.def.serial + 1) high indexes name u.2)
  where
    pick : (b : Bool) → Up serial_of (index.def.serial + 1) high (without_index indexes name) → Up serial_of low high (cond b indexes (index ∷ without_index indexes name))
    pick true more = up-lower serial_of low (index.def.serial + 1) high indexes (omega (arith, u.0)) u.2
    pick false more = (u.0, u.1, more)

named : (indexes : List Defined) (name : List ℕ) (index : Defined) → index_of indexes name ≡ Some index → bytes_eq name index.def.name ≡ true
named [] name index is = absurd (let bad : ⊥ = cc in bad)
named (x ∷ indexes) name index is = pick (bytes_eq name x.def.name) refl is (named indexes name index)
  where
    pick : (b : Bool) → bytes_eq name x.def.name ≡ b → cond b (Some x) (index_of indexes name) ≡ Some index → (index_of indexes name ≡ Some index → bytes_eq name index.def.name ≡ true)
        → bytes_eq name index.def.name ≡ true
    pick true e it again = let same : x ≡ index = cc in subst (λ (i : Defined). bytes_eq name i.def.name ≡ true) same e
    pick false e it again = again it

up-with : (low high : ℕ) (indexes : List Defined) (index new : Defined) → index_of indexes new.def.name ≡ Some index → new.def.serial ≡ index.def.serial
    → Up serial_of low high indexes → Up serial_of low high (with_index indexes new)
up-with low high [] index new is same u = tt
up-with low high (x ∷ indexes) index new is same u = pick (bytes_eq new.def.name x.def.name) is (λ it. up-with (x.def.serial + 1) high indexes index new it same u.2)
  where
    pick : (b : Bool) → cond b (Some x) (index_of indexes new.def.name) ≡ Some index → (index_of indexes new.def.name ≡ Some index → Up serial_of (x.def.serial + 1) high (with_index indexes new))
        → Up serial_of low high (cond b (new ∷ indexes) (x ∷ with_index indexes new))
    pick true it again =
        let here : x ≡ index = cc in
        let serial : new.def.serial ≡ x.def.serial = same ∙ sym (ap serial_of here) in
        (omega (arith, u.0, serial), omega (arith, u.1, serial), up-lower serial_of (new.def.serial + 1) (x.def.serial + 1) high indexes (omega (arith, serial)) u.2)
    pick false it again = (u.0, u.1, again it)

-- ---- cursors

below-read : (number serial id now : ℕ) (taken : Taken) (cursors : List Cursor) → AllByRecursion (Below number) cursors → AllByRecursion (Below number) (map (read_one serial id now taken) cursors)
below-read number serial id now taken [] all = tt
below-read number serial id now taken (c ∷ cursors) all = (pick (is_cursor serial id c), below-read number serial id now taken cursors all.1)
  where
    pick : (b : Bool) → Below number (cond b (read_cursor now taken c) c)
    pick true = all.0
    pick false = all.0

below-more : (number : ℕ) (cursors : List Cursor) → AllByRecursion (Below number) cursors → AllByRecursion (Below (number + 1)) cursors
below-more number cursors all = all-map (Below number) (Below (number + 1)) (λ c lt. omega (arith, lt)) cursors all

pub older : (number : ℕ) (state : State) → Sound number state → Sound (number + 1) state
older number state s = record {
  first = omega (arith, s.first);
  docs = up-higher doc_id 1 number (number + 1) state.space (omega arith) s.docs;
  serials = up-higher serial_of 0 number (number + 1) state.definitions (omega arith) s.serials;
  ids = below-more number state.cursors s.ids;
}

-- a command at an event's number keeps the order, and leaves the cursor as it was or gone
pub record Kept (cursor : StreamCursor) (number : ℕ) (old after : State) : Type 0 where
  pub sound : Sound number old → Sound (number + 1) after
  pub leaves : (at : Option ℕ) → cursor.id < number → IsAt cursor old.cursors at → Left cursor after.cursors at

module _ (cursor : StreamCursor) (number : ℕ) (state : State) where
  abbrev Keeps : State → Type 0
  Keeps after = Kept cursor number state after

  pub same-kept : Keeps state
  same-kept = record { sound = older number state; leaves = λ at lt is. inl is }

  by : (made outcome : Outcome) → outcome ≡ made → Keeps made.after → Keeps outcome.after
  by made outcome e k = subst (λ (o : Outcome). Keeps o.after) (sym e) k

  told : (reply : Reply) (outcome : Outcome) → outcome ≡ answered reply state → Keeps outcome.after
  told reply outcome e = by (answered reply state) outcome e same-kept

  spaced : (space : List Doc) → (DocsUp 1 number state.space → DocsUp 1 number space) → Keeps (record state { space = space })
  spaced space up = record {
    sound = λ s. older number (record state { space = space }) (record { first = s.first; docs = up s.docs; serials = s.serials; ids = s.ids });
    leaves = λ at lt is. inl is;
  }

  put-kept : (key : List ℕ) (hash : Hash) → Keeps (put key hash number state)
  put-kept key hash = record {
    sound = λ s. record {
      first = omega (arith, s.first);
      docs = up-push doc_id 1 number (erase state.space key) (record { id = number; key = key; hash = hash }) s.first refl (up-erase 1 number state.space key s.docs);
      serials = up-higher serial_of 0 number (number + 1) _ (omega arith) (up-tried (record { id = number; key = key; hash = hash }) 0 number state.definitions s.serials);
      ids = below-more number state.cursors s.ids;
    };
    leaves = λ at lt is. inl is;
  }

  unless-kept : (there : Bool) (args : List (List ℕ)) → Keeps (hset_unless there args number state).after
  unless-kept true args = same-kept
  unless-kept false args = put-kept _ _

  left-kept : (less : Bool) (left : Hash) (key : List ℕ) → Keeps (hash_left less left key number state)
  left-kept false left key = same-kept
  left-kept true [] key = spaced (erase state.space key) (up-erase 1 number state.space key)
  left-kept true (field ∷ fields) key = put-kept key (field ∷ fields)

  added-kept : (fits : Bool) (made refused : Outcome) → Keeps made.after → Keeps refused.after → Keeps (cond fits made refused).after
  added-kept true made refused k l = k
  added-kept false made refused k l = l

  incremented-kept : (old by : Option ℤ) (args : List (List ℕ)) → Keeps (hincrby old by args number state).after
  incremented-kept old None args = same-kept
  incremented-kept None (Some by) args = same-kept
  incremented-kept (Some old) (Some by) args = added-kept (is_i64 (old +ℤ by)) _ _ (put-kept _ _) same-kept

  moved-kept : (from to : List ℕ) (hash : Hash) → let moved = put to hash number state in Keeps (record moved { space = erase moved.space from })
  moved-kept from to hash =
      let moved = put to hash number state in
      let k = put-kept to hash in
      record {
        sound = λ s. let n = k.sound s in record { first = n.first; docs = up-erase 1 (number + 1) moved.space from n.docs; serials = n.serials; ids = n.ids };
        leaves = k.leaves;
      }

  renamed-kept : (doc : Option Doc) (from to : List ℕ) → Keeps (rename doc from to number state).after
  renamed-kept None from to = same-kept
  renamed-kept (Some doc) from to = added-kept (bytes_eq from to) _ _ same-kept (moved-kept from to doc.hash)

  undefined-kept : (index : Defined) (name : List ℕ) (space : List Doc) → (DocsUp 1 number state.space → DocsUp 1 number space)
      → Keeps (record state { space = space; definitions = without_index state.definitions name; cursors = Rattle.cursor_book.specs.Cursors.without_index index.def.serial state.cursors })
  undefined-kept index name space up = record {
    sound = λ s. older number _ (record { first = s.first; docs = up s.docs; serials = up-dropped 0 number state.definitions name s.serials; ids = all-filter (Below number) _ state.cursors s.ids });
    leaves = λ at lt is. filter-leaves cursor _ state.cursors at is;
  }

  dropped-kept : (index : Option Defined) (name : List ℕ) (how : List (List ℕ)) → Keeps (dropped index name how state).after
  dropped-kept None name how = same-kept
  dropped-kept (Some index) name [] = undefined-kept index name state.space (λ u. u)
  dropped-kept (Some index) name (word ∷ how) = undefined-kept index name _ (up-without 1 number state.space (member_keys index.def state.space))

  informed-kept : (index : Option Defined) (outcome : Outcome) → informed index state outcome → Keeps outcome.after
  informed-kept None outcome e = told _ outcome e
  informed-kept (Some index) outcome e = subst Keeps (sym e.1) same-kept

  flushed-kept : Keeps (record state { space = []; definitions = []; cursors = [] })
  flushed-kept = record {
    sound = λ s. record { first = omega (arith, s.first); docs = tt; serials = tt; ids = tt };
    leaves = λ at lt is. inr refl;
  }

  plain-kept : (verb : Verb) (args : List (List ℕ)) (outcome : Outcome) → plain verb args number state outcome → Keeps outcome.after
  plain-kept Ping [] o e = told _ o e
  plain-kept Ping (message ∷ args) o e = told _ o e
  plain-kept Echo args o e = told _ o e
  plain-kept Select args o e = told _ o e
  plain-kept Quit args o e = told _ o e
  plain-kept Hget args o e = told _ o e
  plain-kept Hmget args o e = told _ o e
  plain-kept Hgetall args o e = told _ o e
  plain-kept Hkeys args o e = told _ o e
  plain-kept Hvals args o e = told _ o e
  plain-kept Hlen args o e = told _ o e
  plain-kept Hexists args o e = told _ o e
  plain-kept Exists args o e = told _ o e
  plain-kept TypeOf args o e = told _ o e
  plain-kept Dbsize args o e = told _ o e
  plain-kept ListIndexes args o e = told _ o e
  plain-kept TagVals args o e = told _ o e
  plain-kept Debug args o e = told _ o e
  plain-kept Hset args o e = by _ o e (put-kept _ _)
  plain-kept Hsetnx args o e = by _ o e (unless-kept (is_some (get_field (hash_of state (first args)) (second args))) args)
  plain-kept Hdel args o e =
      let old = hash_of state (first args) in let left = without_fields old (drop 1 args) in
      by _ o e (left-kept (nat_lt (length left) (length old)) left (first args))
  plain-kept Hincrby args o e = by _ o e (incremented-kept (number_in (get_field (hash_of state (first args)) (second args))) (int_of (third args)) args)
  plain-kept Rename args o e = by _ o e (renamed-kept (doc_of state.space (first args)) (first args) (second args))
  plain-kept Del args o e = by _ o e (spaced (without_keys state.space args) (up-without 1 number state.space args))
  plain-kept DropIndex args o e = by _ o e (dropped-kept (index_of state.definitions (first args)) (first args) (drop 1 args))
  plain-kept Flushall args o e = by _ o e flushed-kept
  plain-kept Info args o e = informed-kept (index_of state.definitions (first args)) o e

  -- ---- the commands of indexes

  created-kept : (index : IndexDef) → index.serial ≡ number → Keeps (created index state).after
  created-kept index is =
      added-kept (is_some (index_of state.definitions index.name)) _ _ same-kept
      (added-kept (nat_le most_indexes (length state.definitions)) _ _ same-kept
      (record {
        sound = λ s. record {
          first = omega (arith, s.first);
          docs = up-higher doc_id 1 number (number + 1) state.space (omega arith) s.docs;
          serials = up-push serial_of 0 number state.definitions (index_over index state.space 0) (omega arith) is s.serials;
          ids = below-more number state.cursors s.ids;
        };
        leaves = λ at lt at_is. inl at_is;
      }))

  -- more fields are in the same index
  extended-same : (def new : IndexDef) (fields : List Field) → extended def fields ≡ Ok new → (new.name ≡ def.name) × (new.serial ≡ def.serial)
  unfolding extended
  extended-same def new fields is = pick (has_any_alias def.fields fields) (is_over def.fields fields) is
    where
      more : IndexDef
      more = record def { fields = def.fields ++ fields }

      Read : Type 0
      Read = Result IndexDef SchemaFault

      ok : (x : IndexDef) (read : Read) → read ≡ Ok new → read ≡ Ok x → x ≡ new
      ok x read e f = cc

      pick : (b c : Bool) → let read : Read = cond b (Err (DuplicateField 5)) (cond c (Err (TooManyFields 5)) (Ok more)) in read ≡ Ok new → (new.name ≡ def.name) × (new.serial ≡ def.serial)
      pick true c e = absurd (let bad : ⊥ = cc in bad)
      pick false true e = absurd (let bad : ⊥ = cc in bad)
      pick false false e = let same = ok more (Ok more) e refl in (sym (ap (λ (d : IndexDef). d.name) same), sym (ap (λ (d : IndexDef). d.serial) same))

  altered_to-kept : (name : List ℕ) (index : Defined) (read : Result IndexDef SchemaFault) → index_of state.definitions name ≡ Some index
      → ((new : IndexDef) → read ≡ Ok new → (new.name ≡ index.def.name) × (new.serial ≡ index.def.serial)) → Keeps (altered_to index.failures read state).after
  altered_to-kept name index (Err fault) there same = same-kept
  altered_to-kept name index (Ok new) there same =
      let is = same new refl in
      let mine : name ≡ new.name = (bytes_eq-Decides name index.def.name).0 (named state.definitions name index there) ∙ sym is.0 in
      record {
        sound = λ s. older number _ (record {
          first = s.first;
          docs = s.docs;
          serials = up-with 0 number state.definitions index (index_over new state.space index.failures) (subst (λ (n : List ℕ). index_of state.definitions n ≡ Some index) mine there) is.1 s.serials;
          ids = s.ids;
        });
        leaves = λ at lt at_is. inl at_is;
      }

  altered-kept : (name : List ℕ) (found : Option Defined) (fields : List Field) → index_of state.definitions name ≡ found → Keeps (altered found fields state).after
  altered-kept name None fields there = same-kept
  altered-kept name (Some index) fields there = altered_to-kept name index (extended index.def fields) there (λ new e. extended-same index.def new fields e)

  answer-kept : (gives : Query → Outcome) (answer : Result Query _) → ((query : Query) → Keeps (gives query).after) → Keeps (query_gives gives state answer).after
  answer-kept gives (Ok query) k = k query
  answer-kept gives (Err fault) k = same-kept

  queried-kept : (index : Option Defined) (params : List Param) (query : List ℕ) (gives : IndexDef → Query → Outcome) (outcome : Outcome)
      → ((def : IndexDef) (query : Query) → Keeps (gives def query).after) → queried index params query gives state outcome → Keeps outcome.after
  queried-kept None params query gives outcome k e = told _ outcome e
  queried-kept (Some index) params query gives outcome k e = by _ outcome e.same (answer-kept (gives index.def) e.answer (k index.def))

  pushed-kept : (new : Cursor) → new.id ≡ number → Keeps (record state { cursors = state.cursors ++ new ∷ [] })
  pushed-kept new is = record {
    sound = λ s. let o = older number state s in record { first = o.first; docs = o.docs; serials = o.serials; ids = all-push (Below (number + 1)) state.cursors new o.ids (omega (arith, is)) };
    leaves = λ at lt at_is. inl (push-leaves cursor new state.cursors at (omega (arith, lt, is)) at_is);
  }

  kept-kept : (serial now : ℕ) (spec : CursorSpec) (body : _) (part : Part) → Keeps (kept number (new_cursor serial spec number now body) part state).after
  kept-kept serial now spec body part = added-kept (nat_le most_cursors (length (cursors_of serial state.cursors))) _ _ same-kept (pushed-kept (new_cursor serial spec number now body) refl)

  aggregate-kept : (what : Aggregating) (spec : Option CursorSpec) (def : IndexDef) (query : Query) → Keeps (aggregate_gives what spec number state def query).after
  aggregate-kept what None def query = same-kept
  aggregate-kept what (Some spec) def query =
      let body = body_of what def query state.space in let part = part_of def state.space spec.count body in
      added-kept part.ends _ _ same-kept (kept-kept def.serial state.latest spec (body_left part.taken body) part)

  -- ---- FT.CURSOR

  filtered-kept : (test : Cursor → Bool) → Keeps (record state { cursors = filter test state.cursors })
  filtered-kept test = record {
    sound = λ s. older number _ (record { first = s.first; docs = s.docs; serials = s.serials; ids = all-filter (Below number) test state.cursors s.ids });
    leaves = λ at lt is. filter-leaves cursor test state.cursors at is;
  }

  deleted_of-kept : (found : Option Cursor) → Keeps (deleted_of found state).after
  deleted_of-kept None = same-kept
  deleted_of-kept (Some c) = filtered-kept _

  deleted-kept : (index : Option Defined) (id : ℕ) → Keeps (cursor_deleted index id state).after
  deleted-kept None id = same-kept
  deleted-kept (Some index) id = deleted_of-kept (cursor_of index.def.serial id state.cursors)

  -- a command that is no read of a cursor keeps it
  abbrev pub KeptBy : Asked → Outcome → Type 0
  KeptBy (CursorRead index id count) outcome = Unit {0}
  KeptBy _ outcome = Keeps outcome.after

  pub given-kept : (asks : Asked) (outcome : Outcome) → HasSerial number asks → given asks number state outcome → KeptBy asks outcome
  given-kept (Plain verb args) o serial e = plain-kept verb args o e
  given-kept (CreateIndex index) o serial e = by _ o e (created-kept index serial)
  given-kept (AlterIndex index fields) o serial e = by _ o e (altered-kept index (index_of state.definitions index) fields refl)
  given-kept (Search what) o serial e = queried-kept _ _ _ _ o (λ def query. same-kept) e
  given-kept (Aggregate what) o serial e = queried-kept _ _ _ _ o (aggregate-kept what what.cursor) e
  given-kept (CursorRead index id count) o serial e = tt
  given-kept (CursorDel index id) o serial e = by _ o e (deleted-kept (index_of state.definitions index) id)

-- a read of any cursor keeps the order
left-sound : (number : ℕ) (state : State) (c : Cursor) (part : Part) → Sound number state → Sound (number + 1) (read_gives c part state).after
left-sound number state c part s = older number _ (record { first = s.first; docs = s.docs; serials = s.serials; ids = pick part.ends })
  where
    pick : (b : Bool) → AllByRecursion (Below number) (cond b (Rattle.cursor_book.specs.Cursors.without c.serial c.id state.cursors) (Rattle.cursor_book.specs.Cursors.read c.serial c.id state.latest part.taken state.cursors))
    pick true = all-filter (Below number) _ state.cursors s.ids
    pick false = below-read number c.serial c.id state.latest part.taken state.cursors s.ids

read_of-sound : (number : ℕ) (state : State) (def : IndexDef) (count : Option ℕ) (found : Option Cursor) → Sound number state → Sound (number + 1) (read_of def count found state).after
read_of-sound number state def count None s = older number state s
read_of-sound number state def count (Some c) s = left-sound number state c (part_of def state.space (unwrap_or count c.count) c.body) s

pub read-sound : (number : ℕ) (state : State) (index : Option Defined) (id : ℕ) (count : Option ℕ) → Sound number state → Sound (number + 1) (cursor_read index id count state).after
read-sound number state None id count s = older number state s
read-sound number state (Some index) id count s = read_of-sound number state index.def count (cursor_of index.def.serial id state.cursors) s
