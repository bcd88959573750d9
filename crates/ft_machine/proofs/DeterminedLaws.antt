-- A command that is answered so leads to one state, and has one reply where memory did not run out.
use Rattle.std.specs.Prelude.{◌≡◌, ◌≢◌, ◌<◌, ◌⊎◌, ◌+ℤ◌, ℕ, ℤ, nat_le, length, List, [], ◌∷◌, ◌++◌, Bool, true, false, Option, None, Some, Result, Ok, Err, drop, is_some, slice_index_or, refl, if◌then◌else◌, codes}
use denote.Hole.Carrier.{out}
use Rattle.std.proofs.Common.{sym, ap, subst, ◌∙◌, inl, inr, arith}
use Rattle.ft_base.proofs.SpellingLaws.{spelling-Fault, spelling-Line, spelling-Number}
use Rattle.ft_base.specs.Memory.{out_of_memory, want_of_memory}
use Rattle.ft_base.specs.Hash.{get_field}
use Rattle.ft_base.specs.Number.{int_of, is_i64}
use Rattle.ft_base.specs.Space.{doc_of}
use Rattle.ft_base.specs.Reply.{spelling, spelling_step}
use Rattle.ft_base.specs.declared.reply.Reply.TheFolds.{fold_out-Reply}
use Rattle.ft_base.specs.declared.reply.Reply.TheViews.{out-Reply}
use Rattle.ft_base.specs.declared.definition.Field.{Field}
use Rattle.ft_base.specs.declared.definition.IndexDef.{IndexDef}
use Rattle.ft_base.specs.Docs.{Doc}
use Rattle.ft_base.specs.declared.query.Param.{Param}
use Rattle.ft_base.specs.declared.query.Query.{Query}
use Rattle.ft_base.specs.declared.reply.Reply.{Reply}
use Rattle.ft_base.specs.declared.reply.Reply.TheVariants.{Array, Fault, Line, Number}
use Rattle.std.specs.Str.{bytes_eq}
use Rattle.cmd_parse.specs.Aggregating.{Aggregating}
use Rattle.cmd_parse.specs.Asked.{Asked, Plain, CreateIndex, AlterIndex, Search, Aggregate, CursorRead, CursorDel}
use Rattle.cmd_parse.specs.Read.{read}
use Rattle.cmd_parse.specs.declared.aggregate_words.CursorSpec.{CursorSpec}
use Rattle.cursor_book.specs.Cursors.{body_left, cursor_of, cursors_of}
use Rattle.cursor_book.specs.declared.cursor.Cursor.{Cursor}
use Rattle.cmd_parse.specs.declared.command.CmdFault.{CmdFault}
use Rattle.cmd_parse.specs.declared.command.Verb.{Verb}
use Rattle.cmd_parse.specs.declared.command.Verb.TheVariants.{Ping, Echo, Select, Quit, Hset, Hsetnx, Hget, Hmget, Hgetall, Hdel, Hlen, Hexists, Hincrby, Hkeys, Hvals, Del, Exists, TypeOf, Dbsize, Rename, Flushall, DropIndex, ListIndexes, Info, TagVals, Debug}
use Rattle.query_lex.specs.Lexemes.{lexemes}
use Rattle.query_lex.specs.declared.fault.LexFault.{LexFault}
use Rattle.query_lex.specs.declared.lexeme.Lexeme.{Lexeme}
use Rattle.query_grammar.specs.Answer.{Answers as Told, IsFault, IsMeaning, lex_place}
use Rattle.query_grammar.specs.declared.fault.QueryFault.{QueryFault}
use Rattle.query_grammar.specs.declared.fault.QueryFault.TheVariants.{Syntax, UnknownField, WrongKind, NoParam, TooDeep, OutOfScope, NoMemory}
use Rattle.ft_schema.specs.Schema.{extended}
use Rattle.ft_schema.specs.declared.fault.SchemaFault.{SchemaFault}
use Rattle.ft_base.specs.Words.{first, second, third}
use Rattle.ft_machine.specs.Answering.{query_gives, queried}
use Rattle.ft_machine.specs.Cursors.{cursor_deleted, cursor_read, deleted_of, read_of}
use Rattle.ft_machine.specs.Definitions.{Defined, index_of}
use Rattle.ft_machine.specs.Determined.{DifferInRecords}
use Rattle.ft_machine.specs.Indexes.{altered, altered_to, defines, dropped, index_over, most_indexes, unknown_index}
use Rattle.ft_machine.specs.Info.{informed}
use Rattle.ft_machine.specs.Machine.{Outcome, State, answered, at_moment, hash_of, just, wanting}
use Rattle.ft_machine.specs.Opening.{aggregate_gives, body_of, kept, most_cursors, new_cursor}
use Rattle.ft_machine.specs.Parts.{Part, part_of, part_reply}
use Rattle.ft_machine.specs.PlainCommands.{plain}
use Rattle.ft_machine.specs.Step.{Answers, given, last_number, outcomes, read_gives, words_give}
use Rattle.ft_machine.specs.Writes.{hincrby, hset_unless, number_in, rename}

-- the byte that a reply begins with
abbrev mark : List ℕ → ℕ
mark written = slice_index_or written 0 0

-- An outcome changes nothing, or its reply does not begin as a refusal does.
abbrev IsSettled : State → Outcome → Type 0
IsSettled state outcome = (outcome.after ≡ state) ⊎ (mark (spelling outcome.reply) ≢ 45)

number-mark : (n : ℤ) → mark (spelling (Number n)) ≢ 45
number-mark n e = let is : mark (spelling (Number n)) ≡ 58 = ap mark (spelling-Number n) in absurd (omega (arith, is, e))

line-mark : (text : List ℕ) → mark (spelling (Line text)) ≢ 45
line-mark text e = let is : mark (spelling (Line text)) ≡ 43 = ap mark (spelling-Line text) in absurd (omega (arith, is, e))

pub array-is : (replies : List Reply) → mark (spelling (Array replies)) ≡ 42
unfolding out-Reply out
array-is replies = ap mark (fold_out-Reply (List ℕ) spelling_step (Array replies))

array-mark : (replies : List Reply) → mark (spelling (Array replies)) ≢ 45
array-mark replies e = absurd (omega (arith, array-is replies, e))

want-mark : (outcome : Outcome) (state : State) → outcome ≡ wanting state → mark (spelling outcome.reply) ≡ 45
want-mark outcome state e = ap (λ (o : Outcome). mark (spelling o.reply)) e ∙ ap mark (spelling-Fault want_of_memory)

unless-settled : (there : Bool) (args : List (List ℕ)) (number : ℕ) (state : State) → IsSettled state (hset_unless there args number state)
unless-settled true args number state = inl refl
unless-settled false args number state = inr (number-mark _)

added-settled : (fits : Bool) (sum : ℤ) (state after : State) (text : List ℕ)
    → IsSettled state (if fits then record { reply = Number sum; after = after } else answered (Fault text) state)
added-settled true sum state after text = inr (number-mark sum)
added-settled false sum state after text = inl refl

incremented-settled : (old by : Option ℤ) (args : List (List ℕ)) (number : ℕ) (state : State) → IsSettled state (hincrby old by args number state)
incremented-settled old None args number state = inl refl
incremented-settled None (Some by) args number state = inl refl
incremented-settled (Some old) (Some by) args number state = added-settled (is_i64 (old +ℤ by)) (old +ℤ by) state _ _

moved-settled : (same : Bool) (state after : State)
    → IsSettled state (if same then answered (Line (codes "OK")) state else (record { reply = Line (codes "OK"); after = after }))
moved-settled true state after = inl refl
moved-settled false state after = inr (line-mark _)

renamed-settled : (doc : Option Doc) (from to : List ℕ) (number : ℕ) (state : State) → IsSettled state (rename doc from to number state)
renamed-settled None from to number state = inl refl
renamed-settled (Some doc) from to number state = moved-settled (bytes_eq from to) state _

dropped-settled : (index : Option Defined) (name : List ℕ) (how : List (List ℕ)) (state : State) → IsSettled state (dropped index name how state)
dropped-settled None name how state = inl refl
dropped-settled (Some index) name [] state = inr (line-mark _)
dropped-settled (Some index) name (word ∷ how) state = inr (line-mark _)

altered_to-settled : (failures : ℕ) (def : Result IndexDef SchemaFault) (state : State) → IsSettled state (altered_to failures def state)
altered_to-settled failures (Err fault) state = inl refl
altered_to-settled failures (Ok def) state = inr (line-mark _)

altered-settled : (index : Option Defined) (fields : List Field) (state : State) → IsSettled state (altered index fields state)
altered-settled None fields state = inl refl
altered-settled (Some index) fields state = altered_to-settled index.failures (extended index.def fields) state

-- FT.CURSOR, and a cursor that is opened
read-settled : (def : IndexDef) (count : Option ℕ) (cursor : Option Cursor) (state : State) → IsSettled state (read_of def count cursor state)
read-settled def count None state = inl refl
read-settled def count (Some cursor) state = inr (array-mark _)

deleted-settled : (cursor : Option Cursor) (state : State) → IsSettled state (deleted_of cursor state)
deleted-settled None state = inl refl
deleted-settled (Some cursor) state = inr (line-mark _)

cursor_read-settled : (index : Option Defined) (id : ℕ) (count : Option ℕ) (state : State) → IsSettled state (cursor_read index id count state)
cursor_read-settled None id count state = inl refl
cursor_read-settled (Some index) id count state = read-settled index.def count (cursor_of index.def.serial id state.cursors) state

cursor_deleted-settled : (index : Option Defined) (id : ℕ) (state : State) → IsSettled state (cursor_deleted index id state)
cursor_deleted-settled None id state = inl refl
cursor_deleted-settled (Some index) id state = deleted-settled (cursor_of index.def.serial id state.cursors) state

kept-settled-by : (full : Bool) (state after : State) (text : List ℕ) (replies : List Reply)
    → IsSettled state (if full then answered (Fault text) state else record { reply = Array replies; after = after })
kept-settled-by true state after text replies = inl refl
kept-settled-by false state after text replies = inr (array-mark replies)

kept-settled : (number : ℕ) (cursor : Cursor) (part : Part) (state : State) → IsSettled state (kept number cursor part state)
kept-settled number cursor part state =
    kept-settled-by (nat_le most_cursors (length (cursors_of cursor.serial state.cursors))) state _ (codes "Too many cursors") _

opened-settled : (ends : Bool) (reply : Reply) (state : State) (other : Outcome) → IsSettled state other → IsSettled state (if ends then answered reply state else other)
opened-settled true reply state other settled = inl refl
opened-settled false reply state other settled = settled

aggregate-settled : (what : Aggregating) (cursor : Option CursorSpec) (number : ℕ) (state : State) (def : IndexDef) (query : Query)
    → IsSettled state (aggregate_gives what cursor number state def query)
aggregate-settled what None number state def query = inl refl
aggregate-settled what (Some spec) number state def query =
    let body = body_of what def query state.space in
    let part = part_of def state.space spec.count body in
    opened-settled part.ends (part_reply number part) state _ (kept-settled number (new_cursor def.serial spec number state.latest (body_left part.taken body)) part state)

-- the state behind FT.CREATE of an index
abbrev created_after : IndexDef → State → State
created_after index state = (defines (state.definitions ++ index_over index state.space 0 ∷ []) state).after

created-settled : (there full : Bool) (state after : State) (text other : List ℕ)
    → IsSettled state (if there then answered (Fault text) state else (if full then answered (Fault other) state else record { reply = Line (codes "OK"); after = after }))
created-settled true full state after text other = inl refl
created-settled false true state after text other = inl refl
created-settled false false state after text other = inr (line-mark _)

-- One outcome alone may be, and it is settled.
record One (May : Outcome → Type 0) (state : State) : Type 0 where
  made : Outcome
  settled : IsSettled state made
  only : (outcome : Outcome) → May outcome → outcome ≡ made

one : (made : Outcome) (state : State) → IsSettled state made → One (just made) state
one made state settled = record { made = made; settled = settled; only = λ outcome e. e }

-- a reply that changes nothing
told : (reply : Reply) (state : State) → One (just (answered reply state)) state
told reply state = one (answered reply state) state (inl refl)

-- each plain command but FT.INFO has one outcome
plain-one : (verb : Verb) (args : List (List ℕ)) (number : ℕ) (state : State) → One (plain verb args number state) state ⊎ (verb ≡ Info)
plain-one Ping [] number state = inl (told _ state)
plain-one Ping (message ∷ args) number state = inl (told _ state)
plain-one Echo args number state = inl (told _ state)
plain-one Select args number state = inl (told _ state)
plain-one Quit args number state = inl (told _ state)
plain-one Hget args number state = inl (told _ state)
plain-one Hmget args number state = inl (told _ state)
plain-one Hgetall args number state = inl (told _ state)
plain-one Hkeys args number state = inl (told _ state)
plain-one Hvals args number state = inl (told _ state)
plain-one Hlen args number state = inl (told _ state)
plain-one Hexists args number state = inl (told _ state)
plain-one Exists args number state = inl (told _ state)
plain-one TypeOf args number state = inl (told _ state)
plain-one Dbsize args number state = inl (told _ state)
plain-one ListIndexes args number state = inl (told _ state)
plain-one TagVals args number state = inl (told _ state)
plain-one Debug args number state = inl (told _ state)
plain-one Hset args number state = inl (one _ state (inr (number-mark _)))
plain-one Hsetnx args number state = inl (one _ state (unless-settled (is_some (get_field (hash_of state (first args)) (second args))) args number state))
plain-one Hdel args number state = inl (one _ state (inr (number-mark _)))
plain-one Hincrby args number state = inl (one _ state (incremented-settled (number_in (get_field (hash_of state (first args)) (second args))) (int_of (third args)) args number state))
plain-one Rename args number state = inl (one _ state (renamed-settled (doc_of state.space (first args)) (first args) (second args) number state))
plain-one Del args number state = inl (one _ state (inr (number-mark _)))
plain-one DropIndex args number state = inl (one _ state (dropped-settled (index_of state.definitions (first args)) (first args) (drop 1 args) state))
plain-one Flushall args number state = inl (one _ state (inr (line-mark _)))
plain-one Info args number state = inr refl

informed-after : (index : Option Defined) (state : State) (outcome : Outcome) → informed index state outcome → outcome.after ≡ state
informed-after None state outcome e = ap (λ (o : Outcome). o.after) e
informed-after (Some index) state outcome e = e.1

-- the laws of the language, as its crate states them
pub record Laws : Type 0 where
  pub tree : (def : IndexDef) (params : List Param) (ts : List Lexeme) (q r : Query) → IsMeaning def params ts q → IsMeaning def params ts r → q ≡ r
  pub fault : (def : IndexDef) (params : List Param) (end : ℕ) (ts : List Lexeme) (f g : QueryFault) → IsFault def params end ts f → IsFault def params end ts g → f ≡ g
  pub never_both : (def : IndexDef) (params : List Param) (end : ℕ) (ts : List Lexeme) (q : Query) (f : QueryFault) → IsMeaning def params ts q → IsFault def params end ts f → ⊥

-- a fault of the text, and not of memory
abbrev pub IsKnown : QueryFault → Type 0
IsKnown f = let answer : Result Query QueryFault = Err f in answer ≢ Err NoMemory

pub as-fault : (def : IndexDef) (params : List Param) (end : ℕ) (ts : List Lexeme) (f : QueryFault) → IsKnown f → Told def params end (Ok ts) (Err f) → IsFault def params end ts f
as-fault def params end ts (Syntax at) known told = told
as-fault def params end ts (UnknownField at) known told = told
as-fault def params end ts (WrongKind at) known told = told
as-fault def params end ts (NoParam at) known told = told
as-fault def params end ts (TooDeep at) known told = told
as-fault def params end ts (OutOfScope at) known told = told
as-fault def params end ts NoMemory known told = absurd (known refl)

as-lexical : (def : IndexDef) (params : List Param) (end : ℕ) (stop : LexFault) (f : QueryFault) → IsKnown f → Told def params end (Err stop) (Err f) → f ≡ Syntax (lex_place def params stop)
as-lexical def params end stop (Syntax at) known told = told
as-lexical def params end stop (UnknownField at) known told = told
as-lexical def params end stop (WrongKind at) known told = told
as-lexical def params end stop (NoParam at) known told = told
as-lexical def params end stop (TooDeep at) known told = told
as-lexical def params end stop (OutOfScope at) known told = told
as-lexical def params end stop NoMemory known told = absurd (known refl)

-- one answer to the lexemes of a text
one-told : Laws → (def : IndexDef) (params : List Param) (end : ℕ) (lexed : Result (List Lexeme) LexFault) (a b : Result Query QueryFault)
    → a ≢ Err NoMemory → b ≢ Err NoMemory → Told def params end lexed a → Told def params end lexed b → a ≡ b
one-told laws def params end (Ok ts) (Ok q) (Ok r) ka kb x y = ap (λ (q : Query). Ok q) (laws.tree def params ts q r x y)
one-told laws def params end (Ok ts) (Ok q) (Err f) ka kb x y = absurd (laws.never_both def params end ts q f x (as-fault def params end ts f kb y))
one-told laws def params end (Ok ts) (Err f) (Ok q) ka kb x y = absurd (laws.never_both def params end ts q f y (as-fault def params end ts f ka x))
one-told laws def params end (Ok ts) (Err f) (Err g) ka kb x y = ap (λ (f : QueryFault). Err f) (laws.fault def params end ts f g (as-fault def params end ts f ka x) (as-fault def params end ts g kb y))
one-told laws def params end (Err stop) (Ok q) b ka kb x y = absurd x
one-told laws def params end (Err stop) (Err f) (Ok q) ka kb x y = absurd y
one-told laws def params end (Err stop) (Err f) (Err g) ka kb x y = ap (λ (f : QueryFault). Err f) (as-lexical def params end stop f ka x ∙ sym (as-lexical def params end stop g kb y))

-- one outcome of a query's text
one-queried : Laws → (index : Option Defined) (params : List Param) (query : List ℕ) (given : IndexDef → Query → Outcome) (state : State) (a b : Outcome)
    → queried index params query given state a → queried index params query given state b → a ≡ b
one-queried laws None params query given state a b x y = x ∙ sym y
one-queried laws (Some index) params query given state a b x y =
    x.same ∙ (ap (query_gives (given index.def) state) (one-told laws index.def params _ (lexemes query) x.answer y.answer x.read y.read x.text y.text) ∙ sym y.same)

by-made : (made outcome : Outcome) (state : State) → outcome ≡ made → IsSettled state made → IsSettled state outcome
by-made made outcome state is settled = subst (λ (o : Outcome). IsSettled state o) (sym is) settled

answer-settled : (given : Query → Outcome) (state : State) (answer : Result Query QueryFault) → ((query : Query) → IsSettled state (given query))
    → IsSettled state (query_gives given state answer)
answer-settled given state (Ok query) settled = settled query
answer-settled given state (Err fault) settled = inl refl

queried-settled : (index : Option Defined) (params : List Param) (query : List ℕ) (given : IndexDef → Query → Outcome) (state : State) (outcome : Outcome)
    → ((def : IndexDef) (query : Query) → IsSettled state (given def query)) → queried index params query given state outcome → IsSettled state outcome
queried-settled None params query given state outcome settled e = inl (ap (λ (o : Outcome). o.after) e)
queried-settled (Some index) params query given state outcome settled e =
    by-made _ outcome state e.same (answer-settled (given index.def) state e.answer (settled index.def))

-- FT.INFO, by its verb
abbrev PlainAfter : Verb → Type 0
PlainAfter verb = (args : List (List ℕ)) (number : ℕ) (state : State) (outcome : Outcome) → plain verb args number state outcome → outcome.after ≡ state

info-after : (verb : Verb) → verb ≡ Info → PlainAfter verb
info-after verb is = subst PlainAfter (sym is) (λ args number state outcome x. informed-after (index_of state.definitions (first args)) state outcome x)

same-after : (a b : Outcome) (state : State) → a.after ≡ state → b.after ≡ state → a.after ≡ b.after
same-after a b state x y = x ∙ sym y

given-state : Laws → (asks : Asked) (number : ℕ) (state : State) (a b : Outcome) → given asks number state a → given asks number state b → a.after ≡ b.after
given-state laws (Plain verb args) number state a b x y = elim (plain-one verb args number state) [
  | inl o ↦ ap (λ (o : Outcome). o.after) (o.only a x ∙ sym (o.only b y))
  | inr is ↦ same-after a b state (info-after verb is args number state a x) (info-after verb is args number state b y)
]
given-state laws (CreateIndex index) number state a b x y = ap (λ (o : Outcome). o.after) (x ∙ sym y)
given-state laws (AlterIndex index fields) number state a b x y = ap (λ (o : Outcome). o.after) (x ∙ sym y)
given-state laws (Search what) number state a b x y = ap (λ (o : Outcome). o.after) (one-queried laws _ _ _ _ state a b x y)
given-state laws (Aggregate what) number state a b x y = ap (λ (o : Outcome). o.after) (one-queried laws _ _ _ _ state a b x y)
given-state laws (CursorRead index id count) number state a b x y = ap (λ (o : Outcome). o.after) (x ∙ sym y)
given-state laws (CursorDel index id) number state a b x y = ap (λ (o : Outcome). o.after) (x ∙ sym y)

given-settled : (asks : Asked) (number : ℕ) (state : State) (a : Outcome) → given asks number state a → IsSettled state a
given-settled (Plain verb args) number state a x = elim (plain-one verb args number state) [
  | inl o ↦ by-made o.made a state (o.only a x) o.settled
  | inr is ↦ inl (info-after verb is args number state a x)
]
given-settled (CreateIndex index) number state a x = by-made _ a state x (created-settled (is_some (index_of state.definitions index.name)) (nat_le most_indexes (length state.definitions)) state (created_after index state) (codes "Index already exists") (codes "Too many indexes"))
given-settled (AlterIndex index fields) number state a x = by-made _ a state x (altered-settled _ fields state)
given-settled (Search what) number state a x = queried-settled _ _ _ _ state a (λ def query. inl refl) x
given-settled (Aggregate what) number state a x = queried-settled _ _ _ _ state a (aggregate-settled what what.cursor number state) x
given-settled (CursorRead index id count) number state a x = by-made _ a state x (cursor_read-settled _ id count state)
given-settled (CursorDel index id) number state a x = by-made _ a state x (cursor_deleted-settled _ id state)

-- what says that memory ran out, and what is settled and says so, leave the state
want-state : (a b : Outcome) (state : State) → IsSettled state a → b ≡ wanting state → spelling a.reply ≡ spelling b.reply → a.after ≡ state
want-state a b state (inl same) want said = same
want-state a b state (inr differs) want said = absurd (differs (ap mark said ∙ want-mark b state want))

wanted-after : (b : Outcome) (state : State) → b ≡ wanting state → b.after ≡ state
wanted-after b state e = ap (λ (o : Outcome). o.after) e

outcomes-settled : (asks : Asked) (number : ℕ) (state : State) (a : Outcome) → outcomes asks number state a → IsSettled state a
outcomes-settled asks number state a (inl x) = given-settled asks number state a x
outcomes-settled asks number state a (inr want) = inl (wanted-after a state want.1)

outcomes-state : Laws → (asks : Asked) (number : ℕ) (state : State) (a b : Outcome) → outcomes asks number state a → outcomes asks number state b → spelling a.reply ≡ spelling b.reply → a.after ≡ b.after
outcomes-state laws asks number state a b (inl x) (inl y) said = given-state laws asks number state a b x y
outcomes-state laws asks number state a b (inl x) (inr want) said = same-after a b state (want-state a b state (given-settled asks number state a x) want.1 said) (wanted-after b state want.1)
outcomes-state laws asks number state a b (inr want) (inl y) said = same-after a b state (wanted-after a state want.1) (want-state b a state (given-settled asks number state b y) want.1 (sym said))
outcomes-state laws asks number state a b (inr want) (inr wants) said = same-after a b state (wanted-after a state want.1) (wanted-after b state wants.1)

gives-settled : (name : List ℕ) (asked : Result Asked CmdFault) (number : ℕ) (state : State) (a : Outcome) → read_gives name asked number state a → IsSettled state a
gives-settled name (Ok asks) number state a x = outcomes-settled asks number state a x
gives-settled name (Err fault) number state a x = inl (ap (λ (o : Outcome). o.after) x)

gives-state : Laws → (name : List ℕ) (asked : Result Asked CmdFault) (number : ℕ) (state : State) (a b : Outcome) → read_gives name asked number state a → read_gives name asked number state b
    → spelling a.reply ≡ spelling b.reply → a.after ≡ b.after
gives-state laws name (Ok asks) number state a b x y said = outcomes-state laws asks number state a b x y said
gives-state laws name (Err fault) number state a b x y said = ap (λ (o : Outcome). o.after) (x ∙ sym y)

words-state : Laws → (words : List (List ℕ)) (number : ℕ) (state : State) (a b : Outcome) → words_give words number state a → words_give words number state b → spelling a.reply ≡ spelling b.reply → a.after ≡ b.after
words-state laws words number state a b (inl x) (inl y) said = gives-state laws _ (read number words) number state a b x y said
words-state laws words number state a b (inl x) (inr want) said = same-after a b state (want-state a b state (gives-settled _ (read number words) number state a x) want.1 said) (wanted-after b state want.1)
words-state laws words number state a b (inr want) (inl y) said = same-after a b state (wanted-after a state want.1) (want-state b a state (gives-settled _ (read number words) number state b y) want.1 (sym said))
words-state laws words number state a b (inr want) (inr wants) said = same-after a b state (wanted-after a state want.1) (wanted-after b state wants.1)

pub has-one-state : Laws → (words : List (List ℕ)) (number moment : ℕ) (old : State) (written : List ℕ) (new next : State)
    → Answers words number moment old written new → Answers words number moment old written next → new ≡ next
has-one-state laws words number moment old written new next (inl x) (inl y) =
    x.1.after ∙ (words-state laws words number (at_moment moment old) x.1.outcome y.1.outcome x.1.may y.1.may (sym x.1.reply ∙ y.1.reply) ∙ sym y.1.after)
has-one-state laws words number moment old written new next (inl x) (inr y) = absurd (omega (arith, x.0, y.0))
has-one-state laws words number moment old written new next (inr x) (inl y) = absurd (omega (arith, x.0, y.0))
has-one-state laws words number moment old written new next (inr x) (inr y) = x.2 ∙ sym y.2

-- whether FT.INFO is asked of no index that is there
abbrev NotInfo : Result Asked CmdFault → State → Type 0
NotInfo asked old = (args : List (List ℕ)) → asked ≡ Ok (Plain Info args) → index_of old.definitions (first args) ≡ None

-- FT.INFO of an index that is not there
abbrev OneWithout : Verb → Type 0
OneWithout verb = (args : List (List ℕ)) (number : ℕ) (state : State) (a b : Outcome) → index_of state.definitions (first args) ≡ None
    → plain verb args number state a → plain verb args number state b → a.reply ≡ b.reply

info-without : OneWithout Info
info-without args number state a b away x y =
    let one : a ≡ answered (Fault unknown_index) state = subst (λ (i : Option Defined). informed i state a) away x in
    let other : b ≡ answered (Fault unknown_index) state = subst (λ (i : Option Defined). informed i state b) away y in
    ap (λ (o : Outcome). o.reply) (one ∙ sym other)

asked-info : (verb : Verb) (args : List (List ℕ)) → verb ≡ Info → let asked : Result Asked CmdFault = Ok (Plain verb args) in asked ≡ Ok (Plain Info args)
asked-info verb args is = ap (λ (v : Verb). Ok (Plain v args)) is

given-reply : Laws → (asks : Asked) (number : ℕ) (state : State) → NotInfo (Ok asks) state → (a b : Outcome) → given asks number state a → given asks number state b → a.reply ≡ b.reply
given-reply laws (Plain verb args) number state other_than a b x y = elim (plain-one verb args number state) [
  | inl o ↦ ap (λ (o : Outcome). o.reply) (o.only a x ∙ sym (o.only b y))
  | inr is ↦ subst OneWithout (sym is) info-without args number state a b (other_than args (asked-info verb args is)) x y
]
given-reply laws (CreateIndex index) number state other_than a b x y = ap (λ (o : Outcome). o.reply) (x ∙ sym y)
given-reply laws (AlterIndex index fields) number state other_than a b x y = ap (λ (o : Outcome). o.reply) (x ∙ sym y)
given-reply laws (Search what) number state other_than a b x y = ap (λ (o : Outcome). o.reply) (one-queried laws _ _ _ _ state a b x y)
given-reply laws (Aggregate what) number state other_than a b x y = ap (λ (o : Outcome). o.reply) (one-queried laws _ _ _ _ state a b x y)
given-reply laws (CursorRead index id count) number state other_than a b x y = ap (λ (o : Outcome). o.reply) (x ∙ sym y)
given-reply laws (CursorDel index id) number state other_than a b x y = ap (λ (o : Outcome). o.reply) (x ∙ sym y)

-- an outcome that does not tell that memory ran out
abbrev Says : Outcome → Type 0
Says outcome = spelling outcome.reply ≢ spelling out_of_memory

never-wanting : (a : Outcome) (state : State) → Says a → a ≡ wanting state → ⊥
never-wanting a state says e = says (ap (λ (o : Outcome). spelling o.reply) e)

outcomes-reply : Laws → (asks : Asked) (number : ℕ) (state : State) → NotInfo (Ok asks) state → (a b : Outcome) → Says a → Says b → outcomes asks number state a → outcomes asks number state b → a.reply ≡ b.reply
outcomes-reply laws asks number state other_than a b sa sb (inl x) (inl y) = given-reply laws asks number state other_than a b x y
outcomes-reply laws asks number state other_than a b sa sb (inr want) y = absurd (never-wanting a state sa want.1)
outcomes-reply laws asks number state other_than a b sa sb (inl x) (inr want) = absurd (never-wanting b state sb want.1)

gives-reply : Laws → (name : List ℕ) (asked : Result Asked CmdFault) (number : ℕ) (state : State) → NotInfo asked state → (a b : Outcome) → Says a → Says b
    → read_gives name asked number state a → read_gives name asked number state b → a.reply ≡ b.reply
gives-reply laws name (Ok asks) number state other_than a b sa sb x y = outcomes-reply laws asks number state other_than a b sa sb x y
gives-reply laws name (Err fault) number state other_than a b sa sb x y = ap (λ (o : Outcome). o.reply) (x ∙ sym y)

words-reply : Laws → (words : List (List ℕ)) (number : ℕ) (state : State) → NotInfo (read number words) state → (a b : Outcome) → Says a → Says b
    → words_give words number state a → words_give words number state b → a.reply ≡ b.reply
words-reply laws words number state other_than a b sa sb (inl x) (inl y) = gives-reply laws _ (read number words) number state other_than a b sa sb x y
words-reply laws words number state other_than a b sa sb (inr want) y = absurd (never-wanting a state sa want.1)
words-reply laws words number state other_than a b sa sb (inl x) (inr want) = absurd (never-wanting b state sb want.1)

says : (outcome : Outcome) (written : List ℕ) → written ≡ spelling outcome.reply → written ≢ spelling out_of_memory → Says outcome
says outcome written is known e = known (is ∙ e)

pub has-one-reply : Laws → (words : List (List ℕ)) (number moment : ℕ) (old : State) (written other : List ℕ) (new next : State) → NotInfo (read number words) old
    → Answers words number moment old written new → Answers words number moment old other next → written ≢ spelling out_of_memory → other ≢ spelling out_of_memory → written ≡ other
has-one-reply laws words number moment old written other new next other_than (inl x) (inl y) kx ky =
    x.1.reply
    ∙ (ap spelling (words-reply laws words number (at_moment moment old) other_than x.1.outcome y.1.outcome (says x.1.outcome written x.1.reply kx) (says y.1.outcome other y.1.reply ky) x.1.may y.1.may)
    ∙ sym y.1.reply)
has-one-reply laws words number moment old written other new next other_than (inl x) (inr y) kx ky = absurd (omega (arith, x.0, y.0))
has-one-reply laws words number moment old written other new next other_than (inr x) (inl y) kx ky = absurd (omega (arith, x.0, y.0))
has-one-reply laws words number moment old written other new next other_than (inr x) (inr y) kx ky = x.1 ∙ sym y.1

-- what FT.INFO of an index that is there may give
info-gives : (args : List (List ℕ)) (index : Defined) (words : List (List ℕ)) (number : ℕ) (state : State) (a : Outcome) → read number words ≡ Ok (Plain Info args)
    → index_of state.definitions (first args) ≡ Some index → Says a → words_give words number state a → informed (Some index) state a
info-gives args index words number state a asks there sa (inr want) = absurd (never-wanting a state sa want.1)
info-gives args index words number state a asks there sa (inl x) =
    by_part (subst (λ (r : Result Asked CmdFault). read_gives (slice_index_or words 0 []) r number state a) asks x)
  where
    by_part : outcomes (Plain Info args) number state a → informed (Some index) state a
    by_part (inl y) = subst (λ (i : Option Defined). informed i state a) there y
    by_part (inr want) = absurd (never-wanting a state sa want.1)

pub info-records : (args : List (List ℕ)) (index : Defined) (words : List (List ℕ)) (number moment : ℕ) (old : State) (written other : List ℕ) (new next : State)
    → number < last_number → read number words ≡ Ok (Plain Info args) → index_of old.definitions (first args) ≡ Some index
    → Answers words number moment old written new → Answers words number moment old other next
    → written ≢ spelling out_of_memory → other ≢ spelling out_of_memory → DifferInRecords index.def written other
info-records args index words number moment old written other new next below asks there (inr x) y kx ky = absurd (omega (arith, x.0, below))
info-records args index words number moment old written other new next below asks there (inl x) (inr y) kx ky = absurd (omega (arith, y.0, below))
info-records args index words number moment old written other new next below asks there (inl x) (inl y) kx ky =
    let state = at_moment moment old in
    let one = info-gives args index words number state x.1.outcome asks there (says x.1.outcome written x.1.reply kx) x.1.may in
    let two = info-gives args index words number state y.1.outcome asks there (says y.1.outcome other y.1.reply ky) y.1.may in
    record {
      counts = _;
      records = two.0.records;
      first_reply = x.1.reply ∙ ap spelling one.0.same;
      second_reply = y.1.reply ∙ ap spelling two.0.same;
    }
