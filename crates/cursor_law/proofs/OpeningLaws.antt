-- What the step is answered that opens a cursor, and what it leaves.
use Rattle.std.proofs.Common.{◌≡◌, ◌≢◌, ℕ, ◌<◌, ◌≤◌, Bool, true, false, cond, nat_eq, nat_le, nat_lt, List, [], ◌∷◌, ◌++◌, length, slice_index_or, Option, Some, Result, Ok, Err, codes, inl, inr, refl, sym, ap, ap₂, subst, ◌∙◌, arith}
use Rattle.std.specs.List.{AllByRecursion, filter_map, list_all}
use Rattle.std.proofs.lemmas.Bool.{and_from, and_right, eq-eqb, ne_eqb}
use Rattle.agg_pipeline.specs.Stream.{Stream, is_of_rows}
use Rattle.cmd_parse.specs.Asked.{Asked, Aggregate}
use Rattle.cmd_parse.specs.declared.command.CmdFault.{CmdFault}
use Rattle.cursor_book.specs.Cursors.{body_left, cursors_of, is_cursor}
use Rattle.cursor_book.specs.declared.cursor.Body.{Body}
use Rattle.cursor_book.specs.declared.cursor.Body.TheVariants as body
use Rattle.cursor_book.specs.declared.cursor.Cursor.{Cursor}
use Rattle.ft_base.specs.Reply.{spelling}
use Rattle.ft_base.specs.declared.definition.IndexDef.{IndexDef}
use Rattle.ft_base.specs.declared.query.Param.{Param}
use Rattle.ft_base.specs.declared.query.Query.{Query}
use Rattle.ft_base.specs.declared.reply.Reply.TheVariants.{Fault}
use Rattle.ft_machine.specs.Answering.{query_gives, queried}
use Rattle.ft_machine.specs.Definitions.{Defined}
use Rattle.ft_machine.specs.Machine.{Outcome, State, answered, at_moment, wanting}
use Rattle.ft_machine.specs.Opening.{aggregate_gives, most_cursors, new_cursor, opened, opened_by}
use Rattle.ft_machine.specs.Parts.{Part, last_id, part_of, part_reply}
use Rattle.ft_machine.specs.Step.{Answers, last_number, outcomes, read_gives, words_give}
use Rattle.ft_machine.proofs.DeterminedLaws.{as-fault}
use Rattle.query_grammar.specs.Answer.{Answers as Told, IsFault, IsMeaning}
use Rattle.query_grammar.specs.declared.fault.QueryFault.{QueryFault}
use Rattle.query_grammar.specs.declared.fault.QueryFault.TheVariants.{NoMemory}
use Rattle.query_lex.specs.Lexemes.{lexemes}
use Rattle.query_lex.specs.declared.fault.LexFault.{LexFault}
use Rattle.query_lex.specs.declared.lexeme.Lexeme.{Lexeme}
use Rattle.cursor_law.specs.Given.{docs_of, first_read}
use Rattle.cursor_law.specs.Law.{ShowsRead, rows_shown}
use Rattle.cursor_law.specs.Opens.{Opens}
use Rattle.cursor_law.specs.Steps.{Step}
use Rattle.cursor_law.specs.StreamCursor.{StreamCursor, index_in, row_in}
use Rattle.cursor_law.proofs.CursorLaws.{IsAt, mine}
use Rattle.cursor_law.proofs.ListLaws.{filter-append}
use Rattle.cursor_law.proofs.PartLaws.{index-is}
use Rattle.cursor_law.proofs.ReadingLaws.{docs, goes-on, left_of, reply-is, stream_reads, taken-is}
use Rattle.cursor_law.proofs.StateLaws.{Below, Sound}
use Rattle.cursor_law.proofs.StepLaws.{left-by, moment-sound, shows}

-- the laws of the language that its crate states
pub record Laws : Type 0 where
  pub tree : (def : IndexDef) (params : List Param) (ts : List Lexeme) (q r : Query) → IsMeaning def params ts q → IsMeaning def params ts r → q ≡ r
  pub never_both : (def : IndexDef) (params : List Param) (end : ℕ) (ts : List Lexeme) (q : Query) (f : QueryFault) → IsMeaning def params ts q → IsFault def params end ts f → ⊥

-- a text that is a query is no other, and has no fault
one-told : Laws → (def : IndexDef) (params : List Param) (end : ℕ) (lexed : Result (List Lexeme) LexFault) (answer : Result Query QueryFault) (q : Query)
    → answer ≢ Err NoMemory → Told def params end lexed answer → Told def params end lexed (Ok q) → answer ≡ Ok q
one-told laws def params end (Ok ts) (Ok r) q known x y = ap (λ (q : Query). Ok q) (laws.tree def params ts r q x y)
one-told laws def params end (Ok ts) (Err f) q known x y = absurd (laws.never_both def params end ts q f y (as-fault def params end ts f known x))
one-told laws def params end (Err stop) answer q known x y = absurd y

-- a cursor of this event's number is not there before
none-mine : (cursor : StreamCursor) (number : ℕ) (cursors : List Cursor) → cursor.id ≡ number → AllByRecursion (Below number) cursors → mine cursor cursors ≡ []
none-mine cursor number [] is all = refl
none-mine cursor number (c ∷ cursors) is all =
    ap (λ b. cond b (c ∷ mine cursor cursors) (mine cursor cursors)) (and_right (nat_eq c.serial cursor.serial) (nat_eq c.id cursor.id) (ne_eqb c.id cursor.id (λ e. absurd (omega (arith, all.0, is, e)))))
    ∙ none-mine cursor number cursors is all.1

-- what opening leaves
pub record Opened (cursor : StreamCursor) (step : Step) : Type 0 where
  pub left : IsAt cursor step.new.cursors (left_of 0 cursor.count (docs_of cursor step (first_read cursor)))
  pub shows : ShowsRead cursor step (first_read cursor)

module _ (cursor : StreamCursor) (step : Step) (opens : Opens cursor step) (sound : Sound step.number step.old) where
  abbrev now : State
  now = at_moment step.moment step.old

  abbrev def : IndexDef
  def = opens.index.def

  abbrev part : Part
  part = stream_reads cursor def now 0 cursor.count

  -- the cursor that is kept
  abbrev new : Cursor
  new = new_cursor def.serial opens.spec step.number now.latest (body_left part.taken (body.Stream cursor.query cursor.stream 0))

  index : index_in cursor.serial step.old ≡ Some def
  index = subst (λ (s : ℕ). index_in s step.old ≡ Some def) (sym opens.serial) (index-is step.number step.old opens.what.index opens.index sound opens.there)

  free : mine cursor now.cursors ≡ []
  free = none-mine cursor step.number now.cursors opens.id (moment-sound step.number step.moment step.old sound).ids

  its : is_cursor cursor.serial cursor.id new ≡ true
  its = and_from _ _ (eq-eqb def.serial cursor.serial (sym opens.serial)) (eq-eqb step.number cursor.id (sym opens.id))

  there : nat_lt (length (docs cursor def now 0 cursor.count)) cursor.count ≡ false → IsAt cursor (now.cursors ++ new ∷ []) (Some (last_id 0 (docs cursor def now 0 cursor.count)))
  there e = (
    new,
    filter-append (is_cursor cursor.serial cursor.id) now.cursors (new ∷ []) ∙ ap₂ (λ l b. l ++ cond b (new ∷ []) []) free its,
    record { body = ap (λ t. body_left t (body.Stream cursor.query cursor.stream 0)) (taken-is cursor def now 0 cursor.count e); count = sym opens.count },
  )

  body-is : (rows : Body) → let chosen : Body = cond (list_all is_of_rows opens.what.steps) (body.Stream cursor.query (opens.what.load, opens.what.steps) 0) rows in chosen ≡ body.Stream cursor.query cursor.stream 0
  body-is rows = ap (λ b. cond b (body.Stream cursor.query (opens.what.load, opens.what.steps) 0) rows) opens.of_rows ∙ ap (λ (s : Stream). body.Stream cursor.query s 0) (sym opens.stream)

  -- what was read, by what it was answered
  pub record IsOpened (outcome : Outcome) : Type 0 where
    pub reply : outcome.reply ≡ part_reply step.number part
    pub after : outcome.after.cursors ≡ cond part.ends now.cursors (now.cursors ++ new ∷ [])

  by-room : (outcome : Outcome) → step.reply ≡ spelling outcome.reply → (ends full : Bool) → part.ends ≡ ends
      → outcome ≡ cond ends (answered (part_reply step.number part) now)
      (cond full (answered (Fault (codes "Too many cursors")) now) (record { reply = part_reply step.number part; after = record now { cursors = now.cursors ++ new ∷ [] } }))
      → IsOpened outcome
  by-room outcome said true full ends e = record { reply = ap (λ (o : Outcome). o.reply) e; after = ap (λ (o : Outcome). o.after.cursors) e ∙ ap (λ b. cond b now.cursors (now.cursors ++ new ∷ [])) (sym ends) }
  by-room outcome said false true ends e = absurd (opens.room (said ∙ ap (λ (o : Outcome). spelling o.reply) e))
  by-room outcome said false false ends e = record { reply = ap (λ (o : Outcome). o.reply) e; after = ap (λ (o : Outcome). o.after.cursors) e ∙ ap (λ b. cond b now.cursors (now.cursors ++ new ∷ [])) (sym ends) }

  by-opened : (outcome : Outcome) → step.reply ≡ spelling outcome.reply → outcome ≡ opened opens.what opens.spec step.number now def cursor.query → IsOpened outcome
  by-opened outcome said e =
      by-room outcome said part.ends (nat_le most_cursors (length (cursors_of def.serial now.cursors))) refl
      (e ∙ ap₂ (λ b n. opened_by def.serial opens.spec step.number b (part_of def now.space n b) now) (body-is _) (sym opens.count))

  by-answer : Laws → (outcome : Outcome) → step.reply ≡ spelling outcome.reply → queried (Some opens.index) opens.what.params opens.what.query (aggregate_gives opens.what opens.what.cursor step.number now) now outcome → IsOpened outcome
  by-answer laws outcome said e =
      let same : e.answer ≡ Ok cursor.query = one-told laws def opens.what.params (length opens.what.query) (lexemes opens.what.query) e.answer cursor.query e.read e.text opens.query in
      by-opened outcome said (e.same ∙ (ap (query_gives (aggregate_gives opens.what opens.what.cursor step.number now def) now) same ∙ ap (λ c. aggregate_gives opens.what c step.number now def cursor.query) opens.with_cursor))

  never : (outcome : Outcome) → step.reply ≡ spelling outcome.reply → outcome ≡ wanting now → ⊥
  never outcome said e = opens.memory (said ∙ ap (λ (o : Outcome). spelling o.reply) e)

  by-asked : Laws → (outcome : Outcome) → step.reply ≡ spelling outcome.reply → outcomes (Aggregate opens.what) step.number now outcome → IsOpened outcome
  by-asked laws outcome said (inl e) =
      by-answer laws outcome said (subst (λ (i : Option Defined). queried i opens.what.params opens.what.query (aggregate_gives opens.what opens.what.cursor step.number now) now outcome) opens.there e)
  by-asked laws outcome said (inr want) = absurd (never outcome said want.1)

  by-words : Laws → (outcome : Outcome) → step.reply ≡ spelling outcome.reply → words_give step.words step.number now outcome → IsOpened outcome
  by-words laws outcome said (inl e) = by-asked laws outcome said (subst (λ (r : Result Asked CmdFault). read_gives (slice_index_or step.words 0 []) r step.number now outcome) opens.asks e)
  by-words laws outcome said (inr want) = absurd (never outcome said want.1)

  by-outcome : (outcome : Outcome) → step.reply ≡ spelling outcome.reply → step.new ≡ outcome.after → IsOpened outcome → Opened cursor step
  by-outcome outcome said led is = record {
    left = left;
    shows = shows cursor step 0 cursor.count def index (said ∙ ap spelling (is.reply ∙ (reply-is cursor def now 0 cursor.count step.number ∙ ap (λ id. rows_shown id cursor.count (filter_map (row_in cursor (Some def)) (docs cursor def now 0 cursor.count))) (sym opens.id)))) left;
  }
    where
      left : IsAt cursor step.new.cursors (left_of 0 cursor.count (docs_of cursor step (first_read cursor)))
      left = left-by cursor step 0 cursor.count def index _ (ap (λ (m : State). m.cursors) led ∙ is.after) (goes-on cursor def now 0 cursor.count (now.cursors ++ new ∷ []) now.cursors (λ e. free) there)

  pub opening : Laws → Answers step.words step.number step.moment step.old step.reply step.new → Opened cursor step
  opening laws (inl x) = by-outcome x.1.outcome x.1.reply x.1.after (by-words laws x.1.outcome x.1.reply x.1.may)
  opening laws (inr x) = absurd (never-last step.number last_number opens.number x.0)
    where
      never-last : (n top : ℕ) → n < top → top ≤ n → ⊥
      never-last n top lt le = omega (arith, lt, le)
