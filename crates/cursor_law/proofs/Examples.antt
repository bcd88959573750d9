-- Four legal histories, and what the law says of them. They begin alike: an index, two documents, and a cursor over all
-- documents. In the first three its reads are of one row, and the opening gives the first document.
use Rattle.std.proofs.Common.{◌≡◌, ◌≢◌, ◌<◌, ◌≤◌, ℕ, true, false, cond, pos, List, [], ◌∷◌, ◌++◌, length, filter, take, codes, sum_by, inl, inr, Some, None, Result, Ok, refl, sym, ap, subst, ◌∙◌, arith, le_trans, flat_map, lit<, lit≤, slice_index_or}
use Rattle.std.specs.List.{AllByRecursion}
use Rattle.std.proofs.lemmas.List.Elements.{All-from_recursion}
use Rattle.agg_pipeline.specs.declared.step.Load.TheVariants.{Nothing}
use Rattle.cmd_parse.specs.Asked.{Asked, Plain, CreateIndex, Aggregate, CursorRead}
use Rattle.cmd_parse.specs.Read.{read}
use Rattle.cmd_parse.specs.declared.command.CmdFault.{CmdFault}
use Rattle.cmd_parse.specs.declared.command.Verb.TheVariants.{Hset, Del}
use Rattle.cursor_book.specs.declared.cursor.Body.TheVariants as body
use Rattle.cursor_book.specs.declared.cursor.Cursor.{Cursor}
use Rattle.ft_base.specs.Reply.{spelling}
use Rattle.ft_base.specs.Words.{KeepsLimits}
use Rattle.ft_base.specs.Docs.{Doc}
use Rattle.ft_base.specs.declared.limits.TheConstants.{MAX_COMMAND_BYTES, MAX_WORDS, MAX_WORD_BYTES}
use Rattle.ft_base.specs.declared.query.Query.TheVariants as tree
use Rattle.ft_base.specs.declared.reply.Reply.{Reply}
use Rattle.ft_base.specs.declared.row.Row.{Row}
use Rattle.ft_base.specs.declared.reply.Reply.TheVariants.{Array, Fault, Line, Number}
use Rattle.ft_machine.specs.Aggregating.{rows_reply}
use Rattle.ft_machine.specs.Cursors.{read_gives as cursor_gives, unknown_cursor}
use Rattle.ft_machine.specs.History.{IsLegal, MayFollow}
use Rattle.ft_machine.specs.Machine.{Outcome, State, at_moment, empty_state}
use Rattle.ft_machine.specs.Opening.{opened_by}
use Rattle.ft_machine.specs.Parts.{Part, behind, stream_part, stream_taken}
use Rattle.ft_machine.specs.Step.{Answers, given, last_number, read_gives}
use Rattle.ft_meaning.specs.Holds.{found_of, has_of, holds}
use Rattle.ft_meaning.specs.Member.{members}
use Rattle.history_core.specs.Histories.{Leads, number}
use Rattle.history_core.specs.Entries.{Exec}
use Rattle.ft_base.proofs.SpellingLaws.{spelling-Fault}
use Rattle.cursor_law.specs.Given.{asked_by, docs_if, docs_of, first_read, given as given_by, given_at, read_at, read_from}
use Rattle.cursor_law.specs.Law.{IdsRise, StaysHit}
use Rattle.cursor_law.specs.Opens.{Opens}
use Rattle.cursor_law.specs.Steps.{Step, steps}
use Rattle.cursor_law.specs.StreamCursor.{IsHit, StreamCursor, after_in, given_in, gives_row, has_id, hits, hits_in}
use Rattle.cursor_law.proofs.HistoryLaws.{all-given, all-rise, whole-of}
use Rattle.cursor_law.proofs.OpeningLaws.{Laws}
use Rattle.cursor_law.proofs.PartLaws.{first-given}
use Rattle.cursor_law.proofs.StepLaws.{array-is, asks-none, done-asks, mark, none-read}
use Rattle.cursor_law.proofs.ExampleWords.{Command, commands_alone, all-hold, create_asks, create_words, delete_asks, delete_words, index, open_asks, open_words, read_asks, read_words, set_asks, set_words, spec, star_answers, what, wide_asks, wide_spec, wide_what, wide_words}

-- ---- what is found

-- the cursor
abbrev cursor : StreamCursor
cursor = record { serial = 1; id = 4; count = 1; query = tree.All; stream = (Nothing, []) }

all-hold-in : (docs : List Doc) → filter (holds tree.All index) docs ≡ docs
all-hold-in [] = refl
all-hold-in (doc ∷ docs) = ap (λ b. cond b (doc ∷ filter (holds tree.All index) docs) (filter (holds tree.All index) docs)) (all-hold (has_of index doc)) ∙ ap (λ l. doc ∷ l) (all-hold-in docs)

all-members : (docs : List Doc) → members index docs ≡ docs
all-members [] = refl
all-members (doc ∷ docs) = ap (λ l. doc ∷ l) (all-members docs)

all-give : (docs : List Doc) → filter (gives_row cursor (Some index)) docs ≡ docs
all-give [] = refl
all-give (doc ∷ docs) = ap (λ l. doc ∷ l) (all-give docs)

-- all documents are found, and match
pub all-found : (docs : List Doc) → found_of tree.All index docs ≡ docs
all-found docs = ap (filter (holds tree.All index)) (all-members docs) ∙ all-hold-in docs

all-match : (docs : List Doc) → hits_in cursor (Some index) docs ≡ docs
all-match docs = ap (filter (gives_row cursor (Some index))) (all-found docs) ∙ all-give docs

-- what a read of one row takes of documents
abbrev part_over : ℕ → List Doc → Part
part_over after docs = stream_part index (Nothing, []) after 1 (stream_taken index (Nothing, []) after 1 docs)

-- ---- what may be

-- a command that may give this
pub gives : (words : List (List ℕ)) (number moment : ℕ) (old : State) (asks : Asked) (outcome : Outcome) → number < last_number → read number words ≡ Ok asks → given asks number (at_moment moment old) outcome
    → Answers words number moment old (spelling outcome.reply) outcome.after
gives words number moment old asks outcome below is may =
    inl (below, record { outcome = outcome; may = inl (subst (λ (r : Result Asked CmdFault). read_gives (slice_index_or words 0 []) r number (at_moment moment old) outcome) (sym is) (inl may)); reply = refl; after = refl })

pub keeps : (words : List (List ℕ)) → length words ≤ MAX_WORDS → AllByRecursion (λ word. length word ≤ MAX_WORD_BYTES) words → sum_by length words ≤ MAX_COMMAND_BYTES → KeepsLimits words
keeps words number each total = record { number = number; each = All-from_recursion (λ word. length word ≤ MAX_WORD_BYTES) words each; total = total }

wide_keeps : KeepsLimits wide_words
wide_keeps = keeps wide_words (lit≤ tt) (lit≤ tt, (lit≤ tt, (lit≤ tt, (lit≤ tt, (lit≤ tt, (lit≤ tt, tt)))))) (lit≤ tt)

pub create_keeps : KeepsLimits create_words
create_keeps = keeps create_words (lit≤ tt) (lit≤ tt, (lit≤ tt, (lit≤ tt, (lit≤ tt, (lit≤ tt, tt))))) (lit≤ tt)

pub set_keeps : (key : List ℕ) → length key ≤ 1 → sum_by length (set_words key) ≤ MAX_COMMAND_BYTES → KeepsLimits (set_words key)
set_keeps key short total = keeps (set_words key) (lit≤ tt) (lit≤ tt, (le_trans short (lit≤ tt), (lit≤ tt, (lit≤ tt, tt)))) total

delete_keeps : KeepsLimits (delete_words (codes "b"))
delete_keeps = keeps (delete_words (codes "b")) (lit≤ tt) (lit≤ tt, (lit≤ tt, tt)) (lit≤ tt)

open_keeps : KeepsLimits open_words
open_keeps = keeps open_words (lit≤ tt) (lit≤ tt, (lit≤ tt, (lit≤ tt, (lit≤ tt, (lit≤ tt, (lit≤ tt, tt)))))) (lit≤ tt)

read_keeps : KeepsLimits read_words
read_keeps = keeps read_words (lit≤ tt) (lit≤ tt, (lit≤ tt, (lit≤ tt, (lit≤ tt, tt)))) (lit≤ tt)

-- ---- the states

abbrev pub a : List ℕ
a = codes "a"

abbrev pub b : List ℕ
b = codes "b"

abbrev pub doc : ℕ → List ℕ → Doc
doc id key = record { id = id; key = key; hash = (codes "t", codes "red") ∷ [] }

abbrev pub state : List Doc → List Cursor → ℕ → State
state space cursors latest = record { space = space; definitions = record { def = index; failures = 0 } ∷ []; cursors = cursors; latest = latest }

-- the cursor of the event 4, read up to an id
abbrev open_at : ℕ → Cursor
open_at after = record { id = 4; serial = 1; last_use = 0; max_idle = 300000; count = 1; body = body.Stream tree.All (Nothing, []) after }

pub created : Answers create_words 1 0 empty_state (spelling (Line (codes "OK"))) (state [] [] 0)
created = gives create_words 1 0 empty_state (CreateIndex index) (record { reply = Line (codes "OK"); after = state [] [] 0 }) (lit< tt) create_asks refl

pub set_a : Answers (set_words a) 2 0 (state [] [] 0) (spelling (Number (pos 1))) (state (doc 2 a ∷ []) [] 0)
set_a = gives (set_words a) 2 0 (state [] [] 0) (Plain Hset _) (record { reply = Number (pos 1); after = state (doc 2 a ∷ []) [] 0 }) (lit< tt) (set_asks 2 a) refl

pub set_b : Answers (set_words b) 3 0 (state (doc 2 a ∷ []) [] 0) (spelling (Number (pos 1))) (state (doc 2 a ∷ doc 3 b ∷ []) [] 0)
set_b = gives (set_words b) 3 0 (state (doc 2 a ∷ []) [] 0) (Plain Hset _) (record { reply = Number (pos 1); after = state (doc 2 a ∷ doc 3 b ∷ []) [] 0 }) (lit< tt) (set_asks 3 b) refl

-- a row here has no cells
abbrev one : List Row
one = record { doc = None; cells = [] } ∷ []

-- rows, and the cursor's id or 0
abbrev pub answer : List Row → ℕ → Reply
answer rows id = Array (rows_reply rows ∷ Number (pos id) ∷ [])

abbrev one_row : ℕ → Reply
one_row id = answer one id

abbrev no_row : Reply
no_row = answer [] 0

opened : Answers open_words 4 0 (state (doc 2 a ∷ doc 3 b ∷ []) [] 0) (spelling (one_row 4)) (state (doc 2 a ∷ doc 3 b ∷ []) (open_at 2 ∷ []) 0)
opened = gives open_words 4 0 (state (doc 2 a ∷ doc 3 b ∷ []) [] 0) (Aggregate what) (record { reply = one_row 4; after = state (doc 2 a ∷ doc 3 b ∷ []) (open_at 2 ∷ []) 0 }) (lit< tt) (open_asks 4)
    (record {
      answer = Ok tree.All;
      read = λ e. let bad : ⊥ = cc in bad;
      text = star_answers;
      same = sym (ap (λ found. opened_by 1 spec 4 (body.Stream tree.All (Nothing, []) 0) (part_over 0 found) (state (doc 2 a ∷ doc 3 b ∷ []) [] 0)) (all-found (doc 2 a ∷ doc 3 b ∷ [])));
    })

-- ---- what the cursor is asked

abbrev opening : Step
opening = record { number = 4; moment = 0; old = state (doc 2 a ∷ doc 3 b ∷ []) [] 0; words = open_words; reply = spelling (one_row 4); new = state (doc 2 a ∷ doc 3 b ∷ []) (open_at 2 ∷ []) 0 }

-- an array is no fault
pub no_fault : (replies : List Reply) (text : List ℕ) → spelling (Array replies) ≢ spelling (Fault text)
no_fault replies text e = let fault : mark (spelling (Fault text)) ≡ 45 = ap mark (spelling-Fault text) in absurd (omega (arith, array-is replies, ap mark e, fault))

opens : Opens cursor opening
opens = record {
  what = what;
  spec = spec;
  index = record { def = index; failures = 0 };
  number = lit< tt;
  asks = open_asks 4;
  with_cursor = refl;
  there = refl;
  query = star_answers;
  of_rows = refl;
  stream = refl;
  serial = refl;
  id = refl;
  count = refl;
  memory = no_fault _ _;
  room = no_fault _ _;
}

-- FT.CURSOR READ
abbrev reading : ℕ → ℕ → State → Reply → State → Step
reading number moment old reply new = record { number = number; moment = moment; old = old; words = read_words; reply = spelling reply; new = new }

-- the documents of a read behind an id
given_behind : (after : ℕ) (docs : List Doc) → given_in cursor (Some index) after 1 docs ≡ take 1 (behind after docs)
given_behind after docs = first-given cursor (Some index) after 1 docs ∙ ap (λ l. take 1 (behind after l)) (all-match docs)

opening_gives : docs_of cursor opening (first_read cursor) ≡ doc 2 a ∷ []
opening_gives = given_behind 0 (doc 2 a ∷ doc 3 b ∷ [])

-- a read while the cursor is there
read_is : (number after : ℕ) (space : List Doc) (rows : List Row) (id : ℕ) (new : State) → number < last_number
    → read_at cursor (reading number 0 (state space (open_at after ∷ []) 0) (answer rows id) new) ≡ Some (record { after = after; count = 1 })
read_is number after space rows id new below =
    let step = reading number 0 (state space (open_at after ∷ []) 0) (answer rows id) new in
    ap (read_from (Some after)) (done-asks cursor step None (Some 1) below (no_fault _ _) (ap (asked_by cursor step.old) (read_asks number)))

read_next : (number after : ℕ) (space : List Doc) (rows : List Row) (id : ℕ) (new : State) → number < last_number
    → given_at cursor (reading number 0 (state space (open_at after ∷ []) 0) (answer rows id) new) ≡ take 1 (behind after space)
read_next number after space rows id new below =
    ap (docs_if cursor (reading number 0 (state space (open_at after ∷ []) 0) (answer rows id) new)) (read_is number after space rows id new below) ∙ given_behind after space

-- it may be
read_legal : (number after : ℕ) (space : List Doc) (outcome : Outcome) → number < last_number → outcome ≡ cursor_gives (open_at after) (part_over after space) (state space (open_at after ∷ []) 0)
    → Answers read_words number 0 (state space (open_at after ∷ []) 0) (spelling outcome.reply) outcome.after
read_legal number after space outcome below e =
    gives read_words number 0 (state space (open_at after ∷ []) 0) (CursorRead (codes "ix") 4 None) outcome below (read_asks number)
    (e ∙ sym (ap (λ found. cursor_gives (open_at after) (part_over after found) (state space (open_at after ∷ []) 0)) (all-found space)))

-- a step of other words
other_gives : (step : Step) (asks : Asked) → read step.number step.words ≡ Ok asks → asked_by cursor step.old (Ok asks) ≡ None → given_at cursor step ≡ []
other_gives step asks is none =
    ap (docs_if cursor step) (ap (read_from (after_in cursor (at_moment step.moment step.old))) (asks-none cursor step None (ap (asked_by cursor step.old) is ∙ none)) ∙ none-read _)

hit : (id : ℕ) (space : List Doc) (cursors : List Cursor) (latest : ℕ) → has_id id space ≡ true → IsHit cursor id (state space cursors latest)
hit id space cursors latest is = ap (has_id id) (all-match space) ∙ is

-- ---- a document is written again, and comes at its new id

abbrev again : Step
again = record { number = 5; moment = 0; old = state (doc 2 a ∷ doc 3 b ∷ []) (open_at 2 ∷ []) 0; words = set_words a; reply = spelling (Number (pos 0)); new = state (doc 3 b ∷ doc 5 a ∷ []) (open_at 2 ∷ []) 0 }

abbrev first_of : Step
first_of = reading 6 0 (state (doc 3 b ∷ doc 5 a ∷ []) (open_at 2 ∷ []) 0) (one_row 4) (state (doc 3 b ∷ doc 5 a ∷ []) (open_at 3 ∷ []) 0)

abbrev second_of : Step
second_of = reading 7 0 (state (doc 3 b ∷ doc 5 a ∷ []) (open_at 3 ∷ []) 0) (one_row 4) (state (doc 3 b ∷ doc 5 a ∷ []) (open_at 5 ∷ []) 0)

abbrev last_of : Step
last_of = reading 8 0 (state (doc 3 b ∷ doc 5 a ∷ []) (open_at 5 ∷ []) 0) no_row (state (doc 3 b ∷ doc 5 a ∷ []) [] 0)

abbrev moved : List Step
moved = again ∷ first_of ∷ second_of ∷ last_of ∷ []

moved_given : given_by cursor opening moved ≡ doc 2 a ∷ doc 3 b ∷ doc 5 a ∷ []
moved_given = λ i. opening_gives i ++ (other_gives again (Plain Hset (a ∷ codes "t" ∷ codes "red" ∷ [])) (set_asks 5 a) refl i
    ++ (read_next 6 2 (doc 3 b ∷ doc 5 a ∷ []) one 4 first_of.new (lit< tt) i
    ++ (read_next 7 3 (doc 3 b ∷ doc 5 a ∷ []) one 4 second_of.new (lit< tt) i
    ++ (read_next 8 5 (doc 3 b ∷ doc 5 a ∷ []) [] 0 last_of.new (lit< tt) i ++ []))))

-- the other document matched throughout
moved_stays : StaysHit cursor 3 opening moved
moved_stays = (
  hit 3 (doc 2 a ∷ doc 3 b ∷ []) [] 0 refl,
  inr (
    hit 3 (doc 2 a ∷ doc 3 b ∷ []) (open_at 2 ∷ []) 0 refl,
    inr (
      hit 3 (doc 3 b ∷ doc 5 a ∷ []) (open_at 2 ∷ []) 0 refl,
      inr (
        hit 3 (doc 3 b ∷ doc 5 a ∷ []) (open_at 3 ∷ []) 0 refl,
        inr (
          hit 3 (doc 3 b ∷ doc 5 a ∷ []) (open_at 5 ∷ []) 0 refl,
          inl (record { after = 5; count = 1 }, read_is 8 5 (doc 3 b ∷ doc 5 a ∷ []) [] 0 last_of.new (lit< tt), refl),
        ),
      ),
    ),
  ),
)

-- the history, which begins as the next two do
abbrev begun : List Command
begun =
    Exec 0 0 create_words (spelling (Line (codes "OK")))
    ∷ Exec 0 0 (set_words a) (spelling (Number (pos 1)))
    ∷ Exec 0 0 (set_words b) (spelling (Number (pos 1)))
    ∷ Exec 0 0 open_words (spelling (one_row 4))
    ∷ []

after_begun : (later : List Command) (after : State) → Leads (MayFollow commands_alone 1) begun (state (doc 2 a ∷ doc 3 b ∷ []) (open_at 2 ∷ []) 0) later after → IsLegal commands_alone 1 (begun ++ later) after
after_begun later after leads = (
  state [] [] 0,
  (lit< tt, create_keeps, created),
  (
    state (doc 2 a ∷ []) [] 0,
    (lit< tt, set_keeps a (lit≤ tt) (lit≤ tt), set_a),
    (
      state (doc 2 a ∷ doc 3 b ∷ []) [] 0,
      (lit< tt, set_keeps b (lit≤ tt) (lit≤ tt), set_b),
      (state (doc 2 a ∷ doc 3 b ∷ []) (open_at 2 ∷ []) 0, (lit< tt, open_keeps, opened), leads),
    ),
  ),
)

-- the steps before the opening
abbrev pub earlier : List Step
earlier =
    record { number = 1; moment = 0; old = empty_state; words = create_words; reply = spelling (Line (codes "OK")); new = state [] [] 0 }
    ∷ record { number = 2; moment = 0; old = state [] [] 0; words = set_words a; reply = spelling (Number (pos 1)); new = state (doc 2 a ∷ []) [] 0 }
    ∷ record { number = 3; moment = 0; old = state (doc 2 a ∷ []) [] 0; words = set_words b; reply = spelling (Number (pos 1)); new = state (doc 2 a ∷ doc 3 b ∷ []) [] 0 }
    ∷ []

abbrev moved_entries : List Command
moved_entries =
    Exec 0 0 (set_words a) (spelling (Number (pos 0)))
    ∷ Exec 0 0 read_words (spelling (one_row 4))
    ∷ Exec 0 0 read_words (spelling (one_row 4))
    ∷ Exec 0 0 read_words (spelling no_row)
    ∷ []

moved_legal : IsLegal commands_alone 1 (begun ++ moved_entries) (state (doc 3 b ∷ doc 5 a ∷ []) [] 0)
moved_legal = after_begun moved_entries (state (doc 3 b ∷ doc 5 a ∷ []) [] 0) (
  again.new,
  (lit< tt, set_keeps a (lit≤ tt) (lit≤ tt), gives (set_words a) 5 0 again.old (Plain Hset (a ∷ codes "t" ∷ codes "red" ∷ [])) (record { reply = Number (pos 0); after = again.new }) (lit< tt) (set_asks 5 a) refl),
  (
    first_of.new,
    (lit< tt, read_keeps, read_legal 6 2 (doc 3 b ∷ doc 5 a ∷ []) (record { reply = one_row 4; after = first_of.new }) (lit< tt) refl),
    (
      second_of.new,
      (lit< tt, read_keeps, read_legal 7 3 (doc 3 b ∷ doc 5 a ∷ []) (record { reply = one_row 4; after = second_of.new }) (lit< tt) refl),
      (
        last_of.new,
        (lit< tt, read_keeps, read_legal 8 5 (doc 3 b ∷ doc 5 a ∷ []) (record { reply = no_row; after = last_of.new }) (lit< tt) refl),
        refl,
      ),
    ),
  ),
)

moved_steps : steps commands_alone 1 (begun ++ moved_entries) (state (doc 3 b ∷ doc 5 a ∷ []) [] 0) moved_legal ≡ earlier ++ opening ∷ moved
unfolding moved_legal after_begun
moved_steps = refl

-- what the law says of it
moved_law : Laws → IdsRise (given_by cursor opening moved) × (has_id 3 (given_by cursor opening moved) ≡ true)
moved_law laws =
    let whole = whole-of laws commands_alone 1 (begun ++ moved_entries) (state (doc 3 b ∷ doc 5 a ∷ []) [] 0) moved_legal earlier moved opening cursor (lit< tt) moved_steps opens in
    (all-rise cursor opening moved whole, all-given cursor opening moved whole 3 moved_stays)

-- ---- a document is deleted, and does not come

abbrev delete : Step
delete = record { number = 5; moment = 0; old = state (doc 2 a ∷ doc 3 b ∷ []) (open_at 2 ∷ []) 0; words = delete_words b; reply = spelling (Number (pos 1)); new = state (doc 2 a ∷ []) (open_at 2 ∷ []) 0 }

abbrev only : Step
only = reading 6 0 (state (doc 2 a ∷ []) (open_at 2 ∷ []) 0) no_row (state (doc 2 a ∷ []) [] 0)

abbrev deleted : List Step
deleted = delete ∷ only ∷ []

deleted_gives : flat_map (given_at cursor) deleted ≡ []
deleted_gives = λ i. other_gives delete (Plain Del (b ∷ [])) (delete_asks 5 b) refl i ++ (read_next 6 2 (doc 2 a ∷ []) [] 0 only.new (lit< tt) i ++ [])

deleted_given : given_by cursor opening deleted ≡ doc 2 a ∷ []
deleted_given = λ i. opening_gives i ++ deleted_gives i

-- What the opening gave matched throughout, so that the law does not hold of the reads alone.
deleted_stays : StaysHit cursor 2 opening deleted
deleted_stays = (
  hit 2 (doc 2 a ∷ doc 3 b ∷ []) [] 0 refl,
  inr (
    hit 2 (doc 2 a ∷ doc 3 b ∷ []) (open_at 2 ∷ []) 0 refl,
    inr (
      hit 2 (doc 2 a ∷ []) (open_at 2 ∷ []) 0 refl,
      inl (record { after = 2; count = 1 }, read_is 6 2 (doc 2 a ∷ []) [] 0 only.new (lit< tt), refl),
    ),
  ),
)

opening_counts : has_id 2 (flat_map (given_at cursor) deleted) ≡ false
opening_counts = ap (has_id 2) deleted_gives

-- The deleted document matched at the opening, and is not given.
deleted_misses : has_id 3 (given_by cursor opening deleted) ≡ false
deleted_misses = ap (has_id 3) deleted_given

-- it did not match to the end
deleted_gone : has_id 3 (hits cursor only.old) ≡ false
deleted_gone = ap (has_id 3) (all-match (doc 2 a ∷ []))

abbrev deleted_entries : List Command
deleted_entries = Exec 0 0 (delete_words b) (spelling (Number (pos 1))) ∷ Exec 0 0 read_words (spelling no_row) ∷ []

deleted_legal : IsLegal commands_alone 1 (begun ++ deleted_entries) (state (doc 2 a ∷ []) [] 0)
deleted_legal = after_begun deleted_entries (state (doc 2 a ∷ []) [] 0) (
  delete.new,
  (lit< tt, delete_keeps, gives (delete_words b) 5 0 delete.old (Plain Del (b ∷ [])) (record { reply = Number (pos 1); after = delete.new }) (lit< tt) (delete_asks 5 b) refl),
  (
    only.new,
    (lit< tt, read_keeps, read_legal 6 2 (doc 2 a ∷ []) (record { reply = no_row; after = only.new }) (lit< tt) refl),
    refl,
  ),
)

deleted_steps : steps commands_alone 1 (begun ++ deleted_entries) (state (doc 2 a ∷ []) [] 0) deleted_legal ≡ earlier ++ opening ∷ deleted
unfolding deleted_legal after_begun
deleted_steps = refl

deleted_law : Laws → has_id 2 (given_by cursor opening deleted) ≡ true
deleted_law laws =
    all-given cursor opening deleted (whole-of laws commands_alone 1 (begun ++ deleted_entries) (state (doc 2 a ∷ []) [] 0) deleted_legal earlier deleted opening cursor (lit< tt) deleted_steps opens) 2 deleted_stays

-- ---- the cursor is idle before its end

abbrev late : Step
late = reading 5 300001 (state (doc 2 a ∷ doc 3 b ∷ []) (open_at 2 ∷ []) 0) (Fault unknown_cursor) (state (doc 2 a ∷ doc 3 b ∷ []) [] 300001)

late_given : given_by cursor opening (late ∷ []) ≡ doc 2 a ∷ []
late_given = λ i. opening_gives i ++ []

-- it is not read to its end, so that nothing is promised of what matched throughout
late_never_ends : (id : ℕ) → StaysHit cursor id opening (late ∷ []) → ⊥
late_never_ends id (hit, inl none) = let bad : ⊥ = cc in bad
late_never_ends id (hit, inr (still, inl last)) = let none : None ≡ Some last.0 = last.1 in let bad : ⊥ = cc in bad
late_never_ends id (hit, inr (still, inr more)) = more

abbrev late_entries : List Command
late_entries = Exec 0 300001 read_words (spelling (Fault unknown_cursor)) ∷ []

late_legal : IsLegal commands_alone 1 (begun ++ late_entries) (state (doc 2 a ∷ doc 3 b ∷ []) [] 300001)
late_legal = after_begun late_entries (state (doc 2 a ∷ doc 3 b ∷ []) [] 300001) (
  late.new,
  (lit< tt, read_keeps, gives read_words 5 300001 late.old (CursorRead (codes "ix") 4 None) (record { reply = Fault unknown_cursor; after = late.new }) (lit< tt) (read_asks 5) refl),
  refl,
)

late_steps : steps commands_alone 1 (begun ++ late_entries) (state (doc 2 a ∷ doc 3 b ∷ []) [] 300001) late_legal ≡ earlier ++ opening ∷ late ∷ []
unfolding late_legal after_begun
late_steps = refl

-- ---- a cursor ends at its opening, which gives all documents

abbrev wide : StreamCursor
wide = record cursor { count = 5 }

abbrev two : List Row
two = record { doc = None; cells = [] } ∷ record { doc = None; cells = [] } ∷ []

abbrev whole_opening : Step
whole_opening = record { number = 4; moment = 0; old = state (doc 2 a ∷ doc 3 b ∷ []) [] 0; words = wide_words; reply = spelling (answer two 0); new = state (doc 2 a ∷ doc 3 b ∷ []) [] 0 }

whole_opens : Opens wide whole_opening
whole_opens = record {
  what = wide_what;
  spec = wide_spec;
  index = record { def = index; failures = 0 };
  number = lit< tt;
  asks = wide_asks 4;
  with_cursor = refl;
  there = refl;
  query = star_answers;
  of_rows = refl;
  stream = refl;
  serial = refl;
  id = refl;
  count = refl;
  memory = no_fault _ _;
  room = no_fault _ _;
}

whole_given : given_by wide whole_opening [] ≡ doc 2 a ∷ doc 3 b ∷ []
whole_given = ap (λ l. l ++ []) (first-given wide (Some index) 0 5 (doc 2 a ∷ doc 3 b ∷ []) ∙ ap (λ l. take 5 (behind 0 l)) (all-match (doc 2 a ∷ doc 3 b ∷ [])))

whole_stays : StaysHit wide 3 whole_opening []
whole_stays = (hit 3 (doc 2 a ∷ doc 3 b ∷ []) [] 0 refl, inl refl)

abbrev whole_entries : List Command
whole_entries =
    Exec 0 0 create_words (spelling (Line (codes "OK")))
    ∷ Exec 0 0 (set_words a) (spelling (Number (pos 1)))
    ∷ Exec 0 0 (set_words b) (spelling (Number (pos 1)))
    ∷ Exec 0 0 wide_words (spelling (answer two 0))
    ∷ []

whole_read : Answers wide_words 4 0 whole_opening.old (spelling (answer two 0)) whole_opening.new
whole_read = gives wide_words 4 0 whole_opening.old (Aggregate wide_what) (record { reply = answer two 0; after = whole_opening.new }) (lit< tt) (wide_asks 4)
    (record {
      answer = Ok tree.All;
      read = λ e. let bad : ⊥ = cc in bad;
      text = star_answers;
      same = sym (ap (λ found. opened_by 1 wide_spec 4 (body.Stream tree.All (Nothing, []) 0) (stream_part index (Nothing, []) 0 5 (stream_taken index (Nothing, []) 0 5 found)) whole_opening.old) (all-found (doc 2 a ∷ doc 3 b ∷ [])));
    })

whole_legal : IsLegal commands_alone 1 whole_entries whole_opening.new
whole_legal = (
  state [] [] 0,
  (lit< tt, create_keeps, created),
  (
    state (doc 2 a ∷ []) [] 0,
    (lit< tt, set_keeps a (lit≤ tt) (lit≤ tt), set_a),
    (
      state (doc 2 a ∷ doc 3 b ∷ []) [] 0,
      (lit< tt, set_keeps b (lit≤ tt) (lit≤ tt), set_b),
      (whole_opening.new, (lit< tt, wide_keeps, whole_read), refl),
    ),
  ),
)

whole_steps : steps commands_alone 1 whole_entries whole_opening.new whole_legal ≡ earlier ++ whole_opening ∷ []
unfolding whole_legal
whole_steps = refl

whole_law : Laws → has_id 3 (given_by wide whole_opening []) ≡ true
whole_law laws =
    all-given wide whole_opening [] (whole-of laws commands_alone 1 whole_entries whole_opening.new whole_legal earlier [] whole_opening wide (lit< tt) whole_steps whole_opens) 3 whole_stays
