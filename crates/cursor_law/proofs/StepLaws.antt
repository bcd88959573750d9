-- What each step does of a cursor: it leaves it as it was, or gone, or is a read of it.
use Rattle.std.proofs.Common.{◌≡◌, ◌≢◌, ◌⊎◌, inl, inr, ℕ, ◌<◌, ◌≤◌, ◌+◌, min, Bool, true, false, cond, not, nat_eq, nat_lt, ◌&&◌, bytes_eq, List, [], ◌∷◌, length, is_none, unwrap_or, slice_index_or, Option, Some, None, Result, Ok, Err, refl, sym, ap, ap₂, subst, ◌∙◌, arith}
use Rattle.std.specs.List.{filter_map, find}
use denote.Hole.Carrier.{out}
use Rattle.std.proofs.lemmas.Bool.{and_from, and_parts, and_right, eqb-true, lt-ltb, ltb-true, not_from_true, false_from_ne_true}
use Rattle.std.proofs.lemmas.Slice.Eq.{bytes_eq-Decides}
use Rattle.cmd_parse.specs.Asked.{Asked, Plain, CreateIndex, AlterIndex, Search, Aggregate, CursorRead, CursorDel}
use Rattle.cmd_parse.specs.Read.{read}
use Rattle.cmd_parse.specs.declared.command.CmdFault.{CmdFault}
use Rattle.cursor_book.specs.Cursors.{cursor_of, is_cursor, without}
use Rattle.cursor_book.specs.declared.cursor.Cursor.{Cursor}
use Rattle.ft_base.proofs.SpellingLaws.{spelling-Fault}
use Rattle.ft_base.specs.Memory.{out_of_memory, want_of_memory}
use Rattle.ft_base.specs.Reply.{spelling, spelling_step}
use Rattle.ft_base.specs.declared.definition.IndexDef.{IndexDef}
use Rattle.ft_base.specs.Docs.{Doc}
use Rattle.ft_base.specs.declared.reply.Reply.{Reply}
use Rattle.ft_base.specs.declared.reply.Reply.TheFolds.{fold_out-Reply}
use Rattle.ft_base.specs.declared.reply.Reply.TheVariants.{Array}
use Rattle.ft_base.specs.declared.reply.Reply.TheViews.{out-Reply}
use Rattle.ft_machine.specs.Cursors.{cursor_read, cursors_left, read_gives, read_of}
use Rattle.ft_machine.specs.Definitions.{Defined, index_of}
use Rattle.ft_machine.specs.Machine.{Outcome, State, answered, at_moment, wanting}
use Rattle.ft_machine.specs.Parts.{Part, last_id, part_of}
use Rattle.ft_machine.specs.Step.{Answers, given, last_number, next_number, read_gives as asked_gives, words_give}
use Rattle.cursor_law.specs.Given.{Read, asked, asked_by, docs_of, is_done, read_at, read_from, rows_of}
use Rattle.cursor_law.specs.Given.{is_cursor as are_its}
use Rattle.cursor_law.specs.Law.{ShowsRead, rows_shown}
use Rattle.cursor_law.specs.Steps.{Step}
use Rattle.cursor_law.specs.StreamCursor.{StreamCursor, after_in, given_in, index_in, row_in}
use Rattle.cursor_law.proofs.CursorLaws.{IsAt, Left, Stands, after-is, filter-leaves, mine, read-leaves}
use Rattle.cursor_law.proofs.ListLaws.{all-filter, find-none, find-some}
use Rattle.cursor_law.proofs.PartLaws.{gives-is, index-is, rows-many-is}
use Rattle.cursor_law.proofs.ReadingLaws.{docs, id-is, left-is, left_of, reply-is, stream_reads}
use Rattle.cursor_law.proofs.SerialLaws.{read-serial}
use Rattle.cursor_law.proofs.StateLaws.{Below, Kept, KeptBy, Sound, given-kept, older, read-sound}

-- the byte that a reply begins with
abbrev pub mark : List ℕ → ℕ
mark written = slice_index_or written 0 0

pub array-is : (replies : List Reply) → mark (spelling (Array replies)) ≡ 42
unfolding out-Reply out
array-is replies = ap mark (fold_out-Reply (List ℕ) spelling_step (Array replies))

pub array-says : (replies : List Reply) → spelling (Array replies) ≢ spelling out_of_memory
array-says replies e = let want : mark (spelling out_of_memory) ≡ 45 = ap mark (spelling-Fault want_of_memory) in absurd (omega (arith, array-is replies, ap mark e, want))

-- ---- the order

pub moment-sound : (number moment : ℕ) (state : State) → Sound number state → Sound number (at_moment moment state)
moment-sound number moment state s = record { first = s.first; docs = s.docs; serials = s.serials; ids = all-filter (Below number) _ state.cursors s.ids }

module _ (cursor : StreamCursor) (number : ℕ) (state : State) (s : Sound number state) where
  abbrev Then : Outcome → Type 0
  Then outcome = Sound (number + 1) outcome.after

  said-sound : (reply : Reply) (outcome : Outcome) → outcome ≡ answered reply state → Then outcome
  said-sound reply outcome e = subst Then (sym e) (older number state s)

  given-sound : (asks : Asked) (outcome : Outcome) → KeptBy cursor number state asks outcome → given asks number state outcome → Then outcome
  given-sound (Plain verb args) o k e = k.sound s
  given-sound (CreateIndex index) o k e = k.sound s
  given-sound (AlterIndex index fields) o k e = k.sound s
  given-sound (Search what) o k e = k.sound s
  given-sound (Aggregate what) o k e = k.sound s
  given-sound (CursorRead index id count) o k e = subst Then (sym e) (read-sound number state (index_of state.definitions index) id count s)
  given-sound (CursorDel index id) o k e = k.sound s

  asked-sound : (words : List (List ℕ)) (name : List ℕ) (asked : Result Asked CmdFault) (outcome : Outcome) → read number words ≡ asked → asked_gives name asked number state outcome → Then outcome
  asked-sound words name (Ok asks) o is (inl e) = given-sound asks o (given-kept cursor number state asks o (read-serial number words asks is) e) e
  asked-sound words name (Ok asks) o is (inr want) = said-sound _ o want.1
  asked-sound words name (Err fault) o is e = said-sound _ o e

  words-sound : (words : List (List ℕ)) (outcome : Outcome) → words_give words number state outcome → Then outcome
  words-sound words o (inl e) = asked-sound words _ (read number words) o refl e
  words-sound words o (inr want) = said-sound _ o want.1

next-is : (number top : ℕ) → number < top → number + 1 ≡ min (number + 1) top
next-is number top below = omega (arith, below)

top-is : (number top : ℕ) → number ≤ top → top ≤ number → number ≡ min (number + 1) top
top-is number top le ge = omega (arith, le, ge)

pub step-sound : (cursor : StreamCursor) (words : List (List ℕ)) (number moment : ℕ) (old : State) (reply : List ℕ) (new : State) → number ≤ last_number
    → Answers words number moment old reply new → Sound number old → Sound (next_number number) new
step-sound cursor words number moment old reply new le (inl x) s =
    let sound : Sound (number + 1) x.1.outcome.after = words-sound cursor number (at_moment moment old) (moment-sound number moment old s) words x.1.outcome x.1.may in
    subst (λ (n : ℕ). Sound n new) (next-is number last_number x.0) (subst (λ (m : State). Sound (number + 1) m) (sym x.1.after) sound)
step-sound cursor words number moment old reply new le (inr x) s =
    subst (λ (n : ℕ). Sound n new) (top-is number last_number le x.0) (subst (λ (m : State). Sound number m) (sym x.2) s)

-- ---- the cursor

-- a step reads it
pub record Reads (cursor : StreamCursor) (step : Step) (at : Option ℕ) : Type 0 where
  pub after : ℕ
  pub count : ℕ
  pub there : at ≡ Some after
  pub read : read_at cursor step ≡ Some (record { after = after; count = count })
  pub left : IsAt cursor step.new.cursors (left_of after count (docs_of cursor step (record { after = after; count = count })))
  pub shows : ShowsRead cursor step (record { after = after; count = count })

-- or leaves it as it was, or gone
abbrev pub Rests : StreamCursor → Step → Option ℕ → Type 0
Rests cursor step at = (read_at cursor step ≡ None) × Left cursor step.new.cursors at

abbrev pub Goes : StreamCursor → Step → Option ℕ → Type 0
Goes cursor step at = Rests cursor step at ⊎ Reads cursor step at

-- what is left behind a read, and whether it is gone
pub ends-is : (after n : ℕ) (docs : List Doc) → is_none (left_of after n docs) ≡ nat_lt (length docs) n
ends-is after n docs = pick (nat_lt (length docs) n)
  where
    pick : (b : Bool) → let left : Option ℕ = cond b None (Some (last_id after docs)) in is_none left ≡ b
    pick true = refl
    pick false = refl

pub none-read : (after : Option ℕ) → read_from after None ≡ None
none-read None = refl
none-read (Some after) = refl

same-none : (b : Bool) (count : Option ℕ) → count ≡ None → cond b count None ≡ None
same-none true count e = e
same-none false count e = refl

find-passes : {X : Type 0} (p : X → Bool) (xs : List X) (y : X) → find p xs ≡ Some y → p y ≡ true
find-passes p [] y is = absurd (let bad : ⊥ = cc in bad)
find-passes p (x ∷ xs) y is = pick (p x) refl is (find-passes p xs y)
  where
    pick : (b : Bool) → p x ≡ b → cond b (Some x) (find p xs) ≡ Some y → (find p xs ≡ Some y → p y ≡ true) → p y ≡ true
    pick true passes it again = let same : x ≡ y = cc in ap p (sym same) ∙ passes
    pick false fails it again = again it

module _ (cursor : StreamCursor) (step : Step) (at : Option ℕ) where
  -- a step at which nothing is asked of it
  unasked : asked cursor step ≡ None → Left cursor step.new.cursors at → Goes cursor step at
  unasked e left = inl (ap (read_from (after_in cursor (at_moment step.moment step.old))) e ∙ none-read _, left)

  wants-none : step.reply ≡ spelling out_of_memory → asked cursor step ≡ None
  wants-none e =
      let same = (bytes_eq-Decides step.reply (spelling out_of_memory)).1 e in
      ap (λ b. cond b (asked_by cursor step.old (read step.number step.words)) None) (and_right (nat_lt step.number last_number) _ (not_from_true _ same))

  pub asks-none : asked_by cursor step.old (read step.number step.words) ≡ None → asked cursor step ≡ None
  asks-none e = same-none (is_done step) _ e

  -- a step is done that has a number and another reply
  pub done-asks : (count : Option ℕ) → step.number < last_number → step.reply ≢ spelling out_of_memory → asked_by cursor step.old (read step.number step.words) ≡ count → asked cursor step ≡ count
  done-asks count below says e =
      let differs : bytes_eq step.reply (spelling out_of_memory) ≡ false = false_from_ne_true _ (λ same. says ((bytes_eq-Decides step.reply (spelling out_of_memory)).0 same)) in
      ap (λ b. cond b (asked_by cursor step.old (read step.number step.words)) None) (and_from _ _ (lt-ltb step.number last_number below) (ap not differs)) ∙ e

  module _ (sound : Sound step.number step.old) (later : cursor.id < step.number) (below : step.number < last_number)
      (outcome : Outcome) (said : step.reply ≡ spelling outcome.reply) (led : step.new ≡ outcome.after) where
    module _ (is : IsAt cursor (at_moment step.moment step.old).cursors at) where
      -- where the state is that of the moment
      told : (reply : Reply) → asked cursor step ≡ None → outcome ≡ answered reply (at_moment step.moment step.old) → Goes cursor step at
      told reply none e =
          let same : step.new ≡ at_moment step.moment step.old = led ∙ ap (λ (o : Outcome). o.after) e in
          unasked none (inl (subst (λ (m : State). IsAt cursor m.cursors at) (sym same) is))

      wanted : outcome ≡ wanting (at_moment step.moment step.old) → Goes cursor step at
      wanted e = told out_of_memory (wants-none (said ∙ ap (λ (o : Outcome). spelling o.reply) e)) e

      kept : asked cursor step ≡ None → Kept cursor step.number (at_moment step.moment step.old) outcome.after → Goes cursor step at
      kept none k = unasked none (subst (λ (m : State). Left cursor m.cursors at) (sym led) (k.leaves at later is))

      -- a read of another cursor
      other-left : (c : Cursor) (part : Part) → (nat_eq c.serial cursor.serial && nat_eq c.id cursor.id) ≡ false
          → Left cursor (cursors_left c part (at_moment step.moment step.old).latest (at_moment step.moment step.old).cursors) at
      other-left c part apart = pick part.ends
        where
          pick : (b : Bool) → Left cursor (cond b (without c.serial c.id (at_moment step.moment step.old).cursors) (Rattle.cursor_book.specs.Cursors.read c.serial c.id (at_moment step.moment step.old).latest part.taken (at_moment step.moment step.old).cursors)) at
          pick true = filter-leaves cursor _ (at_moment step.moment step.old).cursors at is
          pick false = inl (read-leaves cursor c.serial c.id (at_moment step.moment step.old).latest part.taken (at_moment step.moment step.old).cursors at apart is)

      other-goes : (def : IndexDef) (serial id : ℕ) (count : Option ℕ) (found : Option Cursor) → (nat_eq serial cursor.serial && nat_eq id cursor.id) ≡ false
          → cursor_of serial id (at_moment step.moment step.old).cursors ≡ found → asked cursor step ≡ None
          → outcome ≡ read_of def count found (at_moment step.moment step.old) → Goes cursor step at
      other-goes def serial id count None apart there none e = told _ none e
      other-goes def serial id count (Some c) apart there none e =
          let part = part_of def (at_moment step.moment step.old).space (unwrap_or count c.count) c.body in
          let its = and_parts (nat_eq c.serial serial) (nat_eq c.id id) (find-passes (is_cursor serial id) (at_moment step.moment step.old).cursors c there) in
          let away : (nat_eq c.serial cursor.serial && nat_eq c.id cursor.id) ≡ false =
          ap₂ (λ s i. nat_eq s cursor.serial && nat_eq i cursor.id) (eqb-true c.serial serial its.0) (eqb-true c.id id its.1) ∙ apart in
          let same : step.new.cursors ≡ cursors_left c part (at_moment step.moment step.old).latest (at_moment step.moment step.old).cursors =
          ap (λ (m : State). m.cursors) (led ∙ ap (λ (o : Outcome). o.after) e) in
          unasked none (subst (λ (cs : List Cursor). Left cursor cs at) (sym same) (other-left c part away))

-- what a step that takes a read shows, by what it is answered and leaves
module _ (cursor : StreamCursor) (step : Step) (after n : ℕ) (def : IndexDef) (index : index_in cursor.serial step.old ≡ Some def) where
  abbrev its : Read
  its = record { after = after; count = n }

  pub docs-eq : docs_of cursor step its ≡ docs cursor def (at_moment step.moment step.old) after n
  docs-eq = ap (λ o. given_in cursor o after n step.old.space) index ∙ gives-is cursor def step.old.space after n

  rows-eq : rows_of cursor step its ≡ filter_map (row_in cursor (Some def)) (docs cursor def (at_moment step.moment step.old) after n)
  rows-eq = ap (λ o. filter_map (row_in cursor o) (given_in cursor o after n step.old.space)) index ∙ ap (filter_map (row_in cursor (Some def))) (gives-is cursor def step.old.space after n)

  many : length (rows_of cursor step its) ≡ length (docs_of cursor step its)
  many = ap length rows-eq ∙ (rows-many-is cursor def step.old.space after n ∙ sym (ap length docs-eq))

  pub shows : step.reply ≡ spelling (rows_shown cursor.id n (filter_map (row_in cursor (Some def)) (docs cursor def (at_moment step.moment step.old) after n)))
      → IsAt cursor step.new.cursors (left_of after n (docs_of cursor step its)) → ShowsRead cursor step its
  shows replied left = record {
    reply = replied ∙ ap (λ rows. spelling (rows_shown cursor.id n rows)) (sym rows-eq);
    ends = ap is_none (after-is cursor step.new (left_of after n (docs_of cursor step its)) left) ∙ (ends-is after n (docs_of cursor step its) ∙ ap (λ l. nat_lt l n) (sym many));
  }

  pub left-by : (cursors : List Cursor) → step.new.cursors ≡ cursors → IsAt cursor cursors (left_of after n (docs cursor def (at_moment step.moment step.old) after n))
      → IsAt cursor step.new.cursors (left_of after n (docs_of cursor step its))
  left-by cursors same is = subst (λ (l : List Doc). IsAt cursor step.new.cursors (left_of after n l)) (sym docs-eq) (subst (λ (cs : List Cursor). IsAt cursor cs (left_of after n (docs cursor def (at_moment step.moment step.old) after n))) (sym same) is)

-- a step whose outcome is a read of the cursor, of which it is asked
reads : (cursor : StreamCursor) (step : Step) (after n : ℕ) (def : IndexDef) (kept : Cursor) (outcome : Outcome) → mine cursor (at_moment step.moment step.old).cursors ≡ kept ∷ [] → Stands cursor after kept
    → step.number < last_number → step.reply ≡ spelling outcome.reply → step.new ≡ outcome.after → index_in cursor.serial step.old ≡ Some def
    → asked_by cursor step.old (read step.number step.words) ≡ Some n
    → outcome ≡ read_gives kept (stream_reads cursor def (at_moment step.moment step.old) after n) (at_moment step.moment step.old) → Reads cursor step (Some after)
reads cursor step after n def kept outcome is stands below said led index asks e = record {
  after = after;
  count = n;
  there = refl;
  read = ap₂ read_from (after-is cursor now (Some after) (kept, is, stands)) (done-asks cursor step (Some n) (Some n) below says asks);
  left = left;
  shows = shows cursor step after n def index replied left;
}
  where
    now : State
    now = at_moment step.moment step.old

    replied : step.reply ≡ spelling (rows_shown cursor.id n (filter_map (row_in cursor (Some def)) (docs cursor def (at_moment step.moment step.old) after n)))
    replied = said ∙ (ap (λ (o : Outcome). spelling o.reply) e ∙ ap spelling (reply-is cursor def now after n kept.id ∙ ap (λ id. rows_shown id n (filter_map (row_in cursor (Some def)) (docs cursor def now after n))) (id-is cursor def now after n kept is stands)))

    says : step.reply ≢ spelling out_of_memory
    says want = array-says _ (sym replied ∙ want)

    left : IsAt cursor step.new.cursors (left_of after n (docs_of cursor step (record { after = after; count = n })))
    left = left-by cursor step after n def index _ (ap (λ (m : State). m.cursors) (led ∙ ap (λ (o : Outcome). o.after) e)) (left-is cursor def now after n kept is stands)

own-goes : (cursor : StreamCursor) (step : Step) (at : Option ℕ) → step.number < last_number → (outcome : Outcome) → step.reply ≡ spelling outcome.reply → step.new ≡ outcome.after
    → IsAt cursor (at_moment step.moment step.old).cursors at → (def : IndexDef) (count : Option ℕ) → index_in cursor.serial step.old ≡ Some def
    → asked_by cursor step.old (read step.number step.words) ≡ Some (unwrap_or count cursor.count)
    → outcome ≡ read_of def count (cursor_of cursor.serial cursor.id (at_moment step.moment step.old).cursors) (at_moment step.moment step.old) → Goes cursor step at
own-goes cursor step None below outcome said led is def count index asks e =
    let now = at_moment step.moment step.old in
    let away : cursor_of cursor.serial cursor.id now.cursors ≡ None = find-none _ now.cursors is in
    let same : step.new ≡ now = led ∙ ap (λ (o : Outcome). o.after) (e ∙ ap (λ f. read_of def count f now) away) in
    inl (ap (λ a. read_from a (asked cursor step)) (after-is cursor now None is), inl (subst (λ (m : State). IsAt cursor m.cursors None) (sym same) is))
own-goes cursor step (Some after) below outcome said led is def count index asks e =
    let now = at_moment step.moment step.old in
    let kept = is.0 in
    let there : cursor_of cursor.serial cursor.id now.cursors ≡ Some kept = find-some _ now.cursors kept is.1 in
    let part : part_of def now.space (unwrap_or count kept.count) kept.body ≡ stream_reads cursor def now after (unwrap_or count cursor.count) =
    ap₂ (λ k b. part_of def now.space (unwrap_or count k) b) is.2.count is.2.body in
    inr (reads cursor step after (unwrap_or count cursor.count) def kept outcome is.1 is.2 below said led index asks
    (e ∙ (ap (λ f. read_of def count f now) there ∙ ap (λ p. read_gives kept p now) part)))

module _ (cursor : StreamCursor) (step : Step) (at : Option ℕ) (sound : Sound step.number step.old) (later : cursor.id < step.number) (below : step.number < last_number)
    (outcome : Outcome) (said : step.reply ≡ spelling outcome.reply) (led : step.new ≡ outcome.after) (is : IsAt cursor (at_moment step.moment step.old).cursors at) where
  named-goes : (name : List ℕ) (id : ℕ) (count : Option ℕ) (index : Option Defined) → read step.number step.words ≡ Ok (CursorRead name id count) → index_of step.old.definitions name ≡ index
      → outcome ≡ cursor_read index id count (at_moment step.moment step.old) → Goes cursor step at
  named-goes name id count None asks there e =
      told cursor step at sound later below outcome said led is _ (asks-none cursor step at (ap (asked_by cursor step.old) asks ∙ ap (λ i. cond (are_its cursor i id) (Some (unwrap_or count cursor.count)) None) there)) e
  named-goes name id count (Some index) asks there e = pick (nat_eq index.def.serial cursor.serial && nat_eq id cursor.id) refl
    where
      asked-is : asked_by cursor step.old (read step.number step.words) ≡ cond (nat_eq index.def.serial cursor.serial && nat_eq id cursor.id) (Some (unwrap_or count cursor.count)) None
      asked-is = ap (asked_by cursor step.old) asks ∙ ap (λ i. cond (are_its cursor i id) (Some (unwrap_or count cursor.count)) None) there

      pick : (b : Bool) → (nat_eq index.def.serial cursor.serial && nat_eq id cursor.id) ≡ b → Goes cursor step at
      pick false apart =
          other-goes cursor step at sound later below outcome said led is index.def index.def.serial id count _ apart refl
          (asks-none cursor step at (asked-is ∙ ap (λ b. cond b (Some (unwrap_or count cursor.count)) None) apart)) e
      pick true own =
          let its = and_parts (nat_eq index.def.serial cursor.serial) (nat_eq id cursor.id) own in
          let serial = eqb-true index.def.serial cursor.serial its.0 in
          own-goes cursor step at below outcome said led is index.def count
          (subst (λ (s : ℕ). index_in s step.old ≡ Some index.def) serial (index-is step.number step.old name index sound there))
          (asked-is ∙ ap (λ b. cond b (Some (unwrap_or count cursor.count)) None) own)
          (e ∙ ap₂ (λ s i. read_of index.def count (cursor_of s i (at_moment step.moment step.old).cursors) (at_moment step.moment step.old)) serial (eqb-true id cursor.id its.1))

  given-goes : (asks : Asked) → read step.number step.words ≡ Ok asks → KeptBy cursor step.number (at_moment step.moment step.old) asks outcome → given asks step.number (at_moment step.moment step.old) outcome → Goes cursor step at
  given-goes (Plain verb args) asks k e = kept cursor step at sound later below outcome said led is (asks-none cursor step at (ap (asked_by cursor step.old) asks)) k
  given-goes (CreateIndex index) asks k e = kept cursor step at sound later below outcome said led is (asks-none cursor step at (ap (asked_by cursor step.old) asks)) k
  given-goes (AlterIndex index fields) asks k e = kept cursor step at sound later below outcome said led is (asks-none cursor step at (ap (asked_by cursor step.old) asks)) k
  given-goes (Search what) asks k e = kept cursor step at sound later below outcome said led is (asks-none cursor step at (ap (asked_by cursor step.old) asks)) k
  given-goes (Aggregate what) asks k e = kept cursor step at sound later below outcome said led is (asks-none cursor step at (ap (asked_by cursor step.old) asks)) k
  given-goes (CursorRead name id count) asks k e = named-goes name id count (index_of step.old.definitions name) asks refl e
  given-goes (CursorDel index id) asks k e = kept cursor step at sound later below outcome said led is (asks-none cursor step at (ap (asked_by cursor step.old) asks)) k

  asked-goes : (name : List ℕ) (asked : Result Asked CmdFault) → read step.number step.words ≡ asked → asked_gives name asked step.number (at_moment step.moment step.old) outcome → Goes cursor step at
  asked-goes name (Ok asks) is-read (inl e) = given-goes asks is-read (given-kept cursor step.number (at_moment step.moment step.old) asks outcome (read-serial step.number step.words asks is-read) e) e
  asked-goes name (Ok asks) is-read (inr want) = wanted cursor step at sound later below outcome said led is want.1
  asked-goes name (Err fault) is-read e = told cursor step at sound later below outcome said led is _ (asks-none cursor step at (ap (asked_by cursor step.old) is-read)) e

  words-goes : words_give step.words step.number (at_moment step.moment step.old) outcome → Goes cursor step at
  words-goes (inl e) = asked-goes _ (read step.number step.words) refl e
  words-goes (inr want) = wanted cursor step at sound later below outcome said led is want.1

-- at the last number nothing is asked of it
last-asks : (cursor : StreamCursor) (step : Step) → last_number ≤ step.number → asked cursor step ≡ None
last-asks cursor step le = ap (λ b. cond (b && not (bytes_eq step.reply (spelling out_of_memory))) (asked_by cursor step.old (read step.number step.words)) None) (false_from_ne_true _ (λ e. not-below step.number last_number le (ltb-true step.number last_number e)))
  where
    not-below : (n top : ℕ) → top ≤ n → n < top → ⊥
    not-below n top le lt = omega (arith, le, lt)

-- a cursor that is idle at the moment is gone
idle-goes : (cursor : StreamCursor) (step : Step) (at : Option ℕ) → Goes cursor step None → Goes cursor step at
idle-goes cursor step at (inl (none, inl gone)) = inl (none, inr gone)
idle-goes cursor step at (inl (none, inr gone)) = inl (none, inr gone)
idle-goes cursor step at (inr r) = absurd (let no : None ≡ Some r.after = r.there in let bad : ⊥ = cc in bad)

pub step-goes : (cursor : StreamCursor) (step : Step) (at : Option ℕ) → Answers step.words step.number step.moment step.old step.reply step.new → Sound step.number step.old → cursor.id < step.number
    → IsAt cursor step.old.cursors at → Goes cursor step at
step-goes cursor step at (inl x) sound later is = by (filter-leaves cursor _ step.old.cursors at is)
  where
    by : Left cursor (at_moment step.moment step.old).cursors at → Goes cursor step at
    by (inl there) = words-goes cursor step at sound later x.0 x.1.outcome x.1.reply x.1.after there x.1.may
    by (inr gone) = idle-goes cursor step at (words-goes cursor step None sound later x.0 x.1.outcome x.1.reply x.1.after gone x.1.may)
step-goes cursor step at (inr x) sound later is =
    unasked cursor step at (last-asks cursor step x.0) (inl (subst (λ (m : State). IsAt cursor m.cursors at) (sym x.2) is))
