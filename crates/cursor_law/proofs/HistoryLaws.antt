-- The law of stream cursors: what holds of all steps behind the opening, from what each step does.
use Rattle.std.proofs.Common.{◌≡◌, ◌⊎◌, inl, inr, ℕ, ◌<◌, ◌≤◌, ◌+◌, min, Bool, true, false, cond, nat_lt, ltb, List, [], ◌∷◌, ◌++◌, length, take, flat_map, Option, Some, None, refl, sym, ap, ap₂, subst, ◌∙◌, arith}
use Rattle.std.specs.List.{AllByRecursion}
use Rattle.std.proofs.lemmas.Bool.{ltb-false, ltb-true}
use Rattle.history_core.proofs.GrowingLaws.{number_more}
use Rattle.history_core.specs.Histories.{Leads, number}
use Rattle.history_core.specs.Entries.{Entry, Exec, Scan, Splice}
use Rattle.ft_base.specs.Docs.{Doc}
use Rattle.ft_machine.specs.History.{IsLegal, MayFollow, Readings}
use Rattle.ft_machine.specs.Machine.{State, empty_state}
use Rattle.ft_machine.specs.Parts.{behind, last_id}
use Rattle.ft_machine.specs.Step.{Answers, last_number, next_number}
use Rattle.cursor_law.specs.Given.{Read, docs_if, docs_of, first_read, given, given_at, read_at}
use Rattle.cursor_law.specs.Law.{AreHits, GivesAll, GivesHits, IsLastRead, Rises, ShowsIf, ShowsRead, ShowsRows, Stays}
use Rattle.cursor_law.specs.Opens.{Opens}
use Rattle.cursor_law.specs.Steps.{Step, steps, steps_from}
use Rattle.cursor_law.specs.StreamCursor.{StreamCursor, after_in, has_id, hits, index_in}
use Rattle.cursor_law.proofs.CursorLaws.{IsAt, after-is}
use Rattle.cursor_law.proofs.ListLaws.{first-ones, up-higher, up-take}
use Rattle.cursor_law.proofs.OpeningLaws.{Laws, Opened, opening}
use Rattle.cursor_law.proofs.PartLaws.{first-given, hits-up}
use Rattle.cursor_law.proofs.ReadLaws.{DocsUp, all-taken, behind-up, doc_id, has-behind, has-left, has-low, has-right, has-taken, ids-rise, then-up}
use Rattle.cursor_law.proofs.ReadingLaws.{left_of}
use Rattle.cursor_law.proofs.StateLaws.{Below, Sound, serial_of}
use Rattle.cursor_book.specs.declared.cursor.Cursor.{Cursor}
use Rattle.cursor_law.proofs.StepLaws.{Goes, step-goes, step-sound}

-- ---- the steps of a history, one after another

abbrev pub IsStep : Step → Type 0
IsStep step = Answers step.words step.number step.moment step.old step.reply step.new

-- Each step is from the state that the one before it led to. Scans and splices between two of them have numbers too.
abbrev pub Chain : ℕ → State → List Step → Type 0
Chain number state [] = Unit {0}
Chain number state (step ∷ steps) = (number ≤ step.number) × (step.number ≤ last_number) × (step.old ≡ state) × IsStep step × Chain (next_number step.number) step.new steps

-- the steps behind a number are behind a lower one
chain-lower : (low number : ℕ) (state : State) (steps : List Step) → low ≤ number → Chain number state steps → Chain low state steps
chain-lower low number state [] le chain = tt
chain-lower low number state (step ∷ steps) le chain = (omega (arith, le, chain.0), chain.1, chain.2, chain.3, chain.4)

cut-below : (n top : ℕ) → min n top ≤ top
cut-below n top = omega arith

cut-more : (n top : ℕ) → min n top ≤ min (min n top + 1) top
cut-more n top = omega arith

module _ {K N A : Type 0} (readings : Readings K N A) where
  -- an entry that is no step
  past : (first : ℕ) (before : List (Entry K N A)) (entry : Entry K N A) (old mid : State) (entries : List (Entry K N A)) (new : State) (legal : Leads (MayFollow readings first) (before ++ entry ∷ []) mid entries new)
      → mid ≡ old → Chain (number first (before ++ entry ∷ [])) mid (steps_from readings first (before ++ entry ∷ []) mid entries new legal)
      → Chain (number first before) old (steps_from readings first (before ++ entry ∷ []) mid entries new legal)
  past first before entry old mid entries new legal same chain =
      let on : Chain (number first (before ++ entry ∷ [])) old (steps_from readings first (before ++ entry ∷ []) mid entries new legal) =
      subst (λ (m : State). Chain (number first (before ++ entry ∷ [])) m (steps_from readings first (before ++ entry ∷ []) mid entries new legal)) same chain in
      let more : number first before ≤ number first (before ++ entry ∷ []) =
      subst (λ (n : ℕ). number first before ≤ n) (number_more first before entry) (cut-more (first + length before) last_number) in
      chain-lower (number first before) (number first (before ++ entry ∷ [])) old (steps_from readings first (before ++ entry ∷ []) mid entries new legal) more on

  chain-of : (first : ℕ) (before : List (Entry K N A)) (old : State) (entries : List (Entry K N A)) (new : State) (legal : Leads (MayFollow readings first) before old entries new)
      → Chain (number first before) old (steps_from readings first before old entries new legal)
  chain-of first before old [] new legal = tt
  chain-of first before old (Exec caller moment words reply ∷ entries) new legal = (
    omega arith,
    cut-below (first + length before) last_number,
    refl,
    legal.1.2,
    subst (λ (n : ℕ). Chain n legal.0 (steps_from readings first (before ++ Exec caller moment words reply ∷ []) legal.0 entries new legal.2)) (sym (number_more first before (Exec caller moment words reply)))
        (chain-of first (before ++ Exec caller moment words reply ∷ []) legal.0 entries new legal.2),
  )
  chain-of first before old (Scan caller index result ∷ entries) new legal =
      past first before (Scan caller index result) old legal.0 entries new legal.2 legal.1.0 (chain-of first (before ++ Scan caller index result ∷ []) legal.0 entries new legal.2)
  chain-of first before old (Splice caller scan name answer ∷ entries) new legal =
      past first before (Splice caller scan name answer) old legal.0 entries new legal.2 legal.1.0 (chain-of first (before ++ Splice caller scan name answer ∷ []) legal.0 entries new legal.2)

next-below : (number top : ℕ) → min (number + 1) top ≤ top
next-below number top = omega arith

-- what is of numbers before one is of numbers before a later one
ids-later : (low high : ℕ) (cursors : List Cursor) → low ≤ high → AllByRecursion (Below low) cursors → AllByRecursion (Below high) cursors
ids-later low high [] le all = tt
ids-later low high (cursor ∷ cursors) le all = (omega (arith, le, all.0), ids-later low high cursors le all.1)

sound-later : (low high : ℕ) (state : State) → low ≤ high → Sound low state → Sound high state
sound-later low high state le sound = record {
  first = omega (arith, le, sound.first);
  docs = up-higher doc_id 1 low high state.space le sound.docs;
  serials = up-higher serial_of 0 low high state.definitions le sound.serials;
  ids = ids-later low high state.cursors le sound.ids;
}

-- the step at a place
pub record Stage (step : Step) (later : List Step) : Type 0 where
  pub below : step.number ≤ last_number
  pub sound : Sound step.number step.old
  pub is : IsStep step
  pub behind : Chain (next_number step.number) step.new later

stage-here : (number : ℕ) (state : State) (step : Step) (later : List Step) → Sound number state → Chain number state (step ∷ later) → Stage step later
stage-here number state step later sound chain = record {
  below = chain.1;
  sound = sound-later number step.number step.old chain.0 (subst (λ (m : State). Sound number m) (sym chain.2) sound);
  is = chain.3;
  behind = chain.4;
}

stage-of : (cursor : StreamCursor) (number : ℕ) (state : State) (earlier later : List Step) (step : Step) → Sound number state → Chain number state (earlier ++ step ∷ later) → Stage step later
stage-of cursor number state [] later step sound chain = stage-here number state step later sound chain
stage-of cursor number state (x ∷ earlier) later step sound chain =
    let here : Stage x (earlier ++ step ∷ later) = stage-here number state x (earlier ++ step ∷ later) sound chain in
    stage-of cursor (next_number x.number) x.new earlier later step (step-sound cursor x.words x.number x.moment x.old x.reply x.new here.below here.is here.sound) here.behind

-- ---- what the steps do of the cursor

-- a step leaves it as it was or gone, or is a read
abbrev Moves : StreamCursor → Step → Option ℕ → Option ℕ → Type 0
Moves cursor step at next =
    ((read_at cursor step ≡ None) × ((next ≡ at) ⊎ (next ≡ None)))
    ⊎ ((read : Read) × (at ≡ Some read.after) × (read_at cursor step ≡ Some read) × (next ≡ left_of read.after read.count (docs_of cursor step read)) × ShowsRead cursor step read)

abbrev Course : StreamCursor → Option ℕ → List Step → Type 0
Course cursor at [] = Unit {0}
Course cursor at (step ∷ steps) =
    DocsUp 1 last_number step.old.space × ((next : Option ℕ) × (after_in cursor step.new ≡ next) × Moves cursor step at next × Course cursor next steps)

later-id : (id number top : ℕ) → id < number → number ≤ top → id < top → id < min (number + 1) top
later-id id number top lt le below = omega (arith, lt, le, below)

course-of : (cursor : StreamCursor) (number : ℕ) (state : State) (steps : List Step) (at : Option ℕ) → Sound number state → cursor.id < number → Chain number state steps → IsAt cursor state.cursors at → Course cursor at steps
course-of cursor number state [] at sound later chain is = tt
course-of cursor number state (step ∷ steps) at sound later chain is =
    (up-higher doc_id 1 step.number last_number step.old.space here.below here.sound.docs, by (step-goes cursor step at here.is here.sound now (subst (λ (m : State). IsAt cursor m.cursors at) (sym chain.2) is)) (λ next there. course-of cursor (next_number step.number) step.new steps next sounds (later-id cursor.id step.number last_number now here.below (below-top cursor.id step.number last_number now here.below)) here.behind there))
  where
    here : Stage step steps
    here = stage-here number state step steps sound chain

    now : cursor.id < step.number
    now = omega (arith, later, chain.0)

    below-top : (id number top : ℕ) → id < number → number ≤ top → id < top
    below-top id number top lt le = omega (arith, lt, le)

    sounds : Sound (next_number step.number) step.new
    sounds = step-sound cursor step.words step.number step.moment step.old step.reply step.new here.below here.is here.sound

    Then : Option ℕ → Type 0
    Then next = (after_in cursor step.new ≡ next) × Moves cursor step at next × Course cursor next steps

    by : Goes cursor step at → ((next : Option ℕ) → IsAt cursor step.new.cursors next → Course cursor next steps) → (next : Option ℕ) × (after_in cursor step.new ≡ next) × Moves cursor step at next × Course cursor next steps
    by (inl (none, inl there)) on = (at, after-is cursor step.new at there, inl (none, inl refl), on at there)
    by (inl (none, inr gone)) on = (None, after-is cursor step.new None gone, inl (none, inr refl), on None gone)
    by (inr r) on =
        let read : Read = record { after = r.after; count = r.count } in
        let next = left_of r.after r.count (docs_of cursor step read) in
        (next, after-is cursor step.new next r.left, inr (read, r.there, r.read, refl, r.shows), on next r.left)

never : {X : Type 0} (x : X) → None ≡ Some x → ⊥
never x e = cc

some-same : (a b : ℕ) → Some a ≡ Some b → a ≡ b
some-same a b e = cc

module _ (cursor : StreamCursor) where
  abbrev Given : List Step → List Doc
  Given steps = flat_map (given_at cursor) steps

  goes-to : (steps : List Step) (next to : Option ℕ) → next ≡ to → Course cursor next steps → Course cursor to steps
  goes-to steps next to e c = subst (λ (o : Option ℕ). Course cursor o steps) e c

  -- a cursor that is gone gives nothing more
  gone-gives : (steps : List Step) → Course cursor None steps → Given steps ≡ []
  gone-gives [] c = refl
  gone-gives (step ∷ steps) c = by c.1.2 (λ e. gone-gives steps (goes-to steps c.1.0 None e c.1.3))
    where
      by : Moves cursor step None c.1.0 → (c.1.0 ≡ None → Given steps ≡ []) → given_at cursor step ++ Given steps ≡ []
      by (inl (none, inl e)) on = ap₂ (λ l r. l ++ r) (ap (docs_if cursor step) none) (on e)
      by (inl (none, inr e)) on = ap₂ (λ l r. l ++ r) (ap (docs_if cursor step) none) (on e)
      by (inr r) on = absurd (never r.0.after r.1)

  gone-stays : (id : ℕ) (steps : List Step) → Course cursor None steps → Stays cursor id steps → ⊥
  gone-stays id [] c s = s
  gone-stays id (step ∷ steps) c s = by c.1.2 s.1 (λ e t. gone-stays id steps (goes-to steps c.1.0 None e c.1.3) t)
    where
      on-none : read_at cursor step ≡ None → IsLastRead cursor step ⊎ Stays cursor id steps → (Stays cursor id steps → ⊥) → ⊥
      on-none none (inl l) on = never l.0 (sym none ∙ l.1)
      on-none none (inr t) on = on t

      by : Moves cursor step None c.1.0 → IsLastRead cursor step ⊎ Stays cursor id steps → (c.1.0 ≡ None → Stays cursor id steps → ⊥) → ⊥
      by (inl (none, inl e)) x on = on-none none x (on e)
      by (inl (none, inr e)) x on = on-none none x (on e)
      by (inr r) x on = never r.0.after r.1

  -- ---- one read, and what comes behind it

  module _ (step : Step) (read : Read) (later : List Step) (next : Option ℕ) (up : DocsUp 1 last_number step.old.space)
      (left : next ≡ left_of read.after read.count (docs_of cursor step read)) (gone : next ≡ None → Given later ≡ []) where
    hits-rise : DocsUp 1 last_number (hits cursor step.old)
    hits-rise = hits-up cursor (index_in cursor.serial step.old) 1 last_number step.old.space up

    behind-rise : DocsUp (read.after + 1) last_number (behind read.after (hits cursor step.old))
    behind-rise = behind-up read.after 1 last_number (hits cursor step.old) hits-rise

    firsts : docs_of cursor step read ≡ take read.count (behind read.after (hits cursor step.old))
    firsts = first-given cursor (index_in cursor.serial step.old) read.after read.count step.old.space

    read-rises : ((b : ℕ) → next ≡ Some b → DocsUp (b + 1) last_number (Given later)) → DocsUp (read.after + 1) last_number (docs_of cursor step read ++ Given later)
    read-rises on =
        then-up (read.after + 1) read.after last_number (docs_of cursor step read) (Given later) (omega arith)
        (subst (λ (l : List Doc). DocsUp (read.after + 1) last_number l) (sym firsts) (up-take doc_id read.count (read.after + 1) last_number (behind read.after (hits cursor step.old)) behind-rise))
        (pick (nat_lt (length (docs_of cursor step read)) read.count) left)
      where
        pick : (b : Bool) → next ≡ cond b None (Some (last_id read.after (docs_of cursor step read))) → DocsUp (last_id read.after (docs_of cursor step read) + 1) last_number (Given later)
        pick true e = subst (λ (l : List Doc). DocsUp (last_id read.after (docs_of cursor step read) + 1) last_number l) (sym (gone e)) tt
        pick false e = on (last_id read.after (docs_of cursor step read)) e

    read-gives : (id : ℕ) → after_in cursor step.new ≡ next → read.after < id → has_id id (hits cursor step.old) ≡ true → (after_in cursor step.new ≡ None) ⊎ Stays cursor id later
        → ((b : ℕ) → next ≡ Some b → b < id → Stays cursor id later → has_id id (Given later) ≡ true) → has_id id (docs_of cursor step read ++ Given later) ≡ true
    read-gives id there lt hit ends on = pick (nat_lt (length (docs_of cursor step read)) read.count) refl left
      where
        here : has_id id (behind read.after (hits cursor step.old)) ≡ true
        here = has-behind id read.after (hits cursor step.old) lt hit

        goes : next ≡ Some (last_id read.after (docs_of cursor step read)) → last_id read.after (docs_of cursor step read) < id → (after_in cursor step.new ≡ None) ⊎ Stays cursor id later → has_id id (Given later) ≡ true
        goes e below (inl none) = absurd (never (last_id read.after (docs_of cursor step read)) (sym none ∙ (there ∙ e)))
        goes e below (inr stays) = on (last_id read.after (docs_of cursor step read)) e below stays

        side : (c : Bool) → ltb (last_id read.after (docs_of cursor step read)) id ≡ c → next ≡ Some (last_id read.after (docs_of cursor step read)) → has_id id (docs_of cursor step read ++ Given later) ≡ true
        side true k e = has-right id (docs_of cursor step read) (Given later) (goes e (ltb-true (last_id read.after (docs_of cursor step read)) id k) ends)
        side false k e =
            has-left id (docs_of cursor step read) (Given later)
            (subst (λ (l : List Doc). has_id id l ≡ true) (sym firsts) (has-taken id read.count read.after (read.after + 1) last_number (behind read.after (hits cursor step.old)) behind-rise lt (subst (λ (l : List Doc). id ≤ last_id read.after l) firsts (ltb-false (last_id read.after (docs_of cursor step read)) id k)) here))

        pick : (b : Bool) → nat_lt (length (docs_of cursor step read)) read.count ≡ b → next ≡ cond b None (Some (last_id read.after (docs_of cursor step read))) → has_id id (docs_of cursor step read ++ Given later) ≡ true
        pick true k e = has-left id (docs_of cursor step read) (Given later) (subst (λ (l : List Doc). has_id id l ≡ true) (sym (firsts ∙ all-taken read.count (behind read.after (hits cursor step.old)) (ap (λ l. nat_lt (length l) read.count) (sym firsts) ∙ k))) here)
        pick false k e = side (ltb (last_id read.after (docs_of cursor step read)) id) refl e

  -- ---- all steps

  rises : (steps : List Step) (a : ℕ) → Course cursor (Some a) steps → DocsUp (a + 1) last_number (Given steps)
  rises [] a c = tt
  rises (step ∷ steps) a c = by c.1.2 (λ b e. rises steps b (goes-to steps c.1.0 (Some b) e c.1.3)) (λ e. gone-gives steps (goes-to steps c.1.0 None e c.1.3))
    where
      by : Moves cursor step (Some a) c.1.0 → ((b : ℕ) → c.1.0 ≡ Some b → DocsUp (b + 1) last_number (Given steps)) → (c.1.0 ≡ None → Given steps ≡ []) → DocsUp (a + 1) last_number (given_at cursor step ++ Given steps)
      by (inl (none, inl e)) on gone = subst (λ (l : List Doc). DocsUp (a + 1) last_number (l ++ Given steps)) (sym (ap (docs_if cursor step) none)) (on a e)
      by (inl (none, inr e)) on gone = subst (λ (l : List Doc). DocsUp (a + 1) last_number (l ++ Given steps)) (sym (ap (docs_if cursor step) none)) (subst (λ (l : List Doc). DocsUp (a + 1) last_number l) (sym (gone e)) tt)
      by (inr r) on gone =
          subst (λ (l : List Doc). DocsUp (a + 1) last_number (l ++ Given steps)) (sym (ap (docs_if cursor step) r.2))
          (subst (λ (n : ℕ). DocsUp (n + 1) last_number (docs_of cursor step r.0 ++ Given steps)) (sym (some-same a r.0.after r.1)) (read-rises step r.0 steps c.1.0 c.0 r.3 gone on))

  gives : (id : ℕ) (steps : List Step) (a : ℕ) → Course cursor (Some a) steps → a < id → Stays cursor id steps → has_id id (Given steps) ≡ true
  gives id [] a c lt s = absurd s
  gives id (step ∷ steps) a c lt s =
      by c.1.2 s.1 (λ b e below t. gives id steps b (goes-to steps c.1.0 (Some b) e c.1.3) below t) (λ e. gone-gives steps (goes-to steps c.1.0 None e c.1.3)) (λ e t. gone-stays id steps (goes-to steps c.1.0 None e c.1.3) t)
    where
      ends : IsLastRead cursor step ⊎ Stays cursor id steps → (after_in cursor step.new ≡ None) ⊎ Stays cursor id steps
      ends (inl l) = inl l.2
      ends (inr t) = inr t

      by : Moves cursor step (Some a) c.1.0 → IsLastRead cursor step ⊎ Stays cursor id steps
          → ((b : ℕ) → c.1.0 ≡ Some b → b < id → Stays cursor id steps → has_id id (Given steps) ≡ true) → (c.1.0 ≡ None → Given steps ≡ []) → (c.1.0 ≡ None → Stays cursor id steps → ⊥)
          → has_id id (given_at cursor step ++ Given steps) ≡ true
      by (inl (none, e)) (inl l) on gone bad = absurd (never l.0 (sym none ∙ l.1))
      by (inl (none, inl e)) (inr t) on gone bad = has-right id (given_at cursor step) (Given steps) (on a e lt t)
      by (inl (none, inr e)) (inr t) on gone bad = absurd (bad e t)
      by (inr r) x on gone bad =
          subst (λ (l : List Doc). has_id id (l ++ Given steps) ≡ true) (sym (ap (docs_if cursor step) r.2))
          (read-gives step r.0 steps c.1.0 c.0 r.3 gone id c.1.1 (subst (λ (n : ℕ). n < id) (some-same a r.0.after r.1) lt) s.0 (ends x) on)

  shows-all : (steps : List Step) (at : Option ℕ) → Course cursor at steps → AllByRecursion (λ (step : Step). ShowsIf cursor step (read_at cursor step)) steps
  shows-all [] at c = tt
  shows-all (step ∷ steps) at c = (by c.1.2, shows-all steps c.1.0 c.1.3)
    where
      by : Moves cursor step at c.1.0 → ShowsIf cursor step (read_at cursor step)
      by (inl (none, e)) = subst (ShowsIf cursor step) (sym none) tt
      by (inr r) = subst (ShowsIf cursor step) (sym r.2) r.4

  are-hits : (step : Step) (read : Option Read) → AreHits cursor step.old (docs_if cursor step read)
  are-hits step None = tt
  are-hits step (Some read) =
      subst (AreHits cursor step.old) (sym (first-given cursor (index_in cursor.serial step.old) read.after read.count step.old.space))
      (first-ones (λ (doc : Doc). nat_lt read.after doc.id) read.count (hits cursor step.old))

  hits-all : (steps : List Step) → AllByRecursion (λ (step : Step). AreHits cursor step.old (given_at cursor step)) steps
  hits-all [] = tt
  hits-all (step ∷ steps) = (are-hits step (read_at cursor step), hits-all steps)

-- ---- from the opening on

pub record Whole (cursor : StreamCursor) (opening : Step) (later : List Step) : Type 0 where
  pub docs : DocsUp 1 last_number opening.old.space
  pub next : Option ℕ
  pub there : after_in cursor opening.new ≡ next
  pub left : next ≡ left_of 0 cursor.count (docs_of cursor opening (first_read cursor))
  pub course : Course cursor next later
  pub shows : ShowsRead cursor opening (first_read cursor)

first-sound : {K N A : Type 0} (none : List (Entry K N A)) (first : ℕ) → 0 < first → Sound (number first none) empty_state
first-sound none first some = record { first = at-least first (length none) last_number some (omega arith); docs = tt; serials = tt; ids = tt }
  where
    at-least : (first more top : ℕ) → 0 < first → 1 ≤ top → 1 ≤ min (first + more) top
    at-least first more top some one = omega (arith, some, one)

pub whole-of : Laws → {K N A : Type 0} (readings : Readings K N A) (first : ℕ) (entries : List (Entry K N A)) (after : State) (legal : IsLegal readings first entries after) (earlier later : List Step) (opening : Step) (cursor : StreamCursor)
    → 0 < first → steps readings first entries after legal ≡ earlier ++ opening ∷ later → Opens cursor opening → Whole cursor opening later
whole-of laws {K} {N} {A} readings first entries after legal earlier later step cursor some split opens = record {
  docs = up-higher doc_id 1 step.number last_number step.old.space stage.below stage.sound.docs;
  next = next;
  there = after-is cursor step.new next opened.left;
  left = refl;
  course = course-of cursor (next_number step.number) step.new later next
      (step-sound cursor step.words step.number step.moment step.old step.reply step.new stage.below stage.is stage.sound)
      (opened-later cursor.id step.number last_number opens.id opens.number) stage.behind opened.left;
  shows = opened.shows;
}
  where
    chain : Chain (number {E = Entry K N A} first []) empty_state (earlier ++ step ∷ later)
    chain = subst (λ (l : List Step). Chain (number {E = Entry K N A} first []) empty_state l) split (chain-of readings first [] empty_state entries after legal)

    stage : Stage step later
    stage = stage-of cursor (number {E = Entry K N A} first []) empty_state earlier later step (first-sound {K = K} {N = N} {A = A} [] first some) chain

    opened : Opened cursor step
    opened = opening cursor step opens stage.sound laws stage.is

    next : Option ℕ
    next = left_of 0 cursor.count (docs_of cursor step (first_read cursor))

    opened-later : (id number top : ℕ) → id ≡ number → number < top → id < min (number + 1) top
    opened-later id number top is below = omega (arith, is, below)

module _ (cursor : StreamCursor) (opening : Step) (later : List Step) (w : Whole cursor opening later) where
  gone-later : w.next ≡ None → Given cursor later ≡ []
  gone-later e = gone-gives cursor later (goes-to cursor later w.next None e w.course)

  pub all-rise : Rises cursor opening later
  all-rise = ids-rise 1 last_number (given cursor opening later)
      (read-rises cursor opening (first_read cursor) later w.next w.docs w.left gone-later (λ b e. rises cursor later b (goes-to cursor later w.next (Some b) e w.course)))

  pub all-given : GivesAll cursor opening later
  all-given id s =
      let low = has-low id 1 last_number (hits cursor opening.old) (hits-up cursor (index_in cursor.serial opening.old) 1 last_number opening.old.space w.docs) s.0 in
      read-gives cursor opening (first_read cursor) later w.next w.docs w.left gone-later id w.there low s.0 s.1
      (λ b e below t. gives cursor id later b (goes-to cursor later w.next (Some b) e w.course) below t)

  pub all-shown : ShowsRows cursor opening later
  all-shown = (w.shows, shows-all cursor later w.next w.course)

pub all-hits : (cursor : StreamCursor) (opening : Step) (later : List Step) → GivesHits cursor opening later
all-hits cursor opening later = (are-hits cursor opening (Some (first_read cursor)), hits-all cursor later)
