-- A run goes on by an event.
use Rattle.std.proofs.Common.{◌≡◌, ℕ, zero, suc, ◌<◌, ◌≤◌, List, [], ◌∷◌, ◌++◌, length, get_or, arith, refl, sym, ap, subst, ◌∙◌, append_assoc, append-nil}
use Rattle.std.specs.Prelude.{Option, Result, Ok, Err, OnErr}
use mathlib.Core.Option.{some, some-injective, some-ne-none}
use lib.ListN.{get_elem?}
use Rattle.history_core.specs.Entries.{Entry, Scanned}
use Rattle.history_core.specs.Events.{Behind, Happens}
use Rattle.history_core.specs.Histories.{Leads}
use Rattle.history_core.specs.Pictures.{taken}
use Rattle.history_core.specs.Running.{IsStep, Makes, Runs}
use Rattle.history_core.specs.declared.event.Event.{Event}
use Rattle.history_core.specs.declared.event.Outcome.{Outcome}
use Rattle.history_core.proofs.GrowingLaws.{leads_append}

-- the item of a loop is the item at its place
pub at_index : {A : Type 0} (l : List A) (i : ℕ) (a : A) → i < length l → a ≡ get_or l i a → get_elem? l i ≡ some a
at_index [] i a h e = absurd (omega arith)
at_index (x ∷ xs) zero a h e = ap some (sym e)
at_index (x ∷ xs) (suc i) a h e = at_index xs i a (omega arith) e

-- what holds, holds where there is an error
pub whatever : {T E P : Type 0} (result : Result T E) → P → OnErr result P
whatever (Ok value) holds = tt
whatever (Err fault) holds = holds

-- before the first event
pub few_none : (A : Type 0) (events : List Event) → length {A = Outcome A} [] ≤ length events
few_none A events = omega arith

module _ {M K N A P : Type 0} (step : M → ℕ → List (List ℕ) → List ℕ → M → Type 0) (scans : M → List ℕ → Scanned K → M → Type 0) (splices : M → P → A → M → Type 0)
    (pictures : K → List P) (name : P → N) (Clean : P → Type 0) where
  -- one event more, behind those before it
  runs_more : (before : List (Entry K N A)) (events : List Event) (outcomes : List (Outcome A)) (made more : List (Entry K N A)) (event : Event) (outcome : Outcome A)
      → get_elem? events (length outcomes) ≡ some event → Runs pictures name Clean before events outcomes made → Makes pictures name Clean (before ++ made) event outcome more
      → Runs pictures name Clean before events (outcomes ++ outcome ∷ []) (made ++ more)
  runs_more before [] outcomes made more event outcome is runs makes = absurd (some-ne-none event (sym is))
  runs_more before (x ∷ events) [] made more event outcome is runs makes = (
    more,
    [],
    ap (λ (l : List (Entry K N A)). l ++ more) runs ∙ sym (append-nil more),
    subst (λ (e : Event). Makes pictures name Clean before e outcome more) (sym (some-injective x event is))
        (subst (λ (l : List (Entry K N A)). Makes pictures name Clean l event outcome more) (ap (λ (l : List (Entry K N A)). before ++ l) runs ∙ append-nil before) makes),
    nothing events,
  )
    where
      nothing : (events : List Event) → Runs {A = A} pictures name Clean (before ++ more) events [] []
      nothing events = refl
  runs_more before (x ∷ events) (y ∷ outcomes) made more event outcome is runs makes = (
    runs.0,
    runs.1 ++ more,
    ap (λ (l : List (Entry K N A)). l ++ more) runs.2 ∙ append_assoc runs.0 runs.1 more,
    runs.3,
    runs_more (before ++ runs.0) events outcomes runs.1 more event outcome is runs.4
        (subst (λ (l : List (Entry K N A)). Makes pictures name Clean l event outcome more) (ap (λ (l : List (Entry K N A)). before ++ l) runs.2 ∙ sym (append_assoc before runs.0 runs.1)) makes),
  )

  -- What a run has come to: the entries of the events so far, that they lead to the machine, and what their scans took.
  pub record Going (events : List Event) (outcomes : List (Outcome A)) (old now : M) (kept : List (Option (List P))) : Type 0 where
    pub entries : List (Entry K N A)
    pub runs : Runs pictures name Clean [] events outcomes entries
    pub leads : Leads (IsStep step scans splices pictures name) [] old entries now
    pub holds : kept ≡ taken pictures entries

  -- no event happened yet
  pub begins : (events : List Event) (old : M) → Going events [] old old []
  begins events old = record { entries = []; runs = nothing events; leads = refl; holds = refl }
    where
      nothing : (events : List Event) → Runs {A = A} pictures name Clean [] events [] []
      nothing events = refl

  -- the next event happened
  pub goes_on : (events : List Event) (outcomes : List (Outcome A)) (event : Event) (outcome : Outcome A) (old mid new : M) (kept later : List (Option (List P)))
      → get_elem? events (length outcomes) ≡ some event → Going events outcomes old mid kept → Happens step scans splices pictures name Clean event outcome mid new kept later
      → Going events (outcomes ++ outcome ∷ []) old new later
  goes_on events outcomes event outcome old mid new kept later is going happens =
      let behind : Behind step scans splices pictures name Clean going.entries event outcome mid new later = happens going.entries going.holds in
      record {
        entries = going.entries ++ behind.made;
        runs = runs_more [] events outcomes going.entries behind.made event outcome is going.runs behind.makes;
        leads = leads_append (IsStep step scans splices pictures name) [] going.entries behind.made old mid new going.leads behind.leads;
        holds = behind.holds;
      }
