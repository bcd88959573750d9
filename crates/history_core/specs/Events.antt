-- One event of a run. No public clause cites this file.
use Rattle.std.specs.Prelude.{◌≡◌, ℕ, List, [], ◌∷◌, ◌++◌, Some}
use Rattle.std.specs.declared.option.Option.{Option}
use Rattle.history_core.specs.Entries.{Entry, Scanned}
use Rattle.history_core.specs.Histories.{Leads}
use Rattle.history_core.specs.Pictures.{listed, taken, taken_by}
use Rattle.history_core.specs.Running.{IsStep, Makes, ShowsScan}
use Rattle.history_core.specs.declared.event.Event.{Event}
use Rattle.history_core.specs.declared.event.Outcome.{Outcome}
use Rattle.history_core.specs.declared.event.Outcome.TheVariants as outcome

-- each picture that a scan of the run took is good
abbrev pub AllGood : {M P : Type 0} → (P → M → Type 0) → List (Option (List P)) → M → Type 0
AllGood {M} {P} good scans machine = (scan list : ℕ) (picture : P) → listed scans scan list ≡ Some picture → good picture machine

-- A scan, what it came to, and what is kept of it behind what is kept of those before it.
abbrev pub Scanning : {M K A P : Type 0} → (M → List ℕ → Scanned K → M → Type 0) → (K → List P) → List ℕ → Outcome A → M → M → List (Option (List P)) → List (Option (List P)) → Type 0
Scanning {M} {K} scans pictures index outcome old new olds news =
    (result : Scanned K) × scans old index result new × ShowsScan pictures result outcome × (news ≡ olds ++ taken_by pictures result ∷ [])

-- What became of a picture that was to be repaired and spliced.
abbrev pub Did : {M A P : Type 0} → (M → P → A → M → Type 0) → (P → Type 0) → P → Outcome A → M → M → Type 0
Did splices Clean picture (outcome.Spliced answer) old new = (Clean picture → ⊥) × splices old picture answer new
Did splices Clean picture outcome.Clean old new = Clean picture × (new ≡ old)
Did splices Clean picture outcome.NoMemory old new = new ≡ old
Did splices Clean picture _ old new = ⊥

module _ {M K N A P : Type 0} (step : M → ℕ → List (List ℕ) → List ℕ → M → Type 0) (scans : M → List ℕ → Scanned K → M → Type 0) (splices : M → P → A → M → Type 0)
    (pictures : K → List P) (name : P → N) (Clean : P → Type 0) where
  -- The event is an entry or none behind these, and leads so from the state before it to the one after.
  pub record Behind (before : List (Entry K N A)) (event : Event) (outcome : Outcome A) (old new : M) (kept : List (Option (List P))) : Type 0 where
    pub made : List (Entry K N A)
    pub makes : Makes pictures name Clean before event outcome made
    pub leads : Leads (IsStep step scans splices pictures name) before old made new
    pub holds : kept ≡ taken pictures (before ++ made)

  -- The same behind any entries whose scans took what is kept of scans.
  abbrev pub Happens : Event → Outcome A → M → M → List (Option (List P)) → List (Option (List P)) → Type 0
  Happens event outcome old new olds news = (before : List (Entry K N A)) → olds ≡ taken pictures before → Behind before event outcome old new news
