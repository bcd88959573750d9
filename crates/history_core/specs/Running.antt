-- What a run makes of events: the entries that they and their outcomes are, each a step of the machine.
use Rattle.std.specs.Prelude.{◌≡◌, ◌<◌, ℕ, List, [], ◌∷◌, ◌++◌, length, Some, None, Ok, Err}
use Rattle.std.specs.declared.option.Option.{Option}
use Rattle.std.specs.declared.result.Result.{Result}
use Rattle.ft_base.specs.Spans.{words_of}
use Rattle.ft_base.specs.Words.{KeepsLimits}
use Rattle.history_core.specs.Entries.{Entry, Exec, Scan, Scanned, Splice, Taken}
use Rattle.history_core.specs.Entries as entries
use Rattle.history_core.specs.Histories.{at}
use Rattle.history_core.specs.Pictures.{Pictured, listed, scan_place, taken}
use Rattle.history_core.specs.declared.event.Event.{Event}
use Rattle.history_core.specs.declared.event.Event.TheVariants as event
use Rattle.history_core.specs.declared.event.Outcome.{Outcome}
use Rattle.history_core.specs.declared.event.Outcome.TheVariants as outcome

-- words that may be executed: there is one, and they keep the limits
abbrev pub AreLawful : List (List ℕ) → Type 0
AreLawful words = (0 < length words) × KeepsLimits words

-- an event that may be given to a machine
abbrev pub IsLawful : Event → Type 0
IsLawful (event.Exec caller now frame) = AreLawful (words_of frame.bytes frame.spans)
IsLawful (event.Scan caller index) = Unit {0}
IsLawful (event.Splice caller scan list) = Unit {0}

-- What a scan came to, by its result: how many lists it pictured, or nothing.
abbrev pub ShowsScan : {K A P : Type 0} → (K → List P) → Scanned K → Outcome A → Type 0
ShowsScan pictures (Taken snapshot) (outcome.Scanned lists) = lists ≡ length (pictures snapshot)
ShowsScan pictures entries.NoIndex outcome.NoIndex = Unit {0}
ShowsScan pictures entries.NoMemory outcome.NoMemory = Unit {0}
ShowsScan pictures result outcome = ⊥

-- `pictures` gives the lists that a snapshot pictures, `name` the name of a pictured list, and `Clean` says that it has no entry
-- that was dead at its scan.
module _ {K N A P : Type 0} (pictures : K → List P) (name : P → N) (Clean : P → Type 0) where
  -- What a splice came to, by the picture of its list, where that is there, and the entry that it is: none where there is no
  -- picture, where the picture is clean, and where the repair had no memory.
  abbrev pub ShowsSplice : ℕ → ℕ → Option P → Outcome A → List (Entry K N A) → Type 0
  ShowsSplice caller place None outcome.NoPicture made = made ≡ []
  ShowsSplice caller place (Some picture) outcome.Clean made = Clean picture × (made ≡ [])
  ShowsSplice caller place (Some picture) (outcome.Spliced answer) made = (Clean picture → ⊥) × (made ≡ Splice caller place (name picture) answer ∷ [])
  ShowsSplice caller place (Some picture) outcome.NoMemory made = made ≡ []
  ShowsSplice caller place picture outcome made = ⊥

  -- the entry that an event and its outcome are behind those before it, if they are one
  abbrev pub Makes : List (Entry K N A) → Event → Outcome A → List (Entry K N A) → Type 0
  Makes before (event.Exec caller now frame) (outcome.Replied reply) made = made ≡ Exec caller now (words_of frame.bytes frame.spans) reply ∷ []
  Makes before (event.Scan caller index) outcome made = (result : Scanned K) × ShowsScan pictures result outcome × (made ≡ Scan caller index result ∷ [])
  Makes before (event.Splice caller scan list) outcome made = ShowsSplice caller (scan_place before scan) (listed (taken pictures before) scan list) outcome made
  Makes before event outcome made = ⊥

  -- the entries that events are in order, as far as there are outcomes, behind those before them
  abbrev pub Runs : List (Entry K N A) → List Event → List (Outcome A) → List (Entry K N A) → Type 0
  Runs before events [] made = made ≡ []
  Runs before [] (outcome ∷ outcomes) made = ⊥
  Runs before (event ∷ events) (outcome ∷ outcomes) made =
      (first rest : List (Entry K N A)) × (made ≡ first ++ rest) × Makes before event outcome first × Runs (before ++ first) events outcomes rest

-- `step`, `scans` and `splices` say which steps of a machine a command, a scan and a splice may be.
module _ {M K N A P : Type 0} (step : M → ℕ → List (List ℕ) → List ℕ → M → Type 0) (scans : M → List ℕ → Scanned K → M → Type 0) (splices : M → P → A → M → Type 0)
    (pictures : K → List P) (name : P → N) where
  -- a splice of a list that an earlier scan pictured
  pub record IsSplice (before : List (Entry K N A)) (scan : ℕ) (called : N) (answer : A) (old new : M) : Type 0 where
    pub snapshot : K
    pub list : ℕ
    pub picture : P
    pub pictured : Pictured before scan snapshot
    pub there : at (pictures snapshot) list ≡ Some picture
    pub is_named : name picture ≡ called
    pub splices_it : splices old picture answer new

  -- An entry is a step of a machine, whoever made it: of lawful words, or of a scan, or of a splice.
  abbrev pub IsStep : List (Entry K N A) → M → Entry K N A → M → Type 0
  IsStep before old (Exec caller moment words reply) new = AreLawful words × step old moment words reply new
  IsStep before old (Scan caller index result) new = scans old index result new
  IsStep before old (Splice caller scan called answer) new = IsSplice before scan called answer old new

-- What a scan answers is what it took: the lists of a snapshot, nothing, or no memory.
abbrev pub Takes : {K P E : Type 0} → (K → List P) → (Scanned K → Type 0) → Result (Option (List P)) E → Type 0
Takes {K} pictures Is (Ok (Some lists)) = (snapshot : K) × (lists ≡ pictures snapshot) × Is (Taken snapshot)
Takes pictures Is (Ok None) = Is entries.NoIndex
Takes pictures Is (Err fault) = Is entries.NoMemory

-- A repair is there exactly where the picture is not clean.
abbrev pub Repairs : {P R E : Type 0} → (P → Type 0) → (P → R → Type 0) → P → Result (Option R) E → Type 0
Repairs Clean IsRepair picture (Ok None) = Clean picture
Repairs Clean IsRepair picture (Ok (Some repair)) = (Clean picture → ⊥) × IsRepair picture repair
Repairs Clean IsRepair picture (Err fault) = Unit {0}
