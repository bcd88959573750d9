-- Histories of the machine: what happened, entry by entry, each legal in the state before it.
use Rattle.std.specs.Prelude.{◌≡◌, ◌≢◌, ◌<◌, ◌≤◌, ◌↔◌, ℕ, List, [], length, Bool, true, false, nat_eq, Option, Some, None}
use Rattle.std.specs.List.{list_any}
use Rattle.ft_base.specs.Docs.{Doc}
use Rattle.ft_base.specs.Words.{KeepsLimits}
use Rattle.ft_meaning.specs.Member.{members}
use Rattle.history_core.specs.Entries.{Entry, Exec, NoIndex, NoMemory, Scan, Scanned, Splice, Taken}
use Rattle.history_core.specs.Histories.{Leads, number}
use Rattle.history_core.specs.Pictures.{Pictured}
use Rattle.ft_machine.specs.Definitions.{Defined, index_of}
use Rattle.ft_machine.specs.Machine.{State, empty_state}
use Rattle.ft_machine.specs.Step.{Answers, last_number}

-- What became of the repair of a list: it was laid over the list; or that has another form by now, and these are the markers of
-- both, the pictured one first; or there is no such list; or there is no number for the event.
pub data Became : Type 0 where
  Done : Became
  Moved : (seen now : ℕ × ℕ) → Became
  Gone : Became
  LastEvent : Became

-- What a history reads of its snapshots, of the names of lists, and of the answers of splices, of whatever types they are.
pub record Readings (K N A : Type 0) : Type 0 where
  -- the serial of the index that a snapshot was taken of
  pub serial : K → ℕ
  -- whether an id was live there
  pub live : K → ℕ → Bool
  -- whether a list of this name was pictured there with this marker
  pub pictures : K → N → ℕ × ℕ → Bool
  -- what became of a repair
  pub became : A → Became

-- whether an id is that of a member of an index
abbrev pub has_member : Defined → List Doc → ℕ → Bool
has_member index space id = list_any (λ (doc : Doc). nat_eq id doc.id) (members index.def space)

-- an index has this serial
abbrev pub has_serial : ℕ → Defined → Bool
has_serial serial index = nat_eq serial index.def.serial

module _ {K N A : Type 0} (readings : Readings K N A) where
  -- A snapshot of an index has its serial, and the ids of its members are those that are live.
  pub record Shows (index : Defined) (space : List Doc) (snapshot : K) : Type 0 where
    pub serial : readings.serial snapshot ≡ index.def.serial
    pub live : (id : ℕ) → readings.live snapshot id ≡ has_member index space id

  -- A scan took a snapshot of the index, or found none exactly where there is none; or memory ran out.
  abbrev pub Found : Option Defined → List Doc → Scanned K → Type 0
  Found (Some index) space (Taken snapshot) = Shows index space snapshot
  Found None space NoIndex = Unit {0}
  Found index space NoMemory = Unit {0}
  Found index space result = ⊥

  -- What became of the repair of the list of a name in a snapshot, at an event of this number.
  pub record Comes (number : ℕ) (definitions : List Defined) (snapshot : K) (name : N) (answer : A) : Type 0 where
    -- the list is pictured
    pub seen : (marker : ℕ × ℕ) × (readings.pictures snapshot name marker ≡ true)
    -- there is no event exactly at the last number
    pub last : (readings.became answer ≡ LastEvent) ↔ (last_number ≤ number)
    -- where the index is gone, so is the list
    pub gone : number < last_number → list_any (has_serial (readings.serial snapshot)) definitions ≡ false → readings.became answer ≡ Gone
    -- a list of another form was pictured in this one
    pub moved : (was now : ℕ × ℕ) → readings.became answer ≡ Moved was now → (readings.pictures snapshot name was ≡ true) × (was ≢ now)

  -- An entry may follow those before it, the first of which has this number, and leads from a state to the next. A scan and a
  -- splice leave the state as it is; a splice is that of a list that an earlier scan pictured.
  abbrev pub MayFollow : ℕ → List (Entry K N A) → State → Entry K N A → State → Type 0
  MayFollow first before old (Exec caller moment words reply) new = (0 < length words) × KeepsLimits words × Answers words (number first before) moment old reply new
  MayFollow first before old (Scan caller index result) new = (new ≡ old) × Found (index_of old.definitions index) old.space result
  MayFollow first before old (Splice caller scan name answer) new =
      (new ≡ old) × ((snapshot : K) × Pictured before scan snapshot × Comes (number first before) old.definitions snapshot name answer)

  -- a legal history from its first number, and the state after it
  abbrev pub IsLegal : ℕ → List (Entry K N A) → State → Type 0
  IsLegal first entries after = Leads (MayFollow first) [] empty_state entries after
