-- What the collector does: rounds, each of one command and of cycles.
use Rattle.std.specs.Prelude.{◌≡◌, ◌≢◌, ◌⊎◌, ℕ, zero, suc, true, false, List, [], ◌∷◌, ◌++◌, codes}
use Rattle.fs_ports.specs.Paces.{AskedOnce}
use Rattle.fs_ports.specs.declared.pace.Pace as Pace
use Rattle.ft_engine.specs.Entries.{Entry}
use Rattle.turn_gate.specs.Known.{GateName, Known}
use Rattle.ft_server.specs.Passes.{Adds, IsOf}
use Rattle.collector.specs.Cycles.{Cycled}
use Rattle.collector.specs.declared.cycle.Cycle.{Cycle}
use Rattle.worker_pool.specs.Names.{names_in}

-- the words of the command that lists the indexes
abbrev pub list_words : List (List ℕ)
list_words = codes "FT._LIST" ∷ []

module _ {P : Type 0} (pacing : Pace.Ghosts P) where
  -- Behind the cycles the pace is asked once, but where its last answer is false.
  abbrev pub Rests : P → P → Type 0
  Rests pace pace' =
      ((pacing.stopped pace ≡ true) × (pace' ≡ pace))
      ⊎ ((pacing.stopped pace ≡ false) × AskedOnce (pacing.asked pace) (pacing.asked pace'))

module _ {P : Type 0} (pacing : Pace.Ghosts P) (gate : GateName) where
  -- One cycle over the index of a name leads from a pass and a pace to a pass and a pace.
  pub record OneCycle (index : List ℕ) (pass : Known Entry) (pace : P) (pass' : Known Entry) (pace' : P) : Type 0 where
    -- the pace's last answer before wasn't false
    pub going : pacing.stopped pace ≡ false
    pub cycle : Cycle
    pub cycled : Cycled gate pass pass' index (pacing.asked pace) (pacing.asked pace') (pacing.stopped pace') cycle

  -- One cycle for each of these names, in their order.
  abbrev pub Cycles : List (List ℕ) → Known Entry → P → Known Entry → P → Type 0
  Cycles [] pass pace pass' pace' = (pass' ≡ pass) × (pace' ≡ pace)
  Cycles (name ∷ names) pass pace pass' pace' =
      (mid : Known Entry) × (moment : P) × OneCycle name pass pace mid moment × Cycles names mid moment pass' pace'

  -- Cycles over the first of these names: over all of them, or the pace's last answer is false.
  pub record CyclesOver (names : List (List ℕ)) (pass : Known Entry) (pace : P) (pass' : Known Entry) (pace' : P) : Type 0 where
    pub first : List (List ℕ)
    pub others : List (List ℕ)
    pub split : names ≡ first ++ others
    pub cycles : Cycles first pass pace pass' pace'
    pub cut : others ≢ [] → pacing.stopped pace' ≡ true

  -- One round: FT._LIST at moment 0, then a cycle for each name in its reply, in their order. It is cut short only where the
  -- pace's last answer is false.
  pub record Round (pass : Known Entry) (pace : P) (pass' : Known Entry) (pace' : P) : Type 0 where
    -- the pace's last answer before wasn't false
    pub going : pacing.stopped pace ≡ false
    pub listed : Known Entry
    pub reply : List ℕ
    pub lists : Adds pass listed 0 list_words reply
    pub listed_of : IsOf gate listed
    pub listed_same : listed.caller ≡ pass.caller
    -- the pace behind the cycles
    pub worked : P
    pub cycles : CyclesOver (names_in reply) listed pace pass' worked
    pub rests : Rests pacing worked pace'
    pub legal : IsOf gate pass'
    pub same : pass'.caller ≡ pass.caller

  -- So many rounds, one after another.
  abbrev pub Rounds : ℕ → Known Entry → P → Known Entry → P → Type 0
  Rounds zero pass pace pass' pace' = (pass' ≡ pass) × (pace' ≡ pace)
  Rounds (suc count) pass pace pass' pace' =
      (mid : Known Entry) × (moment : P) × Rounds count pass pace mid moment × Round mid moment pass' pace'

  -- What the collector did up to here.
  pub record Collected (pass : Known Entry) (pace : P) (pass' : Known Entry) (pace' : P) : Type 0 where
    pub count : ℕ
    pub rounds : Rounds count pass pace pass' pace'
    pub legal : IsOf gate pass'
    pub same : pass'.caller ≡ pass.caller

  -- What the collector gives back: it did one round or more.
  pub record CollectorDone (pass : Known Entry) (pace : P) (pass' : Known Entry) (pace' : P) : Type 0 where
    pub count : ℕ
    pub rounds : Rounds (suc count) pass pace pass' pace'
    pub legal : IsOf gate pass'
    pub same : pass'.caller ≡ pass.caller
