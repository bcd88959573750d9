-- Which jobs there are, what is handed back of them, and how it all ends.
use Rattle.std.specs.Prelude.{◌≡◌, ℕ, ◌<◌, Bool, true, false, if◌then◌else◌, List, [], ◌∷◌, ◌++◌, length, ◌+◌, ◌≤◌, vec_capacity, ⊤, Some, None}
use Rattle.std.specs.List.{list_any, zip}
use Rattle.std.specs.Arc.{arc_value}
use Rattle.fs_ports.specs.Causes.{Rose}
use Rattle.ft_engine.specs.Entries.{Entry}
use Rattle.turn_gate.specs.Known.{GateName, Known}
use Rattle.std.specs.declared.alloc.Global.{Global}
use Rattle.std.specs.declared.option.Option.{Option}
use Rattle.std.specs.declared.string.String.{String}
use Rattle.command_line.specs.Forms.{IsServe}
use Rattle.ft_server.specs.Passes.{IsOf}
use Rattle.ft_server.specs.declared.exit.Exit.{Exit}
use Rattle.ft_server.specs.declared.exit.Exit.TheVariants as exit
use Rattle.worker_pool.specs.declared.work.Work.{Work}
use Rattle.worker_pool.specs.declared.work.Work.TheVariants as job
use Rattle.worker_pool.specs.declared.work.Worked.{Worked}
use Rattle.worker_pool.specs.declared.work.Worked.TheVariants as back

-- These words don't ask for a server at a port.
abbrev pub NoServe : List (String Global) → Type 0
NoServe words = (port workers : ℕ) → IsServe words port workers → ⊥

-- each of a list
abbrev pub Each : {X : Type 0} → (X → Type 0) → List X → Type 0
Each P [] = ⊤
Each P (x ∷ xs) = P x × Each P xs

module _ {J O : Type 0} (done : J → O → Type 0) where
  -- What was handed back is done for the first of the jobs, one by one.
  abbrev pub Handed : List J → List O → Type 0
  Handed jobs [] = ⊤
  Handed [] (work ∷ works) = ⊥
  Handed (job ∷ jobs) (work ∷ works) = done job work × Handed jobs works

-- a pass of this gate that has seen nothing and taken no turn
abbrev pub IsFresh : GateName → Known Entry → Type 0
IsFresh gate pass = IsOf gate pass × (pass.seen ≡ []) × (pass.turns ≡ 0)

module _ {D C P : Type 0} where
  -- a worker of this gate that has seen nothing and taken no turn, with this door and this clock
  abbrev pub IsWorker : GateName → D × C → Work D C P → Type 0
  IsWorker gate given (job.Worker alloc server pass door clock) =
      (arc_value server ≡ gate) × IsFresh gate pass × (door ≡ given.0) × (clock ≡ given.1)
  IsWorker gate given (job.Collector alloc server pass pace stop room) = ⊥

  -- the collector of this gate, which has seen nothing and taken no turn, with this pace, and with room for replies
  abbrev pub IsCollector : GateName → P → Work D C P → Type 0
  IsCollector gate given (job.Worker alloc server pass door clock) = ⊥
  IsCollector gate given (job.Collector alloc server pass pace stop room) =
      (arc_value server ≡ gate) × IsFresh gate pass × (pace ≡ given) × (room.items ≡ []) × (64 ≤ vec_capacity room)

  -- a worker for each
  abbrev pub AreWorkers : GateName → List (D × C) → List (Work D C P) → Type 0
  AreWorkers gate [] [] = ⊤
  AreWorkers gate [] (worker ∷ workers) = ⊥
  AreWorkers gate (given ∷ all) [] = ⊥
  AreWorkers gate (given ∷ all) (worker ∷ workers) = IsWorker gate given worker × AreWorkers gate all workers

  -- A worker with the first of these doors and clocks, and those behind it; none where no door is left.
  abbrev pub IsNextWorker : GateName → List D → List C → List D → List C → Option (Work D C P) → Type 0
  IsNextWorker gate doors clocks doors' clocks' None = doors ≡ []
  IsNextWorker gate doors clocks doors' clocks' (Some worker) =
      (door : D) × (clock : C) × (doors ≡ door ∷ doors') × (clocks ≡ clock ∷ clocks') × IsWorker gate (door, clock) worker

  -- The jobs are a worker for each door with its clock, and then the collector with the pace, all of one server that was opened at
  -- number 1.
  pub record Jobs (doors : List D) (clocks : List C) (pace : P) : Type 0 where
    pub gate : GateName
    pub workers : List (Work D C P)
    pub collector : Work D C P
    pub first : gate.first ≡ 1
    pub are_workers : AreWorkers gate (zip doors clocks) workers
    pub is_collector : IsCollector gate pace collector

  -- all of them, in order of starting
  abbrev pub all_jobs : {doors : List D} {clocks : List C} {pace : P} → Jobs doors clocks pace → List (Work D C P)
  all_jobs jobs = jobs.workers ++ jobs.collector ∷ []

  abbrev pub has_failed : Worked D C P → Bool
  has_failed (back.Worker pass door clock failed) = failed
  has_failed (back.Collector pass pace) = false

  -- how it ends where a start was refused or not, and these works were handed back
  abbrev pub exit_of : Bool → List (Worked D C P) → Exit
  exit_of refused works = if refused then exit.NoThread else if list_any has_failed works then exit.DoorFault else exit.Done

  -- How an exit fits the works of so many workers and the collector, and the count of refused starts.
  abbrev pub Fits : Exit → ℕ → List (Worked D C P) → ℕ → ℕ → Type 0
  Fits exit.Done count works faults faults' = (length works ≡ count + 1) × (list_any has_failed works ≡ false)
  Fits exit.DoorFault count works faults faults' = (length works ≡ count + 1) × (list_any has_failed works ≡ true)
  Fits exit.NoThread count works faults faults' = (length works < count + 1) × Rose faults faults'
  Fits _ count works faults faults' = ⊥

  -- What each way to end says of what is handed back: nothing where nothing was started, and else works that are done for
  -- the first of the jobs, in order of starting.
  abbrev pub Exits : (Work D C P → Worked D C P → Type 0) → List D → List C → P → Exit → List (Worked D C P) → ℕ → ℕ → Type 0
  Exits done doors clocks pace exit.Usage works faults faults' = works ≡ []
  Exits done doors clocks pace exit.NoMemory works faults faults' = works ≡ []
  Exits done doors clocks pace other works faults faults' =
      ((jobs : Jobs doors clocks pace) × Handed done (all_jobs jobs) works) × Fits other (length doors) works faults faults'
