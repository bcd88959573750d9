-- What a job needs, and what it gives back.
use Rattle.std.specs.Prelude.{◌≡◌, ◌≤◌, false, [], vec_capacity}
use Rattle.std.specs.Arc.{arc_value}
use Rattle.fs_ports.specs.Doors.{AtDoor}
use Rattle.fs_ports.specs.declared.clock.Clock as Clock
use Rattle.fs_ports.specs.declared.link.Link as Link
use Rattle.fs_ports.specs.declared.pace.Pace as Pace
use Rattle.ft_engine.specs.Entries.{Entry}
use Rattle.turn_gate.specs.Known.{GateName, Known}
use Rattle.ft_server.specs.Passes.{IsOf}
use Rattle.worker_pool.specs.Rounds.{CollectorDone}
use Rattle.worker_pool.specs.Visits.{AllMayBeRead, WorkerDone}
use Rattle.worker_pool.specs.declared.work.Work.{Work}
use Rattle.worker_pool.specs.declared.work.Work.TheVariants as job
use Rattle.worker_pool.specs.declared.work.Worked.{Worked}
use Rattle.worker_pool.specs.declared.work.Worked.TheVariants as back

module _ {D L C P : Type 0} (at : D → AtDoor L) (port : Link.Ghosts L) (watch : Clock.Ghosts C) where
  abbrev pub IsWorkerDone : GateName → Known Entry → D → C → Worked D C P → Type 0
  IsWorkerDone gate pass door clock (back.Worker pass' door' clock' failed) =
      WorkerDone port watch gate at pass door clock pass' door' clock' failed
  IsWorkerDone gate pass door clock (back.Collector pass' pace') = ⊥

module _ {D C P : Type 0} (pacing : Pace.Ghosts P) where
  abbrev pub IsCollectorDone : GateName → Known Entry → P → Worked D C P → Type 0
  IsCollectorDone gate pass pace (back.Worker pass' door' clock' failed) = ⊥
  IsCollectorDone gate pass pace (back.Collector pass' pace') = CollectorDone pacing gate pass pace pass' pace'

module _ {D L C P : Type 0} (at : D → AtDoor L) (port : Link.Ghosts L) (watch : Clock.Ghosts C) (pacing : Pace.Ghosts P) where
  -- The pass is of its server. Of a worker, no link of its door is out, and links may be read. Of the collector, the pace's last
  -- answer wasn't false, and its room is empty and takes 64 bytes.
  abbrev pub IsReady : Work D C P → Type 0
  IsReady (job.Worker alloc server pass door clock) =
      IsOf (arc_value server) pass × ((at door).out ≡ false) × AllMayBeRead port watch
  IsReady (job.Collector alloc server pass pace stop room) =
      IsOf (arc_value server) pass × (pacing.stopped pace ≡ false) × (room.items ≡ []) × (64 ≤ vec_capacity room)

  -- what a job may give back
  abbrev pub IsDone : Work D C P → Worked D C P → Type 0
  IsDone (job.Worker alloc server pass door clock) worked = IsWorkerDone at port watch (arc_value server) pass door clock worked
  IsDone (job.Collector alloc server pass pace stop room) worked = IsCollectorDone pacing (arc_value server) pass pace worked
