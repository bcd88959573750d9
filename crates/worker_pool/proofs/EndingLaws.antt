-- What was started and waited for, together.
use Rattle.std.proofs.Common.{◌≡◌, ◌≤◌, ℕ, ◌+◌, Bool, true, false, if◌then◌else◌, List, [], ◌∷◌, ◌++◌, map, length, None, Some, MatchOption, refl, sym, ap, ◌∙◌, subst, append_assoc, append-nil, arith}
use Rattle.std.proofs.lemmas.List.{length-append}
use Rattle.std.proofs.lemmas.List.Elements.{All-head, All-tail}
use Rattle.std.specs.List.{All, list_any, zip}
use Rattle.std.specs.declared.option.Option.{Option}
use Rattle.turn_gate.specs.Known.{GateName}
use Rattle.fs_ports.specs.Causes.{Rose}
use Rattle.fs_ports.specs.Doors.{AtDoor}
use Rattle.fs_ports.specs.declared.clock.Clock as Clock
use Rattle.fs_ports.specs.declared.link.Link as Link
use Rattle.fs_ports.specs.declared.pace.Pace as Pace
use Rattle.ft_server.specs.Passes.{IsOf}
use Rattle.ft_server.specs.declared.exit.Exit.{Exit}
use Rattle.ft_server.specs.declared.exit.Exit.TheVariants as exit
use Rattle.worker_pool.specs.Jobs.{Each, Handed, IsCollector, IsWorker, AreWorkers, Jobs, all_jobs, has_failed, exit_of, Fits, Exits}
use Rattle.worker_pool.specs.Visits.{AllMayBeRead}
use Rattle.worker_pool.specs.Works.{IsReady}
use Rattle.worker_pool.specs.declared.work.Work.{Work}
use Rattle.worker_pool.specs.declared.work.Work.TheVariants as job
use Rattle.worker_pool.specs.declared.work.Worked.{Worked}
use Rattle.worker_pool.proofs.RunLaws.{handed-append, handed_more, map-length}

module _ {R J D C P : Type 0} (task : R → J) (sound : R → Type 0) (done : J → Worked D C P → Type 0)
    (workers : List J) (collector : J) (running : List R) (all : Bool) (works works' : List (Worked D C P)) (rest : List J)
    (split : workers ≡ map task running ++ rest) (whole : all ≡ true → rest ≡ [])
    (handed : Handed done (map task running) works) (count : length works ≡ length running) where
  pub handed_all : (last : Option R) (Q : Type 0) → MatchOption last Q (λ r. (task r ≡ collector) × sound r × (all ≡ true)) → MatchOption last (works' ≡ works) (λ r. (w : Worked D C P) × (works' ≡ works ++ w ∷ []) × done (task r) w)
      → Handed done (workers ++ collector ∷ []) works'
  handed_all None Q started ended =
      subst (λ (l : List J). Handed done (l ++ collector ∷ []) works') (sym split)
      (subst (λ (l : List J). Handed done l works') (sym (append_assoc (map task running) rest (collector ∷ [])))
      (subst (Handed done (map task running ++ (rest ++ collector ∷ []))) (sym ended) (handed_more done (map task running) (rest ++ collector ∷ []) works handed)))
  handed_all (Some r) Q started ended =
      let none : map task running ≡ workers = sym (split ∙ ap (λ (l : List J). map task running ++ l) (whole started.2) ∙ append-nil (map task running)) in
      subst (Handed done (workers ++ collector ∷ [])) (sym ended.1)
      (handed-append done workers (collector ∷ []) works (ended.0 ∷ []) (subst (λ (l : List J). Handed done l works) none handed) (count ∙ sym (map-length task running) ∙ ap length none)
      (subst (λ (j : J). done j ended.0) started.0 ended.2, tt))

  pub fits_all : (last : Option R) (refused : Bool) (e : Exit) (f f₁ f₂ f' : ℕ) → MatchOption last (all ≡ true → Rose f₁ f₂) (λ r. (task r ≡ collector) × sound r × (all ≡ true))
      → MatchOption last (works' ≡ works) (λ r. (w : Worked D C P) × (works' ≡ works ++ w ∷ []) × done (task r) w) → MatchOption last (refused ≡ true) (λ _. refused ≡ false) → e ≡ exit_of refused works'
      → (all ≡ false → Rose f f₁) → f ≤ f₁ → f₁ ≤ f₂ → f' ≡ f₂ → Fits e (length workers) works' f f'
  fits_all None refused e f f₁ f₂ f' started ended is exits first low high same =
      subst (λ (x : Exit). Fits x (length workers) works' f f') (sym (exits ∙ ap (λ (b : Bool). exit_of b works') is))
      (omega (arith, ap length ended, count, ap length split, length-append (map task running) rest, map-length task running), rose all started first)
    where
      rose : (b : Bool) → (b ≡ true → Rose f₁ f₂) → (b ≡ false → Rose f f₁) → Rose f f'
      rose true p q = let r = p refl in omega (arith, r, low, same)
      rose false p q = let r = q refl in omega (arith, r, high, same)
  fits_all (Some r) refused e f f₁ f₂ f' started ended is exits first low high same =
      subst (λ (x : Exit). Fits x (length workers) works' f f') (sym (exits ∙ ap (λ (b : Bool). exit_of b works') is)) (by_test (list_any has_failed works') refl)
    where
      many : length works' ≡ length workers + 1
      many = omega (arith, ap length ended.1, length-append works (ended.0 ∷ []), count, ap length split, length-append (map task running) rest, map-length task running, ap length (whole started.2))

      by_test : (b : Bool) → list_any has_failed works' ≡ b → Fits (if b then exit.DoorFault else exit.Done) (length workers) works' f f'
      by_test true h = (many, h)
      by_test false h = (many, h)

module _ {D C P : Type 0} (done : Work D C P → Worked D C P → Type 0) (doors : List D) (clocks : List C) (pace : P) (works : List (Worked D C P)) (f f' : ℕ) where
  pub exits_at : (e : Exit) (jobs : Jobs doors clocks pace) → Handed done (all_jobs jobs) works → Fits e (length doors) works f f' → Exits done doors clocks pace e works f f'
  exits_at exit.Done jobs handed fits = ((jobs, handed), fits)
  exits_at exit.CutShort jobs handed fits = absurd fits
  exits_at exit.Protocol jobs handed fits = absurd fits
  exits_at exit.Usage jobs handed fits = absurd fits
  exits_at exit.ReadFault jobs handed fits = absurd fits
  exits_at exit.WriteFault jobs handed fits = absurd fits
  exits_at exit.ByteLimit jobs handed fits = absurd fits
  exits_at exit.NoMemory jobs handed fits = absurd fits
  exits_at exit.DoorFault jobs handed fits = ((jobs, handed), fits)
  exits_at exit.NoThread jobs handed fits = ((jobs, handed), fits)

module _ {D L C P : Type 0} (at : D → AtDoor L) (port : Link.Ghosts L) (watch : Clock.Ghosts C) (pacing : Pace.Ghosts P) where
  pub collector_ready : (gate : GateName) (pace : P) (j : Work D C P) → IsCollector gate pace j → pacing.stopped pace ≡ false → IsReady at port watch pacing j
  collector_ready gate pace (job.Worker alloc server pass door clock) is going = absurd is
  collector_ready gate pace (job.Collector alloc server pass held stop room) is going =
      (subst (λ (n : GateName). IsOf n pass) (sym is.0) is.1.0, subst (λ (p : P). pacing.stopped p ≡ false) (sym is.2) going, is.3, is.4)

  module _ (prompt : AllMayBeRead port watch) where
    idle_pairs : (doors : List D) (clocks : List C) → All (λ d. (at d).out ≡ false) doors → Each (λ (g : D × C). (at g.0).out ≡ false) (zip doors clocks)
    idle_pairs [] clocks idle = tt
    idle_pairs (d ∷ ds) [] idle = tt
    idle_pairs (d ∷ ds) (c ∷ cs) idle = (All-head (λ (x : D). (at x).out ≡ false) d ds idle, idle_pairs ds cs (All-tail (λ (x : D). (at x).out ≡ false) d ds idle))

    one_ready : (gate : GateName) (g : D × C) (j : Work D C P) → IsWorker gate g j → (at g.0).out ≡ false → IsReady at port watch pacing j
    one_ready gate g (job.Worker alloc server pass door clock) is idle =
        (subst (λ (n : GateName). IsOf n pass) (sym is.0) is.1.0, subst (λ (d : D). (at d).out ≡ false) (sym is.2) idle, prompt)
    one_ready gate g (job.Collector alloc server pass pace stop room) is idle = absurd is

    pairs_ready : (gate : GateName) (gs : List (D × C)) (js : List (Work D C P)) → AreWorkers gate gs js → Each (λ (g : D × C). (at g.0).out ≡ false) gs → Each (IsReady at port watch pacing) js
    pairs_ready gate [] [] are idle = tt
    pairs_ready gate [] (j ∷ js) are idle = absurd are
    pairs_ready gate (g ∷ gs) [] are idle = absurd are
    pairs_ready gate (g ∷ gs) (j ∷ js) are idle = (one_ready gate g j are.0 idle.0, pairs_ready gate gs js are.1 idle.1)

    pub all_ready : (gate : GateName) (doors : List D) (clocks : List C) (js : List (Work D C P)) → AreWorkers gate (zip doors clocks) js → All (λ d. (at d).out ≡ false) doors → Each (IsReady at port watch pacing) js
    all_ready gate doors clocks js are idle = pairs_ready gate (zip doors clocks) js are (idle_pairs doors clocks idle)
