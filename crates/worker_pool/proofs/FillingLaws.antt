-- Workers that are made one after another.
use Rattle.std.proofs.Common.{◌≡◌, ◌+◌, List, [], ◌∷◌, ◌++◌, length, refl, sym, ap, ◌∙◌, subst, IfOk, Ok, Err, append_assoc, append-nil, arith}
use Rattle.std.proofs.lemmas.List.{length-append}
use Rattle.std.specs.List.{zip}
use Rattle.std.specs.declared.result.Result.{Result}
use Rattle.turn_gate.specs.Known.{GateName}
use Rattle.worker_pool.specs.declared.work.Work.{Work}
use Rattle.worker_pool.specs.Jobs.{IsWorker, AreWorkers, Jobs}

pub snoc_length : {X : Type 0} (xs ys : List X) (x : X) → ys ≡ xs ++ x ∷ [] → length ys ≡ length xs + 1
snoc_length xs ys x more = ap length more ∙ length-append xs (x ∷ [])

module _ {D C P : Type 0} where
  workers-more : (gate : GateName) (gs : List (D × C)) (g : D × C) (js : List (Work D C P)) (j : Work D C P) → AreWorkers gate gs js → IsWorker gate g j → AreWorkers gate (gs ++ g ∷ []) (js ++ j ∷ [])
  workers-more gate [] g [] j p q = (q, tt)
  workers-more gate [] g (k ∷ js) j p q = absurd p
  workers-more gate (h ∷ gs) g [] j p q = absurd p
  workers-more gate (h ∷ gs) g (k ∷ js) j p q = (p.0, workers-more gate gs g js j p.1 q)

  pub record Filling (gate : GateName) (doors ds : List D) (clocks cs : List C) (workers : List (Work D C P)) : Type 0 where
    pub made : List (D × C)
    pub split : zip doors clocks ≡ made ++ zip ds cs
    pub are : AreWorkers gate made workers
    pub equal : length ds ≡ length cs
    pub count : length workers + length ds ≡ length doors

  pub filling : (gate : GateName) (doors ds : List D) (clocks cs : List C) (workers : List (Work D C P)) → ds ≡ doors → cs ≡ clocks → workers ≡ [] → length doors ≡ length clocks → Filling gate doors ds clocks cs workers
  filling gate doors ds clocks cs workers same same' none equal = rw (same, same', none) (record { made = []; split = refl; are = tt; equal = equal; count = omega arith })

  pub filled : (gate : GateName) (doors ds ds' : List D) (clocks cs cs' : List C) (workers workers' : List (Work D C P)) (d : D) (c : C) (w : Work D C P) → Filling gate doors ds clocks cs workers
      → ds ≡ d ∷ ds' → cs ≡ c ∷ cs' → workers' ≡ workers ++ w ∷ [] → IsWorker gate (d, c) w → Filling gate doors ds' clocks cs' workers'
  filled gate doors ds ds' clocks cs cs' workers workers' d c w f first second more is = record {
    made = f.made ++ (d, c) ∷ [];
    split = f.split ∙ ap (λ (l : List D). f.made ++ zip l cs) first ∙ ap (λ (l : List C). f.made ++ zip (d ∷ ds') l) second ∙ sym (append_assoc f.made ((d, c) ∷ []) (zip ds' cs'));
    are = subst (AreWorkers gate (f.made ++ (d, c) ∷ [])) (sym more) (workers-more gate f.made (d, c) workers w f.are is);
    equal = omega (arith, f.equal, ap length first, ap length second);
    count = omega (arith, f.count, ap length first, ap length more, length-append workers (w ∷ []));
  }

  pub all_filled : (gate : GateName) (doors ds : List D) (clocks cs : List C) (workers : List (Work D C P)) → Filling gate doors ds clocks cs workers → ds ≡ [] → AreWorkers gate (zip doors clocks) workers × (length workers ≡ length doors)
  all_filled gate doors ds clocks cs workers f none = (
    subst (λ (l : List (D × C)). AreWorkers gate l workers) (sym (f.split ∙ ap (λ (l : List D). f.made ++ zip l cs) none ∙ append-nil f.made)) f.are,
    omega (arith, f.count, ap length none),
  )

  pub both_left : (gate : GateName) (doors ds ds' : List D) (clocks cs : List C) (workers : List (Work D C P)) (d : D) → Filling gate doors ds clocks cs workers → ds ≡ d ∷ ds' → cs ≡ [] → ⊥
  both_left gate doors ds ds' clocks cs workers d f first second = absurd (omega (arith, f.equal, ap length first, ap length second))

  -- What was made is these jobs, whatever it is held in.
  pub jobs_made : {V E : Type 0} (doors : List D) (clocks : List C) (pace : P) (workers : V → List (Work D C P)) (collector : V → Work D C P) (result : Result V E) (jobs : Jobs doors clocks pace)
      → IfOk result (λ (v : V). (workers v ≡ jobs.workers) × (collector v ≡ jobs.collector)) → IfOk result (λ (v : V). (made : Jobs doors clocks pace) × (workers v ≡ made.workers) × (collector v ≡ made.collector))
  jobs_made doors clocks pace workers collector (Ok v) jobs held = (jobs, held.0, held.1)
  jobs_made doors clocks pace workers collector (Err e) jobs held = tt
