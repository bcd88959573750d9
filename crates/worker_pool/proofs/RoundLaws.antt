-- Cycles and rounds, one after another.
use Rattle.std.proofs.Common.{◌≡◌, ℕ, suc, true, false, List, [], ◌∷◌, ◌++◌, refl, sym, ap, ◌∙◌, subst, append_assoc}
use Rattle.fs_ports.specs.declared.pace.Pace as Pace
use Rattle.ft_engine.specs.Entries.{Entry}
use Rattle.turn_gate.specs.Known.{GateName, Known}
use Rattle.ft_server.specs.Passes.{IsOf}
use Rattle.worker_pool.specs.Rounds.{Collected, CollectorDone, Cycles, CyclesOver, OneCycle, Round}

module _ {P : Type 0} (pacing : Pace.Ghosts P) (gate : GateName) where
  cycles_more : (names : List (List ℕ)) (name : List ℕ) (pass : Known Entry) (pace : P) (mid : Known Entry) (moment : P) (pass' : Known Entry) (pace' : P) → Cycles pacing gate names pass pace mid moment
      → OneCycle pacing gate name mid moment pass' pace' → Cycles pacing gate (names ++ name ∷ []) pass pace pass' pace'
  cycles_more [] name pass pace mid moment pass' pace' c one =
      (pass', pace', subst (λ (p : Known Entry). OneCycle pacing gate name p pace pass' pace') c.0 (subst (λ (p : P). OneCycle pacing gate name mid p pass' pace') c.1 one), (refl, refl))
  cycles_more (first ∷ names) name pass pace mid moment pass' pace' c one =
      (c.0, c.1, c.2, cycles_more names name c.0 c.1 mid moment pass' pace' c.3 one)

  -- Of all these names, those before the ones that are left had their cycles.
  pub record Cycling (all left : List (List ℕ)) (pass : Known Entry) (pace : P) (pass' : Known Entry) (pace' : P) : Type 0 where
    pub first : List (List ℕ)
    pub split : all ≡ first ++ left
    pub cycles : Cycles pacing gate first pass pace pass' pace'
    pub legal : IsOf gate pass'
    pub same : pass'.caller ≡ pass.caller
    pub going : pacing.stopped pace' ≡ false

  pub none_yet : (all : List (List ℕ)) (pass : Known Entry) (pace : P) → IsOf gate pass → pacing.stopped pace ≡ false → Cycling all all pass pace pass pace
  none_yet all pass pace legal going = record { first = []; split = refl; cycles = (refl, refl); legal = legal; same = refl; going = going }

  module _ (all left others : List (List ℕ)) (name : List ℕ) (pass : Known Entry) (pace : P) (mid : Known Entry) (moment : P) (pass' : Known Entry) (pace' : P)
      (c : Cycling all left pass pace mid moment) (next : left ≡ name ∷ others) (one : OneCycle pacing gate name mid moment pass' pace') where
    split_on : all ≡ (c.first ++ name ∷ []) ++ others
    split_on = c.split ∙ ap (λ (l : List (List ℕ)). c.first ++ l) next ∙ sym (append_assoc c.first (name ∷ []) others)

    pub one_more : IsOf gate pass' → pass'.caller ≡ mid.caller → pacing.stopped pace' ≡ false → Cycling all others pass pace pass' pace'
    one_more legal same going = record {
      first = c.first ++ name ∷ [];
      split = split_on;
      cycles = cycles_more c.first name pass pace mid moment pass' pace' c.cycles one;
      legal = legal;
      same = same ∙ c.same;
      going = going;
    }

    pub cut_here : pacing.stopped pace' ≡ true → CyclesOver pacing gate all pass pace pass' pace'
    cut_here stopped = record {
      first = c.first ++ name ∷ [];
      others = others;
      split = split_on;
      cycles = cycles_more c.first name pass pace mid moment pass' pace' c.cycles one;
      cut = λ _. stopped;
    }

  pub all_had : (all left : List (List ℕ)) (pass : Known Entry) (pace : P) (pass' : Known Entry) (pace' : P) → Cycling all left pass pace pass' pace' → left ≡ [] → CyclesOver pacing gate all pass pace pass' pace'
  all_had all left pass pace pass' pace' c none = record {
    first = c.first;
    others = left;
    split = c.split;
    cycles = c.cycles;
    cut = λ some. absurd (some none);
  }

  pub begins : (pass : Known Entry) (pace : P) → IsOf gate pass → Collected pacing gate pass pace pass pace
  begins pass pace legal = record { count = 0; rounds = (refl, refl); legal = legal; same = refl }

  module _ (pass : Known Entry) (pace : P) (mid : Known Entry) (moment : P) (pass' : Known Entry) (pace' : P)
      (c : Collected pacing gate pass pace mid moment) (round : Round pacing gate mid moment pass' pace') where
    pub goes_on : Collected pacing gate pass pace pass' pace'
    goes_on = record { count = suc c.count; rounds = (mid, moment, c.rounds, round); legal = round.legal; same = round.same ∙ c.same }

    pub ends : CollectorDone pacing gate pass pace pass' pace'
    ends = record { count = c.count; rounds = (mid, moment, c.rounds, round); legal = round.legal; same = round.same ∙ c.same }
