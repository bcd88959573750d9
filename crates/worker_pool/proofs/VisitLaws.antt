-- A worker serves one link more, and ends.
use Rattle.std.specs.Prelude.{Bool, ⊤}
use Rattle.std.proofs.Common.{◌≡◌, ◌≤◌, true, false, List, [], ◌∷◌, ◌++◌, None, Some, Ok, Err, refl, sym, ap, ◌∙◌, subst, append_assoc, append-nil, arith}
use Rattle.std.proofs.lemmas.Bool.{true≢false, false≢true}
use Rattle.std.specs.declared.option.Option.{Option}
use Rattle.ft_engine.specs.Entries.{Entry}
use Rattle.turn_gate.specs.Known.{GateName, Known}
use Rattle.fs_ports.specs.Causes.{Rose}
use Rattle.fs_ports.specs.Doors.{AtDoor, Accepts, Comes, NoneComes, handed_back, with_back}
use Rattle.fs_ports.specs.declared.clock.Clock as Clock
use Rattle.fs_ports.specs.declared.link.Link as Link
use Rattle.ft_server.specs.Passes.{IsOf}
use Rattle.worker_pool.specs.Visits.{GivesNone, Visit, accepted, returned, Took, Returned, Connects, Visited, WorkerDone}

module _ {L : Type 0} where
  took_none : (coming : Option (List L)) → Took coming coming []
  took_none None = tt
  took_none (Some links) = refl

  returned_none : (back : Option (List L)) → Returned back back []
  returned_none None = tt
  returned_none (Some links) = sym (append-nil links)

  took_more : (a b c : Option (List L)) (links : List L) (link : L) → Took a b links → Comes b link c → Took a c (links ++ link ∷ [])
  took_more None None None links link p q = tt
  took_more None None (Some z) links link p q = absurd q
  took_more None (Some y) c links link p q = absurd p
  took_more (Some x) None c links link p q = absurd p
  took_more (Some x) (Some y) None links link p q = absurd q
  took_more (Some x) (Some y) (Some z) links link p q = p ∙ ap (λ (l : List L). links ++ l) q ∙ sym (append_assoc links (link ∷ []) z)

  returned_more : (a b : Option (List L)) (links : List L) (link : L) → Returned a b links → Returned a (with_back b link) (links ++ link ∷ [])
  returned_more None None links link p = tt
  returned_more None (Some y) links link p = absurd p
  returned_more (Some x) None links link p = absurd p
  returned_more (Some x) (Some y) links link p = ap (λ (l : List L). l ++ link ∷ []) p ∙ append_assoc x links (link ∷ [])

module _ {L C D : Type 0} (port : Link.Ghosts L) (watch : Clock.Ghosts C) (gate : GateName) (at : D → AtDoor L) (pass : Known Entry) (door : D) (clock : C) where
  pub begins : IsOf gate pass → (at door).out ≡ false → Visited port watch gate at pass door clock pass door clock
  begins legal idle = record { visits = []; served = (refl, refl); legal = legal; same = refl; idle = idle; took = took_none (at door).coming; gave = returned_none (at door).back }

  pub goes_on : (E : Type 0) (pass₁ pass₂ : Known Entry) (door₁ door₂ door₃ : D) (clock₁ clock₂ : C) (visit : Visit L) → Visited port watch gate at pass door clock pass₁ door₁ clock₁
      → Accepts {E = E} (at door₁) (at door₂) (Ok (Some visit.link)) → Connects port watch gate pass₁ pass₂ clock₁ clock₂ visit → at door₃ ≡ handed_back (at door₂) visit.back
      → Visited port watch gate at pass door clock pass₂ door₃ clock₂
  goes_on E pass₁ pass₂ door₁ door₂ door₃ clock₁ clock₂ visit v accepts connects hands = record {
    visits = visit ∷ v.visits;
    served = (pass₁, clock₁, v.served, connects);
    legal = connects.legal;
    same = connects.same ∙ v.same;
    idle = ap (λ (d : AtDoor L). d.out) hands;
    took = subst (λ (c : Option (List L)). Took (at door).coming c (accepted v.visits ++ visit.link ∷ [])) (sym (ap (λ (d : AtDoor L). d.coming) hands))
        (took_more _ _ _ (accepted v.visits) visit.link v.took accepts.1);
    gave = subst (λ (c : Option (List L)). Returned (at door).back c (returned v.visits ++ visit.back ∷ [])) (sym (ap (λ (d : AtDoor L). d.back) hands ∙ ap (λ (b : Option (List L)). with_back b visit.back) (ap (λ (d : AtDoor L). d.back) accepts.0)))
        (returned_more _ _ (returned v.visits) visit.back v.gave);
  }

  -- the door changed in what neither the links nor whether one is out
  still : (pass₁ : Known Entry) (door₁ door₂ : D) (clock₁ : C) → Visited port watch gate at pass door clock pass₁ door₁ clock₁ → (at door₂).out ≡ (at door₁).out → (at door₂).coming ≡ (at door₁).coming → (at door₂).back ≡ (at door₁).back
      → Visited port watch gate at pass door clock pass₁ door₂ clock₁
  still pass₁ door₁ door₂ clock₁ v out coming back = record {
    visits = v.visits;
    served = v.served;
    legal = v.legal;
    same = v.same;
    idle = out ∙ v.idle;
    took = subst (λ (c : Option (List L)). Took (at door).coming c (accepted v.visits)) (sym coming) v.took;
    gave = subst (λ (c : Option (List L)). Returned (at door).back c (returned v.visits)) (sym back) v.gave;
  }

  pub fails : {E : Type 0} (pass₁ : Known Entry) (door₁ door₂ : D) (clock₁ : C) (e : E) → Visited port watch gate at pass door clock pass₁ door₁ clock₁ → (at door).faults ≤ (at door₁).faults
      → Accepts (at door₁) (at door₂) (Err e) → Rose (at door₁).faults (at door₂).faults → WorkerDone port watch gate at pass door clock pass₁ door₂ clock₁ true
  fails pass₁ door₁ door₂ clock₁ e v later accepts rose = record {
    visited = still pass₁ door₁ door₂ clock₁ v (ap (λ (d : AtDoor L). d.out) accepts) (ap (λ (d : AtDoor L). d.coming) accepts) (ap (λ (d : AtDoor L). d.back) accepts);
    failed_by = λ _. omega (arith, rose, later);
    ended = λ h. absurd (true≢false h);
  }

  pub ends : (E : Type 0) (pass₁ : Known Entry) (door₁ door₂ : D) (clock₁ : C) → Visited port watch gate at pass door clock pass₁ door₁ clock₁
      → Accepts {E = E} (at door₁) (at door₂) (Ok None) → WorkerDone port watch gate at pass door clock pass₁ door₂ clock₁ false
  ends E pass₁ door₁ door₂ clock₁ v accepts = record {
    visited = still pass₁ door₁ door₂ clock₁ v (ap (λ (d : AtDoor L). d.out) accepts.0) (ap (λ (d : AtDoor L). d.coming) accepts.0) (ap (λ (d : AtDoor L). d.back) accepts.0);
    failed_by = λ h. absurd (false≢true h);
    ended = λ _. (ap (λ (d : AtDoor L). d.ended) accepts.0, subst NoneComes (sym (ap (λ (d : AtDoor L). d.coming) accepts.0)) accepts.1);
  }

  pub gives_none : (failed : Bool) (pass₁ : Known Entry) (door₁ door₂ : D) (clock₁ : C) → Visited port watch gate at pass door clock pass₁ door₁ clock₁ → (at door).faults ≤ (at door₁).faults
      → GivesNone (at door₁) (at door₂) failed → WorkerDone port watch gate at pass door clock pass₁ door₂ clock₁ failed
  gives_none true pass₁ door₁ door₂ clock₁ v later none = fails {E = ⊤} pass₁ door₁ door₂ clock₁ tt v later none.0 none.1
  gives_none false pass₁ door₁ door₂ clock₁ v later none = ends ⊤ pass₁ door₁ door₂ clock₁ v none
