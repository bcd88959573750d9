-- How a block is read entry by entry.
use Rattle.std.proofs.Common.{◌≡◌, ℕ, ◌<◌, Bool, true, false, cond, ◌&&◌, List, [], ◌∷◌, ◌++◌, Option, Some, None, Result, Ok, IfOk, map, filter, refl, sym, ap, ◌∙◌, subst, arith, append_assoc}
use Rattle.std.specs.Prelude.{nat_le}
use Rattle.std.proofs.lemmas.List.{append-nil}
use Rattle.posting_block.specs.Rising.{RisesAbove, last_id}
use Rattle.posting_block.specs.Places.{Stands, IsFound, Finds}
use Rattle.posting_block.specs.declared.found.Found.{Found}
use Rattle.posting_block.proofs.RisingLaws.{last_id-append, rises_second}
use Rattle.id_iters.specs.Ahead.{wanted_ids}

module _ {P : Type 0} (spelled : P → List ℕ) (wants : P → Bool) (from : ℕ) where
  -- the entries up to a place were read
  pub record Walked (es : List (ℕ × P)) (place before : ℕ) (ids : List ℕ) : Type 0 where
    pub left : List (ℕ × P)
    pub stands : Stands spelled es place before left
    pub ids_are : ids ≡ wanted_ids wants from stands.done

  pub walked_start : (es : List (ℕ × P)) → Walked es 0 0 []
  walked_start es = record { left = es; stands = record { done = []; parts = refl; place_is = refl; before_is = refl }; ids_are = refl }

  -- an entry that was found is the first of those that were left
  pub record Comes (es : List (ℕ × P)) (f : Found) (done left : List (ℕ × P)) : Type 0 where
    pub entry : ℕ × P
    pub more : List (ℕ × P)
    pub found : IsFound spelled es f done entry more

  some_none : (f : Found) → Some f ≡ None → ⊥
  some_none f h = cc

  pub comes : (es done left : List (ℕ × P)) (r : Option Found) (f : Found) → Finds spelled es done left r → r ≡ Some f → Comes es f done left
  comes es done [] r f finds is = absurd (some_none f (sym is ∙ finds))
  comes es done (e ∷ more) r f finds is = record { entry = e; more = more; found = subst (λ (x : Option Found). Finds spelled es done (e ∷ more) x) is finds }

  more_wanted : (done : List (ℕ × P)) (e : ℕ × P) → wanted_ids wants from (done ++ e ∷ []) ≡ (cond (nat_le from e.0 && wants e.1) (wanted_ids wants from done ++ e.0 ∷ []) (wanted_ids wants from done))
  more_wanted [] e = by (nat_le from e.0 && wants e.1)
    where
      by : (b : Bool) → map (λ (x : ℕ × P). x.0) (cond b (e ∷ []) []) ≡ cond b (e.0 ∷ []) []
      by true = refl
      by false = refl
  more_wanted (x ∷ done) e = by (nat_le from x.0 && wants x.1) (nat_le from e.0 && wants e.1) (more_wanted done e)
    where
      by : (a b : Bool) → wanted_ids wants from (done ++ e ∷ []) ≡ cond b (wanted_ids wants from done ++ e.0 ∷ []) (wanted_ids wants from done)
          → map (λ (y : ℕ × P). y.0) (cond a (x ∷ filter (λ y. nat_le from y.0 && wants y.1) (done ++ e ∷ [])) (filter (λ y. nat_le from y.0 && wants y.1) (done ++ e ∷ [])))
          ≡ cond b (map (λ (y : ℕ × P). y.0) (cond a (x ∷ filter (λ y. nat_le from y.0 && wants y.1) done) (filter (λ y. nat_le from y.0 && wants y.1) done)) ++ e.0 ∷ [])
          (map (λ (y : ℕ × P). y.0) (cond a (x ∷ filter (λ y. nat_le from y.0 && wants y.1) done) (filter (λ y. nat_le from y.0 && wants y.1) done)))
      by true true h = ap (λ l. x.0 ∷ l) h
      by true false h = ap (λ l. x.0 ∷ l) h
      by false true h = h
      by false false h = h

  pub walked_next : (es : List (ℕ × P)) (place before : ℕ) (ids new : List ℕ) (f : Found) (answer : Bool) (w : Walked es place before ids) (c : Comes es f w.stands.done w.left)
      → answer ≡ (nat_le from c.entry.0 && wants c.entry.1) → new ≡ cond answer (ids ++ f.id ∷ []) ids → Walked es f.to f.id new
  walked_next es place before ids new f answer w c is made = record {
    left = c.more;
    stands = record {
      done = w.stands.done ++ c.entry ∷ [];
      parts = c.found.parts ∙ sym (append_assoc w.stands.done (c.entry ∷ []) c.more);
      place_is = c.found.after;
      before_is = c.found.id ∙ sym (last_id-append 0 w.stands.done (c.entry ∷ []));
    };
    ids_are = made
        ∙ ap (λ b. cond b (ids ++ f.id ∷ []) ids) is
        ∙ ap (λ n. cond (nat_le from c.entry.0 && wants c.entry.1) (ids ++ n ∷ []) ids) c.found.id
        ∙ ap (λ l. cond (nat_le from c.entry.0 && wants c.entry.1) (l ++ c.entry.0 ∷ []) l) w.ids_are
        ∙ sym (more_wanted w.stands.done c.entry);
  }

  -- ids rise on the way
  pub comes_above : (es : List (ℕ × P)) (place before : ℕ) (ids : List ℕ) (f : Found) → RisesAbove 0 es → (w : Walked es place before ids) → Comes es f w.stands.done w.left → before < f.id
  comes_above es place before ids f rises w c =
      let behind : RisesAbove (last_id 0 w.stands.done) (c.entry ∷ c.more) = rises_second 0 w.stands.done (c.entry ∷ c.more) (subst (λ x. RisesAbove 0 x) c.found.parts rises) in
      let above : last_id 0 w.stands.done < c.entry.0 = behind.0 in
      omega (arith, above, c.found.id, w.stands.before_is)

  pub walked_end : (es : List (ℕ × P)) (place before : ℕ) (ids : List ℕ) (r : Option Found) → (w : Walked es place before ids) → Finds spelled es w.stands.done w.left r → r ≡ None → ids ≡ wanted_ids wants from es
  walked_end es place before ids r w finds is = by w.left w.stands w.ids_are finds
    where
      by : (left : List (ℕ × P)) (s : Stands spelled es place before left) → ids ≡ wanted_ids wants from s.done → Finds spelled es s.done left r → ids ≡ wanted_ids wants from es
      by [] s e f = e ∙ ap (wanted_ids wants from) (sym (s.parts ∙ append-nil s.done))
      by (x ∷ more) s e f = absurd (subst (λ (o : Option Found). Finds spelled es s.done (x ∷ more) o) is f)

-- what follows of an answer that is one of the two
pub answer_is : {E : Type 0} (r : Result Bool E) (a b : Bool) → r ≡ Ok a → IfOk r (λ x. x ≡ b) → a ≡ b
answer_is r a b is h = subst (λ (x : Result Bool _). IfOk x (λ y. y ≡ b)) is h
