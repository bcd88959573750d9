-- What is found in ids that were read ahead.
use Rattle.std.proofs.Common.{◌≡◌, ℕ, ◌≤◌, ◌+◌, Bool, true, false, cond, ◌&&◌, leb, List, [], ◌∷◌, Some, None, Result, Ok, Err, OnOk, map, filter, refl, sym, ap, ◌∙◌, subst, arith, inl, inr}
use Rattle.std.specs.Prelude.{nat_le}
use Rattle.std.proofs.lemmas.Bool.{le-leb, leb-true}
use Rattle.std.proofs.lemmas.Bool.Decides.{leb_tells}
use Rattle.posting_block.specs.Coded.{AllFit}
use Rattle.posting_block.specs.Rising.{RisesAbove}
use Rattle.id_iters.specs.Ahead.{Gives, IsAhead, first_of, ids_from, live_from, wanted_ids}
use Rattle.id_iters.specs.Least.{IsLeastAt, NoneBetween}
use Rattle.id_iters.proofs.EntryLaws.{some_is_none}
use Rattle.id_iters.proofs.LeastLaws.{and_both, and_first, and_left, and_right, and_second, none_longer, none_part, none_step}

some_is : (m n : ℕ) → Some m ≡ Some n → m ≡ n
some_is m n h = cc

-- what is dropped by hand is dropped by the look for a live id
pub live_dropped : (live : ℕ → Bool) (from : ℕ) (ids : List ℕ) → live_from live from (ids_from from ids) ≡ live_from live from ids
live_dropped live from [] = refl
live_dropped live from (id ∷ ids) = pick (leb from id) refl (live_dropped live from ids)
  where
    pick : (b : Bool) → leb from id ≡ b → live_from live from (ids_from from ids) ≡ live_from live from ids
        → live_from live from (cond b (id ∷ ids) (ids_from from ids)) ≡ live_from live from (id ∷ ids)
    pick true e more = refl
    pick false e more = more ∙ ap (λ b. cond (b && live id) (id ∷ ids) (live_from live from ids)) (sym e)

-- ---- ids ahead

module _ (live has : ℕ → Bool) (last from : ℕ) where
  abbrev both : ℕ → Bool
  both id = live id && has id

  pub record Found (ids : List ℕ) (n : ℕ) : Type 0 where
    pub least : IsLeastAt both from n
    pub ahead : IsAhead has last (n + 1) (live_from live from ids)

  none_of : (low to : ℕ) → NoneBetween has low to → NoneBetween both low to
  none_of low to none = none_part both has low to (λ id e. and_right (live id) (has id) e) none

  -- one more id that isn't given out
  past : (low id : ℕ) → NoneBetween both from low → NoneBetween has low id → (leb from id && live id) ≡ false → NoneBetween both from (id + 1)
  past low id none more e =
      elim (leb_tells from id) [
        | inl i ↦ none_step both from low id none (none_of low id more) (and_left (live id) (has id) (sym (ap (λ b. b && live id) i.0) ∙ e))
        | inr i ↦ record { fails = λ n l u. absurd (omega (arith, l, u, i.1)) }
      ]

  finds_at : (low n : ℕ) (ids : List ℕ) → Gives has low last ids → NoneBetween both from low → first_of (live_from live from ids) ≡ Some n → Found ids n
  finds_at low n [] g none e = absurd (some_is_none n (sym e))
  finds_at low n (id ∷ ids) g none e =
      pick (leb from id && live id) refl (λ t. finds_at (id + 1) n ids g.4 (past low id none g.3 t)) e
    where
      pick : (b : Bool) → (leb from id && live id) ≡ b
          → ((leb from id && live id) ≡ false → first_of (live_from live from ids) ≡ Some n → Found ids n)
          → first_of (cond b (id ∷ ids) (live_from live from ids)) ≡ Some n → Found (id ∷ ids) n
      pick true t more h =
          subst (λ m. Found (id ∷ ids) m) (some_is id n h)
          (record {
            least = record {
              reached = leb-true from id (and_first (leb from id) (live id) t);
              passes = and_both (live id) (has id) (and_second (leb from id) (live id) t) g.2;
              below = none_longer both from low id none (none_of low id g.3);
            };
            ahead = record {
              low = low;
              reached = omega (arith, g.0);
              gives = subst (λ b. Gives has low last (cond b (id ∷ ids) (live_from live from ids))) (sym t) g;
            };
          })
      pick false t more h =
          let f = more t h in
          record {
            least = f.least;
            ahead = subst (λ b. IsAhead has last (n + 1) (cond b (id ∷ ids) (live_from live from ids))) (sym t) f.ahead;
          }

  used_at : (low : ℕ) (ids : List ℕ) → Gives has low last ids → NoneBetween both from low → first_of (live_from live from ids) ≡ None → NoneBetween both from (last + 1)
  used_at low [] g none e = none_longer both from low (last + 1) none (none_of low (last + 1) g)
  used_at low (id ∷ ids) g none e =
      pick (leb from id && live id) refl (λ t. used_at (id + 1) ids g.4 (past low id none g.3 t)) e
    where
      pick : (b : Bool) → (leb from id && live id) ≡ b
          → ((leb from id && live id) ≡ false → first_of (live_from live from ids) ≡ None → NoneBetween both from (last + 1))
          → first_of (cond b (id ∷ ids) (live_from live from ids)) ≡ None → NoneBetween both from (last + 1)
      pick true t more h = absurd (some_is_none id h)
      pick false t more h = more t h

  none_before : (low : ℕ) → low ≤ from → NoneBetween both from low
  none_before low h = record { fails = λ id l u. absurd (omega (arith, l, u, h)) }

  -- what is answered is the least, and the ids beyond it are ahead
  pub found : (ids new : List ℕ) (n : ℕ) → IsAhead has last from ids → new ≡ live_from live from ids → Some n ≡ first_of new → IsLeastAt both from n × IsAhead has last (n + 1) new
  found ids new n a is e =
      let f = finds_at a.low n ids a.gives (none_before a.low a.reached) (sym (e ∙ ap first_of is)) in
      (f.least, subst (λ l. IsAhead has last (n + 1) l) (sym is) f.ahead)

  -- where none is answered none is left up to the place
  pub used : (ids new : List ℕ) → IsAhead has last from ids → new ≡ live_from live from ids → None ≡ first_of new → NoneBetween both from (last + 1)
  used ids new a is e = used_at a.low ids a.gives (none_before a.low a.reached) (sym (e ∙ ap first_of is))

-- the ids that were read are as those from a number on
pub ahead_read : (has : ℕ → Bool) (last from : ℕ) (ids wanted : List ℕ) → ids_from from ids ≡ wanted → Gives has from last wanted → IsAhead has last from (ids_from from ids)
ahead_read has last from ids wanted e g = record { low = from; reached = omega arith; gives = subst (λ l. Gives has from last l) (sym e) g }

pub ahead_later : (has : ℕ → Bool) (last from to : ℕ) (ids : List ℕ) → IsAhead has last from ids → from ≤ to → IsAhead has last to ids
ahead_later has last from to ids a h = record { low = a.low; reached = omega (arith, a.reached, h); gives = a.gives }

-- ---- how a block is read

module _ {P : Type 0} (wants : P → Bool) where
  -- ids that are all from a number on
  from_above : (from low : ℕ) (es : List (ℕ × P)) → ids_from from (wanted_ids wants from es) ≡ wanted_ids wants from es
  from_above from low [] = refl
  from_above from low (e ∷ es) = pick (leb from e.0) refl (from_above from low es)
    where
      pick : (b : Bool) → leb from e.0 ≡ b → ids_from from (wanted_ids wants from es) ≡ wanted_ids wants from es
          → ids_from from (map (λ (x : ℕ × P). x.0) (cond (b && wants e.1) (e ∷ filter (λ x. nat_le from x.0 && wants x.1) es) (filter (λ x. nat_le from x.0 && wants x.1) es)))
          ≡ map (λ (x : ℕ × P). x.0) (cond (b && wants e.1) (e ∷ filter (λ x. nat_le from x.0 && wants x.1) es) (filter (λ x. nat_le from x.0 && wants x.1) es))
      pick true t more = by (wants e.1)
        where
          by : (w : Bool) → ids_from from (map (λ (x : ℕ × P). x.0) (cond w (e ∷ filter (λ x. nat_le from x.0 && wants x.1) es) (filter (λ x. nat_le from x.0 && wants x.1) es)))
              ≡ map (λ (x : ℕ × P). x.0) (cond w (e ∷ filter (λ x. nat_le from x.0 && wants x.1) es) (filter (λ x. nat_le from x.0 && wants x.1) es))
          by true = ap (λ b. cond b (e.0 ∷ wanted_ids wants from es) (ids_from from (wanted_ids wants from es))) t
          by false = more
      pick false t more = more

  pub read_wanted : (from : ℕ) (es : List (ℕ × P)) (ids : List ℕ) → ids ≡ wanted_ids wants from es → ids_from from ids ≡ wanted_ids wants from es
  read_wanted from es ids e = ap (ids_from from) e ∙ from_above from 0 es

  module _ (valid : P → Type 0) (every : (hit : P) → valid hit → wants hit ≡ true) where
    all_wanted : (from low : ℕ) (es : List (ℕ × P)) → RisesAbove low es → AllFit valid es → from ≤ low + 1 → map (λ (e : ℕ × P). e.0) es ≡ wanted_ids wants from es
    all_wanted from low [] rises fit h = refl
    all_wanted from low (e ∷ es) rises fit h =
        ap (λ l. e.0 ∷ l) (all_wanted from e.0 es rises.1 fit.2 (omega (arith, h, rises.0)))
        ∙ ap (λ b. map (λ (x : ℕ × P). x.0) (cond b (e ∷ filter (λ x. nat_le from x.0 && wants x.1) es) (filter (λ x. nat_le from x.0 && wants x.1) es)))
        (sym (and_both (leb from e.0) (wants e.1) (le-leb from e.0 (omega (arith, h, rises.0))) (every e.1 fit.1)))

    from_all : (from low : ℕ) (es : List (ℕ × P)) → RisesAbove low es → AllFit valid es → ids_from from (map (λ (e : ℕ × P). e.0) es) ≡ wanted_ids wants from es
    from_all from low [] rises fit = refl
    from_all from low (e ∷ es) rises fit =
        pick (leb from e.0) refl (from_all from e.0 es rises.1 fit.2)
      where
        pick : (b : Bool) → leb from e.0 ≡ b → ids_from from (map (λ (x : ℕ × P). x.0) es) ≡ wanted_ids wants from es
            → cond b (e.0 ∷ map (λ (x : ℕ × P). x.0) es) (ids_from from (map (λ (x : ℕ × P). x.0) es))
            ≡ map (λ (x : ℕ × P). x.0) (cond (b && wants e.1) (e ∷ filter (λ x. nat_le from x.0 && wants x.1) es) (filter (λ x. nat_le from x.0 && wants x.1) es))
        pick true t more =
            ap (λ l. e.0 ∷ l) (all_wanted from e.0 es rises.1 fit.2 (omega (arith, leb-true from e.0 t)))
            ∙ ap (λ b. map (λ (x : ℕ × P). x.0) (cond b (e ∷ filter (λ x. nat_le from x.0 && wants x.1) es) (filter (λ x. nat_le from x.0 && wants x.1) es))) (sym (every e.1 fit.1))
        pick false t more = more

    pub read_all : (from : ℕ) (es : List (ℕ × P)) (ids : List ℕ) → RisesAbove 0 es → AllFit valid es → ids ≡ map (λ (e : ℕ × P). e.0) es → ids_from from ids ≡ wanted_ids wants from es
    read_all from es ids rises fit e = ap (ids_from from) e ∙ from_all from 0 es rises fit

-- on_ok of a call that answers nothing
pub on_ok : {A E : Type 0} (r : Result A E) (P Q : Type 0) → (P → Q) → OnOk r P → OnOk r Q
on_ok (Ok x) P Q h on = h on
on_ok (Err e) P Q h on = tt

pub on_both : {A E : Type 0} (r : Result A E) (P Q R : Type 0) → (P → Q → R) → OnOk r P → OnOk r Q → OnOk r R
on_both (Ok x) P Q R h one other = h one other
on_both (Err e) P Q R h one other = tt
