-- The entries from a number on up to the last one of their block are those of the block.
use Rattle.std.proofs.Common.{◌≡◌, ℕ, zero, suc, ◌<◌, ◌≤◌, ◌+◌, ◌-◌, ◌*◌, ◌/◌, Bool, true, false, cond, ◌&&◌, ◌||◌, List, [], ◌∷◌, ◌++◌, Some, None, map, filter, length, take, drop, refl, sym, ap, ◌∙◌, subst, arith, inl, inr}
use Rattle.std.specs.Prelude.{nat_le, nat_eq}
use lib.Dec.{ltb}
use Rattle.std.proofs.lemmas.Bool.{ltb-true, ltb-false, le-leb}
use Rattle.std.proofs.lemmas.Bool.Decides.{eqb_tells, leb_tells}
use Rattle.std.proofs.Math.Seq.{take-add}
use Rattle.std.proofs.lemmas.List.{take-append-drop, length-drop, length-take}
use Rattle.posting_block.specs.Rising.{RisesAbove, last_id}
use Rattle.posting_block.proofs.RisingLaws.{last_id-append, rises_first, rises_second, last_from}
use Rattle.inverted_list.specs.Places.{IsBlockFrom, reach}
use Rattle.inverted_list.proofs.ReachLaws.{reach_within, reach_beyond, reach_none, reach_fits, reach_whole}
use Rattle.id_iters.specs.Ahead.{Gives, wanted_ids}
use Rattle.id_iters.specs.Entries.{has_entry}
use Rattle.id_iters.specs.Least.{NoneBetween, NoneFrom}
use Rattle.id_iters.proofs.EntryLaws.{passed, none_below, some_is_none}
use Rattle.id_iters.proofs.LeastLaws.{none_here, none_longer, none_step}

-- ---- what ids give

none_same : (p q : ℕ → Bool) (from to : ℕ) → ((id : ℕ) → from ≤ id → id < to → p id ≡ q id) → NoneBetween p from to → NoneBetween q from to
none_same p q from to same a = record { fails = λ id low high. sym (same id low high) ∙ a.fails id low high }

gives_same : (p q : ℕ → Bool) (low last : ℕ) (ids : List ℕ) → ((id : ℕ) → low ≤ id → id ≤ last → p id ≡ q id) → Gives p low last ids → Gives q low last ids
gives_same p q low last [] same g = none_same p q low (last + 1) (λ id l h. same id l (omega (arith, h))) g
gives_same p q low last (id ∷ ids) same g = (
  g.0,
  g.1,
  sym (same id g.0 g.1) ∙ g.2,
  none_same p q low id (λ n l h. same n l (omega (arith, h, g.1))) g.3,
  gives_same p q (id + 1) last ids (λ n l h. same n (omega (arith, l, g.0)) h) g.4,
)

-- where none passes before, the ids are those from a lower number on
gives_lower : (p : ℕ → Bool) (low mid last : ℕ) (ids : List ℕ) → low ≤ mid → NoneBetween p low mid → Gives p mid last ids → Gives p low last ids
gives_lower p low mid last [] h none g = none_longer p low mid (last + 1) none g
gives_lower p low mid last (id ∷ ids) h none g = (omega (arith, h, g.0), g.1, g.2, none_longer p low mid id none g.3, g.4)

module _ {P : Type 0} (wants : P → Bool) where
  abbrev all_ids : List (ℕ × P) → List ℕ
  all_ids es = map (λ e. e.0) (filter (λ e. wants e.1) es)

  has_first : (e : ℕ × P) (es : List (ℕ × P)) → wants e.1 ≡ true → has_entry wants (e ∷ es) e.0 ≡ true
  has_first e es w = elim (eqb_tells e.0 e.0) [
    | inl i ↦ ap (λ b. (b && wants e.1) || has_entry wants es e.0) i.0 ∙ ap (λ b. b || has_entry wants es e.0) w
    | inr i ↦ absurd (i.1 refl)
  ]

  lacks_first : (low : ℕ) (e : ℕ × P) (es : List (ℕ × P)) → RisesAbove low (e ∷ es) → wants e.1 ≡ false → has_entry wants (e ∷ es) e.0 ≡ false
  lacks_first low e es rises w =
      ap (λ b. (nat_eq e.0 e.0 && b) || has_entry wants es e.0) w ∙ ap (λ b. (nat_eq e.0 e.0 && false) || b) (none_below wants e.0 e.0 es rises.1 (omega arith)) ∙ neither (nat_eq e.0 e.0)
    where
      neither : (b : Bool) → ((b && false) || false) ≡ false
      neither true = refl
      neither false = refl

  before_first : (low : ℕ) (e : ℕ × P) (es : List (ℕ × P)) (from : ℕ) → RisesAbove low (e ∷ es) → NoneBetween (has_entry wants (e ∷ es)) from e.0
  before_first low e es from rises = record {
    fails = λ id l u. passed wants id e es (λ same. omega (arith, u, same)) ∙ none_below wants e.0 id es rises.1 (omega (arith, u));
  }

  -- the ids of all entries are those that are had up to the last
  gives_all : (low : ℕ) (es : List (ℕ × P)) → RisesAbove low es → Gives (has_entry wants es) (low + 1) (last_id low es) (all_ids es)
  gives_all low [] rises = none_here _ (low + 1)
  gives_all low (e ∷ es) rises =
      pick (wants e.1) refl
      (gives_same (has_entry wants es) (has_entry wants (e ∷ es)) (e.0 + 1) (last_id e.0 es) (all_ids es)
      (λ id l h. sym (passed wants id e es (λ same. omega (arith, l, same)))) (gives_all e.0 es rises.1))
    where
      pick : (b : Bool) → wants e.1 ≡ b → Gives (has_entry wants (e ∷ es)) (e.0 + 1) (last_id e.0 es) (all_ids es)
          → Gives (has_entry wants (e ∷ es)) (low + 1) (last_id e.0 es) (map (λ (x : ℕ × P). x.0) (cond b (e ∷ filter (λ x. wants x.1) es) (filter (λ x. wants x.1) es)))
      pick true w more =
          let high : e.0 + length es ≤ last_id e.0 es = last_from e.0 es rises.1 in
          (omega (arith, rises.0), omega (arith, high), has_first e es w, before_first low e es (low + 1) rises, more)
      pick false w more =
          gives_lower _ (low + 1) (e.0 + 1) _ (all_ids es) (omega (arith, rises.0))
          (none_step _ (low + 1) (low + 1) e.0 (none_here _ (low + 1)) (before_first low e es (low + 1) rises) (lacks_first low e es rises w)) more

  -- entries that are all from a number on
  all_from : (from low : ℕ) (es : List (ℕ × P)) → RisesAbove low es → from ≤ low + 1 → filter (λ e. nat_le from e.0 && wants e.1) es ≡ filter (λ e. wants e.1) es
  all_from from low [] rises h = refl
  all_from from low (e ∷ es) rises h =
      ap (λ b. cond (b && wants e.1) (e ∷ filter (λ x. nat_le from x.0 && wants x.1) es) (filter (λ x. nat_le from x.0 && wants x.1) es)) (le-leb from e.0 (omega (arith, h, rises.0)))
      ∙ ap (λ l. cond (wants e.1) (e ∷ l) l) (all_from from e.0 es rises.1 (omega (arith, h, rises.0)))

  -- the ids from a number on are those that are had from it on
  gives_wanted : (low from : ℕ) (es : List (ℕ × P)) → RisesAbove low es → low < from → from ≤ last_id low es → Gives (has_entry wants es) from (last_id low es) (wanted_ids wants from es)
  gives_wanted low from [] rises h there = absurd (omega (arith, h, there))
  gives_wanted low from (e ∷ es) rises h there =
      elim (leb_tells from e.0) [
        | inl i ↦
            let high : RisesAbove (from - 1) (e ∷ es) = (omega (arith, h, i.1), rises.1) in
            subst (λ l. Gives (has_entry wants (e ∷ es)) from (last_id e.0 es) (map (λ (x : ℕ × P). x.0) l)) (sym (all_from from (from - 1) (e ∷ es) high (omega arith)))
            (subst (λ n. Gives (has_entry wants (e ∷ es)) n (last_id e.0 es) (all_ids (e ∷ es))) (omega (arith, h)) (gives_all (from - 1) (e ∷ es) high))
        | inr i ↦
            subst (λ b. Gives (has_entry wants (e ∷ es)) from (last_id e.0 es)
            (map (λ (x : ℕ × P). x.0) (cond (b && wants e.1) (e ∷ filter (λ x. nat_le from x.0 && wants x.1) es) (filter (λ x. nat_le from x.0 && wants x.1) es)))) (sym i.0)
            (gives_same (has_entry wants es) (has_entry wants (e ∷ es)) from (last_id e.0 es) (wanted_ids wants from es)
            (λ id l u. sym (passed wants id e es (λ same. omega (arith, l, same, i.1)))) (gives_wanted e.0 from es rises.1 (omega (arith, i.1)) there))
      ]

  -- ---- the entries before and behind a block

  has_past : (low id : ℕ) (before es : List (ℕ × P)) → RisesAbove low before → last_id low before < id → has_entry wants (before ++ es) id ≡ has_entry wants es id
  has_past low id [] es rises h = refl
  has_past low id (e ∷ before) es rises h =
      let high : e.0 + length before ≤ last_id e.0 before = last_from e.0 before rises.1 in
      passed wants id e (before ++ es) (λ same. omega (arith, h, same, high)) ∙ has_past e.0 id before es rises.1 h

  has_short : (low id : ℕ) (es behind : List (ℕ × P)) → RisesAbove low (es ++ behind) → id ≤ last_id low es → has_entry wants (es ++ behind) id ≡ has_entry wants es id
  has_short low id [] behind rises h = none_below wants low id behind rises h
  has_short low id (e ∷ es) behind rises h = ap (λ b. (nat_eq id e.0 && wants e.1) || b) (has_short e.0 id es behind rises.1 h)

  gives_among : (from : ℕ) (before es behind : List (ℕ × P)) → RisesAbove 0 (before ++ (es ++ behind)) → last_id 0 before < from → from ≤ last_id (last_id 0 before) es
      → Gives (has_entry wants (before ++ (es ++ behind))) from (last_id (last_id 0 before) es) (wanted_ids wants from es)
  gives_among from before es behind rises low there =
      let more : RisesAbove (last_id 0 before) (es ++ behind) = rises_second 0 before (es ++ behind) rises in
      gives_same (has_entry wants es) (has_entry wants (before ++ (es ++ behind))) from (last_id (last_id 0 before) es) (wanted_ids wants from es)
      (λ id l u. sym (has_past 0 id before (es ++ behind) (rises_first 0 before (es ++ behind) rises) (omega (arith, l, low)) ∙ has_short (last_id 0 before) id es behind more u))
      (gives_wanted (last_id 0 before) from es (rises_first (last_id 0 before) es behind more) low there)

-- ---- how far an id reaches

module _ {P : Type 0} where
  -- what is reached ends at the id or before it
  last_reached : (low after n : ℕ) (es : List (ℕ × P)) → RisesAbove low es → low ≤ after → n ≤ reach after es → last_id low (take n es) ≤ after
  last_reached low after zero es rises h m = h
  last_reached low after (suc n) [] rises h m = h
  last_reached low after (suc n) (e ∷ es) rises h m =
      elim (leb_tells e.0 after) [
        | inl i ↦ last_reached e.0 after n es rises.1 i.1 (omega (arith, m, reach_within after e es i.1))
        | inr i ↦ absurd (omega (arith, m, reach_beyond after e es i.1, reach_none e.0 after es rises.1 (omega (arith, i.1))))
      ]

  -- what goes beyond what is reached ends beyond the id
  last_beyond : (low after n : ℕ) (es : List (ℕ × P)) → RisesAbove low es → reach after es < n → reach after es < length es → after < last_id low (take n es)
  last_beyond low after zero es rises m l = absurd (omega (arith, m))
  last_beyond low after (suc n) [] rises m l = absurd (omega (arith, l))
  last_beyond low after (suc n) (e ∷ es) rises m l =
      elim (leb_tells e.0 after) [
        | inl i ↦
            let within : reach after (e ∷ es) ≡ suc (reach after es) = reach_within after e es i.1 in
            last_beyond e.0 after n es rises.1 (omega (arith, m, within)) (omega (arith, l, within))
        | inr i ↦
            let high : e.0 + length (take n es) ≤ last_id e.0 (take n es) = last_from e.0 (take n es) (rises_first e.0 (take n es) (drop n es) (subst (λ x. RisesAbove e.0 x) (sym (take-append-drop n es)) rises.1)) in
            omega (arith, i.1, high)
      ]

  -- where all is reached none is beyond
  none_beyond : (wants : P → Bool) (after : ℕ) (es : List (ℕ × P)) → length es ≤ reach after es → NoneFrom (has_entry wants es) (after + 1)
  none_beyond wants after es h = record { fails = λ id low. by es h id low }
    where
      by : (es : List (ℕ × P)) → length es ≤ reach after es → (id : ℕ) → after + 1 ≤ id → has_entry wants es id ≡ false
      by [] h id low = refl
      by (e ∷ es) h id low =
          elim (leb_tells e.0 after) [
            | inl i ↦ passed wants id e es (λ same. omega (arith, same, low, i.1)) ∙ by es (omega (arith, h, reach_within after e es i.1)) id low
            | inr i ↦ absurd (omega (arith, h, reach_beyond after e es i.1, reach_fits after es))
          ]

  -- a last id in which something counts starts from there
  last_some : (low other : ℕ) (es : List (ℕ × P)) → 0 < length es → last_id low es ≡ last_id other es
  last_some low other [] h = absurd (omega (arith, h))
  last_some low other (e ∷ es) h = refl

  -- ---- the block of the first entry from a number on

  pub record Reads (wants : P → Bool) (from : ℕ) (es block : List (ℕ × P)) : Type 0 where
    pub gives : Gives (has_entry wants es) from (last_id 0 block) (wanted_ids wants from block)
    pub forward : from ≤ last_id 0 block

  pub found_block : (wants : P → Bool) (from : ℕ) (es block : List (ℕ × P)) → RisesAbove 0 es → 1 ≤ from → IsBlockFrom from es block → Reads wants from es block
  found_block wants from es block rises some p =
      let reached : last_id 0 p.front < from = p.before in
      let there : from ≤ last_id 0 block = p.there in
      let filled : 0 < length block = some_within from block some there in
      let same : last_id (last_id 0 p.front) block ≡ last_id 0 block = last_some (last_id 0 p.front) 0 block filled in
      let forward : from ≤ last_id (last_id 0 p.front) block = omega (arith, there, same) in
      let made : Gives (has_entry wants (p.front ++ (block ++ p.back))) from (last_id (last_id 0 p.front) block) (wanted_ids wants from block)
      = gives_among wants from p.front block p.back (subst (λ x. RisesAbove 0 x) p.parts rises) (omega (arith, reached)) forward in
      record {
        gives = subst (λ x. Gives (has_entry wants x) from (last_id 0 block) (wanted_ids wants from block)) (sym p.parts)
            (subst (λ m. Gives (has_entry wants (p.front ++ (block ++ p.back))) from m (wanted_ids wants from block)) same made);
        forward = there;
      }
    where
      some_within : (from : ℕ) (xs : List (ℕ × P)) → 1 ≤ from → from ≤ last_id 0 xs → 0 < length xs
      some_within from [] one h = absurd (omega (arith, one, h))
      some_within from (x ∷ xs) one h = omega arith

  pub no_block : (wants : P → Bool) (from : ℕ) (es : List (ℕ × P)) → RisesAbove 0 es → 1 ≤ from → last_id 0 es < from → NoneFrom (has_entry wants es) from
  no_block wants from es rises some below =
      let all : reach (from - 1) es ≡ length es = reach_whole 0 (from - 1) es rises (omega (arith, below, some)) in
      subst (λ n. NoneFrom (has_entry wants es) n) (omega (arith, some)) (none_beyond wants (from - 1) es (omega (arith, all)))
