-- Parts that may be negated.
use Rattle.std.proofs.Common.{◌≡◌, ℕ, Bool, true, false, not, ◌&&◌, ◌||◌, List, [], ◌∷◌, ◌++◌, map, length, Option, refl, sym, ap, ◌∙◌, subst}
use Rattle.std.specs.Prelude.{if◌then◌else◌}
use Rattle.std.specs.List.{AllByRecursion, list_all, list_any}
use Rattle.std.proofs.Math.Bool.{or-false}
use Rattle.std.proofs.lemmas.List.Folds.{list_all-append, list_any-append}
use Rattle.id_iters.specs.Fitting.{leaves_of, leaves_step, ahead_leaves}
use Rattle.id_iters.specs.Held.{Held}
use Rattle.id_iters.specs.Ready.{Ready}
use Rattle.id_iters.specs.Sets.{About, about}
use Rattle.id_iters.specs.declared.iter.Iter.{Iter}
use Rattle.id_iters.specs.declared.iter.Iter.TheFolds as folds
use Rattle.id_iters.specs.declared.iter.Iter.TheOpen as layer
use Rattle.id_iters.specs.declared.iter.Iter.TheVariants as variant
use Rattle.id_iters.specs.declared.leaf.Leaf.{Leaf}
use Rattle.id_iters.specs.declared.list_name.ListName.{ListName}
use Rattle.id_iters.proofs.Layers.{about_all, about_empty}
use Rattle.inverted_list.specs.declared.place.Place.{Place}
use Rattle.list_plan.specs.Parts.{Combines, Denies, IsAny, IsEvery, JoinsSides, Sorts, Splits, part_has}
use Rattle.list_plan.specs.Plans.{AllKnown, AllOpen, AllReady, Joins, PartsKnown, PartsOpen, ids_of}
use Rattle.list_plan.specs.declared.parts.Part.{Part}
use Rattle.list_plan.specs.declared.size.Planned.{Planned}
use Rattle.list_plan.proofs.UnionLaws.{all_apart, all_joined, nil}

-- ---- all ids and none

leaves_empty : leaves_of variant.Empty ≡ []
leaves_empty = ap leaves_of (sym variant.rolls-Empty) ∙ folds.fold-roll-Iter (List Leaf) (List Leaf) leaves_step ahead_leaves layer.Empty

leaves_of_none : (iter : Iter) → iter ≡ variant.Empty → leaves_of iter ≡ []
leaves_of_none iter is = ap leaves_of is ∙ leaves_empty

pub all_has : (held : Held) (iter : Iter) (id : ℕ) → iter ≡ variant.All → (about held iter).has id ≡ true
all_has held iter id is = ap (λ (i : Iter). (about held i).has id) is ∙ ap (λ (a : About). a.has id) (about_all held)

none_has : (held : Held) (iter : Iter) (id : ℕ) → iter ≡ variant.Empty → (about held iter).has id ≡ false
none_has held iter id is = ap (λ (i : Iter). (about held i).has id) is ∙ ap (λ (a : About). a.has id) (about_empty held)

-- ---- one part

pub as_is : (held : Held) (part : Part) (id : ℕ) → part.negated ≡ false → part_has held part id ≡ ids_of held part.planned id
as_is held part id is = ap (λ b. if b then not (ids_of held part.planned id) else ids_of held part.planned id) is

pub as_other : (held : Held) (part : Part) (id : ℕ) → part.negated ≡ true → part_has held part id ≡ not (ids_of held part.planned id)
as_other held part id is = ap (λ b. if b then not (ids_of held part.planned id) else ids_of held part.planned id) is

-- a negated part without ids has all
pub denies_none : (held : Held) (part : Part) (id : ℕ) → part.negated ≡ true → part.planned.iter ≡ variant.Empty → part_has held part id ≡ true
denies_none held part id negated is = as_other held part id negated ∙ ap not (none_has held part.planned.iter id is)

not_not : (b : Bool) → not (not b) ≡ b
not_not true = refl
not_not false = refl

turned : (b x : Bool) → (if not b then not x else x) ≡ not (if b then not x else x)
turned true x = sym (not_not x)
turned false x = refl

pub other_has : (held : Held) (part other : Part) (id : ℕ) → other.planned ≡ part.planned → other.negated ≡ not part.negated
    → part_has held other id ≡ not (part_has held part id)
other_has held part other id same negated =
    ap (λ (p : Planned). if other.negated then not (ids_of held p id) else ids_of held p id) same
    ∙ ap (λ b. if b then not (ids_of held part.planned id) else ids_of held part.planned id) negated
    ∙ turned part.negated (ids_of held part.planned id)

-- ---- parts are sorted

found_bool : (a n b : Bool) → ((a && (b && true)) && not n) ≡ ((a && not n) && (b && true))
found_bool true true true = refl
found_bool true true false = refl
found_bool true false true = refl
found_bool true false false = refl
found_bool false n b = refl

denied_bool : (a n b : Bool) → (a && not (n || (b || false))) ≡ ((a && not n) && (not b && true))
denied_bool true true b = refl
denied_bool true false true = refl
denied_bool true false false = refl
denied_bool false n b = refl

and_true : (a : Bool) → (a && true) ≡ a
and_true true = refl
and_true false = refl

abbrev every : Held → List Planned → ℕ → Bool
every held plans id = list_all (λ planned. ids_of held planned id) plans

abbrev some : Held → List Planned → ℕ → Bool
some held plans id = list_any (λ planned. ids_of held planned id) plans

abbrev all_parts : Held → List Part → ℕ → Bool
all_parts held parts id = list_all (λ part. part_has held part id) parts

module _ (part : Part) (found denied : List Planned) where
  found_sorts : (more : List Planned) → part.negated ≡ false → more ≡ found ++ part.planned ∷ [] → Sorts part found denied more denied
  found_sorts more is are = subst (λ (xs : List Planned). Sorts part found denied xs denied) (sym are) (record {
    splits = λ parts s. record {
      set = λ held id.
          ap (λ b. b && not (some held denied id)) (list_all-append (λ planned. ids_of held planned id) found (part.planned ∷ []))
          ∙ found_bool (every held found id) (some held denied id) (ids_of held part.planned id)
          ∙ ap (λ b. b && (ids_of held part.planned id && true)) (s.set held id)
          ∙ ap (λ b. all_parts held parts id && (b && true)) (sym (as_is held part id is))
          ∙ sym (list_all-append (λ p. part_has held p id) parts (part ∷ []));
      ready = λ held from all. came parts (λ (p : Planned). Ready held p.iter from) (s.ready held from) all;
      placed = λ held after all. came parts (λ (p : Planned). AllOpen held after (leaves_of p.iter)) (s.placed held after) all;
      known = λ known all none.
          let apart = all_apart (λ (p : Planned). AllKnown known (leaves_of p.iter)) found (part.planned ∷ []) all in
          all_joined (λ (p : Part). AllKnown known (leaves_of p.planned.iter)) parts (part ∷ []) (s.known known apart.0 none) (apart.1.0, tt);
    };
  })
    where
      came : (parts : List Part) (P : Planned → Type 0) → (AllByRecursion (λ (p : Part). P p.planned) parts → AllByRecursion P found × AllByRecursion P denied)
          → AllByRecursion (λ (p : Part). P p.planned) (parts ++ part ∷ []) → AllByRecursion P (found ++ part.planned ∷ []) × AllByRecursion P denied
      came parts P so all =
          let apart = all_apart (λ (p : Part). P p.planned) parts (part ∷ []) all in
          let both = so apart.0 in
          (all_joined P found (part.planned ∷ []) both.0 (apart.1.0, tt), both.1)

  denied_sorts : (more : List Planned) → part.negated ≡ true → more ≡ denied ++ part.planned ∷ [] → Sorts part found denied found more
  denied_sorts more is are = subst (λ (xs : List Planned). Sorts part found denied found xs) (sym are) (record {
    splits = λ parts s. record {
      set = λ held id.
          ap (λ b. every held found id && not b) (list_any-append (λ planned. ids_of held planned id) denied (part.planned ∷ []))
          ∙ denied_bool (every held found id) (some held denied id) (ids_of held part.planned id)
          ∙ ap (λ b. b && (not (ids_of held part.planned id) && true)) (s.set held id)
          ∙ ap (λ b. all_parts held parts id && (b && true)) (sym (as_other held part id is))
          ∙ sym (list_all-append (λ p. part_has held p id) parts (part ∷ []));
      ready = λ held from all. came parts (λ (p : Planned). Ready held p.iter from) (s.ready held from) all;
      placed = λ held after all. came parts (λ (p : Planned). AllOpen held after (leaves_of p.iter)) (s.placed held after) all;
      known = λ known all none.
          let apart = all_apart (λ (p : Planned). AllKnown known (leaves_of p.iter)) denied (part.planned ∷ []) none in
          all_joined (λ (p : Part). AllKnown known (leaves_of p.planned.iter)) parts (part ∷ []) (s.known known all apart.0) (apart.1.0, tt);
    };
  })
    where
      came : (parts : List Part) (P : Planned → Type 0) → (AllByRecursion (λ (p : Part). P p.planned) parts → AllByRecursion P found × AllByRecursion P denied)
          → AllByRecursion (λ (p : Part). P p.planned) (parts ++ part ∷ []) → AllByRecursion P found × AllByRecursion P (denied ++ part.planned ∷ [])
      came parts P so all =
          let apart = all_apart (λ (p : Part). P p.planned) parts (part ∷ []) all in
          let both = so apart.0 in
          (both.0, all_joined P denied (part.planned ∷ []) both.1 (apart.1.0, tt))

  none_sorts : part.negated ≡ true → part.planned.iter ≡ variant.Empty → Sorts part found denied found denied
  none_sorts negated is = record {
    splits = λ parts s. record {
      set = λ held id.
          s.set held id
          ∙ sym (list_all-append (λ p. part_has held p id) parts (part ∷ [])
          ∙ ap (λ b. all_parts held parts id && (b && true)) (denies_none held part id negated is)
          ∙ and_true (all_parts held parts id));
      ready = λ held from all. s.ready held from (all_apart (λ (p : Part). Ready held p.planned.iter from) parts (part ∷ []) all).0;
      placed = λ held after all. s.placed held after (all_apart (λ (p : Part). AllOpen held after (leaves_of p.planned.iter)) parts (part ∷ []) all).0;
      known = λ known all none.
          all_joined (λ (p : Part). AllKnown known (leaves_of p.planned.iter)) parts (part ∷ []) (s.known known all none)
          (subst (AllKnown known) (sym (leaves_of_none part.planned.iter is)) tt, tt);
    };
  }

pub found_goes : (part : Part) (found denied more : List Planned) → part.negated ≡ false → more ≡ found ++ part.planned ∷ [] → Sorts part found denied more denied
found_goes = found_sorts

pub denied_goes : (part : Part) (found denied more : List Planned) → part.negated ≡ true → more ≡ denied ++ part.planned ∷ [] → Sorts part found denied found more
denied_goes = denied_sorts

pub none_goes : (part : Part) (found denied : List Planned) → part.negated ≡ true → part.planned.iter ≡ variant.Empty → Sorts part found denied found denied
none_goes = none_sorts

none_split : Splits [] [] []
none_split = record { set = λ held id. refl; ready = λ held from all. (tt, tt); placed = λ held after all. (tt, tt); known = λ known all none. tt }

pub nothing_split : (found denied : List Planned) → found ≡ [] → denied ≡ [] → Splits [] found denied
nothing_split found denied is are = subst (λ (xs : List Planned). Splits [] xs denied) (sym is) (subst (λ (xs : List Planned). Splits [] [] xs) (sym are) none_split)

-- ---- sets that none has

pub denies : (plans : List Planned) (union made : Planned) → Joins plans (union ∷ [])
    → ((held : Held) (id : ℕ) → ids_of held made id ≡ not (ids_of held union id))
    → ((held : Held) (from : ℕ) → Ready held union.iter from → Ready held made.iter from)
    → leaves_of made.iter ≡ leaves_of union.iter → Denies plans made
denies plans union made joins set ready leaves = record {
  set = λ held id. set held id ∙ ap not (sym (or-false (ids_of held union id)) ∙ joins.set held id);
  ready = λ held from all. ready held from (joins.ready held from all).0;
  placed = λ held after all. subst (AllOpen held after) (sym leaves) (joins.placed held after all).0;
  known = λ known all. joins.known known (subst (AllKnown known) leaves all, tt);
}

-- ---- sets of both sides

pub no_denied : (found denied : List Planned) → length denied ≡ 0 → Combines found denied found
no_denied found denied none = subst (λ (xs : List Planned). Combines found xs found) (sym (nil denied none)) (record {
  set = λ held id. sym (and_true (every held found id));
  ready = λ held from all others. all;
  placed = λ held after all others. all;
  known = λ known all. (all, tt);
})

pub one_denies : (found denied all : List Planned) (none : Planned) → Denies denied none → all ≡ found ++ none ∷ [] → Combines found denied all
one_denies found denied all none d are = subst (λ (xs : List Planned). Combines found denied xs) (sym are) (record {
  set = λ held id.
      list_all-append (λ planned. ids_of held planned id) found (none ∷ [])
      ∙ ap (λ b. every held found id && b) (and_true (ids_of held none id) ∙ d.set held id);
  ready = λ held from each others. all_joined (λ (p : Planned). Ready held p.iter from) found (none ∷ []) each (d.ready held from others, tt);
  placed = λ held after each others. all_joined (λ (p : Planned). AllOpen held after (leaves_of p.iter)) found (none ∷ []) each (d.placed held after others, tt);
  known = λ known each.
      let apart = all_apart (λ (p : Planned). AllKnown known (leaves_of p.iter)) found (none ∷ []) each in
      (apart.0, d.known known apart.1.0);
})

pub no_found : (found denied : List Planned) (made : Planned) → length found ≡ 0 → Joins denied (made ∷ []) → JoinsSides found denied (record { planned = made; negated = true })
no_found found denied made none joins = subst (λ (xs : List Planned). JoinsSides xs denied (record { planned = made; negated = true })) (sym (nil found none)) (record {
  set = λ held id. ap not (sym (or-false (ids_of held made id)) ∙ joins.set held id);
  ready = λ held from all others. (joins.ready held from others).0;
  placed = λ held after all others. (joins.placed held after others).0;
  known = λ known all. (tt, joins.known known (all, tt));
})

pub some_found : (found denied all : List Planned) (made : Planned) → Combines found denied all
    → ((held : Held) (id : ℕ) → ids_of held made id ≡ list_all (λ planned. ids_of held planned id) all)
    → ((held : Held) (from : ℕ) → AllReady held all from → Ready held made.iter from)
    → ((held : Held) (after : ℕ) → PartsOpen held after all → AllOpen held after (leaves_of made.iter))
    → ((known : ListName → Option Place) → AllKnown known (leaves_of made.iter) → PartsKnown known all)
    → JoinsSides found denied (record { planned = made; negated = false })
some_found found denied all made c set ready placed knows = record {
  set = λ held id. set held id ∙ c.set held id;
  ready = λ held from each others. ready held from (c.ready held from each others);
  placed = λ held after each others. placed held after (c.placed held after each others);
  known = λ known each. c.known known (knows known each);
}

-- ---- the whole

pub every_made : (parts : List Part) (found denied : List Planned) (made : Part) → Splits parts found denied → JoinsSides found denied made → IsEvery parts made
every_made parts found denied made s j = record {
  set = λ held id. j.set held id ∙ s.set held id;
  of = record {
    ready = λ held from all. let both = s.ready held from all in j.ready held from both.0 both.1;
    placed = λ held after all. let both = s.placed held after all in j.placed held after both.0 both.1;
    known = λ known all. let both = j.known known all in s.known known both.0 both.1;
  };
}

-- what not all have not, some has
some_other : (a b : Bool) → not (not a && b) ≡ (a || not b)
some_other true b = refl
some_other false b = refl

abbrev turn : Part → Part
turn part = record { planned = part.planned; negated = not part.negated }

pub any_made : (parts others : List Part) (made all : Part) → others ≡ map (λ (part : Part). record { planned = part.planned; negated = not part.negated }) parts → IsEvery others all
    → made.planned ≡ all.planned → made.negated ≡ not all.negated → IsAny parts made
any_made parts others made all are e same negated = further (subst (λ (xs : List Part). IsEvery xs all) are e)
  where
    each : (held : Held) (id : ℕ) (ps : List Part) → not (list_all (λ part. part_has held part id) (map turn ps)) ≡ list_any (λ part. part_has held part id) ps
    each held id [] = refl
    each held id (p ∷ ps) =
        ap (λ b. not (b && list_all (λ part. part_has held part id) (map turn ps))) (other_has held p (turn p) id refl refl)
        ∙ some_other (part_has held p id) (list_all (λ part. part_has held part id) (map turn ps))
        ∙ ap (λ b. part_has held p id || b) (each held id ps)

    to : (P : Planned → Type 0) (ps : List Part) → AllByRecursion (λ (p : Part). P p.planned) ps → AllByRecursion (λ (p : Part). P p.planned) (map turn ps)
    to P [] h = tt
    to P (p ∷ ps) h = (h.0, to P ps h.1)

    back : (P : Planned → Type 0) (ps : List Part) → AllByRecursion (λ (p : Part). P p.planned) (map turn ps) → AllByRecursion (λ (p : Part). P p.planned) ps
    back P [] h = tt
    back P (p ∷ ps) h = (h.0, back P ps h.1)

    further : IsEvery (map turn parts) all → IsAny parts made
    further f = record {
      set = λ held id. other_has held all made id same negated ∙ ap not (f.set held id) ∙ each held id parts;
      of = record {
        ready = λ held from h. subst (λ (p : Planned). Ready held p.iter from) (sym same) (f.of.ready held from (to (λ (p : Planned). Ready held p.iter from) parts h));
        placed = λ held after h.
            subst (λ (p : Planned). AllOpen held after (leaves_of p.iter)) (sym same)
            (f.of.placed held after (to (λ (p : Planned). AllOpen held after (leaves_of p.iter)) parts h));
        known = λ known h.
            back (λ (p : Planned). AllKnown known (leaves_of p.iter)) parts
            (f.of.known known (subst (λ (p : Planned). AllKnown known (leaves_of p.iter)) same h));
      };
    }
