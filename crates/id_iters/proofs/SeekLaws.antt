-- When an iterator may be asked, layer by layer.
use Rattle.std.proofs.Common.{◌≡◌, ℕ, ◌<◌, ◌≤◌, ◌+◌, Bool, true, false, not, List, Option, Some, None, IfSome, Result, Ok, Err, IfOk, OnOk, map, max, get_or, refl, sym, ap, ◌∙◌, subst, Box, Global, arith, cond}
use Rattle.std.specs.List.{All}
use Rattle.std.proofs.lemmas.List.Elements.{recursion_from_All, All-from_recursion}
use Rattle.std.proofs.lemmas.Bool.{leb-true, leb-false}
use lib.Dec.{leb}
use Rattle.id_iters.specs.Held.{Held}
use Rattle.id_iters.specs.Least.{IsLeast, NoneBetween}
use Rattle.id_iters.specs.Places.{LeafReady, LeavesReady}
use Rattle.id_iters.specs.Ready.{ReadyAt, AheadAt, Ready, AheadReady, UnionReady, Keeps, kept_answer}
use Rattle.id_iters.specs.Sets.{About, about, about_ahead, in_set, living, deepest}
use Rattle.id_iters.specs.Stretch.{Stretch, base_of, limit_of}
use Rattle.id_iters.specs.declared.iter.Iter.{Iter}
use Rattle.id_iters.specs.declared.iter.Ahead.{Ahead}
use Rattle.id_iters.specs.declared.leaf.Leaf.{Leaf}
use Rattle.id_iters.specs.declared.phrase.PhraseIter.{PhraseIter}
use Rattle.id_iters.specs.declared.iter.Iter.TheOpen as layer
use Rattle.id_iters.specs.declared.iter.Iter.TheVariants as variant
use Rattle.id_iters.specs.declared.iter.Iter.TheViews as views
use Rattle.std.specs.Box.{with_value}
use Rattle.id_iters.proofs.Layers.{about_inner, about_and, about_or, about_not, ready_and, ready_or, ready_not, ready_leaf, ready_phrase, ready_all, ready_optional, ready_empty, ready_rolled}
use Rattle.id_iters.proofs.PlaceLaws.{leaf_waits, word_waits}

along : {A B : Type 0} → A ≡ B → A → B
along e x = subst (λ (T : Type 0). T) e x

none_is : {A : Type 0} (x : A) → Some x ≡ None → ⊥
none_is x h = cc

-- the kept answer is the least
pub kept_least : (p : ℕ → Bool) (ready : ℕ → Type 0) (asked : Bool) (next : Option ℕ) (from : ℕ) (answer : Option ℕ) → Keeps p ready asked next from → kept_answer asked next from ≡ Some answer → IsLeast p from answer
kept_least p ready false next from answer k e = absurd (some≢none e)
  where
    some≢none : None ≡ Some answer → ⊥
    some≢none h = cc
kept_least p ready true None from answer k e = subst (λ (a : Option ℕ). IsLeast p from a) (inner e) k
  where
    inner : Some None ≡ Some answer → None ≡ answer
    inner h = cc
kept_least p ready true (Some n) from answer k e = pick (leb from n) refl e
  where
    pick : (b : Bool) → leb from n ≡ b → cond b (Some (Some n)) None ≡ Some answer → IsLeast p from answer
    pick true low h = subst (λ (a : Option ℕ). IsLeast p from a) (inner h) (record { reached = omega (arith, leb-true from n low); passes = k.0; below = k.1 })
      where
        inner : Some (Some n) ≡ Some answer → Some n ≡ answer
        inner h' = cc
    pick false low h = absurd (none h)
      where
        none : None ≡ Some answer → ⊥
        none h' = cc

-- a part whose kept answer lies behind may be asked
pub not_kept : (p : ℕ → Bool) (ready : ℕ → Type 0) (asked : Bool) (next : Option ℕ) (from f : ℕ) → from ≤ f → Keeps p ready asked next f → kept_answer asked next from ≡ None → ready f
not_kept p ready false next from f h k e = k
not_kept p ready true None from f h k e = absurd (none_is _ e)
not_kept p ready true (Some n) from f h k e = pick (leb from n) refl e
  where
    pick : (b : Bool) → leb from n ≡ b → cond b (Some (Some n)) None ≡ None → ready f
    pick true low g = absurd (none_is _ g)
    pick false low g = k.2 f (omega (arith, leb-false from n low, h))

-- a new answer may be kept
pub keeps_new : (p : ℕ → Bool) (ready : ℕ → Type 0) (answer : Option ℕ) (from f : ℕ) → IsLeast p from answer → IfSome answer (λ n. (k : ℕ) → n + 1 ≤ k → ready k) → from ≤ f → Keeps p ready true answer f
keeps_new p ready None from f least r h = record { fails = λ id low. least.fails id (omega (arith, h, low)) }
keeps_new p ready (Some n) from f least r h = (least.passes, record { fails = λ id low high. least.below.fails id (omega (arith, h, low)) high }, λ k g. r k (omega (arith, g)))

-- a kept id stays one for another reader that may be asked wherever the first one may
pub keeps_rested : (p q : ℕ → Bool) (ready rested : ℕ → Type 0) (asked : Bool) (next : Option ℕ) (id f : ℕ) → asked ≡ true → next ≡ Some id → q ≡ p
    → (((k : ℕ) → id < k → ready k) → (k : ℕ) → id < k → rested k) → Keeps p ready asked next f → Keeps q rested asked next f
keeps_rested p q ready rested asked next id f is some same rest k =
    subst (λ (b : Bool). Keeps q rested b next f) (sym is) (subst (λ (o : Option ℕ). Keeps q rested true o f) (sym some)
    (inner (subst (λ (o : Option ℕ). Keeps p ready true o f) some (subst (λ (b : Bool). Keeps p ready b next f) is k))))
  where
    inner : Keeps p ready true (Some id) f → Keeps q rested true (Some id) f
    inner h = subst (λ (s : ℕ → Bool). (s id ≡ true) × NoneBetween s f id × ((k : ℕ) → id < k → rested k)) (sym same) (h.0, h.1, rest h.2)

module _ (held : Held) where
  pub ready_later : (i : Iter) (from f : ℕ) → Ready held i from → from ≤ f → Ready held i f
  ready_later i from f r h = record { later = λ k g. r.later k (omega (arith, h, g)) }

  pub ahead_later : (a : Ahead) (from f : ℕ) → AheadReady held a from → from ≤ f → AheadReady held a f
  ahead_later a from f r h = record { later = λ k g. r.later k (omega (arith, h, g)) }

  pub leaf_sound : (self : Iter) (leaf v : Leaf) (from : ℕ) → self ≡ variant.Leaf leaf → v ≡ leaf → Ready held self from → LeafReady held v from
  leaf_sound self leaf v from is same r =
      subst (λ (l : Leaf). LeafReady held l from) (sym same) (along (ready_leaf held leaf from) ((subst (λ (i : Iter). Ready held i from) is r).later from (omega arith)))

  pub leaf_ready : (leaf : Leaf) (from : ℕ) → LeafReady held leaf from → Ready held (variant.Leaf leaf) from
  leaf_ready leaf from r = record { later = λ f g. along (sym (ready_leaf held leaf f)) (leaf_waits held leaf from f r g) }

  pub phrase_sound : (self : Iter) (phrase v : PhraseIter) (from : ℕ) → self ≡ variant.Phrase phrase → v ≡ phrase → Ready held self from → LeavesReady held v.words from
  phrase_sound self phrase v from is same r =
      subst (λ (p : PhraseIter). LeavesReady held p.words from) (sym same) (along (ready_phrase held phrase from) ((subst (λ (i : Iter). Ready held i from) is r).later from (omega arith)))

  pub phrase_ready : (phrase : PhraseIter) (from : ℕ) → LeavesReady held phrase.words from → Ready held (variant.Phrase phrase) from
  phrase_ready phrase from r = record { later = λ f g. along (sym (ready_phrase held phrase f)) (λ k d l. word_waits held _ from f (r k d l) g) }

  pub and_parts : (parts : List Iter) (from : ℕ) → Ready held (variant.And parts) from → All (λ p. Ready held p from) parts
  and_parts parts from r = λ k d h. record { later = λ f g. All-from_recursion (λ p. ReadyAt held p f) parts (along (ready_and held parts f) (r.later f g)) k d h }

  pub and_ready : (parts : List Iter) (from : ℕ) → All (λ p. Ready held p from) parts → Ready held (variant.And parts) from
  and_ready parts from all = record { later = λ f g. along (sym (ready_and held parts f)) (recursion_from_All (λ p. ReadyAt held p f) parts (λ k d h. (all k d h).later f g)) }

  -- what a union may be asked is told of its parts and its stretch
  pub union_later : (parts : List Ahead) (stretch : Stretch) (from f : ℕ) → UnionReady held parts stretch from → from ≤ f → UnionReady held parts stretch f
  union_later parts stretch from f r h = record {
    parts_ready = λ k d l. ahead_later (get_or parts k d) _ _ (r.parts_ready k d l) (omega (arith, h));
    tells = record { begins = omega (arith, r.tells.begins, h); right = λ id low high. r.tells.right id (omega (arith, h, low)) high };
  }

  pub or_union : (parts : List Ahead) (stretch : Stretch) (from : ℕ) → Ready held (variant.Or parts stretch) from → UnionReady held parts stretch from
  or_union parts stretch from r = record {
    parts_ready = λ k d h. record {
      later = λ f g.
          subst (λ n. AheadAt held (get_or parts k d) n) (far f g)
          (All-from_recursion (λ p. AheadAt held p (max f (limit_of stretch))) parts (along (ready_or held parts stretch f) (r.later f (omega (arith, g)))).0 k d h);
    };
    tells = (along (ready_or held parts stretch from) (r.later from (omega arith))).1;
  }
    where
      far : (f : ℕ) → max from (limit_of stretch) ≤ f → max f (limit_of stretch) ≡ f
      far f g = omega (arith, g)

  pub or_ready : (parts : List Ahead) (stretch : Stretch) (from : ℕ) → UnionReady held parts stretch from → Ready held (variant.Or parts stretch) from
  or_ready parts stretch from u = record {
    later = λ f g.
        along (sym (ready_or held parts stretch f)) (
          recursion_from_All (λ p. AheadAt held p (max f (limit_of stretch))) parts (λ k d h. (u.parts_ready k d h).later (max f (limit_of stretch)) (omega (arith, g))),
          (union_later parts stretch from f u g).tells,
        );
  }

  pub not_part : (part : Box Ahead Global) (from : ℕ) → Ready held (variant.Not part) from → AheadReady held part.value from
  not_part part from r = record { later = λ f g. along (ready_not held part f) (r.later f g) }

  pub not_ready : (part : Box Ahead Global) (from : ℕ) → AheadReady held part.value from → Ready held (variant.Not part) from
  not_ready part from r = record { later = λ f g. along (sym (ready_not held part f)) (r.later f g) }

  pub ahead_keeps : (a : Ahead) (from f : ℕ) → AheadReady held a from → from ≤ f → Keeps (in_set held a.iter) (ReadyAt held a.iter) a.asked a.next f
  ahead_keeps a from f r h = along (ready_rolled held (views.out-Ahead a) f) (r.later f h)

  pub ahead_ready : (a : layer.Ahead-F Iter Ahead) (from : ℕ) → ((f : ℕ) → from ≤ f → Keeps (in_set held a.iter) (ReadyAt held a.iter) a.asked a.next f) → AheadReady held (views.roll-Ahead a) from
  ahead_ready a from h = record { later = λ f g. along (sym (ready_rolled held a f)) (h f g) }

  pub kept_answers : (a : Ahead) (from : ℕ) (answer : Option ℕ) → AheadReady held a from → kept_answer a.asked a.next from ≡ Some answer → IsLeast (living held.live (about_ahead held a)) from answer
  kept_answers a from answer r e =
      subst (λ (x : About). IsLeast (living held.live x) from answer) (sym (about_inner held a))
      (kept_least (in_set held a.iter) (ReadyAt held a.iter) a.asked a.next from answer (ahead_keeps a from from r (omega arith)) e)

  pub not_kept_ready : (a : Ahead) (from : ℕ) → AheadReady held a from → kept_answer a.asked a.next from ≡ None → Ready held a.iter from
  not_kept_ready a from r e = record { later = λ f h. not_kept (in_set held a.iter) (ReadyAt held a.iter) a.asked a.next from f h (ahead_keeps a from f r h) e }

  pub ahead_asked : (i : Iter) (old : About) (answer : Option ℕ) (from : ℕ) → about held i ≡ old → IsLeast (living held.live old) from answer → IfSome answer (λ n. Ready held i (n + 1)) → AheadReady held (views.roll-Ahead (record { iter = i; asked = true; next = answer })) from
  ahead_asked i old answer from same least r =
      ahead_ready (record { iter = i; asked = true; next = answer }) from (λ f h.
      keeps_new (in_set held i) (ReadyAt held i) answer from f (subst (λ (x : About). IsLeast (living held.live x) from answer) (sym same) least) (later answer r) h)
    where
      later : (o : Option ℕ) → IfSome o (λ n. Ready held i (n + 1)) → IfSome o (λ n. (k : ℕ) → n + 1 ≤ k → ReadyAt held i k)
      later None x = tt
      later (Some n) x = λ k h. x.later k h

  -- a part that keeps an id may give up what its iterator has read ahead
  pub ahead_rested : (a : Ahead) (i : Iter) (id from : ℕ) → a.asked ≡ true → a.next ≡ Some id → about held i ≡ about held a.iter
      → ((k : ℕ) → id < k → Ready held a.iter k → Ready held i k) → AheadReady held a from
      → AheadReady held (views.roll-Ahead (record { iter = i; asked = a.asked; next = a.next })) from
  ahead_rested a i id from is some same rest r =
      ahead_ready (record { iter = i; asked = a.asked; next = a.next }) from (λ f h.
      keeps_rested (in_set held a.iter) (in_set held i) (ReadyAt held a.iter) (ReadyAt held i) a.asked a.next id f is some (ap (λ (x : About). living held.live x) same)
      (λ all k g. (rest k g (record { later = λ n more. all n (omega (arith, g, more)) })).later k (omega arith)) (ahead_keeps a from f r h))

  -- what is known of a value that was matched
  pub and_parts_at : (self : Iter) (parts v : List Iter) (from : ℕ) → self ≡ variant.And parts → v ≡ parts → Ready held self from → All (λ p. Ready held p from) v
  and_parts_at self parts v from is same r =
      subst (λ (l : List Iter). All (λ p. Ready held p from) l) (sym same) (and_parts parts from (subst (λ (i : Iter). Ready held i from) is r))

  pub or_union_at : (self : Iter) (parts v : List Ahead) (stretch w : Stretch) (from : ℕ) → self ≡ variant.Or parts stretch → v ≡ parts → w ≡ stretch → Ready held self from → UnionReady held v w from
  or_union_at self parts v stretch w from is same bits r =
      subst (λ (l : List Ahead). UnionReady held l w from) (sym same)
      (subst (λ (b : Stretch). UnionReady held parts b from) (sym bits) (or_union parts stretch from (subst (λ (i : Iter). Ready held i from) is r)))

  pub not_part_at : (self : Iter) (part v : Box Ahead Global) (now : Ahead) (from : ℕ) → self ≡ variant.Not part → v ≡ part → now ≡ v.value → Ready held self from → AheadReady held now from
  not_part_at self part v now from is same e r =
      subst (λ (a : Ahead). AheadReady held a from) (sym (e ∙ ap (λ (b : Box Ahead Global). b.value) same)) (not_part part from (subst (λ (i : Iter). Ready held i from) is r))

  pub deep_and : (self : Iter) (parts v : List Iter) → self ≡ variant.And parts → v ≡ parts → (about held self).depth ≡ 1 + deepest (map (about held) v)
  deep_and self parts v is same = ap (λ (i : Iter). (about held i).depth) is ∙ (ap (λ (a : About). a.depth) (about_and held parts) ∙ ap (λ (l : List Iter). 1 + deepest (map (about held) l)) (sym same))

  pub deep_or : (self : Iter) (parts v : List Ahead) (stretch : Stretch) → self ≡ variant.Or parts stretch → v ≡ parts → (about held self).depth ≡ 1 + deepest (map (about_ahead held) v)
  deep_or self parts v stretch is same = ap (λ (i : Iter). (about held i).depth) is ∙ (ap (λ (a : About). a.depth) (about_or held parts stretch) ∙ ap (λ (l : List Ahead). 1 + deepest (map (about_ahead held) l)) (sym same))

  pub deep_not : (self : Iter) (part v : Box Ahead Global) (now : Ahead) → self ≡ variant.Not part → v ≡ part → now ≡ v.value → (about held self).depth ≡ 1 + (about_ahead held now).depth
  deep_not self part v now is same e =
      ap (λ (i : Iter). (about held i).depth) is ∙ (ap (λ (a : About). a.depth) (about_not held part) ∙ ap (λ (a : Ahead). 1 + (about_ahead held a).depth) (sym (e ∙ ap (λ (b : Box Ahead Global). b.value) same)))

  pub not_same : (self : Iter) (part v : Box Ahead Global) (now new : Ahead) → self ≡ variant.Not part → v ≡ part → now ≡ v.value → about_ahead held new ≡ about_ahead held now → about held (variant.Not (with_value v new)) ≡ about held self
  not_same self part v now new is same e h =
      about_not held (with_value v new)
      ∙ (ap negated (h ∙ ap (about_ahead held) (e ∙ ap (λ (b : Box Ahead Global). b.value) same)) ∙ (sym (about_not held part) ∙ ap (about held) (sym is)))
    where
      negated : About → About
      negated a = record { has = λ id. not (a.has id); depth = 1 + a.depth }

-- what follows of an answer
pub if_answer : {E : Type 0} (r : Result (Option ℕ) E) (P Q : ℕ → Type 0) → ((id : ℕ) → P id → Q id) → IfOk r (λ x. IfSome x P) → IfOk r (λ x. IfSome x Q)
if_answer (Ok None) P Q h p = tt
if_answer (Ok (Some id)) P Q h p = h id p
if_answer (Err e) P Q h p = tt

pub on_same : {E : Type 0} (r : Result (Option ℕ) E) (P Q : Type 0) → (P → Q) → OnOk r P → OnOk r Q
on_same (Ok x) P Q h on = h on
on_same (Err e) P Q h on = tt

module _ (held : Held) where
  pub all_ready : (from : ℕ) → Ready held variant.All from
  all_ready from = record { later = λ f g. along (sym (ready_all held f)) tt }

  pub fresh_ahead : (i : Iter) (from : ℕ) → Ready held i from → AheadReady held (views.roll-Ahead (record { iter = i; asked = false; next = None })) from
  fresh_ahead i from r = ahead_ready held (record { iter = i; asked = false; next = None }) from (λ f h. r.later f h)

  pub optional_ready : (part : Box Iter Global) (from : ℕ) → Ready held (variant.Optional part) from
  optional_ready part from = record { later = λ f g. along (sym (ready_optional held part f)) tt }

  pub empty_ready : (from : ℕ) → Ready held variant.Empty from
  empty_ready from = record { later = λ f g. along (sym (ready_empty held f)) tt }

  -- a union that has read nothing ahead
  pub fresh_union : (parts : List Ahead) (stretch : Stretch) (from : ℕ) → base_of stretch ≡ 0 → limit_of stretch ≡ 0 → All (λ p. AheadReady held p from) parts → UnionReady held parts stretch from
  fresh_union parts stretch from base limit all = record {
    parts_ready = λ k d h. ahead_later held (get_or parts k d) from _ (all k d h) (omega arith);
    tells = record { begins = omega (arith, base); right = λ id low high. absurd (omega (arith, limit, high)) };
  }
