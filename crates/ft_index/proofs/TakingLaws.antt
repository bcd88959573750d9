-- How steps that take markers follow on one another.
use Rattle.std.specs.Prelude.{◌≡◌, ◌≢◌, ◌≤◌, ◌⊎◌, ℕ, ℤ, Option, None, Some, IfSome, refl}
use Rattle.std.proofs.Common.{sym, ap, ◌∙◌, subst, inl, inr, arith}
use Rattle.inverted_list.specs.Listing.{Listing}
use Rattle.inverted_list.specs.declared.marker.Marker.{Marker}
use Rattle.inverted_list.specs.declared.marker.Markers.{Markers}
use Rattle.ft_index.specs.Markers.{AllBefore, IsBefore, IsGiven, TakesLists, TakesMarkers, marker_in}
use Rattle.gc_splice.specs.Growing.{ComesFrom}
use Rattle.ft_index.proofs.FieldLaws.{decided}
use Rattle.gc_splice.proofs.GrowingLaws.{comes_same, comes_again}

-- a marker that was given before is not given again
pub not-again : (from to : Markers) (marker : Marker) → IsBefore from marker → IsGiven from to marker → ⊥
not-again from to marker (inl h) given = omega (arith, h, given.event)
not-again from to marker (inr h) given = omega (arith, h.1, given.least)

pub before-later : (from to : Markers) (marker : Marker) → to.event ≡ from.event → from.next ≤ to.next → IsBefore from marker → IsBefore to marker
before-later from to marker event next (inl h) = inl (omega (arith, h, event))
before-later from to marker event next (inr h) = inr (h.0 ∙ sym event, omega (arith, h.1, next))

pub before-given : (from to : Markers) (marker : Marker) → to.event ≡ from.event → IsGiven from to marker → IsBefore to marker
before-given from to marker event given = inr (given.event ∙ sym event, given.below)

given-wider : (from between to : Markers) (marker : Marker) → between.event ≡ from.event → from.next ≤ between.next → IsGiven between to marker → IsGiven from to marker
given-wider from between to marker event next given = record { event = given.event ∙ event; least = omega (arith, given.least, next); below = given.below }

given-longer : (from between to : Markers) (marker : Marker) → between.next ≤ to.next → IsGiven from between marker → IsGiven from to marker
given-longer from between to marker next given = record { event = given.event; least = given.least; below = omega (arith, given.below, next) }

none-given : (from : Markers) (marker : Marker) → IsGiven from from marker → ⊥
none-given from marker given = omega (arith, given.least, given.below)

module _ {N : Type 0} where
  pub before-of : (markers : Markers) (held : N → Option Marker) (name : N) (marker : Marker) → AllBefore markers held → held name ≡ Some marker → IsBefore markers marker
  before-of markers held name marker before there = subst (λ (found : Option Marker). IfSome found (IsBefore markers)) there (before name)

  pub all-before : (markers : Markers) (held : N → Option Marker) → ((name : N) (marker : Marker) → held name ≡ Some marker → IsBefore markers marker) → AllBefore markers held
  all-before markers held each name = by_marker (held name) refl
    where
      by_marker : (found : Option Marker) → held name ≡ found → IfSome found (IsBefore markers)
      by_marker None there = tt
      by_marker (Some marker) there = each name marker there

  pub takes-none : (from : Markers) (held : N → Option Marker) → TakesMarkers from from held held
  takes-none from held = record {
    event = refl;
    next = omega arith;
    gains = λ name marker has. inl has;
    apart = λ name other marker given has there. absurd (none-given from marker given);
  }

  -- a marker may be taken that no list gets
  pub takes-lost : (from to : Markers) (held : N → Option Marker) → to.event ≡ from.event → from.next ≤ to.next → AllBefore from held → TakesMarkers from to held held
  takes-lost from to held event next before = record {
    event = event;
    next = next;
    gains = λ name marker has. inl has;
    apart = λ name other marker given has there. absurd (not-again from to marker (before-of from held name marker before has) given);
  }

  -- one step after the other
  pub takes-again : (from between to : Markers) (a b c : N → Option Marker) → AllBefore from a → TakesMarkers from between a b → TakesMarkers between to b c → TakesMarkers from to a c
  takes-again from between to a b c before first second = record {
    event = second.event ∙ first.event;
    next = omega (arith, first.next, second.next);
    gains = λ name marker has. elim (second.gains name marker has) [
      | inl there ↦ elim (first.gains name marker there) [
        | inl old ↦ inl old
        | inr given ↦ inr (given-longer from between to marker second.next given)
      ]
      | inr given ↦ inr (given-wider from between to marker first.event first.next given)
    ];
    apart = λ name other marker given has there. elim (second.gains name marker has) [
      | inl mine ↦ elim (second.gains other marker there) [
        | inl other_mine ↦ both name other marker given mine other_mine
        | inr late ↦ second.apart name other marker late has there
      ]
      | inr late ↦ second.apart name other marker late has there
    ];
  }
    where
      both : (name other : N) (marker : Marker) → IsGiven from to marker → b name ≡ Some marker → b other ≡ Some marker → name ≡ other
      both name other marker given mine theirs = elim (first.gains name marker mine) [
        | inl old ↦ absurd (not-again from to marker (before-of from a name marker before old) given)
        | inr early ↦ first.apart name other marker early mine theirs
      ]

  -- what lists have was given before what is given next
  pub before-taken : (from to : Markers) (old new : N → Option Marker) → AllBefore from old → TakesMarkers from to old new → AllBefore to new
  before-taken from to old new before takes = all-before to new (λ name marker has. elim (takes.gains name marker has) [
    | inl there ↦ before-later from to marker takes.event takes.next (before-of from old name marker before there)
    | inr given ↦ before-given from to marker takes.event given
  ])

  -- one list changes, and has the marker that it had or one that was given
  pub takes-at : (at : N) (from to : Markers) (old new : N → Option Marker) → to.event ≡ from.event → from.next ≤ to.next → AllBefore from old
      → ((name : N) → (name ≡ at) ⊎ (new name ≡ old name)) → ((marker : Marker) → new at ≡ Some marker → (old at ≡ Some marker) ⊎ IsGiven from to marker)
      → TakesMarkers from to old new
  takes-at at from to old new event next before others here = record {
    event = event;
    next = next;
    gains = λ name marker has. elim (others name) [
      | inl is ↦ subst (λ (n : N). (old n ≡ Some marker) ⊎ IsGiven from to marker) (sym is) (here marker (ap new (sym is) ∙ has))
      | inr same ↦ inl (sym same ∙ has)
    ];
    apart = λ name other marker given has there. elim (others name) [
      | inl is ↦ elim (others other) [
        | inl is_other ↦ is ∙ sym is_other
        | inr same ↦ absurd (not-again from to marker (before-of from old other marker before (sym same ∙ there)) given)
      ]
      | inr same ↦ absurd (not-again from to marker (before-of from old name marker before (sym same ∙ has)) given)
    ];
  }

-- the lists of one field take markers
pub takes-field : (number : ℕ) (from to : Markers) (old new : ℕ × ℤ → Option Marker) → AllBefore from old
    → TakesMarkers from to (λ low. old (number, low)) (λ low. new (number, low)) → ((name : ℕ × ℤ) → name.0 ≢ number → new name ≡ old name)
    → TakesMarkers from to old new
takes-field number from to old new before takes others = record {
  event = takes.event;
  next = takes.next;
  gains = λ name marker has. by_field (decided name.0 number) (
      λ is. subst (λ (n : ℕ). (old (n, name.1) ≡ Some marker) ⊎ IsGiven from to marker) (sym is)
      (takes.gains name.1 marker (ap (λ (n : ℕ). new (n, name.1)) (sym is) ∙ has)))
      (λ away. inl (sym (others name away) ∙ has));
  apart = λ name other marker given has there. by_field (decided name.0 number) (
      λ is. by_field (decided other.0 number) (
      λ is_other. ap (λ (low : ℤ). (name.0, low)) (takes.apart name.1 other.1 marker given
      (ap (λ (n : ℕ). new (n, name.1)) (sym is) ∙ has) (ap (λ (n : ℕ). new (n, other.1)) (sym is_other) ∙ there))
      ∙ ap (λ (n : ℕ). (n, other.1)) (is ∙ sym is_other))
      (λ away. absurd (not-again from to marker (before-of from old other marker before (sym (others other away) ∙ there)) given)))
      (λ away. absurd (not-again from to marker (before-of from old name marker before (sym (others name away) ∙ has)) given));
}
  where
    by_field : {Q : Type 0} {a b : ℕ} → (a ≡ b) ⊎ (a ≢ b) → (a ≡ b → Q) → (a ≢ b → Q) → Q
    by_field (inl is) f g = f is
    by_field (inr away) f g = g away

-- The same of lists, which grow meanwhile.
module _ {N P : Type 0} where
  pub lists-none : (from : Markers) (held : N → Option (Listing P)) → TakesLists from from held held
  lists-none from held = record { markers = takes-none from (λ name. marker_in (held name)); come = λ name. comes_same from.event (held name) }

  pub lists-lost : (from to : Markers) (held : N → Option (Listing P)) → to.event ≡ from.event → from.next ≤ to.next → AllBefore from (λ name. marker_in (held name)) → TakesLists from to held held
  lists-lost from to held event next before = record {
    markers = takes-lost from to (λ name. marker_in (held name)) event next before;
    come = λ name. comes_same from.event (held name);
  }

  pub lists-again : (from between to : Markers) (a b c : N → Option (Listing P)) → AllBefore from (λ name. marker_in (a name)) → TakesLists from between a b → TakesLists between to b c → TakesLists from to a c
  lists-again from between to a b c before first second = record {
    markers = takes-again from between to (λ name. marker_in (a name)) (λ name. marker_in (b name)) (λ name. marker_in (c name)) before first.markers second.markers;
    come = λ name. comes_again from.event between.event (a name) (b name) (c name) (omega (arith, first.markers.event)) (first.come name) (second.come name);
  }

-- the lists of one field take markers, and grow
pub lists-field : {P : Type 0} (number : ℕ) (from to : Markers) (old new : ℕ × ℤ → Option (Listing P)) → AllBefore from (λ name. marker_in (old name))
    → TakesLists from to (λ low. old (number, low)) (λ low. new (number, low)) → ((name : ℕ × ℤ) → name.0 ≢ number → new name ≡ old name)
    → TakesLists from to old new
lists-field {P} number from to old new before takes others = record {
  markers = takes-field number from to (λ name. marker_in (old name)) (λ name. marker_in (new name)) before takes.markers (λ name away. ap marker_in (others name away));
  come = λ name. by_field name (decided name.0 number);
}
  where
    by_field : (name : ℕ × ℤ) → (name.0 ≡ number) ⊎ (name.0 ≢ number) → ComesFrom from.event (old name) (new name)
    by_field name (inl is) = subst (λ (n : ℕ). ComesFrom from.event (old (n, name.1)) (new (n, name.1))) (sym is) (takes.come name.1)
    by_field name (inr away) = subst (λ (o : Option (Listing P)). ComesFrom from.event (old name) o) (sym (others name away)) (comes_same from.event (old name))
