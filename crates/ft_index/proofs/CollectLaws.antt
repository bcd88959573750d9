-- What it says of all lists that the dead entries of one were taken out.
use Rattle.std.specs.Prelude.{◌≡◌, ◌≢◌, ◌⊎◌, ◌||◌, ◌==◌, ℕ, ◌+◌, ◌<◌, ◌≤◌, List, [], ◌∷◌, ◌++◌, Bool, true, false, Option, None, Some, IfNone, IfSome, OnOk, OnErr, length, nat_eq, refl}
use Rattle.std.proofs.Common.{sym, ap, subst, ◌∙◌, inl, inr, arith, append_assoc, append-nil, drop, slice_index_or, suc, zero, Result, if◌then◌else◌}
use Rattle.std.specs.List.{AllByRecursion, list_any}
use Rattle.std.specs.Cmp.Lexicographic.{bytes_decides, nat_list_eq_equiv}
use Rattle.std.specs.Map.{keys_of}
use Rattle.std.specs.Option.{option_map, unwrap_or}
use Rattle.std.specs.Str.{bytes_eq}
use Rattle.std.proofs.lemmas.Bool.{cases_Bool, ne_eqb}
use Rattle.std.proofs.lemmas.Bool.Decides.{nat_tests}
use Rattle.std.proofs.lemmas.List.{drop_more, nil_from_length}
use Rattle.gc_splice.specs.Alive.{Without, alive, all_alive}
use Rattle.gc_splice.specs.Growing.{ComesFrom}
use Rattle.gc_splice.specs.Markers.{marker_after}
use Rattle.gc_splice.proofs.GrowingLaws.{comes_same}
use Rattle.gc_splice.proofs.WithoutLaws.{without_alive, without_same}
use Rattle.inverted_list.specs.Listing.{Listing, marker_of}
use Rattle.inverted_list.specs.declared.marker.Marker.{Marker}
use Rattle.inverted_list.specs.declared.marker.Markers.{Markers}
use Rattle.posting_block.specs.declared.hits.TagHit.{TagHit}
use Rattle.posting_block.specs.declared.hits.TextHit.{TextHit}
use Rattle.term_dict.specs.Splices.{Collects, CollectsTag, some_filled}
use Rattle.term_dict.specs.Tags.{FieldTags, entries_in, list_in, tags_of}
use Rattle.term_dict.specs.Terms.{Lists, Sets, entries_of, list_of, rows_after}
use Rattle.ft_index.specs.Collecting.{LiveBut, RowsLiveBut, TagsLiveBut}
use Rattle.ft_index.specs.Markers.{AllBefore, IsGiven, TakesLists, TakesMarkers, marker_in, tag_list, tag_marker}
use Rattle.ft_index.specs.Markers as markers
use Rattle.ft_index.specs.Thinned.{TagsThin, WordsThin}
use Rattle.ft_index.proofs.FieldLaws.{decided}
use Rattle.ft_index.proofs.ListLaws.{list-here, list-others}
use Rattle.ft_index.proofs.OutcomeLaws.{either}
use Rattle.ft_index.proofs.PlacingLaws.{filled-comes}
use Rattle.ft_index.proofs.TakingLaws.{takes-at}
use Rattle.ft_index.proofs.ThinLaws.{without-again}

module _ {P : Type 0} (live : ℕ → Bool) where
  -- the live ones of all entries are all of them
  pub all-live : (es : List (ℕ × P)) → all_alive live (alive live es) ≡ true
  all-live [] = refl
  all-live (e ∷ es) = elim (cases_Bool (live e.0)) [
    | inl y ↦ rw y (rw y (all-live es))
    | inr n ↦ rw n (all-live es)
  ]

  each-live : (es : List (ℕ × P)) → AllByRecursion (λ e. live e.0 ≡ true → live e.0 ≡ true) es
  each-live [] = tt
  each-live (e ∷ es) = ((λ is. is), each-live es)

  pub less-alive : (es ks : List (ℕ × P)) → ks ≡ alive live es → Without live es ks
  less-alive es ks is = subst (Without live es) (sym is) (without_alive live live es (each-live es))

-- the entries of a list, and of none
abbrev pub entries_at : {P : Type 0} → Option (Listing P) → List (ℕ × P)
entries_at list = unwrap_or (option_map (λ l. l.entries) list) []

-- a list that is gone because it had no entry has the same entries
pub filled-entries : {P : Type 0} (k : Listing P) → entries_at (some_filled k) ≡ k.entries
filled-entries k = elim (cases_Bool (length k.entries == 0)) [
  | inl y ↦
      let none : length k.entries ≡ 0 = grind (arith, nat_tests, y) in
      rw y (sym (nil_from_length k.entries none))
  | inr n ↦ rw n refl
]

-- The dead entries of a word's list were taken out, or nothing was done.
abbrev pub WordCollected : {P : Type 0} → (ℕ → Bool) → List ℕ → Lists P → Lists P → Markers → Markers → Type 0
WordCollected live word old new from to =
    ((new ≡ old) × (to ≡ from)) ⊎ ((l : Listing _) × (list_of old word ≡ Some l) × (k : Listing _) × (k.entries ≡ alive live l.entries) × (k.marker ≡ marker_of from) × Sets word (some_filled k) old new × (to ≡ marker_after from))

module _ {P : Type 0} (live : ℕ → Bool) (word : List ℕ) (old new : Lists P) where
  pub entries-set : (k : Listing P) → Sets word (some_filled k) old new → (other : List ℕ) → bytes_eq word other ≡ true → entries_of new other ≡ k.entries
  entries-set k sets other y = rw (sets other, y) (filled-entries k)

  pub entries-kept : (list : Option (Listing P)) → Sets word list old new → (other : List ℕ) → bytes_eq word other ≡ false → entries_of new other ≡ entries_of old other
  entries-kept list sets other n = rw (sets other, n) refl

  module _ (from to : Markers) where
    pub word-thin : WordCollected live word old new from to → (other : List ℕ) → Without live (entries_of old other) (entries_of new other)
    word-thin (inl same) other = subst (λ (lists : Lists P). Without live (entries_of old other) (entries_of lists other)) (sym same.0) (without_same live (entries_of old other))
    word-thin (inr (l, is, k, entries, marker, sets, after)) other = elim (cases_Bool (bytes_eq word other)) [
      | inl y ↦
          let one : word ≡ other = (bytes_decides word other).0 y in
          let had : entries_of old other ≡ l.entries = ap (entries_of old) (sym one) ∙ ap entries_at is in
          subst (λ es. Without live es (entries_of new other)) (sym had)
          (subst (Without live l.entries) (sym (entries-set k sets other y)) (less-alive live l.entries k.entries entries))
      | inr n ↦ subst (Without live (entries_of old other)) (sym (entries-kept (some_filled k) sets other n)) (without_same live (entries_of old other))
    ]

    pub word-others : WordCollected live word old new from to → (other : List ℕ) → bytes_eq word other ≡ false → entries_of new other ≡ entries_of old other
    word-others (inl same) other n = ap (λ (lists : Lists P). entries_of lists other) same.0
    word-others (inr (l, is, k, entries, marker, sets, after)) other n = entries-kept (some_filled k) sets other n

    pub word-lists : WordCollected live word old new from to → (other : List ℕ) → (other ≡ word) ⊎ (list_of new other ≡ list_of old other)
    word-lists (inl same) other = inr (ap (λ (lists : Lists P). list_of lists other) same.0)
    word-lists (inr (l, is, k, entries, marker, sets, after)) other = list-others old new word (some_filled k) sets other

    pub word-event : WordCollected live word old new from to → (to.event ≡ from.event) × (from.next ≤ to.next)
    word-event (inl same) = (ap (λ (m : Markers). m.event) same.1, omega (arith, ap (λ (m : Markers). m.next) same.1))
    word-event (inr (l, is, k, entries, marker, sets, after)) = (ap (λ (m : Markers). m.event) after, omega (arith, ap (λ (m : Markers). m.next) after))

    -- each list stays, is made in this event, or goes
    pub word-comes : WordCollected live word old new from to → (other : List ℕ) → ComesFrom from.event (list_of old other) (list_of new other)
    word-comes (inl same) other = subst (λ (lists : Lists P). ComesFrom from.event (list_of old other) (list_of lists other)) (sym same.0) (comes_same from.event (list_of old other))
    word-comes (inr (l, is, k, entries, marker, sets, after)) other = filled-comes from.event old new word k (omega (arith, ap (λ (m : Marker). m.event) marker)) sets other

    -- the list has its old marker, or the one that was given
    pub word-marker : WordCollected live word old new from to → (marker : Marker) → marker_in (list_of new word) ≡ Some marker → (marker_in (list_of old word) ≡ Some marker) ⊎ IsGiven from to marker
    word-marker (inl same) marker has = inl (sym (ap (λ (lists : Lists P). marker_in (list_of lists word)) same.0) ∙ has)
    word-marker (inr (l, is, k, entries, mark, sets, after)) marker has =
        by_entries (length k.entries == 0) refl (ap marker_in (sym (list-here old new word (some_filled k) sets)) ∙ has)
      where
        by_entries : (b : Bool) → (length k.entries == 0) ≡ b → marker_in (some_filled k) ≡ Some marker → (marker_in (list_of old word) ≡ Some marker) ⊎ IsGiven from to marker
        by_entries true y has =
            let none : ◌≡◌ {A = Option Marker} None (Some marker) = rw y at has in absurd (cc (none))
        by_entries false n has =
            let some : ◌≡◌ {A = Option Marker} (Some k.marker) (Some marker) = rw n at has in
            let one : k.marker ≡ marker = cc (some) in
            let given : marker_of from ≡ marker = sym mark ∙ one in
            inr (record {
              event = sym (ap (λ (m : Marker). m.event) given);
              least = omega (arith, ap (λ (m : Marker). m.nth) given);
              below = omega (arith, ap (λ (m : Marker). m.nth) given, ap (λ (m : Markers). m.next) after);
            })

  -- what a call did, by its outcome
  pub word-collected : {X E : Type 0} (result : Result X E) (from to : Markers)
      → OnOk result (IfSome (list_of old word) (λ l. Collects live (λ list. Sets word list old new) (new ≡ old) l from to))
      → IfNone (list_of old word) ((new ≡ old) × (to ≡ from)) → OnErr result ((new ≡ old) × (to ≡ from)) → WordCollected live word old new from to
  word-collected result from to ok gone err =
      either result ok err (λ some. by_list (list_of old word) refl some gone) (λ same. inl same)
    where
      by_list : (list : Option (Listing P)) → list_of old word ≡ list → IfSome list (λ l. Collects live (λ list. Sets word list old new) (new ≡ old) l from to)
          → IfNone list ((new ≡ old) × (to ≡ from)) → WordCollected live word old new from to
      by_list None is some none = inl none
      by_list (Some l) is some none = elim (cases_Bool (all_alive live l.entries)) [
        | inl y ↦ inl (some.clean y)
        | inr n ↦ let (k, entries, marker, sets, after) = some.dead n in inr (l, is, k, entries, marker, sets, after)
      ]

  -- and where it succeeded, the list has no dead entry
  pub word-live : (from to : Markers) → IfSome (list_of old word) (λ l. Collects live (λ list. Sets word list old new) (new ≡ old) l from to)
      → IfNone (list_of old word) ((new ≡ old) × (to ≡ from)) → all_alive live (entries_of new word) ≡ true
  word-live from to some none = by_list (list_of old word) refl some none
    where
      by_list : (list : Option (Listing P)) → list_of old word ≡ list → IfSome list (λ l. Collects live (λ list. Sets word list old new) (new ≡ old) l from to)
          → IfNone list ((new ≡ old) × (to ≡ from)) → all_alive live (entries_of new word) ≡ true
      by_list None is some none =
          ap (λ (lists : Lists P). all_alive live (entries_of lists word)) none.0 ∙ ap (λ (list : Option (Listing P)). all_alive live (entries_at list)) is
      by_list (Some l) is some none = elim (cases_Bool (all_alive live l.entries)) [
        | inl y ↦ ap (λ (lists : Lists P). all_alive live (entries_of lists word)) (some.clean y).0 ∙ (ap (λ (list : Option (Listing P)). all_alive live (entries_at list)) is ∙ y)
        | inr n ↦
            let (k, entries, marker, sets, after) = some.dead n in
            ap (all_alive live) (entries-set k sets word ((bytes_decides word word).1 refl) ∙ entries) ∙ all-live live l.entries
      ]

pub word-takes : (live : ℕ → Bool) (word : List ℕ) (old new : Lists TextHit) (from to : Markers) → AllBefore from (markers.word_marker old) → WordCollected live word old new from to
    → TakesLists from to (list_of old) (list_of new)
word-takes live word old new from to before collected =
    let event = word-event live word old new from to collected in
    let takes : TakesMarkers from to (markers.word_marker old) (markers.word_marker new) = takes-at word from to (markers.word_marker old) (markers.word_marker new) event.0 event.1 before
    (λ other. elim (word-lists live word old new from to collected other) [ inl is ↦ inl is | inr same ↦ inr (ap marker_in same) ])
    (word-marker live word old new from to collected) in
    record { markers = takes; come = word-comes live word old new from to collected }

-- ---- tags

-- the same of a field's tag: its dictionary changed, and no other field's
pub record TagCollected (live : ℕ → Bool) (field : ℕ) (tag : List ℕ) (old new : FieldTags) (from to : Markers) : Type 0 where
  pub here : WordCollected live tag (tags_of old field) (tags_of new field) from to
  pub others : (other : ℕ) → other ≢ field → tags_of new other ≡ tags_of old other

collects-tags : (live : ℕ → Bool) (field : ℕ) (tag : List ℕ) (old new : FieldTags) (l : Listing TagHit) (from to : Markers) → CollectsTag live field tag l old new from to
    → Collects live (λ list. Sets tag list (tags_of old field) (tags_of new field)) (tags_of new field ≡ tags_of old field) l from to
collects-tags live field tag old new l from to collects = record {
  clean = λ y. (ap (λ (lists : FieldTags). tags_of lists field) (collects.clean y).0, (collects.clean y).1);
  dead = λ n. let (k, entries, marker, sets, after) = collects.dead n in (k, entries, marker, sets.here, after);
}

module _ (live : ℕ → Bool) (field : ℕ) (tag : List ℕ) (old new : FieldTags) (from to : Markers) where
  tag-some : IfSome (list_in old field tag) (λ l. CollectsTag live field tag l old new from to)
      → IfSome (list_in old field tag) (λ l. Collects live (λ list. Sets tag list (tags_of old field) (tags_of new field)) (tags_of new field ≡ tags_of old field) l from to)
  tag-some some = by_list (list_in old field tag) some
    where
      by_list : (list : Option (Listing TagHit)) → IfSome list (λ l. CollectsTag live field tag l old new from to)
          → IfSome list (λ l. Collects live (λ list. Sets tag list (tags_of old field) (tags_of new field)) (tags_of new field ≡ tags_of old field) l from to)
      by_list None some = tt
      by_list (Some l) some = collects-tags live field tag old new l from to some

  same-tags : (new ≡ old) × (to ≡ from) → TagCollected live field tag old new from to
  same-tags same = record {
    here = inl (ap (λ (lists : FieldTags). tags_of lists field) same.0, same.1);
    others = λ other away. ap (λ (lists : FieldTags). tags_of lists other) same.0;
  }

  pub tag-collected : {X E : Type 0} (result : Result X E) → OnOk result (IfSome (list_in old field tag) (λ l. CollectsTag live field tag l old new from to))
      → IfNone (list_in old field tag) ((new ≡ old) × (to ≡ from)) → OnErr result ((new ≡ old) × (to ≡ from)) → TagCollected live field tag old new from to
  tag-collected result ok gone err = either result ok err (λ some. by_list (list_in old field tag) refl some gone) same-tags
    where
      by_list : (list : Option (Listing TagHit)) → list_in old field tag ≡ list → IfSome list (λ l. CollectsTag live field tag l old new from to)
          → IfNone list ((new ≡ old) × (to ≡ from)) → TagCollected live field tag old new from to
      by_list None is some none = same-tags none
      by_list (Some l) is some none = elim (cases_Bool (all_alive live l.entries)) [
        | inl y ↦ same-tags (some.clean y)
        | inr n ↦
            let (k, entries, marker, sets, after) = some.dead n in
            record {
              here = inr (l, is, k, entries, marker, sets.here, after);
              others = λ other away. ap (λ (tags : Option (Lists TagHit)). unwrap_or tags []) (sets.others other away);
            }
      ]

  pub tag-live : IfSome (list_in old field tag) (λ l. CollectsTag live field tag l old new from to)
      → IfNone (list_in old field tag) ((new ≡ old) × (to ≡ from)) → all_alive live (entries_in new field tag) ≡ true
  tag-live some none = word-live live tag (tags_of old field) (tags_of new field) from to (tag-some some) (none-tags (list_in old field tag) none)
    where
      none-tags : (list : Option (Listing TagHit)) → IfNone list ((new ≡ old) × (to ≡ from)) → IfNone list ((tags_of new field ≡ tags_of old field) × (to ≡ from))
      none-tags None none = (ap (λ (lists : FieldTags). tags_of lists field) none.0, none.1)
      none-tags (Some l) none = tt

  pub tag-thin : TagCollected live field tag old new from to → TagsThin live old new
  tag-thin collected other name = elim (decided other field) [
    | inl is ↦ subst (λ (n : ℕ). Without live (entries_in old n name) (entries_in new n name)) (sym is) (word-thin live tag (tags_of old field) (tags_of new field) from to collected.here name)
    | inr away ↦ subst (λ (tags : Lists TagHit). Without live (entries_in old other name) (entries_of tags name)) (sym (collected.others other away)) (without_same live (entries_in old other name))
  ]

  pub tag-takes : AllBefore from (tag_marker old) → TagCollected live field tag old new from to → TakesLists from to (tag_list old) (tag_list new)
  tag-takes before collected =
      let event = word-event live tag (tags_of old field) (tags_of new field) from to collected.here in
      record {
        markers = takes-at (field, tag) from to (tag_marker old) (tag_marker new) event.0 event.1 before others (word-marker live tag (tags_of old field) (tags_of new field) from to collected.here);
        come = come;
      }
    where
      come : (name : ℕ × List ℕ) → ComesFrom from.event (tag_list old name) (tag_list new name)
      come name = elim (decided name.0 field) [
        | inl is ↦ subst (λ (n : ℕ). ComesFrom from.event (tag_list old (n, name.1)) (tag_list new (n, name.1))) (sym is)
            (word-comes live tag (tags_of old field) (tags_of new field) from to collected.here name.1)
        | inr away ↦ subst (λ (tags : Lists TagHit). ComesFrom from.event (tag_list old name) (list_of tags name.1)) (sym (collected.others name.0 away)) (comes_same from.event (tag_list old name))
      ]

      others : (name : ℕ × List ℕ) → (name ≡ (field, tag)) ⊎ (tag_marker new name ≡ tag_marker old name)
      others name = elim (decided name.0 field) [
        | inl is ↦ elim (word-lists live tag (tags_of old field) (tags_of new field) from to collected.here name.1) [
          | inl is_tag ↦ inl (ap (λ (n : ℕ). (n, name.1)) is ∙ ap (λ (t : List ℕ). (field, t)) is_tag)
          | inr same ↦ inr (subst (λ (n : ℕ). tag_marker new (n, name.1) ≡ tag_marker old (n, name.1)) (sym is) (ap marker_in same))
        ]
        | inr away ↦ inr (ap (λ (tags : Lists TagHit). marker_in (list_of tags name.1)) (collected.others name.0 away))
      ]

-- ---- in turn

module _ {P : Type 0} (live : ℕ → Bool) where
  -- a word that was collected needs not be named any more
  pub but-next : (word : List ℕ) (words : List (List ℕ)) (old new : Lists P) → LiveBut live (word ∷ words) old → all_alive live (entries_of new word) ≡ true
      → ((other : List ℕ) → bytes_eq word other ≡ false → entries_of new other ≡ entries_of old other) → LiveBut live words new
  but-next word words old new but here others other = elim (cases_Bool (bytes_eq word other)) [
    | inl y ↦
        let one : word ≡ other = (bytes_decides word other).0 y in
        let clean : all_alive live (entries_of new other) ≡ true = ap (λ (w : List ℕ). all_alive live (entries_of new w)) (sym one) ∙ here in
        rw clean refl
    | inr n ↦
        let away : bytes_eq other word ≡ false = nat_list_eq_equiv.symm other word ∙ n in
        let was : (all_alive live (entries_of old other) || list_any (bytes_eq other) words) ≡ true = rw away at (but other) in
        rw (others other n) was
  ]

  pub but-none : (lists : Lists P) → LiveBut live [] lists → (word : List ℕ) → all_alive live (entries_of lists word) ≡ true
  but-none lists but word = elim (cases_Bool (all_alive live (entries_of lists word))) [
    | inl y ↦ y
    | inr n ↦ absurd (cc (rw n at (but word)))
  ]

  -- what holds word by word holds of each word
  pub but-rows : (words : List (List ℕ)) (lists : Lists P) → RowsLiveBut live words lists → LiveBut live words lists
  but-rows words [] each word = refl
  but-rows words (row ∷ lists) each word = elim (cases_Bool (bytes_eq word row.0)) [
    | inl y ↦
        let one : word ≡ row.0 = (bytes_decides word row.0).0 y in
        rw y (subst (λ (w : List ℕ). (all_alive live row.1.entries || list_any (bytes_eq w) words) ≡ true) (sym one) each.0)
    | inr n ↦ rw n (but-rows words lists each.1 word)
  ]

-- ---- a walk over all lists

any-more : (q : List ℕ → Bool) (names : List (List ℕ)) (name : List ℕ) → list_any q names ≡ true → list_any q (names ++ name ∷ []) ≡ true
any-more q [] name any = absurd (cc (any))
any-more q (first ∷ names) name any = elim (cases_Bool (q first)) [
  | inl y ↦ rw y refl
  | inr n ↦ rw n (any-more q names name (rw n at any))
]

any-last : (q : List ℕ → Bool) (names : List (List ℕ)) (name : List ℕ) → q name ≡ true → list_any q (names ++ name ∷ []) ≡ true
any-last q [] name y = rw y refl
any-last q (first ∷ names) name y = elim (cases_Bool (q first)) [
  | inl z ↦ rw z refl
  | inr n ↦ rw n (any-last q names name y)
]

module _ {P : Type 0} (live : ℕ → Bool) where
  -- Of the lists that a walk has passed, those with a dead entry are noted.
  pub record Walked (whole left : Lists P) (names : List (List ℕ)) : Type 0 where
    pub front : Lists P
    pub parts : whole ≡ front ++ left
    pub noted : RowsLiveBut live names front

  -- the names once a list was passed
  abbrev pub names_after : List (List ℕ) → List ℕ → Listing P → List (List ℕ)
  names_after names name l = if all_alive live l.entries then names else names ++ name ∷ []

  noted-more : (names : List (List ℕ)) (name : List ℕ) (l : Listing P) (rows : Lists P) → RowsLiveBut live names rows → RowsLiveBut live (names_after names name l) (rows ++ (name, l) ∷ [])
  noted-more names name l [] noted = elim (cases_Bool (all_alive live l.entries)) [
    | inl y ↦ rw y (refl, tt)
    | inr n ↦ rw n (any-last (bytes_eq name) names name ((bytes_decides name name).1 refl), tt)
  ]
  noted-more names name l (row ∷ rows) noted = (
    elim (cases_Bool (all_alive live row.1.entries)) [
      | inl y ↦ rw y refl
      | inr n ↦
          let was : list_any (bytes_eq row.0) names ≡ true = rw n at noted.0 in
          rw n (elim (cases_Bool (all_alive live l.entries)) [ inl y ↦ rw y was | inr m ↦ rw m (any-more (bytes_eq row.0) names name was) ])
    ],
    noted-more names name l rows noted.1,
  )

  pub walk-start : (whole : Lists P) → Walked whole whole []
  walk-start whole = record { front = []; parts = refl; noted = tt }

  pub walk-next : (whole rest : Lists P) (names : List (List ℕ)) (name : List ℕ) (l : Listing P) → Walked whole ((name, l) ∷ rest) names → Walked whole rest (names_after names name l)
  walk-next whole rest names name l walked = record {
    front = walked.front ++ (name, l) ∷ [];
    parts = walked.parts ∙ sym (append_assoc walked.front ((name, l) ∷ []) rest);
    noted = noted-more names name l walked.front walked.noted;
  }

  pub walk-end : (whole left : Lists P) (names : List (List ℕ)) → left ≡ [] → Walked whole left names → RowsLiveBut live names whole
  walk-end whole left names none walked =
      subst (RowsLiveBut live names) (sym (walked.parts ∙ (ap (λ rest. walked.front ++ rest) none ∙ append-nil walked.front))) walked.noted

-- all of the lists are walked over
pub rows-all : {P : Type 0} (lists : Lists P) → rows_after None lists ≡ lists
rows-all [] = refl
rows-all (row ∷ lists) = ap (λ rest. row ∷ rest) (rows-all lists)

-- ---- what is left of names

module _ {X : Type 0} where
  pub left-next : (xs : List X) (k : ℕ) (x : X) → k < length xs → slice_index_or xs k x ≡ x → drop k xs ≡ x ∷ drop (k + 1) xs
  left-next xs k x within here = drop_more xs k x within ∙ ap (λ (first : X). first ∷ drop (k + 1) xs) here

  pub left-none : (xs : List X) (k : ℕ) → length xs ≤ k → drop k xs ≡ []
  left-none [] zero none = refl
  left-none [] (suc k) none = refl
  left-none (x ∷ xs) zero none = absurd (omega (arith, none))
  left-none (x ∷ xs) (suc k) none = left-none xs k (omega (arith, none))

pub thin-again : (live : ℕ → Bool) (a b c : Lists TextHit) → WordsThin live a b → WordsThin live b c → WordsThin live a c
thin-again live a b c first second word = without-again live (entries_of a word) (entries_of b word) (entries_of c word) (first word) (second word)

pub tags-again : (live : ℕ → Bool) (a b c : FieldTags) → TagsThin live a b → TagsThin live b c → TagsThin live a c
tags-again live a b c first second field tag = without-again live (entries_in a field tag) (entries_in b field tag) (entries_in c field tag) (first field tag) (second field tag)

pub thin-same : (live : ℕ → Bool) (words : Lists TextHit) → WordsThin live words words
thin-same live words word = without_same live (entries_of words word)

pub tags-same : (live : ℕ → Bool) (tags : FieldTags) → TagsThin live tags tags
tags-same live tags field tag = without_same live (entries_in tags field tag)

-- a field that was collected needs not be named any more
pub fields-next : (live : ℕ → Bool) (field : ℕ) (fields : List ℕ) (old new : FieldTags) → TagsLiveBut live (field ∷ fields) old → ((tag : List ℕ) → all_alive live (entries_in new field tag) ≡ true)
    → ((other : ℕ) → other ≢ field → (tag : List ℕ) → entries_in new other tag ≡ entries_in old other tag) → TagsLiveBut live fields new
fields-next live field fields old new but here others other tag = elim (decided other field) [
  | inl is ↦
      let clean : all_alive live (entries_in new other tag) ≡ true = ap (λ (n : ℕ). all_alive live (entries_in new n tag)) is ∙ here tag in
      rw clean refl
  | inr away ↦
      let apart : nat_eq other field ≡ false = ne_eqb other field away in
      let was : (all_alive live (entries_in old other tag) || list_any (nat_eq other) fields) ≡ true = rw apart at (but other tag) in
      rw (others other away tag) was
]

pub fields-none : (live : ℕ → Bool) (tags : FieldTags) → TagsLiveBut live [] tags → (field : ℕ) (tag : List ℕ) → all_alive live (entries_in tags field tag) ≡ true
fields-none live tags but field tag = elim (cases_Bool (all_alive live (entries_in tags field tag))) [
  | inl y ↦ y
  | inr n ↦ absurd (cc (rw n at (but field tag)))
]

-- all fields are named: another one has no tags
pub fields-all : (live : ℕ → Bool) (tags : FieldTags) → TagsLiveBut live (keys_of tags) tags
fields-all live [] field tag = refl
fields-all live (row ∷ tags) field tag = elim (cases_Bool (nat_eq field row.0)) [
  | inl y ↦ rw y (either_true (all_alive live (entries_of row.1 tag)))
  | inr n ↦ rw n (fields-all live tags field tag)
]
  where
    either_true : (b : Bool) → (b || true) ≡ true
    either_true true = refl
    either_true false = refl
