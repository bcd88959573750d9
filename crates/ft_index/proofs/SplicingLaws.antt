-- What the splice of one list says of all lists.
use Rattle.std.specs.Prelude.{◌≡◌, ◌≢◌, ◌⊎◌, ◌==◌, ℕ, ℤ, List, [], Bool, true, false, Option, None, Some, IfNone, IfSome, length, refl}
use Rattle.std.proofs.Common.{sym, ap, subst, ◌∙◌, inl, inr, arith}
use Rattle.std.specs.Cmp.Lexicographic.{bytes_decides}
use Rattle.std.specs.Option.{unwrap_or}
use Rattle.std.specs.Ordering.{int_eq}
use Rattle.std.specs.Str.{bytes_eq}
use Rattle.std.proofs.lemmas.Bool.{cases_Bool}
use Rattle.gc_splice.specs.Alive.{Without}
use Rattle.gc_splice.specs.declared.repair.Repair.{Repair}
use Rattle.gc_splice.specs.declared.splice.Spliced.{Spliced}
use Rattle.gc_splice.specs.declared.splice.Spliced.TheVariants.{Gone}
use Rattle.gc_splice.specs.Growing.{ComesFrom}
use Rattle.gc_splice.specs.Splice.{spliced}
use Rattle.gc_splice.proofs.GrowingLaws.{comes_same}
use Rattle.gc_splice.proofs.SpliceLaws.{without_list}
use Rattle.gc_splice.proofs.WithoutLaws.{without_same}
use Rattle.id_iters.specs.declared.list_name.ListName.{ListName}
use Rattle.id_iters.specs.declared.list_name.ListName.TheVariants as names
use Rattle.inverted_list.specs.declared.marker.Marker.{Marker}
use Rattle.inverted_list.specs.Listing.{Listing}
use Rattle.numeric_ranges.proofs.ValueLaws.{eq_true}
use Rattle.numeric_ranges.specs.Ranges.{Rows, list_at, with_list}
use Rattle.posting_block.specs.declared.hits.NumHit.{NumHit}
use Rattle.posting_block.specs.declared.hits.TagHit.{TagHit}
use Rattle.posting_block.specs.declared.hits.TextHit.{TextHit}
use Rattle.term_dict.specs.Splices.{Splices, SplicesTag, some_filled}
use Rattle.term_dict.specs.Tags.{FieldTags, entries_in, list_in, tags_of}
use Rattle.term_dict.specs.Terms.{Lists, Sets, entries_of, list_of}
use Rattle.ft_index.specs.Coming.{ListsCome}
use Rattle.ft_index.specs.Lists.{AllLists, list_from, rows_of}
use Rattle.ft_index.specs.Markers.{AreBefore, IsBefore, MarkersDiffer, marker_at, marker_in}
use Rattle.inverted_list.specs.declared.marker.Markers.{Markers}
use Rattle.ft_index.specs.Splicing.{FitsList, FitsName, GainsMarker, IsNew, SplicesName, SplicesSlot}
use Rattle.ft_index.specs.declared.repairs.AnyRepair.{AnyRepair}
use Rattle.ft_index.specs.declared.repairs.AnyRepair.TheVariants as repairs
use Rattle.ft_index.specs.Thinned.{ListsThin, SlotThins, TagsThin}
use Rattle.ft_index.proofs.CollectLaws.{entries-kept, entries-set, entries_at}
use Rattle.ft_index.proofs.FieldLaws.{decided}
use Rattle.ft_index.proofs.ListLaws.{list-here, list-others}
use Rattle.ft_index.proofs.PlacingLaws.{filled-comes, range-comes}
use Rattle.ft_index.proofs.RowLaws.{list-kept, list-set, set-thin}
use Rattle.ft_index.proofs.ThinLaws.{slot-same}

same-marker : (a b : Marker) → (a ≡ b) ⊎ (a ≢ b)
same-marker a b = elim (decided a.event b.event) [
  | inl event ↦ elim (decided a.nth b.nth) [
    | inl nth ↦ inl (ap (λ (n : ℕ). record { event = n; nth = a.nth }) event ∙ ap (λ (n : ℕ). record { event = b.event; nth = n }) nth)
    | inr apart ↦ inr (λ is. apart (ap (λ (m : Marker). m.nth) is))
  ]
  | inr apart ↦ inr (λ is. apart (ap (λ (m : Marker). m.event) is))
]

-- A word's list was spliced, or nothing was done.
abbrev pub WordSpliced : {P : Type 0} → (ℕ → Bool) → List ℕ → Marker → Lists P → Lists P → Type 0
WordSpliced live word marker old new =
    (new ≡ old) ⊎ ((l : Listing _) × (list_of old word ≡ Some l) × (k : Listing _) × Without live l.entries k.entries × (k.marker ≡ marker) × Sets word (some_filled k) old new)

module _ {P : Type 0} (live : ℕ → Bool) (word : List ℕ) (marker : Marker) (old new : Lists P) where
  pub word-spliced : (repair : Repair P) (outcome : Spliced) → FitsList live repair (list_of old word) → IfNone (list_of old word) ((outcome ≡ Gone) × (new ≡ old))
      → IfSome (list_of old word) (λ l. Splices (λ list. Sets word list old new) (new ≡ old) repair marker l outcome) → WordSpliced live word marker old new
  word-spliced repair outcome fits gone there = by_list (list_of old word) refl fits gone there
    where
      by_list : (list : Option (Listing P)) → list_of old word ≡ list → FitsList live repair list → IfNone list ((outcome ≡ Gone) × (new ≡ old))
          → IfSome list (λ l. Splices (λ list. Sets word list old new) (new ≡ old) repair marker l outcome) → WordSpliced live word marker old new
      by_list None is fits gone there = inl gone.1
      by_list (Some l) is fits gone there = elim (same-marker repair.seen l.marker) [
        | inl same ↦ inr (l, is, spliced l repair marker, without_list live l repair marker (there.blocks same) (fits same), refl, (there.done same).0)
        | inr moved ↦ inl (there.moved moved).0
      ]

  pub splice-thin : WordSpliced live word marker old new → (other : List ℕ) → Without live (entries_of old other) (entries_of new other)
  splice-thin (inl same) other = subst (λ (lists : Lists P). Without live (entries_of old other) (entries_of lists other)) (sym same) (without_same live (entries_of old other))
  splice-thin (inr (l, is, k, less, mark, sets)) other = elim (cases_Bool (bytes_eq word other)) [
    | inl y ↦
        let one : word ≡ other = (bytes_decides word other).0 y in
        let had : entries_of old other ≡ l.entries = ap (entries_of old) (sym one) ∙ ap entries_at is in
        subst (λ es. Without live es (entries_of new other)) (sym had) (subst (Without live l.entries) (sym (entries-set live word old new k sets other y)) less)
    | inr n ↦ subst (Without live (entries_of old other)) (sym (entries-kept live word old new (some_filled k) sets other n)) (without_same live (entries_of old other))
  ]

  pub splice-lists : WordSpliced live word marker old new → (other : List ℕ) → (other ≡ word) ⊎ (list_of new other ≡ list_of old other)
  splice-lists (inl same) other = inr (ap (λ (lists : Lists P). list_of lists other) same)
  splice-lists (inr (l, is, k, less, mark, sets)) other = list-others old new word (some_filled k) sets other

  -- each list stays, is made in this event, or goes
  pub splice-comes : WordSpliced live word marker old new → (other : List ℕ) → ComesFrom marker.event (list_of old other) (list_of new other)
  splice-comes (inl same) other = subst (λ (lists : Lists P). ComesFrom marker.event (list_of old other) (list_of lists other)) (sym same) (comes_same marker.event (list_of old other))
  splice-comes (inr (l, is, k, less, mark, sets)) other = filled-comes marker.event old new word k (omega (arith, ap (λ (m : Marker). m.event) mark)) sets other

  pub splice-marker : WordSpliced live word marker old new → (m : Marker) → marker_in (list_of new word) ≡ Some m → (marker_in (list_of old word) ≡ Some m) ⊎ (m ≡ marker)
  splice-marker (inl same) m has = inl (sym (ap (λ (lists : Lists P). marker_in (list_of lists word)) same) ∙ has)
  splice-marker (inr (l, is, k, less, mark, sets)) m has =
      by_entries (length k.entries == 0) refl (ap marker_in (sym (list-here old new word (some_filled k) sets)) ∙ has)
    where
      by_entries : (b : Bool) → (length k.entries == 0) ≡ b → marker_in (some_filled k) ≡ Some m → (marker_in (list_of old word) ≡ Some m) ⊎ (m ≡ marker)
      by_entries true y has =
          let none : ◌≡◌ {A = Option Marker} None (Some m) = rw y at has in absurd (cc (none))
      by_entries false n has =
          let some : ◌≡◌ {A = Option Marker} (Some k.marker) (Some m) = rw n at has in
          let one : k.marker ≡ m = cc (some) in
          inr (sym one ∙ mark)

-- ---- a field's tag

pub record TagSpliced (live : ℕ → Bool) (field : ℕ) (tag : List ℕ) (marker : Marker) (old new : FieldTags) : Type 0 where
  pub here : WordSpliced live tag marker (tags_of old field) (tags_of new field)
  pub others : (other : ℕ) → other ≢ field → tags_of new other ≡ tags_of old other

module _ (live : ℕ → Bool) (field : ℕ) (tag : List ℕ) (marker : Marker) (old new : FieldTags) where
  same-tags : new ≡ old → TagSpliced live field tag marker old new
  same-tags same = record {
    here = inl (ap (λ (lists : FieldTags). tags_of lists field) same);
    others = λ other away. ap (λ (lists : FieldTags). tags_of lists other) same;
  }

  pub tag-spliced : (repair : Repair TagHit) (outcome : Spliced) → FitsList live repair (list_in old field tag) → IfNone (list_in old field tag) ((outcome ≡ Gone) × (new ≡ old))
      → IfSome (list_in old field tag) (λ l. SplicesTag field tag repair marker l old new outcome) → TagSpliced live field tag marker old new
  tag-spliced repair outcome fits gone there = by_list (list_in old field tag) refl fits gone there
    where
      by_list : (list : Option (Listing TagHit)) → list_in old field tag ≡ list → FitsList live repair list → IfNone list ((outcome ≡ Gone) × (new ≡ old))
          → IfSome list (λ l. SplicesTag field tag repair marker l old new outcome) → TagSpliced live field tag marker old new
      by_list None is fits gone there = same-tags gone.1
      by_list (Some l) is fits gone there = elim (same-marker repair.seen l.marker) [
        | inl same ↦
            let sets = (there.done same).0 in
            record {
              here = inr (l, is, spliced l repair marker, without_list live l repair marker (there.blocks same) (fits same), refl, sets.here);
              others = λ other away. ap (λ (tags : Option (Lists TagHit)). unwrap_or tags []) (sets.others other away);
            }
        | inr moved ↦ same-tags (there.moved moved).0
      ]

  pub tag-thin : TagSpliced live field tag marker old new → TagsThin live old new
  tag-thin done other name = elim (decided other field) [
    | inl is ↦ subst (λ (n : ℕ). Without live (entries_in old n name) (entries_in new n name)) (sym is) (splice-thin live tag marker (tags_of old field) (tags_of new field) done.here name)
    | inr away ↦ subst (λ (tags : Lists TagHit). Without live (entries_in old other name) (entries_of tags name)) (sym (done.others other away)) (without_same live (entries_in old other name))
  ]

  pub tag-comes : TagSpliced live field tag marker old new → (other : ℕ) (name : List ℕ) → ComesFrom marker.event (list_in old other name) (list_in new other name)
  tag-comes done other name = elim (decided other field) [
    | inl is ↦ subst (λ (n : ℕ). ComesFrom marker.event (list_in old n name) (list_in new n name)) (sym is) (splice-comes live tag marker (tags_of old field) (tags_of new field) done.here name)
    | inr away ↦ subst (λ (tags : Lists TagHit). ComesFrom marker.event (list_in old other name) (list_of tags name)) (sym (done.others other away)) (comes_same marker.event (list_in old other name))
  ]

-- ---- a field's range

-- A range's list was spliced, or nothing was done.
pub record SlotSpliced (live : ℕ → Bool) (low : ℤ) (marker : Marker) (old new : Option Rows) : Type 0 where
  pub thin : SlotThins live old new
  pub others : (other : ℤ) → (other ≡ low) ⊎ (list_from new other ≡ list_from old other)
  pub here : (m : Marker) → marker_in (list_from new low) ≡ Some m → (marker_in (list_from old low) ≡ Some m) ⊎ (m ≡ marker)
  pub comes : (other : ℤ) → ComesFrom marker.event (list_from old other) (list_from new other)

module _ (live : ℕ → Bool) (low : ℤ) (marker : Marker) where
  same-slot : (old new : Option Rows) → new ≡ old → SlotSpliced live low marker old new
  same-slot old new same = record {
    thin = subst (SlotThins live old) (sym same) (slot-same live old);
    others = λ other. inr (ap (λ (slot : Option Rows). list_from slot other) same);
    here = λ m has. inl (sym (ap (λ (slot : Option Rows). marker_in (list_from slot low)) same) ∙ has);
    comes = λ other. subst (λ (slot : Option Rows). ComesFrom marker.event (list_from old other) (list_from slot other)) (sym same) (comes_same marker.event (list_from old other));
  }

  set-slot : (rows : Rows) (l k : Listing NumHit) (new : Option Rows) → list_at rows low ≡ Some l → Without live l.entries k.entries → k.marker ≡ marker → new ≡ Some (with_list rows low k)
      → SlotSpliced live low marker (Some rows) new
  set-slot rows l k new is less mark set = subst (SlotSpliced live low marker (Some rows)) (sym set) (record {
    thin = set-thin live rows low k l is less;
    others = λ other. elim (cases_Bool (int_eq low other)) [
      | inl y ↦ inl (sym (eq_true low other y))
      | inr n ↦ inr (list-kept rows low other k n)
    ];
    here = λ m has.
        let some : ◌≡◌ {A = Option Marker} (Some k.marker) (Some m) = sym (ap marker_in (list-set rows low k l is)) ∙ has in
        let one : k.marker ≡ m = cc (some) in
        inr (sym one ∙ mark);
    comes = range-comes marker.event rows low k (omega (arith, ap (λ (m : Marker). m.event) mark));
  })

  pub slot-spliced : (repair : Repair NumHit) (outcome : Spliced) (old new : Option Rows) → FitsList live repair (list_from old low)
      → IfNone (list_from old low) ((outcome ≡ Gone) × (new ≡ old)) → IfSome (list_from old low) (λ l. SplicesSlot low repair marker l old new outcome) → SlotSpliced live low marker old new
  slot-spliced repair outcome None new fits gone there = same-slot None new gone.1
  slot-spliced repair outcome (Some rows) new fits gone there = by_list (list_at rows low) refl fits gone there
    where
      by_list : (list : Option (Listing NumHit)) → list_at rows low ≡ list → FitsList live repair list → IfNone list ((outcome ≡ Gone) × (new ≡ Some rows))
          → IfSome list (λ l. SplicesSlot low repair marker l (Some rows) new outcome) → SlotSpliced live low marker (Some rows) new
      by_list None is fits gone there = same-slot (Some rows) new gone.1
      by_list (Some l) is fits gone there = elim (same-marker repair.seen l.marker) [
        | inl same ↦ set-slot rows l (spliced l repair marker) new is (without_list live l repair marker (there.blocks same) (fits same)) refl (there.done same).0
        | inr moved ↦ same-slot (Some rows) new (there.moved moved).0
      ]

-- ---- the markers of all lists

-- The list of one name may have changed its marker for a new one; each other name's list has the marker that it had.
pub record OneChanges (at : ListName) (marker : Marker) (old new : AllLists) : Type 0 where
  pub others : (name : ListName) → (name ≡ at) ⊎ (marker_at new name ≡ marker_at old name)
  pub here : (m : Marker) → marker_at new at ≡ Some m → (marker_at old at ≡ Some m) ⊎ (m ≡ marker)

module _ (at : ListName) (marker : Marker) (old new : AllLists) (changes : OneChanges at marker old new) where
  -- a name's list has the marker that it had, or is the one that changed
  had : (name : ListName) (m : Marker) → marker_at new name ≡ Some m → (marker_at old name ≡ Some m) ⊎ ((name ≡ at) × (m ≡ marker))
  had name m has = elim (changes.others name) [
    | inl is ↦ elim (changes.here m (ap (marker_at new) (sym is) ∙ has)) [
      | inl old_one ↦ inl (ap (marker_at old) is ∙ old_one)
      | inr given ↦ inr (is, given)
    ]
    | inr same ↦ inl (sym same ∙ has)
  ]

  pub differ-spliced : IsNew marker old → MarkersDiffer old → MarkersDiffer new
  differ-spliced fresh differ name other m has there = elim (had name m has) [
    | inl mine ↦ elim (had other m there) [
      | inl theirs ↦ differ name other m mine theirs
      | inr given ↦ absurd (fresh name (mine ∙ ap Some given.1))
    ]
    | inr given ↦ elim (had other m there) [
      | inl theirs ↦ absurd (fresh other (theirs ∙ ap Some given.1))
      | inr too ↦ given.0 ∙ sym too.0
    ]
  ]

  pub gains-spliced : GainsMarker old new marker
  gains-spliced m has = elim (had has.name m has.has) [
    | inl there ↦ inl (record { name = has.name; has = there })
    | inr given ↦ inr given.1
  ]

  pub before-spliced : (markers : Markers) → IsBefore markers marker → AreBefore markers old → AreBefore markers new
  before-spliced markers given before name = by_marker (marker_at new name) refl
    where
      by_marker : (found : Option Marker) → marker_at new name ≡ found → IfSome found (IsBefore markers)
      by_marker None is = tt
      by_marker (Some m) is = elim (had name m is) [
        | inl there ↦ subst (λ (o : Option Marker). IfSome o (IsBefore markers)) there (before name)
        | inr one ↦ subst (IsBefore markers) (sym one.1) given
      ]

-- ---- the lists of a name

-- What a splice made of the lists of an index: they lost nothing that is live, one of them may have a new marker, and each other one stays.
pub record NameSpliced (live : ℕ → Bool) (at : ListName) (marker : Marker) (old new : AllLists) : Type 0 where
  pub thin : ListsThin live old new
  pub changes : OneChanges at marker old new
  pub comes : ListsCome marker.event old new

module _ (live : ℕ → Bool) (marker : Marker) (old : AllLists) where
  words-spliced : (text : List ℕ) (words : Lists TextHit) → WordSpliced live text marker old.words words → NameSpliced live (names.Word text) marker old (record old { words = words })
  words-spliced text words done = record {
    thin = record {
      words = splice-thin live text marker old.words words done;
      tags = λ field tag. without_same live (entries_in old.tags field tag);
      ranges = λ field. slot-same live (rows_of old.ranges field);
    };
    changes = record { others = others; here = splice-marker live text marker old.words words done };
    comes = record {
      words = splice-comes live text marker old.words words done;
      tags = λ field tag. comes_same marker.event (list_in old.tags field tag);
      ranges = λ field low. comes_same marker.event (list_from (rows_of old.ranges field) low);
    };
  }
    where
      others : (name : ListName) → (name ≡ names.Word text) ⊎ (marker_at (record old { words = words }) name ≡ marker_at old name)
      others (names.Word other) = elim (splice-lists live text marker old.words words done other) [ inl is ↦ inl (ap (λ (t : List ℕ). names.Word t) is) | inr same ↦ inr (ap marker_in same) ]
      others (names.Tag field tag) = inr refl
      others (names.Range field low) = inr refl

  tags-spliced : (field : ℕ) (tag : List ℕ) (tags : FieldTags) → TagSpliced live field tag marker old.tags tags → NameSpliced live (names.Tag field tag) marker old (record old { tags = tags })
  tags-spliced field tag tags done = record {
    thin = record {
      words = λ word. without_same live (entries_of old.words word);
      tags = tag-thin live field tag marker old.tags tags done;
      ranges = λ number. slot-same live (rows_of old.ranges number);
    };
    changes = record { others = others; here = splice-marker live tag marker (tags_of old.tags field) (tags_of tags field) done.here };
    comes = record {
      words = λ word. comes_same marker.event (list_of old.words word);
      tags = tag-comes live field tag marker old.tags tags done;
      ranges = λ number low. comes_same marker.event (list_from (rows_of old.ranges number) low);
    };
  }
    where
      others : (name : ListName) → (name ≡ names.Tag field tag) ⊎ (marker_at (record old { tags = tags }) name ≡ marker_at old name)
      others (names.Word other) = inr refl
      others (names.Tag number other) = elim (decided number field) [
        | inl is ↦ elim (splice-lists live tag marker (tags_of old.tags field) (tags_of tags field) done.here other) [
          | inl is_tag ↦ inl (ap (λ (n : ℕ). names.Tag n other) is ∙ ap (λ (t : List ℕ). names.Tag field t) is_tag)
          | inr same ↦ inr (subst (λ (n : ℕ). marker_in (list_of (tags_of tags n) other) ≡ marker_in (list_of (tags_of old.tags n) other)) (sym is) (ap marker_in same))
        ]
        | inr away ↦ inr (ap (λ (found : Lists TagHit). marker_in (list_of found other)) (done.others number away))
      ]
      others (names.Range number low) = inr refl

  ranges-spliced : (field : ℕ) (low : ℤ) (ranges : List (Option Rows)) → ((other : ℕ) → other ≢ field → rows_of ranges other ≡ rows_of old.ranges other)
      → SlotSpliced live low marker (rows_of old.ranges field) (rows_of ranges field) → NameSpliced live (names.Range field low) marker old (record old { ranges = ranges })
  ranges-spliced field low ranges others_same done = record {
    thin = record {
      words = λ word. without_same live (entries_of old.words word);
      tags = λ number tag. without_same live (entries_in old.tags number tag);
      ranges = λ number. elim (decided number field) [
        | inl is ↦ subst (λ (n : ℕ). SlotThins live (rows_of old.ranges n) (rows_of ranges n)) (sym is) done.thin
        | inr away ↦ subst (SlotThins live (rows_of old.ranges number)) (sym (others_same number away)) (slot-same live (rows_of old.ranges number))
      ];
    };
    changes = record { others = others; here = done.here };
    comes = record {
      words = λ word. comes_same marker.event (list_of old.words word);
      tags = λ number tag. comes_same marker.event (list_in old.tags number tag);
      ranges = λ number other. elim (decided number field) [
        | inl is ↦ subst (λ (n : ℕ). ComesFrom marker.event (list_from (rows_of old.ranges n) other) (list_from (rows_of ranges n) other)) (sym is) (done.comes other)
        | inr away ↦ subst (λ (slot : Option Rows). ComesFrom marker.event (list_from (rows_of old.ranges number) other) (list_from slot other)) (sym (others_same number away))
            (comes_same marker.event (list_from (rows_of old.ranges number) other))
      ];
    };
  }
    where
      others : (name : ListName) → (name ≡ names.Range field low) ⊎ (marker_at (record old { ranges = ranges }) name ≡ marker_at old name)
      others (names.Word other) = inr refl
      others (names.Tag number tag) = inr refl
      others (names.Range number other) = elim (decided number field) [
        | inl is ↦ elim (done.others other) [
          | inl is_low ↦ inl (ap (λ (n : ℕ). names.Range n other) is ∙ ap (λ (v : ℤ). names.Range field v) is_low)
          | inr same ↦ inr (subst (λ (n : ℕ). marker_in (list_from (rows_of ranges n) other) ≡ marker_in (list_from (rows_of old.ranges n) other)) (sym is) (ap marker_in same))
        ]
        | inr away ↦ inr (ap (λ (slot : Option Rows). marker_in (list_from slot other)) (others_same number away))
      ]

pub name-spliced : (live : ℕ → Bool) (name : ListName) (repair : AnyRepair) (marker : Marker) (old new : AllLists) (outcome : Spliced) → FitsName live old name repair
    → SplicesName name repair marker old new outcome → NameSpliced live name marker old new
name-spliced live (names.Word text) (repairs.Word repair) marker old new outcome fits done =
    subst (NameSpliced live (names.Word text) marker old) (sym done.0)
    (words-spliced live marker old text new.words (word-spliced live text marker old.words new.words repair outcome fits done.1 done.2))
name-spliced live (names.Tag field tag) (repairs.Tag repair) marker old new outcome fits done =
    subst (NameSpliced live (names.Tag field tag) marker old) (sym done.0)
    (tags-spliced live marker old field tag new.tags (tag-spliced live field tag marker old.tags new.tags repair outcome fits done.1 done.2))
name-spliced live (names.Range field low) (repairs.Range repair) marker old new outcome fits done =
    subst (NameSpliced live (names.Range field low) marker old) (sym done.0)
    (ranges-spliced live marker old field low new.ranges done.1 (slot-spliced live low marker repair outcome (rows_of old.ranges field) (rows_of new.ranges field) fits done.2 done.3))
name-spliced live (names.Word text) (repairs.Tag repair) marker old new outcome fits done = absurd fits
name-spliced live (names.Word text) (repairs.Range repair) marker old new outcome fits done = absurd fits
name-spliced live (names.Tag field tag) (repairs.Word repair) marker old new outcome fits done = absurd fits
name-spliced live (names.Tag field tag) (repairs.Range repair) marker old new outcome fits done = absurd fits
name-spliced live (names.Range field low) (repairs.Word repair) marker old new outcome fits done = absurd fits
name-spliced live (names.Range field low) (repairs.Tag repair) marker old new outcome fits done = absurd fits
