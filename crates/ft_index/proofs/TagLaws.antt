-- How the tags of a document go into the lists, and what is seen of them then.
use Rattle.std.proofs.Common.{◌≡◌, ◌≢◌, ◌⊎◌, ℕ, suc, zero, ◌+◌, ◌<◌, ◌≤◌, Bool, false, true, not, ◌&&◌, ◌||◌, List, [], ◌∷◌, ◌++◌, take, length, slice_index_or, refl, ap, sym, subst, inl, inr, ◌∙◌, arith, add-one, append_assoc, append-nil, is_some, nat_eq, if◌then◌else◌, Option, Some}
use Rattle.std.proofs.lemmas.Bool.{cases_Bool, eqb-true, eqb-false, cond-true, cond-false, ne_eqb}
use Rattle.std.proofs.Math.Seq.{take-suc}
use Rattle.std.specs.Cmp.Lexicographic.{bytes_decides, nat_list_eq_equiv}
use Rattle.std.specs.List.{filter, list_any}
use Rattle.std.specs.Option.{unwrap_or}
use Rattle.std.specs.Prelude.{slice_get}
use Rattle.std.specs.Str.{bytes_eq}
use Rattle.field_text.specs.Tags.{firsts, tags_of}
use Rattle.ft_base.specs.declared.definition.Field.{Field}
use Rattle.ft_base.specs.declared.definition.IndexDef.{IndexDef}
use Rattle.ft_base.specs.Docs.{Doc}
use Rattle.ft_meaning.specs.Sortable.{sorting_vector}
use Rattle.inverted_list.specs.Listing.{last_id}
use Rattle.inverted_list.specs.declared.marker.Markers.{Markers}
use Rattle.posting_block.specs.declared.hits.TagHit.{TagHit}
use Rattle.term_dict.specs.Tags.{FieldTags, SetsTag, entries_in, list_in}
use Rattle.term_dict.specs.Tags as index
use Rattle.term_dict.specs.Terms.{Lists, entries_of, list_of}
use Rattle.ft_index.specs.Adding.{IsSeen, IsUnseen, TagsHave, tag_entry}
use Rattle.ft_index.specs.Entries.{has_tag, searched_tags, tag_entries}
use Rattle.ft_index.specs.Has.{alive}
use Rattle.gc_splice.specs.Growing.{ComesFrom}
use Rattle.ft_index.specs.Markers.{AllBefore, TakesMarkers, marker_in, tag_list, tag_marker}
use Rattle.ft_index.specs.Tagging.{AreApart, FieldTagsGain, TagGains, TagsGain}
use Rattle.ft_index.specs.UpTo.{RisesUpTo, TagsUpTo}
use Rattle.ft_index.specs.Without.{without}
use Rattle.ft_index.proofs.AliveLaws.{AreOf, alive-seen, alive-unseen, all-below, is_other, same-yes}
use Rattle.ft_index.proofs.FieldLaws.{decided, fields-next, get-taken}
use Rattle.gc_splice.proofs.GrowingLaws.{comes_same}
use Rattle.ft_index.proofs.ListLaws.{added_list, entries-added, list-others, lists-come, marker-here, up_to-push}
use Rattle.ft_index.proofs.TakingLaws.{takes-at}

-- the tags of a value differ
any-filtered : (p q : List ℕ → Bool) (tags : List (List ℕ)) → list_any p tags ≡ false → list_any p (filter q tags) ≡ false
any-filtered p q [] none = refl
any-filtered p q (tag ∷ tags) none = elim (cases_Bool (p tag)) [
  | inl y ↦ absurd (cc (rw y at none))
  | inr n ↦
      let others : list_any p tags ≡ false = rw n at none in
      elim (cases_Bool (q tag)) [ inl y ↦ rw (y, n) (any-filtered p q tags others) | inr m ↦ rw m (any-filtered p q tags others) ]
]

apart-filtered : (q : List ℕ → Bool) (tags : List (List ℕ)) → AreApart tags → AreApart (filter q tags)
apart-filtered q [] apart = tt
apart-filtered q (tag ∷ tags) apart = elim (cases_Bool (q tag)) [
  | inl y ↦ rw y (any-filtered (bytes_eq tag) q tags apart.0, apart-filtered q tags apart.1)
  | inr n ↦ rw n (apart-filtered q tags apart.1)
]

any-others : (tag : List ℕ) (tags : List (List ℕ)) → list_any (bytes_eq tag) (filter (λ other. not (bytes_eq tag other)) tags) ≡ false
any-others tag [] = refl
any-others tag (other ∷ tags) = elim (cases_Bool (bytes_eq tag other)) [
  | inl y ↦ rw y (any-others tag tags)
  | inr n ↦ rw (n, n) (any-others tag tags)
]

firsts-apart : (tags : List (List ℕ)) → AreApart (firsts tags)
firsts-apart [] = tt
firsts-apart (tag ∷ tags) = (any-others tag (firsts tags), apart-filtered (λ other. not (bytes_eq tag other)) (firsts tags) (firsts-apart tags))

pub tags-apart : (text : List ℕ) (separator : ℕ) (case : Bool) → AreApart (tags_of text separator case)
tags-apart text separator case = firsts-apart _

none-at : (p : List ℕ → Bool) (tags : List (List ℕ)) (k : ℕ) (d : List ℕ) → list_any p tags ≡ false → k < length tags → p (slice_index_or tags k d) ≡ false
none-at p [] k d none within = absurd (omega (arith, within))
none-at p (tag ∷ tags) zero d none within = elim (cases_Bool (p tag)) [ inl y ↦ absurd (cc (rw y at none)) | inr n ↦ n ]
none-at p (tag ∷ tags) (suc k) d none within = elim (cases_Bool (p tag)) [
  | inl y ↦ absurd (cc (rw y at none))
  | inr n ↦ none-at p tags k d (rw n at none) (omega (arith, within))
]

-- a tag was not met before its place
pub not-met : (tags : List (List ℕ)) (k : ℕ) (tag : List ℕ) → AreApart tags → k < length tags → slice_index_or tags k tag ≡ tag → list_any (bytes_eq tag) (take k tags) ≡ false
not-met [] k tag apart within here = absurd (omega (arith, within))
not-met (first ∷ tags) zero tag apart within here = refl
not-met (first ∷ tags) (suc k) tag apart within here =
    let inside : k < length tags = omega (arith, within) in
    let away : bytes_eq first (slice_index_or tags k tag) ≡ false = none-at (bytes_eq first) tags k tag apart.0 inside in
    let other : bytes_eq tag first ≡ false = nat_list_eq_equiv.symm tag first ∙ (ap (bytes_eq first) (sym here) ∙ away) in
    rw other (not-met tags k tag apart.1 inside here)

-- an entry goes to the tag of the field, and to no other
pub entries-tagged : (old new : FieldTags) (field : ℕ) (tag : List ℕ) (markers : Markers) (id : ℕ) (hit : TagHit)
    → SetsTag field tag (added_list (index.tags_of old field) tag markers id hit) old new
    → (other : ℕ) (name : List ℕ) → entries_in new other name ≡ entries_in old other name ++ (if nat_eq other field && bytes_eq name tag then (id, hit) ∷ [] else [])
entries-tagged old new field tag markers id hit sets other name = elim (cases_Bool (nat_eq other field)) [
  | inl y ↦
      let is : other ≡ field = eqb-true other field y in
      let turned : bytes_eq tag name ≡ bytes_eq name tag = nat_list_eq_equiv.symm tag name in
      let added = entries-added (index.tags_of old field) (index.tags_of new field) tag markers id hit sets.here name in
      rw (y, is) (by_name (bytes_eq name tag) turned added)
  | inr n ↦ rw n (ap (λ (tags : Option (Lists TagHit)). entries_of (unwrap_or tags []) name) (sets.others other (eqb-false other field n)) ∙ sym (append-nil (entries_in old other name)))
]
  where
    by_name : (b : Bool) → bytes_eq tag name ≡ b
        → entries_in new field name ≡ (if bytes_eq tag name then entries_in old field name ++ (id, hit) ∷ [] else entries_in old field name)
        → entries_in new field name ≡ entries_in old field name ++ (if b then (id, hit) ∷ [] else [])
    by_name true is added = added ∙ cond-true (bytes_eq tag name) _ (entries_in old field name) is
    by_name false is added = added ∙ (cond-false (bytes_eq tag name) _ (entries_in old field name) is ∙ sym (append-nil (entries_in old field name)))

-- an entry more of a higher id ends its list, and the others end where they did
pub tags-up_to : (id : ℕ) (old new : FieldTags) (field : ℕ) (tag : List ℕ) → TagsUpTo id old → last_id 0 (entries_in old field tag) < id
    → ((other : ℕ) (name : List ℕ) → entries_in new other name ≡ entries_in old other name ++ tag_entry id (nat_eq other field && bytes_eq name tag)) → TagsUpTo id new
tags-up_to id old new field tag up_to later entries other name =
    subst (RisesUpTo id) (sym (entries other name)) (elim (cases_Bool (nat_eq other field)) [
      | inl y ↦ elim (cases_Bool (bytes_eq name tag)) [
        | inl z ↦ rw (y, z) (up_to-push id (record {}) (entries_in old other name) (up_to other name).rise
            (subst (λ (n : ℕ). last_id 0 (entries_in old n name) < id) (sym (eqb-true other field y))
            (subst (λ (t : List ℕ). last_id 0 (entries_in old field t) < id) (sym ((bytes_decides name tag).0 z)) later)))
        | inr n ↦ rw (y, n, append-nil) (up_to other name)
      ]
      | inr n ↦ rw (n, append-nil) (up_to other name)
    ])

-- the markers of one field's tags change at one tag
pub tags-take : (old new : FieldTags) (field : ℕ) (tag : List ℕ) (from to : Markers) (id : ℕ) (hit : TagHit) → AllBefore from (tag_marker old)
    → SetsTag field tag (added_list (index.tags_of old field) tag from id hit) old new
    → to.event ≡ from.event → from.next ≤ to.next → to.next ≡ from.next + (if is_some (list_in old field tag) then 0 else 1) → TakesMarkers from to (tag_marker old) (tag_marker new)
tags-take old new field tag from to id hit before sets event next taken =
    takes-at (field, tag) from to (tag_marker old) (tag_marker new) event next before others (marker-here (index.tags_of old field) (index.tags_of new field) tag from to id hit sets.here taken)
  where
    others : (name : ℕ × List ℕ) → (name ≡ (field, tag)) ⊎ (tag_marker new name ≡ tag_marker old name)
    others name = elim (decided name.0 field) [
      | inl is ↦ elim (list-others (index.tags_of old field) (index.tags_of new field) tag _ sets.here name.1) [
        | inl is_tag ↦ inl (ap (λ (n : ℕ). (n, name.1)) is ∙ ap (λ (t : List ℕ). (field, t)) is_tag)
        | inr same ↦ inr (subst (λ (n : ℕ). tag_marker new (n, name.1) ≡ tag_marker old (n, name.1)) (sym is) (ap marker_in same))
      ]
      | inr away ↦ inr (ap (λ (tags : Option (Lists TagHit)). marker_in (list_of (unwrap_or tags []) name.1)) (sets.others name.0 away))
    ]

-- and its lists grow
pub tags-come : (old new : FieldTags) (field : ℕ) (tag : List ℕ) (from : Markers) (id : ℕ) (hit : TagHit) → SetsTag field tag (added_list (index.tags_of old field) tag from id hit) old new
    → (name : ℕ × List ℕ) → ComesFrom from.event (tag_list old name) (tag_list new name)
tags-come old new field tag from id hit sets name = elim (decided name.0 field) [
  | inl is ↦ subst (λ (n : ℕ). ComesFrom from.event (tag_list old (n, name.1)) (tag_list new (n, name.1))) (sym is)
      (lists-come (index.tags_of old field) (index.tags_of new field) tag from id hit sets.here name.1)
  | inr away ↦ subst (λ (tags : Option (Lists TagHit)). ComesFrom from.event (tag_list old name) (list_of (unwrap_or tags []) name.1)) (sym (sets.others name.0 away)) (comes_same from.event (tag_list old name))
]

-- one tag more of a field's tags
pub tag-more : (tags : List (List ℕ)) (k : ℕ) (tag : List ℕ) (id : ℕ) (b : Bool) (name : List ℕ) → AreApart tags → k < length tags → slice_index_or tags k tag ≡ tag
    → tag_entry id (b && list_any (bytes_eq name) (take k tags)) ++ tag_entry id (b && bytes_eq name tag) ≡ tag_entry id (b && list_any (bytes_eq name) (take (k + 1) tags))
tag-more tags k tag id false name apart within here = refl
tag-more tags k tag id true name apart within here =
    let more : take (k + 1) tags ≡ take k tags ++ tag ∷ [] = rw add-one (take-suc tags k tag within ∙ ap (λ (last : List ℕ). take k tags ++ last ∷ []) here) in
    rw more (by_tag (bytes_eq name tag) refl)
  where
    any-append : (xs : List (List ℕ)) → list_any (bytes_eq name) (xs ++ tag ∷ []) ≡ (list_any (bytes_eq name) xs || bytes_eq name tag)
    any-append [] = elim (cases_Bool (bytes_eq name tag)) [ inl y ↦ rw y refl | inr n ↦ rw n refl ]
    any-append (x ∷ xs) = elim (cases_Bool (bytes_eq name x)) [ inl y ↦ rw y refl | inr n ↦ rw n (any-append xs) ]

    by_tag : (b : Bool) → bytes_eq name tag ≡ b
        → tag_entry id (list_any (bytes_eq name) (take k tags)) ++ tag_entry id (bytes_eq name tag) ≡ tag_entry id (list_any (bytes_eq name) (take k tags ++ tag ∷ []))
    by_tag true is =
        let same : name ≡ tag = (bytes_decides name tag).0 is in
        let new : list_any (bytes_eq name) (take k tags) ≡ false = ap (λ (t : List ℕ). list_any (bytes_eq t) (take k tags)) same ∙ not-met tags k tag apart within here in
        rw (any-append (take k tags), new, is) refl
    by_tag false is =
        rw (any-append (take k tags), is) (elim (cases_Bool (list_any (bytes_eq name) (take k tags))) [ inl y ↦ rw y refl | inr n ↦ rw n refl ])

-- the first k of a field's tags have their entries, and no other list has one

-- the next tag's list ends below the id
pub tag-later : (k : ℕ) (tags : List (List ℕ)) (item tag : List ℕ) (field id : ℕ) (start now : FieldTags) → AreApart tags → k < length tags → item ≡ slice_index_or tags k item → tag ≡ item
    → FieldTagsGain field (take k tags) id start now → last_id 0 (entries_in start field tag) < id → last_id 0 (entries_in now field tag) < id
tag-later k tags item tag field id start now apart within is same added later =
    let here : slice_index_or tags k tag ≡ tag = subst (λ (t : List ℕ). slice_index_or tags k t ≡ t) (sym same) (sym is) in
    let new : (nat_eq field field && list_any (bytes_eq tag) (take k tags)) ≡ false = rw (same-yes field) (not-met tags k tag apart within here) in
    let entries : entries_in now field tag ≡ entries_in start field tag = added field tag ∙ (ap (λ (b : Bool). entries_in start field tag ++ tag_entry id b) new ∙ append-nil (entries_in start field tag)) in
    subst (λ (es : List (ℕ × TagHit)). last_id 0 es < id) (sym entries) later

pub tag-next : (k : ℕ) (tags : List (List ℕ)) (item tag : List ℕ) (field id : ℕ) (start now new : FieldTags) → AreApart tags → k < length tags → item ≡ slice_index_or tags k item → tag ≡ item
    → FieldTagsGain field (take k tags) id start now → TagGains field tag id now new → FieldTagsGain field (take (k + 1) tags) id start new
tag-next k tags item tag field id start now new apart within is same added step other name =
    let here : slice_index_or tags k tag ≡ tag = subst (λ (t : List ℕ). slice_index_or tags k t ≡ t) (sym same) (sym is) in
    let b = nat_eq other field in
    step other name
    ∙ (ap (λ (es : List (ℕ × TagHit)). es ++ tag_entry id (b && bytes_eq name tag)) (added other name)
    ∙ (append_assoc (entries_in start other name) (tag_entry id (b && list_any (bytes_eq name) (take k tags))) (tag_entry id (b && bytes_eq name tag))
    ∙ ap (λ (es : List (ℕ × TagHit)). entries_in start other name ++ es) (tag-more tags k tag id b name apart within here)))

tag-own : (id : ℕ) (b : Bool) → AreOf id (tag_entry id b)
tag-own id true = (refl, tt)
tag-own id false = tt

-- The lists are as they were but for one entry of this id at the end of some.
abbrev pub TagsGrow : ℕ → FieldTags → FieldTags → Type 0
TagsGrow id old new = (field : ℕ) (tag : List ℕ) → (has : Bool) × (entries_in new field tag ≡ entries_in old field tag ++ tag_entry id has)

-- what lists have does not change by entries of an id that is not live
pub tags-unseen : (def : IndexDef) (id : ℕ) (old new : FieldTags) → TagsGrow id old new → IsUnseen id (TagsHave def old) (TagsHave def new)
tags-unseen def id old new grown live docs dead has field tag =
    ap (alive live) (grown field tag).1
    ∙ (alive-unseen live (entries_in old field tag) (tag_entry id (grown field tag).0) id (tag-own id (grown field tag).0) dead ∙ has field tag)

-- a document more has its entry last
tag_entries-append : (def : IndexDef) (field : ℕ) (tag : List ℕ) (docs : List Doc) (doc : Doc)
    → tag_entries def field tag (docs ++ doc ∷ []) ≡ tag_entries def field tag docs ++ tag_entry doc.id (has_tag def field tag doc)
tag_entries-append def field tag [] doc = elim (cases_Bool (has_tag def field tag doc)) [ inl y ↦ rw y refl | inr n ↦ rw n refl ]
tag_entries-append def field tag (first ∷ docs) doc = elim (cases_Bool (has_tag def field tag first)) [
  | inl y ↦ rw y (ap (λ rest. (first.id, record {}) ∷ rest) (tag_entries-append def field tag docs doc))
  | inr n ↦ rw n (tag_entries-append def field tag docs doc)
]

pub tags-seen : (def : IndexDef) (doc : Doc) (old new : FieldTags) → TagsUpTo doc.id old
    → ((field : ℕ) (tag : List ℕ) → last_id 0 (entries_in old field tag) < doc.id) → TagsGain def.fields doc old new → IsSeen def doc (TagsHave def old) (TagsHave def new)
tags-seen def doc old new up_to later added live docs has field tag =
    let es = entries_in old field tag in
    let more = tag_entry doc.id (has_tag def field tag doc) in
    ap (alive (live ++ (doc.id, sorting_vector def doc) ∷ [])) (added field tag)
    ∙ (alive-seen live es more doc.id (sorting_vector def doc) (all-below 0 doc.id es (up_to field tag).rise (later field tag)) (tag-own doc.id (has_tag def field tag doc))
    ∙ (ap (λ (entries : List (ℕ × TagHit)). entries ++ more) (has field tag) ∙ sym (tag_entries-append def field tag docs doc)))

pub tags-without : (def : IndexDef) (field : ℕ) (tag : List ℕ) (id : ℕ) (docs : List Doc) → tag_entries def field tag (without id docs) ≡ filter (is_other id) (tag_entries def field tag docs)
tags-without def field tag id [] = refl
tags-without def field tag id (doc ∷ docs) = by_tests (nat_eq id doc.id) (has_tag def field tag doc) refl refl (tags-without def field tag id docs)
  where
    by_tests : (a b : Bool) → nat_eq id doc.id ≡ a → has_tag def field tag doc ≡ b → tag_entries def field tag (without id docs) ≡ filter (is_other id) (tag_entries def field tag docs)
        → tag_entries def field tag (without id (doc ∷ docs)) ≡ filter (is_other id) (tag_entries def field tag (doc ∷ docs))
    by_tests true true same there rest = rw (same, there, same) rest
    by_tests true false same there rest = rw (same, there) rest
    by_tests false true same there rest = rw (same, there, same) (ap (λ others. (doc.id, record {}) ∷ others) rest)
    by_tests false false same there rest = rw (same, there) rest

-- so far as the first k of a field's tags have their entries, nothing is seen of an id that is not live
pub tagged-unseen : (k : ℕ) (tags : List (List ℕ)) (field id : ℕ) (start now : FieldTags) → FieldTagsGain field (take k tags) id start now → (def : IndexDef) → IsUnseen id (TagsHave def start) (TagsHave def now)
tagged-unseen k tags field id start now added def =
    tags-unseen def id start now (λ other name. (nat_eq other field && list_any (bytes_eq name) (take k tags), added other name))

field-before : (k : ℕ) (fields : List Field) (doc : Doc) (start now : FieldTags) → TagsGain (take k fields) doc start now → (tag : List ℕ) → entries_in now k tag ≡ entries_in start k tag
field-before k fields doc start now added tag =
    added k tag
    ∙ (ap (λ (at : Option Field). entries_in start k tag ++ tag_entry doc.id (list_any (bytes_eq tag) (searched_tags at doc))) (get-taken k fields) ∙ append-nil (entries_in start k tag))

-- the field at number k has no entries of the document yet
pub field-later : (k : ℕ) (fields : List Field) (doc : Doc) (start now : FieldTags) → TagsGain (take k fields) doc start now
    → ((field : ℕ) (tag : List ℕ) → last_id 0 (entries_in start field tag) < doc.id) → (tag : List ℕ) → last_id 0 (entries_in now k tag) < doc.id
field-later k fields doc start now added later tag =
    subst (λ (es : List (ℕ × TagHit)). last_id 0 es < doc.id) (sym (field-before k fields doc start now added tag)) (later k tag)

pub field-next : (k : ℕ) (fields : List Field) (field : Field) (tags : List (List ℕ)) (doc : Doc) (start now new : FieldTags) → k < length fields → field ≡ slice_index_or fields k field
    → tags ≡ searched_tags (Some field) doc → TagsGain (take k fields) doc start now
    → FieldTagsGain k tags doc.id now new → TagsGain (take (k + 1) fields) doc start new
field-next k fields field tags doc start now new within is same added step number tag =
    fields-next (λ (n : ℕ) (at : Option Field). entries_in new n tag ≡ entries_in start n tag ++ tag_entry doc.id (list_any (bytes_eq tag) (searched_tags at doc)))
    fields k field within (sym is) own others number
  where
    own : entries_in new k tag ≡ entries_in start k tag ++ tag_entry doc.id (list_any (bytes_eq tag) (searched_tags (Some field) doc))
    own = step k tag
        ∙ (ap (λ (b : Bool). entries_in now k tag ++ tag_entry doc.id (b && list_any (bytes_eq tag) tags)) (same-yes k)
        ∙ (ap (λ (ts : List (List ℕ)). entries_in now k tag ++ tag_entry doc.id (list_any (bytes_eq tag) ts)) same
        ∙ ap (λ (es : List (ℕ × TagHit)). es ++ tag_entry doc.id (list_any (bytes_eq tag) (searched_tags (Some field) doc))) (field-before k fields doc start now added tag)))

    others : (other : ℕ) → other ≢ k → entries_in new other tag ≡ entries_in start other tag ++ tag_entry doc.id (list_any (bytes_eq tag) (searched_tags (slice_get (take k fields) other) doc))
    others other away = step other tag
        ∙ (ap (λ (b : Bool). entries_in now other tag ++ tag_entry doc.id (b && list_any (bytes_eq tag) tags)) (ne_eqb other k away)
        ∙ (append-nil (entries_in now other tag) ∙ added other tag))
