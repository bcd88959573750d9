-- What a step on lists of one kind says of all lists of an index.
use Rattle.std.specs.Prelude.{◌≡◌, ◌<◌, ◌≤◌, ◌⊎◌, ℕ, ℤ, List, [], ◌∷◌, ◌++◌, Option, None, Some, IfSome, nat_eq, filter, map, refl}
use Rattle.std.proofs.Common.{sym, ap, ◌∙◌, subst, inl, inr, arith}
use Rattle.std.proofs.lemmas.List.{map-append}
use Rattle.std.specs.Map.{remove_entry}
use Rattle.doc_table.specs.Table.{Vector}
use Rattle.ft_base.specs.declared.definition.IndexDef.{IndexDef}
use Rattle.ft_base.specs.Docs.{Doc}
use Rattle.ft_meaning.specs.Sortable.{sorting_vector}
use Rattle.id_iters.specs.declared.list_name.ListName.{ListName}
use Rattle.id_iters.specs.declared.list_name.ListName.TheVariants as names
use Rattle.inverted_list.specs.Listing.{RisesAbove}
use Rattle.inverted_list.specs.declared.marker.Marker.{Marker}
use Rattle.inverted_list.specs.declared.marker.Markers.{Markers}
use Rattle.numeric_ranges.specs.Ranges.{IsAbove, Rows}
use Rattle.posting_block.specs.declared.hits.TextHit.{TextHit}
use Rattle.term_dict.specs.Tags.{FieldTags, entries_in}
use Rattle.term_dict.specs.Terms.{Lists, entries_of}
use Rattle.ft_index.specs.Adding.{IsSeen, IsUnseen, ListsHave, RangesHaveAll, TagsHave, WordsHave}
use Rattle.ft_index.specs.Has.{Has}
use Rattle.ft_index.specs.Lists.{AllLists, rows_of}
use Rattle.ft_index.specs.Markers.{AreBefore, AreGiven, GainsMarkers, IsBefore, IsGiven, MarkersDiffer, TakesMarkers, marker_at, range_marker, tag_marker, word_marker}
use Rattle.ft_index.specs.UpTo.{AreUpTo, RisesUpTo, RowsUpTo}
use Rattle.ft_index.specs.Without.{without}
use Rattle.ft_index.proofs.AliveLaws.{alive-killed, is_other, row_of, rows-without}
use Rattle.ft_index.proofs.NumberLaws as numbers
use Rattle.ft_index.proofs.TagLaws.{tags-without}
use Rattle.ft_index.proofs.TakingLaws.{before-of, before-taken, not-again, takes-again}
use Rattle.ft_index.proofs.WordLaws.{words-without}

-- a marker that is given is no other list's
other-kind : {Q : Type 0} (from to : Markers) (lists : AllLists) (name : ListName) (marker : Marker) → AreBefore from lists → IsGiven from to marker → marker_at lists name ≡ Some marker → Q
other-kind from to lists name marker before given has = absurd (not-again from to marker (before-of from (marker_at lists) name marker before has) given)

-- words take markers,
pub takes-words : (from to : Markers) (lists : AllLists) (words : Lists TextHit) → AreBefore from lists → TakesMarkers from to (word_marker lists.words) (word_marker words)
    → TakesMarkers from to (marker_at lists) (marker_at (record lists { words = words }))
takes-words from to lists words before takes = record { event = takes.event; next = takes.next; gains = gains; apart = apart }
  where
    gains : (name : ListName) (marker : Marker) → marker_at (record lists { words = words }) name ≡ Some marker → (marker_at lists name ≡ Some marker) ⊎ IsGiven from to marker
    gains (names.Word text) marker has = takes.gains text marker has
    gains (names.Tag field text) marker has = inl has
    gains (names.Range field low) marker has = inl has

    apart : (name other : ListName) (marker : Marker) → IsGiven from to marker → marker_at (record lists { words = words }) name ≡ Some marker
        → marker_at (record lists { words = words }) other ≡ Some marker → name ≡ other
    apart (names.Word text) (names.Word other) marker given has there = ap (λ word. names.Word word) (takes.apart text other marker given has there)
    apart (names.Word text) (names.Tag field tag) marker given has there = other-kind from to lists (names.Tag field tag) marker before given there
    apart (names.Word text) (names.Range field low) marker given has there = other-kind from to lists (names.Range field low) marker before given there
    apart (names.Tag field tag) other marker given has there = other-kind from to lists (names.Tag field tag) marker before given has
    apart (names.Range field low) other marker given has there = other-kind from to lists (names.Range field low) marker before given has

-- or tags,
pub takes-tags : (from to : Markers) (lists : AllLists) (tags : FieldTags) → AreBefore from lists → TakesMarkers from to (tag_marker lists.tags) (tag_marker tags)
    → TakesMarkers from to (marker_at lists) (marker_at (record lists { tags = tags }))
takes-tags from to lists tags before takes = record { event = takes.event; next = takes.next; gains = gains; apart = apart }
  where
    gains : (name : ListName) (marker : Marker) → marker_at (record lists { tags = tags }) name ≡ Some marker → (marker_at lists name ≡ Some marker) ⊎ IsGiven from to marker
    gains (names.Word text) marker has = inl has
    gains (names.Tag field text) marker has = takes.gains (field, text) marker has
    gains (names.Range field low) marker has = inl has

    apart : (name other : ListName) (marker : Marker) → IsGiven from to marker → marker_at (record lists { tags = tags }) name ≡ Some marker
        → marker_at (record lists { tags = tags }) other ≡ Some marker → name ≡ other
    apart (names.Tag field text) (names.Tag other tag) marker given has there = ap (λ (at : ℕ × List ℕ). names.Tag at.0 at.1) (takes.apart (field, text) (other, tag) marker given has there)
    apart (names.Tag field text) (names.Word word) marker given has there = other-kind from to lists (names.Word word) marker before given there
    apart (names.Tag field text) (names.Range other low) marker given has there = other-kind from to lists (names.Range other low) marker before given there
    apart (names.Word word) other marker given has there = other-kind from to lists (names.Word word) marker before given has
    apart (names.Range field low) other marker given has there = other-kind from to lists (names.Range field low) marker before given has

-- or ranges
pub takes-ranges : (from to : Markers) (lists : AllLists) (ranges : List (Option Rows)) → AreBefore from lists → TakesMarkers from to (range_marker lists.ranges) (range_marker ranges)
    → TakesMarkers from to (marker_at lists) (marker_at (record lists { ranges = ranges }))
takes-ranges from to lists ranges before takes = record { event = takes.event; next = takes.next; gains = gains; apart = apart }
  where
    gains : (name : ListName) (marker : Marker) → marker_at (record lists { ranges = ranges }) name ≡ Some marker → (marker_at lists name ≡ Some marker) ⊎ IsGiven from to marker
    gains (names.Word text) marker has = inl has
    gains (names.Tag field text) marker has = inl has
    gains (names.Range field low) marker has = takes.gains (field, low) marker has

    apart : (name other : ListName) (marker : Marker) → IsGiven from to marker → marker_at (record lists { ranges = ranges }) name ≡ Some marker
        → marker_at (record lists { ranges = ranges }) other ≡ Some marker → name ≡ other
    apart (names.Range field low) (names.Range other above) marker given has there = ap (λ (at : ℕ × ℤ). names.Range at.0 at.1) (takes.apart (field, low) (other, above) marker given has there)
    apart (names.Range field low) (names.Word word) marker given has there = other-kind from to lists (names.Word word) marker before given there
    apart (names.Range field low) (names.Tag other tag) marker given has there = other-kind from to lists (names.Tag other tag) marker before given there
    apart (names.Word word) other marker given has there = other-kind from to lists (names.Word word) marker before given has
    apart (names.Tag field tag) other marker given has there = other-kind from to lists (names.Tag field tag) marker before given has

-- words and then tags
pub takes-two : (from between to : Markers) (lists : AllLists) (words : Lists TextHit) (tags : FieldTags) → AreBefore from lists
    → TakesMarkers from between (word_marker lists.words) (word_marker words) → TakesMarkers between to (tag_marker lists.tags) (tag_marker tags)
    → TakesMarkers from to (marker_at lists) (marker_at (record lists { words = words; tags = tags }))
takes-two from between to lists words tags before first second =
    let one = takes-words from between lists words before first in
    let mid : AllLists = record lists { words = words } in
    takes-again from between to (marker_at lists) (marker_at mid) (marker_at (record lists { words = words; tags = tags })) before one
    (takes-tags between to mid tags (before-taken from between (marker_at lists) (marker_at mid) before one) second)

-- and then numbers
pub takes-three : (from after-words after-tags to : Markers) (lists : AllLists) (words : Lists TextHit) (tags : FieldTags) (ranges : List (Option Rows)) → AreBefore from lists
    → TakesMarkers from after-words (word_marker lists.words) (word_marker words) → TakesMarkers after-words after-tags (tag_marker lists.tags) (tag_marker tags)
    → TakesMarkers after-tags to (range_marker lists.ranges) (range_marker ranges)
    → TakesMarkers from to (marker_at lists) (marker_at (record { words = words; tags = tags; ranges = ranges }))
takes-three from after-words after-tags to lists words tags ranges before first second third =
    let two = takes-two from after-words after-tags lists words tags before first second in
    let mid : AllLists = record lists { words = words; tags = tags } in
    takes-again from after-tags to (marker_at lists) (marker_at mid) (marker_at (record { words = words; tags = tags; ranges = ranges })) before two
    (takes-ranges after-tags to mid ranges (before-taken from after-tags (marker_at lists) (marker_at mid) before two) third)

pub differ-taken : (from to : Markers) (old new : AllLists) → MarkersDiffer old → TakesMarkers from to (marker_at old) (marker_at new) → MarkersDiffer new
differ-taken from to old new differ takes name other marker has there = elim (takes.gains name marker has) [
  | inl mine ↦ elim (takes.gains other marker there) [
    | inl theirs ↦ differ name other marker mine theirs
    | inr given ↦ takes.apart name other marker given has there
  ]
  | inr given ↦ takes.apart name other marker given has there
]

pub gains-taken : (from to : Markers) (old new : AllLists) → TakesMarkers from to (marker_at old) (marker_at new) → GainsMarkers old new from to
gains-taken from to old new takes marker has = elim (takes.gains has.name marker has.has) [
  | inl old ↦ inl (record { name = has.name; has = old })
  | inr given ↦ inr given
]

-- ids up to one are below another
rows-below : (last id : ℕ) (rows : Rows) → last < id → RowsUpTo last rows → IsAbove id rows
rows-below last id [] less up_to = tt
rows-below last id (row ∷ rows) less up_to = (omega (arith, less, up_to.0.end), rows-below last id rows less up_to.1)

pub ranges-below : (last id : ℕ) (rows : Option Rows) → last < id → IfSome rows (RowsUpTo last) → IfSome rows (IsAbove id)
ranges-below last id None less up_to = tt
ranges-below last id (Some rows) less up_to = rows-below last id rows less up_to

higher : {P : Type 0} {entries : List (ℕ × P)} (last id : ℕ) → last ≤ id → RisesUpTo last entries → RisesUpTo id entries
higher last id less up_to = record { rise = up_to.rise; end = omega (arith, less, up_to.end) }

rows-higher : (last id : ℕ) (rows : Rows) → last ≤ id → RowsUpTo last rows → RowsUpTo id rows
rows-higher last id [] less up_to = tt
rows-higher last id (row ∷ rows) less up_to = (higher last id less up_to.0, rows-higher last id rows less up_to.1)

pub up_to-higher : (last id : ℕ) (lists : AllLists) → last ≤ id → AreUpTo last lists → AreUpTo id lists
up_to-higher last id lists less up_to = record {
  words = λ word. higher last id less (up_to.words word);
  tags = λ field tag. higher last id less (up_to.tags field tag);
  ranges = λ field. by_rows (rows_of lists.ranges field) (up_to.ranges field);
}
  where
    by_rows : (rows : Option Rows) → IfSome rows (RowsUpTo last) → IfSome rows (RowsUpTo id)
    by_rows None up_to = tt
    by_rows (Some rows) up_to = rows-higher last id rows less up_to

-- lists of each kind have what all have
pub all-unseen : (def : IndexDef) (id : ℕ) (old new : AllLists) → IsUnseen id (WordsHave def old.words) (WordsHave def new.words) → IsUnseen id (TagsHave def old.tags) (TagsHave def new.tags)
    → IsUnseen id (RangesHaveAll def old.ranges) (RangesHaveAll def new.ranges) → IsUnseen id (ListsHave def old) (ListsHave def new)
all-unseen def id old new words tags ranges live docs dead has = record {
  live = has.live;
  words = words live docs dead has.words;
  tags = tags live docs dead has.tags;
  numbers = ranges live docs dead has.numbers;
}

pub all-seen : (def : IndexDef) (doc : Doc) (old new : AllLists) → IsSeen def doc (WordsHave def old.words) (WordsHave def new.words) → IsSeen def doc (TagsHave def old.tags) (TagsHave def new.tags)
    → IsSeen def doc (RangesHaveAll def old.ranges) (RangesHaveAll def new.ranges) → IsSeen def doc (ListsHave def old) (ListsHave def new)
all-seen def doc old new words tags ranges live docs has = record {
  live = ap (λ (rows : List (ℕ × Vector)). rows ++ (doc.id, sorting_vector def doc) ∷ []) has.live ∙ sym (map-append (row_of (sorting_vector def)) docs (doc ∷ []));
  words = words live docs has.words;
  tags = tags live docs has.tags;
  numbers = ranges live docs has.numbers;
}

-- Where an id is taken out, its document is gone, and the entries that it leaves are dead.
pub has-without : (def : IndexDef) (live : List (ℕ × Vector)) (lists : AllLists) (docs : List Doc) (id : ℕ) → RisesAbove 0 live → Has def live lists docs
    → Has def (remove_entry (nat_eq id) live) lists (without id docs)
has-without def live lists docs id rises has =
    let rows : RisesAbove 0 (map (row_of (sorting_vector def)) docs) = subst (RisesAbove 0) has.live rises in
    record {
      live = ap (remove_entry (nat_eq id)) has.live ∙ rows-without (sorting_vector def) 0 id docs rows;
      words = λ word. alive-killed id live (entries_of lists.words word) rises ∙ (ap (filter (is_other id)) (has.words word) ∙ sym (words-without def word id docs));
      tags = λ field tag. alive-killed id live (entries_in lists.tags field tag) rises ∙ (ap (filter (is_other id)) (has.tags field tag) ∙ sym (tags-without def field tag id docs));
      numbers = λ field. numbers.rows-without def field id live docs (rows_of lists.ranges field) rises (has.numbers field);
    }

-- where there is no list there is no marker
none-at : (name : ListName) → marker_at (record { words = []; tags = []; ranges = [] }) name ≡ None
none-at (names.Word text) = refl
none-at (names.Tag field text) = refl
none-at (names.Range field low) = refl

none-there : {Q : Type 0} (name : ListName) (marker : Marker) → marker_at (record { words = []; tags = []; ranges = [] }) name ≡ Some marker → Q
none-there name marker has = let is : ◌≡◌ {A = Option Marker} None (Some marker) = sym (none-at name) ∙ has in absurd (cc (is))

none-before : (from : Markers) → AreBefore from (record { words = []; tags = []; ranges = [] })
none-before from name = subst (λ (found : Option Marker). IfSome found (IsBefore from)) (sym (none-at name)) tt

-- lists that are all made at once
first-take : (from to : Markers) (ranges : List (Option Rows)) → TakesMarkers from to (λ _. None) (range_marker ranges)
    → TakesMarkers from to (marker_at (record { words = []; tags = []; ranges = [] })) (marker_at (record { words = []; tags = []; ranges = ranges }))
first-take from to ranges takes = takes-ranges from to (record { words = []; tags = []; ranges = [] }) ranges (none-before from) takes

pub first-before : (from to : Markers) (ranges : List (Option Rows)) → TakesMarkers from to (λ _. None) (range_marker ranges) → AreBefore to (record { words = []; tags = []; ranges = ranges })
first-before from to ranges takes =
    before-taken from to (marker_at (record { words = []; tags = []; ranges = [] })) (marker_at (record { words = []; tags = []; ranges = ranges })) (none-before from) (first-take from to ranges takes)

pub first-differ : (from to : Markers) (ranges : List (Option Rows)) → TakesMarkers from to (λ _. None) (range_marker ranges) → MarkersDiffer (record { words = []; tags = []; ranges = ranges })
first-differ from to ranges takes =
    differ-taken from to (record { words = []; tags = []; ranges = [] }) (record { words = []; tags = []; ranges = ranges }) (λ name other marker has there. none-there name marker has) (first-take from to ranges takes)

pub first-given : (from to : Markers) (ranges : List (Option Rows)) → TakesMarkers from to (λ _. None) (range_marker ranges)
    → AreGiven from to (record { words = []; tags = []; ranges = ranges })
first-given from to ranges takes marker has = elim ((first-take from to ranges takes).gains has.name marker has.has) [
  | inl old ↦ none-there has.name marker old
  | inr given ↦ given
]
