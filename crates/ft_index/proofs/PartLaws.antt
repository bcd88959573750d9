-- What a part shows, as the lists behind a name are taken one after another.
use Rattle.std.specs.Prelude.{◌≡◌, ◌<◌, ℕ, ◌+◌, ℤ, List, [], ◌∷◌, ◌++◌, map, Bool, true, false, Option, Some, None, IfSome, drop, length, slice_index_or, refl, if◌then◌else◌}
use Rattle.std.proofs.Common.{sym, ap, subst, ◌∙◌, inl, inr, arith, append_assoc, append-nil}
use Rattle.std.specs.List.{AllByRecursion, filter}
use Rattle.std.specs.List.Sorted.{IsStrictlySortedBy}
use Rattle.std.specs.Map.{keys_of}
use Rattle.std.specs.Ordering.{nat_cmp}
use Rattle.std.specs.declared.cmp.Ordering.{Ordering}
use Rattle.std.specs.declared.cmp.Ordering.TheVariants.{Less, Greater}
use Rattle.std.proofs.lemmas.Bool.{cases_Bool}
use Rattle.std.proofs.lemmas.Bool.Decides.{nat_tests}
use Rattle.std.proofs.lemmas.List.{drop_more}
use Rattle.std.proofs.lemmas.Result.{on_ok_weaker}
use Rattle.std.specs.Result.{OnOk}
use Rattle.std.specs.declared.result.Result.{Result}
use Rattle.std.proofs.lemmas.List.Elements.{filter-append}
use Rattle.id_iters.specs.declared.list_name.ListName.{ListName}
use Rattle.id_iters.specs.declared.list_name.ListName.TheVariants as names
use Rattle.numeric_ranges.specs.Ranges.{Rows}
use Rattle.posting_block.specs.declared.hits.TagHit.{TagHit}
use Rattle.posting_block.specs.declared.hits.TextHit.{TextHit}
use Rattle.term_dict.specs.Terms.{Lists, rows_after}
use Rattle.ft_index.specs.declared.parting.Part.{Part}
use Rattle.ft_index.specs.declared.room.Room.{Room}
use Rattle.ft_index.specs.declared.snapshots.NamedPicture.{NamedPicture}
use Rattle.ft_index.specs.Lists.{AllLists}
use Rattle.ft_index.specs.Parting.{ArePictures, Behind, Empty, PicturesPart, Takes, ahead, behind, blocks_in, is_behind, is_spent, left_by, parted, picks, whole_room}
use Rattle.ft_index.specs.Picturing.{AreOrdered, NamedLists, all_named, field_named, shown, slot_named, slots_named, words_named}
use Rattle.ft_index.specs.Snapshots.{AnyListing, NamesRise, PicturesName, TagList, WordList, name_cmp, names_of}
use Rattle.ft_index.proofs.NamedLaws.{IsOwn, all-map, all-own, all-unmap}
use Rattle.ft_index.proofs.NamesLaws.{all-rise}

-- ---- lists that are taken

parted-spent : (room : Room) (rows : NamedLists) → is_spent room ≡ true → parted room rows ≡ []
parted-spent room [] spent = refl
parted-spent room (row ∷ rows) spent = rw spent refl

-- without room none is
pub takes-spent : (part : Part) (rows : NamedLists) → is_spent part.room ≡ true → Takes rows part part
takes-spent part rows spent rest = ap (λ es. map shown part.pictures ++ es) (parted-spent part.room rest spent ∙ sym (parted-spent part.room (rows ++ rest) spent))

pub takes-none : (part : Part) (rows : NamedLists) → rows ≡ [] → Takes rows part part
takes-none part rows none rest = ap (λ es. ahead part (es ++ rest)) (sym none)

pub takes-same : (rows others : NamedLists) (old new : Part) → others ≡ rows → Takes rows old new → Takes others old new
takes-same rows others old new is takes = subst (λ es. Takes es old new) (sym is) takes

pub takes-ok : {X E : Type 0} (result : Result X E) (rows others : NamedLists) (old new : Part) → others ≡ rows → OnOk result (Takes rows old new) → OnOk result (Takes others old new)
takes-ok result rows others old new is takes = on_ok_weaker result (λ t. takes-same rows others old new is t) takes

one-more : (taken : Bool) (here : ListName × AnyListing) (front tail : NamedLists)
    → (front ++ (if taken then here ∷ [] else [])) ++ tail ≡ front ++ (if taken then here ∷ tail else tail)
one-more true here front tail = append_assoc front (here ∷ []) tail
one-more false here front tail = append_assoc front [] tail

parted-open : (room : Room) (here : ListName × AnyListing) (rest : NamedLists) → is_spent room ≡ false
    → parted room (here ∷ rest) ≡ (if picks room (blocks_in here.1) then here ∷ parted (left_by room (blocks_in here.1)) rest else parted (left_by room (blocks_in here.1)) rest)
parted-open room here rest room_is = rw room_is refl

-- one list
pub takes-one : (here : ListName × AnyListing) (blocks : ℕ) (old new : Part) → is_spent old.room ≡ false → blocks ≡ blocks_in here.1 → new.room ≡ left_by old.room blocks
    → map shown new.pictures ≡ map shown old.pictures ++ (if picks old.room blocks then here ∷ [] else []) → Takes (here ∷ []) old new
takes-one here blocks old new room_is is room pictures rest =
    let all = map shown old.pictures in
    ap (λ es. es ++ parted new.room rest) pictures
    ∙ (ap (λ (r : Room). (all ++ (if picks old.room blocks then here ∷ [] else [])) ++ parted r rest) room
    ∙ (one-more (picks old.room blocks) here all (parted (left_by old.room blocks) rest)
    ∙ (ap (λ (n : ℕ). all ++ (if picks old.room n then here ∷ parted (left_by old.room n) rest else parted (left_by old.room n) rest)) is
    ∙ ap (λ es. all ++ es) (sym (parted-open old.room here rest room_is)))))

-- ---- the lists behind a name

module _ {A B : Type 0} (f : A → B) (p : B → Bool) where
  filter-mapped : (q : A → Bool) → ((x : A) → p (f x) ≡ q x) → (xs : List A) → filter p (map f xs) ≡ map f (filter q xs)
  filter-mapped q same [] = refl
  filter-mapped q same (x ∷ xs) = elim (cases_Bool (q x)) [
    | inl y ↦ rw (same x ∙ y) (rw y (ap (λ ys. f x ∷ ys) (filter-mapped q same xs)))
    | inr n ↦ rw (same x ∙ n) (rw n (filter-mapped q same xs))
  ]

  filter-none : ((x : A) → p (f x) ≡ false) → (xs : List A) → filter p (map f xs) ≡ []
  filter-none none [] = refl
  filter-none none (x ∷ xs) = rw (none x) (filter-none none xs)

  filter-each : ((x : A) → p (f x) ≡ true) → (xs : List A) → filter p (map f xs) ≡ map f xs
  filter-each each [] = refl
  filter-each each (x ∷ xs) = rw (each x) (ap (λ ys. f x ∷ ys) (filter-each each xs))

pub behind-none : (rows : NamedLists) → behind None rows ≡ rows
behind-none [] = refl
behind-none (row ∷ rows) = ap (λ es. row ∷ es) (behind-none rows)

pub not-behind : (hand : Option ListName) (here : ListName × AnyListing) → is_behind hand here.0 ≡ false → behind hand (here ∷ []) ≡ []
not-behind hand here n = rw n refl

pub words-after : (text : List ℕ) (words : Lists TextHit) → behind (Some (names.Word text)) (words_named words) ≡ words_named (rows_after (Some text) words)
words-after text words =
    filter-mapped (λ row. (names.Word row.0, WordList row.1)) (λ row. is_behind (Some (names.Word text)) row.0) (λ row. is_behind (Some (names.Word text)) (names.Word row.0)) (λ row. refl) words

pub words-passed_tag : (field : ℕ) (text : List ℕ) (words : Lists TextHit) → behind (Some (names.Tag field text)) (words_named words) ≡ []
words-passed_tag field text words = filter-none (λ row. (names.Word row.0, WordList row.1)) (λ row. is_behind (Some (names.Tag field text)) row.0) (λ row. refl) words

pub words-passed_range : (field : ℕ) (low : ℤ) (words : Lists TextHit) → behind (Some (names.Range field low)) (words_named words) ≡ []
words-passed_range field low words = filter-none (λ row. (names.Word row.0, WordList row.1)) (λ row. is_behind (Some (names.Range field low)) row.0) (λ row. refl) words

nat-same : (n : ℕ) → nat_cmp n n ≡ nat_cmp 0 0
nat-same n = grind (arith, nat_tests)

pub tags-here : (field : ℕ) (text : List ℕ) (tags : Lists TagHit) → behind (Some (names.Tag field text)) (field_named field tags) ≡ field_named field (rows_after (Some text) tags)
tags-here field text tags =
    filter-mapped (λ row. (names.Tag field row.0, TagList row.1)) (λ row. is_behind (Some (names.Tag field text)) row.0) (λ row. is_behind (Some (names.Word text)) (names.Word row.0))
    (λ row. rw (nat-same field) refl) tags

pub tags-passed : (field from : ℕ) (text : List ℕ) (tags : Lists TagHit) → field < from → behind (Some (names.Tag from text)) (field_named field tags) ≡ []
tags-passed field from text tags below =
    let greater : nat_cmp from field ≡ Greater = grind (arith, nat_tests, below) in
    filter-none (λ row. (names.Tag field row.0, TagList row.1)) (λ row. is_behind (Some (names.Tag from text)) row.0) (λ row. rw greater refl) tags

pub tags-ahead : (field from : ℕ) (text : List ℕ) (tags : Lists TagHit) → from < field → behind (Some (names.Tag from text)) (field_named field tags) ≡ field_named field tags
tags-ahead field from text tags above =
    let less : nat_cmp from field ≡ Less = grind (arith, nat_tests, above) in
    filter-each (λ row. (names.Tag field row.0, TagList row.1)) (λ row. is_behind (Some (names.Tag from text)) row.0) (λ row. rw less refl) tags

pub tags-past_words : (field : ℕ) (text : List ℕ) (tags : Lists TagHit) → behind (Some (names.Word text)) (field_named field tags) ≡ field_named field tags
tags-past_words field text tags = filter-each (λ row. (names.Tag field row.0, TagList row.1)) (λ row. is_behind (Some (names.Word text)) row.0) (λ row. refl) tags

pub tags-passed_range : (field from : ℕ) (low : ℤ) (tags : Lists TagHit) → behind (Some (names.Range from low)) (field_named field tags) ≡ []
tags-passed_range field from low tags = filter-none (λ row. (names.Tag field row.0, TagList row.1)) (λ row. is_behind (Some (names.Range from low)) row.0) (λ row. refl) tags

-- ---- lists of one kind behind those of another

pub behind-append : (hand : Option ListName) (front back : NamedLists) → behind hand (front ++ back) ≡ behind hand front ++ behind hand back
behind-append hand front back = filter-append (λ row. is_behind hand row.0) front back

-- the front is taken, and the rest stands ahead
pub takes-front : (hand : Option ListName) (front back : NamedLists) (old new : Part) → Takes (behind hand front) old new
    → (rest : NamedLists) → ahead new (behind hand back ++ rest) ≡ ahead old (behind hand (front ++ back) ++ rest)
takes-front hand front back old new takes rest =
    takes (behind hand back ++ rest)
    ∙ ap (ahead old) (sym (append_assoc (behind hand front) (behind hand back) rest) ∙ ap (λ es. es ++ rest) (sym (behind-append hand front back)))

-- where nothing is left, all is taken
pub takes-end : (hand : Option ListName) (left whole : NamedLists) (old new : Part) → left ≡ [] → ((rest : NamedLists) → ahead new (behind hand left ++ rest) ≡ ahead old (whole ++ rest)) → Takes whole old new
takes-end hand left whole old new none before rest = ap (λ es. ahead new (behind hand es ++ rest)) (sym none) ∙ before rest

-- the ranges of the field at an index
pub takes-slot : (hand : Option ListName) (ranges : List (Option Rows)) (k field : ℕ) (slot other : Option Rows) (old new : Part) → k < length ranges → slice_index_or ranges k other ≡ slot → field ≡ k
    → Takes (behind hand (slot_named field slot)) old new
    → (rest : NamedLists) → ahead new (behind hand (slots_named (k + 1) (drop (k + 1) ranges)) ++ rest) ≡ ahead old (behind hand (slots_named k (drop k ranges)) ++ rest)
takes-slot hand ranges k field slot other old new within here one takes rest =
    takes-front hand (slot_named k slot) (slots_named (k + 1) (drop (k + 1) ranges)) old new (subst (λ (n : ℕ). Takes (behind hand (slot_named n slot)) old new) one takes) rest
    ∙ ap (λ left. ahead old (behind hand (slots_named k left) ++ rest)) (sym (drop_more ranges k other within ∙ ap (λ (first : Option Rows). first ∷ drop (k + 1) ranges) here))

-- all kinds of lists
pub takes-all : (hand : Option ListName) (words tags ranges : NamedLists) (start first second last : Part) → start.room ≡ whole_room → start.pictures ≡ []
    → Takes (behind hand words) start first → Takes (behind hand tags) first second → Takes (behind hand ranges) second last
    → map shown last.pictures ≡ parted whole_room (behind hand (words ++ (tags ++ ranges)))
takes-all hand words tags ranges start first second last room none texts marks numbers =
    let w = behind hand words in
    let t = behind hand tags in
    let r = behind hand ranges in
    let whole : w ++ (t ++ (r ++ [])) ≡ behind hand (words ++ (tags ++ ranges)) =
    ap (λ es. w ++ (t ++ es)) (append-nil r) ∙ (ap (λ es. w ++ es) (sym (behind-append hand tags ranges)) ∙ sym (behind-append hand words (tags ++ ranges))) in
    sym (append-nil (map shown last.pictures))
    ∙ (numbers []
    ∙ (marks (r ++ [])
    ∙ (texts (t ++ (r ++ []))
    ∙ (ap (λ all. map shown all ++ parted start.room (w ++ (t ++ (r ++ [])))) none
    ∙ (ap (λ (room : Room). parted room (w ++ (t ++ (r ++ [])))) room
    ∙ ap (parted whole_room) whole)))))

-- ---- what is taken are lists of the index, in their order

module _ (P : ListName × AnyListing → Type 0) where
  all-filtered : (p : ListName × AnyListing → Bool) (rows : NamedLists) → AllByRecursion P rows → AllByRecursion P (filter p rows)
  all-filtered p [] each = tt
  all-filtered p (row ∷ rows) each = elim (cases_Bool (p row)) [
    | inl y ↦ rw y (each.0, all-filtered p rows each.1)
    | inr n ↦ rw n (all-filtered p rows each.1)
  ]

  all-parted : (room : Room) (rows : NamedLists) → AllByRecursion P rows → AllByRecursion P (parted room rows)
  all-parted room [] each = tt
  all-parted room (row ∷ rows) each = elim (cases_Bool (is_spent room)) [
    | inl y ↦ rw y tt
    | inr n ↦ rw n (elim (cases_Bool (picks room (blocks_in row.1))) [
      | inl taken ↦ rw taken (each.0, all-parted (left_by room (blocks_in row.1)) rows each.1)
      | inr passed ↦ rw passed (all-parted (left_by room (blocks_in row.1)) rows each.1)
    ])
  ]

-- each name is before those that follow
abbrev Rises : NamedLists → Type 0
Rises [] = Unit {0}
Rises (row ∷ rows) = AllByRecursion (λ (e : ListName × AnyListing). name_cmp row.0 e.0 ≡ Less) rows × Rises rows

rises-of : (rows : NamedLists) → NamesRise (keys_of rows) → Rises rows
unfolding IsStrictlySortedBy
rises-of [] rise = tt
rises-of (row ∷ rows) rise =
    (all-unmap (λ (e : ListName × AnyListing). e.0) (λ k. name_cmp row.0 k ≡ Less) (λ (e : ListName × AnyListing). name_cmp row.0 e.0 ≡ Less) (λ e less. less) rows rise.0, rises-of rows rise.1)

rise-of : (rows : NamedLists) → Rises rows → NamesRise (keys_of rows)
unfolding IsStrictlySortedBy
rise-of [] rises = tt
rise-of (row ∷ rows) rises =
    (all-map (λ (e : ListName × AnyListing). e.0) (λ k. name_cmp row.0 k ≡ Less) (λ (e : ListName × AnyListing). name_cmp row.0 e.0 ≡ Less) (λ e less. less) rows rises.0, rise-of rows rises.1)

filter-rises : (p : ListName × AnyListing → Bool) (rows : NamedLists) → Rises rows → Rises (filter p rows)
filter-rises p [] rises = tt
filter-rises p (row ∷ rows) rises = elim (cases_Bool (p row)) [
  | inl y ↦ rw y (all-filtered (λ (e : ListName × AnyListing). name_cmp row.0 e.0 ≡ Less) p rows rises.0, filter-rises p rows rises.1)
  | inr n ↦ rw n (filter-rises p rows rises.1)
]

parted-rises : (room : Room) (rows : NamedLists) → Rises rows → Rises (parted room rows)
parted-rises room [] rises = tt
parted-rises room (row ∷ rows) rises = elim (cases_Bool (is_spent room)) [
  | inl y ↦ rw y tt
  | inr n ↦ rw n (elim (cases_Bool (picks room (blocks_in row.1))) [
    | inl taken ↦ rw taken (all-parted (λ (e : ListName × AnyListing). name_cmp row.0 e.0 ≡ Less) (left_by room (blocks_in row.1)) rows rises.0, parted-rises (left_by room (blocks_in row.1)) rows rises.1)
    | inr passed ↦ rw passed (parted-rises (left_by room (blocks_in row.1)) rows rises.1)
  ])
]

shown-keys : (these : List NamedPicture) → keys_of (map shown these) ≡ names_of these
shown-keys [] = refl
shown-keys (named ∷ these) = ap (λ ns. named.name ∷ ns) (shown-keys these)

-- the pictures of a part are the index's
pub part-pictures : (lists : AllLists) (hand : Option ListName) (all : List NamedPicture) → map shown all ≡ parted whole_room (behind hand (all_named lists)) → AreOrdered lists → ArePictures lists all
part-pictures lists hand all is ordered =
    let test = λ (row : ListName × AnyListing). is_behind hand row.0 in
    let rows = all_named lists in
    record {
      own = all-unmap shown (IsOwn lists) (PicturesName lists) (λ named own. own) all
          (subst (AllByRecursion (IsOwn lists)) (sym is) (all-parted (IsOwn lists) whole_room (behind hand rows) (all-filtered (IsOwn lists) test rows (all-own lists ordered))));
      rise = subst NamesRise (ap keys_of (sym is) ∙ shown-keys all)
          (rise-of (parted whole_room (behind hand rows)) (parted-rises whole_room (behind hand rows) (filter-rises test rows (rises-of rows (all-rise lists ordered)))));
    }

-- and those of an empty part
pub no-pictures : (lists : AllLists) (all : List NamedPicture) → all ≡ [] → ArePictures lists all
unfolding IsStrictlySortedBy
no-pictures lists [] none = record { own = tt; rise = tt }
no-pictures lists (named ∷ all) none = absurd (cc (none))

pub empty-part : (lists : AllLists) (all : List NamedPicture) → all ≡ [] → PicturesPart lists all
empty-part lists all none = subst (PicturesPart lists) (sym none) Empty
