-- The documents of the first ids, in the order of numbers that stand for what a key sees, are those of the window.
use Rattle.std.proofs.Common.{◌≡◌, ◌+◌, ℕ, suc, zero, Bool, true, false, List, [], ◌∷◌, ◌++◌, length, map, take, drop, min, Ordering, is_lt, refl, sym, ap, ◌∙◌, inl, inr, arith, append_assoc, length-append}
use Rattle.std.specs.Prelude.{◌-◌, Err, IfOk, IsOk, Ok, OnOk, Result, ℤ, Option, None, Some, nat_eq, option_map, option_to_list, pos, if◌then◌else◌}
use Rattle.std.specs.List.{AllByRecursion, cons_option, drop-map, flat_map, take-map}
use Rattle.std.specs.List.Sorted.{IsStrictlyIncreasing, IsStrictlySortedBy}
use Rattle.std.specs.Ordering.{nat_cmp}
use Rattle.std.specs.declared.cmp.Ordering.TheVariants as order
use Rattle.std.proofs.lemmas.Bool.{cases_Bool, eq-eqb, eqb-true}
use Rattle.std.proofs.lemmas.Bool.Decides.{nat_tests}
use Rattle.std.proofs.Math.Seq.{take-nil}
use Rattle.std.proofs.lemmas.Grind.{flat_map-append}
use Rattle.std.proofs.lemmas.List.{drop-take, length-drop, length-take, length_push, map-append}
use Rattle.std.proofs.lemmas.List.Elements.{filter_map-append}
use Rattle.std.proofs.lemmas.Map.Keys.{sorted_from_strictly_increasing, sorted_head, sorted_tail}
use Rattle.cursor_book.proofs.EachLaws.{each-filter, each-passes}
use Rattle.ft_base.specs.Docs.{Doc}
use Rattle.ft_base.specs.declared.reply.Reply.{Reply}
use Rattle.ft_base.specs.declared.reply.Reply.TheVariants.{Array, Bulk, Number}
use Rattle.ft_machine.specs.Counted.{num_or_null}
use Rattle.hash_store.specs.Store.{Store, reads_after}
use Rattle.id_iters.specs.Least.{IsLeastAt}
use Rattle.row_sort.proofs.OrderLaws.{row_weak}
use Rattle.row_sort.proofs.SortingLaws.{first-push, length-sorted}
use Rattle.row_sort.specs.First.{First}
use Rattle.row_sort.specs.Order.{row_order, value_order}
use Rattle.row_sort.specs.Sorting.{placed, sorted}
use Rattle.row_sort.specs.declared.order.Direction.{Direction}
use Rattle.row_sort.specs.declared.rows.Ranked.{Ranked}
use Rattle.doc_reads.proofs.AskLaws.{IsAsked, asked-next}
use Rattle.search_exec.proofs.FieldLaws.{sorted-map, then-alone}
use Rattle.doc_reads.specs.Ids.{AreKnown, doc_at, docs_in}
use Rattle.doc_reads.specs.Pages.{reads_of, reads_shown}
use Rattle.search_exec.specs.Ranks.{AreRanked, docs_at, first_ids, offered, page_at, ranked_id, reads_at}
use Rattle.doc_reads.specs.Shapes.{order_by, page_by, row_by, value_by}
use Rattle.doc_reads.specs.declared.shape.Shape.{Shape}
use Rattle.doc_reads.specs.declared.shape.SortKey.{SortKey}

-- ---- the ids that were offered

-- at first none
pub ranked-none : (number : ℕ → Option ℤ) (by : List Direction) (most : ℕ) (rows : List (Ranked ℕ)) → rows ≡ [] → AreRanked number by most 0 rows []
ranked-none number by most rows none = record { first = none ∙ sym (take-nil most); count = refl }

-- the id of a document that is found by it
found-id : (id : ℕ) (docs : List Doc) (doc : Doc) → doc_at id docs ≡ Some doc → id ≡ doc.id
found-id id [] doc found = absurd cc
found-id id (first ∷ docs) doc found =
    elim (cases_Bool (nat_eq id first.id)) [
      | inl here ↦
          let said : ◌≡◌ {A = Option Doc} (Some first) (Some doc) = rw here at found in
          let same : first ≡ doc = cc (said) in
          eqb-true id first.id here ∙ ap (λ (doc : Doc). doc.id) same
      | inr away ↦ found-id id docs doc (rw away at found)
    ]

-- one more
ranked-next : (number : ℕ → Option ℤ) (by : List Direction) (most total : ℕ) (old new : List (Ranked ℕ)) (docs : List Doc) (doc : Doc)
    → new ≡ take most (sorted (row_order by) (old ++ ranked_id number doc.id ∷ [])) → AreRanked number by most total old docs → AreRanked number by most (total + 1) new (docs ++ doc ∷ [])
ranked-next number by most total old new docs doc taken ranked =
    let row = λ (doc : Doc). ranked_id number doc.id in
    record {
      first =
          taken
          ∙ (ap (λ rows. take most (sorted (row_order by) (rows ++ row doc ∷ []))) ranked.first
          ∙ (first-push (row_order by) (row_weak by) most (map row docs) (row doc)
          ∙ ap (λ rows. take most (sorted (row_order by) rows)) (sym (map-append row docs (doc ∷ [])))));
      count = omega (arith, ranked.count, length_push docs doc);
    }

-- An id that is answered is offered.
pub ranked-asked : (number : ℕ → Option ℤ) (by : List Direction) (most total : ℕ) (old new : First ℕ) (has : ℕ → Bool) (docs : List Doc) (from id : ℕ)
    → new ≡ offered old (ranked_id number id) → old.most ≡ most → old.by ≡ by
    → IsStrictlyIncreasing (map (λ (doc : Doc). doc.id) docs) → AreKnown has docs → IsLeastAt has from id
    → IsAsked (AreRanked number by most total old.rows) has docs from → IsAsked (AreRanked number by most (total + 1) new.rows) has docs (id + 1)
ranked-asked number by most total old new has docs from id is is_most is_by rise known least asked =
    let taken : new.rows ≡ take most (sorted (row_order by) (old.rows ++ ranked_id number id ∷ [])) =
    ap (λ (first : First ℕ). first.rows) is ∙ (λ i. take (is_most i) (sorted (row_order (is_by i)) (old.rows ++ ranked_id number id ∷ []))) in
    asked-next (AreRanked number by most total old.rows) (AreRanked number by most (total + 1) new.rows) has docs from id rise least (known.stored id least.passes)
    (λ (so_far : List Doc) (doc : Doc) (found : doc_at id docs ≡ Some doc).
    ranked-next number by most total old.rows new.rows so_far doc
    (taken ∙ ap (λ (id : ℕ). take most (sorted (row_order by) (old.rows ++ ranked_id number id ∷ []))) (found-id id docs doc found)))
    asked

-- ---- what holds of each document

module _ {A : Type 0} (P : A → Type 0) where
  each-placed : (order : A → A → Ordering) (x : A) (ys : List A) → P x → AllByRecursion P ys → AllByRecursion P (placed order x ys)
  each-placed order x [] holds all = (holds, tt)
  each-placed order x (y ∷ ys) holds all =
      elim (cases_Bool (is_lt (order y x))) [
        | inl past ↦ rw past (all.0, each-placed order x ys holds all.1)
        | inr here ↦ rw here (holds, all)
      ]

  each-sorted : (order : A → A → Ordering) (xs : List A) → AllByRecursion P xs → AllByRecursion P (sorted order xs)
  each-sorted order [] all = tt
  each-sorted order (x ∷ xs) all = each-placed order x (sorted order xs) all.0 (each-sorted order xs all.1)

  each-take : (most : ℕ) (xs : List A) → AllByRecursion P xs → AllByRecursion P (take most xs)
  each-take zero xs all = tt
  each-take (suc most) [] all = tt
  each-take (suc most) (x ∷ xs) all = (all.0, each-take most xs all.1)

  each-drop : (most : ℕ) (xs : List A) → AllByRecursion P xs → AllByRecursion P (drop most xs)
  each-drop zero xs all = all
  each-drop (suc most) [] all = tt
  each-drop (suc most) (x ∷ xs) all = each-drop most xs all.1

-- Each is found by its id.
abbrev AreFound : List Doc → List Doc → Type 0
AreFound docs some = AllByRecursion (λ (doc : Doc). doc_at doc.id docs ≡ Some doc) some

found-behind : (first : Doc) (docs some : List Doc) → AllByRecursion (λ id. nat_cmp first.id id ≡ order.Less) (map (λ (doc : Doc). doc.id) some) → AreFound docs some → AreFound (first ∷ docs) some
found-behind first docs [] less all = tt
found-behind first docs (doc ∷ some) less all =
    let below : nat_cmp first.id doc.id ≡ order.Less = less.0 in
    let apart : nat_eq doc.id first.id ≡ false = grind (arith, nat_tests) in
    (rw apart all.0, found-behind first docs some less.1 all.1)

own-found : (docs : List Doc) → IsStrictlySortedBy nat_cmp (map (λ (doc : Doc). doc.id) docs) → AreFound docs docs
own-found [] rise = tt
own-found (doc ∷ docs) rise =
    let ids = map (λ (doc : Doc). doc.id) docs in
    (rw (eq-eqb doc.id doc.id refl) refl, found-behind doc docs docs (sorted_head nat_cmp doc.id ids rise) (own-found docs (sorted_tail nat_cmp doc.id ids rise)))

-- ---- the order

-- an id with what a key sees of its document
abbrev id_seen : SortKey → Doc → Ranked ℕ
id_seen key doc = record { values = value_by key doc ∷ []; item = doc.id }

rows-seen : (key : SortKey) (number : ℕ → Option ℤ) (has : ℕ → Bool) (space docs : List Doc)
    → ((id : ℕ) (doc : Doc) → has id ≡ true → doc_at id space ≡ Some doc → num_or_null (number id) ≡ value_by key doc)
    → AllByRecursion (λ (doc : Doc). has doc.id ≡ true) docs → AreFound space docs → map (λ (doc : Doc). ranked_id number doc.id) docs ≡ map (id_seen key) docs
rows-seen key number has space [] seen have found = refl
rows-seen key number has space (doc ∷ docs) seen have found = λ i.
    record { values = seen doc.id doc have.0 found.0 i ∷ []; item = doc.id } ∷ rows-seen key number has space docs seen have.1 found.1 i

sorted-seen : (key : SortKey) (docs : List Doc) → sorted (row_order (key.by ∷ [])) (map (id_seen key) docs) ≡ map (id_seen key) (order_by key docs)
sorted-seen key docs =
    sorted-map (id_seen key) (λ (left right : Doc). value_order key.by (value_by key left) (value_by key right)) (row_order (key.by ∷ []))
    (λ left right. then-alone (value_order key.by (value_by key left) (value_by key right))) docs

docs-own : (key : SortKey) (space docs : List Doc) → AreFound space docs → docs_at (map (id_seen key) docs) space ≡ docs
docs-own key space [] found = refl
docs-own key space (doc ∷ docs) found =
    ap (λ (first : Option Doc). cons_option first (docs_at (map (id_seen key) docs) space)) found.0 ∙ ap (λ (rest : List Doc). doc ∷ rest) (docs-own key space docs found.1)

-- The documents of the first ids up to a window's end, without those before it, are those of the window.
pub window-found : (key : SortKey) (number : ℕ → Option ℤ) (has : ℕ → Bool) (space : List Doc) (offset num : ℕ) → IsStrictlyIncreasing (map (λ (doc : Doc). doc.id) space)
    → ((id : ℕ) (doc : Doc) → has id ≡ true → doc_at id space ≡ Some doc → num_or_null (number id) ≡ value_by key doc)
    → docs_at (drop offset (first_ids number (key.by ∷ []) (offset + num) (docs_in has space))) space ≡ take num (drop offset (order_by key (docs_in has space)))
window-found key number has space offset num rise seen =
    let docs = docs_in has space in
    let in_order : List Doc = order_by key docs in
    let own : AreFound space docs =
    each-filter (λ (doc : Doc). doc_at doc.id space ≡ Some doc) (λ (doc : Doc). has doc.id) space (own-found space (sorted_from_strictly_increasing (map (λ (doc : Doc). doc.id) space) rise)) in
    let same : map (λ (doc : Doc). ranked_id number doc.id) docs ≡ map (id_seen key) docs = rows-seen key number has space docs seen (each-passes (λ (doc : Doc). has doc.id) space) own in
    let window : drop offset (first_ids number (key.by ∷ []) (offset + num) docs) ≡ map (id_seen key) (take num (drop offset in_order)) =
    drop-take offset num (sorted (row_order (key.by ∷ [])) (map (λ (doc : Doc). ranked_id number doc.id) docs))
    ∙ (ap (λ rows. take num (drop offset (sorted (row_order (key.by ∷ [])) rows))) same
    ∙ (ap (λ rows. take num (drop offset rows)) (sorted-seen key docs)
    ∙ (ap (take num) (drop-map (id_seen key) offset in_order)
    ∙ take-map (id_seen key) num (drop offset in_order)))) in
    ap (λ rows. docs_at rows space) window
    ∙ docs-own key space (take num (drop offset in_order))
    (each-take (λ (doc : Doc). doc_at doc.id space ≡ Some doc) num (drop offset in_order)
    (each-drop (λ (doc : Doc). doc_at doc.id space ≡ Some doc) offset in_order
    (each-sorted (λ (doc : Doc). doc_at doc.id space ≡ Some doc) (λ (left right : Doc). value_order key.by (value_by key left) (value_by key right)) docs own)))

-- ---- what is shown

-- the documents of one more id
pub docs_at-more : (rows : List (Ranked ℕ)) (row : Ranked ℕ) (docs : List Doc) → docs_at (rows ++ row ∷ []) docs ≡ docs_at rows docs ++ option_to_list (doc_at row.item docs)
docs_at-more rows row docs =
    filter_map-append (λ (row : Ranked ℕ). doc_at row.item docs) rows (row ∷ []) ∙ ap (λ (more : List Doc). docs_at rows docs ++ more) (one (doc_at row.item docs))
  where
    one : (found : Option Doc) → cons_option found [] ≡ option_to_list found
    one None = refl
    one (Some doc) = refl

-- the replies once the document of one more id is shown
pub shown-next : (shape : Shape) (rows : List (Ranked ℕ)) (row : Ranked ℕ) (space now : List Doc) (old new first : List Reply) → now ≡ space
    → old ≡ first ++ flat_map (row_by shape) (docs_at rows space) → new ≡ old ++ flat_map (row_by shape) (option_to_list (doc_at row.item now))
    → new ≡ first ++ flat_map (row_by shape) (docs_at (rows ++ row ∷ []) space)
shown-next shape rows row space now old new first same was next =
    let more = option_to_list (doc_at row.item space) in
    next
    ∙ ((λ i. was i ++ flat_map (row_by shape) (option_to_list (doc_at row.item (same i))))
    ∙ (append_assoc first (flat_map (row_by shape) (docs_at rows space)) (flat_map (row_by shape) more)
    ∙ ap (λ (replies : List Reply). first ++ replies)
    (sym (flat_map-append (row_by shape) (docs_at rows space) more) ∙ ap (flat_map (row_by shape)) (sym (docs_at-more rows row space)))))

reads-both : (none : Bool) (start first more : ℕ)
    → reads_after (reads_after start (if none then 0 else first)) (if none then 0 else more) ≡ reads_after start (if none then 0 else first + more)
reads-both true start first more = omega arith
reads-both false start first more = omega arith

-- and how many are read then
pub reads-next : (shape : Shape) (rows : List (Ranked ℕ)) (row : Ranked ℕ) (first old new : Store)
    → old ≡ record first { reads = reads_after first.reads (reads_shown shape (length (docs_at rows first.space))) }
    → new ≡ record old { reads = reads_after old.reads (reads_shown shape (length (option_to_list (doc_at row.item old.space)))) }
    → new ≡ record first { reads = reads_after first.reads (reads_shown shape (length (docs_at (rows ++ row ∷ []) first.space))) }
reads-next shape rows row first old new was next =
    let more = option_to_list (doc_at row.item first.space) in
    next
    ∙ ((λ i. record (was i) { reads = reads_after ((was i).reads) (reads_shown shape (length (option_to_list (doc_at row.item ((was i).space))))) })
    ∙ ap (λ (reads : ℕ). record first { reads = reads })
    (reads-both shape.no_content first.reads (length (docs_at rows first.space)) (length more)
    ∙ ap (λ (n : ℕ). reads_after first.reads (reads_shown shape n)) (sym (length-append (docs_at rows first.space) more) ∙ ap length (sym (docs_at-more rows row first.space)))))

-- shown by its key alone
pub key-shown : (shape : Shape) (found : Option Doc) → shape.no_content ≡ true
    → map Bulk (option_to_list (option_map (λ (doc : Doc). doc.key) found)) ≡ flat_map (row_by shape) (option_to_list found)
key-shown shape None keys = refl
key-shown shape (Some doc) keys = rw keys refl

-- ---- the page

shown-length : (key : SortKey) (docs : List Doc) (offset num : ℕ) → length (take num (drop offset (order_by key docs))) ≡ min num (length docs - offset)
shown-length key docs offset num =
    length-take num (drop offset (order_by key docs))
    ∙ ap (min num) (length-drop offset (order_by key docs)
    ∙ ap (λ (n : ℕ). n - offset) (length-sorted (λ (left right : Doc). value_order key.by (value_by key left) (value_by key right)) docs))

module _ (shape : Shape) (key : SortKey) (number : ℕ → Option ℤ) (has : ℕ → Bool) (space : List Doc) (rise : IsStrictlyIncreasing (map (λ (doc : Doc). doc.id) space))
    (known : AreKnown has space) (seen : (id : ℕ) (doc : Doc) → has id ≡ true → doc_at id space ≡ Some doc → num_or_null (number id) ≡ value_by key doc) where
  -- the documents of those that were offered first are those of the window
  offered-shown : (total : ℕ) (rows : List (Ranked ℕ)) (old : First ℕ) → old.by ≡ key.by ∷ [] → old.most ≡ shape.offset + shape.num
      → AreRanked number old.by old.most total rows (docs_in has space) → docs_at (drop shape.offset rows) space ≡ take shape.num (drop shape.offset (order_by key (docs_in has space)))
  offered-shown total rows old by most ranked =
      ap (λ rows. docs_at (drop shape.offset rows) space) (ranked.first ∙ λ i. first_ids number (by i) (most i) (docs_in has space))
      ∙ window-found key number has space shape.offset shape.num rise seen

  -- What is shown of the first ids, as they were handed out, is the reply.
  pub column-page : {E F : Type 0} (made : Result Reply E) (offered : Result ℕ F) (rows : List (Ranked ℕ)) (old : First ℕ) → old.by ≡ key.by ∷ [] → old.most ≡ shape.offset + shape.num
      → IfOk made (λ reply. IsOk offered)
      → IfOk made (λ reply. IfOk offered (λ total. reply ≡ page_at shape total rows space))
      → IfOk offered (λ total. (docs : List Doc) → IsStrictlyIncreasing (map (λ (doc : Doc). doc.id) docs) → AreKnown has docs → AreRanked number old.by old.most total rows (docs_in has docs))
      → IfOk made (λ reply. reply ≡ page_by shape (order_by key (docs_in has space)))
  column-page (Ok reply) (Ok total) rows old by most all each ids =
      let ranked : AreRanked number old.by old.most total rows (docs_in has space) = ids space rise known in
      let shown = offered-shown total rows old by most ranked in
      let count : total ≡ length (order_by key (docs_in has space)) =
      ranked.count ∙ sym (length-sorted (λ (left right : Doc). value_order key.by (value_by key left) (value_by key right)) (docs_in has space)) in
      each ∙ λ i. Array (Number (pos (count i)) ∷ flat_map (row_by shape) (shown i))
  column-page (Ok reply) (Err f) rows old by most all each ids = cc (all)
  column-page (Err e) offered rows old by most all each ids = tt

  -- and as many documents are read as are shown with their fields
  pub column-reads : {E F : Type 0} (made : Result Reply E) (offered : Result ℕ F) (rows : List (Ranked ℕ)) (old : First ℕ) (before after : ℕ) → old.by ≡ key.by ∷ []
      → old.most ≡ shape.offset + shape.num → IfOk made (λ reply. IsOk offered)
      → OnOk made (after ≡ reads_after before (reads_at shape rows space))
      → IfOk offered (λ total. (docs : List Doc) → IsStrictlyIncreasing (map (λ (doc : Doc). doc.id) docs) → AreKnown has docs → AreRanked number old.by old.most total rows (docs_in has docs))
      → OnOk made (after ≡ reads_after before (reads_of shape (length (docs_in has space))))
  column-reads (Ok reply) (Ok total) rows old before after by most all each ids =
      let shown = offered-shown total rows old by most (ids space rise known) in
      each ∙ ap (λ (n : ℕ). reads_after before (reads_shown shape n)) (ap length shown ∙ shown-length key (docs_in has space) shape.offset shape.num)
  column-reads (Ok reply) (Err f) rows old before after by most all each ids = cc (all)
  column-reads (Err e) offered rows old before after by most all each ids = tt
