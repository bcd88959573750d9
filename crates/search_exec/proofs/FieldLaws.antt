-- The first rows of all that are ranked are the rows of the first documents in the order of a key.
use Rattle.std.proofs.Common.{◌≡◌, ℕ, ◌+◌, List, [], ◌∷◌, ◌++◌, length, map, take, drop, Ordering, Less, Equal, Greater, is_lt, refl, sym, ap, ◌∙◌, inl, inr, arith, append-nil}
use Rattle.std.specs.Prelude.{Err, IfOk, IsOk, Ok, OnOk, Result, pos}
use Rattle.std.specs.List.{drop-map, flat_map, take-map}
use Rattle.std.specs.Ordering.{ordering_then}
use Rattle.std.proofs.lemmas.Bool.{cases_Bool}
use Rattle.std.proofs.Math.Seq.{take-nil}
use Rattle.std.proofs.lemmas.Grind.{flat_map-append}
use Rattle.std.proofs.lemmas.List.{drop-take, length_push, map-append}
use Rattle.std.proofs.lemmas.Result.{IfOk-weaker}
use Rattle.ft_base.specs.Docs.{Doc}
use Rattle.ft_base.specs.declared.reply.Reply.{Reply}
use Rattle.ft_base.specs.declared.reply.Reply.TheVariants.{Array, Number}
use Rattle.row_sort.proofs.OrderLaws.{row_weak}
use Rattle.row_sort.proofs.SortingLaws.{first-push, length-sorted}
use Rattle.row_sort.specs.Order.{row_order, value_order}
use Rattle.row_sort.specs.Sorting.{placed, sorted}
use Rattle.row_sort.specs.declared.rows.Ranked.{Ranked}
use Rattle.search_exec.specs.Ranks.{first_ranked, page_from, ranked}
use Rattle.doc_reads.specs.Shapes.{order_by, page_by, row_by, value_by}
use Rattle.doc_reads.specs.declared.shape.Shape.{Shape}
use Rattle.doc_reads.specs.declared.shape.SortKey.{SortKey}

-- where nothing comes later, the first decides
pub then-alone : (order : Ordering) → ordering_then order Equal ≡ order
then-alone Less = refl
then-alone Equal = refl
then-alone Greater = refl

-- Values are placed, and put in order, as what they are mapped to is.
module _ {A B : Type 0} (f : A → B) (low : A → A → Ordering) (high : B → B → Ordering) (same : (x y : A) → high (f x) (f y) ≡ low x y) where
  placed-map : (x : A) (ys : List A) → placed high (f x) (map f ys) ≡ map f (placed low x ys)
  placed-map x [] = refl
  placed-map x (y ∷ ys) =
      elim (cases_Bool (is_lt (low y x))) [
        | inl past ↦ rw (same y x, past, placed-map x ys) refl
        | inr here ↦ rw (same y x, here) refl
      ]

  pub sorted-map : (xs : List A) → sorted high (map f xs) ≡ map f (sorted low xs)
  sorted-map [] = refl
  sorted-map (x ∷ xs) = ap (placed high (f x)) (sorted-map xs) ∙ placed-map x (sorted low xs)

-- the items of rows, once there is one more
pub items-more : (rows : List (Ranked (List Reply))) (row : Ranked (List Reply)) → flat_map (λ (row : Ranked (List Reply)). row.item) (rows ++ row ∷ []) ≡ flat_map (λ (row : Ranked (List Reply)). row.item) rows ++ row.item
items-more rows row =
    flat_map-append (λ (row : Ranked (List Reply)). row.item) rows (row ∷ [])
    ∙ ap (λ (more : List Reply). flat_map (λ (row : Ranked (List Reply)). row.item) rows ++ more) (append-nil row.item)

-- the items of ranked rows are the rows
items-ranked : (shape : Shape) (key : SortKey) (docs : List Doc) → flat_map (λ (row : Ranked (List Reply)). row.item) (map (ranked shape key) docs) ≡ flat_map (row_by shape) docs
items-ranked shape key [] = refl
items-ranked shape key (doc ∷ docs) = ap (λ (rest : List Reply). row_by shape doc ++ rest) (items-ranked shape key docs)

-- ranked rows are in the order of their documents
sorted-ranked : (shape : Shape) (key : SortKey) (docs : List Doc) → sorted (row_order (key.by ∷ [])) (map (ranked shape key) docs) ≡ map (ranked shape key) (order_by key docs)
sorted-ranked shape key docs =
    sorted-map (ranked shape key) (λ (left right : Doc). value_order key.by (value_by key left) (value_by key right)) (row_order (key.by ∷ []))
    (λ left right. then-alone (value_order key.by (value_by key left) (value_by key right))) docs

-- The first rows up to a window's end, without those before it, are those of the window.
pub window-shown : (shape : Shape) (key : SortKey) (offset num : ℕ) (docs : List Doc)
    → flat_map (λ (row : Ranked (List Reply)). row.item) (drop offset (first_ranked shape key (offset + num) docs)) ≡ flat_map (row_by shape) (take num (drop offset (order_by key docs)))
window-shown shape key offset num docs =
    let in_order : List Doc = order_by key docs in
    let items = λ (rows : List (Ranked (List Reply))). flat_map (λ (row : Ranked (List Reply)). row.item) rows in
    ap items (drop-take offset num (sorted (row_order (key.by ∷ [])) (map (ranked shape key) docs)))
    ∙ (ap (λ rows. items (take num (drop offset rows))) (sorted-ranked shape key docs)
    ∙ (ap (λ rows. items (take num rows)) (drop-map (ranked shape key) offset in_order)
    ∙ (ap items (take-map (ranked shape key) num (drop offset in_order))
    ∙ items-ranked shape key (take num (drop offset in_order)))))

-- What is made of the first rows, as they were handed out, is the reply.
pub page-made : {E : Type 0} (made : Result Reply E) (shape : Shape) (key : SortKey) (docs : List Doc) (total most : ℕ) (rows first : List (Ranked (List Reply)))
    → IfOk made (λ reply. reply ≡ page_from shape.offset total rows)
    → total ≡ length docs → rows ≡ first → first ≡ first_ranked shape key most docs → most ≡ shape.offset + shape.num → IfOk made (λ reply. reply ≡ page_by shape (order_by key docs))
page-made made shape key docs total most rows first each count handed offered window =
    let items = λ (rows : List (Ranked (List Reply))). flat_map (λ (row : Ranked (List Reply)). row.item) (drop shape.offset rows) in
    let number : total ≡ length (order_by key docs) = count ∙ sym (length-sorted (λ (left right : Doc). value_order key.by (value_by key left) (value_by key right)) docs) in
    let shown : items rows ≡ flat_map (row_by shape) (take shape.num (drop shape.offset (order_by key docs))) =
    ap items (handed ∙ (offered ∙ ap (λ (most : ℕ). first_ranked shape key most docs) window)) ∙ window-shown shape key shape.offset shape.num docs in
    IfOk-weaker made _ _
    (λ reply same. same ∙ (ap (λ (n : ℕ). Array (Number (pos n) ∷ items rows)) number
    ∙ ap (λ (replies : List Reply). Array (Number (pos (length (order_by key docs))) ∷ replies)) shown)) each

-- and a page is made only where all were offered
pub page-offered : {E F : Type 0} (made : Result Reply E) (offered : Result ℕ F) (shape : Shape) (key : SortKey) (docs : List Doc) (most : ℕ) (rows : List (Ranked (List Reply))) → IfOk made (λ reply. IsOk offered)
    → IfOk made (λ reply. IfOk offered (λ total. reply ≡ page_from shape.offset total rows))
    → IfOk offered (λ total. total ≡ length docs) → OnOk offered (rows ≡ first_ranked shape key most docs) → most ≡ shape.offset + shape.num → IfOk made (λ reply. reply ≡ page_by shape (order_by key docs))
page-offered {E = E} (Ok reply) (Ok total) shape key docs most rows all each count rank window = page-made {E = E} (Ok reply) shape key docs total most rows rows each count refl rank window
page-offered (Ok reply) (Err f) shape key docs most rows all each count rank window = cc (all)
page-offered (Err e) offered shape key docs most rows all each count rank window = tt

-- The rows of so many documents were offered.
pub record AreOffered (shape : Shape) (key : SortKey) (most total : ℕ) (rows : List (Ranked (List Reply))) (docs : List Doc) : Type 0 where
  pub ranked_first : rows ≡ first_ranked shape key most docs
  pub count : total ≡ length docs

-- at first nothing is offered
pub offered-none : (shape : Shape) (key : SortKey) (most : ℕ) (rows : List (Ranked (List Reply))) → rows ≡ [] → AreOffered shape key most 0 rows []
offered-none shape key most rows none = record { ranked_first = none ∙ sym (take-nil most); count = refl }

-- one more row is taken in
more-ranked : (shape : Shape) (key : SortKey) (most : ℕ) (docs : List Doc) (doc : Doc)
    → take most (sorted (row_order (key.by ∷ [])) (first_ranked shape key most docs ++ ranked shape key doc ∷ [])) ≡ first_ranked shape key most (docs ++ doc ∷ [])
more-ranked shape key most docs doc =
    first-push (row_order (key.by ∷ [])) (row_weak (key.by ∷ [])) most (map (ranked shape key) docs) (ranked shape key doc)
    ∙ ap (λ rows. take most (sorted (row_order (key.by ∷ [])) rows)) (sym (map-append (ranked shape key) docs (doc ∷ [])))

pub offered-next : (shape : Shape) (key : SortKey) (most total : ℕ) (old new : List (Ranked (List Reply))) (docs : List Doc) (doc : Doc)
    → new ≡ take most (sorted (row_order (key.by ∷ [])) (old ++ ranked shape key doc ∷ [])) → AreOffered shape key most total old docs → AreOffered shape key most (total + 1) new (docs ++ doc ∷ [])
offered-next shape key most total old new docs doc taken offered = record {
  ranked_first =
      taken
      ∙ (ap (λ rows. take most (sorted (row_order (key.by ∷ [])) (rows ++ ranked shape key doc ∷ []))) offered.ranked_first
      ∙ more-ranked shape key most docs doc);
  count = omega (arith, offered.count, length_push docs doc);
}
