-- What a sorted search ranks, and which of its rows come first.
use Rattle.std.specs.Prelude.{◌≡◌, ℕ, ℤ, pos, List, [], ◌∷◌, ◌++◌, length, map, take, drop, Bool, Option}
use Rattle.std.specs.List.{filter_map, flat_map}
use Rattle.std.specs.List.Sorted.{IsStrictlyIncreasing}
use Rattle.ft_base.specs.Docs.{Doc}
use Rattle.ft_base.specs.declared.reply.Reply.{Reply}
use Rattle.ft_base.specs.declared.reply.Reply.TheVariants.{Array, Number}
use Rattle.ft_machine.specs.Counted.{num_or_null}
use Rattle.row_sort.specs.First.{First}
use Rattle.row_sort.specs.Order.{row_order}
use Rattle.row_sort.specs.Sorting.{sorted}
use Rattle.row_sort.specs.declared.order.Direction.{Direction}
use Rattle.row_sort.specs.declared.rows.Ranked.{Ranked}
use Rattle.doc_reads.specs.Ids.{AreKnown, doc_at, docs_in}
use Rattle.doc_reads.specs.Pages.{reads_shown}
use Rattle.doc_reads.specs.Shapes.{row_by, value_by}
use Rattle.doc_reads.specs.declared.shape.Shape.{Shape}
use Rattle.doc_reads.specs.declared.shape.SortKey.{SortKey}

-- the first rows once a row is offered
abbrev pub offered : {T : Type 0} → First T → Ranked T → First T
offered first row = record first { rows = take first.most (sorted (row_order first.by) (first.rows ++ row ∷ [])) }

-- an id with the number that its document is sorted by, and with Null where there is none
abbrev pub ranked_id : (ℕ → Option ℤ) → ℕ → Ranked ℕ
ranked_id number id = record { values = num_or_null (number id) ∷ []; item = id }

-- the first so many ids of some documents, in the order of their numbers
abbrev pub first_ids : (ℕ → Option ℤ) → List Direction → ℕ → List Doc → List (Ranked ℕ)
first_ids number by most docs = take most (sorted (row_order by) (map (λ (doc : Doc). ranked_id number doc.id) docs))

-- Rows are the first of the ids of so many documents, in the order of their numbers.
pub record AreRanked (number : ℕ → Option ℤ) (by : List Direction) (most total : ℕ) (rows : List (Ranked ℕ)) (docs : List Doc)
    : Type 0 where
  pub first : rows ≡ first_ids number by most docs
  pub count : total ≡ length docs

-- All ids of a set were offered, and so many documents have them.
abbrev pub AreAllRanked : (ℕ → Bool) → (ℕ → Option ℤ) → First ℕ → ℕ → First ℕ → Type 0
AreAllRanked has number old total new =
    (docs : List Doc) → IsStrictlyIncreasing (map (λ (doc : Doc). doc.id) docs) → AreKnown has docs
    → AreRanked number old.by old.most total new.rows (docs_in has docs)

-- the documents of ids that are ranked, in the order of the ids
abbrev pub docs_at : List (Ranked ℕ) → List Doc → List Doc
docs_at rows docs = filter_map (λ (row : Ranked ℕ). doc_at row.item docs) rows

-- the reply of so many documents, of which those are shown whose ids are ranked from the window's start on
abbrev pub page_at : Shape → ℕ → List (Ranked ℕ) → List Doc → Reply
page_at shape total rows docs = Array (Number (pos total) ∷ flat_map (row_by shape) (docs_at (drop shape.offset rows) docs))

-- and how many documents are read to show these
abbrev pub reads_at : Shape → List (Ranked ℕ) → List Doc → ℕ
reads_at shape rows docs = reads_shown shape (length (docs_at (drop shape.offset rows) docs))

-- a document as a shape shows it, with the value that it is sorted by
abbrev pub ranked : Shape → SortKey → Doc → Ranked (List Reply)
ranked shape key doc = record { values = value_by key doc ∷ []; item = row_by shape doc }

-- the first so many of some documents, as a shape shows them, in the order of a key
abbrev pub first_ranked : Shape → SortKey → ℕ → List Doc → List (Ranked (List Reply))
first_ranked shape key most docs = take most (sorted (row_order (key.by ∷ [])) (map (ranked shape key) docs))

-- the reply of so many documents, of which the rows from an offset on are shown
abbrev pub page_from : ℕ → ℕ → List (Ranked (List Reply)) → Reply
page_from offset total rows = Array (Number (pos total) ∷ flat_map (λ (row : Ranked (List Reply)). row.item) (drop offset rows))
