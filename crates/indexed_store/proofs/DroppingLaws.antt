-- An index that is dropped, and the documents of its live rows.
use Rattle.std.specs.Prelude.{◌≡◌, ◌<◌, ℕ, Bool, true, false, cond, List, [], ◌∷◌, Option, None, Some, find, fold, length, map, nat_eq, nat_le, refl}
use Rattle.std.specs.List.{All, AllPairs}
use Rattle.std.specs.Map.{remove_entry}
use Rattle.std.specs.Option.{option_map}
use Rattle.std.proofs.Common.{sym, ap, ◌∙◌, subst, arith}
use Rattle.std.proofs.lemmas.Bool.Decides.{nat_tests}
use Rattle.doc_table.specs.Table.{Vector}
use Rattle.ft_base.specs.declared.definition.IndexDef.{IndexDef}
use Rattle.ft_base.specs.Docs.{Doc}
use Rattle.ft_index.proofs.AliveLaws.{same-yes}
use Rattle.ft_index.specs.Index.{Index}
use Rattle.ft_meaning.specs.Member.{member, members}
use Rattle.ft_meaning.specs.Sortable.{sorting_vector}
use Rattle.hash_store.specs.Erasing.{erase_id}
use Rattle.hash_store.specs.Store.{Store}
use Rattle.ft_machine.specs.Definitions.{Defined, index_of, without_members}
use Rattle.indexed_store.specs.DefinitionsOf.{defined, definitions_of}
use Rattle.indexed_store.specs.Named.{is_named, without_named}
use Rattle.indexed_store.specs.Standing.{AreApart, AreWritten, IndexStands, InStep, markers_at}
use Rattle.indexed_store.proofs.ApartLaws.{apart-others}
use Rattle.indexed_store.proofs.KeysLaws.{ids-keys}
use Rattle.indexed_store.proofs.NamedLaws.{index_of-named, named-has, others-have}

-- the indexes but one
pub in_step-others : (store : Store) (indexes now : List Index) (name : List ℕ) (next : ℕ) → now ≡ without_named indexes name → InStep store indexes next → InStep store now next
in_step-others store indexes now name next is step = record {
  last = step.last;
  documents = step.documents;
  stand = subst (All (IndexStands store.space next (markers_at next))) (sym is) (others-have (IndexStands store.space next (markers_at next)) indexes name step.stand);
  apart = subst (AllPairs AreApart) (sym is) (apart-others indexes name step.apart);
}

-- the row of the least live id is the first one
pub record IsFirst (live : List (ℕ × Vector)) (id : ℕ) (vector : Vector) : Type 0 where
  pub whole : live ≡ (id, vector) ∷ remove_entry (nat_eq id) live

first-row : (live : List (ℕ × Vector)) (id : ℕ) → find (λ n. nat_le 0 n) (map (λ row. row.0) live) ≡ Some id → (vector : Vector) × IsFirst live id vector
first-row [] id found = cc (found)
first-row (row ∷ live) id found = by_test (nat_le 0 row.0) (grind (arith, nat_tests)) found
  where
    by_test : (least : Bool) → least ≡ true → cond least (Some row.0) (find (λ n. nat_le 0 n) (map (λ row. row.0) live)) ≡ Some id → (vector : Vector) × IsFirst (row ∷ live) id vector
    by_test true least found =
        let same : row.0 ≡ id = cc (found) in
        subst (λ n. (vector : Vector) × IsFirst (row ∷ live) n vector) same (row.1, record { whole = rw (same-yes row.0) refl })
    by_test false least found = cc (least)

-- its document is removed
pub row-removed : (live now : List (ℕ × Vector)) (id : ℕ) (docs left : List Doc) → find (λ n. nat_le 0 n) (map (λ row. row.0) live) ≡ Some id
    → now ≡ remove_entry (nat_eq id) live → left ≡ erase_id docs id → fold erase_id left (map (λ row. row.0) now) ≡ fold erase_id docs (map (λ row. row.0) live)
row-removed live now id docs left found gone out =
    let first = first-row live id found in
    ap (λ (rows : List (ℕ × Vector)). fold erase_id left (map (λ row. row.0) rows)) gone
    ∙ (ap (λ (d : List Doc). fold erase_id d (map (λ row. row.0) (remove_entry (nat_eq id) live))) out ∙ ap (λ (rows : List (ℕ × Vector)). fold erase_id docs (map (λ row. row.0) rows)) (sym first.1.whole))

pub row-fewer : (live now : List (ℕ × Vector)) (id : ℕ) → find (λ n. nat_le 0 n) (map (λ row. row.0) live) ≡ Some id → now ≡ remove_entry (nat_eq id) live → length now < length live
row-fewer live now id found gone = let first = first-row live id found in omega (arith, ap length gone, ap length first.1.whole)

-- no live row is left
pub no-row : (live : List (ℕ × Vector)) → find (λ n. nat_le 0 n) (map (λ row. row.0) live) ≡ None → live ≡ []
no-row [] none = refl
no-row (row ∷ live) none = by_test (nat_le 0 row.0) (grind (arith, nat_tests)) none
  where
    by_test : (least : Bool) → least ≡ true → cond least (Some row.0) (find (λ n. nat_le 0 n) (map (λ row. row.0) live)) ≡ None → row ∷ live ≡ []
    by_test true least none = cc (none)
    by_test false least none = cc (least)

pub rows-removed : (live : List (ℕ × Vector)) (docs all : List Doc) (ids : List ℕ) → find (λ n. nat_le 0 n) (map (λ row. row.0) live) ≡ None
    → fold erase_id docs (map (λ row. row.0) live) ≡ fold erase_id all ids → docs ≡ fold erase_id all ids
rows-removed live docs all ids none left = ap (λ (rows : List (ℕ × Vector)). fold erase_id docs (map (λ row. row.0) rows)) (sym (no-row live none)) ∙ left

ids-of_rows : (def : IndexDef) (docs : List Doc) → map (λ (row : ℕ × Vector). row.0) (map (λ (doc : Doc). (doc.id, sorting_vector def doc)) docs) ≡ map (λ (doc : Doc). doc.id) docs
ids-of_rows def [] = refl
ids-of_rows def (doc ∷ docs) = ap (λ (ids : List ℕ). doc.id ∷ ids) (ids-of_rows def docs)

-- the live rows of an index that stands for documents are those of its members
pub members-removed : (docs : List Doc) (next : ℕ) (indexes : List Index) (name : List ℕ) (index : Index) → AreWritten docs next → All (IndexStands docs next (markers_at next)) indexes
    → find (is_named name) indexes ≡ Some index → fold erase_id docs (map (λ row. row.0) index.table.live) ≡ without_members (index_of (definitions_of indexes) name) docs
members-removed docs next indexes name index written stand found =
    let stands = named-has (IndexStands docs next (markers_at next)) indexes name index stand found in
    let named : index_of (definitions_of indexes) name ≡ Some (defined index) = index_of-named indexes name ∙ ap (option_map defined) found in
    ap (λ (rows : List (ℕ × Vector)). fold erase_id docs (map (λ row. row.0) rows)) stands.documents.live
    ∙ (ap (fold erase_id docs) (ids-of_rows index.def (members index.def docs))
    ∙ (ids-keys 0 (member index.def) docs written.rise written.keys ∙ ap (λ (i : Option Defined). without_members i docs) (sym named)))

pub no-members : (docs : List Doc) (indexes : List Index) (name : List ℕ) → None ≡ find (is_named name) indexes → docs ≡ without_members (index_of (definitions_of indexes) name) docs
no-members docs indexes name none = ap (λ (i : Option Defined). without_members i docs) (sym (index_of-named indexes name ∙ ap (option_map defined) (sym none)))
