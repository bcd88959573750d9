-- The sorting vectors of rows, as rows come, go and are found.
use Rattle.std.specs.Prelude.{◌≡◌, ℕ, [], ◌∷◌, nat_eq, refl}
use Rattle.std.proofs.Common.{inl, inr}
use Rattle.std.specs.Option.{option_map}
use Rattle.std.specs.Map.{keys_of, lookup, remove_entry}
use Rattle.std.proofs.lemmas.Bool.{cases_Bool}
use Rattle.ft_base.specs.Rows.{Rows}
use Rattle.doc_table.specs.Vectors.{vectors_of}
use Rattle.doc_table.specs.declared.doc_row.DocRow.{DocRow}

-- each row has one, under its id
pub keys_of-vectors_of : (rows : Rows DocRow) → keys_of (vectors_of rows) ≡ keys_of rows
keys_of-vectors_of [] = refl
keys_of-vectors_of (row ∷ rows) = rw (keys_of-vectors_of rows) refl

-- that of the row which is found
pub lookup-vectors_of : (id : ℕ) (rows : Rows DocRow) → lookup (nat_eq id) (vectors_of rows) ≡ option_map (λ row. row.vector) (lookup (nat_eq id) rows)
lookup-vectors_of id [] = refl
lookup-vectors_of id (row ∷ rows) =
    elim (cases_Bool (nat_eq id row.0)) [
      | inl here ↦ rw here refl
      | inr apart ↦ rw apart (lookup-vectors_of id rows)
    ]

-- it goes with its row
pub vectors_of-remove_entry : (id : ℕ) (rows : Rows DocRow) → vectors_of (remove_entry (nat_eq id) rows) ≡ remove_entry (nat_eq id) (vectors_of rows)
vectors_of-remove_entry id [] = refl
vectors_of-remove_entry id (row ∷ rows) =
    elim (cases_Bool (nat_eq id row.0)) [
      | inl here ↦ rw here refl
      | inr apart ↦ rw apart (rw (vectors_of-remove_entry id rows) refl)
    ]
