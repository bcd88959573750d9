-- Ids rise behind each call.
use Rattle.std.proofs.Common.{◌≡◌, ◌<◌, Bool, List, [], ◌∷◌, ◌++◌, map, sym, subst, inl, inr}
use Rattle.std.specs.Prelude.{filter}
use Rattle.std.specs.List.{AllByRecursion}
use Rattle.std.proofs.lemmas.Bool.{cases_Bool}
use Rattle.cursor_book.specs.declared.cursor.Cursor.{Cursor}
use Rattle.cursor_book.specs.Cursors.{IdsRise}
use Rattle.cursor_book.proofs.EachLaws.{each-append, each-filter, each-map}

pub rise-filter : (p : Cursor → Bool) (cursors : List Cursor) → IdsRise cursors → IdsRise (filter p cursors)
rise-filter p [] rise = tt
rise-filter p (cursor ∷ cursors) rise =
    elim (cases_Bool (p cursor)) [
      | inl holds ↦ rw holds (each-filter (λ (other : Cursor). cursor.id < other.id) p cursors rise.0, rise-filter p cursors rise.1)
      | inr fails ↦ rw fails (rise-filter p cursors rise.1)
    ]

pub rise-map : (f : Cursor → Cursor) → ((cursor : Cursor) → (f cursor).id ≡ cursor.id) → (cursors : List Cursor) → IdsRise cursors → IdsRise (map f cursors)
rise-map f keeps [] rise = tt
rise-map f keeps (cursor ∷ cursors) rise =
    let P : Cursor → Type 0 = λ other. cursor.id < other.id in
    let above : AllByRecursion P (map f cursors) = each-map P f (λ other less. subst (λ id. cursor.id < id) (sym (keeps other)) less) cursors rise.0 in
    (subst (λ id. AllByRecursion (λ (other : Cursor). id < other.id) (map f cursors)) (sym (keeps cursor)) above, rise-map f keeps cursors rise.1)

pub rise-append : (last : Cursor) (cursors : List Cursor) → AllByRecursion (λ (other : Cursor). other.id < last.id) cursors → IdsRise cursors → IdsRise (cursors ++ last ∷ [])
rise-append last [] below rise = (tt, tt)
rise-append last (cursor ∷ cursors) below rise =
    (each-append (λ (other : Cursor). cursor.id < other.id) cursors (last ∷ []) rise.0 (below.0, tt), rise-append last cursors below.1 rise.1)
