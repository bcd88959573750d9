-- Which ids are live, and the least of them from a number on, by their bits.
use Rattle.std.specs.Prelude.{◌≡◌, ◌≤◌, ◌<◌, ℕ, Bool, true, false, Option, None, Some, [], ◌∷◌, nat_eq, nat_le, is_some, map, find, refl}
use Rattle.std.proofs.Common.{◌∙◌, sym, ap, arith, inl, inr}
use Rattle.std.specs.Option.{option_eq}
use Rattle.std.specs.Ordering.{nat_cmp}
use Rattle.std.specs.List.Sorted.{IsStrictlySortedBy}
use Rattle.std.specs.Map.{keys_of, lookup}
use Rattle.std.proofs.lemmas.Bool.{cases_Bool, cases_lt, false≢true, eqb-true, eq-eqb, ne_eqb}
use Rattle.std.proofs.lemmas.Bool.Decides.{nat_tests}
use Rattle.std.proofs.lemmas.Map.Keys.{sorted_head, sorted_tail}
use Rattle.ft_base.specs.Rows.{Rows, Below, live_rows}
use Rattle.ft_base.proofs.RowsLaws.{lookup-above, ids-weaker}
use Rattle.ft_base.proofs.LiveRowsLaws.{live_rows-ordered, lookup-waiting, lookup-live_rows}
use Rattle.doc_table.specs.Table.{Vector}
use Rattle.doc_table.specs.Pages.{IsNext}
use Rattle.doc_table.specs.Rows.{IsTable}
use Rattle.doc_table.proofs.TableLaws.{waits_last}
use Rattle.doc_table.proofs.MarkLaws.{Marks, lookup-under}

-- the least id from a number on
abbrev pub find_from : ℕ → Rows Vector → Option ℕ
find_from from rows = find (λ id. nat_le from id) (map (λ row. row.0) rows)

-- whether an id has a row
abbrev pub is_listed : Rows Vector → ℕ → Bool
is_listed rows id = is_some (lookup (nat_eq id) rows)

-- no row of an id other than the first is the first
later : (id : ℕ) (row : ℕ × Vector) (rows : Rows Vector) → (id ≡ row.0 → ⊥) → is_listed (row ∷ rows) id ≡ is_listed rows id
later id row rows apart = rw (ne_eqb id row.0 apart) refl

-- where no id from a number on has a row none is found
pub find-none : (from : ℕ) (rows : Rows Vector) → ((id : ℕ) → from ≤ id → is_listed rows id ≡ false) → find_from from rows ≡ None
find-none from [] none = refl
find-none from (row ∷ rows) none =
    elim (cases_Bool (nat_le from row.0)) [
      | inl behind ↦
          let here : is_listed (row ∷ rows) row.0 ≡ true = rw (eq-eqb row.0 row.0 refl) refl in
          absurd (false≢true (sym (none row.0 (grind (arith, nat_tests, behind))) ∙ here))
      | inr before ↦
          let low : row.0 < from = grind (arith, nat_tests, before) in
          rw before (find-none from rows (λ id least. sym (later id row rows (λ same. omega (arith, same))) ∙ none id least))
    ]

-- and the least id that has one is found
pub find-some : (from id : ℕ) (rows : Rows Vector) → IsStrictlySortedBy nat_cmp (keys_of rows) → from ≤ id → is_listed rows id ≡ true → ((other : ℕ) → from ≤ other → other < id → is_listed rows other ≡ false) → find_from from rows ≡ Some id
find-some from id [] ordered least has none = absurd (false≢true has)
find-some from id (row ∷ rows) ordered least has none =
    elim (cases_Bool (nat_le from row.0)) [
      | inl behind ↦
          let low : from ≤ row.0 = grind (arith, nat_tests, behind) in
          let here : is_listed (row ∷ rows) row.0 ≡ true = rw (eq-eqb row.0 row.0 refl) refl in
          rw behind (ap Some (elim (cases_lt row.0 id) [
            | inl below ↦ absurd (false≢true (sym (none row.0 low below) ∙ here))
            | inr above ↦ elim (cases_lt id row.0) [
              | inl under ↦
                  let gone : is_listed rows id ≡ false = ap is_some (lookup-under id row.0 rows (omega arith) (sorted_head nat_cmp row.0 (keys_of rows) ordered)) in
                  absurd (false≢true (sym gone ∙ (sym (later id row rows (λ same. omega (arith, same, under))) ∙ has)))
              | inr over ↦ omega (arith, above, over)
            ]
          ]))
      | inr before ↦
          let low : row.0 < from = grind (arith, nat_tests, before) in
          rw before (find-some from id rows (sorted_tail nat_cmp row.0 (keys_of rows) ordered) least
          (sym (later id row rows (λ same. omega (arith, same, low, least))) ∙ has)
          (λ other behind under. sym (later other row rows (λ same. omega (arith, same, low, behind))) ∙ none other behind under))
    ]

-- what waits isn't live
pub live-waiting : (pending : Option ℕ) (last id : ℕ) (rows : Rows Vector) → IsTable pending last rows → option_eq nat_eq pending (Some id) ≡ true → is_listed (live_rows pending rows) id ≡ false
live-waiting pending last id rows t waits = ap is_some (lookup-waiting pending id rows (waits_last pending last rows t) waits)

-- any other id is live where its bit is set
pub live-marked : (pending : Option ℕ) (id : ℕ) (has : ℕ → Bool) (rows : Rows Vector) → Marks has rows → option_eq nat_eq pending (Some id) ≡ false → has id ≡ is_listed (live_rows pending rows) id
live-marked pending id has rows marks other = marks id ∙ ap is_some (sym (lookup-live_rows pending id rows other))

-- so none is live whose bit is clear
live-none : (pending : Option ℕ) (last id : ℕ) (has : ℕ → Bool) (rows : Rows Vector) → IsTable pending last rows → Marks has rows → has id ≡ false → is_listed (live_rows pending rows) id ≡ false
live-none pending last id has rows t marks none =
    elim (cases_Bool (option_eq nat_eq pending (Some id))) [
      | inl waits ↦ live-waiting pending last id rows t waits
      | inr other ↦ sym (live-marked pending id has rows marks other) ∙ none
    ]

-- the least id whose bit is set is the least live one, unless it waits
pub next-none : (pending : Option ℕ) (last from : ℕ) (has : ℕ → Bool) (rows : Rows Vector) → IsTable pending last rows → Marks has rows → IsNext has from None → find_from from (live_rows pending rows) ≡ None
next-none pending last from has rows t marks none =
    find-none from (live_rows pending rows) (λ id least. live-none pending last id has rows t marks (none id least))

pub next-live : (pending : Option ℕ) (last from id : ℕ) (has : ℕ → Bool) (rows : Rows Vector) → IsTable pending last rows → Marks has rows → IsNext has from (Some id) → option_eq nat_eq pending (Some id) ≡ false → find_from from (live_rows pending rows) ≡ Some id
next-live pending last from id has rows t marks next apart =
    find-some from id (live_rows pending rows) (live_rows-ordered pending rows t.ordered) next.0
    (sym (live-marked pending id has rows marks apart) ∙ next.1)
    (λ other behind under. live-none pending last other has rows t marks (next.2 other behind under))

pub next-waiting : (pending : Option ℕ) (last from id : ℕ) (has : ℕ → Bool) (rows : Rows Vector) → IsTable pending last rows → Marks has rows → IsNext has from (Some id) → option_eq nat_eq pending (Some id) ≡ true → find_from from (live_rows pending rows) ≡ None
next-waiting None last from id has rows t marks next same = absurd (false≢true same)
next-waiting (Some waiting) last from id has rows t marks next same =
    let here : waiting ≡ id = eqb-true waiting id same in
    find-none from (live_rows (Some waiting) rows) (λ other behind.
    elim (cases_lt other id) [
      | inl under ↦ live-none (Some waiting) last other has rows t marks (next.2 other behind under)
      | inr over ↦ elim (cases_lt id other) [
        | inl above ↦
            let below : Below other rows = ids-weaker (λ n. n ≤ last) (λ n. n < other) (λ n most. omega (arith, most, t.waits.0, here, above)) rows t.bounded in
            live-none (Some waiting) last other has rows t marks (marks other ∙ ap is_some (lookup-above other rows below))
        | inr most ↦
            let is : waiting ≡ other = omega (arith, here, over, most) in
            live-waiting (Some waiting) last other rows t (eq-eqb waiting other is)
      ]
    ])
