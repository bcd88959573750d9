-- What becomes of the live entries where a document comes, or goes.
use Rattle.std.specs.Prelude.{◌≡◌, ◌<◌, ◌≤◌, ℕ, Bool, true, false, not, ◌&&◌, List, [], ◌∷◌, ◌++◌, nat_eq, filter, map, refl}
use Rattle.std.proofs.Common.{ap, ◌∙◌, inl, inr, arith}
use Rattle.std.specs.List.{AllByRecursion}
use Rattle.std.specs.Map.{remove_entry}
use Rattle.std.proofs.lemmas.Bool.{cases_Bool}
use Rattle.std.proofs.lemmas.Bool.Decides.{nat_tests}
use Rattle.std.proofs.lemmas.List.{append-nil}
use Rattle.std.proofs.lemmas.List.Elements.{filter-append}
use Rattle.inverted_list.specs.Listing.{RisesAbove, last_id}
use Rattle.doc_table.specs.Table.{Vector}
use Rattle.ft_base.specs.Docs.{Doc}
use Rattle.ft_index.specs.Has.{alive}
use Rattle.ft_index.specs.Lists.{has_id}
use Rattle.ft_index.specs.Without.{without}

pub above-no : (a b : ℕ) → b < a → nat_eq a b ≡ false
above-no a b h = grind (arith, nat_tests)

pub below-no : (a b : ℕ) → a < b → nat_eq a b ≡ false
below-no a b h = grind (arith, nat_tests)

pub same-yes : (a : ℕ) → nat_eq a a ≡ true
same-yes a = grind (arith, nat_tests)

-- ids that rise end no lower than where they began
pub last_id-low : {X : Type 0} (low : ℕ) (es : List (ℕ × X)) → RisesAbove low es → low ≤ last_id low es
last_id-low low [] rises = omega arith
last_id-low low (e ∷ es) rises = omega (arith, rises.0, last_id-low e.0 es rises.1)

-- an id above all others is not there
pub has_id-above : (low id : ℕ) (rows : List (ℕ × Vector)) → RisesAbove low rows → last_id low rows < id → has_id rows id ≡ false
has_id-above low id [] rises above = refl
has_id-above low id (row ∷ rows) rises above =
    let first : row.0 < id = omega (arith, last_id-low row.0 rows rises.1, above) in
    rw (above-no id row.0 first) (has_id-above row.0 id rows rises.1 above)

-- nor is one below all others
pub has_id-below : (low id : ℕ) (rows : List (ℕ × Vector)) → RisesAbove low rows → id ≤ low → has_id rows id ≡ false
has_id-below low id [] rises below = refl
has_id-below low id (row ∷ rows) rises below =
    let first : id < row.0 = omega (arith, rises.0, below) in
    rw (below-no id row.0 first) (has_id-below row.0 id rows rises.1 (omega (arith, first)))

-- a row more is there for its own id alone
pub has_id-other : (rows : List (ℕ × Vector)) (id a : ℕ) (vector : Vector) → nat_eq a id ≡ false → has_id (rows ++ (id, vector) ∷ []) a ≡ has_id rows a
has_id-other [] id a vector apart = rw apart refl
has_id-other (row ∷ rows) id a vector apart =
    elim (cases_Bool (nat_eq a row.0)) [
      | inl here ↦ rw here refl
      | inr away ↦ rw away (has_id-other rows id a vector apart)
    ]

pub has_id-own : (rows : List (ℕ × Vector)) (id : ℕ) (vector : Vector) → has_id (rows ++ (id, vector) ∷ []) id ≡ true
has_id-own [] id vector = rw (same-yes id) refl
has_id-own (row ∷ rows) id vector =
    elim (cases_Bool (nat_eq id row.0)) [
      | inl here ↦ rw here refl
      | inr away ↦ rw away (has_id-own rows id vector)
    ]

-- where a row is taken out, its id alone is gone
has_id-removed : (low id a : ℕ) (rows : List (ℕ × Vector)) → RisesAbove low rows → has_id (remove_entry (nat_eq id) rows) a ≡ (not (nat_eq id a) && has_id rows a)
has_id-removed low id a [] rises = elim (cases_Bool (nat_eq id a)) [ inl y ↦ rw y refl | inr n ↦ rw n refl ]
has_id-removed low id a (row ∷ rows) rises =
    elim (cases_Bool (nat_eq id row.0)) [
      | inl here ↦ rw here (elim (cases_Bool (nat_eq id a)) [
        | inl y ↦
            let below : a ≤ row.0 = grind (arith, nat_tests, here, y) in
            rw y (has_id-below row.0 a rows rises.1 below)
        | inr n ↦
            let apart : nat_eq a row.0 ≡ false = grind (arith, nat_tests, here, n) in
            rw (n, apart) refl
      ])
      | inr away ↦ rw away (elim (cases_Bool (nat_eq a row.0)) [
        | inl y ↦
            let apart : nat_eq id a ≡ false = grind (arith, nat_tests, away, y) in
            rw (y, apart) refl
        | inr n ↦ rw n (has_id-removed row.0 id a rows rises.1)
      ])
    ]

module _ {P : Type 0} where
  -- entries of other ids do not see a document that comes
  pub alive-others : (id : ℕ) (vector : Vector) (live : List (ℕ × Vector)) (es : List (ℕ × P)) → AllByRecursion (λ e. e.0 < id) es
      → alive (live ++ (id, vector) ∷ []) es ≡ alive live es
  alive-others id vector live [] below = refl
  alive-others id vector live (e ∷ es) below =
      let here : has_id (live ++ (id, vector) ∷ []) e.0 ≡ has_id live e.0 = has_id-other live id e.0 vector (below-no e.0 id below.0) in
      rw (here, alive-others id vector live es below.1) refl

  -- ids that rise are all up to the last
  pub all-below : (low id : ℕ) (es : List (ℕ × P)) → RisesAbove low es → last_id low es < id → AllByRecursion (λ e. e.0 < id) es
  all-below low id [] rises above = tt
  all-below low id (e ∷ es) rises above = (omega (arith, last_id-low e.0 es rises.1, above), all-below e.0 id es rises.1 above)

  pub alive-append : (live : List (ℕ × Vector)) (xs ys : List (ℕ × P)) → alive live (xs ++ ys) ≡ alive live xs ++ alive live ys
  alive-append live xs ys = filter-append (λ (e : ℕ × P). has_id live e.0) xs ys

  -- entries of one id
  abbrev pub AreOf : ℕ → List (ℕ × P) → Type 0
  AreOf id es = AllByRecursion (λ e. e.0 ≡ id) es

  alive-dead : (live : List (ℕ × Vector)) (id : ℕ) (es : List (ℕ × P)) → AreOf id es → has_id live id ≡ false → alive live es ≡ []
  alive-dead live id [] own dead = refl
  alive-dead live id (e ∷ es) own dead =
      let here : has_id live e.0 ≡ false = ap (has_id live) own.0 ∙ dead in
      rw here (alive-dead live id es own.1 dead)

  alive-own : (live : List (ℕ × Vector)) (id : ℕ) (es : List (ℕ × P)) → AreOf id es → has_id live id ≡ true → alive live es ≡ es
  alive-own live id [] own is = refl
  alive-own live id (e ∷ es) own is =
      let here : has_id live e.0 ≡ true = ap (has_id live) own.0 ∙ is in
      rw here (ap (λ rest. e ∷ rest) (alive-own live id es own.1 is))

  -- what is put in for an id that is not live is not seen
  pub alive-unseen : (live : List (ℕ × Vector)) (es more : List (ℕ × P)) (id : ℕ) → AreOf id more → has_id live id ≡ false → alive live (es ++ more) ≡ alive live es
  alive-unseen live es more id own dead = rw (alive-append live es more, alive-dead live id more own dead, append-nil) refl

  -- and it is once the id is live
  pub alive-seen : (live : List (ℕ × Vector)) (es more : List (ℕ × P)) (id : ℕ) (vector : Vector) → AllByRecursion (λ e. e.0 < id) es → AreOf id more
      → alive (live ++ (id, vector) ∷ []) (es ++ more) ≡ alive live es ++ more
  alive-seen live es more id vector below own =
      rw (alive-append (live ++ (id, vector) ∷ []) es more, alive-own (live ++ (id, vector) ∷ []) id more own (has_id-own live id vector), alive-others id vector live es below) refl

  -- an entry of another id than this
  abbrev pub is_other : ℕ → ℕ × P → Bool
  is_other id e = not (nat_eq id e.0)

  pub alive-killed : (id : ℕ) (live : List (ℕ × Vector)) (es : List (ℕ × P)) → RisesAbove 0 live → alive (remove_entry (nat_eq id) live) es ≡ filter (is_other id) (alive live es)
  alive-killed id live [] rises = refl
  alive-killed id live (e ∷ es) rises =
      let here = has_id-removed 0 id e.0 live rises in
      let others = alive-killed id live es rises in
      rw (here, others) (elim (cases_Bool (has_id live e.0)) [
        | inl y ↦ elim (cases_Bool (nat_eq id e.0)) [ inl same ↦ rw (y, same) refl | inr apart ↦ rw (y, apart) refl ]
        | inr n ↦ elim (cases_Bool (nat_eq id e.0)) [ inl same ↦ rw (n, same) refl | inr apart ↦ rw (n, apart) refl ]
      ])

  pub all-other : (id a : ℕ) (es : List (ℕ × P)) → AreOf a es → nat_eq id a ≡ false → filter (is_other id) es ≡ es
  all-other id a [] own apart = refl
  all-other id a (e ∷ es) own apart =
      let here : nat_eq id e.0 ≡ false = ap (nat_eq id) own.0 ∙ apart in
      rw here (ap (λ rest. e ∷ rest) (all-other id a es own.1 apart))

  pub none-other : (id a : ℕ) (es : List (ℕ × P)) → AreOf a es → nat_eq id a ≡ true → filter (is_other id) es ≡ []
  none-other id a [] own same = refl
  none-other id a (e ∷ es) own same =
      let here : nat_eq id e.0 ≡ true = ap (nat_eq id) own.0 ∙ same in
      rw here (none-other id a es own.1 same)

-- the row of a document, with what stands beside its id
abbrev pub row_of : {V : Type 0} → (Doc → V) → Doc → ℕ × V
row_of part doc = (doc.id, part doc)

pub without-below : {V : Type 0} (part : Doc → V) (low id : ℕ) (docs : List Doc) → RisesAbove low (map (row_of part) docs) → id ≤ low → without id docs ≡ docs
without-below part low id [] rises below = refl
without-below part low id (doc ∷ docs) rises below =
    let first : id < doc.id = omega (arith, rises.0, below) in
    rw (below-no id doc.id first) (ap (λ rest. doc ∷ rest) (without-below part doc.id id docs rises.1 (omega (arith, first))))

pub rows-without : {V : Type 0} (part : Doc → V) (low id : ℕ) (docs : List Doc) → RisesAbove low (map (row_of part) docs)
    → remove_entry (nat_eq id) (map (row_of part) docs) ≡ map (row_of part) (without id docs)
rows-without part low id [] rises = refl
rows-without part low id (doc ∷ docs) rises =
    elim (cases_Bool (nat_eq id doc.id)) [
      | inl same ↦
          let below : id ≤ doc.id = grind (arith, nat_tests, same) in
          rw (same, without-below part doc.id id docs rises.1 below) refl
      | inr apart ↦ rw apart (ap (λ rest. row_of part doc ∷ rest) (rows-without part doc.id id docs rises.1))
    ]
