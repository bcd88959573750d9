-- Which ids the pages say are in.
use Rattle.std.specs.Prelude.{◌≡◌, ℕ, ◌+◌, ◌-◌, ◌/◌, ◌%◌, ◌^◌, ◌<◌, ◌≤◌, List, [], ◌∷◌, Bool, true, false, ◌&&◌, ◌||◌, not, nat_eq, cond, Option, None, Some, length, slice_index_or, slice_set, filter}
use Rattle.std.specs.Int.{bit_at}
use Rattle.doc_table.specs.declared.page.Page.{Page}

-- the bit of a word
abbrev pub bit_of : ℕ → ℕ → Bool
bit_of word bit = nat_eq (bit_at word bit) 1

-- the word of the page with a number, or no bit where there is none
abbrev pub word_of : ℕ → List Page → ℕ
word_of number [] = 0
word_of number (page ∷ pages) = cond (nat_eq number page.number) page.word (word_of number pages)

-- whether the bit of an id is set
abbrev pub has_id : List Page → ℕ → Bool
has_id pages id = bit_of (word_of (id / 64) pages) (id % 64)

-- the numbers rise, from `low` on and below `high`
abbrev pub Rises : ℕ → ℕ → List Page → Type 0
Rises low high [] = Unit {0}
Rises low high (page ∷ pages) = (low ≤ page.number) × (page.number < high) × Rises (page.number + 1) high pages

-- the number and the word at a place
abbrev pub number_at : List Page → ℕ → ℕ
number_at pages place = (slice_index_or pages place (record { number = 0; word = 0 })).number

abbrev pub word_at : List Page → ℕ → ℕ
word_at pages place = (slice_index_or pages place (record { number = 0; word = 0 })).word

-- the numbers rise, and no page before the start has an id
pub record ArePages (start : ℕ) (pages : List Page) : Type 0 where
  pub rises : Rises 0 (2 ^ 58) pages
  pub within : start ≤ length pages - 1
  pub spent : (k : ℕ) → k < start → word_at pages k ≡ 0

-- the pages with another word at a place, and without those that have no bit set
abbrev pub with_word : List Page → ℕ → ℕ → List Page
with_word pages place word = slice_set pages place (record { number = number_at pages place; word = word })

abbrev pub used : List Page → List Page
used pages = filter (λ page. not (nat_eq page.word 0)) pages

-- the tests of ids, with one more and with one less
abbrev pub with_id : ℕ → (ℕ → Bool) → ℕ → Bool
with_id id has other = nat_eq other id || has other

abbrev pub without_id : ℕ → (ℕ → Bool) → ℕ → Bool
without_id id has other = not (nat_eq other id) && has other

-- and without one that waits
abbrev pub without_waiting : Option ℕ → (ℕ → Bool) → ℕ → Bool
without_waiting None has other = has other
without_waiting (Some id) has other = without_id id has other

-- the least id from a number on
abbrev pub IsNext : (ℕ → Bool) → ℕ → Option ℕ → Type 0
IsNext has from None = (id : ℕ) → from ≤ id → has id ≡ false
IsNext has from (Some id) = (from ≤ id) × (has id ≡ true) × ((other : ℕ) → from ≤ other → other < id → has other ≡ false)
