-- The places of pages whose numbers rise.
use Rattle.std.specs.Prelude.{◌≡◌, ◌≢◌, ℕ, zero, suc, ◌+◌, ◌<◌, ◌≤◌, List, [], ◌∷◌, length, slice_index_or, refl}
use Rattle.std.proofs.Common.{sym, ◌∙◌, arith, inl, inr}
use Rattle.std.proofs.lemmas.Bool.{eq-eqb, ne_eqb, cases_lt}
use Rattle.std.proofs.lemmas.List.{get_or_default}
use Rattle.doc_table.specs.declared.page.Page.{Page}
use Rattle.doc_table.specs.Pages.{word_of, Rises, number_at, word_at}

-- each number is at least as far above the least one as its place is behind the first
pub number_least : (low high : ℕ) (pages : List Page) (place : ℕ) → Rises low high pages → place < length pages → low + place ≤ number_at pages place
number_least low high [] place rises within = absurd (omega arith)
number_least low high (page ∷ pages) zero rises within = omega (arith, rises.0)
number_least low high (page ∷ pages) (suc place) rises within =
    omega (arith, rises.0, number_least (page.number + 1) high pages place rises.2 (omega arith))

-- and below the bound
pub number_most : (low high : ℕ) (pages : List Page) (place : ℕ) → Rises low high pages → place < length pages → number_at pages place < high
number_most low high [] place rises within = absurd (omega arith)
number_most low high (page ∷ pages) zero rises within = rises.1
number_most low high (page ∷ pages) (suc place) rises within = number_most (page.number + 1) high pages place rises.2 (omega arith)

-- two numbers are as far apart as their places, or farther
pub number_apart : (low high : ℕ) (pages : List Page) (near far : ℕ) → Rises low high pages → near ≤ far → far < length pages → number_at pages near + far ≤ number_at pages far + near
number_apart low high [] near far rises order within = absurd (omega arith)
number_apart low high (page ∷ pages) zero zero rises order within = omega arith
number_apart low high (page ∷ pages) zero (suc far) rises order within =
    omega (arith, number_least (page.number + 1) high pages far rises.2 (omega arith))
number_apart low high (page ∷ pages) (suc near) zero rises order within = absurd (omega arith)
number_apart low high (page ∷ pages) (suc near) (suc far) rises order within =
    omega (arith, number_apart (page.number + 1) high pages near far rises.2 (omega arith) (omega arith))

-- where one number is below another one, so are those before it
pub below_before : (low high : ℕ) (pages : List Page) (n middle : ℕ) → Rises low high pages → middle < length pages → number_at pages middle < n → (k : ℕ) → k < middle + 1 → number_at pages k < n
below_before low high pages n middle rises within less k before =
    omega (arith, number_apart low high pages k middle rises (omega arith) within)

-- where one is not, those behind it aren't
pub above_behind : (low high : ℕ) (pages : List Page) (n middle : ℕ) → Rises low high pages → n ≤ number_at pages middle → (k : ℕ) → middle ≤ k → k < length pages → n ≤ number_at pages k
above_behind low high pages n middle rises most k behind within =
    omega (arith, number_apart low high pages middle k rises behind within)

-- the word of the page at a place is that of its number
pub word_is : (low high : ℕ) (pages : List Page) (n place : ℕ) → Rises low high pages → place < length pages → number_at pages place ≡ n → word_of n pages ≡ word_at pages place
word_is low high [] n place rises within is = absurd (omega arith)
word_is low high (page ∷ pages) n zero rises within is = rw (eq-eqb n page.number (sym is)) refl
word_is low high (page ∷ pages) n (suc place) rises within is =
    let apart : n ≢ page.number = λ same. omega (arith, same, is, number_least (page.number + 1) high pages place rises.2 (omega arith)) in
    rw (ne_eqb n page.number apart) (word_is (page.number + 1) high pages n place rises.2 (omega arith) is)

-- where no page has a number there is no word
pub word_none : (pages : List Page) (n : ℕ) → ((k : ℕ) → k < length pages → number_at pages k ≢ n) → word_of n pages ≡ 0
word_none [] n none = refl
word_none (page ∷ pages) n none =
    rw (ne_eqb n page.number (λ same. none 0 (omega arith) (sym same))) (word_none pages n (λ k within. none (suc k) (omega arith)))

-- as where none stands at its place
pub word_missing : (low high : ℕ) (pages : List Page) (n place : ℕ) → Rises low high pages → ((k : ℕ) → k < place → number_at pages k < n) → ((k : ℕ) → place ≤ k → k < length pages → n ≤ number_at pages k) → (place < length pages → number_at pages place ≢ n) → word_of n pages ≡ 0
word_missing low high pages n place rises below above here =
    word_none pages n (λ k within same.
    elim (cases_lt k place) [
      | inl before ↦ omega (arith, below k before, same)
      | inr behind ↦
          let at : place < length pages = omega arith in
          here at (omega (arith, number_apart low high pages place k rises behind within, above place (omega arith) at, same))
    ])

-- the page that a read at a place gave
pub read_is : (pages : List Page) (place : ℕ) (page : Page) → page ≡ slice_index_or pages place page → place < length pages → slice_index_or pages place (record { number = 0; word = 0 }) ≡ page
read_is pages place page is within = get_or_default pages place (record { number = 0; word = 0 }) page within ∙ sym is
