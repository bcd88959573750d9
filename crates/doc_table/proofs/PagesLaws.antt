-- What becomes of pages, and of the ids that are in, when a word changes, a page comes or pages go.
use Rattle.std.specs.Prelude.{◌≡◌, ◌≢◌, ℕ, zero, suc, ◌+◌, ◌-◌, ◌*◌, ◌/◌, ◌%◌, ◌^◌, ◌<◌, ◌≤◌, List, [], ◌∷◌, ◌++◌, Bool, false, not, ◌||◌, ◌&&◌, nat_eq, bit_and, bit_or, cond, length, refl}
use Rattle.std.proofs.Common.{sym, ◌∙◌, ap, subst, arith, inl, inr}
use Rattle.std.specs.Int.{bit_not, w64}
use Rattle.std.proofs.lemmas.Bool.{cases_Bool, ne_eqb, eqb-true, eqb-false}
use Rattle.std.proofs.lemmas.Bool.Decides.{nat_tests}
use Rattle.doc_table.specs.declared.page.Page.{Page}
use Rattle.doc_table.specs.Pages.{bit_of, word_of, has_id, Rises, number_at, word_at, with_word, used, with_id, without_id}
use Rattle.doc_table.proofs.WordLaws.{bits_set, bits_new, bits_clear, no_bits, no_bits_left}
use Rattle.doc_table.proofs.PlaceLaws.{number_least, number_most, number_apart, word_is, word_none}

-- what is between weaker bounds
pub rises_weaker : (low high least most : ℕ) (pages : List Page) → least ≤ low → high ≤ most → Rises low high pages → Rises least most pages
rises_weaker low high least most [] lower higher rises = tt
rises_weaker low high least most (page ∷ pages) lower higher rises =
    (omega (arith, rises.0), omega (arith, rises.1), rises_weaker (page.number + 1) high (page.number + 1) most pages (omega arith) higher rises.2)

-- and below each bound that is above all
rises_below : (low high most : ℕ) (pages : List Page) → Rises low high pages → ((k : ℕ) → k < length pages → number_at pages k < most) → Rises low most pages
rises_below low high most [] rises below = tt
rises_below low high most (page ∷ pages) rises below =
    (rises.0, below zero (omega arith), rises_below (page.number + 1) high most pages rises.2 (λ k within. below (suc k) (omega arith)))

-- another word at a place
word_with : (low high : ℕ) (pages : List Page) (place word n : ℕ) → Rises low high pages → place < length pages → word_of n (with_word pages place word) ≡ cond (nat_eq n (number_at pages place)) word (word_of n pages)
word_with low high [] place word n rises within = absurd (omega arith)
word_with low high (page ∷ pages) zero word n rises within =
    elim (cases_Bool (nat_eq n page.number)) [ inl same ↦ rw same refl | inr apart ↦ rw apart refl ]
word_with low high (page ∷ pages) (suc place) word n rises within =
    elim (cases_Bool (nat_eq n page.number)) [
      | inl same ↦
          let differs : nat_eq n (number_at pages place) ≡ false =
          ne_eqb n (number_at pages place) (λ is. omega (arith, is, eqb-true n page.number same, number_least (page.number + 1) high pages place rises.2 (omega arith))) in
          rw (same, differs) refl
      | inr apart ↦ rw apart (word_with (page.number + 1) high pages place word n rises.2 (omega arith))
    ]

pub rises_with : (low high : ℕ) (pages : List Page) (place word : ℕ) → Rises low high pages → place < length pages → Rises low high (with_word pages place word)
rises_with low high [] place word rises within = absurd (omega arith)
rises_with low high (page ∷ pages) zero word rises within = rises
rises_with low high (page ∷ pages) (suc place) word rises within =
    (rises.0, rises.1, rises_with (page.number + 1) high pages place word rises.2 (omega arith))

-- one more page
word_push : (low n : ℕ) (pages : List Page) (word m : ℕ) → Rises low n pages → word_of m (pages ++ record { number = n; word = word } ∷ []) ≡ cond (nat_eq m n) word (word_of m pages)
word_push low n [] word m rises = refl
word_push low n (page ∷ pages) word m rises =
    elim (cases_Bool (nat_eq m page.number)) [
      | inl same ↦
          let differs : nat_eq m n ≡ false = ne_eqb m n (λ is. omega (arith, is, eqb-true m page.number same, rises.1)) in
          rw (same, differs) refl
      | inr apart ↦ rw apart (word_push (page.number + 1) n pages word m rises.2)
    ]

pub rises_push : (low n : ℕ) (pages : List Page) (word : ℕ) → low ≤ n → Rises low n pages → Rises low (n + 1) (pages ++ record { number = n; word = word } ∷ [])
rises_push low n [] word least rises = (least, omega arith, tt)
rises_push low n (page ∷ pages) word least rises =
    (rises.0, omega (arith, rises.1), rises_push (page.number + 1) n pages word (omega (arith, rises.1)) rises.2)

-- the words at places, of another word at a place and of one more page
pub word_at-with : (pages : List Page) (place word k : ℕ) → (k ≡ place → ⊥) → word_at (with_word pages place word) k ≡ word_at pages k
word_at-with [] place word k apart = refl
word_at-with (page ∷ pages) zero word zero apart = absurd (apart refl)
word_at-with (page ∷ pages) zero word (suc k) apart = refl
word_at-with (page ∷ pages) (suc place) word zero apart = refl
word_at-with (page ∷ pages) (suc place) word (suc k) apart = word_at-with pages place word k (λ same. apart (ap suc same))

word_at-new : (pages : List Page) (place word : ℕ) → place < length pages → word_at (with_word pages place word) place ≡ word
word_at-new [] place word within = absurd (omega arith)
word_at-new (page ∷ pages) zero word within = refl
word_at-new (page ∷ pages) (suc place) word within = word_at-new pages place word (omega arith)

pub word_at-push : (pages : List Page) (page : Page) (k : ℕ) → k < length pages → word_at (pages ++ page ∷ []) k ≡ word_at pages k
word_at-push [] page k within = absurd (omega arith)
word_at-push (first ∷ pages) page zero within = refl
word_at-push (first ∷ pages) page (suc k) within = word_at-push pages page k (omega arith)

-- a page without an id has none after one is cleared
pub spent_clear : (pages : List Page) (place mask k : ℕ) → place < length pages → word_at pages k ≡ 0 → word_at (with_word pages place (bit_and (word_at pages place) mask)) k ≡ 0
spent_clear pages place mask k within none =
    elim (cases_Bool (nat_eq k place)) [
      | inl same ↦
          let here : k ≡ place = eqb-true k place same in
          ap (λ n. word_at (with_word pages place (bit_and (word_at pages place) mask)) n) here
          ∙ (word_at-new pages place (bit_and (word_at pages place) mask) within
          ∙ no_bits_left (word_at pages place) mask (ap (λ n. word_at pages n) (sym here) ∙ none))
      | inr apart ↦ word_at-with pages place (bit_and (word_at pages place) mask) k (eqb-false k place apart) ∙ none
    ]

-- fewer pages
pub rises_used : (low high : ℕ) (pages : List Page) → Rises low high pages → Rises low high (used pages)
rises_used low high [] rises = tt
rises_used low high (page ∷ pages) rises =
    let rest : Rises (page.number + 1) high (used pages) = rises_used (page.number + 1) high pages rises.2 in
    elim (cases_Bool (nat_eq page.word 0)) [
      | inl spent ↦ rw spent (rises_weaker (page.number + 1) high low high (used pages) (omega (arith, rises.0)) (omega arith) rest)
      | inr kept ↦ rw kept (rises.0, rises.1, rest)
    ]

word_used : (low high : ℕ) (pages : List Page) (n : ℕ) → Rises low high pages → word_of n (used pages) ≡ word_of n pages
word_used low high [] n rises = refl
word_used low high (page ∷ pages) n rises =
    let rest : word_of n (used pages) ≡ word_of n pages = word_used (page.number + 1) high pages n rises.2 in
    elim (cases_Bool (nat_eq page.word 0)) [
      | inr kept ↦ rw (kept, rest) refl
      | inl spent ↦ rw (spent, rest) (elim (cases_Bool (nat_eq n page.number)) [
        | inr apart ↦ rw apart refl
        | inl same ↦ rw same (
            word_none pages n (λ k within is. omega (arith, is, eqb-true n page.number same, number_least (page.number + 1) high pages k rises.2 within))
            ∙ sym (eqb-true page.word 0 spent))
      ])
    ]

-- two ids of one page are one if their bits are
bits_apart : (id other : ℕ) → other / 64 ≡ id / 64 → nat_eq (other % 64) (id % 64) ≡ nat_eq other id
bits_apart id other same = grind (arith, nat_tests)

-- the ids after a change of one bit
has_changed : (f : Bool → Bool → Bool) → ((b : Bool) → f false b ≡ b) → (id word : ℕ) (pages news : List Page) → ((n : ℕ) → word_of n news ≡ cond (nat_eq n (id / 64)) word (word_of n pages)) → ((bit : ℕ) → bit < 64 → bit_of word bit ≡ f (nat_eq bit (id % 64)) (bit_of (word_of (id / 64) pages) bit)) → (other : ℕ) → has_id news other ≡ f (nat_eq other id) (has_id pages other)
has_changed f same_else id word pages news words bits other =
    ap (λ n. bit_of n (other % 64)) (words (other / 64))
    ∙ elim (cases_Bool (nat_eq (other / 64) (id / 64))) [
      | inl same ↦
          let is : other / 64 ≡ id / 64 = eqb-true (other / 64) (id / 64) same in
          rw same (bits (other % 64) (omega arith)
          ∙ (ap (λ b. f b (bit_of (word_of (id / 64) pages) (other % 64))) (bits_apart id other is)
          ∙ ap (λ n. f (nat_eq other id) (bit_of (word_of n pages) (other % 64))) (sym is)))
      | inr apart ↦
          let differs : nat_eq other id ≡ false = ne_eqb other id (λ is. eqb-false (other / 64) (id / 64) apart (ap (λ n. n / 64) is)) in
          rw (apart, differs) (sym (same_else (has_id pages other)))
    ]

-- one more at a page that is there
pub has_set : (high id place : ℕ) (pages : List Page) → Rises 0 high pages → place < length pages → number_at pages place ≡ id / 64 → (other : ℕ) → has_id (with_word pages place (bit_or (word_at pages place) (1 * 2 ^ (id % 64) % 2 ^ 64))) other ≡ with_id id (has_id pages) other
has_set high id place pages rises within is =
    has_changed (λ e b. e || b) (λ b. refl) id _ pages _
    (λ n. subst (λ m. word_of n (with_word pages place (bit_or (word_at pages place) (1 * 2 ^ (id % 64) % 2 ^ 64))) ≡ cond (nat_eq n m) (bit_or (word_at pages place) (1 * 2 ^ (id % 64) % 2 ^ 64)) (word_of n pages)) is (word_with 0 high pages place (bit_or (word_at pages place) (1 * 2 ^ (id % 64) % 2 ^ 64)) n rises within))
    (λ bit inside. bits_set (word_at pages place) (id % 64) (omega arith) bit inside ∙ ap (λ w. nat_eq bit (id % 64) || bit_of w bit) (sym (word_is 0 high pages (id / 64) place rises within is)))

-- one less
pub has_clear : (high id place : ℕ) (pages : List Page) → Rises 0 high pages → place < length pages → number_at pages place ≡ id / 64 → (other : ℕ) → has_id (with_word pages place (bit_and (word_at pages place) (bit_not w64 (1 * 2 ^ (id % 64) % 2 ^ 64)))) other ≡ without_id id (has_id pages) other
has_clear high id place pages rises within is =
    has_changed (λ e b. not e && b) (λ b. refl) id _ pages _
    (λ n. subst (λ m. word_of n (with_word pages place (bit_and (word_at pages place) (bit_not w64 (1 * 2 ^ (id % 64) % 2 ^ 64)))) ≡ cond (nat_eq n m) (bit_and (word_at pages place) (bit_not w64 (1 * 2 ^ (id % 64) % 2 ^ 64))) (word_of n pages)) is (word_with 0 high pages place (bit_and (word_at pages place) (bit_not w64 (1 * 2 ^ (id % 64) % 2 ^ 64))) n rises within))
    (λ bit inside. bits_clear (word_at pages place) (id % 64) (omega arith) bit inside ∙ ap (λ w. not (nat_eq bit (id % 64)) && bit_of w bit) (sym (word_is 0 high pages (id / 64) place rises within is)))

-- one more at a new page
pub has_push : (id : ℕ) (pages : List Page) → Rises 0 (id / 64) pages → (other : ℕ) → has_id (pages ++ record { number = id / 64; word = 1 * 2 ^ (id % 64) % 2 ^ 64 } ∷ []) other ≡ with_id id (has_id pages) other
has_push id pages rises =
    has_changed (λ e b. e || b) (λ b. refl) id (1 * 2 ^ (id % 64) % 2 ^ 64) pages _
    (λ n. word_push 0 (id / 64) pages (1 * 2 ^ (id % 64) % 2 ^ 64) n rises)
    (λ bit inside. bits_new (id % 64) (omega arith) bit inside ∙ ap (λ w. nat_eq bit (id % 64) || bit_of w bit) (sym (word_none pages (id / 64) (λ k within is. omega (arith, is, number_most 0 (id / 64) pages k rises within)))))

-- one less of a page that isn't there
pub has_missing : (id : ℕ) (pages : List Page) → word_of (id / 64) pages ≡ 0 → (other : ℕ) → has_id pages other ≡ without_id id (has_id pages) other
has_missing id pages none other =
    elim (cases_Bool (nat_eq other id)) [
      | inl same ↦ rw (same, eqb-true other id same) (ap (λ w. bit_of w (id % 64)) none ∙ no_bits (id % 64))
      | inr apart ↦ rw apart refl
    ]

-- where the last page has another number than the greatest one, all are below it
pub rises_tight : (n : ℕ) (pages : List Page) → Rises 0 (n + 1) pages → (0 < length pages → number_at pages (length pages - 1) ≢ n) → Rises 0 n pages
rises_tight n pages rises apart =
    rises_below 0 (n + 1) n pages rises (λ k within.
    let other : number_at pages (length pages - 1) ≢ n = apart (omega arith) in
    omega (arith, other, number_most 0 (n + 1) pages (length pages - 1) rises (omega arith), number_apart 0 (n + 1) pages k (length pages - 1) rises (omega arith) (omega arith)))

-- the ids of the pages that have one
pub has_used : (low high : ℕ) (pages : List Page) → Rises low high pages → (other : ℕ) → has_id (used pages) other ≡ has_id pages other
has_used low high pages rises other = ap (λ w. bit_of w (other % 64)) (word_used low high pages (other / 64) rises)
