use Rattle.std.proofs.Common.{ℕ, ◌≡◌, ◌<◌, ◌≤◌, ◌∙◌, ap, sym, subst, arith, ◌/◌, ◌*◌, ◌%◌, ◌^◌, length, bit_and}
use Rattle.std.specs.Int.{bit_not, w64}
use Rattle.doc_table.specs.declared.page.Page.{Page}
use Rattle.doc_table.specs.Pages.{has_id, word_at, Rises, number_at, with_word}
use Rattle.doc_table.proofs.PlaceLaws.{read_is, word_missing}
use Rattle.doc_table.proofs.PagesLaws.{has_clear, has_missing, rises_with, spent_clear}
use Rattle.doc_table.proofs.changes.clear_id.Goals as goal
use Rattle.doc_table.proofs.changes.clear_id.Goals.{else-at-len-via-then-at-len+else-index-number, else-at-len-via-else-at-len}

-- the page of the id is there
within : (c : goal.Joined-word-eq0) → c.place_of-at.result < length c.args.pages.now.items
within c = omega (arith, c.len.ensures, c.if-at-len.true)

-- and its bit is cleared
cleared : (c : goal.Joined-word-eq0) → c.put_word.new.pages.items ≡ with_word c.args.pages.now.items c.place_of-at.result (bit_and (word_at c.args.pages.now.items c.place_of-at.result) (bit_not w64 (1 * 2 ^ (c.args.id % 64) % 2 ^ 64)))
cleared c =
    c.put_word.ensures
    ∙ ap (λ (p : Page). with_word c.args.pages.now.items c.place_of-at.result (bit_and p.word (bit_not w64 (1 * 2 ^ (c.args.id % 64) % 2 ^ 64))))
    (sym (read_is c.args.pages.now.items c.place_of-at.result c.index-then-index-number.result.now c.index-then-index-number.ensures (within c)))

pub returns-then-index-number-clause-ids : goal.returns-then-index-number-clause-ids
returns-then-index-number-clause-ids c =
    let pages = c.args.pages.now.items in
    let at = c.place_of-at.result in
    let number : number_at pages at ≡ c.args.id / 64 = ap (λ (p : Page). p.number) (read_is pages at c.index.result.now c.index.ensures (within c)) ∙ c.if-index-number.true in
    λ other. ap (λ ps. has_id ps other) (cleared c) ∙ has_clear (2 ^ 58) c.args.id at pages c.requires (within c) number other

pub returns-then-index-number-clause-bound : goal.returns-then-index-number-clause-bound
returns-then-index-number-clause-bound c =
    λ high rises. subst (Rises 0 high) (sym c.put_word.ensures) (rises_with 0 high c.args.pages.now.items c.place_of-at.result _ rises (within c))

pub returns-then-index-number-clause-spent : goal.returns-then-index-number-clause-spent
returns-then-index-number-clause-spent c =
    λ k none. ap (λ ps. word_at ps k) (cleared c) ∙ spent_clear c.args.pages.now.items c.place_of-at.result (bit_not w64 (1 * 2 ^ (c.args.id % 64) % 2 ^ 64)) k (within c) none

pub returns-clause-ids : goal.returns-clause-ids
returns-clause-ids c =
    let pages = c.args.pages.now.items in
    let at = c.place_of-at.result in
    has_missing c.args.id pages
    (word_missing 0 (2 ^ 58) pages (c.args.id / 64) at c.requires
    (subst (λ ps. (k : ℕ) → k < at → number_at ps k < c.args.id / 64) c.deref.ensures.value c.place_of-at.ensures.below)
    (subst (λ ps. (k : ℕ) → at ≤ k → k < length ps → c.args.id / 64 ≤ number_at ps k) c.deref.ensures.value c.place_of-at.ensures.above)
    (λ within same. elim c.else-at-len.branch [
      | else-at-len-via-then-at-len+else-index-number w ↦ w.if-index-number.false (ap (λ (p : Page). p.number) (sym (read_is pages at w.index.result.now w.index.ensures within)) ∙ same)
      | else-at-len-via-else-at-len w ↦ omega (arith, within, c.len.ensures, w.if-at-len.false)
    ]))
