use Rattle.std.proofs.Common.{◌≡◌, ◌<◌, ◌∙◌, ap, sym, subst, arith, ◌-◌, ◌/◌, ◌+◌, ◌*◌, ◌%◌, ◌^◌, length, bit_or}
use Rattle.doc_table.specs.declared.page.Page.{Page}
use Rattle.doc_table.specs.Pages.{has_id, word_at, Rises, number_at, with_word}
use Rattle.doc_table.proofs.PlaceLaws.{read_is}
use Rattle.doc_table.proofs.PagesLaws.{has_set, has_push, rises_with, rises_push, rises_tight, word_at-with, word_at-push}
use Rattle.doc_table.proofs.changes.push_id.Goals as goal
use Rattle.doc_table.proofs.changes.push_id.Goals.{else-count-gt0-via-then-count-gt0+else-index-number, else-count-gt0-via-else-count-gt0}

-- the last page is there
within : (c : goal.After-put_word) → c.len-count.result - 1 < length c.args.pages.now.items
within c = omega (arith, c.len-count.ensures, c.if-count-gt0.true)

pub returns-then-index-number-clause-ok : goal.returns-then-index-number-clause-ok
returns-then-index-number-clause-ok c =
    let pages = c.args.pages.now.items in
    let at = c.len-count.result - 1 in
    let number : number_at pages at ≡ c.args.id / 64 = ap (λ (p : Page). p.number) (read_is pages at c.index.result.now c.index.ensures (within c)) ∙ c.if-index-number.true in
    λ other. ap (λ ps. has_id ps other)
    (c.put_word.ensures
    ∙ ap (λ (p : Page). with_word pages at (bit_or p.word (1 * 2 ^ (c.args.id % 64) % 2 ^ 64))) (sym (read_is pages at c.index-then-index-number.result.now c.index-then-index-number.ensures (within c))))
    ∙ has_set (c.args.id / 64 + 1) c.args.id at pages c.requires (within c) number other

pub returns-then-index-number-clause-bound : goal.returns-then-index-number-clause-bound
returns-then-index-number-clause-bound c =
    subst (Rises 0 (c.args.id / 64 + 1)) (sym c.put_word.ensures) (rises_with 0 (c.args.id / 64 + 1) c.args.pages.now.items (c.len-count.result - 1) _ c.requires (within c))

pub returns-then-index-number-clause-others : goal.returns-then-index-number-clause-others
returns-then-index-number-clause-others c =
    λ k before. ap (λ ps. word_at ps k) c.put_word.ensures ∙ word_at-with c.args.pages.now.items (c.len-count.result - 1) _ k (λ same. omega (arith, c.len-count.ensures, before, same))

-- all pages are below the new one
tight : (c : goal.In_ok-push) → Rises 0 (c.args.id / 64) c.args.pages.now.items
tight c =
    let pages = c.args.pages.now.items in
    rises_tight (c.args.id / 64) pages c.requires
    (λ some same. elim c.else-count-gt0.branch [
      | else-count-gt0-via-then-count-gt0+else-index-number w ↦
          let at = c.len-count.result - 1 in
          let is : at ≡ length pages - 1 = omega (arith, c.len-count.ensures) in
          let within : at < length pages = omega (arith, is, some) in
          w.if-index-number.false (ap (λ (p : Page). p.number) (sym (read_is pages at w.index.result.now w.index.ensures within)) ∙ (ap (number_at pages) is ∙ same))
      | else-count-gt0-via-else-count-gt0 w ↦ omega (arith, some, c.len-count.ensures, w.if-count-gt0.false)
    ])

pub returns-in_ok-push-clause-ok : goal.returns-in_ok-push-clause-ok
returns-in_ok-push-clause-ok c =
    λ other. ap (λ ps. has_id ps other) c.in_ok-push.ensures.items ∙ has_push c.args.id c.args.pages.now.items (tight c) other

pub returns-in_ok-push-clause-bound : goal.returns-in_ok-push-clause-bound
returns-in_ok-push-clause-bound c =
    subst (Rises 0 (c.args.id / 64 + 1)) (sym c.in_ok-push.ensures.items) (rises_push 0 (c.args.id / 64) c.args.pages.now.items (1 * 2 ^ (c.args.id % 64) % 2 ^ 64) (omega arith) (tight c))

pub returns-in_ok-push-clause-others : goal.returns-in_ok-push-clause-others
returns-in_ok-push-clause-others c =
    λ k before. ap (λ ps. word_at ps k) c.in_ok-push.ensures.items ∙ word_at-push c.args.pages.now.items _ k (omega (arith, before))
