use Rattle.std.proofs.Common.{◌≡◌, ℕ, ◌∷◌, [], ap, ◌∙◌}
use Rattle.row_sort.specs.First.{First}
use Rattle.search_exec.proofs.ColumnLaws.{column-page, column-reads}
use Rattle.search_exec.specs.Candidates.{in_candidates}
use Rattle.search_exec.proofs.by_column.page_by_column.Goals as goal

pub returns-clause-reply : goal.returns-clause-reply
returns-clause-reply g c =
    let number = λ (id : ℕ). (g.T.Lists.named c.args.lists.now).numbers id c.args.column in
    let has = in_candidates (g.T.Lists.held c.args.lists.now) c.args.candidates.now in
    let old = c.new-first.result in
    let by : old.by ≡ c.args.key.by ∷ [] = ap (λ (first : First ℕ). first.by) c.new-first.ensures ∙ (c.from_vec-keys.ensures ∙ c.in_ok-vec.ensures.items) in
    column-page c.args.shape.now c.args.key number has c.args.store.now.space c.tell.ensures.rise c.requires.walkable.known (λ id doc. c.requires.seen.each id c.args.column doc c.requires.column)
    c.first_page.result c.offer_all-total.result c.offer_all-total.new.first.rows old by (ap (λ (first : First ℕ). first.most) c.new-first.ensures)
    c.first_page.ensures.offered c.first_page.ensures.reply c.offer_all-total.ensures.ids

pub returns-clause-reads : goal.returns-clause-reads
returns-clause-reads g c =
    let number = λ (id : ℕ). (g.T.Lists.named c.args.lists.now).numbers id c.args.column in
    let has = in_candidates (g.T.Lists.held c.args.lists.now) c.args.candidates.now in
    let old = c.new-first.result in
    let by : old.by ≡ c.args.key.by ∷ [] = ap (λ (first : First ℕ). first.by) c.new-first.ensures ∙ (c.from_vec-keys.ensures ∙ c.in_ok-vec.ensures.items) in
    column-reads c.args.shape.now c.args.key number has c.args.store.now.space c.tell.ensures.rise c.requires.walkable.known (λ id doc. c.requires.seen.each id c.args.column doc c.requires.column)
    c.first_page.result c.offer_all-total.result c.offer_all-total.new.first.rows old c.args.store.now.reads c.first_page.new.store.reads by (ap (λ (first : First ℕ). first.most) c.new-first.ensures)
    c.first_page.ensures.offered c.first_page.ensures.reads c.offer_all-total.ensures.ids
