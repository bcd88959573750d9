use Rattle.std.proofs.Common.{◌≡◌, ◌∙◌, ap, sym, eqb, true, false, Some, None}
use Rattle.std.specs.List.{starts_with}
use Rattle.std.specs.Map.{keys_of}
use Rattle.std.proofs.lemmas.Bool.{cond-true, cond-false}
use Rattle.term_dict.specs.Rows.{lists_of}
use Rattle.term_dict.specs.Starts.{first_with}
use Rattle.term_dict.proofs.StartLaws.{words_from-rows, words_rise}
use Rattle.term_dict.proofs.dictionary.first_from.Goals as goal

pub returns-in_err-word-clause-first : goal.returns-in_err-word-clause-first
returns-in_err-word-clause-first g c =
    rw c.from_residual.ensures
    (ap (first_with c.args.prefix.now) (sym (words_from-rows c.args.start c.args.lists.now.entries ∙ ap (λ rows. keys_of (lists_of rows)) (sym (c.range.ensures.between tt) ∙ c.in_err-word.ensures.steps.0))))

pub returns-in_err-word-clause-ordered : goal.returns-in_err-word-clause-ordered
returns-in_err-word-clause-ordered g c = words_rise c.args.lists.now.entries c.range.ensures.ordered

pub returns-then-starts_with-clause-first : goal.returns-then-starts_with-clause-first
returns-then-starts_with-clause-first g c =
    let word = c.in_ok-word.word.now.items in
    let has : starts_with eqb word c.args.prefix.now ≡ true = ap (λ w. starts_with eqb w c.args.prefix.now) (sym c.as_slice-word.ensures.value) ∙ (sym c.starts_with.ensures.value ∙ c.if-starts_with.true) in
    rw c.as_slice-word.ensures.value
    (sym (ap (first_with c.args.prefix.now) (words_from-rows c.args.start c.args.lists.now.entries ∙ ap (λ rows. keys_of (lists_of rows)) (sym (c.range.ensures.between tt) ∙ c.in_ok-word.ensures.steps))
    ∙ cond-true (starts_with eqb word c.args.prefix.now) (Some word) None has))

pub returns-then-starts_with-clause-ordered : goal.returns-then-starts_with-clause-ordered
returns-then-starts_with-clause-ordered g c = words_rise c.args.lists.now.entries c.range.ensures.ordered

pub returns-else-starts_with-clause-first : goal.returns-else-starts_with-clause-first
returns-else-starts_with-clause-first g c =
    let word = c.in_ok-word.word.now.items in
    let lacks : starts_with eqb word c.args.prefix.now ≡ false = ap (λ w. starts_with eqb w c.args.prefix.now) (sym c.as_slice-word.ensures.value) ∙ (sym c.starts_with.ensures.value ∙ c.if-starts_with.false) in
    sym (ap (first_with c.args.prefix.now) (words_from-rows c.args.start c.args.lists.now.entries ∙ ap (λ rows. keys_of (lists_of rows)) (sym (c.range.ensures.between tt) ∙ c.in_ok-word.ensures.steps))
    ∙ cond-false (starts_with eqb word c.args.prefix.now) (Some word) None lacks)

pub returns-else-starts_with-clause-ordered : goal.returns-else-starts_with-clause-ordered
returns-else-starts_with-clause-ordered g c = words_rise c.args.lists.now.entries c.range.ensures.ordered
