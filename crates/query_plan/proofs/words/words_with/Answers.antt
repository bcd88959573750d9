use Rattle.std.proofs.Common.{◌≡◌, ◌++◌, List, ℕ, map, length, Some, None, arith, sym, ap, ◌∙◌}
use Rattle.std.specs.Option.{option_copied}
use Rattle.id_iters.specs.declared.list_name.ListName.TheVariants as names
use Rattle.inverted_list.specs.Names.{next_name}
use Rattle.query_plan.proofs.NameLaws.{all_after, gathered_all, gathered_more, next_after, none_after, words_after}
use Rattle.query_plan.proofs.words.words_with.Goals as goal

pub words-init : goal.words-init
words-init g c =
    let words = (g.T.Lists.named c.args.sources.now.lists.now).words in
    ap (λ (found : List _). found ++ map (λ word. names.Word word) (words_after c.args.text.now None words)) c.new-found.ensures.items
    ∙ ap (map (λ word. names.Word word)) (all_after words c.args.text.now)

pub words-smaller : goal.words-smaller
words-smaller g c =
    let words = (g.T.Lists.named c.args.sources.now.lists.now).words in
    let is : next_name words c.args.text.now (option_copied c.words.after) ≡ Some c.in-Some.word.now = sym c.in_ok-word.ensures.next ∙ ap option_copied c.in-Some.is in
    let next = next_after words c.args.text.now (option_copied c.words.after) c.in-Some.word.now c.in_ok-word.ensures.rise is in
    omega (arith, ap length next)

pub words-preserved : goal.words-preserved
words-preserved g c =
    let words = (g.T.Lists.named c.args.sources.now.lists.now).words in
    let is : next_name words c.args.text.now (option_copied c.words.after) ≡ Some c.in-Some.word.now = sym c.in_ok-word.ensures.next ∙ ap option_copied c.in-Some.is in
    let next = next_after words c.args.text.now (option_copied c.words.after) c.in-Some.word.now c.in_ok-word.ensures.rise is in
    gathered_more (λ (word : List ℕ). names.Word word) c.words.found.items c.add_word.new.found.items c.in-Some.word.now
    (words_after c.args.text.now (option_copied c.words.after) words) (words_after c.args.text.now (Some c.in-Some.word.now) words) _
    c.words.invariant next
    c.in_ok-add_word.ensures

pub returns : goal.returns
returns g c =
    let words = (g.T.Lists.named c.args.sources.now.lists.now).words in
    gathered_all (λ (word : List ℕ). names.Word word) c.words.found.items (words_after c.args.text.now (option_copied c.words.after) words) _
    c.words.invariant (none_after words c.args.text.now (option_copied c.words.after) (sym c.in_ok-word.ensures.next ∙ ap option_copied c.in_default.is))
