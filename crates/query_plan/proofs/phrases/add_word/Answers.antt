use Rattle.std.proofs.Common.{◌≡◌, ◌+◌, [], ◌∷◌, ◌++◌, List, ℕ, sym, ap, ◌∙◌, subst}
use Rattle.std.specs.List.{AllByRecursion}
use Rattle.std.specs.Option.{IsSome}
use Rattle.id_iters.specs.Fitting.{IsOpenAt}
use Rattle.id_iters.specs.Places.{WordReady}
use Rattle.id_iters.specs.declared.leaf.Leaf.{Leaf}
use Rattle.id_iters.specs.declared.list_name.ListName.TheVariants as names
use Rattle.list_plan.specs.Known.{place_of}
use Rattle.list_plan.proofs.GainLaws.{all_more, each_more, of_item}
use Rattle.list_plan.proofs.UnionLaws.{all_apart}
use Rattle.query_plan.specs.Phrases.{AreOfWords}
use Rattle.query_plan.proofs.TurnLaws.{word_more}
use Rattle.query_plan.proofs.phrases.add_word.Goals as goal

pub returns-clause-words : goal.returns-clause-words
returns-clause-words g c = λ words are.
    subst (λ (order : List ℕ). AreOfWords (words ++ c.args.word.now ∷ []) c.add_leaf.new.leaves order)
    (sym (c.in_ok-push.ensures.ok ∙ ap (λ n. c.args.made.now.order ++ n ∷ []) c.len.ensures))
    (word_more words c.args.made.now.leaves c.add_leaf.new.leaves c.args.made.now.order c.args.word.now c.in_ok-add_leaf.ensures.item are
    (of_item c.word_leaf.result c.args.made.now.leaves c.add_leaf.new.leaves c.in_ok-add_leaf.ensures (λ (leaf : Leaf). leaf.list ≡ names.Word c.args.word.now) c.word_leaf.ensures.name)
    c.in_ok-add_leaf.ensures.items)

pub returns-clause-ready : goal.returns-clause-ready
returns-clause-ready g c = λ all.
    each_more c.word_leaf.result c.args.made.now.leaves c.add_leaf.new.leaves c.in_ok-add_leaf.ensures
    (λ (leaf : Leaf). WordReady (g.T.Lists.held c.args.sources.now.lists.now) leaf (c.args.sources.now.after + 1)) all c.word_leaf.ensures.ready

pub returns-clause-placed : goal.returns-clause-placed
returns-clause-placed g c = λ all.
    all_more c.word_leaf.result c.args.made.now.leaves c.add_leaf.new.leaves c.in_ok-add_leaf.ensures
    (λ (leaf : Leaf). IsOpenAt (g.T.Lists.held c.args.sources.now.lists.now) leaf.list c.args.sources.now.after leaf.place) all c.word_leaf.ensures.placed

pub returns-clause-free : goal.returns-clause-free
returns-clause-free g c = λ all.
    let is_known = λ (leaf : Leaf). IsSome (place_of c.args.sources.now.known.now leaf.list) in
    let apart = all_apart is_known c.args.made.now.leaves (c.in_ok-add_leaf.ensures.item ∷ []) (subst (AllByRecursion is_known) c.in_ok-add_leaf.ensures.items all) in
    (apart.0, of_item c.word_leaf.result c.args.made.now.leaves c.add_leaf.new.leaves c.in_ok-add_leaf.ensures (λ (leaf : Leaf). is_known leaf → c.word_leaf.new.steps ≡ c.args.steps.now) c.word_leaf.ensures.free apart.1.0)
