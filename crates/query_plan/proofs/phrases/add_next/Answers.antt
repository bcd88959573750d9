use Rattle.std.proofs.Common.{rules, ◌+◌, [], ◌∷◌, ◌++◌, List, ℕ, refl, sym, subst}
use Rattle.id_iters.specs.Places.{LeavesReady}
use Rattle.id_iters.specs.declared.leaf.Leaf.{Leaf}
use Rattle.list_plan.specs.Known.{place_of}
use Rattle.list_plan.specs.Plans.{AllKnown, AllOpen}
use Rattle.query_plan.specs.Phrases.{AreOfWords}
use Rattle.query_plan.proofs.TurnLaws.{word_again}
use Rattle.query_plan.proofs.phrases.add_next.Goals as goal

pub returns-then-is_of_word-clause-words : goal.returns-then-is_of_word-clause-words
returns-then-is_of_word-clause-words g c = λ words are.
    let same = sym c.in_ok-add_turn.ensures.leaves in
    subst (λ (leaves : List Leaf). AreOfWords (words ++ c.args.word.now ∷ []) leaves c.add_turn.new.made.order) same
    (subst (λ (order : List ℕ). AreOfWords (words ++ c.args.word.now ∷ []) c.args.made.now.leaves order) (sym c.in_ok-add_turn.ensures.order)
    (word_again words c.args.made.now.leaves c.args.made.now.order c.args.word.now c.place_in-place.result are (search rules)))

pub returns-then-is_of_word-clause-ready : goal.returns-then-is_of_word-clause-ready
returns-then-is_of_word-clause-ready g c = λ all.
    subst (λ (leaves : List Leaf). LeavesReady (g.T.Lists.held c.args.sources.now.lists.now) leaves (c.args.sources.now.after + 1)) (sym c.in_ok-add_turn.ensures.leaves) all

pub returns-then-is_of_word-clause-placed : goal.returns-then-is_of_word-clause-placed
returns-then-is_of_word-clause-placed g c = λ all.
    subst (λ (leaves : List Leaf). AllOpen (g.T.Lists.held c.args.sources.now.lists.now) c.args.sources.now.after leaves) (sym c.in_ok-add_turn.ensures.leaves) all

pub returns-then-is_of_word-clause-free : goal.returns-then-is_of_word-clause-free
returns-then-is_of_word-clause-free g c = λ all.
    (subst (AllKnown (place_of c.args.sources.now.known.now)) c.in_ok-add_turn.ensures.leaves all, refl)
