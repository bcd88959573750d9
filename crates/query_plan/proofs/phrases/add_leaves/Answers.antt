use Rattle.std.proofs.Common.{rules, [], List, ℕ, take, refl, sym, subst, arith}
use Rattle.std.proofs.lemmas.Grind.{common_steps}
use Rattle.id_iters.specs.declared.leaf.Leaf.{Leaf}
use Rattle.list_plan.proofs.UnionLaws.{more}
use Rattle.query_plan.specs.Phrases.{AreOfWords}
use Rattle.query_plan.proofs.TurnLaws.{none_of_words}
use Rattle.query_plan.proofs.phrases.add_leaves.Goals as goal

pub words-preserved : goal.words-preserved
words-preserved g c =
    let words = c.args.phrase.now.words.now in
    record {
      words =
          subst (λ (ws : List (List ℕ)). AreOfWords ws c.add_next.new.made.leaves c.add_next.new.made.order)
          (sym (more words c.words.word-index c.word-item.result (search rules) c.word-item.is))
          (c.in_ok-add_next.ensures.words (take c.words.word-index words) c.words.invariant.words);
      ready = c.in_ok-add_next.ensures.ready c.words.invariant.ready;
      placed = c.in_ok-add_next.ensures.placed c.words.invariant.placed;
      free = λ known. let both = c.in_ok-add_next.ensures.free known in grind (arith, common_steps);
      counts = search rules;
    }

pub words-init : goal.words-init
words-init g c = record {
  words =
      subst (λ (leaves : List Leaf). AreOfWords [] leaves c.args.made.now.order) (sym c.requires.empty)
      (subst (λ (order : List ℕ). AreOfWords [] [] order) (sym c.requires.none) none_of_words);
  ready = search rules;
  placed = search rules;
  free = λ known. refl;
  counts = search rules;
}

pub returns-clause-words : goal.returns-clause-words
returns-clause-words g c = grind (arith, common_steps)
