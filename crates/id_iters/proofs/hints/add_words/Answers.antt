use lib.ListN.{get_or}
use Rattle.std.proofs.Common.{rules, ◌≡◌, ◌+◌, ◌∷◌, [], List, take, subst, arith}
use Rattle.id_iters.specs.declared.leaf.Leaf.{Leaf}
use Rattle.std.proofs.lemmas.Grind.{common_steps}
use Rattle.id_iters.proofs.HintLaws.{hinted_more, next_word}
use Rattle.id_iters.proofs.hints.add_words.Goals as goal

pub words-preserved : goal.words-preserved
words-preserved g c =
    let word = c.word-item.result in
    record {
      hinted =
          hinted_more (g.T.Lists.held c.args.lists.now) c.args.after (take c.words.word-index c.args.words.now) (word ∷ []) (take (c.words.word-index + 1) c.args.words.now) _ _ _
          (next_word c.args.words.now c.words.word-index word (search rules) (subst (λ (words : List Leaf). word ≡ get_or words c.words.word-index word) c.as_slice-word-items.ensures c.word-item.is)) c.words.invariant.hinted c.in_ok-add_leaf.ensures.hinted;
      counts = search rules;
    }

pub returns-clause-hinted : goal.returns-clause-hinted
returns-clause-hinted g c = grind (arith, common_steps)
