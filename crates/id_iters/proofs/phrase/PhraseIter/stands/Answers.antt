use Rattle.std.proofs.Common.{◌≡◌, Bool, List, ℕ, map, sym, ap, ◌∙◌, subst, IfOk}
use Rattle.phrase_match.specs.Places.{AllEqualOrApart, AllRise}
use Rattle.phrase_match.specs.Turns.{in_turn}
use Rattle.id_iters.specs.Entries.{codes_at, stand_together}
use Rattle.id_iters.specs.Leaves.{word_entries}
use Rattle.id_iters.specs.declared.leaf.Leaf.{Leaf}
use Rattle.id_iters.proofs.PhraseLaws.{stands_as, words_apart, words_rise}
use Rattle.id_iters.proofs.phrase.PhraseIter.stands.Goals as goal

pub stand_together-requires-clause-rising : goal.stand_together-requires-clause-rising
stand_together-requires-clause-rising g c =
    subst (λ (l : List (List ℕ)). AllRise l) (sym (c.as_slice-2.ensures ∙ c.in_ok-codes.ensures ∙ ap (λ (l : List Leaf). map (λ (word : Leaf). codes_at (word_entries (g.T.Lists.held c.args.lists.now) word.list) c.args.id) l) c.as_slice.ensures))
    (words_rise (g.T.Lists.held c.args.lists.now) c.requires.lists c.args.id c.requires.live c.args.self.now.words)

pub stand_together-requires-clause-apart : goal.stand_together-requires-clause-apart
stand_together-requires-clause-apart g c =
    subst (λ (l : List (List ℕ)). AllEqualOrApart l) (sym (c.as_slice-2.ensures ∙ c.in_ok-codes.ensures ∙ ap (λ (l : List Leaf). map (λ (word : Leaf). codes_at (word_entries (g.T.Lists.held c.args.lists.now) word.list) c.args.id) l) c.as_slice.ensures))
    (words_apart (g.T.Lists.held c.args.lists.now) c.requires.lists c.args.id c.requires.live c.args.self.now.words)

pub returns : goal.returns
returns g c =
    let held = g.T.Lists.held c.args.lists.now in
    subst (λ (b : Bool). IfOk c.stand_together.result (λ answer. answer ≡ b)) (stands_as held c.args.self.now c.args.id c.requires.at)
    (subst (λ (l : List (List ℕ)). IfOk c.stand_together.result (λ answer. answer ≡ stand_together c.args.self.now.fields c.args.self.now.slop c.args.self.now.in_order (in_turn l c.args.self.now.order)))
    (c.as_slice-2.ensures ∙ c.in_ok-codes.ensures ∙ ap (λ (l : List Leaf). map (λ (word : Leaf). codes_at (word_entries held word.list) c.args.id) l) c.as_slice.ensures)
    (subst (λ (order : List ℕ). IfOk c.stand_together.result (λ answer. answer ≡ stand_together c.args.self.now.fields c.args.self.now.slop c.args.self.now.in_order (in_turn c.as_slice-2.result.now order)))
    c.as_slice-3.ensures c.stand_together.ensures))
