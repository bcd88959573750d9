use lib.ListN.{get_or}
use Rattle.std.proofs.Common.{rules, ◌≡◌, ◌+◌, List, take, subst, ap, ◌∙◌, arith}
use Rattle.std.proofs.lemmas.Grind.{common_steps}
use Rattle.std.specs.List.{flat_map}
use Rattle.id_iters.specs.Fitting.{leaves_of, leaves_of_ahead}
use Rattle.id_iters.specs.declared.iter.Ahead.{Ahead}
use Rattle.id_iters.specs.declared.iter.Iter.{Iter}
use Rattle.id_iters.proofs.HintLaws.{hinted_more, hinted_same, next_part}
use Rattle.id_iters.proofs.Layers.{leaves_and, leaves_or}
use Rattle.id_iters.proofs.ReadAheadLaws.{on_ok}
use Rattle.id_iters.proofs.hints.+add_hints.Goals as goal

pub add_hints-returns-in-And-clause-hinted : goal.add_hints-returns-in-And-clause-hinted
add_hints-returns-in-And-clause-hinted g t c =
    on_ok c.add_parts.result _ _
    (hinted_same (g.T.Lists.held c.args.lists.now) c.args.after (flat_map leaves_of c.in-And.parts) (leaves_of c.args.iter.now) _ _ (ap leaves_of c.in-And.is ∙ leaves_and c.in-And.parts)) c.add_parts.ensures.hinted

pub add_hints-returns-in-Or-clause-hinted : goal.add_hints-returns-in-Or-clause-hinted
add_hints-returns-in-Or-clause-hinted g t c =
    on_ok c.add_union.result _ _
    (hinted_same (g.T.Lists.held c.args.lists.now) c.args.after (flat_map leaves_of_ahead c.in-Or.parts) (leaves_of c.args.iter.now) _ _ (ap leaves_of c.in-Or.is ∙ leaves_or c.in-Or.parts c.in-Or.stretch)) c.add_union.ensures.hinted

pub add_parts-parts-preserved : goal.add_parts-parts-preserved
add_parts-parts-preserved g t c =
    let part = c.part-item.result in
    record {
      hinted =
          hinted_more (g.T.Lists.held c.args.lists.now) c.args.after (flat_map leaves_of (take c.parts.part-index c.args.parts.now)) (leaves_of part) (flat_map leaves_of (take (c.parts.part-index + 1) c.args.parts.now)) _ _ _
          (next_part leaves_of c.args.parts.now c.parts.part-index part (search rules) (subst (λ (parts : List Iter). part ≡ get_or parts c.parts.part-index part) c.as_slice-part-items.ensures c.part-item.is)) c.parts.invariant.hinted c.in_ok-add_hints.ensures.hinted;
      counts = search rules;
    }

pub add_union-parts-preserved : goal.add_union-parts-preserved
add_union-parts-preserved g t c =
    let part = c.part-item.result in
    record {
      hinted =
          hinted_more (g.T.Lists.held c.args.lists.now) c.args.after (flat_map leaves_of_ahead (take c.parts.part-index c.args.parts.now)) (leaves_of_ahead part) (flat_map leaves_of_ahead (take (c.parts.part-index + 1) c.args.parts.now)) _ _ _
          (next_part leaves_of_ahead c.args.parts.now c.parts.part-index part (search rules) (subst (λ (parts : List Ahead). part ≡ get_or parts c.parts.part-index part) c.as_slice-part-items.ensures c.part-item.is)) c.parts.invariant.hinted c.in_ok-add_ahead.ensures.hinted;
      counts = search rules;
    }

pub add_parts-returns-clause-hinted : goal.add_parts-returns-clause-hinted
add_parts-returns-clause-hinted g t c = grind (arith, common_steps)

pub add_union-returns-clause-hinted : goal.add_union-returns-clause-hinted
add_union-returns-clause-hinted g t c = grind (arith, common_steps)
