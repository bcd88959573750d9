use Rattle.std.proofs.Common.{rules, ◌≡◌, ◌∷◌, [], ◌++◌, subst}
use Rattle.agg_pipeline.specs.Feeding.{Holds}
use Rattle.ft_base.specs.Docs.{Doc}
use Rattle.search_exec.proofs.aggregate.note_id.Goals as goal

pub returns-clause-noted : goal.returns-clause-noted
returns-clause-noted c doc found def load steps docs holds =
    let same : c.unwrap-doc.result.now ≡ doc = search (rules, found) in
    subst (λ (doc : Doc). Holds def load steps (docs ++ doc ∷ []) c.note.new.self) same (c.in_ok-note.ensures def load steps docs holds)
