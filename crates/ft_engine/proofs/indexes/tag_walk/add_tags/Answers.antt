use Rattle.std.proofs.Common.{ap, sym, [], ◌∷◌}
use Rattle.std.proofs.lemmas.List.Sums.{fold-append}
use Rattle.field_text.specs.Seen.{seen}
use Rattle.ft_machine.specs.TagValues.{with_tag}
use Rattle.ft_engine.proofs.TagLaws.{seen_insert}
use Rattle.ft_engine.proofs.indexes.tag_walk.add_tags.Goals as goal

pub adding-preserved : goal.adding-preserved
adding-preserved c =
    rw (fold-append with_tag (seen c.args.found.now.keys) c.adding.yielded (c.in-Some.tag ∷ []))
    (rw (sym c.adding.invariant) (rw (sym c.into_vec.ensures) (rw (sym (seen_insert c.adding.found.keys c.into_vec.result)) (ap seen c.in_ok-insert.ensures.keys))))
