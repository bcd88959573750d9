use Rattle.std.proofs.Common.{cond, [], ◌∷◌, ◌++◌, ap, ◌∙◌}
use Rattle.id_iters.proofs.ReadingLaws.{answer_is}
use Rattle.id_iters.proofs.ReadAheadLaws.{on_ok}
use Rattle.id_iters.proofs.reading.read_entry.Goals as goal

pub returns : goal.returns
returns g c = λ done left e f.
    on_ok c.push_if.result _ _
    (λ made. made ∙ ap (λ b. cond b (c.args.ids.now.items ++ c.args.found.now.id ∷ []) c.args.ids.now.items)
    (answer_is c.is_wanted.result c.in_ok-wanted.wanted _ c.in_ok-wanted.was (c.is_wanted.ensures done left e f))) c.push_if.ensures
