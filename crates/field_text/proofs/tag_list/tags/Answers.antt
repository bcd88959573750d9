use Rattle.std.proofs.Common.{◌==◌, ◌∙◌, ap, fold, [], rules}
use borrow.Author.Tests.{tests}
use Rattle.std.proofs.lemmas.Iterator.Consumers.{YieldsList-end, YieldsList-at}
use Rattle.std.proofs.lemmas.Iterator.Splits.{YieldsList-from_slice_split}
use Rattle.std.proofs.lemmas.Result.{IfOk-weaker}
use Rattle.field_text.specs.Seen.{with_piece}
use Rattle.field_text.proofs.TagLaws.{all_seen}
use Rattle.field_text.proofs.tag_list.tags.Goals as goal

pub returns : goal.returns
returns c =
    let all = YieldsList-end (YieldsList-at c.into_iter-piece-iterator.ensures.into_iter_gives (YieldsList-from_slice_split _ (λ b. b == c.args.separator) c.args.text.now c.split-piece-items.ensures.rest c.split-piece-items.ensures.done c.split-piece-items.ensures.closure (λ x r q k. search (rules, tests))))
    c.cutting.yielded _ c.cutting.yielded_by _ _ c.in-None.is c.next.ensures.steps in
    IfOk-weaker c.listed.result _ _ (λ tags e. e ∙ (c.cutting.invariant ∙ (ap (fold (with_piece c.args.case) []) all.0 ∙ all_seen c.args.text.now c.args.separator c.args.case))) c.listed.ensures
