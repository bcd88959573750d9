use Rattle.load_maker.proofs.StepLaws.{eight_put, on_ok}
use Rattle.load_maker.proofs.documents.put_setting.Goals as goal

pub returns : goal.returns
returns c =
    on_ok c.put_numbered-3.result _ _
    (λ last. eight_put c.args.out.now.items _ _ _ _ _ _ _ _ _ _ _ _ _ _ _ _ _ _ c.in_ok-put_count.ensures c.in_ok-put_word.ensures c.in_ok-put_numbered.ensures
    c.in_ok-put_word-2.ensures c.in_ok-put_word-3.ensures c.in_ok-put_word-4.ensures c.in_ok-put_numbered-2.ensures c.in_ok-put_word-5.ensures last)
    c.put_numbered-3.ensures
