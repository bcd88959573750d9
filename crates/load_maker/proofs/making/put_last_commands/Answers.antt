use Rattle.load_maker.proofs.StepLaws.{five_put, on_ok}
use Rattle.load_maker.proofs.making.put_last_commands.Goals as goal

pub returns : goal.returns
returns c =
    on_ok c.put_command-5.result _ _
    (λ last. five_put c.args.out.now.items _ _ _ _ _ _ _ _ _ _ c.in_ok-put_command.ensures c.in_ok-put_command-2.ensures c.in_ok-put_command-3.ensures c.in_ok-put_command-4.ensures last)
    c.put_command-5.ensures
