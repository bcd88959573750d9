use Rattle.std.proofs.Common.{◌++◌, ap, ◌∙◌}
use Rattle.resp_wire.specs.Request.{request}
use Rattle.load_maker.specs.Load.{creating}
use Rattle.load_maker.proofs.StepLaws.{load_put}
use Rattle.load_maker.proofs.making.make.Goals as goal

pub returns : goal.returns
returns c =
    load_put c.args.seed c.args.docs c.put_creating.new.out.items c.put_all_documents.new.out.items c.put_last_commands.new.out.items
    (c.in_ok-put_creating.ensures ∙ ap (λ items. items ++ request creating) c.new-out.ensures.items) c.in_ok-put_all_documents.ensures c.in_ok-put_last_commands.ensures
