use Rattle.std.proofs.Common.{◌≡◌, arith, sym, subst}
use Rattle.std.specs.Prelude.{IsTrue}
use Rattle.std.proofs.lemmas.Grind.{common_steps}
use Rattle.ft_base.specs.Reply.{fits_wire}
use Rattle.ft_base.specs.declared.reply.Reply.{Reply}
use Rattle.ft_base.specs.declared.reply.Reply.TheVariants.{Array}
use Rattle.ft_machine.specs.Aggregating.{rows_reply}
use Rattle.search_exec.proofs.RowsReplyLaws.{rows-fit}
use Rattle.search_exec.proofs.replied_rows.rows_reply.Goals as goal

pub returns-clause-fits : goal.returns-clause-fits
returns-clause-fits c =
    let same : Array c.from_vec.result ≡ rows_reply c.args.rows.items = grind (arith, common_steps) in
    subst (λ (reply : Reply). IsTrue (fits_wire reply)) (sym same) (rows-fit c.args.rows.items)

pub showing-preserved : goal.showing-preserved
showing-preserved c = grind (arith, common_steps)

pub returns-clause-reply : goal.returns-clause-reply
returns-clause-reply c = grind (arith, common_steps)
