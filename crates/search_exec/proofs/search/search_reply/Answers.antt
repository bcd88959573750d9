use Rattle.std.proofs.Common.{◌≡◌, List, subst}
use Rattle.std.specs.Prelude.{IfOk, OnOk, length}
use Rattle.cmd_parse.specs.Seen.{search_of}
use Rattle.ft_base.specs.Docs.{Doc}
use Rattle.ft_machine.specs.Counted.{in_order}
use Rattle.ft_machine.specs.Shown.{found_reply}
use Rattle.hash_store.specs.Store.{reads_after}
use Rattle.doc_reads.specs.Pages.{reads_for}
use Rattle.search_exec.proofs.search.search_reply.Goals as goal

pub returns-clause-reply : goal.returns-clause-reply
returns-clause-reply g c =
    let what = search_of c.args.search.now in
    subst (λ (docs : List Doc). IfOk c.reply_of-reply.result (λ reply. reply ≡ found_reply what c.args.def.now (in_order what.sort c.args.def.now docs)))
    c.in_ok-candidates.ensures.docs c.reply_of-reply.ensures.reply

pub returns-clause-reads : goal.returns-clause-reads
returns-clause-reads g c =
    let what = search_of c.args.search.now in
    subst (λ (docs : List Doc). OnOk c.reply_of-reply.result (c.reply_of-reply.new.store.reads ≡ reads_after c.args.store.now.reads (reads_for what c.args.def.now (length docs))))
    c.in_ok-candidates.ensures.docs c.reply_of-reply.ensures.reads
