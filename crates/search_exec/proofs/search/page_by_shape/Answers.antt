use Rattle.std.proofs.Common.{◌≡◌, ℕ, List, length, ap, sym, subst, arith}
use Rattle.std.specs.Prelude.{IfOk, OnOk, Option}
use Rattle.ft_base.specs.Docs.{Doc}
use Rattle.ft_base.specs.declared.reply.Reply.{Reply}
use Rattle.search_exec.proofs.SearchLaws.{page-without-key, page-without-rows, reads-without-rows}
use Rattle.search_exec.specs.Candidates.{in_candidates}
use Rattle.doc_reads.specs.Ids.{docs_in}
use Rattle.hash_store.specs.Store.{reads_after}
use Rattle.doc_reads.specs.Pages.{ordered_by, reads_by, reads_of}
use Rattle.doc_reads.specs.Shapes.{page_by}
use Rattle.doc_reads.specs.declared.shape.SortKey.{SortKey}
use Rattle.search_exec.proofs.search.page_by_shape.Goals as goal
use Rattle.search_exec.proofs.search.page_by_shape.Goals.{in_default-via-in-Some+else-shape-gt0, in_default-via-in_default}

pub returns-in_default-clause-reply : goal.returns-in_default-clause-reply
returns-in_default-clause-reply g c =
    let shape = c.args.shape.now in
    let docs : List Doc = docs_in (in_candidates (g.T.Lists.held c.args.lists.now) c.args.candidates.now) c.args.store.now.space in
    let same : page_by shape docs ≡ page_by shape (ordered_by shape.sort docs) =
    elim c.in_default.branch [
      | in_default-via-in-Some+else-shape-gt0 w ↦ page-without-rows shape docs (omega (arith, w.if-shape-gt0.false))
      | in_default-via-in_default w ↦ page-without-key shape docs w.in_default.is
    ] in
    subst (λ (page : Reply). IfOk c.page_by_ids.result (λ reply. reply ≡ page)) same c.page_by_ids.ensures.reply

pub returns-in_default-clause-reads : goal.returns-in_default-clause-reads
returns-in_default-clause-reads g c =
    let shape = c.args.shape.now in
    let count : ℕ = length (docs_in (in_candidates (g.T.Lists.held c.args.lists.now) c.args.candidates.now) c.args.store.now.space) in
    let same : reads_of shape count ≡ reads_by shape shape.sort count =
    elim c.in_default.branch [
      | in_default-via-in-Some+else-shape-gt0 w ↦ reads-without-rows shape shape.sort count (omega (arith, w.if-shape-gt0.false))
      | in_default-via-in_default w ↦ ap (λ (sort : Option SortKey). reads_by shape sort count) (sym w.in_default.is)
    ] in
    subst (λ (more : ℕ). OnOk c.page_by_ids.result (c.page_by_ids.new.store.reads ≡ reads_after c.args.store.now.reads more)) same c.page_by_ids.ensures.reads
