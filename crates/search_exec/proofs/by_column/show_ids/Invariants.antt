use Rattle.std.specs.Prelude.{◌≡◌, ◌<◌, ◌^◌, ◌++◌, length}
use Rattle.std.specs.List.{flat_map}
use Rattle.hash_store.specs.Store.{reads_after}
use Rattle.doc_reads.specs.Pages.{reads_shown}
use Rattle.search_exec.specs.Ranks.{docs_at}
use Rattle.doc_reads.specs.Shapes.{row_by}
use Rattle.search_exec.proofs.by_column.show_ids.Given as goal

-- the documents of the ids so far behind what was there
abbrev pub invariant-showing : goal.invariant-showing
invariant-showing l = record {
  shown : l.replies.items ≡ l.fn.replies.items ++ flat_map (row_by l.shape) (docs_at l.yielded l.fn.store.space);
  bits : l.fn.store.reads < 2 ^ 64;
  reads : l.store ≡ record l.fn.store { reads = reads_after l.fn.store.reads (reads_shown l.shape (length (docs_at l.yielded l.fn.store.space))) };
}
