use Rattle.std.proofs.Common.{ap}
use Rattle.hash_store.specs.Store.{Store}
use Rattle.search_exec.proofs.ColumnLaws.{reads-next, shown-next}
use Rattle.search_exec.proofs.by_column.show_ids.Goals as goal

pub showing-preserved : goal.showing-preserved
showing-preserved c =
    let shape = c.args.shape.now in
    let store = c.args.store.now in
    let rows = c.showing.yielded in
    let row = c.in-Some.row in
    let was = c.showing.invariant in
    let next = c.in_ok-show_id.ensures in
    record {
      shown = shown-next shape rows row store.space c.showing.store.space c.showing.replies.items c.show_id.new.replies.items c.args.replies.now.items (ap (λ (store : Store). store.space) was.reads) was.shown next.row;
      bits = was.bits;
      reads = reads-next shape rows row store c.showing.store c.show_id.new.store was.reads next.reads;
    }
