use Rattle.indexed_store.proofs.writes.prepare_hash.Given as goal

-- the documents of the store
abbrev pub ghost-prepare_write : goal.ghost-prepare_write
ghost-prepare_write a = a.store.now.space
