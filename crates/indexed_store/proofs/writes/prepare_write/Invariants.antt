use Rattle.indexed_store.proofs.writes.prepare_write.Given as goal

-- the indexes stand for the documents of the store
abbrev pub ghost-prepare_all : goal.ghost-prepare_all
ghost-prepare_all g a = g.space
