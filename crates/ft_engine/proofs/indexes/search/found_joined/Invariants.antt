use Rattle.ft_engine.proofs.indexes.search.found_joined.Given as goal

-- the steps are counted in a ledger of their own
abbrev pub ghosts-found_in : goal.ghosts-found_in
ghosts-found_in a = record { name = a.blank.name; parts = a.blank.parts }
