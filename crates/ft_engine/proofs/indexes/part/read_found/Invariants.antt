use Rattle.ft_engine.proofs.indexes.part.read_found.Given as goal

-- the steps are counted in a ledger of their own
abbrev pub ghosts-next_rows : goal.ghosts-next_rows
ghosts-next_rows a = record { name = a.blank.name; parts = a.blank.parts }
