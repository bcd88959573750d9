use Rattle.ft_engine.proofs.indexes.bodies.rows_body.Given as goal

-- the steps are counted in a ledger of their own
abbrev pub ghosts-all_rows : goal.ghosts-all_rows
ghosts-all_rows a = record { name = a.blank.name; parts = a.blank.parts }
