use Rattle.ft_engine.proofs.indexes.aggregation.answer_parsed.Given as goal

-- the steps are counted in a ledger of their own
abbrev pub ghosts-rows_in : goal.ghosts-rows_in
ghosts-rows_in a = record { name = a.blank.name; parts = a.blank.parts }
