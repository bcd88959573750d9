use Rattle.leaf_rows.proofs.holders.bytes_of_steps.Given as goal

-- the ledger of the blank that is passed
abbrev pub ghosts-count_twice : goal.ghosts-count_twice
ghosts-count_twice a = record { name = a.blank.name; parts = a.blank.parts }
