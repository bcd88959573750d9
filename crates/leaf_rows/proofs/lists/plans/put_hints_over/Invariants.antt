use Rattle.leaf_rows.proofs.lists.plans.put_hints_over.Given as goal

-- what hints cost is counted in a ledger of its own
abbrev pub ghosts-hints_of : goal.ghosts-hints_of
ghosts-hints_of a = record { name = a.blank.name; parts = a.blank.parts }
