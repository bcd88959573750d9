use Rattle.leaf_rows.proofs.lists.splices.put_found_behind.Given as goal

-- each reading counts in a ledger of its own
abbrev pub ghosts-put_sought : goal.ghosts-put_sought
ghosts-put_sought a = record { name = a.blank.name; parts = a.blank.parts }
