use Rattle.leaf_rows.proofs.lists.postings.put_between.Given as goal

-- each walk counts in a ledger of its own
abbrev pub ghosts-put_places : goal.ghosts-put_places
ghosts-put_places a = record { name = a.blank.name; parts = a.blank.parts }
