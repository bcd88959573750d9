use Rattle.leaf_rows.proofs.lists.plans.plan_over.Given as goal

-- each plan counts in a ledger of its own
abbrev pub ghosts-plan_of : goal.ghosts-plan_of
ghosts-plan_of a = record { name = a.blank.name; parts = a.blank.parts }
