use Rattle.cursor_law.proofs.HistoryLaws.{all-given, all-hits, all-rise, all-shown, whole-of}
use Rattle.cursor_law.proofs.laws.cursor_law.Goals as goal

pub returns-clause-rises : goal.returns-clause-rises
returns-clause-rises g c readings first entries after legal earlier later opening cursor some split opens =
    all-rise cursor opening later (whole-of (record { tree = c.one_tree.ensures; never_both = c.tree_or_fault.ensures.never_both }) readings first entries after legal earlier later opening cursor some split opens)

pub returns-clause-hits : goal.returns-clause-hits
returns-clause-hits g c readings first entries after legal earlier later opening cursor some split opens = all-hits cursor opening later

pub returns-clause-complete : goal.returns-clause-complete
returns-clause-complete g c readings first entries after legal earlier later opening cursor some split opens =
    all-given cursor opening later (whole-of (record { tree = c.one_tree.ensures; never_both = c.tree_or_fault.ensures.never_both }) readings first entries after legal earlier later opening cursor some split opens)

pub returns-clause-rows : goal.returns-clause-rows
returns-clause-rows g c readings first entries after legal earlier later opening cursor some split opens =
    all-shown cursor opening later (whole-of (record { tree = c.one_tree.ensures; never_both = c.tree_or_fault.ensures.never_both }) readings first entries after legal earlier later opening cursor some split opens)
