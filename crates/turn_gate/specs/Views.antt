-- What each step makes of what a pass knows. No public clause cites this file.
use Rattle.std.specs.Prelude.{ℕ, ◌+◌, true, false, List, [], ◌++◌}
use Rattle.turn_gate.specs.Log.{longer, shorter}
use Rattle.turn_gate.specs.declared.view.View.{View}

module _ {E : Type 0} where
  -- the first pass has seen nothing, and is alone
  abbrev pub newcomer : ℕ → View E
  newcomer first = record {
    seen = [];
    told = [];
    turns = 0;
    first = first;
    passes = 0;
    before = 0;
    alone = true;
    in_turn = false;
    spent = false;
  }

  -- a pass that another was split from is alone no more
  abbrev pub not_alone : View E → View E
  not_alone v = record v { alone = false }

  -- a new pass has seen as much, has taken no turn, and comes behind all passes that the old one knew of
  abbrev pub another : View E → View E
  another v = record {
    seen = v.seen;
    told = [];
    turns = 0;
    first = v.first;
    passes = 0;
    before = v.passes;
    alone = false;
    in_turn = false;
    spent = false;
  }

  -- a turn begins, and the whole log is seen
  abbrev pub in_turn_with : View E → List E → View E
  in_turn_with v log = record v { seen = log; told = []; turns = v.turns + 1; in_turn = true; spent = false }

  -- the log has grown by these entries
  abbrev pub with_entries : View E → List E → View E
  with_entries v es = record v { seen = v.seen ++ es; told = []; in_turn = true; spent = false }

  -- the turn is over
  abbrev pub out_of_turn : View E → View E
  out_of_turn v = record v { told = []; in_turn = false; spent = false }

  -- so many passes were made
  abbrev pub with_passes : View E → ℕ → View E
  with_passes v made = record v { passes = made; in_turn = false; spent = false }

  -- a pass that another was joined to has seen the longer list, and was told of the shorter one
  abbrev pub joined : View E → View E → View E
  joined v w = record v { seen = longer v.seen w.seen; told = shorter v.seen w.seen; in_turn = false; spent = false }

  -- the other pass is spent
  abbrev pub nobody : View E
  nobody = record {
    seen = [];
    told = [];
    turns = 0;
    first = 0;
    passes = 0;
    before = 0;
    alone = false;
    in_turn = false;
    spent = true;
  }
