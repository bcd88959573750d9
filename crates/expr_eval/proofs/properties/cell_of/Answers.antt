use Rattle.std.proofs.Common.{◌≡◌, ◌∙◌, ℕ, Bool, true, false, cond, List, [], ◌∷◌, Option, Some, refl, ap}
use Rattle.std.specs.Option.{option_map}
use Rattle.std.specs.Str.{bytes_eq}
use Rattle.ft_base.specs.Named.{item_of}
use Rattle.ft_base.specs.declared.row.Cell.{Cell}
use Rattle.expr_eval.specs.Properties.{cell_of}
use Rattle.expr_eval.proofs.properties.cell_of.Goals as goal

abbrev named_cell : List Cell → List ℕ → Option Cell
named_cell cells name = item_of (λ (c : Cell). c.name) cells name

-- the value of the first cell of a name
first-value : (cells : List Cell) (name : List ℕ) → option_map (λ (c : Cell). c.value) (named_cell cells name) ≡ cell_of cells name
first-value [] name = refl
first-value (c ∷ cells) name = by_test (bytes_eq c.name name) (named_cell cells name) ∙ ap (cond (bytes_eq c.name name) (Some c.value)) (first-value cells name)
  where
    by_test : (b : Bool) (others : Option Cell) → option_map (λ (d : Cell). d.value) (cond b (Some c) others) ≡ cond b (Some c.value) (option_map (λ (d : Cell). d.value) others)
    by_test true others = refl
    by_test false others = refl

pub returns-in-Some : goal.returns-in-Some
returns-in-Some c = ap (option_map (λ (d : Cell). d.value)) c.in-Some.ensures ∙ first-value c.args.cells.now c.args.name.now

pub returns-in-None : goal.returns-in-None
returns-in-None c = ap (option_map (λ (d : Cell). d.value)) c.in-None.ensures ∙ first-value c.args.cells.now c.args.name.now
