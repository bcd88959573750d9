-- What clap hands out of what it found.
use Rattle.std.proofs.Common.{◌≡◌, List, Option, Some, None, option_map, ap, ◌∙◌}
use Rattle.std.specs.Prelude.{Box}
use Rattle.std.specs.Borrow.{Bor}
use Rattle.std.specs.Box.{box_value}
use Rattle.clap.specs.Words.{Row, Text, first_of, first_value, rows_of, subcommand_rows}
use Rattle.clap.specs.declared.parser.matches.ArgMatches.TheViews.{out-SubCommand}
use Rattle.clap.specs.declared.parser.matches.Found.{Found}
use Rattle.clap.specs.declared.parser.matches.SubCommand.{SubCommand}
use Rattle.clap.proofs.WalkLemmas.{first_value-rows}

-- a text that was found is handed out
pub text_given : (f : Found) (id a : Text) (given : Option (Bor Text)) → option_map (λ (s : Bor Text). s.now) given ≡ first_value f id → first_of id (rows_of f) ≡ Some a
    → option_map (λ (s : Bor Text). s.now) given ≡ Some a
text_given f id a given is found = is ∙ first_value-rows f id ∙ found

pub not_none : (given : Option (Bor Text)) (a : Text) → option_map (λ (s : Bor Text). s.now) given ≡ Some a → given ≡ None → ⊥
not_none None a is none = absurd (cc)
not_none (Some s) a is none = absurd (cc)

pub is_given : (given : Option (Bor Text)) (a : Text) (s : Bor Text) → option_map (λ (s : Bor Text). s.now) given ≡ Some a → given ≡ Some s → s.now ≡ a
is_given None a s is some = absurd (cc)
is_given (Some t) a s is some = cc

-- the name of the subcommand that was found
module _ {Z : Type 0} where
  pub name_found : (o : Option (Box SubCommand Z)) (name : Text) (rows : List Row) → subcommand_rows o ≡ Some (name, rows)
      → option_map (λ (b : Box SubCommand Z). (out-SubCommand (box_value b)).name.now) o ≡ Some name
  name_found None name rows is = absurd (cc)
  name_found (Some b) name rows is = ap (option_map (λ (p : Text × List Row). p.0)) is
