-- What is due: the commands up to the first QUIT.
use Rattle.std.proofs.Common.{◌≡◌, Bool, true, false, cond, List, [], ◌∷◌, ◌++◌, refl, ap, ◌∙◌}
use Rattle.std.specs.Prelude.{◌||◌}
use Rattle.std.proofs.lemmas.Bool.{or_parts}
use Rattle.std.proofs.lemmas.List.Folds.{list_any-append}
use Rattle.ft_base.specs.Words.{is_quit}
use Rattle.resp_wire.specs.Stream.{Command, until_quit, NextIsLong}
use Rattle.ft_server.specs.Session.{quits}

-- behind commands without QUIT, a QUIT is one of the others
pub quits_behind : (first others : List Command) → quits first ≡ false → quits (first ++ others) ≡ quits others
quits_behind first others h = list_any-append is_quit first others ∙ ap (λ b. b || quits others) h

-- commands without QUIT are due, and so are the others up to their QUIT
pub due_behind : (first others : List Command) → quits first ≡ false → until_quit (first ++ others) ≡ first ++ until_quit others
due_behind [] others h = refl
due_behind (command ∷ first) others h =
    let p = or_parts (is_quit command) (quits first) h in
    ap (λ b. cond b (command ∷ []) (command ∷ until_quit (first ++ others))) p.0 ∙ ap (λ (cs : List Command). command ∷ cs) (due_behind first others p.1)

-- a QUIT is the last that is due
pub due_at_quit : (command : Command) (others : List Command) → is_quit command ≡ true → until_quit (command ∷ others) ≡ command ∷ []
due_at_quit command others h = ap (λ b. cond b (command ∷ []) (command ∷ until_quit others)) h

-- the next command is due
pub long_is_due : (commands : List Command) → NextIsLong commands → NextIsLong (until_quit commands)
long_is_due [] h = h
long_is_due (command ∷ others) h = by_test (is_quit command) command others h
  where
    by_test : (b : Bool) (c : Command) (cs : List Command) → NextIsLong (c ∷ cs) → NextIsLong (cond b (c ∷ []) (c ∷ until_quit cs))
    by_test true c cs k = k
    by_test false c cs k = k
