use Rattle.std.proofs.Common.{◌≡◌, true, false, sym, ap₂, ◌∙◌, List, ℕ, [], ◌∷◌}
use Rattle.clap.specs.Words.{found_of}
use Rattle.command_line.proofs.TextLaws.{is_given, not_none, text_given}
use Rattle.command_line.proofs.texts.two_in.Goals as goal

pub returns-in_err-first-clause-read : goal.returns-in_err-first-clause-read
returns-in_err-first-clause-read c a b are first second =
    absurd (not_none c.get_str.result a (text_given (found_of c.args.texts.now) c.args.first.now a c.get_str.result c.get_str.ensures first) c.in_err-first.was)

pub returns-in_err-second-clause-read : goal.returns-in_err-second-clause-read
returns-in_err-second-clause-read c a b are first second =
    absurd (not_none c.get_str-2.result b (text_given (found_of c.args.texts.now) c.args.second.now b c.get_str-2.result c.get_str-2.ensures second) c.in_err-second.was)

pub returns-else-are-clause-read : goal.returns-else-are-clause-read
returns-else-are-clause-read c a b are first second =
    let first_is = is_given c.get_str.result a c.in_ok-first.first (text_given (found_of c.args.texts.now) c.args.first.now a c.get_str.result c.get_str.ensures first) c.in_ok-first.was in
    let second_is = is_given c.get_str-2.result b c.in_ok-second.second (text_given (found_of c.args.texts.now) c.args.second.now b c.get_str-2.result c.get_str-2.ensures second) c.in_ok-second.was in
    let holds : c.are.result ≡ true = c.are.ensures.1 (are ∙ ap₂ (λ (x y : List ℕ). c.args.name.now ∷ x ∷ y ∷ []) (sym first_is) (sym second_is)) in
    absurd (let bad : true ≡ false = sym holds ∙ c.if-are.false in cc)
