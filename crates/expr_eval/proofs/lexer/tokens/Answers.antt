use Rattle.std.proofs.Common.{◌≡◌, ◌-◌, ◌<◌, [], ◌++◌, length, ap, rules, arith}
use Rattle.expr_eval.specs.Tokens.{at_place}
use Rattle.expr_eval.proofs.Lexing.{begins, goes_on_from, ended_at}
use Rattle.expr_eval.proofs.lexer.tokens.Goals as goal

pub lexing-init : goal.lexing-init
lexing-init c =
    let none : c.new-found.result.items ≡ [] = search rules in
    record { lexes = rw none (begins c.args.text.now); within = omega arith }

pub lexing-preserved : goal.lexing-preserved
lexing-preserved c =
    let more : c.add.new.found.items ≡ c.lexing.found.items ++ at_place (length c.args.text.now - length c.lexing.rest.now) c.in_ok-kind.kind = search rules in
    let left : length c.in_ok-kind.behind.now < length c.lexing.rest.now = omega (arith, c.in_ok-kind.ensures.within, ap length c.in-Some.ensures.some) in
    record {
      lexes = rw more (goes_on_from _ _ _ _ _ _ _ _ c.in-Some.ensures.some c.in_ok-kind.ensures.read c.in_ok-kind.ensures.within c.lexing.invariant.lexes);
      within = omega (arith, left, c.lexing.invariant.within);
    }

pub returns : goal.returns
returns c = ended_at _ _ _ _ c.in_default.ensures.none c.lexing.invariant.lexes
