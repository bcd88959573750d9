use Rattle.std.proofs.Common.{◌≡◌, ℕ, ◌-◌, ◌<◌, [], ◌++◌, length, ap, subst, rules, arith}
use Rattle.query_lex.specs.Context.{context_behind}
use Rattle.query_lex.specs.Lexemes.{at_place}
use Rattle.query_lex.specs.Places.{Rise}
use Rattle.query_lex.proofs.Lexing.{begins, goes_on_from, stops_from, ended_at}
use Rattle.query_lex.proofs.Rising.{rises}
use Rattle.query_lex.proofs.lexer.lexed.Goals as goal

pub lexing-init : goal.lexing-init
lexing-init c =
    let none : c.new-found.result.items ≡ [] = search rules in
    record { lexes = rw none (begins c.args.text.now); within = omega arith; places = rw none (omega arith) }

pub lexing-preserved : goal.lexing-preserved
lexing-preserved c =
    let more : c.add.new.found.items ≡ c.lexing.found.items ++ at_place (length c.args.text.now - length c.lexing.rest.now) c.in-Ok.read.0 = search rules in
    let behind : c.context_behind-context.result ≡ context_behind c.lexing.context c.in-Ok.read.0 = search rules in
    let left : length c.in-Ok.read.1.now < length c.lexing.rest.now = omega (arith, c.in-Ok.ensures.within, ap length c.in-Some.ensures.some) in
    let later : length c.args.text.now - length c.lexing.rest.now < length c.args.text.now - length c.in-Ok.read.1.now = omega (arith, left, c.lexing.invariant.within) in
    record {
      lexes = rw (more, behind) (goes_on_from _ _ _ _ _ _ _ _ _ c.in-Some.ensures.some c.in-Ok.ensures.read c.in-Ok.ensures.within c.lexing.invariant.lexes);
      within = omega (arith, left, c.lexing.invariant.within);
      places = rw more (rises 0 _ _ _ c.in-Ok.read.0 later c.lexing.invariant.places);
    }

pub returns-in-Err-clause-read : goal.returns-in-Err-clause-read
returns-in-Err-clause-read c = stops_from _ _ _ _ _ _ _ _ c.in-Some.ensures.some c.in-Err.ensures.read c.lexing.invariant.lexes

pub returns : goal.returns
returns c =
    let all : length c.args.text.now - length c.lexing.rest.now ≡ length c.args.text.now = omega (arith, ap length c.in_default.ensures.none) in
    let P : ℕ → Type 0 = λ end. Rise 0 end c.lexing.found.items in
    record {
      read = ended_at _ _ _ _ _ c.in_default.ensures.none c.lexing.invariant.lexes;
      places = subst P all c.lexing.invariant.places;
    }
