use Rattle.std.proofs.Common.{◌≡◌, length, ℕ, ◌-◌, ap, ◌∙◌, arith}
use Rattle.expr_eval.specs.Answer.{place}
use Rattle.expr_eval.specs.Reading.{Syntax, TooDeep}
use Rattle.expr_eval.specs.Tokens.{kinds}
use Rattle.expr_eval.proofs.Faults.{syntax_parts, deep_parts, tree_is, same_tree, no_fault}
use Rattle.expr_eval.proofs.parser.parse_tokens.Goals as goal

pub overflow_sub-tokens : goal.overflow_sub-tokens
overflow_sub-tokens c = let p = syntax_parts c.args.levels c.args.tokens.now c.in-Err-Syntax.rest.now (rw c.in-Err-Syntax.field-0-is at c.in-Err-Syntax.ensures) in omega (arith, p.len)

pub overflow_sub-tokens-in-Err-TooDeep : goal.overflow_sub-tokens-in-Err-TooDeep
overflow_sub-tokens-in-Err-TooDeep c = let p = deep_parts c.args.levels c.args.tokens.now c.in-Err-TooDeep.rest.now (rw c.in-Err-TooDeep.field-0-is at c.in-Err-TooDeep.ensures) in omega (arith, p.len)

pub returns-in-Ok-clause-exact : goal.returns-in-Ok-clause-exact
returns-in-Ok-clause-exact c = tree_is c.args.levels c.args.tokens.now c.in-Ok.tree c.in-Ok.ensures

pub returns-in-Err-Syntax-clause-exact : goal.returns-in-Err-Syntax-clause-exact
returns-in-Err-Syntax-clause-exact c =
    let p = syntax_parts c.args.levels c.args.tokens.now c.in-Err-Syntax.rest.now (rw c.in-Err-Syntax.field-0-is at c.in-Err-Syntax.ensures) in
    let i : length c.args.tokens.now - length c.in-Err-Syntax.rest.now ≡ length p.front = omega (arith, p.len) in
    (p.front, kinds c.in-Err-Syntax.rest.now, p.parts, c.place_of.ensures ∙ ap (λ (k : ℕ). place c.args.tokens.now k c.args.end) i, p.holds)

pub returns-in-Err-TooDeep-clause-exact : goal.returns-in-Err-TooDeep-clause-exact
returns-in-Err-TooDeep-clause-exact c =
    let p = deep_parts c.args.levels c.args.tokens.now c.in-Err-TooDeep.rest.now (rw c.in-Err-TooDeep.field-0-is at c.in-Err-TooDeep.ensures) in
    let i : length c.args.tokens.now - length c.in-Err-TooDeep.rest.now ≡ length p.front = omega (arith, p.len) in
    (p.front, kinds c.in-Err-TooDeep.rest.now, p.parts, c.place_of-in-Err-TooDeep.ensures ∙ ap (λ (k : ℕ). place c.args.tokens.now k c.args.end) i, p.holds)

pub returns-in-Ok-clause-only : goal.returns-in-Ok-clause-only
returns-in-Ok-clause-only c = λ a d. same_tree c.args.levels (kinds c.args.tokens.now) a c.in-Ok.tree d c.in-Ok.ensures

pub returns-in-Err-Syntax-clause-only : goal.returns-in-Err-Syntax-clause-only
returns-in-Err-Syntax-clause-only c = λ a d. no_fault c.args.levels (kinds c.args.tokens.now) a (Syntax (kinds c.in-Err-Syntax.rest.now)) d (rw c.in-Err-Syntax.field-0-is at c.in-Err-Syntax.ensures)

pub returns-in-Err-TooDeep-clause-only : goal.returns-in-Err-TooDeep-clause-only
returns-in-Err-TooDeep-clause-only c = λ a d. no_fault c.args.levels (kinds c.args.tokens.now) a (TooDeep (kinds c.in-Err-TooDeep.rest.now)) d (rw c.in-Err-TooDeep.field-0-is at c.in-Err-TooDeep.ensures)
