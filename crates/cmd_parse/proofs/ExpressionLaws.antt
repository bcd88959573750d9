-- The tree that is read of an expression's text is the one that the grammar gives it.
use Rattle.std.proofs.Common.{◌≡◌, ℕ, List, ◌∷◌, Some, None, Result, Ok, Err, refl, sym, ap, subst, ◌∙◌}
use Rattle.expr_eval.specs.declared.fault.ExprFault.{ExprFault}
use Rattle.expr_eval.specs.declared.fault.ExprFault.TheVariants as faults
use Rattle.expr_eval.specs.declared.tree.Expr.{Expr}
use Rattle.expr_eval.specs.Answer.{most_levels, IsAnswer, IsTree, IsFault}
use Rattle.expr_eval.specs.Reading.{Stop as Unread, whole_at}
use Rattle.expr_eval.specs.Tokens.{kinds, tokens_of}
use Rattle.expr_eval.proofs.Faults.{Found, whole_again, whole_answers}
use Rattle.expr_eval.proofs.OneAnswer.{never_both}
use Rattle.cmd_parse.specs.AggregateWords.{expression_at, expression_stop, expression_with, tree_of, tree_or_none}
use Rattle.cmd_parse.specs.Gives.{Stops}
use Rattle.cmd_parse.specs.Words.{Word, fault}
use Rattle.cmd_parse.specs.declared.stop.Cause.TheVariants.{Syntax}

pub tree-found : (text : List ℕ) (tree : Expr) → IsTree text tree → tree_of text ≡ Some tree
unfolding tree_of
tree-found text tree is = ap tree_or_none (whole_again most_levels (kinds (tokens_of text)) tree is)

pub tree-spelled : (text : List ℕ) (tree : Expr) → tree_of text ≡ Some tree → IsTree text tree
unfolding tree_of
tree-spelled text tree found = by_read (whole_at most_levels (kinds (tokens_of text))) (whole_answers most_levels (kinds (tokens_of text))) found
  where
    by_read : (read : Result Expr Unread) → Found most_levels (kinds (tokens_of text)) read → tree_or_none read ≡ Some tree → IsTree text tree
    by_read (Ok other) is e =
        let same : other ≡ tree = cc in
        subst (λ (t : Expr). IsTree text t) same is
    by_read (Err stop) is e = absurd (cc)

pub no-tree : (text : List ℕ) (f : ExprFault) → IsFault text f → tree_of text ≡ None
unfolding tree_of
no-tree text f is = by_read (whole_at most_levels (kinds (tokens_of text))) (whole_answers most_levels (kinds (tokens_of text)))
  where
    by_read : (read : Result Expr Unread) → Found most_levels (kinds (tokens_of text)) read → tree_or_none read ≡ None
    by_read (Ok tree) spelled = absurd (never_both text tree f spelled is)
    by_read (Err stop) spelled = refl

-- and so the next word is read
pub expression-read : (words rest : List Word) (text : Word) (tree : Expr) → words ≡ text ∷ rest → IsTree text tree → expression_at words ≡ Ok (tree, rest)
expression-read words rest text tree whole is = ap expression_at whole ∙ ap (λ found. expression_with found (text ∷ rest) rest) (tree-found text tree is)

expression-refused : (words rest : List Word) (text : Word) (f : ExprFault) → words ≡ text ∷ rest → IsFault text f → expression_at words ≡ fault Syntax words
expression-refused words rest text f whole is =
    ap expression_at whole ∙ (ap (λ found. expression_with found (text ∷ rest) rest) (no-tree text f is) ∙ ap (λ (ws : List Word). fault {A = Expr × List Word} Syntax ws) (sym whole))

pub expression-stops : (words rest : List Word) (text : Word) (f : ExprFault) → words ≡ text ∷ rest → IsAnswer text (Err f) → Stops (expression_stop f words) (expression_at words)
expression-stops words rest text faults.NoMemory whole is = tt
expression-stops words rest text (faults.Syntax at) whole is = expression-refused words rest text (faults.Syntax at) whole is
expression-stops words rest text (faults.TooDeep at) whole is = expression-refused words rest text (faults.TooDeep at) whole is
