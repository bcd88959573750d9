use Rattle.std.proofs.Common.{ℕ, List, ◌<◌, ◌≤◌, length}
use Rattle.std.specs.Prelude.{get_or}
use Rattle.ft_base.specs.declared.limits.TheConstants.{MAX_WORD_BYTES}
use Rattle.list_figures.proofs.documents.values_fit.Given as goal

-- the values so far fit
abbrev pub invariant-values : goal.invariant-values
invariant-values l = (i : ℕ) (d : List ℕ × List ℕ) → i < l.i → length (get_or l.hash i d).1 ≤ MAX_WORD_BYTES
