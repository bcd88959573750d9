-- What reducers see of a lent value is what they see of the value.
use Rattle.std.proofs.Common.{◌≡◌, sym, ap, ◌∙◌}
use Rattle.ft_base.specs.declared.row.Value.TheFolds.{fold-roll-Value}
use Rattle.ft_base.specs.declared.row.Value.TheOpen as layer
use Rattle.ft_base.specs.declared.row.Value.TheVariants as value
use Rattle.expr_eval.specs.Values.{Operand, operand_of, operand_step}
use Rattle.agg_pipeline.specs.Seen.{operand_seen, seen}
use Rattle.agg_pipeline.specs.declared.seen.Seen.{Seen}
use Rattle.agg_pipeline.specs.declared.seen.Seen.TheVariants as lent

pub operand-seen : (s : Seen) → operand_of (seen s) ≡ operand_seen s
operand-seen lent.Null = ap operand_of (sym value.rolls-Null) ∙ fold-roll-Value Operand operand_step layer.Null
operand-seen (lent.Num n) = ap operand_of (sym (value.rolls-Num n)) ∙ fold-roll-Value Operand operand_step (layer.Num n)
operand-seen (lent.Text text) = ap operand_of (sym (value.rolls-Text text.now)) ∙ fold-roll-Value Operand operand_step (layer.Text text.now)
operand-seen (lent.List values) = ap operand_of (sym (value.rolls-List values.now)) ∙ fold-roll-Value Operand operand_step (layer.List values.now)
