use Rattle.std.proofs.Common.{◌≡◌, ◌∙◌, ◌∷◌, [], false, rules, sym}
use Rattle.std.specs.Option.{option_copied}
use Rattle.id_iters.specs.declared.list_name.ListName.TheVariants as names
use Rattle.ft_index.specs.Parting.{behind, is_behind}
use Rattle.ft_index.specs.Snapshots.{RangeList}
use Rattle.ft_index.proofs.PartLaws.{not-behind, takes-none, takes-spent}
use Rattle.ft_index.proofs.parting.part_row.Goals as goal

pub returns-then-is_spent : goal.returns-then-is_spent
returns-then-is_spent g c =
    takes-spent c.args.part.now (behind (option_copied c.args.hand) ((names.Range c.args.field c.args.low, RangeList c.args.list.now) ∷ [])) (sym c.is_spent.ensures ∙ c.if-is_spent.true)

pub returns : goal.returns
returns g c =
    let hand = option_copied c.args.hand in
    let passed : is_behind hand (names.Range c.args.field c.args.low) ≡ false = search rules in
    takes-none c.args.part.now (behind hand ((names.Range c.args.field c.args.low, RangeList c.args.list.now) ∷ []))
    (not-behind hand (names.Range c.args.field c.args.low, RangeList c.args.list.now) passed)
