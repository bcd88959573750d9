use Rattle.std.proofs.Common.{◌≡◌, ◌∙◌, List, ℕ, Bool, sym, ap, subst, IfOk}
use Rattle.std.specs.List.{list_any}
use Rattle.std.specs.Option.{option_copied}
use Rattle.phrase_match.specs.Turns.{in_turn}
use Rattle.id_iters.specs.Entries.{field_of, stand_in}
use Rattle.id_iters.proofs.PhraseLaws.{first_stands, none_stand}
use Rattle.id_iters.proofs.places.stand_together.Goals as goal

pub returns : goal.returns
returns c =
    subst (λ (b : Bool). IfOk c.stand_in_some.result (λ answer. answer ≡ b))
    (ap (λ (codes : List ℕ). list_any (λ code. stand_in c.args.fields.now c.args.slop c.args.in_order (in_turn c.args.words.now c.args.order.now) (field_of code)) codes) c.codes_at-codes.ensures
    ∙ first_stands c.args.fields.now c.args.slop c.args.in_order c.args.words.now c.args.order.now c.in-Some.first.now (sym c.first.ensures.value ∙ ap option_copied c.in-Some.is))
    c.stand_in_some.ensures
