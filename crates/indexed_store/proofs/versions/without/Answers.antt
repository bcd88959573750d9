use Rattle.std.specs.Prelude.{is_some, List, not, ℕ}
use Rattle.std.proofs.Common.{sym, subst}
use Rattle.ft_base.specs.Hash.{Hash, get_field}
use Rattle.indexed_store.proofs.VersionsLaws.{Copies, copies-done, copies-next, copies-none}
use Rattle.indexed_store.proofs.versions.without.Goals as goal

pub loop-field-init : goal.loop-field-init
loop-field-init c =
    let keep = λ (field : List ℕ × List ℕ). not (is_some (get_field c.args.gone.now field.0)) in
    let none = copies-none keep c.args.hash.now c.requires in
    subst (λ (rest : Hash). Copies keep c.args.hash.now c.new-left.result rest) (sym c.walk-walk.ensures) (subst (λ (left : Hash). Copies keep c.args.hash.now left c.args.hash.now) (sym c.new-left.ensures) none)

pub loop-field-preserved : goal.loop-field-preserved
loop-field-preserved c =
    copies-next c.args.gone.now c.args.hash.now c.loop-field.left c.keep_unless.new.left c.loop-field.walk c.next.new.self (c.in-Some.field.now, c.in-Some.value.now) c.in-Some.ensures
    c.in_ok-keep_unless.ensures c.loop-field.invariant

pub returns : goal.returns
returns c =
    let keep = λ (field : List ℕ × List ℕ). not (is_some (get_field c.args.gone.now field.0)) in
    copies-done keep c.args.hash.now c.loop-field.left (subst (Copies keep c.args.hash.now c.loop-field.left) c.in_default.ensures.0 c.loop-field.invariant)
