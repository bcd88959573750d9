use Rattle.std.proofs.Common.{rules, ◌≡◌, ◌∙◌, ◌++◌, ◌∷◌, [], ap, ◌+◌, ◌-◌, ◌*◌, ℤ, length, Some, Option, IfSome, sym, subst, arith}
use Rattle.std.proofs.lemmas.Grind.{elements}
use Rattle.std.proofs.lemmas.Result.{on_ok_weaker}
use mir.Syntax.{w64}
use mir.Val.{SFits, of_z, to_z}
use Rattle.std.proofs.lemmas.Int.{to_z-of_z}
use Rattle.numeric_ranges.specs.Added.{added}
use Rattle.numeric_ranges.specs.Ranges.{AreParted, IsAbove, Rows}
use Rattle.numeric_ranges.specs.Values.{Entries}
use Rattle.ft_index.specs.Markers.{AllBefore, TakesLists, slot_marker}
use Rattle.ft_index.specs.Lists.{list_from}
use Rattle.ft_index.specs.Numbering.{RowsGain, value_entry}
use Rattle.ft_index.specs.UpTo.{RowsUpTo}
use Rattle.ft_index.proofs.OutcomeLaws.{either, either-both}
use Rattle.ft_index.proofs.RangeLaws.{above-up_to, added-come, added-takes, added-up_to}
use Rattle.ft_index.proofs.TakingLaws.{lists-lost, lists-none}
use Rattle.ft_index.proofs.numbers.add_value.Goals as goal

pub returns-clause-gains : goal.returns-clause-gains
returns-clause-gains c =
    let fits : SFits w64 c.in-Some-value.value = search rules in
    let same : to_z w64 (of_z w64 c.in-Some-value.value) ≡ c.in-Some-value.value = to_z-of_z w64 c.in-Some-value.value fits in
    on_ok_weaker c.add.result (λ parts.
    subst (λ (value : Option ℤ). RowsGain (value_entry c.args.id value) c.args.slot.now (Some c.add.new.self)) (sym c.in-Some-value.is)
    (subst (λ (slot : Option Rows). RowsGain (value_entry c.args.id (Some c.in-Some-value.value)) slot (Some c.add.new.self)) (sym c.in-Some.is) (
      c.add.ensures.partition,
      subst (λ (v : ℤ). (es : Entries) → AreParted es c.in-Some.rows → AreParted (es ++ (c.args.id, record { value = v }) ∷ []) c.add.new.self) same parts,
    )))
    c.add.ensures.parts

pub returns-clause-up_to : goal.returns-clause-up_to
returns-clause-up_to c =
    let fits : SFits w64 c.in-Some-value.value = search rules in
    let same : to_z w64 (of_z w64 c.in-Some-value.value) ≡ c.in-Some-value.value = to_z-of_z w64 c.in-Some-value.value fits in
    let above : IsAbove c.args.id c.in-Some.rows = subst (λ (slot : Option Rows). IfSome slot (IsAbove c.args.id)) c.in-Some.is c.requires.above in
    either c.add.result c.add.ensures.ok c.add.ensures.err
    (λ is. subst (RowsUpTo c.args.id) (sym (is ∙ ap (λ (v : ℤ). added c.in-Some.rows c.args.id v c.args.markers.now) same)) (added-up_to c.in-Some.rows c.args.id c.in-Some-value.value c.args.markers.now c.count.ensures.partition.ids above))
    (λ old. subst (RowsUpTo c.args.id) (sym old) (above-up_to c.args.id c.in-Some.rows c.count.ensures.partition.ids above))

pub returns-clause-takes : goal.returns-clause-takes
returns-clause-takes c =
    let fits : SFits w64 c.in-Some-value.value = search rules in
    let same : to_z w64 (of_z w64 c.in-Some-value.value) ≡ c.in-Some-value.value = to_z-of_z w64 c.in-Some-value.value fits in
    let before : AllBefore c.args.markers.now (slot_marker (Some c.in-Some.rows)) = subst (λ (slot : Option Rows). AllBefore c.args.markers.now (slot_marker slot)) c.in-Some.is c.requires.before in
    let Takes : Rows → Type 0 = λ new. TakesLists c.args.markers.now c.add.new.markers (list_from (Some c.in-Some.rows)) (list_from (Some new)) in
    subst (λ (slot : Option Rows). TakesLists c.args.markers.now c.add.new.markers (list_from slot) (list_from (Some c.add.new.self))) (sym c.in-Some.is)
    (either-both c.add.result c.add.ensures.ok c.add.ensures.taken c.add.ensures.err
    (λ was taken. let is = was ∙ ap (λ (v : ℤ). added c.in-Some.rows c.args.id v c.args.markers.now) same in subst Takes (sym is)
    (record {
      markers = added-takes c.in-Some.rows c.args.id c.in-Some-value.value c.args.markers.now c.add.new.markers before c.add.ensures.event c.add.ensures.rises
          (subst (λ (rows : Rows). c.add.new.markers.next ≡ c.args.markers.now.next + 2 * (length rows - length c.in-Some.rows)) is taken);
      come = added-come c.in-Some.rows c.args.id c.in-Some-value.value c.args.markers.now;
    }))
    (λ old. subst Takes (sym old) (lists-lost c.args.markers.now c.add.new.markers (list_from (Some c.in-Some.rows)) c.add.ensures.event c.add.ensures.rises before)))

pub returns-in_default-value-clause-up_to : goal.returns-in_default-value-clause-up_to
returns-in_default-value-clause-up_to c = grind (arith, elements)

pub returns-in_default-value-clause-takes : goal.returns-in_default-value-clause-takes
returns-in_default-value-clause-takes c =
    let same = lists-none c.args.markers.now (list_from c.args.slot.now) in
    let there = subst (λ (slot : Option Rows). TakesLists c.args.markers.now c.args.markers.now (list_from c.args.slot.now) (list_from slot)) c.in-Some.is same in
    search (rules, same, there)
