use Rattle.std.proofs.Common.{◌≡◌, ◌∙◌, ap, arith, drop, refl, rules}
use Rattle.ft_index.specs.Picturing.{slots_named}
use Rattle.ft_index.proofs.CollectLaws.{left-none}
use Rattle.ft_index.proofs.PictureLaws.{rise-all, rise-more, shown-end, slot-more}
use Rattle.ft_index.proofs.scanning.picture_ranges.Goals as goal

pub fields-init : goal.fields-init
fields-init c = record { named = refl; rise = λ field below. absurd (omega (arith, below)) }

pub fields-preserved : goal.fields-preserved
fields-preserved c =
    let ranges = c.args.ranges.now in
    let k = c.fields.number in
    let one : c.in-Ok.field ≡ k = search rules in
    record {
      named = slot-more ranges k c.in-Ok.field _ c.index-ranges-number.result c.fields.all c.picture_slot.new.all c.fields-test.true (cc (c.index-ranges-number.is)) one c.in_ok-picture_slot.ensures.named
          ∙ c.fields.invariant.named;
      rise = rise-more ranges k _ c.index-ranges-number.result c.fields-test.true (cc (c.index-ranges-number.is)) c.in_ok-picture_slot.ensures.rise c.fields.invariant.rise;
    }

pub returns-clause-named : goal.returns-clause-named
returns-clause-named c =
    let ranges = c.args.ranges.now in
    shown-end c.fields.all (slots_named c.fields.number (drop c.fields.number ranges)) _ (ap (slots_named c.fields.number) (left-none ranges c.fields.number c.fields-test.false)) c.fields.invariant.named

pub returns-clause-rise : goal.returns-clause-rise
returns-clause-rise c = rise-all c.args.ranges.now c.fields.number c.fields-test.false c.fields.invariant.rise
