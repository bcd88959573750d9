use Rattle.std.proofs.Common.{◌≡◌, ◌∙◌, ap, arith, drop, refl, rules}
use Rattle.std.specs.Option.{option_copied}
use Rattle.ft_index.specs.Parting.{behind}
use Rattle.ft_index.specs.Picturing.{slots_named}
use Rattle.ft_index.proofs.CollectLaws.{left-none}
use Rattle.ft_index.proofs.PartLaws.{takes-end, takes-slot}
use Rattle.ft_index.proofs.PictureLaws.{rise-all, rise-more}
use Rattle.ft_index.proofs.parting.part_ranges.Goals as goal

pub fields-init : goal.fields-init
fields-init g c = record { takes = λ rest. refl; rise = λ field below. absurd (omega (arith, below)) }

pub fields-preserved : goal.fields-preserved
fields-preserved g c =
    let ranges = c.args.ranges.now in
    let k = c.fields.number in
    let one : c.in-Ok.field ≡ k = search rules in
    record {
      takes = λ rest.
          takes-slot (option_copied c.args.hand) ranges k c.in-Ok.field _ c.index-ranges-number.result c.fields.part c.part_slot.new.part c.fields-test.true (cc (c.index-ranges-number.is)) one
          c.in_ok-part_slot.ensures.takes rest
          ∙ c.fields.invariant.takes rest;
      rise = rise-more ranges k _ c.index-ranges-number.result c.fields-test.true (cc (c.index-ranges-number.is)) c.in_ok-part_slot.ensures.rise c.fields.invariant.rise;
    }

pub returns-clause-takes : goal.returns-clause-takes
returns-clause-takes g c =
    let ranges = c.args.ranges.now in
    let hand = option_copied c.args.hand in
    takes-end hand (slots_named c.fields.number (drop c.fields.number ranges)) (behind hand (slots_named 0 ranges)) c.args.part.now c.fields.part
    (ap (slots_named c.fields.number) (left-none ranges c.fields.number c.fields-test.false)) c.fields.invariant.takes

pub returns-clause-rise : goal.returns-clause-rise
returns-clause-rise g c = rise-all c.args.ranges.now c.fields.number c.fields-test.false c.fields.invariant.rise
