use Rattle.std.proofs.Common.{◌≡◌, ℕ, Bool, IfSome, IsSome, Some, refl, subst}
use Rattle.gc_splice.specs.Splice.{Fits, picture_of}
use Rattle.term_dict.specs.Terms.{list_of}
use Rattle.term_dict.proofs.FieldLaws.{refills, refilled_rise, spliced_count, spliced_gone, spliced_there}
use Rattle.term_dict.proofs.TagLaws.{tags_found}
use Rattle.term_dict.proofs.tags.splice_tag.Goals as goal

pub splice-spliced-requires : goal.splice-spliced-requires
splice-spliced-requires c =
    subst (λ tags. IfSome (list_of tags c.args.tag.now) (λ l. c.args.repair.now.seen ≡ l.marker → (live : ℕ → Bool) × Fits live c.args.repair.now (picture_of l)))
    (tags_found c.args.field c.args.fields.now.entries (Some c.in-Some.tags.now) c.in-Some.ensures.value) c.requires

pub returns-clause-gone : goal.returns-clause-gone
returns-clause-gone c =
    let rows = c.args.fields.now.entries in
    let after = c.splice-spliced.new.self in
    let new = (c.get_mut.follows.lender after).entries in
    let written = c.get_mut.follows.holds after in
    let updates = written.3 (subst IsSome c.in-Some.ensures.value refl) in
    let change = refills c.args.field c.in-Some.tags.now after rows new c.in-Some.ensures.value written.0 updates.1 updates.2 in
    spliced_gone c.args.field c.args.tag.now c.in-Some.tags.now after rows new change c.splice-spliced.result c.splice-spliced.ensures.gone

pub returns-clause-there : goal.returns-clause-there
returns-clause-there c =
    let rows = c.args.fields.now.entries in
    let after = c.splice-spliced.new.self in
    let new = (c.get_mut.follows.lender after).entries in
    let written = c.get_mut.follows.holds after in
    let updates = written.3 (subst IsSome c.in-Some.ensures.value refl) in
    let change = refills c.args.field c.in-Some.tags.now after rows new c.in-Some.ensures.value written.0 updates.1 updates.2 in
    spliced_there c.args.field c.args.tag.now c.in-Some.tags.now after rows new change c.args.repair.now c.args.marker c.splice-spliced.result c.splice-spliced.ensures.there

pub returns-clause-counted : goal.returns-clause-counted
returns-clause-counted c =
    let rows = c.args.fields.now.entries in
    let after = c.splice-spliced.new.self in
    let new = (c.get_mut.follows.lender after).entries in
    let written = c.get_mut.follows.holds after in
    let updates = written.3 (subst IsSome c.in-Some.ensures.value refl) in
    let change = refills c.args.field c.in-Some.tags.now after rows new c.in-Some.ensures.value written.0 updates.1 updates.2 in
    spliced_count c.args.field c.args.tag.now c.in-Some.tags.now after rows new change c.splice-spliced.result c.splice-spliced.ensures.counted

pub returns-clause-tags : goal.returns-clause-tags
returns-clause-tags c =
    let rows = c.args.fields.now.entries in
    let after = c.splice-spliced.new.self in
    let new = (c.get_mut.follows.lender after).entries in
    let written = c.get_mut.follows.holds after in
    let updates = written.3 (subst IsSome c.in-Some.ensures.value refl) in
    let change = refills c.args.field c.in-Some.tags.now after rows new c.in-Some.ensures.value written.0 updates.1 updates.2 in
    refilled_rise c.args.field c.args.tag.now c.in-Some.tags.now after rows new change (record { words = c.len.ensures.words; ids = c.len.ensures.ids })
