use Rattle.std.proofs.Common.{IsSome, refl, subst}
use Rattle.std.proofs.lemmas.Result.{on_ok_weaker, on_err_weaker}
use Rattle.term_dict.proofs.FieldLaws.{refills, refilled_rise, collected_count, collected_gone, collected_ok, if_ok_weaker}
use Rattle.term_dict.proofs.tags.collect_tag.Goals as goal

pub returns-clause-gone : goal.returns-clause-gone
returns-clause-gone g c =
    let rows = c.args.fields.now.entries in
    let after = c.collect_in.new.tags in
    let new = (c.get_mut.follows.lender after).entries in
    let written = c.get_mut.follows.holds after in
    let updates = written.3 (subst IsSome c.in-Some.ensures.value refl) in
    let change = refills c.args.field c.in-Some.tags.now after rows new c.in-Some.ensures.value written.0 updates.1 updates.2 in
    collected_gone c.args.field c.args.tag.now c.in-Some.tags.now after rows new change c.args.markers.now c.collect_in.new.markers c.collect_in.ensures.gone

pub returns-clause-ok : goal.returns-clause-ok
returns-clause-ok g c =
    let rows = c.args.fields.now.entries in
    let after = c.collect_in.new.tags in
    let new = (c.get_mut.follows.lender after).entries in
    let written = c.get_mut.follows.holds after in
    let updates = written.3 (subst IsSome c.in-Some.ensures.value refl) in
    let change = refills c.args.field c.in-Some.tags.now after rows new c.in-Some.ensures.value written.0 updates.1 updates.2 in
    on_ok_weaker c.collect_in.result
    (λ ok. collected_ok c.args.field c.args.tag.now c.in-Some.tags.now after rows new change (g.L.Live.is c.args.live.now) c.args.markers.now c.collect_in.new.markers ok)
    c.collect_in.ensures.ok

pub returns-clause-err : goal.returns-clause-err
returns-clause-err g c =
    let rows = c.args.fields.now.entries in
    let after = c.collect_in.new.tags in
    let new = (c.get_mut.follows.lender after).entries in
    let written = c.get_mut.follows.holds after in
    let updates = written.3 (subst IsSome c.in-Some.ensures.value refl) in
    let change = refills c.args.field c.in-Some.tags.now after rows new c.in-Some.ensures.value written.0 updates.1 updates.2 in
    on_err_weaker c.collect_in.result (λ same. (change.same same.0, same.1)) c.collect_in.ensures.err

pub returns-clause-counted : goal.returns-clause-counted
returns-clause-counted g c =
    let rows = c.args.fields.now.entries in
    let after = c.collect_in.new.tags in
    let new = (c.get_mut.follows.lender after).entries in
    let written = c.get_mut.follows.holds after in
    let updates = written.3 (subst IsSome c.in-Some.ensures.value refl) in
    let change = refills c.args.field c.in-Some.tags.now after rows new c.in-Some.ensures.value written.0 updates.1 updates.2 in
    if_ok_weaker c.collect_in.result _ _
    (λ removed went. collected_count c.args.field c.args.tag.now c.in-Some.tags.now after rows new change removed went)
    c.collect_in.ensures.counted

pub returns-clause-tags : goal.returns-clause-tags
returns-clause-tags g c =
    let rows = c.args.fields.now.entries in
    let after = c.collect_in.new.tags in
    let new = (c.get_mut.follows.lender after).entries in
    let written = c.get_mut.follows.holds after in
    let updates = written.3 (subst IsSome c.in-Some.ensures.value refl) in
    let change = refills c.args.field c.in-Some.tags.now after rows new c.in-Some.ensures.value written.0 updates.1 updates.2 in
    refilled_rise c.args.field c.args.tag.now c.in-Some.tags.now after rows new change c.collect_in.ensures.rise
