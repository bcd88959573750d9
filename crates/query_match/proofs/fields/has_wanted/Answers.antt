use Rattle.std.proofs.Common.{List, ◌≤◌, length, sym, subst, ◌∙◌}
use Rattle.std.proofs.lemmas.Bool.{false≢true}
use Rattle.ft_base.specs.declared.definition.Field.{Field}
use Rattle.ft_meaning.specs.Meaning.{field_tokens}
use Rattle.query_match.proofs.SearchedLemmas.{field_at, missed_more, searched_has, searched_none}
use Rattle.query_match.specs.Wanted.{is_met}
use Rattle.query_match.proofs.fields.has_wanted.Goals.{else-is_searched-via-then-is_searched+in_ok-field_has+else-branch, else-is_searched-via-else-is_searched}
use Rattle.query_match.proofs.fields.has_wanted.Goals as goal

pub returns-then-branch : goal.returns-then-branch
returns-then-branch c =
    sym (searched_has (λ (field : Field). is_met c.args.wanted (field_tokens c.args.def.now c.args.doc.now field)) c.args.def.now c.args.fields.now
    c.fields.number c.field-item.result
    (field_at c.as_slice-field-items.result.now c.args.def.now.fields c.fields.number c.field-item.result c.as_slice-field-items.ensures c.fields-test.true c.field-item.is)
    (sym c.is_searched.ensures ∙ c.if-is_searched.true)
    (sym c.in_ok-field_has.ensures ∙ c.if-branch.true))

pub fields-preserved : goal.fields-preserved
fields-preserved c =
    let more =
    missed_more (λ (field : Field). is_met c.args.wanted (field_tokens c.args.def.now c.args.doc.now field)) c.args.def.now c.args.fields.now
    c.fields.number c.field-item.result
    (field_at c.as_slice-field-items.result.now c.args.def.now.fields c.fields.number c.field-item.result c.as_slice-field-items.ensures c.fields-test.true c.field-item.is)
    c.fields.invariant in
    elim c.else-is_searched.branch [
      | else-is_searched-via-then-is_searched+in_ok-field_has+else-branch w ↦ more (λ named. sym w.in_ok-field_has.ensures ∙ w.if-branch.false)
      | else-is_searched-via-else-is_searched w ↦ more (λ named. absurd (false≢true (sym w.if-is_searched.false ∙ (c.is_searched.ensures ∙ named))))
    ]

pub returns : goal.returns
returns c =
    sym (searched_none (λ (field : Field). is_met c.args.wanted (field_tokens c.args.def.now c.args.doc.now field)) c.args.def.now c.args.fields.now
    c.fields.number (subst (λ (fields : List Field). length fields ≤ c.fields.number) c.as_slice-field-items.ensures c.fields-test.false)
    c.fields.invariant)
