use Rattle.std.proofs.Common.{◌≡◌, ℕ, suc, ◌-◌, ◌++◌, true, false, Some, sym, ap, ◌∙◌, arith}
use Rattle.std.specs.Prelude.{option_to_list}
use Rattle.ft_base.specs.Kinds.{is_text}
use Rattle.ft_base.specs.declared.query.Fields.TheVariants as asked
use Rattle.query_grammar.specs.Faults.{has_other}
use Rattle.query_grammar.specs.Meaning.{all_of}
use Rattle.query_grammar.specs.Reading.{bar_at, deeper, inter_at, next_sign, same, unary_at, unary_comes}
use Rattle.query_parse.specs.Reads.{reads}
use Rattle.query_parse.proofs.Descent.{field-read, gives-same, group-read, inside-read, part-read, target-broken, target-other, target-read}
use Rattle.query_parse.proofs.Joining.{begins, stops_first}
use Rattle.query_parse.proofs.parser.+parser.Goals as goal

pub field-returns-in-Some-Colon-clause-read : goal.field-returns-in-Some-Colon-clause-read
field-returns-in-Some-Colon-clause-read t c =
    let def = c.args.parser.now.def.now in
    let params = c.args.parser.now.params in
    let n : ℕ = c.args.levels - 1 in
    let level : c.args.levels ≡ suc n = omega arith in
    let colon : next_sign c.in_ok-numbers.rest.now ≡ Some c.in-Some-Colon.field-0 = sym c.next_sign.ensures ∙ c.in-Some-Colon.is in
    gives-same (λ x. (option_to_list x.0, x.1.now)) c.target.result _ _
    (field-read def params c.args.levels n c.args.at c.args.lexemes.now c.in_ok-numbers.rest.now c.in_ok-numbers.numbers.items level c.in_ok-numbers.ensures.read (colon ∙ ap Some c.in-Some-Colon.field-0-is))
    (rw c.behind.ensures.value at c.target.ensures.read)

pub inside-returns-clause-read : goal.inside-returns-clause-read
inside-returns-clause-read t c =
    let def = c.args.parser.now.def.now in
    let params = c.args.parser.now.params in
    gives-same (λ x. (option_to_list x.0, x.1.now)) c.closed.result _ _
    (inside-read def params c.args.fields.now c.args.levels c.args.lexemes.now c.in_ok-sides.rest.now c.in_ok-sides.sides.items c.in_ok-sides.ensures.read)
    (c.closed.ensures.read def params)

pub part-returns-clause-read : goal.part-returns-clause-read
part-returns-clause-read t c =
    let def = c.args.parser.now.def.now in
    let params = c.args.parser.now.params in
    gives-same (λ x. (option_to_list x.0, x.1.now)) c.attributed.result _ _
    (part-read def params (deeper def params c.args.levels) c.args.fields.now c.args.lexemes.now c.in_ok-part.rest.now (option_to_list c.in_ok-part.part) c.quote_comes-is_quote.result
    c.in_ok-part.ensures.read (c.quote_comes-is_quote.ensures def params))
    c.attributed.ensures.read

pub part_target-returns-then-not-begins_atom-clause-read : goal.part_target-returns-then-not-begins_atom-clause-read
part_target-returns-then-not-begins_atom-clause-read t c =
    let def = c.args.parser.now.def.now in
    let params = c.args.parser.now.params in
    target-broken def params (λ fields sort. reads def params fields c.args.levels sort) c.args.numbers.items c.args.lexemes.now
    (sym (c.begins_atom.ensures def params) ∙ c.if-not-begins_atom.true)

pub part_target-returns-then-has_other-clause-read : goal.part_target-returns-then-has_other-clause-read
part_target-returns-then-has_other-clause-read t c =
    let def = c.args.parser.now.def.now in
    let params = c.args.parser.now.params in
    let other : has_other is_text def.fields (asked.Named c.args.numbers.items) ≡ true = rw c.as_slice.ensures.value at (sym c.has_other.ensures) ∙ c.if-has_other.true in
    rw (c.place_of.ensures, c.behind.ensures.value) (target-other def params (λ fields sort. reads def params fields c.args.levels sort) c.args.numbers.items c.args.lexemes.now
    (sym (c.begins_atom.ensures def params) ∙ c.if-not-begins_atom.false) other)

pub part_target-returns-clause-read : goal.part_target-returns-clause-read
part_target-returns-clause-read t c =
    let def = c.args.parser.now.def.now in
    let params = c.args.parser.now.params in
    let other : has_other is_text def.fields (asked.Named c.args.numbers.items) ≡ false = rw c.as_slice.ensures.value at (sym c.has_other.ensures) ∙ c.if-has_other.false in
    gives-same (λ x. (option_to_list x.0, x.1.now)) c.part.result _ _
    (target-read def params (λ fields sort. reads def params fields c.args.levels sort) c.args.numbers.items c.args.lexemes.now
    (sym (c.begins_atom.ensures def params) ∙ c.if-not-begins_atom.false) other)
    (rw c.from_vec.ensures at c.part.ensures.read)

pub inter-returns-in-Err-clause-read : goal.inter-returns-in-Err-clause-read
inter-returns-in-Err-clause-read t c =
    let def = c.args.parser.now.def.now in
    let params = c.args.parser.now.params in
    stops_first unary_comes (unary_at def params (deeper def params c.args.levels) c.args.fields.now) same c.args.lexemes.now c.in-Err.stop c.in-Err.ensures.read

pub inter-joining-init : goal.inter-joining-init
inter-joining-init t c =
    let def = c.args.parser.now.def.now in
    let params = c.args.parser.now.params in
    let items : c.add.new.parts.items ≡ option_to_list c.in-Ok.read.0 = c.in_ok-add.ensures ∙ ap (λ front. front ++ option_to_list c.in-Ok.read.0) c.new-parts.ensures.items in
    record {
      reads = rw items (begins unary_comes (unary_at def params (deeper def params c.args.levels) c.args.fields.now) same c.args.lexemes.now c.in-Ok.read.1.now (option_to_list c.in-Ok.read.0) c.in-Ok.ensures.read);
      shorter = c.in-Ok.ensures.shorter;
    }

pub union-returns-in-Err-clause-read : goal.union-returns-in-Err-clause-read
union-returns-in-Err-clause-read t c =
    let def = c.args.parser.now.def.now in
    let params = c.args.parser.now.params in
    stops_first bar_at (inter_at def params (deeper def params c.args.levels) c.args.fields.now) all_of c.args.lexemes.now c.in-Err.stop c.in-Err.ensures.read

pub union-joining-init : goal.union-joining-init
union-joining-init t c =
    let def = c.args.parser.now.def.now in
    let params = c.args.parser.now.params in
    let items : c.add_side.new.sides.items ≡ all_of c.in-Ok.read.0.items = c.in_ok-add_side.ensures ∙ ap (λ front. front ++ all_of c.in-Ok.read.0.items) c.new-sides.ensures.items in
    record {
      reads = rw items (begins bar_at (inter_at def params (deeper def params c.args.levels) c.args.fields.now) all_of c.args.lexemes.now c.in-Ok.read.1.now c.in-Ok.read.0.items c.in-Ok.ensures.read);
      shorter = c.in-Ok.ensures.shorter;
    }

pub group-returns-clause-read : goal.group-returns-clause-read
group-returns-clause-read t c =
    let def = c.args.parser.now.def.now in
    let params = c.args.parser.now.params in
    let n : ℕ = c.args.levels - 1 in
    let level : c.args.levels ≡ suc n = omega arith in
    gives-same (λ x. (option_to_list x.0, x.1.now)) c.inside.result _ _
    (group-read def params c.args.fields.now c.args.levels n c.args.at c.args.lexemes.now level (sym c.group_ends.ensures ∙ c.if-group_ends.false))
    c.inside.ensures.read
