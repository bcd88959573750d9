use Rattle.std.proofs.Common.{◌∙◌, ap, sym, subst}
use Rattle.std.proofs.lemmas.Result.{on_ok_weaker}
use Rattle.std.specs.Map.{set_value}
use Rattle.ft_index.specs.Collected.{Collected, AreMet, is_key, codes_of}
use Rattle.ft_index.proofs.CollectedLaws.{codes_of-pushed, codes_of-first, met-pushed, met-first}
use Rattle.ft_index.proofs.words.note.Goals as goal

pub returns-in-Some-clause-codes : goal.returns-in-Some-clause-codes
returns-in-Some-clause-codes c =
    on_ok_weaker c.push.result (λ pushed other.
    ap (λ (es : Collected). codes_of es other) ((c.get_mut.follows.holds c.push.new.self).0 ∙ ap (set_value (is_key c.args.word.now) c.args.found.now.entries) pushed)
    ∙ codes_of-pushed c.args.word.now other c.args.code c.in-Some.places.now c.args.found.now.entries (sym c.in-Some.ensures.value)) c.push.ensures.ok

pub returns-in-Some-clause-met : goal.returns-in-Some-clause-met
returns-in-Some-clause-met c =
    on_ok_weaker c.push.result (λ pushed met.
    subst AreMet (sym ((c.get_mut.follows.holds c.push.new.self).0 ∙ ap (set_value (is_key c.args.word.now) c.args.found.now.entries) pushed))
    (met-pushed c.args.word.now c.args.code c.in-Some.places.now c.args.found.now.entries met)) c.push.ensures.ok

pub returns-clause-codes : goal.returns-clause-codes
returns-clause-codes c other =
    ap (λ (es : Collected). codes_of es other) c.in_ok-insert.ensures.entries
    ∙ codes_of-first c.args.word other c.args.code c.in_ok-places.places _ c.args.found.now.entries
    (ap (λ m. m.entries) c.get_mut.follows.holds-at-none)
    c.in_ok-places.ensures (sym c.in_default.ensures.value)

pub returns-clause-met : goal.returns-clause-met
returns-clause-met c met =
    subst AreMet (sym c.in_ok-insert.ensures.entries)
    (met-first c.args.word c.args.code c.in_ok-places.places _ c.args.found.now.entries (ap (λ m. m.entries) c.get_mut.follows.holds-at-none)
    c.in_ok-places.ensures met)
