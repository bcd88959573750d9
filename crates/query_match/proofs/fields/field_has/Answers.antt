use Rattle.std.proofs.Common.{List, sym, subst}
use Rattle.query_match.proofs.PlacesLemmas.{field_tokens-rise}
use Rattle.query_match.specs.Places.{PlacesRise}
use Rattle.token_text.specs.declared.token.Token.{Token}
use Rattle.query_match.proofs.fields.field_has.Goals as goal

pub is_met-requires : goal.is_met-requires
is_met-requires c =
    subst (λ (found : List Token). PlacesRise found) (sym c.in_ok-found.ensures)
    (field_tokens-rise c.args.def.now c.args.doc.now c.args.field.now)
