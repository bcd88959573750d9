-- A range whose ends are read, and its closing bracket.
use Rattle.std.proofs.Common.{◌≡◌, ℕ, List, [], ◌∷◌, drop, Some, Ok, ap, sym, ◌∙◌}
use Rattle.ft_base.specs.declared.definition.IndexDef.{IndexDef}
use Rattle.ft_base.specs.declared.query.Param.{Param}
use Rattle.ft_base.specs.declared.query.Query.{Query}
use Rattle.ft_base.specs.Reading.{◌>>=◌}
use Rattle.query_lex.specs.declared.lexeme.Lexeme.{Lexeme}
use Rattle.query_lex.specs.declared.lexeme.Sign.TheVariants as signs
use Rattle.query_grammar.specs.Form.{Edge}
use Rattle.query_grammar.specs.Reading.{closed_range, edge_at, next_sign, range_at, range_by}

pub range-read : (def : IndexDef) (params : List Param) (field : ℕ) (ts us vs : List Lexeme) (low high : Edge) (q : Query)
    → edge_at def params ts ≡ Ok (low, us) → edge_at def params us ≡ Ok (high, vs) → next_sign vs ≡ Some signs.RangeClose → q ≡ range_by def params field low high
    → range_at def params field ts ≡ Ok (q ∷ [], drop 1 vs)
unfolding range_at
range-read def params field ts us vs low high q first next closes made =
    ap (λ r. r >>= λ l. edge_at def params l.1 >>= λ h. closed_range def params field l.0 h.0 (next_sign h.1) h.1) first
    ∙ (ap (λ r. r >>= λ h. closed_range def params field low h.0 (next_sign h.1) h.1) next
    ∙ (ap (λ s. closed_range def params field low high s vs) closes
    ∙ ap (λ (made : Query). Ok (made ∷ [], drop 1 vs)) (sym made)))
