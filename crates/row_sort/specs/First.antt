-- What a contract sees of a `FirstRows`.
use Rattle.std.specs.Prelude.{ℕ, Bool, List, refl}
use Rattle.std.specs.Coded.{Coded, code_by, coded×, coded_ℕ, coded_bool, coded_list}
use Rattle.ft_base.specs.contracts.row.Value.{the_row}
use Rattle.ft_base.specs.declared.row.Value.{Value}
use Rattle.row_sort.specs.declared.order.Direction.{Direction}
use Rattle.row_sort.specs.declared.rows.Ranked.{Ranked}

-- the first rows of all that were offered, in order; how they are ordered, and how many there may be
pub record First (T : Type 0) : Type 0 where
  pub by : List Direction
  pub most : ℕ
  pub rows : List (Ranked T)

-- a direction is stored as the pair of its fields, and so are the others
abbrev pub direction_code : Coded Direction
direction_code =
    code_by (Bool × Bool) (coded× coded_bool coded_bool) (λ d. (d.descending, d.lower))
    (λ p. record { descending = p.0; lower = p.1 }) (λ _. refl)

abbrev pub ranked_code : {T : Type 0} → Coded T → Coded (Ranked T)
ranked_code {T} code =
    code_by (List Value × T) (coded× (coded_list the_row.coded) code) (λ r. (r.values, r.item))
    (λ p. record { values = p.0; item = p.1 }) (λ _. refl)

abbrev pub first_code : {T : Type 0} → Coded T → Coded (First T)
first_code {T} code =
    code_by (List Direction × (ℕ × List (Ranked T)))
    (coded× (coded_list direction_code) (coded× coded_ℕ (coded_list (ranked_code code))))
    (λ f. (f.by, (f.most, f.rows))) (λ p. record { by = p.0; most = p.1.0; rows = p.1.1 }) (λ _. refl)
