use Rattle.std.proofs.Common.{◌++◌, ◌∷◌, [], ℤ, sym, subst}
use Rattle.std.proofs.lemmas.Int.{to_z-of_z}
use mir.Syntax.{w64}
use Rattle.numeric_ranges.specs.Ranges.{Rows, AreParted}
use Rattle.numeric_ranges.specs.Rows.{rows_of}
use Rattle.numeric_ranges.proofs.ranges.Ranges.add.Goals as goal

pub returns-clause-parts : goal.returns-clause-parts
returns-clause-parts c = λ es p.
    subst (λ (v : ℤ). AreParted (es ++ (c.args.id, record { value = v }) ∷ []) (rows_of c.add_entry.new.rows.items)) (to_z-of_z w64 c.args.value c.ranges.value)
    (c.in_ok-add_entry.ensures.parts es (subst (λ (rows : Rows). AreParted es rows) (sym c.self.view_is) p))
