-- What the forms of a sorting vector stand for.
use Rattle.std.specs.Prelude.{Some, [], ◌∷◌}
use Rattle.doc_table.specs.Table.{Vector}
use Rattle.doc_table.specs.declared.sorting_vector.Form.{Form}
use Rattle.doc_table.specs.declared.sorting_vector.Form.TheVariants.{Empty, One, Many}

-- the numbers that a form holds
abbrev pub numbers_of : Form → Vector
numbers_of Empty = []
numbers_of (One number) = Some number ∷ []
numbers_of (Many numbers) = numbers.value
