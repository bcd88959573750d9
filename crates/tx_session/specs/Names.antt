-- The names that a session knows (Redis: MULTI, EXEC, DISCARD and QUIT), in any case of A to Z.
use Rattle.std.specs.Prelude.{ℕ, List, [], codes, slice_index_or, if◌then◌else◌}
use Rattle.ft_base.specs.Names.{is_name}
use Rattle.tx_session.specs.declared.kinds.Name.{Name}
use Rattle.tx_session.specs.declared.kinds.Name.TheVariants.{Quit, Multi, Exec, Discard, Other}

abbrev pub name_of : List (List ℕ) → Name
name_of words =
    let name = slice_index_or words 0 [] in
    if is_name name (codes "QUIT") then Quit
    else if is_name name (codes "MULTI") then Multi
    else if is_name name (codes "EXEC") then Exec
    else if is_name name (codes "DISCARD") then Discard
    else Other
