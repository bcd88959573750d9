-- The parameters that are read: their names differ, and each word of them is one of the command's.
use Rattle.std.proofs.Common.{◌≡◌, ℕ, Bool, true, false, cond, List, [], ◌∷◌, ◌+◌, ◌%◌, ◌==◌, Option, Some, None, Ok, length, map, refl, ◌∙◌, subst}
use Rattle.std.proofs.lemmas.Bool.{or_parts}
use Rattle.std.proofs.lemmas.List.Elements.{All-from_recursion}
use Rattle.std.specs.Cmp.Lexicographic.{nat_list_eq_equiv}
use Rattle.std.specs.List.{AllByRecursion, Contains, IsDistinct, list_any}
use Rattle.std.specs.Str.{bytes_eq}
use Rattle.ft_base.proofs.ReadingLaws.{both}
use Rattle.ft_base.specs.declared.query.Param.{Param}
use Rattle.ft_schema.proofs.LawfulLaws.{is_ok_of}
use Rattle.cmd_parse.specs.LawfulSearch.{AreParams}
use Rattle.cmd_parse.specs.Params.{params_of, first_repeat, unless_repeated, params_with, params_at}
use Rattle.cmd_parse.specs.Words.{Word, Read, fault, counted_at}
use Rattle.cmd_parse.specs.declared.stop.Cause.TheVariants.{Syntax}
use Rattle.cmd_parse.proofs.BehindLaws.{Among, Behind, among-here, among-next, counted_at-Ok}

-- names that are none of those before and not this one
apart : (name : Word) (before names : List Word) → AllByRecursion (λ other. list_any (bytes_eq other) (name ∷ before) ≡ false) names
    → AllByRecursion (λ other. bytes_eq name other ≡ false) names × AllByRecursion (λ other. list_any (bytes_eq other) before ≡ false) names
apart name before [] each = (tt, tt)
apart name before (other ∷ names) each =
    let here = or_parts (bytes_eq other name) (list_any (bytes_eq other) before) each.0 in
    let others = apart name before names each.1 in
    ((nat_list_eq_equiv.symm name other ∙ here.0, others.0), (here.1, others.1))

abbrev names_of : List Param → List Word
names_of params = map (λ (param : Param). param.name) params

-- Where no word repeats a name, the names differ, from one another and from those before.
none-repeated : (at : ℕ) (before : List Word) (params : List Param) → first_repeat at before params ≡ None
    → IsDistinct bytes_eq (names_of params) × AllByRecursion (λ name. list_any (bytes_eq name) before ≡ false) (names_of params)
unfolding IsDistinct
none-repeated at before [] e = (tt, tt)
none-repeated at before (param ∷ params) e =
    by_test (list_any (bytes_eq param.name) before) refl (none-repeated (at + 2) (param.name ∷ before) params) e
  where
    by_test : (seen : Bool) → list_any (bytes_eq param.name) before ≡ seen
        → (first_repeat (at + 2) (param.name ∷ before) params ≡ None → IsDistinct bytes_eq (names_of params) × AllByRecursion (λ name. list_any (bytes_eq name) (param.name ∷ before) ≡ false) (names_of params))
        → cond {A = Option ℕ} seen (Some at) (first_repeat (at + 2) (param.name ∷ before) params) ≡ None
        → IsDistinct bytes_eq (names_of (param ∷ params)) × AllByRecursion (λ name. list_any (bytes_eq name) before ≡ false) (names_of (param ∷ params))
    by_test true t others e = absurd (cc)
    by_test false t others e =
        let differing = others e in
        let parts = apart param.name before (names_of params) differing.1 in
        ((parts.0, differing.0), (t, parts.1))

each_given : (all words : List Word) → Among words all → AllByRecursion (λ (param : Param). Contains all param.name × Contains all param.value) (params_of words)
each_given all [] among = tt
each_given all (name ∷ []) among = tt
each_given all (name ∷ value ∷ words) among =
    let behind = among-next all name (value ∷ words) among in
    ((among-here all name (value ∷ words) among, among-here all value words behind), each_given all words (among-next all value words behind))

-- no parameters
pub are-no-params : (all : List Word) → AreParams all []
are-no-params all = record { distinct = (none-repeated 0 [] [] refl).0; given = All-from_recursion (λ (param : Param). Contains all param.name × Contains all param.value) [] tt }

unless_repeated-Ok : (all from given words : List Word) (found : Option ℕ) (read : List Param × List Word) → Behind all words → Among given all → first_repeat 1 [] (params_of given) ≡ found
    → unless_repeated found from (params_of given) words ≡ Ok read → Behind all read.1 × AreParams all read.0
unless_repeated-Ok all from given words (Some at) read behind among f e = absurd (cc)
unless_repeated-Ok all from given words None read behind among f e =
    let same : (params_of given, words) ≡ read = is_ok_of e in
    subst (λ (r : List Param × List Word). Behind all r.1 × AreParams all r.0) same (
      behind,
      record {
        distinct = (none-repeated 1 [] (params_of given) f).0;
        given = All-from_recursion (λ (param : Param). Contains all param.name × Contains all param.value) (params_of given) (each_given all given among);
      },
    )

params_with-Ok : (all from given words : List Word) (read : List Param × List Word) → Behind all words → Among given all
    → params_with from given words ≡ Ok read → Behind all read.1 × AreParams all read.0
params_with-Ok all from given words read behind among e = by_test (length given % 2 == 0) e
  where
    by_test : (even : Bool)
        → cond {A = Read (List Param)} even (unless_repeated (first_repeat 1 [] (params_of given)) from (params_of given) words) (fault Syntax from) ≡ Ok read
        → Behind all read.1 × AreParams all read.0
    by_test true e = unless_repeated-Ok all from given words (first_repeat 1 [] (params_of given)) read behind among refl e
    by_test false e = absurd (cc)

pub params_at-Ok : (all words : List Word) (read : List Param × List Word) → Behind all words → params_at words ≡ Ok read → Behind all read.1 × AreParams all read.0
params_at-Ok all words read behind e =
    let given = both (counted_at words) _ _ e in
    let counted = counted_at-Ok all words given.read behind given.first_is in
    params_with-Ok all words given.read.0 given.read.1 read counted.0 counted.1 given.next_is
