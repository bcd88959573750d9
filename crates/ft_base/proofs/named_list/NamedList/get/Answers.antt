use Rattle.std.proofs.Common.{◌≡◌, ◌∙◌, ℕ, ◌<◌, ◌≤◌, List, length, get_or, Option, None, Some, refl, ap, sym}
use Rattle.std.specs.Borrow.{Bor}
use Rattle.std.specs.List.{slice_get}
use Rattle.std.specs.Option.{IfSome, MatchOption, option_copied}
use Rattle.std.proofs.lemmas.Option.{slice_get_past, slice_get_read}
use Rattle.ft_base.proofs.NamedLaws.{found-at, found-none}
use Rattle.ft_base.proofs.named_list.NamedList.get.Goals as goal

-- what a look-up by a place gives
got : {T : Type 0} (items : List T) (i : ℕ) (result : Option (Bor T)) (P : Bor T → Type 0) → IfSome result (λ x. x.now ≡ get_or items i x.now)
    → MatchOption result (length items ≤ i) (λ x. (i < length items) × P x) → option_copied result ≡ slice_get items i
got items i None P is past = sym (slice_get_past items i past)
got items i (Some x) P is within = sym (slice_get_read items (length items) i x.now refl within.0 is)

pub returns-in-Some : goal.returns-in-Some
returns-in-Some g c =
    got c.deref.result.now c.in-Some.place c.get.result _ c.get.ensures.lookup.1 c.get.ensures.lookup.3
    ∙ ap (λ (items : List g.row.T.Denot). slice_get items c.in-Some.place) (c.deref.ensures.value ∙ c.self.view_is)
    ∙ found-at g.T.HasName.name_of c.args.self.now c.args.name.now c.in-Some.place (sym c.in-Some.ensures)

pub returns-in-None : goal.returns-in-None
returns-in-None g c = found-none g.T.HasName.name_of c.args.self.now c.args.name.now (sym c.in-None.ensures)
