use Rattle.std.specs.Prelude.{◌≡◌}
use Rattle.std.proofs.Common.{◌∙◌, ap, sym, subst, inl, inr}
use Rattle.ft_index.specs.Index.{Index, IsIndex}
use Rattle.ft_index.specs.Lists.{AllLists}
use Rattle.ft_index.specs.Markers.{HasMarker}
use Rattle.ft_index.proofs.MemberLaws.{index-committed}
use Rattle.indexed_store.proofs.StepLaws.{lists-committed}
use Rattle.indexed_store.proofs.filling.put_doc.Goals as goal

pub returns-in_err-ready-clause-given : goal.returns-in_err-ready-clause-given
returns-in_err-ready-clause-given c marker has = elim (c.prepare.ensures.gains marker has) [ inl old ↦ c.requires.given marker old | inr given ↦ given.event ]

pub returns-clause-sound : goal.returns-clause-sound
returns-clause-sound c = subst IsIndex (sym c.commit.ensures) (index-committed c.prepare.new.self c.prepare.ensures.sound)

pub returns-clause-given : goal.returns-clause-given
returns-clause-given c marker has =
    let same : c.commit.new.self.lists ≡ c.prepare.new.self.lists = ap (λ (index : Index). index.lists) c.commit.ensures ∙ lists-committed c.prepare.new.self.waits c.prepare.new.self in
    elim (c.prepare.ensures.gains marker (subst (λ (lists : AllLists). HasMarker lists marker) same has)) [ inl old ↦ c.requires.given marker old | inr given ↦ given.event ]
