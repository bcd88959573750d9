use Rattle.std.proofs.Common.{◌≡◌, ◌∙◌, ap, sym, length, take}
use Rattle.std.specs.Map.{values_of}
use Rattle.hash_store.specs.Rows.{space_of}
use Rattle.hash_store.specs.Store.{Store}
use Rattle.hash_store.proofs.StoreLaws.{walks_all}
use Rattle.hash_store.proofs.store.HashStore.walk.Goals as goal

pub returns : goal.returns
returns c =
    let space : space_of c.self.inside.pending c.self.inside.docs ≡ c.args.self.now.space = ap (λ (t : Store). t.space) c.self.view_is in
    c.over.ensures ∙ (ap (λ n. take n (values_of c.self.inside.docs)) (c.requires.all ∙ ap length (sym space)) ∙ (walks_all c.self.invariant ∙ space))
