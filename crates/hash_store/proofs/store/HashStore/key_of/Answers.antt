use Rattle.std.proofs.Common.{◌≡◌, ◌∙◌, ap, sym, Some, None, find, nat_eq}
use Rattle.ft_base.specs.Docs.{Doc}
use Rattle.hash_store.specs.Store.{Store}
use Rattle.hash_store.proofs.StoreLaws.{waits_last, find-space}
use Rattle.hash_store.proofs.store.HashStore.key_of.Goals as goal

pub live_doc-requires : goal.live_doc-requires
live_doc-requires c = record { last = waits_last c.self.invariant }

pub returns-in_err-live_doc : goal.returns-in_err-live_doc
returns-in_err-live_doc c =
    let none : find (λ (doc : Doc). nat_eq c.args.id doc.id) c.args.self.now.space ≡ None =
    ap (λ (t : Store). find (λ (doc : Doc). nat_eq c.args.id doc.id) t.space) (sym c.self.view_is) ∙ (find-space c.self.invariant (nat_eq c.args.id) ∙ sym c.in_err-live_doc.ensures) in
    rw (c.from_residual.ensures, none)

pub returns : goal.returns
returns c =
    let some : find (λ (doc : Doc). nat_eq c.args.id doc.id) c.args.self.now.space ≡ Some c.in_ok-live_doc.field-0.now =
    ap (λ (t : Store). find (λ (doc : Doc). nat_eq c.args.id doc.id) t.space) (sym c.self.view_is) ∙ (find-space c.self.invariant (nat_eq c.args.id) ∙ sym c.in_ok-live_doc.ensures) in
    rw some (ap Some c.key.ensures)
