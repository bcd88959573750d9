use Rattle.std.proofs.Common.{◌≡◌, ◌∙◌, ap, sym, refl, Some, None, find, nat_eq}
use Rattle.ft_base.specs.Docs.{Doc}
use Rattle.hash_store.specs.Store.{Store}
use Rattle.hash_store.proofs.StoreLaws.{waits_last, find-space, unread, was_read}
use Rattle.hash_store.proofs.store.HashStore.get_by_id.Goals as goal

pub live_doc-requires : goal.live_doc-requires
live_doc-requires c = record { last = waits_last c.self.invariant }

pub returns-in_err-doc : goal.returns-in_err-doc
returns-in_err-doc c =
    let none : find (λ (doc : Doc). nat_eq c.args.id doc.id) c.args.self.now.space ≡ None =
    ap (λ (t : Store). find (λ (doc : Doc). nat_eq c.args.id doc.id) t.space) (sym c.self.view_is) ∙ (find-space c.self.invariant (nat_eq c.args.id) ∙ sym c.in_err-doc.ensures) in
    ((refl, (λ _. tt), unread _ c.args.self.now _ c.self.view_is none), record { counts = tt; found = rw c.from_residual.ensures (sym none) })

pub returns : goal.returns
returns c =
    let some : find (λ (doc : Doc). nat_eq c.args.id doc.id) c.args.self.now.space ≡ Some c.in_ok-doc.doc.now =
    ap (λ (t : Store). find (λ (doc : Doc). nat_eq c.args.id doc.id) t.space) (sym c.self.view_is) ∙ (find-space c.self.invariant (nat_eq c.args.id) ∙ sym c.in_ok-doc.ensures) in
    ((refl, (λ _. tt), was_read _ c.in_ok-doc.doc.now c.self.inside.pending c.self.inside.last c.self.inside.reads _ c.self.inside.docs c.args.self.now c.self.view_is some c.saturating_add-self-inside.ensures), record { counts = tt; found = sym some })
