use Rattle.std.proofs.Common.{◌≡◌, ◌∙◌, ap, sym, Some, find, nat_eq, ℕ}
use Rattle.std.specs.HashSet.{spare}
use Rattle.std.specs.Map.{remove_entry}
use Rattle.ft_base.specs.Docs.{Doc}
use Rattle.ft_base.specs.Space.{doc_of, erase}
use Rattle.hash_store.specs.Rows.{space_of}
use Rattle.hash_store.specs.Store.{Store}
use Rattle.hash_store.proofs.StoreLaws.{waits_last, find-space}
use Rattle.hash_store.proofs.ChangeLaws.{IsKeyed, keyed, erased_store, erased_as, by_id, unfound}
use Rattle.hash_store.proofs.store.HashStore.erase_id.Goals as goal

pub live_doc-requires : goal.live_doc-requires
live_doc-requires c = record { last = waits_last c.self.invariant }

pub invariant_of-self : goal.invariant_of-self
invariant_of-self c =
    let k : IsKeyed c.args.id c.in-Some.doc.now (space_of c.self.inside.pending c.self.inside.docs) = keyed c.self.invariant c.args.id c.in-Some.doc.now (sym c.in-Some.ensures) in
    let found : doc_of (space_of c.self.inside.pending c.self.inside.docs) c.key.result.now ≡ Some c.in-Some.doc.now = ap (doc_of (space_of c.self.inside.pending c.self.inside.docs)) c.key.ensures ∙ k.found in
    let left : c.drop_row.new.docs ≡ remove_entry (nat_eq c.in-Some.doc.now.id) c.self.inside.docs = c.drop_row.ensures ∙ ap (λ (n : ℕ). remove_entry (nat_eq n) c.self.inside.docs) (sym k.own) in
    erased_store c.self.invariant c.key.result.now c.in-Some.doc.now found c.drop_row.new.docs left c.remove.new.self.keys (spare c.remove.new.self) c.remove.ensures.keys c.remove.ensures.unique c.remove.ensures.spare

pub returns-in-Some : goal.returns-in-Some
returns-in-Some c =
    let k : IsKeyed c.args.id c.in-Some.doc.now (space_of c.self.inside.pending c.self.inside.docs) = keyed c.self.invariant c.args.id c.in-Some.doc.now (sym c.in-Some.ensures) in
    let left : c.drop_row.new.docs ≡ remove_entry (nat_eq c.in-Some.doc.now.id) c.self.inside.docs = c.drop_row.ensures ∙ ap (λ (n : ℕ). remove_entry (nat_eq n) c.self.inside.docs) (sym k.own) in
    let some : find (λ (doc : Doc). nat_eq c.args.id doc.id) c.args.self.now.space ≡ Some c.in-Some.doc.now = ap (λ (t : Store). find (λ (doc : Doc). nat_eq c.args.id doc.id) t.space) (sym c.self.view_is) ∙ (find-space c.self.invariant (nat_eq c.args.id) ∙ sym c.in-Some.ensures) in
    erased_as c.self.invariant c.in-Some.doc.now.key c.in-Some.doc.now k.found c.drop_row.new.docs left c.self.inside.reads
    ∙ (ap (λ (t : Store). record t { space = erase t.space c.in-Some.doc.now.key }) c.self.view_is ∙ by_id c.args.id c.in-Some.doc.now c.args.self.now some)

pub returns-in_default : goal.returns-in_default
returns-in_default c =
    unfound c.args.id c.args.self.now (ap (λ (t : Store). find (λ (doc : Doc). nat_eq c.args.id doc.id) t.space) (sym c.self.view_is) ∙ (find-space c.self.invariant (nat_eq c.args.id) ∙ sym c.in_default.ensures))
