use Rattle.std.proofs.Common.{arith, ◌<◌, ◌≤◌, ◌-◌, length, sym, ap, subst, ◌∙◌, ◌++◌, ◌∷◌, [], take, drop, List, ℕ}
use Rattle.posting_block.specs.Leb.{leb}
use Rattle.posting_block.specs.Rising.{last_id}
use Rattle.posting_block.specs.Coded.{Coded}
use Rattle.posting_block.proofs.CodedLaws.{length_in}
use Rattle.posting_block.proofs.BlockLaws.{hit_bytes, pushed_found}
use Rattle.posting_block.proofs.block.Block.push_from.Goals as goal

pub put_found-requires : goal.put_found-requires
put_found-requires g c =
    let r = c.requires.found in
    let held = subst (λ es. Coded g.P.Payload.spelled g.P.Payload.valid c.other.inside.bytes.items c.other.inside.last es) c.other.view_is c.other.invariant in
    let p = hit_bytes g.P.Payload.spelled g.P.Payload.read g.P.Payload.valid g.met.P.Payload.reads c.other.inside.bytes.items c.other.inside.last c.args.other.now c.args.found.now r.0 r.2 r.1 held r.3 in
    record {
      order = p.0;
      within = subst (λ (x : List ℕ). c.args.found.now.to ≤ length x) (sym c.as_slice.ensures.value) p.1;
    }

pub overflow_add-self : goal.overflow_add-self
overflow_add-self g c =
    let l = length_in g.P.Payload.spelled g.P.Payload.read g.P.Payload.valid g.met.P.Payload.reads c.self.inside.len 0 c.self.inside.bytes.items in
    let few = c.self.invariant.few in
    omega (arith, l, few)

pub invariant_of-self-2 : goal.invariant_of-self-2
invariant_of-self-2 g c =
    let r = c.requires.found in
    let held = subst (λ es. Coded g.P.Payload.spelled g.P.Payload.valid c.other.inside.bytes.items c.other.inside.last es) c.other.view_is c.other.invariant in
    let l = length_in g.P.Payload.spelled g.P.Payload.read g.P.Payload.valid g.met.P.Payload.reads c.self.inside.len 0 c.self.inside.bytes.items in
    let room = c.requires.room in
    let few : c.self.inside.len < 100 = omega (arith, l, ap length c.self.view_is, room) in
    let above : c.self.inside.last < c.args.found.now.id = subst (λ n. n < c.args.found.now.id) (sym (c.self.invariant.ends ∙ ap (λ x. last_id 0 x) c.self.view_is)) c.requires.above in
    let made = c.in_ok-put_found.ensures.ok ∙ ap (λ (x : List ℕ). (c.self.inside.bytes.items ++ leb (c.args.found.now.id - c.self.inside.last)) ++ take (c.args.found.now.to - c.args.found.now.from) (drop c.args.found.now.from x)) c.as_slice.ensures.value in
    (pushed_found g.P.Payload.spelled g.P.Payload.read g.P.Payload.valid g.met.P.Payload.reads c.self.inside.bytes.items c.put_found.new.out.items c.other.inside.bytes.items c.self.inside.last c.self.inside.len c.other.inside.last
    c.args.other.now c.args.found.now r.0 r.2 r.1 c.self.invariant held r.3 made above few).0

pub returns-clause-ok : goal.returns-clause-ok
returns-clause-ok g c = λ done left e found.
    let held = subst (λ es. Coded g.P.Payload.spelled g.P.Payload.valid c.other.inside.bytes.items c.other.inside.last es) c.other.view_is c.other.invariant in
    let l = length_in g.P.Payload.spelled g.P.Payload.read g.P.Payload.valid g.met.P.Payload.reads c.self.inside.len 0 c.self.inside.bytes.items in
    let room = c.requires.room in
    let few : c.self.inside.len < 100 = omega (arith, l, ap length c.self.view_is, room) in
    let above : c.self.inside.last < c.args.found.now.id = subst (λ n. n < c.args.found.now.id) (sym (c.self.invariant.ends ∙ ap (λ x. last_id 0 x) c.self.view_is)) c.requires.above in
    let made = c.in_ok-put_found.ensures.ok ∙ ap (λ (x : List ℕ). (c.self.inside.bytes.items ++ leb (c.args.found.now.id - c.self.inside.last)) ++ take (c.args.found.now.to - c.args.found.now.from) (drop c.args.found.now.from x)) c.as_slice.ensures.value in
    (pushed_found g.P.Payload.spelled g.P.Payload.read g.P.Payload.valid g.met.P.Payload.reads c.self.inside.bytes.items c.put_found.new.out.items c.other.inside.bytes.items c.self.inside.last c.self.inside.len c.other.inside.last
    c.args.other.now c.args.found.now done e left c.self.invariant held found made above few).1 ∙ ap (λ x. x ++ e ∷ []) c.self.view_is
