use Rattle.std.proofs.Common.{◌≡◌, ℕ, Bool, IsSome, refl, subst}
use Rattle.gc_splice.specs.Splice.{Fits, picture_of}
use Rattle.term_dict.specs.Changes.{SplicesRow}
use Rattle.term_dict.proofs.SpliceLaws.{at_none, at_some, changes, not_none, of_some}
use Rattle.term_dict.proofs.collect.splice_row.Goals as goal

pub returns-in_default-clause-there : goal.returns-in_default-clause-there
returns-in_default-clause-there g c = at_none c.args.word.now c.args.lists.now.entries _ c.in_default.ensures.value

pub splice_list-spliced-requires : goal.splice_list-spliced-requires
splice_list-spliced-requires g c =
    of_some c.args.word.now c.args.lists.now.entries c.in-Some.list.now
    (λ l. c.args.repair.now.seen ≡ l.marker → (live : ℕ → Bool) × Fits live c.args.repair.now (picture_of l)) c.in-Some.ensures.value c.requires

pub returns-clause-gone : goal.returns-clause-gone
returns-clause-gone g c = not_none c.args.word.now c.args.lists.now.entries c.in-Some.list.now _ c.in-Some.ensures.value

pub returns-clause-there : goal.returns-clause-there
returns-clause-there g c =
    let rows = c.args.lists.now.entries in
    let word = c.args.word.now in
    let k = c.splice_list-spliced.new.list in
    let written = c.get_mut.follows.holds k in
    let updates = written.3 (subst IsSome c.in-Some.ensures.value refl) in
    let change = changes word c.in-Some.list.now k rows (c.get_mut.follows.lender k).entries c.in-Some.ensures.value written.0 updates.1 updates.3 c.len.ensures.rises in
    at_some word rows c.in-Some.list.now
    (λ l. SplicesRow word c.args.repair.now c.args.marker l rows (c.get_mut.follows.lender k).entries c.splice_list-spliced.result) c.in-Some.ensures.value (k, change, c.splice_list-spliced.ensures)
