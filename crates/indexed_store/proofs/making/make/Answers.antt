use Rattle.std.proofs.Common.{◌∙◌, ap, refl, subst, sym, arith, List}
use Rattle.std.proofs.lemmas.Grind.{common_steps}
use Rattle.ft_base.specs.Docs.{Doc}
use Rattle.ft_index.specs.Index.{Index}
use Rattle.ft_machine.specs.Definitions.{Defined, index_of, without_index, without_members}
use Rattle.indexed_store.specs.DefinitionsOf.{definitions_of}
use Rattle.std.specs.Prelude.{◌≡◌, ◌+◌, ◌++◌, ◌∷◌, [], None, ℕ, false, true, drop, length}
use Rattle.std.specs.Str.{bytes_eq}
use Rattle.std.proofs.lemmas.List.{take_at}
use Rattle.indexed_store.specs.Listed.{lists_at, touches}
use Rattle.indexed_store.proofs.ListedLaws.{keep-at, lent-lists, more-at}
use Rattle.std.specs.List.{All}
use Rattle.ft_machine.specs.Step.{next_number}
use Rattle.cursor_book.specs.declared.cursor.Cursor.{Cursor}
use Rattle.indexed_store.specs.Changing.{changed, without_cursors_of}
use Rattle.indexed_store.specs.Standing.{AreApart, IndexStands, markers_at}
use Rattle.indexed_store.specs.States.{state_with}
use Rattle.indexed_store.specs.declared.change.Change.{Change}
use Rattle.indexed_store.specs.declared.change.Change.TheVariants.{Alter}
use Rattle.indexed_store.proofs.ChangingLaws.{altered-apart, altered-given, altered-stands, created-moves, created-step, flushed-step, lent-step, made-before, whole-step}
use Rattle.ft_index.specs.Coming.{IsFresh}
use Rattle.indexed_store.proofs.MovingLaws.{fresh-of, moves-whole}
use Rattle.indexed_store.proofs.making.make.Goals as goal

pub returns-in-Create-clause-kept : goal.returns-in-Create-clause-kept
returns-in-Create-clause-kept c =
    created-step c.args.store.now c.args.change c.in-Create.index c.args.number c.args.store.now.ready c.args.indexes.now.items c.push_index.new.indexes.items c.in-Create.is c.requires.before c.requires.ready c.requires.kept
    (c.push_index.ensures.items ∙ ap (λ (i : Index). c.args.indexes.now.items ++ i ∷ []) c.into_inner.ensures)

pub returns-in-Alter-clause-kept : goal.returns-in-Alter-clause-kept
returns-in-Alter-clause-kept c =
    let at = made-before c.args.change (Alter c.in-Alter.index) c.args.number c.in-Alter.is refl c.requires.before in
    let lent = lent-step c.args.store.now c.as_mut_slice.result.now c.args.indexes.now.items (next_number c.args.number) (c.args.number + 1) c.as_mut_slice.ensures.value at c.requires.kept in
    let apart = altered-apart c.args.change c.in-Alter.index c.args.number c.args.store.now.space c.args.store.now.ready c.args.indexes.now.items c.as_mut_slice.result.now c.in-Alter.is c.as_mut_slice.ensures.value c.requires.ready in
    let is = sym c.into_inner-in-Alter.ensures in
    let stands = altered-stands c.args.change c.in-Alter.index c.args.number c.args.store.now.space c.args.store.now.ready c.args.indexes.now.items c.in-Alter.is c.requires.ready in
    whole-step c.args.store.now c.args.indexes.now.len c.args.indexes.now.items c.replace_index.new.indexes (next_number c.args.number) (c.args.number + 1) (omega (arith, c.replace_index.auto.indexes, c.as_mut_slice.ensures.len)) at
    (c.replace_index.ensures.kept c.args.store.now (c.args.number + 1)
    (subst (λ (i : Index). IndexStands c.args.store.now.space (c.args.number + 1) (markers_at (c.args.number + 1)) i) is stands)
    (subst (λ (i : Index). All (AreApart i) c.as_mut_slice.result.now) is apart) lent)

pub returns-in-Drop-clause-kept : goal.returns-in-Drop-clause-kept
returns-in-Drop-clause-kept c = c.drop_with_cursors.ensures.kept c.args.store.now (next_number c.args.number) c.requires.kept

pub returns-in-DropMembers-clause-kept : goal.returns-in-DropMembers-clause-kept
returns-in-DropMembers-clause-kept c = c.drop_members.ensures.kept (next_number c.args.number) c.requires.kept

pub returns-in-DropMembers-clause-state : goal.returns-in-DropMembers-clause-state
returns-in-DropMembers-clause-state c =
    let old = state_with c.args.store.now c.args.indexes.now.items c.args.cursors.now c.args.latest in
    let index = index_of old.definitions c.in-DropMembers.name.now in
    let cursors : c.drop_cursors.new.cursors ≡ without_cursors_of index old.cursors =
    c.drop_cursors.ensures ∙ ap (λ (is : List Index). without_cursors_of (index_of (definitions_of is) c.in-DropMembers.name.now) old.cursors) c.as_slice.ensures.value in
    ap (λ (docs : List Doc). record { space = docs; definitions = definitions_of c.drop_members.new.indexes.items; cursors = c.drop_cursors.new.cursors; latest = c.args.latest })
    (c.drop_members.ensures.space (next_number c.args.number) c.requires.kept)
    ∙ (ap (λ (ds : List Defined). record { space = without_members index old.space; definitions = ds; cursors = c.drop_cursors.new.cursors; latest = c.args.latest }) c.drop_members.ensures.definitions
    ∙ (ap (λ (cursors : List Cursor). record { space = without_members index old.space; definitions = without_index old.definitions c.in-DropMembers.name.now; cursors = cursors; latest = c.args.latest }) cursors
    ∙ ap (λ (change : Change). changed change c.args.store.now.ready None old) (sym c.in-DropMembers.is)))

pub returns-in-Flush-clause-kept : goal.returns-in-Flush-clause-kept
returns-in-Flush-clause-kept c =
    flushed-step c.args.store.now c.flush.new.store c.args.indexes.now.items c.flush.new.indexes.items (next_number c.args.number) c.flush.ensures.space c.flush.ensures.last c.flush.ensures.indexes c.requires.kept

pub returns-in-Create-clause-state : goal.returns-in-Create-clause-state
returns-in-Create-clause-state c = grind (arith, common_steps)

pub returns-in-Create-clause-few : goal.returns-in-Create-clause-few
returns-in-Create-clause-few c = grind (arith, common_steps)

pub returns-in-Alter-clause-state : goal.returns-in-Alter-clause-state
returns-in-Alter-clause-state c = grind (arith, common_steps)

pub returns-in-Alter-clause-few : goal.returns-in-Alter-clause-few
returns-in-Alter-clause-few c = grind (arith, common_steps)

pub returns-in-Create-clause-moves : goal.returns-in-Create-clause-moves
returns-in-Create-clause-moves c =
    created-moves c.args.change c.in-Create.index c.args.number c.args.store.now.space c.args.store.now.ready c.args.indexes.now.items c.push_index.new.indexes.items c.in-Create.is c.requires.ready
    (c.push_index.ensures.items ∙ ap (λ (i : Index). c.args.indexes.now.items ++ i ∷ []) c.into_inner.ensures)

pub returns-in-Alter-clause-moves : goal.returns-in-Alter-clause-moves
returns-in-Alter-clause-moves c =
    let given = altered-given c.args.change c.in-Alter.index c.args.number c.args.store.now.space c.args.store.now.ready c.args.indexes.now.items c.in-Alter.is c.requires.ready in
    let fresh = subst (IsFresh c.args.number) (sym c.into_inner-in-Alter.ensures) (fresh-of c.args.number c.in-Alter.index given) in
    moves-whole c.args.number c.args.indexes.now.items c.as_mut_slice.result.now c.args.indexes.now.items c.replace_index.new.indexes c.args.indexes.now.len
    (omega (arith, c.replace_index.auto.indexes, c.as_mut_slice.ensures.len)) c.as_mut_slice.ensures.value (c.replace_index.ensures.moves c.args.number fresh)

pub returns-in_default-clause-moves : goal.returns-in_default-clause-moves
returns-in_default-clause-moves c =
    moves-whole c.args.number c.args.indexes.now.items c.as_mut_slice-in_default.result.now c.args.indexes.now.items c.make_documents.new.indexes c.args.indexes.now.len
    (omega (arith, c.make_documents.auto.indexes, c.as_mut_slice-in_default.ensures.len)) c.as_mut_slice-in_default.ensures.value c.make_documents.ensures.moves

pub returns-in-Create-clause-lists : goal.returns-in-Create-clause-lists
returns-in-Create-clause-lists c name apart =
    let other = sym (ap (λ (change : Change). touches change name) c.in-Create.is) ∙ apart in
    ap (lists_at name) (c.push_index.ensures.items ∙ ap (λ (i : Index). c.args.indexes.now.items ++ i ∷ []) c.into_inner.ensures) ∙ more-at name c.args.indexes.now.items c.in-Create.index other

pub returns-in-Alter-clause-lists : goal.returns-in-Alter-clause-lists
returns-in-Alter-clause-lists c name apart =
    let other = sym (ap (λ (change : Change). touches change name) c.in-Alter.is) ∙ apart in
    let now = c.replace_index.new.indexes in
    ap (lists_at name) (take_at now (drop (length now) c.args.indexes.now.items) c.args.indexes.now.len (omega (arith, c.replace_index.auto.indexes, c.as_mut_slice.ensures.len)))
    ∙ (c.replace_index.ensures.lists name (ap (λ (i : Index). bytes_eq name i.def.name) c.into_inner-in-Alter.ensures ∙ other) ∙ ap (lists_at name) c.as_mut_slice.ensures.value)

pub returns-in-Drop-clause-lists : goal.returns-in-Drop-clause-lists
returns-in-Drop-clause-lists c name apart = c.drop_with_cursors.ensures.lists name (sym (ap (λ (change : Change). touches change name) c.in-Drop.is) ∙ apart)

pub returns-in-DropMembers-clause-lists : goal.returns-in-DropMembers-clause-lists
returns-in-DropMembers-clause-lists c name apart = c.drop_members.ensures.lists name (sym (ap (λ (change : Change). touches change name) c.in-DropMembers.is) ∙ apart)

pub returns-in-Flush-clause-lists : goal.returns-in-Flush-clause-lists
returns-in-Flush-clause-lists c name apart = let always : true ≡ false = sym (ap (λ (change : Change). touches change name) c.in-Flush.is) ∙ apart in cc (always)

pub returns-in_default-clause-lists : goal.returns-in_default-clause-lists
returns-in_default-clause-lists c name apart =
    keep-at name c.args.indexes.now.items _
    (lent-lists c.args.indexes.now.items c.as_mut_slice-in_default.result.now c.args.indexes.now.items c.make_documents.new.indexes c.args.indexes.now.len
    (omega (arith, c.make_documents.auto.indexes, c.as_mut_slice-in_default.ensures.len)) c.as_mut_slice-in_default.ensures.value c.make_documents.ensures.lists)
