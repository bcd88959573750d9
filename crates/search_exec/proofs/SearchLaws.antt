-- A page in the order of its shape is what the search is answered, and as many documents are read as is told.
use Rattle.std.proofs.Common.{◌≡◌, ℕ, Bool, true, false, List, length, min, refl, sym, ap, subst, arith}
use Rattle.std.specs.Prelude.{◌-◌, Option, None, Some, is_some, IfOk, OnOk, Result, if◌then◌else◌}
use Rattle.cmd_parse.specs.Searching.{Searching}
use Rattle.ft_base.specs.declared.definition.IndexDef.{IndexDef}
use Rattle.ft_base.specs.Docs.{Doc}
use Rattle.ft_base.specs.declared.reply.Reply.{Reply}
use Rattle.ft_machine.specs.Counted.{in_order}
use Rattle.ft_machine.specs.Shown.{found_reply}
use Rattle.hash_store.specs.Store.{reads_after}
use Rattle.doc_reads.proofs.KeyLaws.{column-reads, same-reads, sorts-field}
use Rattle.doc_reads.proofs.ShapeLaws.{order-length, sorted-page, unsorted, unsorted-page}
use Rattle.doc_reads.specs.Pages.{ordered_by, reads_by, reads_for, reads_of}
use Rattle.doc_reads.specs.Shapes.{IsShapeOf, SortsBy, page_by}
use Rattle.doc_reads.specs.declared.shape.Shape.{Shape}
use Rattle.doc_reads.specs.declared.shape.SortKey.{SortKey}

ordered-length : (sort : Option SortKey) (docs : List Doc) → length (ordered_by sort docs) ≡ length docs
ordered-length None docs = refl
ordered-length (Some key) docs = order-length key docs

-- where no row is shown, no order is seen
pub page-without-rows : (shape : Shape) (docs : List Doc) → shape.num ≡ 0 → page_by shape docs ≡ page_by shape (ordered_by shape.sort docs)
page-without-rows shape docs none = rw (none, ordered-length shape.sort docs) refl

-- without a key the order is that of the ids
pub page-without-key : (shape : Shape) (docs : List Doc) → shape.sort ≡ None → page_by shape docs ≡ page_by shape (ordered_by shape.sort docs)
page-without-key shape docs none = ap (λ (sort : Option SortKey). page_by shape (ordered_by sort docs)) (sym none)

page-answers : (what : Searching) (def : IndexDef) (shape : Shape) (docs : List Doc) → IsShapeOf what def shape → SortsBy def.fields what
    → page_by shape (ordered_by shape.sort docs) ≡ found_reply what def (in_order what.sort def docs)
page-answers what def shape docs s known = pick shape.sort refl
  where
    pick : (sort : Option SortKey) → shape.sort ≡ sort → page_by shape (ordered_by sort docs) ≡ found_reply what def (in_order what.sort def docs)
    pick None is = unsorted-page what def shape docs s is known
    pick (Some key) is = sorted-page what def shape key docs s is

-- a page in the order of its shape is what the search is answered
pub made-answer : {E : Type 0} (made : Result Reply E) (what : Searching) (def : IndexDef) (shape : Shape) (docs : List Doc) → IsShapeOf what def shape → SortsBy def.fields what
    → IfOk made (λ reply. reply ≡ page_by shape (ordered_by shape.sort docs)) → IfOk made (λ reply. reply ≡ found_reply what def (in_order what.sort def docs))
made-answer made what def shape docs s known page =
    subst (λ (answer : Reply). IfOk made (λ reply. reply ≡ answer)) (page-answers what def shape docs s known) page

-- where no row is shown, no document is read
pub reads-without-rows : (shape : Shape) (sort : Option SortKey) (count : ℕ) → shape.num ≡ 0 → reads_of shape count ≡ reads_by shape sort count
reads-without-rows shape None count none = refl
reads-without-rows shape (Some key) count none = rw none (no-reads shape.no_content (count - shape.offset))
  where
    no-reads : (keys : Bool) (left : ℕ) → (if keys then 0 else min 0 left) ≡ 0
    no-reads true left = refl
    no-reads false left = omega arith

reads-same : (what : Searching) (def : IndexDef) (shape : Shape) (count : ℕ) → IsShapeOf what def shape → SortsBy def.fields what → reads_by shape shape.sort count ≡ reads_for what def count
reads-same what def shape count s known = pick shape.sort refl
  where
    pick : (sort : Option SortKey) → shape.sort ≡ sort → reads_by shape sort count ≡ reads_for what def count
    pick None is = rw (unsorted what def shape s is known, s.num, s.no_content, s.offset) refl
    pick (Some key) is =
        rw (column-reads what.sort def key (sorts-field what def shape key s is), s.num, s.no_content, s.offset)
        (same-reads (is_some key.column) what.no_content what.num what.offset count)

-- and as many documents are read as is told
pub reads-told : {E : Type 0} (made : Result Reply E) (what : Searching) (def : IndexDef) (shape : Shape) (docs : List Doc) (old new : ℕ) → IsShapeOf what def shape
    → SortsBy def.fields what → OnOk made (new ≡ reads_after old (reads_by shape shape.sort (length docs))) → OnOk made (new ≡ reads_after old (reads_for what def (length docs)))
reads-told made what def shape docs old new s known page =
    subst (λ (more : ℕ). OnOk made (new ≡ reads_after old more)) (reads-same what def shape (length docs) s known) page
