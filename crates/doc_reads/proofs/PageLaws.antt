-- A page shows the documents so far, and as many are read as is told.
use Rattle.std.proofs.Common.{◌≡◌, ℕ, List, length, ap, ◌∙◌}
use Rattle.ft_base.specs.Docs.{Doc}
use Rattle.hash_store.specs.Store.{reads_after}
use Rattle.doc_reads.specs.Pages.{Shows, reads_of}
use Rattle.doc_reads.specs.declared.page.Page.{Page}
use Rattle.doc_reads.specs.declared.shape.Shape.{Shape}

-- what is told of documents: the page shows them
abbrev pub AreShown : Shape → Page → List Doc → Type 0
AreShown shape page docs = Shows shape docs page

-- where a page shows all, as many were read as is told
pub reads-told : (shape : Shape) (start reads : ℕ) (docs : List Doc) (page : Page) → reads ≡ reads_after start (reads_of shape page.total) → Shows shape docs page
    → reads ≡ reads_after start (reads_of shape (length docs))
reads-told shape start reads docs page said shows = said ∙ ap (λ (total : ℕ). reads_after start (reads_of shape total)) shows.total
