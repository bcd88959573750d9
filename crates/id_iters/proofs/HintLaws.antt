-- Hints that go behind others, part by part.
use Rattle.std.proofs.Common.{◌≡◌, ℕ, ◌+◌, ◌<◌, List, [], ◌∷◌, ◌++◌, length, take, sym, ap, ◌∙◌, subst, append_assoc}
use Rattle.std.specs.Prelude.{slice_index_or}
use Rattle.std.specs.List.{flat_map}
use Rattle.std.proofs.lemmas.List.{append-nil, take_more}
use Rattle.std.proofs.lemmas.Grind.{flat_map-append}
use Rattle.id_iters.specs.Fitting.{Hinted, HintsFit}
use Rattle.id_iters.specs.Held.{Held}
use Rattle.id_iters.specs.declared.hint.Hint.{Hint}
use Rattle.id_iters.specs.declared.leaf.Leaf.{Leaf}

-- the first words, and the next one
pub next_word : (words : List Leaf) (i : ℕ) (word : Leaf) → i < length words → word ≡ slice_index_or words i word → take (i + 1) words ≡ take i words ++ word ∷ []
next_word words i word within is = take_more words i word within ∙ ap (λ w. take i words ++ w ∷ []) (sym is)

-- the leaves of the first parts, and those of the next one
pub next_part : {X : Type 0} (f : X → List Leaf) (parts : List X) (i : ℕ) (part : X) → i < length parts → part ≡ slice_index_or parts i part
    → flat_map f (take (i + 1) parts) ≡ flat_map f (take i parts) ++ f part
next_part f parts i part within is =
    ap (flat_map f) (take_more parts i part within ∙ ap (λ p. take i parts ++ p ∷ []) (sym is))
    ∙ flat_map-append f (take i parts) (part ∷ []) ∙ ap (λ leaves. flat_map f (take i parts) ++ leaves) (append-nil (f part))

module _ (held : Held) (after : ℕ) where
  fit_both : (leaves others : List Leaf) (hints more : List Hint) → HintsFit held after leaves hints → HintsFit held after others more → HintsFit held after (leaves ++ others) (hints ++ more)
  fit_both [] others [] more fit fits = fits
  fit_both [] others (hint ∷ hints) more fit fits = absurd fit
  fit_both (leaf ∷ leaves) others [] more fit fits = absurd fit
  fit_both (leaf ∷ leaves) others (hint ∷ hints) more fit fits = (fit.0, fit_both leaves others hints more fit.1 fits)

  -- those of some leaves, and then those of others
  pub hinted_more : (leaves others all : List Leaf) (old mid new : List Hint) → all ≡ leaves ++ others → Hinted held after leaves old mid → Hinted held after others mid new
      → Hinted held after all old new
  hinted_more leaves others all old mid new is h k = record {
    more = h.more ++ k.more;
    behind = k.behind ∙ ap (λ hints. hints ++ k.more) h.behind ∙ append_assoc old h.more k.more;
    fit = subst (λ all. HintsFit held after all (h.more ++ k.more)) (sym is) (fit_both leaves others h.more k.more h.fit k.fit);
  }

  pub hinted_same : (leaves others : List Leaf) (old new : List Hint) → others ≡ leaves → Hinted held after leaves old new → Hinted held after others old new
  hinted_same leaves others old new is h = subst (λ leaves. Hinted held after leaves old new) (sym is) h
