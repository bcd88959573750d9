-- How the bytes of a load grow: by one word of a text, and by the commands of one document.
use Rattle.std.proofs.Common.{◌≡◌, ℕ, suc, ◌+◌, List, [], ◌∷◌, ◌++◌, refl, sym, ap, ◌∙◌, append_assoc}
use Rattle.std.specs.Prelude.{map, Result, Ok, Err, OnOk}
use Rattle.std.proofs.lemmas.List.{append-nil}
use Rattle.ft_base.specs.Reply.{joined}
use Rattle.rand_pcg.specs.Lcg.{Lcg}
use Rattle.resp_wire.specs.Request.{request, requests}
use Rattle.resp_wire.specs.Stream.{Command}
use Rattle.load_maker.specs.Load.{begun, creating, deleting, documents, draw, drawn, last_commands, load, setting, text_of, text_words, word_of}

-- words, each behind a space
abbrev pub behind : List (List ℕ) → List ℕ
behind words = joined (map (λ (word : List ℕ). 32 ∷ word) words)

-- a text is its first word and the others, each behind a space
pub text_is : (word : List ℕ) (words : List (List ℕ)) → text_of (word ∷ words) ≡ word ++ behind words
text_is word [] = sym (append-nil word)
text_is word (next ∷ words) = ap (λ (t : List ℕ). word ++ (32 ∷ t)) (text_is next words)

first_behind : (n : ℕ) (g : Lcg) → behind (text_words (suc n) g).0 ≡ (32 ∷ word_of (draw 64 g).0) ++ behind (text_words n (draw 64 g).1).0
unfolding text_words
first_behind n g = refl

first_next : (n : ℕ) (g : Lcg) → (text_words (suc n) g).1 ≡ (text_words n (draw 64 g).1).1
unfolding text_words
first_next n g = refl

none_behind : (g : Lcg) → behind (text_words 0 g).0 ≡ []
unfolding text_words
none_behind g = refl

none_next : (g : Lcg) → (text_words 0 g).1 ≡ g
unfolding text_words
none_next g = refl

-- one word more
pub text_grows : (m n : ℕ) (g g' : Lcg) (out out' whole : List ℕ) → m ≡ suc n → out' ≡ out ++ (32 ∷ word_of (draw 64 g).0) → g' ≡ (draw 64 g).1
    → out ++ behind (text_words m g).0 ≡ whole → out' ++ behind (text_words n g').0 ≡ whole
text_grows m n g g' out out' whole less grown next is =
    let a : out' ++ behind (text_words n g').0 ≡ (out ++ (32 ∷ word_of (draw 64 g).0)) ++ behind (text_words n (draw 64 g).1).0 = cc in
    a
    ∙ (append_assoc out (32 ∷ word_of (draw 64 g).0) (behind (text_words n (draw 64 g).1).0)
    ∙ (ap (λ (t : List ℕ). out ++ t) (sym (first_behind n g)) ∙ (ap (λ k. out ++ behind (text_words k g).0) (sym less) ∙ is)))

pub next_grows : (m n : ℕ) (g g' whole : Lcg) → m ≡ suc n → g' ≡ (draw 64 g).1 → (text_words m g).1 ≡ whole → (text_words n g').1 ≡ whole
next_grows m n g g' whole less next is =
    ap (λ h. (text_words n h).1) next ∙ (sym (first_next n g) ∙ (ap (λ k. (text_words k g).1) (sym less) ∙ is))

eight : (g : Lcg) → (text_words 8 g).0 ≡ word_of (draw 64 g).0 ∷ (text_words 7 (draw 64 g).1).0
unfolding text_words
eight g = refl

pub text_eight : (g : Lcg) → text_of (text_words 8 g).0 ≡ word_of (draw 64 g).0 ++ behind (text_words 7 (draw 64 g).1).0
text_eight g = ap text_of (eight g) ∙ text_is (word_of (draw 64 g).0) (text_words 7 (draw 64 g).1).0

-- the whole text, from its first word on
pub text_whole : (n : ℕ) (g g' last : Lcg) (old first out : List ℕ) → n ≡ 0 → first ≡ old ++ word_of (draw 64 g).0 → g' ≡ (draw 64 g).1
    → out ++ behind (text_words n last).0 ≡ first ++ behind (text_words 7 g').0 → out ≡ old ++ text_of (text_words 8 g).0
text_whole n g g' last old first out none begun next is =
    let a : out ++ [] ≡ first ++ behind (text_words 7 g').0 = ap (λ (t : List ℕ). out ++ t) (sym (ap (λ k. behind (text_words k last).0) none ∙ none_behind last)) ∙ is in
    let b : first ++ behind (text_words 7 g').0 ≡ (old ++ word_of (draw 64 g).0) ++ behind (text_words 7 (draw 64 g).1).0 = cc in
    sym (append-nil out) ∙ (a ∙ (b ∙ (append_assoc old (word_of (draw 64 g).0) (behind (text_words 7 (draw 64 g).1).0) ∙ ap (λ (t : List ℕ). old ++ t) (sym (text_eight g)))))

pub next_whole : (n : ℕ) (g g' last : Lcg) → n ≡ 0 → g' ≡ (draw 64 g).1 → (text_words n last).1 ≡ (text_words 7 g').1 → last ≡ (text_words 8 g).1
next_whole n g g' last none next is =
    sym (ap (λ k. (text_words k last).1) none ∙ none_next last) ∙ (is ∙ (ap (λ h. (text_words 7 h).1) next ∙ sym (first_next 7 g)))

-- the requests of commands, and of those behind them
pub requests-append : (front back : List Command) → requests (front ++ back) ≡ requests front ++ requests back
requests-append [] back = refl
requests-append (words ∷ front) back =
    ap (λ (t : List ℕ). request words ++ t) (requests-append front back) ∙ sym (append_assoc (request words) (requests front) (requests back))

-- what a document's commands are spelled as
abbrev pub spelled : ℕ → Lcg → List ℕ
spelled i g = request (setting i (drawn g).text (drawn g).tag (drawn g).number)

first_document : (n i : ℕ) (g : Lcg) → requests (documents (suc n) i g) ≡ spelled i g ++ requests (deleting i ++ documents n (i + 1) (drawn g).next)
unfolding documents
first_document n i g = refl

no_document : (i : ℕ) (g : Lcg) → requests (documents (0) i g) ≡ []
unfolding documents
no_document i g = refl

-- one document more
pub documents_grow : (m n i : ℕ) (g g' : Lcg) (out out' whole : List ℕ) → m ≡ suc n → out' ≡ (out ++ spelled i g) ++ requests (deleting i) → g' ≡ (drawn g).next
    → out ++ requests (documents m i g) ≡ whole → out' ++ requests (documents n (i + 1) g') ≡ whole
documents_grow m n i g g' out out' whole less grown next is =
    let a : out' ++ requests (documents n (i + 1) g') ≡ ((out ++ spelled i g) ++ requests (deleting i)) ++ requests (documents n (i + 1) (drawn g).next) = cc in
    a
    ∙ (append_assoc (out ++ spelled i g) (requests (deleting i)) (requests (documents n (i + 1) (drawn g).next))
    ∙ (append_assoc out (spelled i g) (requests (deleting i) ++ requests (documents n (i + 1) (drawn g).next))
    ∙ (ap (λ (t : List ℕ). out ++ (spelled i g ++ t)) (sym (requests-append (deleting i) (documents n (i + 1) (drawn g).next)))
    ∙ (ap (λ (t : List ℕ). out ++ t) (sym (first_document n i g)) ∙ (ap (λ k. out ++ requests (documents k i g)) (sym less) ∙ is)))))

-- no document is left
pub documents_whole : (n i : ℕ) (last : Lcg) (out whole : List ℕ) → n ≡ 0 → out ++ requests (documents n i last) ≡ whole → out ≡ whole
documents_whole n i last out whole none is =
    sym (append-nil out) ∙ (ap (λ (t : List ℕ). out ++ t) (sym (ap (λ k. requests (documents k i last)) none ∙ no_document i last)) ∙ is)

-- eight words behind their number
pub eight_put : (old a b c d e f g h last x p q r s t u v w : List ℕ) → a ≡ old ++ x → b ≡ a ++ p → c ≡ b ++ q → d ≡ c ++ r → e ≡ d ++ s → f ≡ e ++ t → g ≡ f ++ u → h ≡ g ++ v → last ≡ h ++ w
    → last ≡ old ++ (x ++ (p ++ (q ++ (r ++ (s ++ (t ++ (u ++ (v ++ (w ++ [])))))))))
eight_put old a b c d e f g h last x p q r s t u v w is_a is_b is_c is_d is_e is_f is_g is_h is_last =
    let all : last ≡ ((((((((old ++ x) ++ p) ++ q) ++ r) ++ s) ++ t) ++ u) ++ v) ++ w = cc in
    all ∙ simp (append_assoc, append-nil)

-- five requests
pub five_put : (old a b c d last p q r s t : List ℕ) → a ≡ old ++ p → b ≡ a ++ q → c ≡ b ++ r → d ≡ c ++ s → last ≡ d ++ t
    → last ≡ old ++ (p ++ (q ++ (r ++ (s ++ (t ++ [])))))
five_put old a b c d last p q r s t is_a is_b is_c is_d is_last =
    let all : last ≡ ((((old ++ p) ++ q) ++ r) ++ s) ++ t = cc in
    all ∙ simp (append_assoc, append-nil)

-- a load is its first command, those of the documents, and the last ones
pub load_put : (seed docs : ℕ) (a b last : List ℕ) → a ≡ [] ++ request creating → b ≡ a ++ requests (documents docs 1 (begun seed)) → last ≡ b ++ requests last_commands → last ≡ requests (load seed docs)
unfolding load
load_put seed docs a b last is_a is_b is_last =
    let all : last ≡ (request creating ++ requests (documents docs 1 (begun seed))) ++ requests last_commands = cc in
    all
    ∙ (append_assoc (request creating) (requests (documents docs 1 (begun seed))) (requests last_commands)
    ∙ ap (λ (t : List ℕ). request creating ++ t) (sym (requests-append (documents docs 1 (begun seed)) last_commands)))

-- what holds of an outcome holds of a weaker fact
pub on_ok : {T E : Type 0} (r : Result T E) (P Q : Type 0) → (P → Q) → OnOk r P → OnOk r Q
on_ok (Ok x) P Q so is = so is
on_ok (Err e) P Q so is = tt
