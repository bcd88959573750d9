-- Jobs that were started one after another, and those that were waited for.
use Rattle.std.proofs.Common.{◌≡◌, ℕ, ◌+◌, List, [], ◌∷◌, ◌++◌, map, length, suc, refl, sym, ap, ◌∙◌, subst, append_assoc, append-nil, arith}
use Rattle.std.proofs.lemmas.List.{length-append}
use Rattle.worker_pool.specs.Jobs.{Each, Handed}

each-append : {X : Type 0} (P : X → Type 0) (xs ys : List X) → Each P xs → Each P ys → Each P (xs ++ ys)
each-append P [] ys p q = q
each-append P (x ∷ xs) ys p q = (p.0, each-append P xs ys p.1 q)

map-append : {A B : Type 0} (f : A → B) (xs ys : List A) → map f (xs ++ ys) ≡ map f xs ++ map f ys
map-append f [] ys = refl
map-append f (x ∷ xs) ys = ap (λ l. f x ∷ l) (map-append f xs ys)

pub map-length : {A B : Type 0} (f : A → B) (xs : List A) → length (map f xs) ≡ length xs
map-length f [] = refl
map-length f (x ∷ xs) = ap suc (map-length f xs)

pub handed-append : {J O : Type 0} (done : J → O → Type 0) (js ks : List J) (ws vs : List O) → Handed done js ws → length ws ≡ length js → Handed done ks vs → Handed done (js ++ ks) (ws ++ vs)
handed-append done [] ks [] vs p e q = q
handed-append done [] ks (w ∷ ws) vs p e q = absurd p
handed-append done (j ∷ js) ks [] vs p e q = absurd (omega arith)
handed-append done (j ∷ js) ks (w ∷ ws) vs p e q = (p.0, handed-append done js ks ws vs p.1 (omega arith) q)

-- with more jobs behind them
pub handed_more : {J O : Type 0} (done : J → O → Type 0) (js ks : List J) (ws : List O) → Handed done js ws → Handed done (js ++ ks) ws
handed_more done js ks [] p = tt
handed_more done [] ks (w ∷ ws) p = absurd p
handed_more done (j ∷ js) ks (w ∷ ws) p = (p.0, handed_more done js ks ws p.1)

module _ {J R : Type 0} (job : R → J) (sound : R → Type 0) where
  pub record Starting (ready : J → Type 0) (jobs rest : List J) (running : List R) : Type 0 where
    pub split : jobs ≡ map job running ++ rest
    pub sounds : Each sound running
    pub readies : Each ready rest

  pub starting : (ready : J → Type 0) (jobs rest : List J) (running : List R) → running ≡ [] → rest ≡ jobs → Each ready jobs → Starting ready jobs rest running
  starting ready jobs rest running none same readies = rw (none, same) (record { split = refl; sounds = tt; readies = readies })

  pub started : (ready : J → Type 0) (jobs : List J) (j : J) (rest rest' : List J) (running running' : List R) (r : R) → Starting ready jobs rest running → rest ≡ j ∷ rest' → running' ≡ running ++ r ∷ [] → job r ≡ j → sound r
      → Starting ready jobs rest' running'
  started ready jobs j rest rest' running running' r s next more is ok = record {
    split = s.split ∙ ap (λ (l : List J). map job running ++ l) (next ∙ ap (λ (x : J). x ∷ rest') (sym is)) ∙ sym (append_assoc (map job running) (job r ∷ []) rest') ∙ ap (λ (l : List J). l ++ rest') (sym (map-append job running (r ∷ [])) ∙ ap (map job) (sym more));
    sounds = subst (Each sound) (sym more) (each-append sound running (r ∷ []) s.sounds (ok, tt));
    readies = (subst (Each ready) next s.readies).1;
  }

  pub next_ready : (ready : J → Type 0) (jobs : List J) (j : J) (rest rest' : List J) (running : List R) → Starting ready jobs rest running → rest ≡ j ∷ rest' → ready j
  next_ready ready jobs j rest rest' running s next = (subst (Each ready) next s.readies).0

module _ {J O R : Type 0} (job : R → J) (sound : R → Type 0) (done : J → O → Type 0) where
  pub record Waiting (running rest : List R) (works : List O) : Type 0 where
    pub waited : List R
    pub split : running ≡ waited ++ rest
    pub handed : Handed done (map job waited) works
    pub count : length works ≡ length waited
    pub sounds : Each sound rest

  pub waiting : (running rest : List R) (works : List O) → works ≡ [] → rest ≡ running → Each sound running → Waiting running rest works
  waiting running rest works none same sounds = rw (none, same) (record { waited = []; split = refl; handed = tt; count = refl; sounds = sounds })

  pub next_sound : (running : List R) (r : R) (rest rest' : List R) (works : List O) → Waiting running rest works → rest ≡ r ∷ rest' → sound r
  next_sound running r rest rest' works w next = (subst (Each sound) next w.sounds).0

  pub waited_one : (running : List R) (r : R) (rest rest' : List R) (works works' : List O) (out : O) → Waiting running rest works → rest ≡ r ∷ rest' → works' ≡ works ++ out ∷ [] → done (job r) out
      → Waiting running rest' works'
  waited_one running r rest rest' works works' out w next more is = record {
    waited = w.waited ++ r ∷ [];
    split = w.split ∙ ap (λ (l : List R). w.waited ++ l) next ∙ sym (append_assoc w.waited (r ∷ []) rest');
    handed = subst (Handed done (map job (w.waited ++ r ∷ []))) (sym more)
        (subst (λ (l : List J). Handed done l (works ++ out ∷ [])) (sym (map-append job w.waited (r ∷ [])))
        (handed-append done (map job w.waited) (job r ∷ []) works (out ∷ []) w.handed (w.count ∙ sym (map-length job w.waited)) (is, tt)));
    count = ap length more ∙ length-append works (out ∷ []) ∙ ap (λ (n : ℕ). n + 1) w.count ∙ sym (length-append w.waited (r ∷ []));
    sounds = (subst (Each sound) next w.sounds).1;
  }

  pub all_waited : (running rest : List R) (works : List O) → Waiting running rest works → rest ≡ [] → Handed done (map job running) works × (length works ≡ length running)
  all_waited running rest works w none =
      let same : running ≡ w.waited = w.split ∙ ap (λ (l : List R). w.waited ++ l) none ∙ append-nil w.waited in
      (subst (λ (l : List R). Handed done (map job l) works) (sym same) w.handed, w.count ∙ ap length (sym same))
