-- Each step of the turn lock keeps its rule.
use Rattle.std.proofs.Common.{◌≡◌, ℕ, ◌+◌, ◌%◌, ◌^◌, ◌≤◌, Bool, true, false, cond, nat_lt, List, [], ◌∷◌, ◌++◌, length, get_or, set, Option, Some, sym, refl, ap, ◌∙◌, subst, ⊎_elim, arith, append-nil, length-append, length-set}
use Rattle.std.proofs.Math.Nat.{mod-add-mod}
use Rattle.std.proofs.lemmas.Bool.{ltb-true}
use mathlib.Core.Logic.{dite}
use mathlib.Core.Option.{none, some, some-injective, some-ne-none}
use native.Mathlib.Decide.{ℕ_discrete}
use lib.ListN.{get_elem?}
use Rattle.atomic_table.specs.Table.{State, step, keeps, takes, gives, Allows, Splits, Joins, opening}
use Rattle.atomic_table.proofs.Lists.{set_again, set_here, set_else, at_longer}
use Rattle.turn_gate.specs.Log.{NoneBy, AllBy}
use Rattle.turn_gate.specs.Rule.{Sees, Kept}
use Rattle.turn_gate.specs.Steps.{tried, logged, gave_back, counted, compared, checked}
use Rattle.turn_gate.specs.Views.{newcomer, not_alone, another, in_turn_with, with_entries, out_of_turn, with_passes, joined, nobody}
use Rattle.turn_gate.specs.declared.view.View.{View}
use Rattle.turn_gate.proofs.LogLaws.{goes_from, StartsWith-append, NoneBy-all, NoneBy-end, NoneBy-append, NoneBy-other, OthersSince-append, each_set, inside, snoc_at}

false_true : false ≡ true → ⊥
false_true e = subst (λ (b : Bool). cond b ⊥ (Unit {0})) e tt

module _ {E S : Type 0} (by : E → ℕ) (tells : S → List E → ℕ → Type 0) (first : ℕ) where
  abbrev Views : Type 0
  Views = List (View E)

  abbrev Rule : State (Option S) (View E) → Type 0
  Rule = Kept by tells first

  -- what is in turn has the turn, and has seen the log
  abbrev HasTurn : List E → ℕ → ℕ → ℕ → View E → Type 0
  HasTurn log holder turn j u = u.in_turn ≡ true → (j ≡ holder) × (turn ≡ 1) × (u.seen ≡ log)

  abbrev SeesLog : List E → ℕ → View E → Type 0
  SeesLog log j u = u.spent ≡ false → Sees by first log j u

  -- no pass counts more passes than there are, once one of them has another view
  passes_set : (views : Views) (id : ℕ) (w : View E) → w.passes ≤ length views
      → ((j : ℕ) (u : View E) → get_elem? views j ≡ some u → u.passes ≤ length views)
      → (j : ℕ) (u : View E) → get_elem? (set views id w) j ≡ some u → u.passes ≤ length (set views id w)
  passes_set views id w few all =
      each_set (λ j u. u.passes ≤ length (set views id w)) views id w
      (subst (λ n. w.passes ≤ n) (sym (length-set views id w)) few)
      (λ j u _ at. subst (λ n. u.passes ≤ n) (sym (length-set views id w)) (all j u at))

  -- a pass that knows itself alone is the only one, once one of them has another view
  alone_set : (views : Views) (id : ℕ) (w : View E) → (w.alone ≡ true → length views ≡ 1)
      → ((j : ℕ) (u : View E) → get_elem? views j ≡ some u → u.alone ≡ true → length views ≡ 1)
      → (j : ℕ) (u : View E) → get_elem? (set views id w) j ≡ some u → u.alone ≡ true → length (set views id w) ≡ 1
  alone_set views id w this all =
      each_set (λ j u. u.alone ≡ true → length (set views id w) ≡ 1) views id w
      (λ is. length-set views id w ∙ this is)
      (λ j u _ at is. length-set views id w ∙ all j u at is)

  -- a pass that is alone has seen the whole log
  all_seen : (s : State (Option S) (View E)) (id : ℕ) (v : View E) → get_elem? s.views id ≡ some v → v.spent ≡ false → v.alone ≡ true
      → (k : Rule s) → k.log ≡ v.seen
  all_seen s id v me live is k =
      let since = (k.sees id v me live).since in
      let none : (j : ℕ) → NoneBy by j since.0 =
      λ j. dite (ℕ_discrete j id) (λ e. subst (λ (n : ℕ). NoneBy by n since.0) (sym e) since.2)
      (λ ne. NoneBy-end by j v.seen since.0 (subst (NoneBy by j) since.1 (k.unmade j (omega (arith, ne, inside s.views id v me, k.alone id v me is))))) in
      since.1 ∙ (ap (λ (l : List E). v.seen ++ l) (NoneBy-all by since.0 none) ∙ append-nil v.seen)

  -- a pass that isn't in turn is not the one that is
  apart_from : (views : Views) (i j : ℕ) (x y : View E) → get_elem? views i ≡ some x → get_elem? views j ≡ some y
      → x.in_turn ≡ true → y.in_turn ≡ false → i ≡ j → ⊥
  apart_from views i j x y a b t f e =
      false_true (sym f ∙ (ap (λ (u : View E). u.in_turn) (some-injective y x (sym b ∙ (ap (get_elem? views) (sym e) ∙ a))) ∙ t))

  -- the table at the start, with the first pass
  pub opens : (state : S) → tells state [] first → Rule (opening (0 ∷ 0 ∷ []) (Some state ∷ []) (newcomer first))
  opens state ok =
      let only : (j : ℕ) (u : View E) → get_elem? (newcomer first ∷ []) j ≡ some u → (j ≡ 0) × (newcomer first ≡ u) =
      λ j u at. ⊎_elim (λ (e : get_elem? [] j ≡ some u). absurd (some-ne-none u (sym e)))
      (λ (t : (j ≡ 0) × (newcomer first ≡ u)). t) (snoc_at [] (newcomer first) u j at) in
      record {
        log = [];
        holder = 0;
        turn = 0;
        words = refl;
        sees = λ j u at. subst (SeesLog [] j) (only j u at).1
            (λ _. record { since = ([], refl, tt); told = ([], refl); same_first = refl; before = omega arith });
        in_turn = λ j u at is. absurd (false_true (ap (λ (v : View E). v.in_turn) (only j u at).1 ∙ is));
        busy = λ ne. absurd (ne refl);
        free = λ _. (state, refl, ok);
        unmade = λ j _. tt;
        passes = λ j u at. subst (λ (v : View E). v.passes ≤ 1) (only j u at).1 (omega arith);
        alone = λ j u at is. refl;
      }

  -- a step that changes nothing
  keeps_all : (s : State (Option S) (View E)) (id : ℕ) (v : View E) → get_elem? s.views id ≡ some v → Rule s
      → Rule record { words = set s.words 0 (get_or s.words 0 0); homes = s.homes; views = set s.views id v }
  keeps_all s id v me k =
      let same = set_again s.views id v me in record {
        log = k.log;
        holder = k.holder;
        turn = k.turn;
        words = ap (λ (x : List ℕ). set x 0 (get_or x 0 0)) k.words;
        sees = λ j u at. k.sees j u (subst (λ (l : Views). get_elem? l j ≡ some u) same at);
        in_turn = λ j u at. k.in_turn j u (subst (λ (l : Views). get_elem? l j ≡ some u) same at);
        busy = λ ne. let b = k.busy ne in (b.0, subst (λ (l : Views). get_elem? l k.holder ≡ some b.0) (sym same) b.1, b.2);
        free = k.free;
        unmade = λ j l. k.unmade j (subst (λ (n : ℕ). n ≤ j) (length-set s.views id v) l);
        passes = passes_set s.views id v (k.passes id v me) k.passes;
        alone = alone_set s.views id v (k.alone id v me) k.alone;
      }

  -- a turn begins where none was under way
  pub tries : (slots id : ℕ) (v : View E) → v.spent ≡ false
      → Allows Rule slots id (v, []) 0 (λ _. 1) (tried by tells id (step slots 0 1 0 none) (v, []))
  tries slots id v live s k wide me _ =
      let word : get_or s.words 0 0 ≡ k.turn = ap (λ (w : List ℕ). get_or w 0 0) k.words in
      dite (ℕ_discrete (get_or s.words 0 0) 0)
      (λ zero-found. let no : k.turn ≡ 0 = sym word ∙ zero-found in let t = k.free no in let sees = k.sees id v me live in
      let w : View E = in_turn_with v k.log in (
        w,
        takes 0 (Some t.0),
        t.1,
        record {
          log = k.log;
          holder = id;
          turn = 1;
          words = ap (λ (x : List ℕ). set x 0 1) k.words;
          sees = each_set (SeesLog k.log) s.views id w
              (λ _. record { since = ([], sym (append-nil k.log), tt); told = (k.log, refl); same_first = sees.same_first; before = sees.before })
              (λ j u _ at. k.sees j u at);
          in_turn = each_set (HasTurn k.log id 1) s.views id w (λ _. (refl, refl, refl))
              (λ j u _ at is. absurd (omega (arith, no, (k.in_turn j u at is).1)));
          busy = λ _. (w, set_here s.views id w (inside s.views id v me), refl);
          free = λ e. absurd (omega arith);
          unmade = λ j l. k.unmade j (subst (λ (n : ℕ). n ≤ j) (length-set s.views id w) l);
          passes = passes_set s.views id w (k.passes id v me) k.passes;
          alone = alone_set s.views id w (k.alone id v me) k.alone;
        },
        ((λ _. (t.0, k.log, refl, refl, sees.since, (λ is. all_seen s id v me live is k), subst (tells t.0 k.log) (sym sees.same_first) t.2)), λ other. absurd (other zero-found)),
      ))
      (λ held.
      let b = k.busy (λ none. held (word ∙ none)) in
      let one : get_or s.words 0 0 ≡ 1 = word ∙ (k.in_turn k.holder b.0 b.1 b.2).1 in (
        v,
        keeps,
        tt,
        subst (λ (n : ℕ). Rule record { words = set s.words 0 n; homes = s.homes; views = set s.views id v }) one (keeps_all s id v me k),
        ((λ found. absurd (held found)), λ _. refl),
      ))

  -- the log grows by entries of the caller that is in turn
  pub logs : (slots id : ℕ) (v : View E) (c : List (ℕ × Option S)) (es : List E) (n : ℕ) → n ≡ length es → v.in_turn ≡ true → v.spent ≡ false → AllBy by id es
      → Allows Rule slots id (v, c) 1 (λ x. (x + n) % 2 ^ 64) (logged es (step slots 1 n 0 none) (v, c))
  logs slots id v c es n count is live all s k wide me _ =
      let t = k.in_turn id v me is in
      let sees = k.sees id v me live in
      let w : View E = with_entries v es in
      let log : List E = k.log ++ es in
      let word : get_or s.words 1 0 ≡ length k.log % 2 ^ 64 = ap (λ (x : List ℕ). get_or x 1 0) k.words in
      let sum : (get_or s.words 1 0 + n) % 2 ^ 64 ≡ length log % 2 ^ 64 =
      ap (λ (x : ℕ). (x + n) % 2 ^ 64) word ∙ (mod-add-mod (length k.log) (2 ^ 64) n ∙ ap (λ (x : ℕ). x % 2 ^ 64) (omega (arith, count, length-append k.log es))) in (
        w,
        keeps,
        tt,
        record {
          log = log;
          holder = k.holder;
          turn = k.turn;
          words = ap (λ (x : List ℕ). set x 1 ((get_or s.words 1 0 + n) % 2 ^ 64)) k.words ∙ ap (λ (x : ℕ). k.turn ∷ x ∷ []) sum;
          sees = each_set (SeesLog log) s.views id w
              (λ _. record {
                since = ([], ap (λ (l : List E). l ++ es) (sym t.2) ∙ sym (append-nil (v.seen ++ es)), tt);
                told = (log, refl);
                same_first = sees.same_first;
                before = sees.before;
              })
              (λ j u ne at alive. let old = k.sees j u at alive in record {
                since = OthersSince-append by j u.seen k.log es old.since (NoneBy-other by j id (λ e. ne (sym e)) es all);
                told = StartsWith-append k.log u.told es old.told;
                same_first = old.same_first;
                before = old.before;
              });
          in_turn = each_set (HasTurn log k.holder k.turn) s.views id w (λ _. (t.0, t.1, ap (λ (l : List E). l ++ es) t.2))
              (λ j u ne at his. absurd (ne ((k.in_turn j u at his).0 ∙ sym t.0)));
          busy = λ _. (w, subst (λ (h : ℕ). get_elem? (set s.views id w) h ≡ some w) t.0 (set_here s.views id w (inside s.views id v me)), refl);
          free = λ e. absurd (omega (arith, e, t.1));
          unmade = λ j l. let far = subst (λ (x : ℕ). x ≤ j) (length-set s.views id w) l in
              NoneBy-append by j k.log es (k.unmade j far) (NoneBy-other by j id (λ e. omega (arith, inside s.views id v me)) es all);
          passes = passes_set s.views id w (k.passes id v me) k.passes;
          alone = alone_set s.views id w (k.alone id v me) k.alone;
        },
        (refl, refl),
      )

  -- the turn ends, and the state that stands for the log goes back
  pub gives_back : (id : ℕ) (v : View E) (state : S) → v.in_turn ≡ true → v.spent ≡ false → tells state v.seen v.first
      → Allows Rule 1 id (v, (0, Some state) ∷ []) 0 (λ _. 0) (λ _. gave_back (step 1 0 0 0 none) (v, (0, Some state) ∷ []) 0)
  gives_back id v state is live ok s k wide me _ =
      let t = k.in_turn id v me is in
      let sees = k.sees id v me live in
      let w : View E = out_of_turn v in (
        w,
        gives,
        tt,
        record {
          log = k.log;
          holder = k.holder;
          turn = 0;
          words = ap (λ (x : List ℕ). set x 0 0) k.words;
          sees = each_set (SeesLog k.log) s.views id w
              (λ _. record { since = ([], sym t.2 ∙ sym (append-nil v.seen), tt); told = (k.log, refl); same_first = sees.same_first; before = sees.before })
              (λ j u _ at. k.sees j u at);
          in_turn = each_set (HasTurn k.log k.holder 0) s.views id w (λ no. absurd (false_true no)) (λ j u ne at his. absurd (ne ((k.in_turn j u at his).0 ∙ sym t.0)));
          busy = λ ne. absurd (ne refl);
          free = λ _. (
            state,
            set_here s.homes 0 (some (Some state)) (omega arith),
            subst (λ (l : List E). tells state l first) t.2 (subst (tells state v.seen) sees.same_first ok),
          );
          unmade = λ j l. k.unmade j (subst (λ (n : ℕ). n ≤ j) (length-set s.views id w) l);
          passes = passes_set s.views id w (k.passes id v me) k.passes;
          alone = alone_set s.views id w (k.alone id v me) k.alone;
        },
        (refl, refl),
      )

  -- a pass finds how many passes there are
  pub counts : (slots id : ℕ) (v : View E) (c : List (ℕ × Option S)) → v.in_turn ≡ false → v.spent ≡ false
      → Allows Rule slots id (v, c) 0 (λ n. n) (counted id (step slots 0 0 0 none) (v, c))
  counts slots id v c idle live s k wide me _ =
      let sees = k.sees id v me live in
      let w : View E = with_passes v (length s.views) in (
        w,
        keeps,
        tt,
        record {
          log = k.log;
          holder = k.holder;
          turn = k.turn;
          words = ap (λ (x : List ℕ). set x 0 (get_or x 0 0)) k.words;
          sees = each_set (SeesLog k.log) s.views id w
              (λ _. record { since = sees.since; told = sees.told; same_first = sees.same_first; before = sees.before }) (λ j u _ at. k.sees j u at);
          in_turn = each_set (HasTurn k.log k.holder k.turn) s.views id w (λ no. absurd (false_true no)) (λ j u _ at. k.in_turn j u at);
          busy = λ ne. let h = k.busy ne in (h.0, set_else s.views id k.holder w (λ e. apart_from s.views k.holder id h.0 v h.1 me h.2 idle e) ∙ h.1, h.2);
          free = k.free;
          unmade = λ j l. k.unmade j (subst (λ (n : ℕ). n ≤ j) (length-set s.views id w) l);
          passes = passes_set s.views id w (omega arith) k.passes;
          alone = alone_set s.views id w (k.alone id v me) k.alone;
        },
        (refl, inside s.views id v me),
      )

  -- a new pass finds that its number is none of those before
  pub compares : (slots id : ℕ) (v : View E) (c : List (ℕ × Option S)) → v.spent ≡ false
      → Allows Rule slots id (v, c) 0 (λ n. n) (compared id (step slots 0 0 0 none) (v, c))
  compares slots id v c live s k wide me _ = (v, keeps, tt, keeps_all s id v me k, (refl, (k.sees id v me live).before))

  -- the joined pass finds that the shorter list begins the longer one
  pub checks : (slots id : ℕ) (v : View E) (c : List (ℕ × Option S)) → v.spent ≡ false → length v.told ≤ length v.seen
      → Allows Rule slots id (v, c) 0 (λ n. n) (checked (step slots 0 0 0 none) (v, c))
  checks slots id v c live short s k wide me _ =
      let sees = k.sees id v me live in
      let t = goes_from v.told v.seen sees.told.0 sees.since.0 (sym sees.told.1 ∙ sees.since.1) short in
      (v, keeps, tt, keeps_all s id v me k, (refl, (t.0, t.1)))

  -- a new pass has seen as much, and the old one is alone no more
  pub splits : (id : ℕ) (v : View E) → v.spent ≡ false → v.in_turn ≡ false → Splits Rule id v (not_alone v) (another v)
  splits id v live idle s k me =
      let sees = k.sees id v me live in
      let w : View E = not_alone v in
      let vs = set s.views id w in
      let long : length vs ≡ length s.views = length-set s.views id w in
      let more : length (vs ++ another v ∷ []) ≡ length s.views + 1 = omega (arith, long, length-append vs (another v ∷ [])) in
      record {
        log = k.log;
        holder = k.holder;
        turn = k.turn;
        words = k.words;
        sees = λ j u at. ⊎_elim
            (each_set (SeesLog k.log) s.views id w
            (λ _. record { since = sees.since; told = sees.told; same_first = sees.same_first; before = sees.before })
            (λ j u _ at. k.sees j u at) j u)
            (λ (t : (j ≡ length vs) × (another v ≡ u)). λ _. subst (Sees by first k.log j) t.1 record {
              since = (
                sees.since.0,
                sees.since.1,
                NoneBy-end by j v.seen sees.since.0 (subst (NoneBy by j) sees.since.1 (k.unmade j (omega (arith, t.0, long)))),
              );
              told = (k.log, refl);
              same_first = sees.same_first;
              before = omega (arith, k.passes id v me, t.0, long);
            }) (snoc_at vs (another v) u j at);
        in_turn = λ j u at. ⊎_elim
            (each_set (HasTurn k.log k.holder k.turn) s.views id w (λ is. absurd (false_true (sym idle ∙ is))) (λ j u _ at. k.in_turn j u at) j u)
            (λ (t : (j ≡ length vs) × (another v ≡ u)). λ is. absurd (false_true (ap (λ (x : View E). x.in_turn) t.1 ∙ is))) (snoc_at vs (another v) u j at);
        busy = λ ne. let b = k.busy ne in (
          b.0,
          at_longer vs (another v ∷ []) k.holder b.0
              (set_else s.views id k.holder w (λ e. apart_from s.views k.holder id b.0 v b.1 me b.2 idle e) ∙ b.1),
          b.2,
        );
        free = k.free;
        unmade = λ j l. k.unmade j (omega (arith, l, more));
        passes = λ j u at. ⊎_elim
            (λ (there : get_elem? vs j ≡ some u). omega (arith, passes_set s.views id w (k.passes id v me) k.passes j u there, long, more))
            (λ (t : (j ≡ length vs) × (another v ≡ u)). subst (λ (x : View E). x.passes ≤ length (vs ++ another v ∷ [])) t.1 (omega arith))
            (snoc_at vs (another v) u j at);
        alone = λ j u at is. absurd (⊎_elim
            (λ (there : get_elem? vs j ≡ some u). each_set (λ j u. u.alone ≡ true → ⊥) s.views id w false_true
            (λ j u ne at is. ne (omega (arith, k.alone j u at is, inside s.views j u at, inside s.views id v me))) j u there is)
            (λ (t : (j ≡ length vs) × (another v ≡ u)). false_true (ap (λ (x : View E). x.alone) t.1 ∙ is))
            (snoc_at vs (another v) u j at));
      }

  -- what a joined pass knows, by which of the two lists is the longer
  sees_longer : (log : List E) (id other : ℕ) (v w : View E) → Sees by first log id v → Sees by first log other w
      → (b : Bool) → nat_lt (length v.seen) (length w.seen) ≡ b
      → Sees by first log id (record v { seen = cond b w.seen v.seen; told = cond b v.seen w.seen; in_turn = false; spent = false })
  sees_longer log id other v w a c true e =
      let t = goes_from v.seen w.seen a.since.0 c.since.0 (sym a.since.1 ∙ c.since.1) (omega (arith, ltb-true (length v.seen) (length w.seen) e)) in record {
        since = (c.since.0, c.since.1, NoneBy-end by id t.0 c.since.0 (subst (NoneBy by id) t.2 a.since.2));
        told = (a.since.0, a.since.1);
        same_first = a.same_first;
        before = a.before;
      }
  sees_longer log id other v w a c false e =
      record { since = a.since; told = (c.since.0, c.since.1); same_first = a.same_first; before = a.before }

  -- one pass has the longer list, and the other is spent
  pub joins : (id : ℕ) (v : View E) (other : ℕ) (w : View E) → v.spent ≡ false → w.spent ≡ false → v.in_turn ≡ false → w.in_turn ≡ false
      → Joins Rule id v other w (joined v w) nobody
  joins id v other w live alive idle quiet s k me apart them =
      let b = joined v w in
      let vs = set s.views id b in
      let there = sym (set_else s.views id other b apart) ∙ them in
      let sees = sees_longer k.log id other v w (k.sees id v me live) (k.sees other w there alive) (nat_lt (length v.seen) (length w.seen)) refl in record {
        log = k.log;
        holder = k.holder;
        turn = k.turn;
        words = k.words;
        sees = each_set (SeesLog k.log) vs other nobody (λ no. absurd (false_true (sym no)))
            (λ j u _. each_set (SeesLog k.log) s.views id b (λ _. sees) (λ j u _ at. k.sees j u at) j u);
        in_turn = each_set (HasTurn k.log k.holder k.turn) vs other nobody (λ no. absurd (false_true no))
            (λ j u _. each_set (HasTurn k.log k.holder k.turn) s.views id b (λ no. absurd (false_true no)) (λ j u _ at. k.in_turn j u at) j u);
        busy = λ ne. let h = k.busy ne in (
          h.0,
          set_else vs other k.holder nobody (λ e. apart_from s.views k.holder other h.0 w h.1 there h.2 quiet e)
              ∙ (set_else s.views id k.holder b (λ e. apart_from s.views k.holder id h.0 v h.1 me h.2 idle e) ∙ h.1),
          h.2,
        );
        free = k.free;
        unmade = λ j l. k.unmade j (omega (arith, l, length-set vs other nobody, length-set s.views id b));
        passes = passes_set vs other nobody (omega arith) (passes_set s.views id b (k.passes id v me) k.passes);
        alone = alone_set vs other nobody (λ no. absurd (false_true no)) (alone_set s.views id b (k.alone id v me) k.alone);
      }
