-- The grammar looks at no offset: lexemes of the same kinds at other offsets are a sentence too.
use Rattle.std.proofs.Common.{◌≡◌, ℕ, Bool, true, false, ◌&&◌, IsTrue, List, [], ◌∷◌, ◌++◌, Some, refl, sym, ap, subst, ◌∙◌}
use Rattle.std.specs.List.{list_all}
use Rattle.ft_base.specs.declared.query.Param.{Param}
use Rattle.query_lex.specs.declared.lexeme.Lexeme.{Lexeme}
use Rattle.query_lex.specs.declared.lexeme.LexKind.{LexKind}
use Rattle.query_lex.specs.declared.lexeme.Sign.{Sign}
use Rattle.query_lex.specs.declared.lexeme.Sign.TheVariants as signs
use Rattle.query_grammar.specs.Form.{Form, Edge, Pair, Single, EmptyGroup, Group, Denied, Optional, Named, Range, Tags, With, Both, Side, Either}
use Rattle.query_grammar.specs.Grammar.{Sort, Union, Inter, Unary, Part, Atom, IsEdge, included, excluded, Names, last as last_name, more as more_names, Pairs, none, last, more, Spells, one_side, sides, one_part, parts, minus, tilde, field, range, tags, part, bare, attributed, single, empty_group, group, is_field_name, is_tag, param, sign}
use Rattle.query_grammar.proofs.Signs.{lexeme}

abbrev pub SameKinds : List Lexeme → List Lexeme → Type 0
SameKinds [] [] = Unit {0}
SameKinds [] (u ∷ us) = ⊥
SameKinds (t ∷ ts) [] = ⊥
SameKinds (t ∷ ts) (u ∷ us) = (u.kind ≡ t.kind) × SameKinds ts us

record Ahead (t : Lexeme) (ts us : List Lexeme) : Type 0 where
  pub at : ℕ
  pub others : List Lexeme
  pub is : us ≡ lexeme at t.kind ∷ others
  pub same : SameKinds ts others

ahead : (t : Lexeme) (ts us : List Lexeme) → SameKinds (t ∷ ts) us → Ahead t ts us
ahead t ts [] h = absurd h
ahead t ts (u ∷ us) h = record { at = u.at; others = us; is = ap (λ (k : LexKind). lexeme u.at k ∷ us) h.0; same = h.1 }

nothing : (us : List Lexeme) → SameKinds [] us → us ≡ []
nothing [] h = refl
nothing (u ∷ us) h = absurd h

record Cut (ts vs us : List Lexeme) : Type 0 where
  pub front : List Lexeme
  pub rest : List Lexeme
  pub is : us ≡ front ++ rest
  pub first : SameKinds ts front
  pub second : SameKinds vs rest

cut : (ts vs us : List Lexeme) → SameKinds (ts ++ vs) us → Cut ts vs us
cut [] vs us h = record { front = []; rest = us; is = refl; first = tt; second = h }
cut (t ∷ ts) vs [] h = absurd h
cut (t ∷ ts) vs (u ∷ us) h = let c = cut ts vs us h.1 in record { front = u ∷ c.front; rest = c.rest; is = ap (λ (x : List Lexeme). u ∷ x) c.is; first = (h.0, c.first); second = c.second }

pub same_itself : (ts : List Lexeme) → SameKinds ts ts
same_itself [] = tt
same_itself (t ∷ ts) = (refl, same_itself ts)

pub same_behind : (front ts us : List Lexeme) → SameKinds ts us → SameKinds (front ++ ts) (front ++ us)
same_behind [] ts us h = h
same_behind (t ∷ front) ts us h = (refl, same_behind front ts us h)

-- ---- names, values and attributes

record NamesTo (us : List Lexeme) : Type 0 where
  pub names : List Lexeme
  pub spells : Names us names

names_move : {ts names : List Lexeme} → Names ts names → (us : List Lexeme) → SameKinds ts us → NamesTo us
names_move (last_name t h) us k =
    let a = ahead t [] us k in
    subst NamesTo (sym (a.is ∙ ap (λ (x : List Lexeme). lexeme a.at t.kind ∷ x) (nothing a.others a.same))) (record { names = lexeme a.at t.kind ∷ []; spells = last_name (lexeme a.at t.kind) h })
names_move (more_names t p {ts = ts} h d) us k =
    let a = ahead t (sign p signs.Pipe ∷ ts) us k in
    let b = ahead (sign p signs.Pipe) ts a.others a.same in
    let n = names_move d b.others b.same in
    subst NamesTo (sym (a.is ∙ ap (λ (x : List Lexeme). lexeme a.at t.kind ∷ x) b.is)) (record { names = lexeme a.at t.kind ∷ n.names; spells = more_names (lexeme a.at t.kind) b.at h n.spells })

module _ (params : List Param) where
  record EdgeTo (us : List Lexeme) : Type 0 where
    pub edge : Edge
    pub spells : IsEdge params us edge

  edge_move : {ts : List Lexeme} {edge : Edge} → IsEdge params ts edge → (us : List Lexeme) → SameKinds ts us → EdgeTo us
  edge_move (included t h) us k =
      let a = ahead t [] us k in
      subst EdgeTo (sym (a.is ∙ ap (λ (x : List Lexeme). lexeme a.at t.kind ∷ x) (nothing a.others a.same))) (record { edge = record { excluded = false; value = lexeme a.at t.kind }; spells = included (lexeme a.at t.kind) h })
  edge_move (excluded p t h) us k =
      let a = ahead (sign p signs.Open) (t ∷ []) us k in
      let b = ahead t [] a.others a.same in
      subst EdgeTo (sym (a.is ∙ ap (λ (x : List Lexeme). sign a.at signs.Open ∷ x) (b.is ∙ ap (λ (x : List Lexeme). lexeme b.at t.kind ∷ x) (nothing b.others b.same))))
      (record { edge = record { excluded = true; value = lexeme b.at t.kind }; spells = excluded a.at (lexeme b.at t.kind) h })

  record PairsTo (names : List (List ℕ)) (us : List Lexeme) : Type 0 where
    pub pairs : List Pair
    pub spells : Pairs params names us pairs

  pairs_move : {names : List (List ℕ)} {ts : List Lexeme} {pairs : List Pair} → Pairs params names ts pairs → (us : List Lexeme) → SameKinds ts us → PairsTo names us
  pairs_move (none names) us k = subst (λ (x : List Lexeme). PairsTo names x) (sym (nothing us k)) (record { pairs = []; spells = none names })
  pairs_move (last names p q name t h f) us k =
      let a = ahead (param p name) (sign q signs.Colon ∷ t ∷ []) us k in
      let b = ahead (sign q signs.Colon) (t ∷ []) a.others a.same in
      let c = ahead t [] b.others b.same in
      subst (λ (x : List Lexeme). PairsTo names x)
      (sym (a.is ∙ ap (λ (x : List Lexeme). param a.at name ∷ x) (b.is ∙ ap (λ (x : List Lexeme). sign b.at signs.Colon ∷ x) (c.is ∙ ap (λ (x : List Lexeme). lexeme c.at t.kind ∷ x) (nothing c.others c.same)))))
      (record { pairs = record { at = a.at; name = name; value = Some (lexeme c.at t.kind) } ∷ []; spells = last names a.at b.at name (lexeme c.at t.kind) h f })
  pairs_move (more names p q r name t {ts = ts} h f d) us k =
      let a = ahead (param p name) (sign q signs.Colon ∷ t ∷ sign r signs.Semi ∷ ts) us k in
      let b = ahead (sign q signs.Colon) (t ∷ sign r signs.Semi ∷ ts) a.others a.same in
      let c = ahead t (sign r signs.Semi ∷ ts) b.others b.same in
      let e = ahead (sign r signs.Semi) ts c.others c.same in
      let g = pairs_move d e.others e.same in
      subst (λ (x : List Lexeme). PairsTo names x)
      (sym (a.is ∙ ap (λ (x : List Lexeme). param a.at name ∷ x) (b.is ∙ ap (λ (x : List Lexeme). sign b.at signs.Colon ∷ x) (c.is ∙ ap (λ (x : List Lexeme). lexeme c.at t.kind ∷ x) e.is))))
      (record { pairs = record { at = a.at; name = name; value = Some (lexeme c.at t.kind) } ∷ g.pairs; spells = more names a.at b.at e.at name (lexeme c.at t.kind) h f g.spells })

  tags_move : (ts us : List Lexeme) → SameKinds ts us → IsTrue (list_all (λ (u : Lexeme). is_tag u.kind) ts) → IsTrue (list_all (λ (u : Lexeme). is_tag u.kind) us)
  tags_move [] [] k h = h
  tags_move [] (u ∷ us) k h = absurd k
  tags_move (t ∷ ts) [] k h = absurd k
  tags_move (t ∷ ts) (u ∷ us) k h = rw k.0 (both (is_tag t.kind) (list_all (λ (u : Lexeme). is_tag u.kind) ts) (list_all (λ (u : Lexeme). is_tag u.kind) us) h (λ x. tags_move ts us k.1 x))
    where
      both : (a b c : Bool) → IsTrue (a && b) → (IsTrue b → IsTrue c) → IsTrue (a && c)
      both true b c h f = f h
      both false b c h f = absurd cc

  -- ---- sentences

  pub record SpelledTo (s : Sort) (us : List Lexeme) : Type 0 where
    pub form : Form
    pub spells : Spells params s us form

  moved : (s : Sort) (vs us : List Lexeme) (a : Form) → vs ≡ us → Spells params s vs a → SpelledTo s us
  moved s vs us a e d = record { form = a; spells = subst (λ (x : List Lexeme). Spells params s x a) e d }

  field_to : (vs ts us : List Lexeme) (p q : ℕ) (a : Ahead (sign p signs.At) (vs ++ sign q signs.Colon ∷ ts) us) (c : Cut vs (sign q signs.Colon ∷ ts) a.others) (h : Ahead (sign q signs.Colon) ts c.rest)
      → NamesTo c.front → SpelledTo Part h.others → SpelledTo Unary us
  field_to vs ts us p q a c h n x = moved Unary (sign a.at signs.At ∷ c.front ++ sign h.at signs.Colon ∷ h.others) us (Named a.at n.names x.form)
      (sym (a.is ∙ ap (λ (z : List Lexeme). sign a.at signs.At ∷ z) (c.is ∙ ap (λ (z : List Lexeme). c.front ++ z) h.is))) (field a.at h.at n.spells x.spells)

  -- the lexemes in front of a target in brackets or braces
  record TargetTo (t : Lexeme) (s : Sign) (ts us : List Lexeme) : Type 0 where
    pub p : ℕ
    pub q : ℕ
    pub r : ℕ
    pub name : ℕ
    pub others : List Lexeme
    pub is : us ≡ sign p signs.At ∷ lexeme name t.kind ∷ sign q signs.Colon ∷ sign r s ∷ others
    pub same : SameKinds ts others

  target_to : (t : Lexeme) (s : Sign) (ts us : List Lexeme) (p q r : ℕ) (a : Ahead (sign p signs.At) (t ∷ sign q signs.Colon ∷ sign r s ∷ ts) us) (b : Ahead t (sign q signs.Colon ∷ sign r s ∷ ts) a.others)
      (c : Ahead (sign q signs.Colon) (sign r s ∷ ts) b.others) (g : Ahead (sign r s) ts c.others) → TargetTo t s ts us
  target_to t s ts us p q r a b c g = record {
    p = a.at;
    q = c.at;
    r = g.at;
    name = b.at;
    others = g.others;
    is = a.is ∙ ap (λ (z : List Lexeme). sign a.at signs.At ∷ z) (b.is ∙ ap (λ (z : List Lexeme). lexeme b.at t.kind ∷ z) (c.is ∙ ap (λ (z : List Lexeme). sign c.at signs.Colon ∷ z) g.is));
    same = g.same;
  }

  target_move : (t : Lexeme) (s : Sign) (ts us : List Lexeme) (p q r : ℕ) → SameKinds (sign p signs.At ∷ t ∷ sign q signs.Colon ∷ sign r s ∷ ts) us → TargetTo t s ts us
  target_move t s ts us p q r k =
      let a = ahead (sign p signs.At) (t ∷ sign q signs.Colon ∷ sign r s ∷ ts) us k in
      let b = ahead t (sign q signs.Colon ∷ sign r s ∷ ts) a.others a.same in
      let c = ahead (sign q signs.Colon) (sign r s ∷ ts) b.others b.same in
      target_to t s ts us p q r a b c (ahead (sign r s) ts c.others c.same)

  -- a last sign
  record LastTo (s : Sign) (ts us : List Lexeme) : Type 0 where
    pub at : ℕ
    pub front : List Lexeme
    pub is : us ≡ front ++ sign at s ∷ []
    pub same : SameKinds ts front

  last_to : (s : Sign) (ts us : List Lexeme) (q : ℕ) (c : Cut ts (sign q s ∷ []) us) (l : Ahead (sign q s) [] c.rest) → LastTo s ts us
  last_to s ts us q c l = record { at = l.at; front = c.front; is = c.is ∙ ap (λ (z : List Lexeme). c.front ++ z) (l.is ∙ ap (λ (z : List Lexeme). sign l.at s ∷ z) (nothing l.others l.same)); same = c.first }

  last_move : (s : Sign) (ts us : List Lexeme) (q : ℕ) → SameKinds (ts ++ sign q s ∷ []) us → LastTo s ts us
  last_move s ts us q k = let c = cut ts (sign q s ∷ []) us k in last_to s ts us q c (ahead (sign q s) [] c.rest c.second)

  range_to : (t : Lexeme) (ts vs xs ws us : List Lexeme) → IsTrue (is_field_name t.kind) → (g : TargetTo t signs.RangeOpen ts us) (c : Cut vs xs g.others) → EdgeTo c.front → (l : LastTo signs.RangeClose ws c.rest) → EdgeTo l.front → SpelledTo Unary us
  range_to t ts vs xs ws us f g c x l y = moved Unary (sign g.p signs.At ∷ lexeme g.name t.kind ∷ sign g.q signs.Colon ∷ sign g.r signs.RangeOpen ∷ c.front ++ (l.front ++ sign l.at signs.RangeClose ∷ [])) us
      (Named g.p (lexeme g.name t.kind ∷ []) (Range g.r x.edge y.edge))
      (sym (g.is ∙ ap (λ (z : List Lexeme). sign g.p signs.At ∷ lexeme g.name t.kind ∷ sign g.q signs.Colon ∷ sign g.r signs.RangeOpen ∷ z) (c.is ∙ ap (λ (z : List Lexeme). c.front ++ z) l.is)))
      (range g.p g.q g.r l.at (lexeme g.name t.kind) f x.spells y.spells)

  tags_to : (t : Lexeme) (ts vs us : List Lexeme) → IsTrue (is_field_name t.kind) → IsTrue (list_all (λ (u : Lexeme). is_tag u.kind) vs) → (g : TargetTo t signs.TagOpen ts us) → LastTo signs.TagClose vs g.others → SpelledTo Unary us
  tags_to t ts vs us f d g l = moved Unary (sign g.p signs.At ∷ lexeme g.name t.kind ∷ sign g.q signs.Colon ∷ sign g.r signs.TagOpen ∷ l.front ++ sign l.at signs.TagClose ∷ []) us (Named g.p (lexeme g.name t.kind ∷ []) (Tags g.r l.front))
      (sym (g.is ∙ ap (λ (z : List Lexeme). sign g.p signs.At ∷ lexeme g.name t.kind ∷ sign g.q signs.Colon ∷ sign g.r signs.TagOpen ∷ z) l.is))
      (tags g.p g.q g.r l.at (lexeme g.name t.kind) l.front f (tags_move vs l.front l.same d))

  -- an arrow and what opens behind it
  record ArrowTo (ts us : List Lexeme) : Type 0 where
    pub p : ℕ
    pub q : ℕ
    pub others : List Lexeme
    pub is : us ≡ sign p signs.Arrow ∷ sign q signs.AttrOpen ∷ others
    pub same : SameKinds ts others

  arrow_move : (ts us : List Lexeme) (p q : ℕ) → SameKinds (sign p signs.Arrow ∷ sign q signs.AttrOpen ∷ ts) us → ArrowTo ts us
  arrow_move ts us p q k =
      let a = ahead (sign p signs.Arrow) (sign q signs.AttrOpen ∷ ts) us k in
      let b = ahead (sign q signs.AttrOpen) ts a.others a.same in
      record { p = a.at; q = b.at; others = b.others; is = a.is ∙ ap (λ (z : List Lexeme). sign a.at signs.Arrow ∷ z) b.is; same = b.same }

  attributed_to : (ts vs ws us : List Lexeme) (l : LastTo signs.AttrClose ws us) (c : Cut ts vs l.front) (zs : List Lexeme) (a : ArrowTo zs c.rest) → SpelledTo Atom c.front → PairsTo [] a.others → SpelledTo Part us
  attributed_to ts vs ws us l c zs a x y = moved Part (c.front ++ sign a.p signs.Arrow ∷ sign a.q signs.AttrOpen ∷ a.others ++ sign l.at signs.AttrClose ∷ []) us (With x.form a.p y.pairs)
      (sym (l.is ∙ ap (λ (z : List Lexeme). z ++ sign l.at signs.AttrClose ∷ []) (c.is ∙ ap (λ (z : List Lexeme). c.front ++ z) a.is)))
      (attributed a.p a.q l.at x.spells y.spells)

  group_to : (ts us : List Lexeme) (p : ℕ) (vs : List Lexeme) (a : Ahead (sign p signs.Open) vs us) (l : LastTo signs.Close ts a.others) → SpelledTo Union l.front → SpelledTo Atom us
  group_to ts us p vs a l x = moved Atom (sign a.at signs.Open ∷ l.front ++ sign l.at signs.Close ∷ []) us (Group a.at x.form) (sym (a.is ∙ ap (λ (z : List Lexeme). sign a.at signs.Open ∷ z) l.is)) (group a.at l.at x.spells)

  pub moves : {s : Sort} {ts : List Lexeme} {a : Form} → Spells params s ts a → (us : List Lexeme) → SameKinds ts us → SpelledTo s us
  moves (one_side d) us k = let x = moves d us k in record { form = Side x.form; spells = one_side x.spells }
  moves (sides p {ts = ts} {us = vs} d e) us k =
      let c = cut ts (sign p signs.Pipe ∷ vs) us k in
      let h = ahead (sign p signs.Pipe) vs c.rest c.second in
      let x = moves d c.front c.first in
      let y = moves e h.others h.same in
      moved Union (c.front ++ sign h.at signs.Pipe ∷ h.others) us (Either x.form y.form) (sym (c.is ∙ ap (λ (z : List Lexeme). c.front ++ z) h.is)) (sides h.at x.spells y.spells)
  moves (one_part d) us k = let x = moves d us k in record { form = x.form; spells = one_part x.spells }
  moves (parts {ts = ts} {us = vs} d e) us k =
      let c = cut ts vs us k in
      let x = moves d c.front c.first in
      let y = moves e c.rest c.second in
      moved Inter (c.front ++ c.rest) us (Both x.form y.form) (sym c.is) (parts x.spells y.spells)
  moves (minus p {ts = ts} d) us k =
      let h = ahead (sign p signs.Minus) ts us k in
      let x = moves d h.others h.same in
      moved Unary (sign h.at signs.Minus ∷ h.others) us (Denied h.at x.form) (sym h.is) (minus h.at x.spells)
  moves (tilde p {ts = ts} d) us k =
      let h = ahead (sign p signs.Tilde) ts us k in
      let x = moves d h.others h.same in
      moved Unary (sign h.at signs.Tilde ∷ h.others) us (Optional h.at x.form) (sym h.is) (tilde h.at x.spells)
  moves (field p q {us = vs} {ts = ts} d e) us k =
      let a = ahead (sign p signs.At) (vs ++ sign q signs.Colon ∷ ts) us k in
      let c = cut vs (sign q signs.Colon ∷ ts) a.others a.same in
      let h = ahead (sign q signs.Colon) ts c.rest c.second in
      field_to vs ts us p q a c h (names_move d c.front c.first) (moves e h.others h.same)
  moves (range p q r s t {us = vs} {vs = ws} f d e) us k =
      let g = target_move t signs.RangeOpen (vs ++ (ws ++ sign s signs.RangeClose ∷ [])) us p q r k in
      let c = cut vs (ws ++ sign s signs.RangeClose ∷ []) g.others g.same in
      let l = last_move signs.RangeClose ws c.rest s c.second in
      range_to t (vs ++ (ws ++ sign s signs.RangeClose ∷ [])) vs (ws ++ sign s signs.RangeClose ∷ []) ws us f g c (edge_move d c.front c.first) l (edge_move e l.front l.same)
  moves (tags p q r s t vs f d) us k =
      let g = target_move t signs.TagOpen (vs ++ sign s signs.TagClose ∷ []) us p q r k in
      tags_to t (vs ++ sign s signs.TagClose ∷ []) vs us f d g (last_move signs.TagClose vs g.others s g.same)
  moves (part d) us k = let x = moves d us k in record { form = x.form; spells = part x.spells }
  moves (bare d) us k = let x = moves d us k in record { form = x.form; spells = bare x.spells }
  moves (attributed p q r {ts = ts} {us = vs} d e) us k =
      let l = last_move signs.AttrClose (ts ++ sign p signs.Arrow ∷ sign q signs.AttrOpen ∷ vs) us r k in
      let c = cut ts (sign p signs.Arrow ∷ sign q signs.AttrOpen ∷ vs) l.front l.same in
      let a = arrow_move vs c.rest p q c.second in
      attributed_to ts (sign p signs.Arrow ∷ sign q signs.AttrOpen ∷ vs) (ts ++ sign p signs.Arrow ∷ sign q signs.AttrOpen ∷ vs) us l c vs a (moves d c.front c.first) (pairs_move e a.others a.same)
  moves (single t h) us k =
      let a = ahead t [] us k in
      moved Atom (lexeme a.at t.kind ∷ []) us (Single (lexeme a.at t.kind)) (sym (a.is ∙ ap (λ (z : List Lexeme). lexeme a.at t.kind ∷ z) (nothing a.others a.same))) (single (lexeme a.at t.kind) h)
  moves (empty_group p q) us k =
      let a = ahead (sign p signs.Open) (sign q signs.Close ∷ []) us k in
      let b = ahead (sign q signs.Close) [] a.others a.same in
      moved Atom (sign a.at signs.Open ∷ sign b.at signs.Close ∷ []) us (EmptyGroup a.at)
      (sym (a.is ∙ ap (λ (z : List Lexeme). sign a.at signs.Open ∷ z) (b.is ∙ ap (λ (z : List Lexeme). sign b.at signs.Close ∷ z) (nothing b.others b.same)))) (empty_group a.at b.at)
  moves (group p q {ts = ts} d) us k =
      let a = ahead (sign p signs.Open) (ts ++ sign q signs.Close ∷ []) us k in
      let l = last_move signs.Close ts a.others q a.same in
      group_to ts us p (ts ++ sign q signs.Close ∷ []) a l (moves d l.front l.same)
