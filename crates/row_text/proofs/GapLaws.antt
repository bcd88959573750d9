-- What stands behind a gap in what is wanted.
use Rattle.std.specs.Prelude.{◌≡◌, ℕ, ◌-◌, List, ◌∷◌, true, take, drop, length, codes}
use Rattle.std.proofs.Common.{sym, ◌∙◌, ap, subst, inl}
use Rattle.std.specs.Str.{bytes_eq}
use Rattle.std.specs.declared.alloc.Global.{Global}
use Rattle.std.specs.declared.vec.Vec.{Vec}
use Rattle.std.proofs.Math.Seq.{take-length}
use Rattle.std.proofs.lemmas.List.{drop-map, length-drop}
use Rattle.std.proofs.lemmas.Slice.Eq.{bytes_eq-Decides}
use Rattle.row_text.specs.Fit.{Fit, texts}

-- the texts of the lines from a place on
texts-rest : (lines : List (Vec ℕ Global)) (n : ℕ) → texts (take (length lines - n) (drop n lines)) ≡ drop n (texts lines)
texts-rest lines n =
    ap (λ (m : ℕ). texts (take m (drop n lines))) (sym (length-drop n lines)) ∙ ap texts (take-length (drop n lines))
    ∙ sym (drop-map (λ (line : Vec ℕ Global). line.items) n lines)

-- where the lines from a place on are those that a gap is followed by, all are as wanted
pub behind_gap : (want others came : List (Vec ℕ Global)) (first : Vec ℕ Global) (text : List ℕ) (n : ℕ)
    → want ≡ first ∷ others → text ≡ first.items → bytes_eq text (codes "..") ≡ true
    → Fit (texts others) (texts (take (length came - n) (drop n came))) → Fit (texts want) (texts came)
behind_gap want others came first text n is same test fit =
    let P : List (Vec ℕ Global) → Type 0 = λ lines. Fit (texts lines) (texts came) in
    let Q : List (List ℕ) → Type 0 = λ lines. Fit (texts others) lines in
    subst P (sym is) (inl (sym same ∙ (bytes_eq-Decides text (codes "..")).0 test, n, subst Q (texts-rest came n) fit))
