-- How replies are spelled, one layer at a time.
use Rattle.std.proofs.Common.{◌≡◌, ℕ, List, [], ◌∷◌, ◌++◌, sym, ap, ◌∙◌, append_assoc, Bool, Option, Some, None}
use Rattle.std.specs.Prelude.{ℤ, pos, codes, is_some, if◌then◌else◌}
use Rattle.std.specs.Fmt.{decimal, signed_decimal}
use Rattle.ft_base.proofs.SpellingLaws.{spelling-Fault, spelling-Line, spelling-Number}
use Rattle.ft_base.specs.Reply.{spelling}
use Rattle.ft_base.specs.Docs.{Doc}
use Rattle.ft_machine.specs.Reads.{kind_of}
use Rattle.ft_base.specs.declared.reply.Reply.TheVariants.{Line, Fault, Number}

-- a mark, a text and the end of a line, written one after another to an empty buffer, are an error
pub fault_written : (first second third text : List ℕ) → first ≡ 45 ∷ [] → second ≡ first ++ text → third ≡ second ++ 13 ∷ 10 ∷ [] → third ≡ spelling (Fault text)
fault_written first second third text e f g =
    g ∙ (ap (λ (t : List ℕ). t ++ 13 ∷ 10 ∷ []) (f ∙ ap (λ (t : List ℕ). t ++ text) e) ∙ sym (spelling-Fault text))

-- the text of a done command, written to an empty buffer
pub ok_written : (old new : List ℕ) → old ≡ [] → new ≡ old ++ 43 ∷ 79 ∷ 75 ∷ 13 ∷ 10 ∷ [] → new ≡ spelling (Line (codes "OK"))
ok_written old new e f = f ∙ (ap (λ (t : List ℕ). t ++ 43 ∷ 79 ∷ 75 ∷ 13 ∷ 10 ∷ []) e ∙ sym (spelling-Line (codes "OK")))

-- the same where the text is of two pieces behind the mark
pub fault_of_pieces : (old mark first second third front behind : List ℕ) → old ≡ [] → mark ≡ old ++ 45 ∷ [] → first ≡ mark ++ front → second ≡ first ++ behind → third ≡ second ++ 13 ∷ 10 ∷ []
    → third ≡ spelling (Fault (front ++ behind))
fault_of_pieces old mark first second third front behind e m f g h =
    h ∙ (ap (λ (t : List ℕ). t ++ 13 ∷ 10 ∷ []) (g ∙ ap (λ (t : List ℕ). t ++ behind) (f ∙ ap (λ (t : List ℕ). t ++ front) (m ∙ ap (λ (t : List ℕ). t ++ 45 ∷ []) e))) ∙ sym (spelling-Fault (front ++ behind)))

-- and of three, of which the first has the mark
pub fault_of_three : (old first second third front middle text : List ℕ) → old ≡ [] → first ≡ old ++ 45 ∷ front → second ≡ first ++ middle → third ≡ second ++ (text ++ 13 ∷ 10 ∷ [])
    → third ≡ spelling (Fault (front ++ middle ++ text))
fault_of_three old first second third front middle text e f g h =
    h ∙ (ap (λ (t : List ℕ). t ++ (text ++ 13 ∷ 10 ∷ [])) (g ∙ ap (λ (t : List ℕ). t ++ middle) (f ∙ ap (λ (t : List ℕ). t ++ 45 ∷ front) e))
    ∙ (sym (append_assoc (45 ∷ front ++ middle) text (13 ∷ 10 ∷ [])) ∙ sym (spelling-Fault (front ++ middle ++ text))))

-- a number in three pieces, to an empty buffer
pub number_written : (old first second third : List ℕ) (n : ℕ) → old ≡ [] → first ≡ old ++ 58 ∷ [] → second ≡ first ++ decimal n → third ≡ second ++ 13 ∷ 10 ∷ [] → third ≡ spelling (Number (pos n))
number_written old first second third n e f g h =
    h ∙ (ap (λ (t : List ℕ). t ++ 13 ∷ 10 ∷ []) (g ∙ ap (λ (t : List ℕ). t ++ decimal n) (f ∙ ap (λ (t : List ℕ). t ++ 58 ∷ []) e)) ∙ sym (spelling-Number (pos n)))

-- the same of a number that may be below 0
pub signed_written : (old first second third : List ℕ) (n : ℤ) → old ≡ [] → first ≡ old ++ 58 ∷ [] → second ≡ first ++ signed_decimal n → third ≡ second ++ 13 ∷ 10 ∷ [] → third ≡ spelling (Number n)
signed_written old first second third n e f g h =
    h ∙ (ap (λ (t : List ℕ). t ++ 13 ∷ 10 ∷ []) (g ∙ ap (λ (t : List ℕ). t ++ signed_decimal n) (f ∙ ap (λ (t : List ℕ). t ++ 58 ∷ []) e)) ∙ sym (spelling-Number n))

-- the type of a key's value, written to an empty buffer
pub kind_written : (old new : List ℕ) (said : Bool) (doc : Option Doc) → old ≡ [] → said ≡ is_some doc
    → new ≡ old ++ ((43 ∷ (if said then codes "hash" else codes "none")) ++ 13 ∷ 10 ∷ []) → new ≡ spelling (Line (kind_of doc))
kind_written old new said None e is f = f ∙ (ap (λ (t : List ℕ). t ++ ((43 ∷ (if said then codes "hash" else codes "none")) ++ 13 ∷ 10 ∷ [])) e ∙ rw is (sym (spelling-Line (codes "none"))))
kind_written old new said (Some doc) e is f = f ∙ (ap (λ (t : List ℕ). t ++ ((43 ∷ (if said then codes "hash" else codes "none")) ++ 13 ∷ 10 ∷ [])) e ∙ rw is (sym (spelling-Line (codes "hash"))))
