use Rattle.std.proofs.Common.{◌≡◌, ℕ, List, ◌+◌, ◌++◌, ap, sym, ◌∙◌, append_assoc, map, take}
use Rattle.ft_index.specs.Collected.{codes_of, one_more}
use Rattle.ft_index.specs.Entries.{codes_among, occurrence}
use Rattle.ft_index.proofs.WordLaws.{codes-next}
use Rattle.ft_index.proofs.words.note_all.Goals as goal

pub loop-i-preserved : goal.loop-i-preserved
loop-i-preserved c =
    let noted : (word : List ℕ) → codes_of c.note.new.found.entries word
    ≡ codes_of c.args.found.now.entries word ++ codes_among word (map (occurrence c.args.number) (take (c.loop-i.i + 1) c.args.tokens.now)) =
    λ (word : List ℕ).
    let so_far : List ℕ = codes_among word (map (occurrence c.args.number) (take c.loop-i.i c.args.tokens.now)) in
    let one : List ℕ = one_more c.word.result.now c.code_of.result word in
    let next = codes-next word c.args.number c.args.tokens.now c.loop-i.i (record { place = c.loop-i.i + 1; word = c.word.result.now }) c.word.ensures in
    c.in_ok-note.ensures.codes word
    ∙ (ap (λ (codes : List ℕ). codes ++ one) (c.loop-i.invariant.0 word)
    ∙ (append_assoc (codes_of c.args.found.now.entries word) so_far one
    ∙ ap (λ (codes : List ℕ). codes_of c.args.found.now.entries word ++ codes)
    (ap (λ (code : ℕ). so_far ++ one_more c.word.result.now code word) c.code_of.ensures ∙ sym next))) in
    (noted, λ met. c.in_ok-note.ensures.met (c.loop-i.invariant.1 met))
