use Rattle.std.proofs.Common.{◌≡◌, arith, sym, ◌∙◌, true, false, Bool}
use Rattle.std.specs.Prelude.{string_bytes}
use Rattle.command_line.proofs.WordLaws.{are_three, is_text, no_text, not_first, not_second, three_words}
use Rattle.command_line.proofs.texts.are.Goals as goal
use Rattle.command_line.proofs.texts.are.Goals.{then-eq, else-eq}

clash : (a b : Bool) → a ≡ true → a ≡ b → b ≡ false → ⊥
clash a b holds same fails = absurd (let bad : true ≡ false = sym holds ∙ same ∙ fails in cc)

pub returns-then-eq-2 : goal.returns-then-eq-2
returns-then-eq-2 c =
    let a = string_bytes c.a-item.result in
    let b = string_bytes c.b-item.result in
    let d = string_bytes c.c-item.result in
    let are = three_words c.args.words.now c.a-item.result c.b-item.result c.c-item.result (omega (arith, c.in-len3.len_at_least, c.in-len3.len_below)) c.a-item.is c.b-item.is c.c-item.is in
    elim c.if-eq.branch [
      | then-eq w ↦
          are_three c.args.words.now a b d c.args.name.now c.args.first.now c.args.second.now c.as_str-then-eq-2.result.now c.eq-then-eq-2.result are
          (is_text a c.as_str.result.now c.args.name.now c.eq.result c.as_str.ensures.value c.eq.ensures w.if-eq.true)
          (is_text b w.as_str-then-eq.result.now c.args.first.now w.eq-then-eq.result w.as_str-then-eq.ensures.value w.eq-then-eq.ensures (sym w.value-is ∙ c.if-eq-2.true))
          c.as_str-then-eq-2.ensures.value c.eq-then-eq-2.ensures
      | else-eq w ↦ absurd (clash c.if-eq.value c.eq.result c.if-eq-2.true w.value-is w.if-eq.false)
    ]

pub returns-else-eq-2 : goal.returns-else-eq-2
returns-else-eq-2 c =
    let a = string_bytes c.a-item.result in
    let b = string_bytes c.b-item.result in
    let d = string_bytes c.c-item.result in
    let are = three_words c.args.words.now c.a-item.result c.b-item.result c.c-item.result (omega (arith, c.in-len3.len_at_least, c.in-len3.len_below)) c.a-item.is c.b-item.is c.c-item.is in
    elim c.if-eq.branch [
      | then-eq w ↦
          not_second c.args.words.now a b d c.args.name.now c.args.first.now c.args.second.now c.if-eq.value are c.if-eq-2.false
          (no_text b w.as_str-then-eq.result.now c.args.first.now w.eq-then-eq.result w.as_str-then-eq.ensures.value w.eq-then-eq.ensures (sym w.value-is ∙ c.if-eq-2.false))
      | else-eq w ↦
          not_first c.args.words.now a b d c.args.name.now c.args.first.now c.args.second.now c.if-eq.value are c.if-eq-2.false
          (no_text a c.as_str.result.now c.args.name.now c.eq.result c.as_str.ensures.value c.eq.ensures w.if-eq.false)
    ]
