-- What a union finds: in its stretch, and in its parts beyond it.
use Rattle.std.proofs.Common.{◌≡◌, ℕ, ◌<◌, ◌≤◌, ◌+◌, ◌&&◌, ◌||◌, List, map, take, length, get_or, sym, ap, ◌∙◌, subst, arith}
use Rattle.std.specs.List.{All}
use Rattle.std.proofs.Math.ListN.{set}
use Rattle.std.proofs.lemmas.List.{get_or-set_other, length-set}
use Rattle.std.proofs.lemmas.List.Elements.{All-set}
use Rattle.id_iters.specs.Held.{Held}
use Rattle.id_iters.specs.Ready.{AheadReady}
use Rattle.id_iters.specs.Sets.{about_ahead, any_has, living}
use Rattle.id_iters.specs.Stretch.{Stretch, base_of, is_in, limit_of}
use Rattle.id_iters.specs.declared.iter.Ahead.{Ahead}
use Rattle.id_iters.proofs.LoopLaws.{at_first, within_first, set_same}
use Rattle.id_iters.proofs.PartLaws.{any_more}

module _ (held : Held) where
  -- the bits of a part's ids are set from `from` on and below `next`
  pub record Taken (part : Ahead) (first stretch : Stretch) (from next : ℕ) : Type 0 where
    pub base : base_of stretch ≡ base_of first
    pub limit : limit_of stretch ≡ limit_of first
    pub low : from ≤ next
    pub high : next ≤ limit_of first
    pub before : (id : ℕ) → from ≤ id → id < next → is_in stretch id ≡ (is_in first id || living held.live (about_ahead held part) id)
    pub behind : (id : ℕ) → next ≤ id → is_in stretch id ≡ is_in first id

  -- the bits of the ids of the parts before `at` are set, and those parts may be asked beyond the stretch
  pub record Marked (first parts : List Ahead) (stretch : Stretch) (from at : ℕ) : Type 0 where
    pub same : map (about_ahead held) parts ≡ map (about_ahead held) first
    pub base : base_of stretch ≤ from
    pub limit : from < limit_of stretch
    pub ready : All (λ p. AheadReady held p (limit_of stretch)) parts
    pub rest : (k : ℕ) (d : Ahead) → at ≤ k → k < length parts → AheadReady held (get_or parts k d) from
    pub bits : (id : ℕ) → from ≤ id → id < limit_of stretch → is_in stretch id ≡ (held.live id && any_has (take at (map (about_ahead held) first)) id)

  pub marked_more : (first parts : List Ahead) (old new : Stretch) (from at : ℕ) (was now : Ahead) → Marked first parts old from at → at < length parts → was ≡ get_or parts at was
      → about_ahead held now ≡ about_ahead held was → AheadReady held now (limit_of old) → base_of new ≡ base_of old → limit_of new ≡ limit_of old
      → ((id : ℕ) → from ≤ id → id < limit_of old → is_in new id ≡ (is_in old id || living held.live (about_ahead held was) id))
      → Marked first (set parts at now) new from (at + 1)
  marked_more first parts old new from at was now m h e g r base limit has = record {
    same = set_same (about_ahead held) parts first at was now e g m.same;
    base = omega (arith, base, m.base);
    limit = omega (arith, limit, m.limit);
    ready = All-set (λ p. AheadReady held p (limit_of new)) parts at now (subst (λ n. AheadReady held now n) (sym limit) r) (subst (λ n. All (λ p. AheadReady held p n) parts) (sym limit) m.ready);
    rest = λ k d low l. subst (λ (p : Ahead). AheadReady held p from) (sym (get_or-set_other parts at k now d (λ x. omega (arith, low, x)))) (m.rest k d (omega (arith, low)) (omega (arith, l, length-set parts at now)));
    bits = λ id low high.
        has id low (omega (arith, high, limit))
        ∙ (ap (λ b. b || living held.live (about_ahead held was) id) (m.bits id low (omega (arith, high, limit)))
        ∙ sym (any_more held.live (map (about_ahead held) first) at (about_ahead held was) (about_ahead held was) id (within_first (about_ahead held) parts first at h m.same) (at_first (about_ahead held) parts first at was h e m.same)));
  }
