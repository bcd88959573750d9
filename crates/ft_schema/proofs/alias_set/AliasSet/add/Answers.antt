use Rattle.std.proofs.Common.{◌≡◌, ℕ, false, List, [], ◌∷◌, ◌++◌, ap, ◌∙◌, cond}
use Rattle.std.specs.List.{list_any}
use Rattle.std.specs.Str.{bytes_eq}
use Rattle.std.specs.declared.vec.Vec.{Vec}
use Rattle.std.specs.declared.alloc.Global.{Global}
use Rattle.ft_schema.specs.AliasKeys.{aliases_of}
use Rattle.ft_schema.proofs.AliasLemmas.{is_kept, has-aliases_of, aliases_of-push}
use Rattle.ft_schema.proofs.alias_set.AliasSet.add.Goals as goal

-- an alias that is new goes last
new_last : (keys after : List (Vec ℕ Global)) (key : Vec ℕ Global) (alias : List ℕ) (names : List (List ℕ)) → key.items ≡ alias → aliases_of keys ≡ names
    → list_any (bytes_eq alias) names ≡ false → after ≡ cond (list_any (is_kept key.items) keys) keys (keys ++ key ∷ []) → aliases_of after ≡ names ++ alias ∷ []
new_last keys after key alias names same seen new e =
    let none : list_any (is_kept key.items) keys ≡ false = ap (λ a. list_any (is_kept a) keys) same ∙ (has-aliases_of alias keys ∙ (ap (λ ns. list_any (bytes_eq alias) ns) seen ∙ new)) in
    ap aliases_of (e ∙ ap (λ b. cond b keys (keys ++ key ∷ [])) none) ∙ (aliases_of-push keys key ∙ (ap (λ ns. ns ++ key.items ∷ []) seen ∙ ap (λ a. names ++ a ∷ []) same))

pub returns : goal.returns
returns c = new_last c.self.inside.known.keys c.insert.new.self.keys c.in_ok-name.name c.args.alias.now c.args.self.now c.in_ok-name.ensures.items c.self.view_is c.requires.new c.in_ok-insert.ensures.keys
