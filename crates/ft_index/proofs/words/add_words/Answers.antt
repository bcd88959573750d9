use Rattle.std.proofs.Common.{◌≡◌, ◌++◌, ℕ, List, ap, subst, ◌∙◌, arith}
use Rattle.std.proofs.lemmas.Grind.{common_steps}
use Rattle.std.proofs.lemmas.Result.{on_ok_weaker}
use Rattle.ft_index.specs.Collected.{GrowBy, codes_of, occurrences_in}
use Rattle.ft_index.specs.Entries.{codes, codes_among, entry}
use Rattle.term_dict.specs.Terms.{entries_of, list_of}
use Rattle.ft_index.proofs.WordLaws.{occurrences-of_texts, words-seen, words-unseen}
use Rattle.ft_index.proofs.TakingLaws.{lists-none}
use Rattle.ft_index.proofs.words.add_words.Goals as goal

pub returns-clause-unseen : goal.returns-clause-unseen
returns-clause-unseen c =
    words-unseen c.args.def.now c.args.doc.now.id c.args.terms.now c.add_all.new.terms
    (subst (λ (id : ℕ). GrowBy id c.args.terms.now c.add_all.new.terms) c.id.ensures c.add_all.ensures.some)

pub returns-clause-seen : goal.returns-clause-seen
returns-clause-seen c =
    let texts = ap (occurrences_in 0) (c.as_slice.ensures.value ∙ c.in_ok-texts.ensures) ∙ occurrences-of_texts c.args.def.now c.args.doc.now 0 c.args.def.now.fields in
    let found : (word : List ℕ) → codes_of c.in_ok-found.found.entries word ≡ codes c.args.def.now word c.args.doc.now =
    λ (word : List ℕ). c.in_ok-found.ensures.codes word ∙ ap (codes_among word) texts in
    on_ok_weaker c.add_all.result (λ added. words-seen c.args.def.now c.args.doc.now c.args.terms.now c.add_all.new.terms c.requires.up_to c.requires.later
    (λ word. added word ∙ (ap (λ (id : ℕ). entries_of c.args.terms.now word ++ entry id (codes_of c.in_ok-found.found.entries word)) c.id.ensures
    ∙ ap (λ (codes : List ℕ). entries_of c.args.terms.now word ++ entry c.args.doc.now.id codes) (found word))))
    c.add_all.ensures.ok

pub collected-requires : goal.collected-requires
collected-requires c = grind (arith, common_steps)

pub returns-in_err-texts-clause-takes : goal.returns-in_err-texts-clause-takes
returns-in_err-texts-clause-takes c = lists-none c.args.markers.now (list_of c.args.terms.now)

pub returns-in_err-found-clause-takes : goal.returns-in_err-found-clause-takes
returns-in_err-found-clause-takes c = lists-none c.args.markers.now (list_of c.args.terms.now)
