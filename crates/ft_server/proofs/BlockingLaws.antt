-- How the commands of a block lead on, and that an engine which executed them stands for their entries.
use Rattle.std.proofs.Common.{◌≡◌, ◌+◌, ◌<◌, ℕ, List, [], ◌∷◌, ◌++◌, length, map, take, get_or, refl, sym, ap, subst, ◌∙◌, arith, append_assoc, append-nil, length-append}
use Rattle.std.proofs.lemmas.List.{map-append, take_more, take_more_set}
use Rattle.std.proofs.lemmas.List.Elements.{recursion_from_All}
use Rattle.std.specs.List.{All, AllByRecursion}
use Rattle.std.specs.Prelude.{set}
use Rattle.ft_base.specs.declared.words.Frame.{Frame}
use Rattle.history_core.specs.Commands.{Said, commands_of, moments_of, words_of}
use Rattle.history_core.specs.Entries.{Exec}
use Rattle.ft_engine.specs.Entries.{Entry}
use Rattle.ft_engine.specs.Stands.{Stands}
use Rattle.ft_server.specs.BlockLaws.{block}
use Rattle.ft_server.specs.Blocks.{Executes, IsCommand, Went, all_words, words_in}
use Rattle.ft_server.specs.Items.{said_at}
use Rattle.ft_server.specs.Telling.{Tells}
use Rattle.ft_server.proofs.TellingLaws.{tells_more}

module _ {M : Type 0} (step : M → ℕ → List (List ℕ) → List ℕ → M → Type 0) where
  -- one command more
  executes_more : (moment : ℕ) (commands : List (List (List ℕ))) (replies : List (List ℕ)) (words : List (List ℕ)) (reply : List ℕ) (old mid new : M)
      → Executes step moment old commands replies mid → step mid moment words reply new
      → Executes step moment old (commands ++ words ∷ []) (replies ++ reply ∷ []) new
  executes_more moment [] [] words reply old mid new is one = (new, subst (λ (m : M). step m moment words reply new) (sym is) one, refl)
  executes_more moment [] (r ∷ replies) words reply old mid new is one = absurd is
  executes_more moment (w ∷ commands) [] words reply old mid new is one = absurd is
  executes_more moment (w ∷ commands) (r ∷ replies) words reply old mid new leads one =
      (leads.0, leads.1, executes_more moment commands replies words reply leads.0 mid new leads.2 one)

  -- a loop over the commands goes on by the one at its place
  pub executes_at : (moment : ℕ) (frames : List Frame) (outs : List (List ℕ)) (at : ℕ) (frame : Frame) (out : List ℕ) (old mid new : M)
      → at < length frames → frame ≡ get_or frames at frame → length outs ≡ length frames
      → Executes step moment old (all_words (take at frames)) (take at outs) mid → step mid moment (words_in frame) out new
      → Executes step moment old (all_words (take (at + 1) frames)) (take (at + 1) (set outs at out)) new
  executes_at moment frames outs at frame out old mid new within is same leads one =
      let words : all_words (take (at + 1) frames) ≡ all_words (take at frames) ++ words_in frame ∷ [] =
      ap all_words (take_more frames at frame within ∙ ap (λ (f : Frame). take at frames ++ f ∷ []) (sym is)) ∙ map-append words_in (take at frames) (frame ∷ []) in
      let replies : take (at + 1) (set outs at out) ≡ take at outs ++ out ∷ [] = take_more_set outs at out (omega (arith, within, same)) in
      subst (λ (ws : List (List (List ℕ))). Executes step moment old ws (take (at + 1) (set outs at out)) new) (sym words)
      (subst (λ (rs : List (List ℕ)). Executes step moment old (all_words (take at frames) ++ words_in frame ∷ []) rs new) (sym replies)
      (executes_more moment (all_words (take at frames)) (take at outs) (words_in frame) out old mid new leads one))

-- the entries of a block, behind those that the engine stood for
told_on : (moment first caller : ℕ) (frames : List Frame) (replies : List (List ℕ)) (seen : List Entry) (old new : Stands)
    → AllByRecursion IsCommand frames → Tells old seen first → Executes Went moment old (all_words frames) replies new
    → Tells new (seen ++ commands_of caller (said_at moment (all_words frames) replies)) first
told_on moment first caller [] [] seen old new each tells is =
    subst (λ (log : List Entry). Tells new log first) (sym (append-nil seen)) (subst (λ (e : Stands). Tells e seen first) is tells)
told_on moment first caller [] (reply ∷ replies) seen old new each tells is = absurd is
told_on moment first caller (frame ∷ frames) [] seen old new each tells is = absurd is
told_on moment first caller (frame ∷ frames) (reply ∷ replies) seen old new each tells leads =
    let between : Stands = leads.0 in
    let step : Went old moment (words_in frame) reply between = leads.1 in
    let entry : Entry = Exec caller moment (words_in frame) reply in
    let one : Tells between (seen ++ entry ∷ []) first =
    tells_more old old between seen first first caller moment (words_in frame) (words_in frame) reply reply tells refl refl refl refl each.0.0 each.0.1
    step.answer step.clean step.next step.free step.indexed step.moves in
    subst (λ (log : List Entry). Tells new log first) (append_assoc seen (entry ∷ []) (commands_of caller (said_at moment (all_words frames) replies)))
    (told_on moment first caller frames replies (seen ++ entry ∷ []) between new each.1 one leads.2)

-- The same, where what the loop and the lock know is told of the same engine, number and replies.
pub block_told : (moment first first' caller : ℕ) (frames : List Frame) (outs replies : List (List ℕ)) (seen : List Entry) (old mid new : Stands)
    → All IsCommand frames → Tells old seen first → first' ≡ first → mid ≡ old → replies ≡ outs → Executes Went moment mid (all_words frames) outs new
    → Tells new (seen ++ commands_of caller (said_at moment (all_words frames) replies)) first'
block_told moment first first' caller frames outs replies seen old mid new all tells same is told leads =
    let at_old : Executes Went moment old (all_words frames) outs new = subst (λ (e : Stands). Executes Went moment e (all_words frames) outs new) is leads in
    let of_replies : Executes Went moment old (all_words frames) replies new = subst (λ (rs : List (List ℕ)). Executes Went moment old (all_words frames) rs new) (sym told) at_old in
    subst (λ (n : ℕ). Tells new (seen ++ commands_of caller (said_at moment (all_words frames) replies)) n) (sym same)
    (told_on moment first caller frames replies seen old new (recursion_from_All IsCommand frames all) tells of_replies)

-- the entries of a block, as the pass sees them
pub block_logged : (moment caller caller' : ℕ) (frames frames' : List Frame) (outs replies : List (List ℕ)) (seen others log seen' : List Entry)
    → caller' ≡ caller → frames' ≡ frames → replies ≡ outs → log ≡ seen ++ others → seen' ≡ log ++ block caller' moment frames' replies
    → seen' ≡ (seen ++ others) ++ commands_of caller (said_at moment (all_words frames) outs)
block_logged moment caller caller' frames frames' outs replies seen others log seen' same lent told is logged =
    logged
    ∙ (ap (λ (n : ℕ). log ++ block n moment frames' replies) same
    ∙ (ap (λ (fs : List Frame). log ++ block caller moment fs replies) lent
    ∙ (ap (λ (rs : List (List ℕ)). log ++ block caller moment frames rs) told
    ∙ ap (λ (l : List Entry). l ++ block caller moment frames outs) is)))

-- a pass that is alone finds no entry of another
pub no_others : (seen others log : List Entry) → log ≡ seen ++ others → log ≡ seen → others ≡ []
no_others seen [] log is same = refl
no_others seen (entry ∷ others) log is same = absurd (omega (arith, ap length is, ap length same, length-append seen (entry ∷ others)))

-- ---- what commands at one moment left

-- their words, in order
pub said_words : (moment : ℕ) (commands : List (List (List ℕ))) (replies : List (List ℕ)) → length replies ≡ length commands → words_of (said_at moment commands replies) ≡ commands
said_words moment [] replies same = refl
said_words moment (words ∷ commands) [] same = absurd (omega (arith, same))
said_words moment (words ∷ commands) (reply ∷ replies) same = ap (λ (rest : List (List (List ℕ))). words ∷ rest) (said_words moment commands replies (omega (arith, same)))

-- and their replies
pub said_replies : (moment : ℕ) (commands : List (List (List ℕ))) (replies : List (List ℕ)) → length replies ≡ length commands
    → map (λ (one : Said). one.reply) (said_at moment commands replies) ≡ replies
said_replies moment [] [] same = refl
said_replies moment [] (reply ∷ replies) same = absurd (omega (arith, same))
said_replies moment (words ∷ commands) [] same = absurd (omega (arith, same))
said_replies moment (words ∷ commands) (reply ∷ replies) same = ap (λ (rest : List (List ℕ)). reply ∷ rest) (said_replies moment commands replies (omega (arith, same)))

-- all at the one moment
pub said_moments : (moment : ℕ) (commands : List (List (List ℕ))) (replies : List (List ℕ)) → AllByRecursion (λ (at : ℕ). at ≡ moment) (moments_of (said_at moment commands replies))
said_moments moment [] replies = tt
said_moments moment (words ∷ commands) [] = tt
said_moments moment (words ∷ commands) (reply ∷ replies) = (refl, said_moments moment commands replies)
