use Rattle.std.proofs.Common.{◌≡◌, ◌+◌, ◌∷◌, ◌++◌, [], Bool, true, List, ℕ, length, if◌then◌else◌, arith}
use Rattle.token_text.specs.declared.part.Part.{Part}
use Rattle.token_text.specs.Slices.{between, tokens_in}
use Rattle.token_text.specs.Tokens.{before, numbered}
use Rattle.token_text.proofs.SlicesLaws.{tokens-pushed, within-pushed}
use Rattle.token_text.proofs.token.add_run.Goals as goal

-- a run that is kept goes into the list
kept-added : (stops : List (List ℕ)) (bytes : List ℕ) (parts new : List Part) (from to : ℕ) (kept : Bool) → kept ≡ true → new ≡ parts ++ record { from = from; to = to } ∷ []
    → ((place : ℕ) → numbered stops place (before (between bytes from to) []) ≡ (if kept then record { place = place; word = between bytes from to } ∷ [] else []))
    → tokens_in bytes new ≡ tokens_in bytes parts ++ numbered stops (length parts + 1) (before (between bytes from to) [])
kept-added stops bytes parts new from to kept is pushed told =
    let one : numbered stops (length parts + 1) (before (between bytes from to) []) ≡ record { place = length parts + 1; word = between bytes from to } ∷ [] = rw is at told (length parts + 1) in
    rw (pushed, one) (tokens-pushed bytes 1 parts (record { from = from; to = to }) (length parts + 1) (omega arith))

pub returns-in_ok-push-clause-added : goal.returns-in_ok-push-clause-added
returns-in_ok-push-clause-added c =
    kept-added c.args.stops.now.words c.args.bytes.now c.args.parts.now.items c.push.new.self.items c.args.from c.args.to c.is_token.result
    c.if-is_token.true c.in_ok-push.ensures.items c.is_token.ensures

pub returns-in_ok-push-clause-within : goal.returns-in_ok-push-clause-within
returns-in_ok-push-clause-within c = λ size inside lie.
    rw c.in_ok-push.ensures.items (within-pushed size c.args.parts.now.items (record { from = c.args.from; to = c.args.to }) lie c.requires.order inside)
