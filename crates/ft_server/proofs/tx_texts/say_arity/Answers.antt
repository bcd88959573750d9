use Rattle.std.proofs.Common.{append-nil, refl, sym}
use Rattle.std.proofs.lemmas.Result.{on_err_weaker, on_ok_weaker}
use Rattle.ft_server.proofs.PieceLaws.{arity_pieces, left_all, left_cut, left_more, left_none, whatever, arity_back}
use Rattle.ft_server.proofs.tx_texts.say_arity.Goals as goal

pub returns-in_err-write_all-clause-cut : goal.returns-in_err-write_all-clause-cut
returns-in_err-write_all-clause-cut g c =
    whatever c.from_residual.result (left_cut _ _ _ _ _ _ _ (left_all _ _) (arity_pieces c.args.name.now) c.in_err-write_all.ensures.front)

pub returns-in_err-write_lowered-clause-cut : goal.returns-in_err-write_lowered-clause-cut
returns-in_err-write_lowered-clause-cut g c =
    whatever c.from_residual-in_err-write_lowered.result
    (left_cut _ _ _ _ _ _ _ (left_more _ _ _ _ _ _ _ (left_all _ _) (arity_pieces c.args.name.now) c.in_ok-write_all.ensures.bytes) refl c.in_err-write_lowered.ensures.cut)

pub returns-clause-sent : goal.returns-clause-sent
returns-clause-sent g c =
    let later = left_more _ _ _ _ _ _ _ (left_more _ _ _ _ _ _ _ (left_all (g.L.Link.written c.args.link.now) _) (arity_pieces c.args.name.now) c.in_ok-write_all.ensures.bytes) refl
    c.in_ok-write_lowered.ensures.sent in
    on_ok_weaker c.write_all-2.result (λ sent. left_none _ _ _ _ (left_more _ _ _ _ _ _ _ later (sym (append-nil arity_back)) sent) refl) c.write_all-2.ensures.bytes

pub returns-clause-cut : goal.returns-clause-cut
returns-clause-cut g c =
    let later = left_more _ _ _ _ _ _ _ (left_more _ _ _ _ _ _ _ (left_all (g.L.Link.written c.args.link.now) _) (arity_pieces c.args.name.now) c.in_ok-write_all.ensures.bytes) refl
    c.in_ok-write_lowered.ensures.sent in
    on_err_weaker c.write_all-2.result (λ cut. left_cut _ _ _ _ _ _ _ later (sym (append-nil arity_back)) cut) c.write_all-2.ensures.front
