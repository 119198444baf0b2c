use Rattle.std.proofs.Common.{◌∙◌, ap}
use Rattle.std.proofs.lemmas.Result.{IfOk-weaker}
use Rattle.san_law.specs.Piece as law
use Rattle.san_speculation.proofs.Claimings.{end_by_last, end_by_none, fits_by_last, fits_by_none}
use Rattle.san_speculation.proofs.claiming.share_end.Goals as goal

pub returns-in-Some-clause-state : goal.returns-in-Some-clause-state
returns-in-Some-clause-state c =
    IfOk-weaker c.share.result _ _ (λ s e. e ∙ (ap (λ (o : law.Outcome). o.state) c.outcome.ensures.same ∙ end_by_last c.args.machine.now c.args.ahead.now c.args.leaf.0 c.in-Some.piece.now c.in-Some.ensures)) c.share.ensures

pub returns-in-Some-clause-fits : goal.returns-in-Some-clause-fits
returns-in-Some-clause-fits c = fits_by_last c.args.ahead.now c.args.leaf.0 c.in-Some.piece.now c.in-Some.ensures c.fits.ensures c.is_noted.ensures

pub returns-in-None-clause-state : goal.returns-in-None-clause-state
returns-in-None-clause-state c =
    IfOk-weaker c.share-in-None.result _ _ (λ s e. end_by_none c.args.machine.now c.args.ahead.now c.args.leaf.0 s c.follows.ensures (e ∙ c.state.ensures) c.in-None.ensures) c.share-in-None.ensures

pub returns-in-None-clause-fits : goal.returns-in-None-clause-fits
returns-in-None-clause-fits c = fits_by_none c.args.ahead.now c.args.leaf.0 c.in-None.ensures
