use Rattle.san_leaf.proofs.FitLemmas as fit
use Rattle.san_leaf.proofs.laws.first_states_fit.Goals as goal

pub returns : goal.returns
returns c = fit.opened_fits
