use Rattle.san_leaf.proofs.FitLemmas as fit
use Rattle.san_leaf.proofs.laws.claims_of_a_network_fit.Goals as goal

pub returns : goal.returns
returns c = fit.claim_fits
