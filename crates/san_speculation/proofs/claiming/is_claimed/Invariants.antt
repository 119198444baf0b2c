use Rattle.std.proofs.Common.{◌≡◌, drop, map}
use Rattle.san_book.specs.Cores.{is_claimed}
use Rattle.san_speculation.specs.Speculating.{claim_in}
use Rattle.san_speculation.proofs.claiming.is_claimed.Given as goal

abbrev pub invariant-claims : goal.invariant-claims
invariant-claims l = is_claimed l.leaf.0 (map claim_in (drop l.claim-index l.claims)) ≡ is_claimed l.leaf.0 (map claim_in l.claims)
