use Rattle.std.proofs.Common.{◌≡◌, drop}
use Rattle.san_net.specs.Laid.{places_of}
use Rattle.san_plain.specs.inner.Rated.{hangs_on, named_from, rate_cells}
use Rattle.san_plain.proofs.rated.hangs_on.Given as goal

abbrev pub invariant-cells : goal.invariant-cells
invariant-cells l = hangs_on l.part l.place.0 ≡ named_from (rate_cells l.part.atomic.rates) l.place.0 l.k (drop l.k (places_of l.part))
