-- Where the runs of workers begin and end.
use Rattle.std.proofs.Common.{ℕ, ◌+◌, ◌-◌, ◌*◌, ◌≤◌, ◌≡◌, arith}
use Rattle.std.proofs.lemmas.Grind.{div_ceil_times}
use Rattle.std.proofs.Math.Nat.{mul_comm}
use Rattle.std.specs.Int.{div_ceil}
use Rattle.san_share.specs.Shares.{first_of}

-- a worker's runs end where the next one's begin, and the last one's where all do
pub first_next : (each runs w : ℕ) → (first_of each runs w + (first_of each runs (w + 1) - first_of each runs w) ≡ first_of each runs (w + 1)) × (first_of each runs (w + 1) ≤ runs)
first_next each runs w =
    let e : (w + 1) * each ≡ w * each + each = grind arith in
    (omega (arith, e), omega arith)

-- so many workers have all of them
pub all_runs : (runs workers : ℕ) → 1 ≤ workers → first_of (div_ceil runs workers) runs workers ≡ runs
all_runs runs workers some =
    let most = (div_ceil_times runs workers (omega (arith, some))).0 in
    let turned : workers * div_ceil runs workers ≡ div_ceil runs workers * workers = mul_comm workers (div_ceil runs workers) in
    omega (arith, most, turned)
