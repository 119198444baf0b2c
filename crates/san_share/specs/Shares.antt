-- How runs are shared out among workers.
use Rattle.std.specs.Prelude.{ℕ, ◌*◌, min}

-- the first run of a worker, where each has so many
abbrev pub first_of : ℕ → ℕ → ℕ → ℕ
first_of each runs worker = min (worker * each) runs
