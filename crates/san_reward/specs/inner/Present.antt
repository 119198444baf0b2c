-- The present rates of a reward: the sum of those that are numbers, and how many are faults.
use Rattle.std.specs.Prelude.{ℕ, zero, suc, ◌+◌, ◌≤◌, ℤ, pos, ◌+ℤ◌, ◌-ℤ◌, ◌*ℤ◌, unsigned_abs, nat_eq, ◌-◌, min, max, List, [], ◌∷◌, Some, None, slice_index_or, if◌then◌else◌}
use Rattle.san_law.specs.Net.{Rated, Span}
use Rattle.san_law.specs.Reward.{is_within, no_span, plus}
use Rattle.san_reward.specs.declared.present.Present.{Present}

-- no fault adds to the sum
abbrev pub amount : Rated → ℤ
amount None = pos 0
amount (Some w) = w

abbrev pub fault : Rated → ℕ
fault None = 1
fault (Some w) = 0

-- of a leaf, by its terms' rewards and its rates
abbrev pub amount_in : ℕ → List ℕ → List Rated → ℤ
amount_in r [] ws = pos 0
amount_in r (q ∷ qs) [] = pos 0
amount_in r (q ∷ qs) (w ∷ ws) = (if nat_eq q r then amount w else pos 0) +ℤ amount_in r qs ws

abbrev pub faults_in : ℕ → List ℕ → List Rated → ℕ
faults_in r [] ws = 0
faults_in r (q ∷ qs) [] = 0
faults_in r (q ∷ qs) (w ∷ ws) = (if nat_eq q r then fault w else 0) + faults_in r qs ws

-- of all leaves
abbrev pub amounts : ℕ → List (List ℕ) → List (List Rated) → ℤ
amounts r [] rates = pos 0
amounts r (qs ∷ terms) [] = pos 0
amounts r (qs ∷ terms) (ws ∷ rates) = amount_in r qs ws +ℤ amounts r terms rates

abbrev pub faults : ℕ → List (List ℕ) → List (List Rated) → ℕ
faults r [] rates = 0
faults r (qs ∷ terms) [] = 0
faults r (qs ∷ terms) (ws ∷ rates) = faults_in r qs ws + faults r terms rates

-- how many of a leaf's terms are of a reward
abbrev pub terms_in : ℕ → List ℕ → ℕ
terms_in r [] = 0
terms_in r (q ∷ qs) = (if nat_eq q r then 1 else 0) + terms_in r qs

abbrev pub terms_of : ℕ → List (List ℕ) → ℕ
terms_of r [] = 0
terms_of r (qs ∷ terms) = terms_in r qs + terms_of r terms

-- a sum with a fault in it is one
abbrev pub shown : ℤ → ℕ → Rated
shown sum zero = Some sum
shown sum (suc n) = None

-- so often the same, from none on
abbrev pub times : ℕ → Rated → Rated
times zero w = Some (pos 0)
times (suc n) None = None
times (suc n) (Some w) = Some (w *ℤ pos (suc n))

-- no rates
abbrev pub no_present : Present
no_present = record { sum = pos 0; faults = 0 }

-- a reward's present rates
abbrev pub present_of : ℕ → List (List ℕ) → List (List Rated) → Present
present_of r terms rates = record { sum = amounts r terms rates; faults = faults r terms rates }

abbrev pub present_at : List Present → ℕ → Present
present_at present r = slice_index_or present r no_present

-- how many ticks from one to before another are within an interval
abbrev pub overlap : Span → ℕ → ℕ → ℕ
overlap s from to = min to s.to - max from s.from

-- a sum, and the present rates for so many ticks
abbrev pub accrued : Rated → Present → ℕ → Rated
accrued sum p ticks = plus sum (times ticks (shown p.sum p.faults))

-- a reward's sum as its present rates go on from one time to another
abbrev pub counted_on : List Span → List Present → ℕ → ℕ → ℕ → Rated → Rated
counted_on spans present from to r sum = accrued sum (present_at present r) (overlap (slice_index_or spans r no_span) from to)

-- one rate in another's place
abbrev pub replaced : Present → Rated → Rated → Present
replaced p old new = record { sum = (p.sum -ℤ amount old) +ℤ amount new; faults = p.faults - fault old + fault new }
