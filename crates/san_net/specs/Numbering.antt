-- Numbers for items by first appearance, those that appear often before the others. Items are compared by a test.
use Rattle.std.specs.Prelude.{ℕ, zero, suc, ◌+◌, ◌≡◌, Bool, false, not, min, nat_eq, List, [], ◌∷◌, ◌++◌, map, fold, filter, if◌then◌else◌}
use Rattle.std.specs.List.{list_any, count_by, position_or_len}

module _ {K : Type 0} (E : K → K → Bool) where
  -- an item goes last where it isn't there yet
  abbrev pub added : List K → K → List K
  added ks k = if list_any (E k) ks then ks else ks ++ k ∷ []

  -- the different items, by first appearance
  abbrev pub firsts : List K → List K
  firsts xs = fold added [] xs

  -- how often an item appears, up to twice
  abbrev pub often : List K → K → ℕ
  often xs k = min (count_by (E k) xs) 2

  abbrev pub is_often : List K → K → Bool
  is_often xs k = nat_eq (often xs k) 2

  -- the items that appear twice or more, by first appearance
  abbrev pub repeated : List K → List K
  repeated xs = filter (is_often xs) (firsts xs)

  -- the different items: those that appear twice or more first, each group by first appearance
  abbrev pub ordered : List K → List K
  ordered xs = repeated xs ++ filter (λ k. not (is_often xs k)) (firsts xs)

  -- the number of an item: its position in the order
  abbrev pub number : List K → K → ℕ
  number xs k = position_or_len (E k) (ordered xs)

  -- no item is equal to one after it
  abbrev pub Differ : List K → Type 0
  Differ [] = Unit {0}
  Differ (k ∷ ks) = (list_any (E k) ks ≡ false) × Differ ks

  -- what is known after items were seen one by one: the different ones and how often each appeared
  pub record AreRecorded (xs ks : List K) (amounts : List ℕ) : Type 0 where
    pub keys : ks ≡ firsts xs
    pub counts : amounts ≡ map (often xs) ks
    pub differ : Differ ks
    pub all : (k : K) → list_any (E k) ks ≡ list_any (E k) xs

-- numbers for items that appear so often: those that do twice or more count from s, the others from q
abbrev pub ranked : ℕ → ℕ → List ℕ → List ℕ
ranked s q [] = []
ranked s q (n ∷ ns) = if nat_eq n 2 then s ∷ ranked (s + 1) q ns else q ∷ ranked s (q + 1) ns

-- so many numbers from n on
abbrev pub counting : ℕ → ℕ → List ℕ
counting n zero = []
counting n (suc k) = n ∷ counting (n + 1) k

-- the items of all rows, in order
abbrev pub all_of : {K : Type 0} → List (List K) → List K
all_of [] = []
all_of (row ∷ rows) = row ++ all_of rows
