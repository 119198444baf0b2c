-- Keys that the leaves' next pieces don't come before.
use Rattle.std.specs.Prelude.{ℕ, suc, ◌≤◌, nat_eq, List, [], ◌∷◌, Option, Some, None, Bool, true, false, slice_index_or}

-- a time is no later than another, where none is later than all
abbrev pub NoLater : Option ℕ → Option ℕ → Type 0
NoLater x None = Unit {0}
NoLater None (Some t) = ⊥
NoLater (Some s) (Some t) = s ≤ t

-- a leaf's key
abbrev pub key_of : List (Option ℕ) → ℕ → Option ℕ
key_of keys i = slice_index_or keys i None

-- two keys are equal
abbrev pub is_key : Option ℕ → Option ℕ → Bool
is_key None None = true
is_key None (Some t) = false
is_key (Some s) None = false
is_key (Some s) (Some t) = nat_eq s t

abbrev pub wrong_by : Bool → ℕ → ℕ
wrong_by true rest = rest
wrong_by false rest = suc rest

-- how many keys, from a number on, aren't those that they should be
abbrev pub wrong : (ℕ → Option ℕ) → ℕ → List (Option ℕ) → ℕ
wrong f i [] = 0
wrong f i (k ∷ ks) = wrong_by (is_key k (f i)) (wrong f (suc i) ks)
