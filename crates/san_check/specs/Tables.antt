-- What names stand for, in the order of their declaration.
use Rattle.std.specs.Prelude.{Bool, cond, ◌&&◌, List, [], ◌∷◌, ◌++◌, Option, is_some}
use Rattle.std.specs.List.{list_any, fold}
use Rattle.std.specs.Str.{bytes_eq}
use Rattle.std.specs.Map.{lookup}
use Rattle.std.specs.Prelude.{ℕ}

abbrev pub Table : Type 0 → Type 0
Table V = List (List ℕ × V)

-- what a name stands for
abbrev pub found : {V : Type 0} → Table V → List ℕ → Option V
found table name = lookup (bytes_eq name) table

abbrev pub is_known : {V : Type 0} → Table V → List ℕ → Bool
is_known table name = is_some (found table name)

-- the table with one more name; a name that is known stays what it was
unfoldable pub declared : {V : Type 0} → Table V → List ℕ → V → Table V
declared table name value = cond (is_known table name) table (table ++ (name, value) ∷ [])

-- a name and another, as a child and its place
abbrev pub Pairs : Type 0
Pairs = List (List ℕ × List ℕ)

abbrev pub same_pair : List ℕ × List ℕ → List ℕ × List ℕ → Bool
same_pair p q = bytes_eq p.0 q.0 && bytes_eq p.1 q.1

abbrev pub has_pair : Pairs → List ℕ × List ℕ → Bool
has_pair pairs p = list_any (same_pair p) pairs

-- the pairs with one more, each once
unfoldable pub paired : Pairs → List ℕ × List ℕ → Pairs
paired pairs p = cond (has_pair pairs p) pairs (pairs ++ p ∷ [])

abbrev pub all_paired : Pairs → Pairs → Pairs
all_paired pairs more = fold paired pairs more
