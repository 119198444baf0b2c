-- For each place the leaves whose rates hang on it.
use Rattle.std.specs.Prelude.{ℕ, suc, ◌≡◌, ◌<◌, ◌&&◌, ◌||◌, nat_eq, Bool, false, List, [], ◌∷◌, filter, length, map, Option, Some, None, slice_get, slice_index_or}
use Rattle.san_base.specs.declared.numbers.LeafId.{LeafId}
use Rattle.san_expr.specs.Mentions.{CellSet, any_of, mentions}
use Rattle.san_net.specs.Laid.{places_of}
use Rattle.san_net.specs.Network.{Network}
use Rattle.san_net.specs.Tables.{importers_of}
use Rattle.san_net.specs.declared.atomic.RateTerm.{RateTerm}
use Rattle.san_net.specs.declared.part.Part.{Part}

-- the cells that rate terms name
abbrev pub rate_cells : List RateTerm → CellSet
rate_cells terms = any_of (map (λ t. mentions t.expr) terms)

-- whether one of some cells is at one of these places, which are those of the cells from a number on
unfoldable pub named_from : CellSet → ℕ → ℕ → List ℕ → Bool
named_from cells q k [] = false
named_from cells q k (x ∷ xs) = (nat_eq x q && cells k) || named_from cells q (suc k) xs

-- a term of a leaf names a cell at a place
abbrev pub hangs_on : Part → ℕ → Bool
hangs_on p q = named_from (rate_cells p.atomic.rates) q 0 (places_of p)

abbrev pub hangs_by : Option Part → ℕ → Bool
hangs_by None q = false
hangs_by (Some p) q = hangs_on p q

abbrev pub hangs_in : Network → ℕ → LeafId → Bool
hangs_in n q leaf = hangs_by (slice_get n.parts leaf.0) q

-- the leaves whose rates hang on a place, in order
abbrev pub rated_at : Network → ℕ → List LeafId
rated_at n q = filter (hangs_in n q) (importers_of n.parts q)

-- a table has these leaves for each place
pub record ListsRated (n : Network) (table : List (List LeafId)) : Type 0 where
  pub sized : length table ≡ length n.initial
  pub each : (q : ℕ) → q < length n.initial → slice_index_or table q [] ≡ rated_at n q
