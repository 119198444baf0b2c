-- The homes of cells. Two cells of leaves are one exactly where their homes are equal.
use Rattle.std.specs.Prelude.{ℕ, Bool, ◌&&◌, nat_eq, List, [], map, take, slice_index_or}
use Rattle.std.specs.Cmp.Lexicographic.{pointwise}
use Rattle.san_flat.specs.declared.home.HomeKey.{HomeKey}
use Rattle.san_tree.specs.Places.{home}
use Rattle.san_tree.specs.declared.home.Home.{Home}
use Rattle.san_tree.specs.declared.instance.Instance.{Instance}
use Rattle.san_tree.specs.declared.node.Node.{Node}

-- the path to the node below which a cell's place stays, the place that it has become there, the cell's element
pub record CellHome : Type 0 where
  pub path : List ℕ
  pub place : ℕ
  pub element : ℕ

abbrev pub home_of_key : HomeKey → CellHome
home_of_key h = record { path = h.path.items; place = h.place; element = h.element }

-- whether two homes are one
abbrev pub same : CellHome → CellHome → Bool
same a b = pointwise nat_eq a.path b.path && (nat_eq a.place b.place && nat_eq a.element b.element)

-- the home of an element, where the climb from the end of the path ends so
abbrev pub home_at : List ℕ → Home → ℕ → CellHome
home_at path end element = record { path = take end.depth path; place = end.place; element = element }

-- the home of a cell, which is a place and its element, of the leaf at the end of a path
abbrev pub home_of : List Node → ℕ → List ℕ → ℕ × ℕ → CellHome
home_of nodes root path cell = home_at path (home nodes root path cell.0) cell.1

-- for each atomic the place and the element of each cell
abbrev pub Cells : Type 0
Cells = List (List (ℕ × ℕ))

abbrev pub cells_at : Cells → ℕ → List (ℕ × ℕ)
cells_at cells atomic = slice_index_or cells atomic []

-- the homes of a leaf's cells
abbrev pub homes_in : List Node → ℕ → Cells → Instance → List CellHome
homes_in nodes root cells leaf = map (home_of nodes root leaf.path) (cells_at cells leaf.atomic)

-- leaf by leaf
abbrev pub rows_of : List Node → ℕ → Cells → List Instance → List (List CellHome)
rows_of nodes root cells leaves = map (homes_in nodes root cells) leaves
