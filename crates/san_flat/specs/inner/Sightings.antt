-- What is known of the homes of cells that were seen one by one.
use Rattle.std.specs.Prelude.{ℕ, ◌≡◌, ◌≤◌, ◌<◌, Bool, true, false, nat_eq, if◌then◌else◌, List, [], ◌∷◌, slice_get, length, map, Option, None, Some}
use Rattle.san_base.specs.declared.limits.TheConstants.{MAX_PLACES}
use Rattle.san_check.specs.declared.model.Model.{Model}
use Rattle.san_flat.specs.Homes.{CellHome, cells_at, same, home_of_key}
use Rattle.san_flat.specs.Networks.{value_at, values_in}
use Rattle.san_flat.specs.declared.numbers.Numbers.{Numbers}
use Rattle.san_flat.specs.declared.seen.Seen.{Seen}
use Rattle.std.specs.List.{list_any}
use Rattle.san_net.specs.Numbering.{AreRecorded, firsts, number, repeated}
use Rattle.san_tree.specs.declared.instance.Instance.{Instance}

-- the different homes in order, how often each was seen, and the initial value of the first cell there
pub record HasSeen (homes : List CellHome) (initial : List ℕ) (s : Seen) : Type 0 where
  pub recorded : AreRecorded same homes (map home_of_key s.homes.keys) s.counts.items
  pub values : s.values.items ≡ map (value_at homes initial) (map home_of_key s.homes.keys)
  pub even : length homes ≡ length initial

-- either all fit, and were seen, or there are more different homes than a network has places
abbrev pub Sees : Bool → List CellHome → List ℕ → Seen → Type 0
Sees true homes initial s = HasSeen homes initial s × (length s.homes.keys ≤ MAX_PLACES)
Sees false homes initial s = MAX_PLACES < length (firsts same homes)

-- all were seen, or there are too many
abbrev pub SeesAll : Option Seen → List CellHome → List ℕ → Type 0
SeesAll (Some s) homes initial = Sees true homes initial s
SeesAll None homes initial = MAX_PLACES < length (firsts same homes)

-- a leaf has as many cells as initial values
abbrev pub IsEven : Model → Instance → Type 0
IsEven m leaf = length (cells_at m.cells leaf.atomic) ≡ length (values_in m.atomics leaf)

-- the values of those that were seen twice or more, or of the others
abbrev pub picked : Bool → List ℕ → List ℕ → List ℕ
picked twice [] values = []
picked twice (n ∷ counts) [] = []
picked true (n ∷ counts) (v ∷ values) = if nat_eq n 2 then v ∷ picked true counts values else picked true counts values
picked false (n ∷ counts) (v ∷ values) = if nat_eq n 2 then picked false counts values else v ∷ picked false counts values

-- each home has its number
pub record AreNumbers (homes : List CellHome) (n : Numbers) : Type 0 where
  pub all : (k : CellHome) → list_any (same k) (map home_of_key n.homes.keys) ≡ list_any (same k) homes
  pub places : n.places.items ≡ map (number same homes) (map home_of_key n.homes.keys)
  pub shared : n.shared ≡ length (repeated same homes)

-- all homes of a row are among these
abbrev pub AreAmong : List CellHome → List CellHome → Type 0
AreAmong homes row = (i : ℕ) (h : CellHome) → slice_get row i ≡ Some h → list_any (same h) homes ≡ true
