-- The cells of an atomic, numbered by declaration and element.
use Rattle.std.specs.Prelude.{ℕ, zero, suc, ◌+◌, List, [], ◌∷◌, ◌++◌, replicate, unwrap_or}
use Rattle.san_text.specs.declared.syntax.PlaceDecl.{PlaceDecl}
use Rattle.san_text.specs.declared.syntax.ModelDecl.{ModelDecl}
use Rattle.san_text.specs.declared.syntax.ModelDecl.TheVariants as model
use Rattle.san_text.specs.declared.syntax.Syntax.{Syntax}
use Rattle.san_check.specs.declared.build.cells.Cells.{Cells}
use Rattle.san_check.specs.Tables.{Table, found, declared}
use Rattle.san_check.specs.walk.Atomic.{cells_of}
use Rattle.san_check.specs.build.Composition.{capped}

-- the cells of the places of an atomic
abbrev pub CellTable : Type 0
CellTable = Table Cells

-- a place behind so many cells
abbrev pub cells_behind : ℕ → PlaceDecl → Cells
cells_behind first place = record { first = first; length = capped (cells_of place) }

-- places behind so many cells
abbrev pub all_cells : CellTable → ℕ → List PlaceDecl → CellTable
all_cells cells first [] = cells
all_cells cells first (p ∷ ps) = all_cells (declared cells p.name (cells_behind first p)) (capped (first + capped (cells_of p))) ps

-- a name that no place has stands for no cells
abbrev pub no_cells : Cells
no_cells = record { first = 0; length = 0 }

unfoldable pub cells_at : CellTable → List ℕ → Cells
cells_at cells name = unwrap_or (found cells name) no_cells

-- an initial value that isn't written is 0; each element of an array has it
abbrev pub values_of : PlaceDecl → List ℕ
values_of place = replicate (capped (cells_of place)) (capped (unwrap_or place.initial 0))

abbrev pub all_values : List PlaceDecl → List ℕ
all_values [] = []
all_values (p ∷ ps) = values_of p ++ all_values ps

-- the cells of a place from this element on: the place's number and the element's
abbrev pub elements : ℕ → ℕ → ℕ → List (ℕ × ℕ)
elements place element zero = []
elements place element (suc left) = (place, element) ∷ elements place (capped (element + 1)) left

-- the cells of places behind so many, in their order
abbrev pub all_elements : ℕ → List PlaceDecl → List (ℕ × ℕ)
all_elements place [] = []
all_elements place (p ∷ ps) = elements place 0 (capped (cells_of p)) ++ all_elements (capped (place + 1)) ps

-- the cells of a model, if it is an atomic
unfoldable pub elements_in : ModelDecl → List (List (ℕ × ℕ))
elements_in (model.Atomic name places acts) = all_elements 0 places ∷ []
elements_in (model.Join name children shares) = []
elements_in (model.Rep name of times shares) = []

-- the cells of all atomics, in the order of declaration
abbrev pub elements_from : List ModelDecl → List (List (ℕ × ℕ))
elements_from [] = []
elements_from (m ∷ ms) = elements_in m ++ elements_from ms

unfoldable pub elements_of : Syntax → List (List (ℕ × ℕ))
elements_of s = elements_from s.models
