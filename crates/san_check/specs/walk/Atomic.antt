-- Atomics: their places, and then their activities.
use Rattle.std.specs.Prelude.{ℕ, ◌+◌, ◌||◌, ◌&&◌, nat_eq, nat_lt, List, [], ◌∷◌, ◌++◌, min, Option, Some, None, is_none, unwrap_or}
use Rattle.san_text.specs.declared.syntax.PlaceDecl.{PlaceDecl}
use Rattle.san_text.specs.declared.syntax.ActDecl.{ActDecl}
use Rattle.san_check.specs.declared.codes.TheConstants.{NAME_TAKEN, INITIAL_TOO_LARGE, TOO_MANY_CELLS, ARRAY_LENGTH}
use Rattle.san_base.specs.declared.limits.TheConstants.{MAX_TOKENS, MAX_CELLS}
use Rattle.san_check.specs.declared.place.Place.{Place}
use Rattle.san_check.specs.Tables.{is_known, declared}
use Rattle.san_check.specs.walk.Entries.{Entries, code, ◌else◌}
use Rattle.san_check.specs.walk.Expression.{Places}
use Rattle.san_check.specs.walk.Activity.{ActNames, act_code, act_entries}

-- how many cells a place has
abbrev pub cells_of : PlaceDecl → ℕ
cells_of place = unwrap_or place.length 1

-- more cells than an atomic may have are all counted as one more
abbrev pub counted : ℕ → ℕ → ℕ
counted cells more = min (cells + more) (MAX_CELLS + 1)

-- the name of a place behind so many cells
unfoldable pub place_code : Places → ℕ → PlaceDecl → Option ℕ
place_code places cells place = code NAME_TAKEN (is_known places place.name) else code TOO_MANY_CELLS (is_none place.length && nat_lt MAX_CELLS (counted cells 1))

unfoldable pub length_entries : ℕ → Option ℕ → Entries
length_entries cells None = []
length_entries cells (Some length) = code ARRAY_LENGTH (nat_eq length 0 || nat_lt MAX_CELLS (counted cells length)) ∷ []

unfoldable pub initial_entries : Option ℕ → Entries
initial_entries None = []
initial_entries (Some initial) = code INITIAL_TOO_LARGE (nat_lt MAX_TOKENS initial) ∷ []

-- an initial value that isn't written is 0
abbrev pub place_of : PlaceDecl → Place
place_of place = record { initial = unwrap_or place.initial 0; length = place.length }

abbrev pub with_place : Places → PlaceDecl → Places
with_place places place = declared places place.name (place_of place)

-- places behind these, which have so many cells
abbrev pub places_entries : Places → ℕ → List PlaceDecl → Entries
places_entries places cells [] = []
places_entries places cells (p ∷ ps) = place_code places cells p ∷ (length_entries cells p.length ++ (initial_entries p.initial ++ places_entries (with_place places p) (counted cells (cells_of p)) ps))

abbrev pub all_places : Places → List PlaceDecl → Places
all_places places [] = places
all_places places (p ∷ ps) = all_places (with_place places p) ps

-- activities behind n others
abbrev pub acts_entries : Places → ActNames → ℕ → List ActDecl → Entries
acts_entries places acts n [] = []
acts_entries places acts n (a ∷ more) = act_code places acts n a.name ∷ (act_entries places a ++ acts_entries places (declared acts a.name tt) (n + 1) more)

abbrev pub all_acts : ActNames → List ActDecl → ActNames
all_acts acts [] = acts
all_acts acts (a ∷ more) = all_acts (declared acts a.name tt) more
