-- Which limit of a network a composition passes.
use Rattle.std.specs.Prelude.{ℕ, ◌≡◌, nat_lt, if◌then◌else◌, Option, None, Some}
use Rattle.san_base.specs.declared.limits.TheConstants.{MAX_LEAVES, MAX_PLACES, MAX_ACTS}
use Rattle.san_check.specs.declared.model.Model.{Model}
use Rattle.san_flat.specs.Networks.{Composition, composition_in, count_of_acts, count_of_leaves, count_of_places}
use Rattle.san_flat.specs.declared.network.FlatFault.{FlatFault}
use Rattle.san_flat.specs.declared.network.FlatFault.TheVariants as fault

-- the first limit that such numbers of leaves, places and activities pass
abbrev pub first_passed : ℕ → ℕ → ℕ → Option FlatFault
first_passed leaves places acts = if nat_lt MAX_LEAVES leaves then Some fault.Leaves else if nat_lt MAX_PLACES places then Some fault.Places else if nat_lt MAX_ACTS acts then Some fault.Acts else None

abbrev pub limit_in : Composition → Option FlatFault
limit_in c = first_passed (count_of_leaves c) (count_of_places c) (count_of_acts c)

abbrev pub limit_passed : Model → Option FlatFault
limit_passed m = limit_in (composition_in m)

-- a fault other than want of memory is the first limit that is passed
abbrev pub RefusesModel : FlatFault → Model → Type 0
RefusesModel fault.Leaves m = limit_passed m ≡ Some fault.Leaves
RefusesModel fault.Places m = limit_passed m ≡ Some fault.Places
RefusesModel fault.Acts m = limit_passed m ≡ Some fault.Acts
RefusesModel fault.NoMemory m = Unit {0}
