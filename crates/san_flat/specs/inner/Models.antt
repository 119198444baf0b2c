-- The leaves, homes, values and parts of a model.
use Rattle.std.specs.Prelude.{ℕ, List}
use Rattle.san_check.specs.declared.model.Model.{Model}
use Rattle.san_flat.specs.Homes.{CellHome}
use Rattle.san_flat.specs.Networks.{acts_among, all_homes, all_values, composition_in, count_of_acts, count_of_places, homes_among, leaves_in, part_in, parts_in, values_among}
use Rattle.san_net.specs.declared.part.Part.{Part}
use Rattle.san_tree.specs.declared.instance.Instance.{Instance}

abbrev pub leaves_of : Model → List Instance
leaves_of m = leaves_in (composition_in m)

abbrev pub homes_from : Model → List Instance → List CellHome
homes_from m leaves = homes_among (composition_in m) leaves

abbrev pub homes_of : Model → List CellHome
homes_of m = all_homes (composition_in m)

abbrev pub values_from : Model → List Instance → List ℕ
values_from m leaves = values_among (composition_in m) leaves

abbrev pub values_of : Model → List ℕ
values_of m = all_values (composition_in m)

abbrev pub part_of : Model → ℕ → ℕ → Instance → Part
part_of m leaf first i = part_in (composition_in m) leaf first i

abbrev pub parts_from : Model → ℕ → ℕ → List Instance → List Part
parts_from m leaf first is = parts_in (composition_in m) leaf first is

abbrev pub acts_in : Model → List Instance → ℕ
acts_in m leaves = acts_among (composition_in m) leaves

abbrev pub place_count : Model → ℕ
place_count m = count_of_places (composition_in m)

abbrev pub act_count : Model → ℕ
act_count m = count_of_acts (composition_in m)
