-- The network of what a model is composed of: its leaves in tree order over the places that their cells are. A composition may be of a model that
-- passes no check; the network of a model is that of what it is composed of.
use Rattle.std.specs.Prelude.{ℕ, ◌+◌, nat_lt, if◌then◌else◌, List, [], ◌∷◌, length, map, slice_index_or}
use Rattle.std.specs.List.{sum_by}
use Rattle.san_check.specs.declared.model.Model.{Model}
use Rattle.san_flat.specs.Homes.{Cells, CellHome, homes_in, rows_of, same}
use Rattle.san_flat.specs.Paths.{path_text}
use Rattle.san_net.specs.Network.{Network}
use Rattle.san_net.specs.Numbering.{all_of, firsts, number, ordered, repeated}
use Rattle.san_net.specs.declared.atomic.Atomic.{Atomic}
use Rattle.san_net.specs.declared.part.Part.{Part}
use Rattle.san_net.specs.declared.part.Reward.{Reward}
use Rattle.san_net.specs.declared.part.Slot.{Slot}
use Rattle.san_net.specs.declared.part.Slot.TheVariants.{Private, Shared}
use Rattle.san_tree.specs.Instances.{instances}
use Rattle.san_tree.specs.declared.instance.Instance.{Instance}
use Rattle.san_tree.specs.declared.node.Node.{Node}

-- the system's name, the atomics, the nodes of the tree and its root, the rewards, for each atomic the place and the element of each cell
pub record Composition : Type 0 where
  pub system : List ℕ
  pub atomics : List Atomic
  pub nodes : List Node
  pub root : ℕ
  pub rewards : List Reward
  pub cells : Cells

-- what a model is composed of
abbrev pub composition_in : Model → Composition
composition_in m = record { system = m.system; atomics = m.atomics; nodes = m.tree.nodes; root = m.tree.root; rewards = m.rewards; cells = m.cells }

-- an atomic without cells and activities stands for one that isn't there
abbrev pub no_atomic : Atomic
no_atomic = record { name = []; initial = []; acts = []; instants = []; rates = []; impulses = [] }

abbrev pub atomic_at : List Atomic → ℕ → Atomic
atomic_at atomics a = slice_index_or atomics a no_atomic

-- the leaves in tree order
abbrev pub leaves_in : Composition → List Instance
leaves_in c = instances c.nodes c.root

-- the homes of all cells of some leaves, in order
abbrev pub homes_among : Composition → List Instance → List CellHome
homes_among c leaves = all_of (rows_of c.nodes c.root c.cells leaves)

abbrev pub all_homes : Composition → List CellHome
all_homes c = homes_among c (leaves_in c)

-- the initial values of all cells of some leaves, in order
abbrev pub values_in : List Atomic → Instance → List ℕ
values_in atomics leaf = (atomic_at atomics leaf.atomic).initial

abbrev pub values_among : Composition → List Instance → List ℕ
values_among c leaves = all_of (map (values_in c.atomics) leaves)

abbrev pub all_values : Composition → List ℕ
all_values c = values_among c (leaves_in c)

-- the initial value at a home: that of the first cell there
abbrev pub value_at : List CellHome → List ℕ → CellHome → ℕ
value_at [] values home = 0
value_at (h ∷ homes) [] home = 0
value_at (h ∷ homes) (value ∷ values) home = if same home h then value else value_at homes values home

-- a place is shared where its number is below that of the shared ones
abbrev pub slot_at : ℕ → ℕ → Slot
slot_at shared place = if nat_lt place shared then Shared (record { 0 = place }) else Private (record { 0 = place })

-- the homes that are of two or more cells come first, each group by first appearance
abbrev pub slot_of : List CellHome → CellHome → Slot
slot_of homes home = slot_at (length (repeated same homes)) (number same homes home)

-- a leaf as part, with its number and that of its first activity
abbrev pub part_in : Composition → ℕ → ℕ → Instance → Part
part_in c leaf first i = record {
  leaf = record { 0 = leaf };
  first = record { 0 = first };
  atomic = atomic_at c.atomics i.atomic;
  slots = map (slot_of (all_homes c)) (homes_in c.nodes c.root c.cells i);
}

-- the leaves as parts, numbered from `leaf`, their activities from `first`
abbrev pub parts_in : Composition → ℕ → ℕ → List Instance → List Part
parts_in c leaf first [] = []
parts_in c leaf first (i ∷ is) = part_in c leaf first i ∷ parts_in c (leaf + 1) (first + length (atomic_at c.atomics i.atomic).acts) is

abbrev pub paths_in : Composition → List (List ℕ)
paths_in c = map (λ i. path_text c.system c.nodes c.root i.path) (leaves_in c)

-- the network of a composition
unfoldable pub network_in : Composition → Network
network_in c = record {
  parts = parts_in c 0 0 (leaves_in c);
  paths = paths_in c;
  initial = map (value_at (all_homes c) (all_values c)) (ordered same (all_homes c));
  shared = length (repeated same (all_homes c));
  rewards = c.rewards;
}

-- the numbers that are limited: of leaves, of places, of activities
abbrev pub count_of_leaves : Composition → ℕ
count_of_leaves c = length (leaves_in c)

abbrev pub count_of_places : Composition → ℕ
count_of_places c = length (firsts same (all_homes c))

abbrev pub acts_among : Composition → List Instance → ℕ
acts_among c leaves = sum_by (λ i. length (atomic_at c.atomics i.atomic).acts) leaves

abbrev pub count_of_acts : Composition → ℕ
count_of_acts c = acts_among c (leaves_in c)

-- ---- the same of a model

abbrev pub network_of_model : Model → Network
network_of_model m = network_in (composition_in m)

abbrev pub leaf_count : Model → ℕ
leaf_count m = count_of_leaves (composition_in m)
