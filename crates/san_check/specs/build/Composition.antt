-- The composition tree of a syntax: a node for each model, in the order of declaration.
use Rattle.std.specs.Prelude.{ℕ, suc, List, [], ◌∷◌, map, min, Option, Some, None, position, unwrap_or, slice_get}
use Rattle.std.specs.Option.{option_map}
use Rattle.san_check.specs.declared.limits.TheConstants.{MAX_COUNT}
use Rattle.san_check.specs.declared.place.Place.{Place}
use Rattle.san_check.specs.declared.known.Known.{Known}
use Rattle.std.specs.Str.{bytes_eq}
use Rattle.std.specs.Map.{keys_of}
use Rattle.san_text.specs.declared.syntax.ModelDecl.{ModelDecl}
use Rattle.san_text.specs.declared.syntax.ModelDecl.TheVariants as model
use Rattle.san_text.specs.declared.syntax.ChildDecl.{ChildDecl}
use Rattle.san_text.specs.declared.syntax.ShareDecl.{ShareDecl}
use Rattle.san_text.specs.declared.syntax.Syntax.{Syntax}
use Rattle.san_tree.specs.declared.share.Share.{Share}
use Rattle.san_tree.specs.declared.node.Node.{Node}
use Rattle.san_tree.specs.declared.node.Node.TheVariants as node
use Rattle.san_check.specs.Tables.{Table, found}
use Rattle.san_check.specs.walk.Expression.{Places}
use Rattle.san_check.specs.walk.Composition.{Models, Children, all_children, shown_by, all_models}

-- numbers count up to the greatest one, which none of a syntax without a fault comes near
abbrev pub capped : ℕ → ℕ
capped n = min n MAX_COUNT

-- the number of a name in its table, or 0
abbrev pub number : {V : Type 0} → Table V → List ℕ → ℕ
number table name = capped (unwrap_or (position (bytes_eq name) (keys_of table)) 0)

-- the places that a child shows
abbrev pub child_places : Children → List ℕ → Places
child_places children name = unwrap_or (found children name) []

-- the child and the place of a part
abbrev pub part_numbers : Children → List ℕ × List ℕ → ℕ × ℕ
part_numbers children part = (number children part.0, number (child_places children part.0) part.1)

abbrev pub share_of : Children → ShareDecl → Share
share_of children s = record { name = s.name; parts = map (part_numbers children) s.parts }

-- a child, with the node of its model
abbrev pub child_of : Models → ChildDecl → List ℕ × ℕ
child_of models c = (c.name, number models c.of)

-- the node of a model, before which so many atomics stand
unfoldable pub node_of : Models → ℕ → ModelDecl → Node
node_of models atomics (model.Atomic name places acts) = node.Leaf atomics
node_of models atomics (model.Join name children shares) = node.Join (map (child_of models) children) (map (share_of (all_children models [] children)) shares)
node_of models atomics (model.Rep name of times shares) = node.Rep (number models of) (capped times) (map (number (shown_by models of)) shares)

abbrev pub atomics_after : ℕ → ModelDecl → ℕ
atomics_after atomics (model.Atomic name places acts) = capped (suc atomics)
atomics_after atomics (model.Join name children shares) = atomics
atomics_after atomics (model.Rep name of times shares) = atomics

abbrev pub nodes_from : Models → ℕ → List ModelDecl → List Node
nodes_from models atomics [] = []
nodes_from models atomics (m ∷ ms) = node_of models atomics m ∷ nodes_from models (atomics_after atomics m) ms

unfoldable pub nodes_of : Syntax → List Node
nodes_of s = nodes_from (all_models [] s.models) 0 s.models

-- the node of the system
unfoldable pub root_of : Syntax → ℕ
root_of s = number (all_models [] s.models) s.system

-- the place of this number among those that a model shows
abbrev pub place_at : Places → ℕ → Option Place
place_at places p = option_map (λ e. e.1) (slice_get places p)

abbrev pub places_at : Option (List ℕ × Known) → Places
places_at None = []
places_at (Some e) = e.1.places

-- what the model of a node shows at a place
abbrev pub shown_at : Models → ℕ → ℕ → Option Place
shown_at models n p = place_at (places_at (slice_get models n)) p

unfoldable pub shown_of : Syntax → ℕ → ℕ → Option Place
shown_of s = shown_at (all_models [] s.models)
