-- Flags that go up one after another.
use Rattle.std.specs.Prelude.{List, [], ◌∷◌, Bool, true, slice_set}
use Rattle.san_base.specs.declared.numbers.LeafId.{LeafId}
use Rattle.san_base.specs.declared.numbers.PlaceId.{PlaceId}
use Rattle.san_net.specs.Tables.{importers_of}
use Rattle.san_net.specs.declared.part.Part.{Part}

-- those of these leaves
abbrev pub raised : List LeafId → List Bool → List Bool
raised [] flags = flags
raised (leaf ∷ leaves) flags = raised leaves (slice_set flags leaf.0 true)

-- those of the leaves that have one of these places
abbrev pub raised_all : List Part → List PlaceId → List Bool → List Bool
raised_all parts [] flags = flags
raised_all parts (place ∷ places) flags = raised_all parts places (raised (importers_of parts place.0) flags)
