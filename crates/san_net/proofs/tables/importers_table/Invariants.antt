use Rattle.std.proofs.Common.{◌≡◌, ℕ, [], map, take, length}
use Rattle.std.specs.Prelude.{slice_index_or}
use Rattle.san_net.specs.Tables.{importers_of}
use Rattle.san_net.proofs.tables.importers_table.Given as goal

abbrev pub invariant-parts : goal.invariant-parts
invariant-parts l =
    record {
      sized : length l.table.items ≡ l.places;
      by_place : (q : ℕ) → slice_index_or (map (λ x. x.items) l.table.items) q [] ≡ importers_of (take l.part-index l.parts) q;
    }
