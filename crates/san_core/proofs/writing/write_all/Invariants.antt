use Rattle.std.proofs.Common.{◌≡◌, ◌≤◌, length, map, drop}
use Rattle.std.specs.Prelude.{vec_len}
use Rattle.san_law.specs.Core.{put}
use Rattle.san_leaf.specs.States.{pair_in}
use Rattle.san_core.proofs.writing.write_all.Given as goal

abbrev pub invariant-each : goal.invariant-each
invariant-each l = record {
  within : l.at ≤ length l.writes;
  long : vec_len l.shared ≡ vec_len l.fn.shared;
  put : l.shared.items ≡ put (map pair_in (drop l.at l.writes)) l.fn.shared.items;
}

abbrev pub decreases-each : goal.decreases-each
decreases-each l = l.at
