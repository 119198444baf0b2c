-- When a piece goes on from what is made ahead of a machine, and the steps of its publication.
use Rattle.std.specs.Prelude.{ℕ, ◌≡◌, List, [], ◌∷◌, ◌++◌, map}
use Rattle.san_log.specs.Logs.{Entry}
use Rattle.san_speculation.specs.declared.step.Step.{Step}
use Rattle.san_speculation.specs.declared.step.Step.TheVariants as step
use Rattle.san_book.specs.Chains.{chain_of}
use Rattle.san_chain.specs.Chains.{end_from}
use Rattle.san_ahead.specs.Ahead.{AheadValue}
use Rattle.san_decide.specs.Booked.{entry_of, of_piece, part_at}
use Rattle.san_law.specs.Core.{leaf_of}
use Rattle.san_leaf.specs.Pieces.{PieceValue}
use Rattle.san_core.specs.Machines.{MachineValue, core_in}

pub record IsFrom (m : MachineValue) (a : AheadValue) (j : ℕ) (p : PieceValue) : Type 0 where
  pub seed : p.seed ≡ m.seed
  pub part : p.part ≡ part_at m.network j
  pub base : p.base ≡ end_from of_piece.end (leaf_of (core_in m) j) (chain_of a.chains j)

-- the steps of a piece's reads and of its publication, as the code books them
abbrev pub read_step : ℕ → Entry → Step
read_step w e = step.Read w e.0 e.1

abbrev pub steps_of : ℕ → PieceValue → List Step
steps_of w p = map (read_step w) (map entry_of p.log) ++ step.Publish w p.kind (record { 0 = p.time }) ∷ []
