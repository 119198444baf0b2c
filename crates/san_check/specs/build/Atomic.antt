-- The atomics of a syntax, in the order of declaration.
use Rattle.std.specs.Prelude.{ℕ, List, [], ◌∷◌, ◌++◌, map}
use Rattle.san_text.specs.declared.syntax.PlaceDecl.{PlaceDecl}
use Rattle.san_text.specs.declared.syntax.ActDecl.{ActDecl}
use Rattle.san_text.specs.declared.syntax.ModelDecl.{ModelDecl}
use Rattle.san_text.specs.declared.syntax.ModelDecl.TheVariants as model
use Rattle.san_text.specs.declared.syntax.RewardDecl.{RewardDecl}
use Rattle.san_text.specs.declared.syntax.Syntax.{Syntax}
use Rattle.san_net.specs.Instants.{Named, instants_of}
use Rattle.san_net.specs.declared.atomic.Atomic.{Atomic}
use Rattle.san_check.specs.build.Cells.{CellTable, all_cells, all_values}
use Rattle.san_check.specs.walk.Atomic.{all_acts}
use Rattle.san_check.specs.build.Activity.{act_of}
use Rattle.san_check.specs.build.Term.{all_rates, all_impulses}

abbrev pub acts_of : CellTable → List ActDecl → List Named
acts_of cells acts = map (act_of cells) acts

-- an atomic over these cells, with its terms of the rewards
abbrev pub atomic_over : CellTable → List ℕ → List PlaceDecl → List ActDecl → List RewardDecl → Atomic
atomic_over cells name places acts rewards = record {
  name = name;
  initial = all_values places;
  acts = acts_of cells acts;
  instants = instants_of (acts_of cells acts);
  rates = all_rates cells name 0 rewards;
  impulses = all_impulses cells (all_acts [] acts) name 0 rewards;
}

abbrev pub atomic_of : List ℕ → List PlaceDecl → List ActDecl → List RewardDecl → Atomic
atomic_of name places = atomic_over (all_cells [] 0 places) name places

-- the atomic of a model, if it is one
unfoldable pub atomic_in : List RewardDecl → ModelDecl → List Atomic
atomic_in rewards (model.Atomic name places acts) = atomic_of name places acts rewards ∷ []
atomic_in rewards (model.Join name children shares) = []
atomic_in rewards (model.Rep name of times shares) = []

abbrev pub atomics_from : List RewardDecl → List ModelDecl → List Atomic
atomics_from rewards [] = []
atomics_from rewards (m ∷ ms) = atomic_in rewards m ++ atomics_from rewards ms

unfoldable pub atomics_of : Syntax → List Atomic
atomics_of s = atomics_from s.rewards s.models
