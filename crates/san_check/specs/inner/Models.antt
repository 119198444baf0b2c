-- What the type of a model keeps.
use Rattle.std.specs.Prelude.{ℕ, ◌≡◌, ◌≤◌, List, length, None}
use Rattle.san_text.specs.declared.syntax.ModelDecl.{ModelDecl}
use Rattle.san_text.specs.declared.syntax.ModelDecl.TheVariants as model
use Rattle.san_text.specs.declared.syntax.Syntax.{Syntax}
use Rattle.san_tree.specs.declared.node.Node.{Node}
use Rattle.san_net.specs.declared.atomic.Atomic.{Atomic}
use Rattle.san_net.specs.declared.part.Reward.{Reward}
use Rattle.san_net.specs.declared.atomic.TheConstants.{MAX_ATOMIC_ACTS}
use Rattle.san_check.specs.Checked.{IsOfText}
use Rattle.san_check.specs.walk.Model.{syntax_fault}
use Rattle.san_check.specs.build.Composition.{nodes_of, root_of}
use Rattle.san_check.specs.build.Atomic.{atomics_of}
use Rattle.san_check.specs.build.Reward.{rewards_of}
use Rattle.san_check.specs.build.Cells.{elements_of}

-- a syntax that a text parses to, that passes every check, and whose parts these are
pub record IsModel (system : List ℕ) (atomics : List Atomic) (nodes : List Node) (root : ℕ) (rewards : List Reward) (cells : List (List (ℕ × ℕ))) : Type 0 where
  pub syntax : Syntax
  pub read : IsOfText syntax
  pub passes : syntax_fault syntax ≡ None
  pub of_system : system ≡ syntax.system
  pub of_atomics : atomics ≡ atomics_of syntax
  pub of_nodes : nodes ≡ nodes_of syntax
  pub of_root : root ≡ root_of syntax
  pub of_rewards : rewards ≡ rewards_of syntax
  pub of_cells : cells ≡ elements_of syntax

-- an atomic has few activities
abbrev pub HasFewActs : ModelDecl → Type 0
HasFewActs (model.Atomic name places acts) = length acts ≤ MAX_ATOMIC_ACTS
HasFewActs (model.Join name children shares) = Unit {0}
HasFewActs (model.Rep name of times shares) = Unit {0}
