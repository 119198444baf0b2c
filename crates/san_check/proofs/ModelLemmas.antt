-- The parts of a model are of the syntax that was checked, and fit together.
use Rattle.std.proofs.Common.{◌≡◌, ℕ, List, None, sym, subst}
use Rattle.std.proofs.Math.Logic.{∥∥₁_map}
use Rattle.san_text.specs.declared.syntax.Syntax.{Syntax}
use Rattle.san_tree.specs.declared.node.Node.{Node}
use Rattle.san_net.specs.declared.atomic.Atomic.{Atomic}
use Rattle.san_net.specs.declared.part.Reward.{Reward}
use Rattle.san_check.specs.walk.Model.{syntax_fault}
use Rattle.san_check.specs.build.Composition.{nodes_of, root_of}
use Rattle.san_check.specs.build.Atomic.{atomics_of}
use Rattle.san_check.specs.build.Reward.{rewards_of}
use Rattle.san_check.specs.build.Cells.{elements_of}
use Rattle.san_check.specs.Checked.{IsOfText}
use Rattle.san_check.specs.inner.Models.{IsModel}
use Rattle.san_check.specs.Composed.{IsComposed}
use Rattle.san_check.specs.Formed.{IsFormed}
use Rattle.san_check.proofs.FormedLemmas.{parsed_formed}
use Rattle.san_check.proofs.ComposedLemmas.{composed_of}

pub kept : (s : Syntax) (system : List ℕ) (atomics : List Atomic) (nodes : List Node) (root : ℕ) (rewards : List Reward) (cells : List (List (ℕ × ℕ))) → IsOfText s → syntax_fault s ≡ None → system ≡ s.system → atomics ≡ atomics_of s → nodes ≡ nodes_of s → root ≡ root_of s → rewards ≡ rewards_of s → cells ≡ elements_of s
    → ∥ IsModel system atomics nodes root rewards cells ∥₁
kept s system atomics nodes root rewards cells read passes y a n t r c = ∣ record { syntax = s; read = read; passes = passes; of_system = y; of_atomics = a; of_nodes = n; of_root = t; of_rewards = r; of_cells = c } ∣₁

read_formed : (s : Syntax) → IsOfText s → IsFormed s
read_formed s read = subst IsFormed read.syntax (parsed_formed read.text read.found read.short read.parses)

of_model : (system : List ℕ) (atomics : List Atomic) (nodes : List Node) (root : ℕ) (rewards : List Reward) (cells : List (List (ℕ × ℕ))) → IsModel system atomics nodes root rewards cells → IsComposed system atomics nodes rewards cells
of_model system atomics nodes root rewards cells m =
    let s = m.syntax in
    subst (λ (y : List ℕ). IsComposed y atomics nodes rewards cells) (sym m.of_system)
    (subst (λ (a : List Atomic). IsComposed s.system a nodes rewards cells) (sym m.of_atomics)
    (subst (λ (n : List Node). IsComposed s.system (atomics_of s) n rewards cells) (sym m.of_nodes)
    (subst (λ (r : List Reward). IsComposed s.system (atomics_of s) (nodes_of s) r cells) (sym m.of_rewards)
    (subst (λ (c : List (List (ℕ × ℕ))). IsComposed s.system (atomics_of s) (nodes_of s) (rewards_of s) c) (sym m.of_cells) (composed_of s (read_formed s m.read) m.passes)))))

pub composed : (system : List ℕ) (atomics : List Atomic) (nodes : List Node) (root : ℕ) (rewards : List Reward) (cells : List (List (ℕ × ℕ))) → ∥ IsModel system atomics nodes root rewards cells ∥₁ → ∥ IsComposed system atomics nodes rewards cells ∥₁
composed system atomics nodes root rewards cells m = ∥∥₁_map m (of_model system atomics nodes root rewards cells)
