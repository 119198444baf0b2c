-- A block of a leaf's completions is what the law says of the leaf.
use Rattle.std.specs.Prelude.{ℕ, ◌≡◌, Bool, List, Result, Ok, Err}
use Rattle.san_base.specs.declared.ending.Trap.{Trap}
use Rattle.san_expr.specs.Meaning.{Evaluation}
use Rattle.san_law.specs.Alone.{alone}
use Rattle.san_net.specs.Accepted.{IsAccepted}
use Rattle.san_net.specs.Leaf.{leaf_of}
use Rattle.san_net.specs.declared.part.Part.{Part}
use Rattle.san_law.specs.Block as law
use Rattle.san_law.specs.Net as net
use Rattle.san_law.specs.Network as network
use Rattle.san_leaf.specs.Blocks.{Made, block_of}

-- a network of a part alone, for given draws
abbrev pub net_of_part : (ℕ → ℕ → ℕ) → Part → net.Net
net_of_part draw p = network.net_of draw (alone (leaf_of p)) (record { horizon = 0; burst = 0; events = 0 })

-- a leaf with these numbers of case draws
abbrev pub leaf_at : net.Row → List ℕ → List ℕ → net.Local
leaf_at row cases v = record { values = v; row = record { timers = row.timers; delays = row.delays; cases = cases } }

-- the law's block with what was made
abbrev pub block_by : net.Row → List ℕ → (ℕ → Bool) → Made → law.Block
block_by row left sets made = record { completions = made.completions; sets = sets; left = leaf_at row made.cases left; close = made.close }

-- a block never traps, and is the law's
abbrev pub Is : law.Block → net.Row → List ℕ → (ℕ → Bool) → Result Made Trap → Type 0
Is b row left sets (Err t) = ⊥
Is b row left sets (Ok made) = b ≡ block_by row left sets made

abbrev pub IsBlockOf : law.Block → net.Row → Evaluation Made → Type 0
IsBlockOf b row o = Is b row o.left o.sets o.answer

abbrev pub IsBlock : (ℕ → ℕ → ℕ) → Part → ℕ → Type 0
IsBlock draw p n = (row : net.Row) (cases v : List ℕ) → IsBlockOf (law.settle (net_of_part draw p) 0 n (leaf_at row cases v)) row (block_of draw p n cases v)

abbrev pub BlocksAreTheLaws : Part → Type 0
BlocksAreTheLaws p = IsAccepted p.atomic → (draw : ℕ → ℕ → ℕ) (n : ℕ) → IsBlock draw p n
