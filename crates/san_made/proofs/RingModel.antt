-- The syntax of a ring.
use Rattle.std.proofs.Common.{ℕ, zero, suc, List, [], ◌∷◌, Some, None, codes}
use Rattle.san_gen.specs.Texts.{next_station}
use Rattle.san_text.specs.declared.syntax.ActDecl.{ActDecl}
use Rattle.san_text.specs.declared.syntax.Ast.TheVariants as ast
use Rattle.san_text.specs.declared.syntax.Cases.TheVariants as cases
use Rattle.san_text.specs.declared.syntax.ChildDecl.{ChildDecl}
use Rattle.san_text.specs.declared.syntax.DistDecl.TheVariants as dist
use Rattle.san_text.specs.declared.syntax.InputDecl.TheVariants as input
use Rattle.san_text.specs.declared.syntax.ModelDecl.{ModelDecl}
use Rattle.san_text.specs.declared.syntax.ModelDecl.TheVariants as model
use Rattle.san_text.specs.declared.syntax.OutputDecl.TheVariants as output
use Rattle.san_text.specs.declared.syntax.PlaceDecl.{PlaceDecl}
use Rattle.san_text.specs.declared.syntax.RewardDecl.{RewardDecl}
use Rattle.san_text.specs.declared.syntax.ShareDecl.{ShareDecl}
use Rattle.san_text.specs.declared.syntax.SpanDecl.TheVariants as span
use Rattle.san_text.specs.declared.syntax.Syntax.{Syntax}
use Rattle.san_text.specs.declared.syntax.TermDecl.TheVariants as term
use Rattle.san_made.proofs.RingWords.{station_name, wire_name}

abbrev pub child : ℕ → ChildDecl
child k = record { name = station_name k; of = codes "station" }

abbrev pub share : ℕ → ℕ → ShareDecl
share n k = record { name = wire_name k; parts = (station_name k, codes "outbox") ∷ (station_name (next_station n k), codes "inbox") ∷ [] }

abbrev pub children : ℕ → ℕ → List ChildDecl
children k zero = []
children k (suc left) = child k ∷ children (suc k) left

abbrev pub shares : ℕ → ℕ → ℕ → List ShareDecl
shares n k zero = []
shares n k (suc left) = share n k ∷ shares n (suc k) left

-- a place with a token
abbrev pub token_place : List ℕ → PlaceDecl
token_place name = record { name = name; length = None; initial = Some 1 }

abbrev pub done_place : PlaceDecl
done_place = record { name = codes "done"; length = None; initial = None }

abbrev pub local_act : ActDecl
local_act = record { name = codes "local"; priority = None; inputs = []; timing = Some (record { delay = dist.Geom 1 5; pair = None }); cases = cases.Plain (output.Arc (codes "done") None ∷ []) }

abbrev pub pass_act : ActDecl
pass_act = record { name = codes "pass"; priority = None; inputs = input.Arc (codes "inbox") None ∷ []; timing = Some (record { delay = dist.Uniform (ast.Number 3) (ast.Number 9); pair = None }); cases = cases.Plain (output.Arc (codes "outbox") None ∷ []) }

abbrev pub station : ModelDecl
station = model.Atomic (codes "station") (token_place (codes "inbox") ∷ token_place (codes "outbox") ∷ done_place ∷ []) (local_act ∷ pass_act ∷ [])

abbrev pub ring : ℕ → ModelDecl
ring n = model.Join (codes "ring") (children 0 n) (shares n 0 n)

abbrev pub reward : RewardDecl
reward = record { name = codes "work"; atomic = codes "station"; span = span.Over 0 1000; terms = term.Impulse (codes "local") (ast.Number 1) ∷ term.Impulse (codes "pass") (ast.Number 10) ∷ [] }

abbrev pub ring_syntax : ℕ → Syntax
ring_syntax n = record { version = 1; models = station ∷ ring n ∷ []; system = codes "ring"; rewards = reward ∷ [] }
