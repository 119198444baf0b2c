-- A piece as an order takes it, and the law's outcome.
use Rattle.std.specs.Prelude.{ℕ, ◌≡◌, map}
use Rattle.san_base.specs.declared.piece.Kind.{Kind}
use Rattle.san_base.specs.declared.piece.Kind.TheVariants as kind
use Rattle.san_law.specs.Net.{Net, least_timer}
use Rattle.san_law.specs.Order.{Order, order_after, order_renewed, places_of}
use Rattle.san_law.specs.Piece.{Outcome}
use Rattle.san_turn.specs.Changes.{local_due, order_taken}
use Rattle.san_turn.specs.declared.need.Taken.{Taken}

-- the written places, the least timer of a leaf with this first activity, and whether there is more, are the outcome's
pub record Reflects (first : ℕ) (b : Outcome) (t : Taken) : Type 0 where
  pub written : map (λ place. place.0) t.written.items ≡ places_of b.writes
  pub due : local_due first t.due ≡ least_timer b.state.row
  pub more : t.more ≡ b.more

-- the law's order after a piece of this kind with this outcome
abbrev pub order_with : Net → Order → ℕ → ℕ → Outcome → Kind → Order
order_with net o time j b kind.Refresh = order_renewed o time j b
order_with net o time j b kind.Settle = order_after net o time j b
order_with net o time j b (kind.Fire act) = order_after net o time j b

-- an order that takes a piece by its outcome is then the law's
abbrev pub TakenIsTheLaws : Net → Type 0
TakenIsTheLaws net = (o : Order) (j first : ℕ) (b : Outcome) (t : Taken) → Reflects first b t → order_taken net o j first t ≡ order_with net o t.time.0 j b t.kind
