-- An order's change needs no more of a piece than its places, its least timer, and whether there is more.
use Rattle.std.proofs.Common.{ℕ, ◌≡◌, ◌∙◌, ap, refl, List, map, Option, Bool}
use Rattle.san_base.specs.declared.numbers.PlaceId.{PlaceId}
use Rattle.san_base.specs.declared.piece.Kind.{Kind}
use Rattle.san_base.specs.declared.piece.Kind.TheVariants as kind
use Rattle.san_law.specs.Net.{Net, least_timer}
use Rattle.san_law.specs.Order.{Order, order_after, order_renewed, places_of}
use Rattle.san_law.specs.Piece.{Outcome}
use Rattle.san_turn.specs.Changes.{local_due, order_by, order_of_block, order_of_renewal}
use Rattle.san_turn.specs.Reflected.{TakenIsTheLaws, Reflects, order_with}
use Rattle.san_turn.specs.declared.need.Taken.{Taken}

pub block_is : (net : Net) (o : Order) (time leaf : ℕ) (b : Outcome) → order_after net o time leaf b ≡ order_of_block net o time leaf (places_of b.writes) (least_timer b.state.row) b.more
block_is net o time leaf b = refl

pub renewal_is : (o : Order) (time leaf : ℕ) (b : Outcome) → order_renewed o time leaf b ≡ order_of_renewal o time leaf (least_timer b.state.row)
renewal_is o time leaf b = refl

module _ (net : Net) (o : Order) (j first : ℕ) (b : Outcome) (t : Taken) (tells : Reflects first b t) where
  block_taken : order_of_block net o t.time.0 j (map (λ (x : PlaceId). x.0) t.written.items) (local_due first t.due) t.more ≡ order_after net o t.time.0 j b
  block_taken =
      ap (λ (ps : List ℕ). order_of_block net o t.time.0 j ps (local_due first t.due) t.more) tells.written
      ∙ ap (λ (d : Option (ℕ × ℕ)). order_of_block net o t.time.0 j (places_of b.writes) d t.more) tells.due
      ∙ ap (λ (m : Bool). order_of_block net o t.time.0 j (places_of b.writes) (least_timer b.state.row) m) tells.more

  taken_by : (k : Kind) → order_by net o j first t k ≡ order_with net o t.time.0 j b k
  taken_by kind.Refresh = ap (λ (d : Option (ℕ × ℕ)). order_of_renewal o t.time.0 j d) tells.due
  taken_by kind.Settle = block_taken
  taken_by (kind.Fire act) = block_taken

pub taken_is : (net : Net) → TakenIsTheLaws net
taken_is net o j first b t tells = taken_by net o j first b t tells t.kind
