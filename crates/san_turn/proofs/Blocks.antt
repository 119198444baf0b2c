-- What a block changes of an order.
use Rattle.std.proofs.Common.{ℕ, ◌≡◌, ◌∙◌, ◌⊎◌, ◌<◌, ◌^◌, inl, inr, ap, sym, subst, List, length, map, Option, Bool, true, false, slice_index}
use Rattle.std.proofs.lemmas.List.{length-set}
use Rattle.san_base.specs.declared.numbers.ActId.{ActId}
use Rattle.san_base.specs.declared.numbers.PlaceId.{PlaceId}
use Rattle.san_base.specs.declared.numbers.Tick.{Tick}
use Rattle.san_base.specs.declared.piece.Kind.{Kind}
use Rattle.san_base.specs.declared.piece.Kind.TheVariants as kind
use Rattle.san_law.specs.Net.{Net}
use Rattle.san_law.specs.Order.{Order, flags_from, going_after}
use Rattle.san_law.proofs.Flags.{length_flags}
use Rattle.san_turn.specs.Changes.{OrderValue, flag_after, local_due, order_by, order_of_block, after_taking}
use Rattle.san_turn.specs.declared.need.Taken.{Taken}
use Rattle.san_turn.specs.inner.Ordered.{HasEachLeaf}
use Rattle.san_turn.specs.inner.Timed.{TimersValue, with_due}

-- the value of an order of these fields
abbrev pub built : Option ℕ → List Bool → List Bool → TimersValue → ℕ → ℕ → OrderValue
built going unsettled stale timers time horizon = record {
  order = record { going = going; unsettled = unsettled; stale = stale; dues = timers.dues; time = time };
  firsts = timers.firsts;
  horizon = horizon;
}

-- with another order of the law's
abbrev with_order : OrderValue → Order → OrderValue
with_order v o = record { order = o; firsts = v.firsts; horizon = v.horizon }

-- flags after a block that wrote these places
abbrev flags_by : Net → ℕ → Bool → List Bool → List PlaceId → List Bool
flags_by net j own fs places = flags_from (flag_after net j (map (λ (x : PlaceId). x.0) places) own) 0 fs

by_block : (net : Net) (o : Order) (j first : ℕ) (t : Taken) (k : Kind) → ((act : ActId) × (k ≡ kind.Fire act)) ⊎ (k ≡ kind.Settle)
    → order_by net o j first t k ≡ order_of_block net o t.time.0 j (map (λ (x : PlaceId). x.0) t.written.items) (local_due first t.due) t.more
by_block net o j first t k (inl (act, e)) = ap (order_by net o j first t) e
by_block net o j first t k (inr e) = ap (order_by net o j first t) e

pub block_taken : (net : Net) (v : OrderValue) (j : ℕ) (t : Taken) (going : Option ℕ) (us ss : List Bool) (ts : TimersValue) (ps qs : List PlaceId)
    → ((act : ActId) × (t.kind ≡ kind.Fire act)) ⊎ (t.kind ≡ kind.Settle)
    → going ≡ going_after j t.more
    → us ≡ flags_from (flag_after net j (map (λ (x : PlaceId). x.0) ps) false) 0 v.order.unsettled → ps ≡ t.written.items
    → ss ≡ flags_from (flag_after net j (map (λ (x : PlaceId). x.0) qs) true) 0 v.order.stale → qs ≡ t.written.items
    → ts ≡ with_due (record { dues = v.order.dues; firsts = v.firsts }) j t.due
    → built going us ss ts t.time.0 v.horizon ≡ after_taking net v j t
block_taken net v j t going us ss ts ps qs kinds goes u up s sp due =
    ap (λ (g : Option ℕ). built g us ss ts t.time.0 v.horizon) goes
    ∙ ap (λ (fs : List Bool). built (going_after j t.more) fs ss ts t.time.0 v.horizon) (u ∙ ap (flags_by net j false v.order.unsettled) up)
    ∙ ap (λ (fs : List Bool). built (going_after j t.more) (flags_by net j false v.order.unsettled t.written.items) fs ts t.time.0 v.horizon) (s ∙ ap (flags_by net j true v.order.stale) sp)
    ∙ ap (λ (x : TimersValue). built (going_after j t.more) (flags_by net j false v.order.unsettled t.written.items) (flags_by net j true v.order.stale t.written.items) x t.time.0 v.horizon) due
    ∙ ap (with_order v) (sym (by_block net v.order j (slice_index v.firsts j) t t.kind kinds))

-- an order keeps two flags and a timer for each leaf
pub ordered_after : (f g : ℕ → Bool → Bool) (us ss vs ws : List Bool) (ts xs : TimersValue) (j : ℕ) (due : Option (Tick × ActId)) → HasEachLeaf us ss ts
    → vs ≡ flags_from f 0 us → ws ≡ flags_from g 0 ss → xs ≡ with_due ts j due → HasEachLeaf vs ws xs
ordered_after f g us ss vs ws ts xs j due is u s d =
    let firsts = ap (λ (x : TimersValue). length x.firsts) d in
    record {
      settled_each = ap (λ (fs : List Bool). length fs) u ∙ length_flags f 0 us ∙ is.settled_each ∙ sym firsts;
      fresh_each = ap (λ (fs : List Bool). length fs) s ∙ length_flags g 0 ss ∙ is.fresh_each ∙ sym firsts;
      timed_each = ap (λ (x : TimersValue). length x.dues) d ∙ length-set ts.dues j (local_due (slice_index ts.firsts j) due) ∙ is.timed_each ∙ sym firsts;
      few = subst (λ (n : ℕ). n < 2 ^ 32) (sym firsts) is.few;
    }
