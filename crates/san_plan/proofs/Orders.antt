-- What a taken piece leaves of the order of needs to a leaf that it doesn't touch.
use Rattle.std.proofs.Common.{ℕ, zero, suc, ◌+◌, ◌≤◌, ◌≡◌, ◌≢◌, ◌∙◌, ◌||◌, ap, sym, refl, arith, Bool, true, false, nat_eq, List, [], ◌∷◌, length, map, Option, Some, None, cond}
use Rattle.std.specs.List.{list_any}
use Rattle.std.proofs.lemmas.List.{get_or-set_other}
use Rattle.san_base.proofs.Bools.{or_false, or_none, or_right}
use Rattle.san_base.proofs.NumberTests.{number_itself, other_number, same_number}
use Rattle.san_book.specs.Lines.{write_of}
use Rattle.san_book.specs.Nets.{shared_in}
use Rattle.san_book.specs.Plans.{is_leaf}
use Rattle.san_law.specs.Admitted.{Admitted, admitted, admitted_fire}
use Rattle.san_law.specs.Core.{Core, burst_after, take_admitted, taken, with_block, with_renewal}
use Rattle.san_law.specs.Net.{Net, Private, Shared, Slot}
use Rattle.san_law.specs.Order.{Finished, Need, Needs, Order, any_in, flag, flags_from, going_after, is_in, need_going, need_of, order_after, order_renewed, places_of, stale_after, touches, unsettled_after}
use Rattle.san_law.specs.Piece.{Fire, Kind, Outcome, Refresh, Settle}
use Rattle.san_law.specs.State.{index_of, place_of}
use Rattle.san_law.specs.Step.{Event}
use Rattle.san_turn.proofs.Spread.{is_there}
use Rattle.san_plan.proofs.Frees.{AreUnwritten, OrderStays}

-- flags that a change leaves
flag_other : (f : ℕ → Bool → Bool) (k : ℕ) (bs : List Bool) (i j : ℕ) → j ≡ k + i → ((b : Bool) → f j b ≡ b) → flag bs i ≡ flag (flags_from f k bs) i
flag_other f k [] i j e h = refl
flag_other f k (b ∷ bs) zero j e h = let same : k ≡ j = omega (arith, e) in sym (ap (λ (x : ℕ). f x b) same ∙ h b)
flag_other f k (b ∷ bs) (suc i) j e h = flag_other f (suc k) bs i j (omega (arith, e)) h

abbrev leaf_or : ℕ → Need → ℕ
leaf_or d (Needs j kind time) = j
leaf_or d Finished = d

going_is : (horizon : ℕ) (o : Order) (j i : ℕ) (kind : Kind) (time : ℕ) (g : Option ℕ) → need_going horizon o g ≡ Needs j kind time → i ≢ j → is_leaf i g ≡ false
going_is horizon o j i kind time None need d = refl
going_is horizon o j i kind time (Some k) need d = let e : k ≡ j = ap (leaf_or j) need in ap (λ (x : ℕ). nat_eq x i) e ∙ other_number j i (λ q. d (sym q))

going_other : (horizon : ℕ) (o : Order) (j i : ℕ) (kind : Kind) (time : ℕ) → need_of horizon o ≡ Needs j kind time → i ≢ j → is_leaf i o.going ≡ false
unfolding need_of
going_other horizon o j i kind time need d = going_is horizon o j i kind time o.going need d

after_other : (j i : ℕ) (more : Bool) → i ≢ j → is_leaf i (going_after j more) ≡ false
after_other j i true d = other_number j i (λ q. d (sym q))
after_other j i false d = refl

module _ (net : Net) (c : Core) (j i : ℕ) (kind : Kind) (time : ℕ) (o : Outcome) (need : need_of net.horizon c.order ≡ Needs j kind time) (early : c.order.time ≤ time) (d : i ≢ j) (untouched : touches net o.writes i ≡ false) where
  raised_not : (b own : Bool) → (cond (nat_eq i j) own (b || touches net o.writes i)) ≡ b
  raised_not b own =
      ap (λ (x : Bool). cond x own (b || touches net o.writes i)) (other_number i j d)
      ∙ (ap (λ (x : Bool). b || x) untouched ∙ or_false b)

  block_stays : OrderStays c.order (order_after net c.order time j o) i
  block_stays = record {
    going = going_other net.horizon c.order j i kind time need d ∙ sym (after_other j i o.more d);
    unsettled = flag_other (unsettled_after net j o.writes) 0 c.order.unsettled i i (omega arith) (λ b. raised_not b false);
    stale = flag_other (stale_after net j o.writes) 0 c.order.stale i i (omega arith) (λ b. raised_not b true);
    time = early;
  }

  renewal_stays : OrderStays c.order (order_renewed c.order time j o) i
  renewal_stays = record {
    going = refl;
    unsettled = refl;
    stale = sym (get_or-set_other c.order.stale j i false false d);
    time = early;
  }

  admitted_stays : (k : Kind) (t : Admitted) (whole : List Event → Core) → ((es : List Event) → OrderStays c.order (whole es).order i) → (take_admitted net c time k t whole).stop ≡ None → OrderStays c.order (take_admitted net c time k t whole).order i
  admitted_stays k (es, Some e) whole h stop = absurd (cc)
  admitted_stays k (es, None) whole h stop = h es

  abbrev block : Kind → List Event → Core
  block k es = with_block net c time (burst_after k c.burst (length o.completions)) (c.count + length o.completions) j es o

  abbrev renewal : List Event → Core
  renewal es = with_renewal net c time j o

  pub order_stays : (k : Kind) → (taken net c j k time o).stop ≡ None → OrderStays c.order (taken net c j k time o).order i
  order_stays Settle stop = admitted_stays Settle (admitted net time j c.burst c.count o.fault o.completions) (block Settle) (λ es. block_stays) stop
  order_stays (Fire k) stop = admitted_stays (Fire k) (admitted_fire net time j c.count o.fault o.completions) (block (Fire k)) (λ es. block_stays) stop
  order_stays Refresh stop = admitted_stays Refresh (admitted net time j c.burst c.count o.fault o.completions) renewal (λ es. renewal_stays) stop

-- what isn't touched isn't written
other_write : (w : ℕ × ℕ) (slots : List ℕ) (r : ℕ) (rest : Option ℕ) (b : Bool) → nat_eq w.0 r ≡ b → is_in (index_of r slots) ≡ true → is_in (index_of w.0 slots) ≡ false → rest ≡ None → cond b (Some w.1) rest ≡ None
other_write w slots r rest true e there not_there none = let k : true ≡ false = sym there ∙ (ap (λ (x : ℕ). is_in (index_of x slots)) (sym (same_number w.0 r e)) ∙ not_there) in absurd (cc)
other_write w slots r rest false e there not_there none = none

not_among : (ws : List (ℕ × ℕ)) (slots : List ℕ) (r : ℕ) → is_in (index_of r slots) ≡ true → any_in (places_of ws) slots ≡ false → write_of r ws ≡ None
not_among [] slots r there h = refl
not_among (w ∷ ws) slots r there h =
    let k = or_none (is_in (index_of w.0 slots)) (any_in (places_of ws) slots) h in
    other_write w slots r (write_of r ws) (nat_eq w.0 r) refl there k.0 (not_among ws slots r there k.1)

listed_first : (q : ℕ) (qs : List ℕ) → is_in (index_of q (q ∷ qs)) ≡ true
listed_first q qs = is_there q (q ∷ qs) ∙ ap (λ (b : Bool). b || list_any (nat_eq q) qs) (number_itself q)

listed_later : (q r : ℕ) (qs : List ℕ) → is_in (index_of q qs) ≡ true → is_in (index_of q (r ∷ qs)) ≡ true
listed_later q r qs h = is_there q (r ∷ qs) ∙ (ap (λ (b : Bool). nat_eq q r || b) (sym (is_there q qs) ∙ h) ∙ or_right (nat_eq q r))

pub unwritten : (ws : List (ℕ × ℕ)) (slots : List ℕ) (ss : List Slot) → ((q : ℕ) → is_in (index_of q (map place_of ss)) ≡ true → is_in (index_of q slots) ≡ true) → any_in (places_of ws) slots ≡ false → AreUnwritten ws (shared_in ss)
unwritten ws slots [] among h = tt
unwritten ws slots (Private p ∷ ss) among h = unwritten ws slots ss (λ q k. among q (listed_later q p (map place_of ss) k)) h
unwritten ws slots (Shared p ∷ ss) among h =
    (not_among ws slots p (among p (listed_first p (map place_of ss))) h, unwritten ws slots ss (λ q k. among q (listed_later q p (map place_of ss) k)) h)
