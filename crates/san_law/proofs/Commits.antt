-- A block of a leaf, taken: what the core then holds.
use Rattle.std.proofs.Common.{ℕ, suc, ◌+◌, ◌<◌, ◌≤◌, ◌≡◌, ◌≢◌, ◌∙◌, ◌⊎◌, ◌||◌, inl, inr, ap, sym, refl, subst, List, [], ◌∷◌, length, take, Some, None, Bool, true, false, arith, nat_eq, slice_index, slice_set, slice_index_or, cond}
use Rattle.std.proofs.lemmas.Bool.{true≢false, eq-eqb}
use Rattle.std.proofs.lemmas.List.{get_or-set_same, get_or-set_other, length-set, length-map, length-take, get_or-take, get_or-map}
use Rattle.san_base.proofs.Bools.{or_none}
use Rattle.san_base.proofs.NumberTests.{other_number, by_number}
use Rattle.san_law.specs.Net.{Local, Net, Rated, Row, is_bare, least_timer, no_row}
use Rattle.san_law.specs.State.{State, gather, part_of, place_of, row_of, scatter, slots_of}
use Rattle.san_law.specs.Step.{Event}
use Rattle.san_law.specs.Block.{Block, Completion, More, Rests, more_of}
use Rattle.san_law.specs.Piece.{LeafState, kept, no_leaf, outcome_of, own, privates, writes_from}
use Rattle.san_law.specs.Order.{flag, flags_from, going_after, stale_after, touches, unsettled_after}
use Rattle.san_law.specs.Core.{Core, leaf_of, put, rates_of, with_block}
use Rattle.san_law.specs.Lawful.{IsLaid, IsLate}
use Rattle.san_law.specs.Standing.{Each, Holds, IsFresh, Quiet, ServesRenewal, Sized, Upto, Waits, nothing_in}
use Rattle.san_law.proofs.Places.{gather_scatter, own_is, privates_stay, put_is, scatter_length, take_scatter, untouched, writes_none}
use Rattle.san_law.proofs.Flags.{flag_is, length_flags}
use Rattle.san_law.proofs.Timers.{bare_like, least_like}
use Rattle.san_law.proofs.Blocks.{Did, Keeps, last_after}

-- what a block of a leaf may rest on: the core and a state whose rows wait, the leaf's own apart
pub record Base (net : Net) (c : Core) (u : State) (j : ℕ) (l : Local) : Type 0 where
  pub sized : Sized net c u
  pub within : j < length net.parts
  pub local : l.values ≡ gather (slots_of net j) u.marking
  pub shared : c.shared ≡ take net.shared u.marking
  pub values : Each net (λ i. (leaf_of c i).values ≡ gather (privates (part_of net i)) u.marking)
  pub fresh : Each net (λ i. i ≢ j → flag c.order.stale i ≡ false → IsFresh net u i (leaf_of c i) (rates_of c i))
  pub first : Each net (λ i. i ≢ j → flag c.order.unsettled i ≡ false → nothing_in net u i)
  pub last : (i : ℕ) → i ≢ j → u.last ≡ Some i → nothing_in net u i
  pub dues : Each net (λ i. slice_index_or c.order.dues i None ≡ least_timer (leaf_of c i).row)
  pub waits : Each net (λ i. i ≢ j → Waits net u i (leaf_of c i))
  pub late : Each net (λ i. i ≢ j → IsLate u.time (leaf_of c i).row)
  pub late_own : IsLate u.time l.row
  pub seen : ServesRenewal net j (leaf_of c j).seen (gather (slots_of net j) u.stable) l.row

pub fresh_same : (net : Net) (u t : State) (i : ℕ) (a b : LeafState) (w : List Rated) → gather (slots_of net i) t.marking ≡ gather (slots_of net i) u.marking → b ≡ a → IsFresh net u i a w → IsFresh net t i b w
fresh_same net u t i a b w e same h = subst (λ (x : LeafState). IsFresh net t i x w) (sym same) (record {
  quiet = subst (λ (vs : List ℕ). Quiet net i vs a.row) (sym e) h.quiet;
  seen = h.seen ∙ ap (kept net i) (sym e);
  rates = h.rates ∙ ap (net.rates i) (sym e);
})

pub nothing_same : (net : Net) (u t : State) (i : ℕ) → gather (slots_of net i) t.marking ≡ gather (slots_of net i) u.marking → nothing_in net u i → nothing_in net t i
nothing_same net u t i e h = ap (net.first i) e ∙ h

pub serves_like : (net : Net) (j : ℕ) (seen a b : List ℕ) (r q : Row) → a ≡ b → (is_bare r ≡ true → is_bare q ≡ true) → ServesRenewal net j seen a r → ServesRenewal net j seen b q
serves_like net j seen a b r q e f (inl h) = inl (h ∙ ap (kept net j) e)
serves_like net j seen a b r q e f (inr h) = inr (h.0, f h.1)

stale_by : (q b t : Bool) → cond q true (b || t) ≡ false → (q ≡ false) × (b ≡ false) × (t ≡ false)
stale_by true b t e = cc
stale_by false b t e = let k = or_none b t e in (refl, k.0, k.1)

unsettled_by : (q b t : Bool) → q ≡ false → cond q false (b || t) ≡ false → (b ≡ false) × (t ≡ false)
unsettled_by true b t f e = cc
unsettled_by false b t f e = or_none b t e

not_same : (i j : ℕ) → nat_eq i j ≡ false → i ≢ j
not_same i j f e = true≢false (sym (eq-eqb i j e) ∙ f)

module _ (net : Net) (c : Core) (u t : State) (j burst count : ℕ) (es : List Event) (l : Local) (b : Block) (base : Base net c u j l) (keeps : Keeps net j l b) (did : Did net u t j burst b) where
  abbrev writes : List (ℕ × ℕ)
  writes = writes_from b.sets 0 (part_of net j) b.left.values

  abbrev new_leaf : LeafState
  new_leaf = record { values = own (part_of net j) b.left.values; row = b.left.row; seen = (leaf_of c j).seen }

  leaf_same : (i : ℕ) → i ≢ j → slice_index_or (slice_set c.leaves j new_leaf) i no_leaf ≡ leaf_of c i
  leaf_same i n = get_or-set_other c.leaves j i new_leaf no_leaf n

  leaf_new : slice_index_or (slice_set c.leaves j new_leaf) j no_leaf ≡ new_leaf
  leaf_new = get_or-set_same c.leaves j new_leaf no_leaf (omega (arith, base.within, base.sized.leaves))

  long : length b.left.values ≡ length (slots_of net j)
  long = keeps.long ∙ (ap length base.local ∙ length-map (slots_of net j) (λ p. slice_index u.marking p))

  size : length t.marking ≡ length u.marking
  size = ap length did.marking ∙ scatter_length (slots_of net j) b.left.values u.marking

  pub left_is : b.left.values ≡ gather (slots_of net j) t.marking
  left_is = sym (ap (gather (slots_of net j)) did.marking ∙ gather_scatter (slots_of net j) b.left.values u.marking (base.sized.laid.below j) (base.sized.laid.distinct j) long)

  long_part : length b.left.values ≡ length (part_of net j)
  long_part = long ∙ length-map (part_of net j) place_of

  gather_same : (i : ℕ) → i ≢ j → touches net writes i ≡ false → gather (slots_of net i) t.marking ≡ gather (slots_of net i) u.marking
  gather_same i n out = ap (gather (slots_of net i)) did.marking
      ∙ untouched net.shared (part_of net j) (slots_of net i) b.left.values u.marking b.sets long_part (λ p h. keeps.stays p h ∙ ap (λ vs. slice_index vs p) base.local) (base.sized.laid.apart j i n) out

  pub sized_after : Sized net (with_block net c u.time burst count j es (outcome_of net j (leaf_of c j).seen b)) t
  sized_after = record {
    leaves = length-set c.leaves j new_leaf ∙ base.sized.leaves;
    rows = ap length did.rows ∙ (length-set u.rows j b.left.row ∙ base.sized.rows);
    unsettled = length_flags (unsettled_after net j writes) 0 c.order.unsettled ∙ base.sized.unsettled;
    stale = length_flags (stale_after net j writes) 0 c.order.stale ∙ base.sized.stale;
    timers = length-set c.order.dues j (least_timer b.left.row) ∙ base.sized.timers;
    rates = base.sized.rates;
    laid = subst (IsLaid net) (sym size) base.sized.laid;
  }

  values_after : Each net (λ i. (slice_index_or (slice_set c.leaves j new_leaf) i no_leaf).values ≡ gather (privates (part_of net i)) t.marking)
  values_after = by_number (λ i. i < length net.parts → (slice_index_or (slice_set c.leaves j new_leaf) i no_leaf).values ≡ gather (privates (part_of net i)) t.marking) j
      (λ h. ap (λ (x : LeafState). x.values) leaf_new ∙ (ap (own (part_of net j)) left_is ∙ own_is (part_of net j) t.marking))
      (λ i n h. ap (λ (x : LeafState). x.values) (leaf_same i n) ∙ (base.values i h
      ∙ (sym (privates_stay net.shared (slots_of net j) b.left.values u.marking (part_of net i) (base.sized.laid.apart i j (λ e. n (sym e))))
      ∙ ap (gather (privates (part_of net i))) (sym did.marking))))

  stale_other : (i : ℕ) → i < length net.parts → flag (flags_from (stale_after net j writes) 0 c.order.stale) i ≡ false → (i ≢ j) × (flag c.order.stale i ≡ false) × (touches net writes i ≡ false)
  stale_other i h e =
      let k = stale_by (nat_eq i j) (flag c.order.stale i) (touches net writes i) (sym (flag_is (stale_after net j writes) i c.order.stale (omega (arith, h, base.sized.stale))) ∙ e) in
      (not_same i j k.0, k.1, k.2)

  unsettled_other : (i : ℕ) → i < length net.parts → i ≢ j → flag (flags_from (unsettled_after net j writes) 0 c.order.unsettled) i ≡ false → (flag c.order.unsettled i ≡ false) × (touches net writes i ≡ false)
  unsettled_other i h n e = unsettled_by (nat_eq i j) (flag c.order.unsettled i) (touches net writes i) (other_number i j n) (sym (flag_is (unsettled_after net j writes) i c.order.unsettled (omega (arith, h, base.sized.unsettled))) ∙ e)

  fresh_after : Each net (λ i. flag (flags_from (stale_after net j writes) 0 c.order.stale) i ≡ false → IsFresh net t i (slice_index_or (slice_set c.leaves j new_leaf) i no_leaf) (rates_of c i))
  fresh_after i h e =
      let k = stale_other i h e in
      fresh_same net u t i (leaf_of c i) (slice_index_or (slice_set c.leaves j new_leaf) i no_leaf) (rates_of c i) (gather_same i k.0 k.2) (leaf_same i k.0) (base.fresh i h k.0 k.1)

  nothing_other : (i : ℕ) → i < length net.parts → i ≢ j → flag (flags_from (unsettled_after net j writes) 0 c.order.unsettled) i ≡ false → nothing_in net t i
  nothing_other i h n e = let k = unsettled_other i h n e in nothing_same net u t i (gather_same i n k.1) (base.first i h n k.0)

  dues_after : Each net (λ i. slice_index_or (slice_set c.order.dues j (least_timer b.left.row)) i None ≡ least_timer (slice_index_or (slice_set c.leaves j new_leaf) i no_leaf).row)
  dues_after = by_number (λ i. i < length net.parts → slice_index_or (slice_set c.order.dues j (least_timer b.left.row)) i None ≡ least_timer (slice_index_or (slice_set c.leaves j new_leaf) i no_leaf).row) j
      (λ h. get_or-set_same c.order.dues j (least_timer b.left.row) None (omega (arith, h, base.sized.timers)) ∙ ap (λ (x : LeafState). least_timer x.row) (sym leaf_new))
      (λ i n h. get_or-set_other c.order.dues j i (least_timer b.left.row) None n ∙ (base.dues i h ∙ ap (λ (x : LeafState). least_timer x.row) (sym (leaf_same i n))))

  late_new : IsLate t.time b.left.row
  late_new x e = subst (λ n. n ≤ x.0) (sym did.time) (base.late_own x (sym (least_like l.row b.left.row keeps.timers) ∙ e))

  late_same : (i : ℕ) → i < length net.parts → i ≢ j → IsLate t.time (leaf_of c i).row
  late_same i h n x e = subst (λ m. m ≤ x.0) (sym did.time) (base.late i h n x e)

  late_after : Each net (λ i. IsLate t.time (slice_index_or (slice_set c.leaves j new_leaf) i no_leaf).row)
  late_after = by_number (λ i. i < length net.parts → IsLate t.time (slice_index_or (slice_set c.leaves j new_leaf) i no_leaf).row) j
      (λ h. subst (λ (x : LeafState). IsLate t.time x.row) (sym leaf_new) late_new)
      (λ i n h. subst (λ (x : LeafState). IsLate t.time x.row) (sym (leaf_same i n)) (late_same i h n))

  row_new : b.left.row ≡ row_of t j
  row_new = sym (ap (λ (rs : List Row). slice_index_or rs j no_row) did.rows ∙ get_or-set_same u.rows j b.left.row no_row (omega (arith, base.within, base.sized.rows)))

  row_same : (i : ℕ) → i ≢ j → row_of u i ≡ row_of t i
  row_same i n = sym (ap (λ (rs : List Row). slice_index_or rs i no_row) did.rows ∙ get_or-set_other u.rows j i b.left.row no_row n)

  waits_new : Waits net t j new_leaf
  waits_new = record {
    row = row_new;
    seen = serves_like net j (leaf_of c j).seen (gather (slots_of net j) u.stable) (gather (slots_of net j) t.stable) l.row b.left.row (ap (gather (slots_of net j)) (sym did.stable)) (bare_like l.row b.left.row keeps.timers) base.seen;
  }

  waits_other : (i : ℕ) → i < length net.parts → i ≢ j → Waits net t i (leaf_of c i)
  waits_other i h n = let w = base.waits i h n in record {
    row = w.row ∙ row_same i n;
    seen = serves_like net i (leaf_of c i).seen (gather (slots_of net i) u.stable) (gather (slots_of net i) t.stable) (leaf_of c i).row (leaf_of c i).row (ap (gather (slots_of net i)) (sym did.stable)) (λ f. f) w.seen;
  }

  waits_after : Each net (λ i. Waits net t i (slice_index_or (slice_set c.leaves j new_leaf) i no_leaf))
  waits_after = by_number (λ i. i < length net.parts → Waits net t i (slice_index_or (slice_set c.leaves j new_leaf) i no_leaf)) j
      (λ h. subst (λ (x : LeafState). Waits net t j x) (sym leaf_new) waits_new)
      (λ i n h. subst (λ (x : LeafState). Waits net t i x) (sym (leaf_same i n)) (waits_other i h n))

  pub upto_none : Upto net (with_block net c u.time burst count j es (outcome_of net j (leaf_of c j).seen b)) t 0
  upto_none = record { renewed = λ i h l. absurd (omega (arith, l)); waits = λ i h l. waits_after i h }

  last_idle : b.completions ≡ [] → (i : ℕ) → i ≢ j → u.last ≡ Some i → nothing_in net t i
  last_idle e i n is = nothing_same net u t i (gather_same i n (ap (λ (ws : List (ℕ × ℕ)). touches net ws i) (writes_none b.sets (keeps.idle e) (part_of net j) b.left.values 0))) (base.last i n is)

  last_from : b.close ≡ Rests → (ks : List Completion) → b.completions ≡ ks → (i : ℕ) → t.last ≡ Some i → nothing_in net t i
  last_from r [] e i is = by_number (λ i. t.last ≡ Some i → nothing_in net t i) j (λ is. did.rests r) (λ i n is. last_idle e i n (sym (did.last ∙ ap (last_after u.last j) e) ∙ is)) i is
  last_from r (k ∷ ks) e i is =
      let g : t.last ≡ Some j = did.last ∙ ap (last_after u.last j) e in
      let m : Some j ≡ Some i = sym g ∙ is in
      let q : j ≡ i = cc in subst (nothing_in net t) q (did.rests r)

  first_at : (o : (b.close ≡ Rests) ⊎ ((b.close ≡ More) × (last_after u.last j b.completions ≡ Some j))) → going_after j (more_of b.close) ≢ Some j → nothing_in net t j
  first_at (inl r) g = did.rests r
  first_at (inr m) g = absurd (g (ap (λ x. going_after j (more_of x)) m.0))

  going_at : (o : (b.close ≡ Rests) ⊎ ((b.close ≡ More) × (last_after u.last j b.completions ≡ Some j))) → (i : ℕ) → going_after j (more_of b.close) ≡ Some i → (i < length net.parts) × (t.last ≡ Some i)
  going_at (inl r) i e = let k : going_after j (more_of b.close) ≡ None = ap (λ x. going_after j (more_of x)) r in cc
  going_at (inr m) i e =
      let k : going_after j (more_of b.close) ≡ Some j = ap (λ x. going_after j (more_of x)) m.0 in
      let q : j ≡ i = cc in subst (λ x. (x < length net.parts) × (t.last ≡ Some x)) q (base.within, did.last ∙ m.1)

  last_at : (o : (b.close ≡ Rests) ⊎ ((b.close ≡ More) × (last_after u.last j b.completions ≡ Some j))) → going_after j (more_of b.close) ≡ None → (i : ℕ) → t.last ≡ Some i → nothing_in net t i
  last_at (inl r) e i is = last_from r b.completions refl i is
  last_at (inr m) e i is = let k : going_after j (more_of b.close) ≡ Some j = ap (λ x. going_after j (more_of x)) m.0 in cc

  small : length c.shared ≤ net.shared
  small = omega (arith, ap length base.shared, length-take net.shared u.marking)

  shared_at : (q : ℕ) → q < length c.shared → slice_index c.shared q ≡ slice_index u.marking q
  shared_at q h = ap (λ (vs : List ℕ). slice_index vs q) base.shared ∙ get_or-take net.shared u.marking q 0 (omega (arith, h, small))

  put_shared : put writes c.shared ≡ scatter (slots_of net j) b.left.values c.shared
  put_shared = put_is net.shared _ b.sets c.shared (part_of net j) b.left.values small long_part (base.sized.laid.apart j (suc j) (omega arith)) (base.sized.laid.distinct j) (λ p q l h e is.
      keeps.stays p e ∙ (ap (λ vs. slice_index vs p) base.local
      ∙ (get_or-map (λ s. slice_index u.marking s) (slots_of net j) p 0 0 (omega (arith, l, length-map (part_of net j) place_of))
      ∙ (ap (λ r. slice_index u.marking r) is ∙ sym (shared_at q h)))))

  pub holds_after : (b.close ≡ Rests) ⊎ ((b.close ≡ More) × (last_after u.last j b.completions ≡ Some j)) → u.count + length b.completions ≡ count → Holds net (with_block net c u.time burst count j es (outcome_of net j (leaf_of c j).seen b)) t
  holds_after o counts = record {
    sized = sized_after;
    time = sym did.time;
    burst = sym did.burst;
    count = omega (arith, counts, did.count);
    shared = put_shared ∙ ap (scatter (slots_of net j) b.left.values) base.shared ∙ (sym (take_scatter (slots_of net j) b.left.values net.shared u.marking) ∙ ap (take net.shared) (sym did.marking));
    values = values_after;
    fresh = fresh_after;
    first = by_number (λ i. i < length net.parts → flag (flags_from (unsettled_after net j writes) 0 c.order.unsettled) i ≡ false → going_after j (more_of b.close) ≢ Some i → nothing_in net t i) j
        (λ h e g. first_at o g) (λ i n h e g. nothing_other i h n e);
    going = going_at o;
    last = last_at o;
    dues = dues_after;
    late = late_after;
  }
