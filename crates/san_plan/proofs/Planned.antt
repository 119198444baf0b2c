-- What a leaf comes to next is the book's plan of it.
use Rattle.std.proofs.Common.{ℕ, zero, suc, ◌+◌, ◌<◌, ◌≤◌, ◌≡◌, ◌⊎◌, ◌∙◌, inl, inr, ap, sym, subst, refl, arith, List, [], ◌∷◌, length, Option, Some, None, Bool, true, false, nat_eq, ◌||◌}
use Rattle.std.specs.Prelude.{IsTrue, ◌↔◌, if◌then◌else◌, slice_get, slice_index_or}
use Rattle.san_base.proofs.NumberTests.{number_itself, same_number, some_same}
use Rattle.san_base.specs.declared.limits.Limits.{Limits}
use Rattle.san_base.specs.declared.limits.TheConstants.{MAX_ACTS}
use Rattle.san_base.specs.declared.numbers.ActId.{ActId}
use Rattle.san_base.specs.declared.piece.Kind as named
use Rattle.san_base.specs.declared.piece.Kind.TheVariants as kind
use Rattle.san_ahead.specs.Ahead.{AheadValue, last_of, last_or}
use Rattle.san_book.specs.Chains.{Chain, chain_of}
use Rattle.san_book.specs.Lines.{Line}
use Rattle.san_book.specs.Machines.{Machine, sees_all}
use Rattle.san_book.specs.Nets.{is_there, shared_in}
use Rattle.san_book.specs.Plans as book
use Rattle.san_book.specs.Plans.{chosen, in_time, is_leaf, next_version, plan_after, plan_first, plan_from, plan_over}
use Rattle.san_chain.specs.Chains.{end_from}
use Rattle.san_core.specs.Machines.{MachineValue, core_in}
use Rattle.san_core.proofs.Fitting.{slots_are}
use Rattle.san_decide.specs.Booked.{book_of, no_part, of_piece, part_at}
use Rattle.san_law.specs.Core as law
use Rattle.san_law.specs.Core.{leaf_of}
use Rattle.san_law.specs.Net.{least_timer}
use Rattle.san_law.specs.Order.{Order, flag}
use Rattle.san_law.specs.Piece as outcomes
use Rattle.san_law.specs.Piece.{LeafState, Refresh, Settle}
use Rattle.std.specs.Option.{is_some, option_map}
use Rattle.san_leaf.specs.Outcomes.{fault_in, outcome_in}
use Rattle.san_leaf.specs.declared.outcome.Fault.{Fault}
use Rattle.san_leaf.specs.declared.outcome.Outcome.{Outcome}
use Rattle.san_leaf.specs.Pieces.{PieceValue, slots_in}
use Rattle.san_leaf.specs.States.{kind_in}
use Rattle.san_net.specs.Laid.{IsNetwork}
use Rattle.san_net.specs.Network.{Network}
use Rattle.san_net.specs.declared.part.Part.{Part}
use Rattle.san_net.proofs.FlatLemmas.{acts_within}
use Rattle.san_plan.specs.Plans.{IsPlannable, RowStands, plan_at}
use Rattle.san_plan.specs.inner.Waits.{comes_after, comes_first, goes_after, waits}

-- a leaf that is there has its part
pub part_there : (ps : List Part) (j : ℕ) → j < length ps → slice_get ps j ≡ Some (slice_index_or ps j no_part)
part_there [] j l = absurd (omega (arith, l))
part_there (p ∷ ps) zero l = refl
part_there (p ∷ ps) (suc j) l = part_there ps j (omega (arith, l))

part_got : (ps : List Part) (j : ℕ) (q : Part) → slice_get ps j ≡ Some q → q ≡ slice_index_or ps j no_part
part_got [] j q e = absurd (cc)
part_got (p ∷ ps) zero q e = sym (some_same p q e)
part_got (p ∷ ps) (suc j) q e = part_got ps j q e

pub part_is_at : (x n : Network) (j : ℕ) (q : Part) → x ≡ n → slice_get x.parts j ≡ Some q → q ≡ part_at n j
part_is_at x n j q is e = part_got x.parts j q e ∙ ap (λ (y : Network). part_at y j) is

-- whether a leaf is the one that goes on
pub is_leaf_by : (j : ℕ) (o : Option ℕ) (b : Bool) → (IsTrue b ↔ (o ≡ Some j)) → b ≡ is_leaf j o
is_leaf_by j None true h = absurd (let e : None ≡ Some j = h.0 refl in cc)
is_leaf_by j None false h = refl
is_leaf_by j (Some i) true h = sym (ap (λ (k : ℕ). nat_eq k j) (some_same i j (h.0 refl)) ∙ number_itself j)
is_leaf_by j (Some i) false h = by_test (nat_eq i j) refl
  where
    by_test : (t : Bool) → nat_eq i j ≡ t → false ≡ t
    by_test false e = refl
    by_test true e = h.1 (ap (λ (k : ℕ). (let o : Option ℕ = Some k in o)) (same_number i j e))

module _ (n : Network) (network : IsNetwork n) (seed : ℕ) (limits : Limits) (j : ℕ) (there : j < length n.parts) where
  abbrev m : Machine law.Core LeafState PieceValue
  m = book_of n seed limits

  abbrev p : Part
  p = part_at n j

  p_there : slice_get n.parts j ≡ Some p
  p_there = part_there n.parts j there

  leaf_is : p.leaf.0 ≡ j
  leaf_is = network.numbered.leaves j p p_there

  pub acts_few : p.first.0 + length p.atomic.acts ≤ MAX_ACTS
  acts_few = let acts = acts_within n j p network p_there in omega (arith, acts, network.small.acts)

  places_are : shared_in (slots_in p) ≡ m.places j
  places_are = ap shared_in (sym (slots_are n.parts j p p_there))

  -- it waits by its part
  waits_is : (lines : List Line) (horizon after : ℕ) (s : LeafState) → waits p lines horizon after s ≡ plan_from m horizon lines j after s
  waits_is lines horizon after s =
      ap (λ (k : ℕ). chosen k (in_time horizon (least_timer s.row)) (in_time horizon (next_version lines k after (shared_in (slots_in p))))) leaf_is
      ∙ ap (λ (qs : List ℕ). chosen j (in_time horizon (least_timer s.row)) (in_time horizon (next_version lines j after qs))) places_are

  -- after a piece of its part
  module _ (lines : List Line) (horizon : ℕ) (x : PieceValue) (part : x.part ≡ p) where
    waits_here : waits x.part lines horizon x.time x.outcome.state ≡ plan_from m horizon lines j x.time x.outcome.state
    waits_here = ap (λ (q : Part). waits q lines horizon x.time x.outcome.state) part ∙ waits_is lines horizon x.time x.outcome.state

    abbrev done : Bool → Option book.Plan
    done b = if b then plan_from m horizon lines j x.time x.outcome.state else Some (record { kind = Refresh; time = x.time })

    done_is : (first : ℕ) (k : named.Kind) → goes_after lines horizon x k ≡ done (sees_all (kind_in first k))
    done_is first kind.Refresh = waits_here
    done_is first kind.Settle = refl
    done_is first (kind.Fire act) = refl

    pub after_is : comes_after lines horizon x ≡ plan_after m horizon lines j x
    after_is = ap (λ (o : Option book.Plan). if is_there x.outcome.fault then None else if x.outcome.more then Some (record { kind = Settle; time = x.time }) else o) (done_is x.part.first.0 x.kind)

  -- from what is committed
  pub first_is : (lines : List Line) (horizon : ℕ) (o : Order) (s : LeafState) → comes_first j p lines horizon o s ≡ plan_first m horizon lines j o s
  first_is lines horizon o s = ap (λ (r : Option book.Plan). if is_leaf j o.going || flag o.unsettled j then Some (record { kind = Settle; time = o.time }) else if flag o.stale j then Some (record { kind = Refresh; time = o.time }) else r) (waits_is lines horizon o.time s)

  -- the last piece of the chain says
  over_or : (horizon : ℕ) (lines : List Line) (plan : Option book.Plan) (o : Option PieceValue) → ((q : PieceValue) → o ≡ Some q → plan ≡ plan_after m horizon lines j q) → (xs : Chain PieceValue) (q : PieceValue) → last_or o xs ≡ Some q → plan_over m horizon lines j plan xs ≡ plan_after m horizon lines j q
  over_or horizon lines plan o h [] q e = h q e
  over_or horizon lines plan o h (y ∷ xs) q e = over_or horizon lines (plan_after m horizon lines j y.1) (Some y.1) (λ r k. ap (plan_after m horizon lines j) (some_same y.1 r k)) xs q e

  pub over_last : (horizon : ℕ) (lines : List Line) (plan : Option book.Plan) (xs : Chain PieceValue) (q : PieceValue) → last_of xs ≡ Some q → plan_over m horizon lines j plan xs ≡ plan_after m horizon lines j q
  over_last horizon lines plan xs q e = over_or horizon lines plan None (λ r k. absurd (cc)) xs q e

-- and its end
end_or : (o : Option PieceValue) (d : LeafState) → ((q : PieceValue) → o ≡ Some q → d ≡ q.outcome.state) → (xs : Chain PieceValue) (q : PieceValue) → last_or o xs ≡ Some q → end_from of_piece.end d xs ≡ q.outcome.state
end_or o d h [] q e = h q e
end_or o d h (y ∷ xs) q e = end_or (Some y.1) (of_piece.end y.1) (λ r k. ap (λ (z : PieceValue). z.outcome.state) (some_same y.1 r k)) xs q e

pub end_last : (d : LeafState) (xs : Chain PieceValue) (q : PieceValue) → last_of xs ≡ Some q → end_from of_piece.end d xs ≡ q.outcome.state
end_last d xs q e = end_or None d (λ r k. absurd (cc)) xs q e

-- the plan over a machine and what is made ahead of it
module _ (m : MachineValue) (a : AheadValue) (network : IsNetwork m.network) (j : ℕ) (plannable : IsPlannable m a j) where
  pub plan_by_last : (q : PieceValue) → last_of (chain_of a.chains j) ≡ Some q → comes_after a.lines m.limits.horizon.0 q ≡ plan_at m a j
  plan_by_last q last =
      after_is m.network network m.seed m.limits j plannable.part a.lines m.limits.horizon.0 q (plannable.last q last)
      ∙ sym (over_last m.network network m.seed m.limits j plannable.part m.limits.horizon.0 a.lines (plan_first (book_of m.network m.seed m.limits) m.limits.horizon.0 a.lines j (core_in m).order (leaf_of (core_in m) j)) (chain_of a.chains j) q last)

  pub plan_by_none : chain_of a.chains j ≡ [] → comes_first j (part_at m.network j) a.lines m.limits.horizon.0 (core_in m).order (leaf_of (core_in m) j) ≡ plan_at m a j
  plan_by_none none =
      first_is m.network network m.seed m.limits j plannable.part a.lines m.limits.horizon.0 (core_in m).order (leaf_of (core_in m) j)
      ∙ sym (ap (plan_over (book_of m.network m.seed m.limits) m.limits.horizon.0 a.lines j (plan_first (book_of m.network m.seed m.limits) m.limits.horizon.0 a.lines j (core_in m).order (leaf_of (core_in m) j))) none)

  pub row_by_last : (q : PieceValue) → last_of (chain_of a.chains j) ≡ Some q → RowStands q.part q.outcome.state.row
  row_by_last q last =
      subst (λ (x : Part). RowStands x q.outcome.state.row) (sym (plannable.last q last))
      (subst (λ (s : LeafState). RowStands (part_at m.network j) s.row) (end_last (leaf_of (core_in m) j) (chain_of a.chains j) q last) plannable.row)

  pub row_by_none : chain_of a.chains j ≡ [] → RowStands (part_at m.network j) (leaf_of (core_in m) j).row
  row_by_none none = subst (λ (xs : Chain PieceValue). RowStands (part_at m.network j) (end_from of_piece.end (leaf_of (core_in m) j) xs).row) none plannable.row

-- what comes after a piece, by its outcome
module _ (lines : List Line) (horizon : ℕ) (x : PieceValue) where
  abbrev after_by : Bool → Bool → Option book.Plan
  after_by trapped more = if trapped then None else if more then Some (record { kind = Settle; time = x.time }) else goes_after lines horizon x x.kind

  pub none_after : is_there x.outcome.fault ≡ true → None ≡ comes_after lines horizon x
  none_after trapped = sym (ap (λ (b : Bool). after_by b x.outcome.more) trapped)

  pub more_after : is_there x.outcome.fault ≡ false → x.outcome.more ≡ true → Some (record { kind = Settle; time = x.time }) ≡ comes_after lines horizon x
  more_after trapped more = sym (ap (λ (b : Bool). after_by b x.outcome.more) trapped ∙ ap (after_by false) more)

  pub kind_after : is_there x.outcome.fault ≡ false → x.outcome.more ≡ false → goes_after lines horizon x x.kind ≡ comes_after lines horizon x
  kind_after trapped more = sym (ap (λ (b : Bool). after_by b x.outcome.more) trapped ∙ ap (after_by false) more)

  pub renews_after : (k : named.Kind) → k ≡ x.kind → ((act : ActId) × (k ≡ kind.Fire act)) ⊎ (k ≡ kind.Settle) → Some (record { kind = Refresh; time = x.time }) ≡ goes_after lines horizon x x.kind
  renews_after k is (inl fire) = ap (goes_after lines horizon x) (sym fire.1 ∙ is)
  renews_after k is (inr settle) = ap (goes_after lines horizon x) (sym settle ∙ is)

-- and of which nothing is made ahead, by the order
module _ (j : ℕ) (p : Part) (lines : List Line) (horizon : ℕ) (o : Order) (s : LeafState) where
  abbrev first_by : Bool → Bool → Option book.Plan
  first_by unsettled stale = if unsettled then Some (record { kind = Settle; time = o.time }) else if stale then Some (record { kind = Refresh; time = o.time }) else waits p lines horizon o.time s

  pub settles_first : (is_leaf j o.going || flag o.unsettled j) ≡ true → Some (record { kind = Settle; time = o.time }) ≡ comes_first j p lines horizon o s
  settles_first unsettled = sym (ap (λ (b : Bool). first_by b (flag o.stale j)) unsettled)

  pub renews_first : (is_leaf j o.going || flag o.unsettled j) ≡ false → flag o.stale j ≡ true → Some (record { kind = Refresh; time = o.time }) ≡ comes_first j p lines horizon o s
  renews_first unsettled stale = sym (ap (λ (b : Bool). first_by b (flag o.stale j)) unsettled ∙ ap (first_by false) stale)

  pub waits_first : (is_leaf j o.going || flag o.unsettled j) ≡ false → flag o.stale j ≡ false → waits p lines horizon o.time s ≡ comes_first j p lines horizon o s
  waits_first unsettled stale = sym (ap (λ (b : Bool). first_by b (flag o.stale j)) unsettled ∙ ap (first_by false) stale)

-- an outcome in code
pub fault_seen : (first : ℕ) (o : Outcome) (v : outcomes.Outcome) → outcome_in first o ≡ v → is_there v.fault ≡ is_there o.fault
fault_seen first o v is = sym (ap (λ (x : outcomes.Outcome). is_there x.fault) is) ∙ mapped o.fault
  where
    mapped : (f : Option Fault) → is_there (option_map (fault_in first) f) ≡ is_there f
    mapped None = refl
    mapped (Some x) = refl

pub there_some : (o : Option Fault) → is_there o ≡ is_some o
there_some None = refl
there_some (Some x) = refl
