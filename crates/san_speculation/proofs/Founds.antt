-- The least key, where it is exact, is that of the leaf which is claimed next.
use Rattle.std.proofs.Common.{ℕ, ◌<◌, ◌≤◌, ◌≡◌, ◌≢◌, ◌⊎◌, ◌∙◌, inl, inr, ap, sym, refl, subst, true, nat_le, List, [], length, Option, Some, None, slice_set}
use Rattle.std.proofs.lemmas.Bool.{cases_eq}
use Rattle.std.proofs.lemmas.List.{get_or-set_other, get_or-set_same, length-set}
use Rattle.std.specs.Option.{option_map}
use Rattle.std.specs.Prelude.{IfSome}
use Rattle.san_ahead.specs.Ahead.{AheadValue}
use Rattle.san_book.specs.Cores as book
use Rattle.san_book.specs.Cores.{Pending}
use Rattle.san_book.specs.Laws.{IsLeastFree}
use Rattle.san_book.specs.Plans.{earliest, free_at}
use Rattle.san_book.proofs.Planning.{plans_least, plans_none}
use Rattle.san_core.specs.Machines.{MachineValue, core_in}
use Rattle.san_base.specs.declared.numbers.LeafId.{LeafId}
use Rattle.san_law.specs.Core as law
use Rattle.san_leaf.specs.Pieces.{PieceValue}
use Rattle.san_line.specs.Lines.{first_by}
use Rattle.san_winner.specs.Least.{least_from}
use Rattle.san_plan.specs.Soonest.{NoLater, key_of}
use Rattle.san_plan.specs.declared.plan.Plan.{Plan}
use Rattle.san_plan.proofs.Leasts.{Under, all_under, one_least, under_lower}
use Rattle.san_plan.proofs.Rising.{no_later_self}
use Rattle.san_speculation.specs.Speculating.{book_in}
use Rattle.san_speculation.specs.inner.Claiming.{IsPlanOf, PlannedBy, free_time}
use Rattle.san_speculation.specs.inner.Soonest.{AreLow, with_leaf}

module _ (m : MachineValue) (a : AheadValue) (claims : List (Option Pending)) (keys : List (Option ℕ)) (low : AreLow m a claims keys) (stop : m.held.core.stop ≡ None) where
  abbrev here : book.Core law.Core PieceValue
  here = record { held = core_in m; chains = a.chains; counters = a.counters; lines = a.lines; claims = claims; journal = []; rollbacks = 0; taken = m.taken }

  abbrev f : ℕ → Option ℕ
  f = free_time m a claims

  -- a free leaf's key is there, and is no later than its plan
  module _ (i t : ℕ) (within : i < length a.chains) (free : f i ≡ Some t) where
    by_key : (k : Option ℕ) → key_of keys i ≡ k → NoLater k (Some t) → (s : ℕ) × (key_of keys i ≡ Some s) × (s ≤ t)
    by_key None e h = absurd h
    by_key (Some s) e h = (s, e, h)

    key_there : (s : ℕ) × (key_of keys i ≡ Some s) × (s ≤ t)
    key_there = by_key (key_of keys i) refl (subst (NoLater (key_of keys i)) free (low.low stop i within))

  -- where there is no key, no leaf is free
  pub none_found : least_from 0 keys ≡ None → earliest f 0 a.chains ≡ None
  none_found none = by_earliest (earliest f 0 a.chains) refl
    where
      by_earliest : (o : Option (ℕ × ℕ)) → earliest f 0 a.chains ≡ o → o ≡ None
      by_earliest None e = refl
      by_earliest (Some x) e =
          let r : IsLeastFree (free_at (book_in m) m.limits here) (length a.chains) x = plans_least (book_in m) m.limits here x e in
          let k = key_there x.1 x.0 r.leaf r.free in
          absurd (subst (λ (o : Option (ℕ × ℕ)). Under o k.0 x.1) none (all_under keys x.1 k.0 k.1))

  -- and the least one's leaf is the earliest where it is free then
  pub found : (time at : ℕ) → least_from 0 keys ≡ Some (time, at) → at < length a.chains → f at ≡ Some time → earliest f 0 a.chains ≡ Some (time, at)
  found time at least within free = by_earliest (earliest f 0 a.chains) refl
    where
      none_some : None ≡ Some time → ⊥
      none_some e = cc

      by_earliest : (o : Option (ℕ × ℕ)) → earliest f 0 a.chains ≡ o → o ≡ Some (time, at)
      by_earliest None e = absurd (none_some (sym (plans_none (book_in m) m.limits here at e within) ∙ free))
      by_earliest (Some x) e =
          let r : IsLeastFree (free_at (book_in m) m.limits here) (length a.chains) x = plans_least (book_in m) m.limits here x e in
          let k = key_there x.1 x.0 r.leaf r.free in
          let under : first_by time k.0 (nat_le at x.1) ≡ true = subst (λ (o : Option (ℕ × ℕ)). Under o k.0 x.1) least (all_under keys x.1 k.0 k.1) in
          let one = one_least x.0 x.1 time at (r.least at time within free) (under_lower time at k.0 x.0 x.1 k.2 under) in
          ap (λ (n : ℕ). (let o : Option (ℕ × ℕ) = Some (n, x.1) in o)) one.0 ∙ ap (λ (n : ℕ). (let o : Option (ℕ × ℕ) = Some (time, n) in o)) one.1

  -- a key that is set right
  pub set_low : (at : ℕ) (key : Option ℕ) → key ≡ f at → at < length a.chains → AreLow m a claims (slice_set keys at key)
  set_low at key is within = record {
    long = length-set keys at key ∙ low.long;
    low = λ going i l. by_leaf i l (cases_eq i at);
  }
    where
      at_there : at < length keys
      at_there = let e = low.long in subst (λ (n : ℕ). at < n) (sym e) within

      by_leaf : (i : ℕ) → i < length a.chains → (i ≡ at) ⊎ (i ≢ at) → NoLater (key_of (slice_set keys at key) i) (f i)
      by_leaf i l (inl e) = subst (λ (n : ℕ). NoLater (key_of (slice_set keys at key) n) (f n)) (sym e) (subst (λ (o : Option ℕ). NoLater o (f at)) (sym (get_or-set_same keys at key None at_there ∙ is)) (no_later_self (f at)))
      by_leaf i l (inr d) = subst (λ (o : Option ℕ). NoLater o (f i)) (sym (get_or-set_other keys at i key None d)) (low.low stop i l)

-- what was found is the leaf's plan
abbrev time_in : Plan → ℕ
time_in p = p.time.0

pub planned_found : (m : MachineValue) (a : AheadValue) (claims : List (Option Pending)) (leaf : LeafId) (time : ℕ) (o : Option Plan) → option_map time_in o ≡ Some time → IfSome o (IsPlanOf m a leaf.0) → earliest (free_time m a claims) 0 a.chains ≡ Some (time, leaf.0) → PlannedBy m a claims (with_leaf leaf o)
planned_found m a claims leaf time None e own is = absurd (cc)
planned_found m a claims leaf time (Some p) e own is = record { least = ap (λ (x : Option ℕ). pair_by x) e ∙ sym is; own = own }
  where
    pair_by : Option ℕ → Option (ℕ × ℕ)
    pair_by None = None
    pair_by (Some t) = Some (t, leaf.0)
