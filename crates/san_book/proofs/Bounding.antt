-- Rollbacks stay within the limit, the windows and the workers.
use Rattle.std.proofs.Common.{ℕ, suc, ◌+◌, ◌*◌, ◌<◌, ◌≤◌, ◌≡◌, ◌≢◌, ◌⊎◌, ◌∙◌, inl, inr, ap, sym, refl, subst, List, [], ◌∷◌, ◌++◌, length, take, Option, Some, None, Bool, true, false, arith, slice_index, slice_set}
use Rattle.std.proofs.lemmas.List.{length-set, length-take, length_push}
use Rattle.san_base.specs.declared.limits.Limits.{Limits}
use Rattle.san_log.specs.Logs.{noted}
use Rattle.san_law.specs.Piece.{Kind}
use Rattle.san_book.specs.Machines.{Machine}
use Rattle.san_book.specs.Chains.{Chain, chain_of}
use Rattle.san_book.specs.Cores.{Commit, Core, Pending, Step, claim_of, is_claimed}
use Rattle.san_book.specs.Steps.{all_committed, cut_at, fallen, falls, happens, pushed, taken_anew, taken_head, with_claim}
use Rattle.san_book.specs.Journals.{booked}
use Rattle.san_book.specs.Whole.{IsWhole}
use Rattle.san_book.specs.Bounds.{IsBounded, claims_in, pieces_in}
use Rattle.san_book.specs.Laws.{StepsBound}
use Rattle.san_book.proofs.Afters.{after_booked, after_map}
use Rattle.san_book.proofs.Claims.{claims_less, claims_more, not_claimed, sum_less, sum_other}
use Rattle.san_book.proofs.Parts.{chains_by, within}
use Rattle.san_book.proofs.Sums.{claims_short, pieces_set, pieces_short}
use Rattle.san_book.proofs.Taking.{falls_some}
use Rattle.san_book.proofs.Walking.{Handles, after_commits, handled}

pub bounded_booked : {H P : Type 0} (limits : Limits) (s : Step) (d : Core H P) → IsBounded limits d → IsBounded limits (booked s d)
bounded_booked limits s d h = record { single = h.single; room = h.room; short = h.short; rollbacks = h.rollbacks }

-- a chain is replaced by one that is no longer, and the rollbacks rise by no more than it loses
less_bounded : {H P : Type 0} (limits : Limits) (c d : Core H P) (j : ℕ) (new : Chain P) → IsBounded limits c → d.chains ≡ slice_set c.chains j new → d.claims ≡ c.claims → j < length c.chains →
    d.rollbacks + length new ≤ c.rollbacks + length (chain_of c.chains j) → length new ≤ length (chain_of c.chains j) → IsBounded limits d
less_bounded {H} {P} limits c d j new h chains claims k l s = record {
  single = λ v w p r a b. h.single v w p r (old v p a) (old w r b);
  room = λ w p e. subst (λ (xs : List (Chain P)). length (chain_of xs p.leaf) < limits.window) (sym chains)
      (chains_by (λ i x. i ≡ p.leaf → length x < limits.window) c.chains j new k
      (λ i. let t = h.room w p (old w p e) in let u : length (chain_of c.chains j) < limits.window = subst (λ (n : ℕ). length (chain_of c.chains n) < limits.window) (sym i) t in omega (arith, u, s))
      (λ i n e2. let t = h.room w p (old w p e) in subst (λ (n : ℕ). length (chain_of c.chains n) < limits.window) (sym e2) t) p.leaf refl);
  short = λ i. subst (λ (xs : List (Chain P)). length (chain_of xs i) ≤ limits.window) (sym chains)
      (chains_by (λ i x. length x ≤ limits.window) c.chains j new k (let t = h.short j in omega (arith, t, s)) (λ i n. h.short i) i);
  rollbacks = subst (λ (xs : List (Chain P)). d.rollbacks + (pieces_in xs + claims_in d.claims) ≤ limits.rollbacks + (length xs * limits.window + length d.claims)) (sym chains)
      (subst (λ (os : List (Option Pending)). d.rollbacks + (pieces_in (slice_set c.chains j new) + claims_in os) ≤ limits.rollbacks + (length (slice_set c.chains j new) * limits.window + length os)) (sym claims)
      (subst (λ (n : ℕ). d.rollbacks + (pieces_in (slice_set c.chains j new) + claims_in c.claims) ≤ limits.rollbacks + (n * limits.window + length c.claims)) (sym (length-set c.chains j new))
      (let p = pieces_set c.chains j new k in let t : c.rollbacks + (pieces_in c.chains + claims_in c.claims) ≤ limits.rollbacks + (length c.chains * limits.window + length c.claims) = h.rollbacks in omega (arith, p, t, l))));
}
  where
    old : (v : ℕ) (p : Pending) → claim_of d.claims v ≡ Some p → claim_of c.claims v ≡ Some p
    old v p e = subst (λ (os : List (Option Pending)). claim_of os v ≡ Some p) claims e

module _ {H S P : Type 0} (m : Machine H S P) (limits : Limits) (c : Core H P) (whole : IsWhole m c) (h : IsBounded limits c) where
  bound : c.rollbacks + (pieces_in c.chains + claims_in c.claims) ≤ limits.rollbacks + (length c.chains * limits.window + length c.claims)
  bound = h.rollbacks

  late_bounded : (w : ℕ) (p : Pending) → claim_of c.claims w ≡ Some p → IsBounded limits (with_claim c w None)
  late_bounded w p e = record {
    single = λ u v a b i k. h.single u v a b (claims_less c.claims w u a i).0 (claims_less c.claims w v b k).0;
    room = λ v r f. h.room v r (claims_less c.claims w v r f).0;
    short = h.short;
    rollbacks = let z : Option Pending = None in let n = length-set c.claims w z in let b : claims_in (slice_set c.claims w None) + 1 ≡ claims_in c.claims = sum_less (λ p. 1) c.claims w p e in let t = bound in omega (arith, t, b, n);
  }

  alone : (w : ℕ) (n : Pending) → ((v : ℕ) (p : Pending) → v ≢ w → claim_of c.claims v ≡ Some p → n.leaf ≡ p.leaf → ⊥) → (u v : ℕ) (p r : Pending) → claim_of (slice_set c.claims w (Some n)) u ≡ Some p → claim_of (slice_set c.claims w (Some n)) v ≡ Some r → p.leaf ≡ r.leaf → u ≡ v
  alone w n f u v p r a b s = by_both (claims_more c.claims w u n p a) (claims_more c.claims w v n r b)
    where
      by_both : ((u ≡ w) × (n ≡ p)) ⊎ ((claim_of c.claims u ≡ Some p) × (u ≢ w)) → ((v ≡ w) × (n ≡ r)) ⊎ ((claim_of c.claims v ≡ Some r) × (v ≢ w)) → u ≡ v
      by_both (inl x) (inl y) = x.0 ∙ sym y.0
      by_both (inl x) (inr y) = absurd (f v r y.1 y.0 (ap (λ (z : Pending). z.leaf) x.1 ∙ s))
      by_both (inr x) (inl y) = absurd (f u p x.1 x.0 (ap (λ (z : Pending). z.leaf) y.1 ∙ sym s))
      by_both (inr x) (inr y) = h.single u v p r x.0 y.0 s

  room_with : (w : ℕ) (n : Pending) → length (chain_of c.chains n.leaf) < limits.window → (v : ℕ) (p : Pending) → claim_of (slice_set c.claims w (Some n)) v ≡ Some p → length (chain_of c.chains p.leaf) < limits.window
  room_with w n l v p e = elim (claims_more c.claims w v n p e) [
    | inl r ↦ subst (λ (x : Pending). length (chain_of c.chains x.leaf) < limits.window) r.1 l
    | inr r ↦ h.room v p r.0
  ]

  claim_bounded : (w : ℕ) (n : Pending) → c.rollbacks < limits.rollbacks → is_claimed n.leaf c.claims ≡ false → length (chain_of c.chains n.leaf) < limits.window → IsBounded limits (with_claim c w (Some n))
  claim_bounded w n l free short = record {
    single = alone w n (λ v p d e s. not_claimed c.claims v p (subst (λ (x : ℕ). is_claimed x c.claims ≡ false) s free) e);
    room = room_with w n short;
    short = h.short;
    rollbacks = let a = pieces_short c.chains limits.window h.short in let b = claims_short (slice_set c.claims w (Some n)) in omega (arith, a, b, l);
  }

  read_bounded : (w : ℕ) (p n : Pending) → claim_of c.claims w ≡ Some p → n.leaf ≡ p.leaf → IsBounded limits (with_claim c w (Some n))
  read_bounded w p n e s = record {
    single = alone w n (λ v r d f k. d (h.single v w r p f e (sym (sym s ∙ k))));
    room = room_with w n (subst (λ (x : ℕ). length (chain_of c.chains x) < limits.window) (sym s) (h.room w p e));
    short = h.short;
    rollbacks = let z : Option Pending = Some n in let k = length-set c.claims w z in let b : claims_in (slice_set c.claims w (Some n)) + 1 ≡ claims_in c.claims + 1 = sum_other (λ p. 1) c.claims w p n e in let t = bound in omega (arith, t, b, k);
  }

  push_bounded : (w : ℕ) (p : Pending) (x : P) → claim_of c.claims w ≡ Some p → IsBounded limits (pushed m c w p.leaf x)
  push_bounded w p x e = record {
    single = λ u v a b i k. h.single u v a b (claims_less c.claims w u a i).0 (claims_less c.claims w v b k).0;
    room = λ v r f. let a = claims_less c.claims w v r f in chains_by (λ i y. i ≡ r.leaf → length y < limits.window) c.chains j new k
        (λ i. absurd (a.1 (h.single v w r p a.0 e (sym i))))
        (λ i d i2. subst (λ (n : ℕ). length (chain_of c.chains n) < limits.window) (sym i2) (h.room v r a.0)) r.leaf refl;
    short = chains_by (λ i y. length y ≤ limits.window) c.chains j new k (let t = h.room w p e in let q = length_push (chain_of c.chains j) (slice_index c.counters j, x) in omega (arith, t, q)) (λ i d. h.short i);
    rollbacks = subst (λ (n : ℕ). c.rollbacks + (pieces_in (slice_set c.chains j new) + claims_in (slice_set c.claims w None)) ≤ limits.rollbacks + (n * limits.window + length (slice_set c.claims w None))) (sym (length-set c.chains j new))
        (let a = pieces_set c.chains j new k in let q = length_push (chain_of c.chains j) (slice_index c.counters j, x) in let t = bound in
        let b : claims_in (slice_set c.claims w None) + 1 ≡ claims_in c.claims = sum_less (λ p. 1) c.claims w p e in let z : Option Pending = None in let n = length-set c.claims w z in omega (arith, a, q, t, b, n));
  }
    where
      j : ℕ
      j = p.leaf

      new : Chain P
      new = chain_of c.chains p.leaf ++ (slice_index c.counters p.leaf, x) ∷ []

      k : p.leaf < length c.chains
      k = whole.claims w p e

  cut_bounded : (d : Core H P) (j k : ℕ) → k < length (chain_of c.chains j) → d.chains ≡ slice_set c.chains j (take k (chain_of c.chains j)) → d.claims ≡ c.claims → d.rollbacks ≡ suc c.rollbacks → IsBounded limits d
  cut_bounded d j k l chains claims r = let t = length-take k (chain_of c.chains j) in less_bounded limits c d j (take k (chain_of c.chains j)) h chains claims (within c.chains j k l) (omega (arith, l, t, r)) (omega (arith, l, t))

  bounds : Handles m limits c (λ s d. IsBounded limits (booked s d))
  bounds = record {
    claim = λ w j may free. bounded_booked limits _ _ (claim_bounded w (record { leaf = j; log = [] }) may.rollbacks free.alone free.room);
    read = λ w place v p e. bounded_booked limits _ _ (read_bounded w p (record { leaf = p.leaf; log = noted place v p.log }) e refl);
    publish = λ w kind time p k x e made. bounded_booked limits _ _ (push_bounded w p x e);
    late = λ w p e. bounded_booked limits _ _ (late_bounded w p e);
    cut = λ w j k l. bounded_booked limits _ _ (cut_bounded (cut_at m c j k) j k l refl refl refl);
    commit = λ w n l. after_map (λ (d : Core H P). IsBounded limits d) (λ d. IsBounded limits (booked (Commit w n) d)) (all_committed m limits n c) (λ d. bounded_booked limits (Commit w n) d)
        (after_commits m limits (λ n d. IsBounded limits d) (λ n d j kind time x rest b i.
        let t : length (chain_of d.chains j) ≡ suc (length rest) = ap (λ (y : Chain P). length y) i.chain in
        less_bounded limits d (taken_head m d j x rest) j rest b refl refl (within d.chains j 0 (omega (arith, t))) (omega (arith, t)) (omega (arith, t))) n c h);
    redo = λ w j kind time g need. bounded_booked limits _ _ (by_fall j kind time (m.needed c.held j kind time) (falls m kind time (m.state (m.takes c.held j (m.needed c.held j kind time)) j) (chain_of c.chains j)) refl);
  }
    where
      by_fall : (j : ℕ) (kind : Kind) (time : ℕ) (p : P) (t : Bool) → falls m kind time (m.state (m.takes c.held j p) j) (chain_of c.chains j) ≡ t → IsBounded limits (fallen t m (taken_anew m c j p) j)
      by_fall j kind time p true e = cut_bounded (cut_at m (taken_anew m c j p) j 0) j 0 (falls_some m kind time (m.state (m.takes c.held j p) j) (chain_of c.chains j) e) refl refl refl
      by_fall j kind time p false e = record { single = h.single; room = h.room; short = h.short; rollbacks = h.rollbacks }

pub steps_bound : {H S P : Type 0} (m : Machine H S P) → StepsBound m
steps_bound m limits c s whole h = after_booked (IsBounded limits) s (happens m limits s c) (handled m limits c (λ s d. IsBounded limits (booked s d)) (bounds m limits c whole h) s)
