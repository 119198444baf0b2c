-- The renewal of stale leaves in any order is that of all leaves in order.
use Rattle.san_base.proofs.NumberTests.{some_same}
use Rattle.std.proofs.Common.{ℕ, zero, suc, ◌+◌, ◌<◌, ◌≤◌, ◌≡◌, ◌≢◌, ◌∙◌, ◌⊎◌, inl, inr, ap, sym, refl, subst, arith, Bool, true, false, nat_lt, cond, List, [], ◌∷◌, length, Some, Result, Ok, Err, slice_set}
use Rattle.std.specs.Prelude.{slice_get}
use Rattle.std.proofs.lemmas.Bool.{cases_eq}
use Rattle.std.proofs.lemmas.List.{get_or-set_same, get_or-set_other}
use Rattle.san_base.specs.declared.ending.Trap.{Trap}
use Rattle.san_base.specs.declared.numbers.LeafId.{LeafId}
use Rattle.san_clock.specs.Rows.{renewing_by}
use Rattle.san_law.specs.Net.{Faulty, Fresh, Net, Row, no_row}
use Rattle.san_law.specs.Renewal.{AllFresh, FaultAt, and_rest, renewed_at, renewed_from, renewed_then}
use Rattle.san_law.specs.State.{State}
use Rattle.san_law.specs.Network.{Limits as Bounds}
use Rattle.san_net.specs.Network.{Network, net_of}
use Rattle.std.proofs.lemmas.Option.{slice_get_within}
use Rattle.san_seq.specs.inner.Flagged.{AreListed}
use Rattle.san_seq.specs.inner.Known.{AreFresh}
use Rattle.san_seq.proofs.FlaggedLemmas.{up_or_down}
use Rattle.san_seq.proofs.NextLemmas.{cut}
use Rattle.san_seq.proofs.RowLemmas.{part_renewed}
use Rattle.san_seq.specs.inner.Renewals.{AreRenewed, FirstTrap, IsBy, IsFirstTrap, IsRenewed, sooner_fault}
use Rattle.san_seq.specs.inner.Rows.{renewal_by, row_at}

abbrev Renewed : Type 0
Renewed = Result (Unit {0}) (ℕ × Trap)

-- what the fault of the first is: the known one or the new one
sooner_is : (P : FirstTrap → Type 0) (known : FirstTrap) (leaf : LeafId) (done : Renewed) → P known → ((fault : ℕ × Trap) → done ≡ Err fault → P (Err (leaf, fault.0, fault.1))) → P (sooner_fault known leaf done)
sooner_is P known leaf (Ok done) a b = a
sooner_is P (Ok none) leaf (Err fault) a b = b fault refl
sooner_is P (Err first) leaf (Err fault) a b = by_test (nat_lt leaf.0 first.0.0)
  where
    by_test : (t : Bool) → P (cond t (Err (leaf, fault.0, fault.1)) (Err first))
    by_test true = b fault refl
    by_test false = a

by_test_by : (t : Bool) (leaf : LeafId) (k : ℕ) (trap : Trap) (first : LeafId × ℕ × Trap) (j : ℕ) → (t ≡ true → leaf.0 ≤ j) → (t ≡ false → first.0.0 ≤ j) → IsBy (cond t (Err (leaf, k, trap)) (Err first)) j
by_test_by true leaf k trap first j a b = a refl
by_test_by false leaf k trap first j a b = b refl

-- it stays before what a fault was before
sooner_by : (known : FirstTrap) (leaf : LeafId) (done : Renewed) (j : ℕ) → IsBy known j → IsBy (sooner_fault known leaf done) j
sooner_by known leaf (Ok done) j h = h
sooner_by (Ok none) leaf (Err fault) j h = absurd h
sooner_by (Err first) leaf (Err fault) j h =
    by_test_by (nat_lt leaf.0 first.0.0) leaf fault.0 fault.1 first j
    (λ e. let low : leaf.0 < first.0.0 = Rattle.std.proofs.Common.ltb-true leaf.0 first.0.0 e in omega (arith, low, h)) (λ e. h)

sooner_here : (known : FirstTrap) (leaf : LeafId) (fault : ℕ × Trap) → IsBy (sooner_fault known leaf (Err fault)) leaf.0
sooner_here (Ok none) leaf fault = omega arith
sooner_here (Err first) leaf fault =
    by_test_by (nat_lt leaf.0 first.0.0) leaf fault.0 fault.1 first leaf.0
    (λ e. omega arith) (λ e. Rattle.std.proofs.Common.ltb-false leaf.0 first.0.0 e)

module _ (net : Net) (s : State) (old rows : List Row) (leaves : List ℕ) (k : ℕ) (fault : FirstTrap) where
  module _ (leaf : LeafId) (new : Row) (done : Renewed) (h : leaf.0 < length rows) (sized : length rows ≡ length old) (here : slice_get leaves k ≡ Some leaf.0)
      (once : (i : ℕ) → slice_get leaves i ≡ Some leaf.0 → i ≡ k) (left : row_at rows leaf.0 ≡ row_at old leaf.0) (did : renewing_by done new ≡ renewed_at net s leaf.0 (row_at rows leaf.0)) where
    was : renewing_by done new ≡ renewed_at net s leaf.0 (row_at old leaf.0)
    was = did ∙ ap (renewed_at net s leaf.0) left

    this : (d : Renewed) → done ≡ d → IsRenewed net s old (slice_set rows leaf.0 new) (sooner_fault fault leaf d) leaf.0
    this (Ok u) e = inl (sym was ∙ ap (λ (r : Renewed). renewing_by r new) e ∙ ap Fresh (sym (get_or-set_same rows leaf.0 new no_row h)))
    this (Err f) e = inr (sooner_here fault leaf f)

    pub renewed_more : AreRenewed net s old rows leaves k fault → AreRenewed net s old (slice_set rows leaf.0 new) leaves (k + 1) (sooner_fault fault leaf done)
    renewed_more so = record { each = each; first = first }
      where
        first : IsFirstTrap net s old (sooner_fault fault leaf done)
        first = sooner_is (IsFirstTrap net s old) fault leaf done so.first (λ f e. (omega (arith, h, sized), sym was ∙ ap (λ (r : Renewed). renewing_by r new) e))

        kept : (j : ℕ) → j ≢ leaf.0 → IsRenewed net s old rows fault j → IsRenewed net s old (slice_set rows leaf.0 new) (sooner_fault fault leaf done) j
        kept j other (inl e) = inl (e ∙ ap Fresh (sym (get_or-set_other rows leaf.0 j new no_row other)))
        kept j other (inr b) = inr (sooner_by fault leaf done j b)

        each : (i j : ℕ) → i < k + 1 → slice_get leaves i ≡ Some j → IsRenewed net s old (slice_set rows leaf.0 new) (sooner_fault fault leaf done) j
        each i j u is = by_case (cases_eq i k)
          where
            by_case : (i ≡ k) ⊎ (i ≢ k) → IsRenewed net s old (slice_set rows leaf.0 new) (sooner_fault fault leaf done) j
            by_case (inl same) =
                subst (λ (x : ℕ). IsRenewed net s old (slice_set rows leaf.0 new) (sooner_fault fault leaf done) x) (some_same leaf.0 j (sym here ∙ ap (slice_get leaves) (sym same) ∙ is)) (this done refl)
            by_case (inr other) = kept j (λ e. other (once i (is ∙ ap (λ (x : ℕ). (let o : Rattle.std.proofs.Common.Option ℕ = Some x in o)) e))) (so.each i j (omega (arith, u, other)) is)

-- a leaf of the list isn't among those before it
pub not_before : (leaves : List ℕ) (flags : List Bool) → AreListed leaves flags → (k j : ℕ) → slice_get leaves k ≡ Some j → (i : ℕ) → i < k → slice_get leaves i ≡ Some j → ⊥
not_before leaves flags is k j here i u there = omega (arith, u, is.once i k j there here)

-- a leaf whose flag is down isn't in it
not_listed : (leaves : List ℕ) (flags : List Bool) → AreListed leaves flags → (j : ℕ) → slice_get flags j ≡ Some false → (i : ℕ) → slice_get leaves i ≡ Some j → ⊥
not_listed leaves flags is j down i there = both (slice_get flags j) (is.up i j there) down
  where
    both : (o : Rattle.std.proofs.Common.Option Bool) → o ≡ Some true → o ≡ Some false → ⊥
    both o a b = cc

-- rows of leaves that aren't among the first so many are as they were
abbrev pub AreLeft : List Row → List Row → List ℕ → ℕ → Type 0
AreLeft old rows leaves k = (j : ℕ) → ((i : ℕ) → i < k → slice_get leaves i ≡ Some j → ⊥) → row_at rows j ≡ row_at old j

pub left_more : (old rows : List Row) (leaves : List ℕ) (k at : ℕ) (new : Row) → slice_get leaves k ≡ Some at → AreLeft old rows leaves k → AreLeft old (slice_set rows at new) leaves (k + 1)
left_more old rows leaves k at new here left j none =
    get_or-set_other rows at j new no_row (λ e. none k (omega arith) (here ∙ ap (λ (x : ℕ). (let o : Rattle.std.proofs.Common.Option ℕ = Some x in o)) (sym e)))
    ∙ left j (λ i u is. none i (omega (arith, u)) is)

-- once all stale leaves are renewed
module _ (n : Network) (draw : ℕ → ℕ → ℕ) (limits : Bounds) (s : State) (stale : List Bool) (leaves : List ℕ) (time : ℕ) (stable m : List ℕ) (old rows : List Row) (k : ℕ) (fault : FirstTrap)
    (clock : s.time ≡ time) (seen : s.stable ≡ stable) (now : s.marking ≡ m) (fresh : AreFresh draw n.parts stale time stable m old) (listed : AreListed leaves stale)
    (flags : length stale ≡ length n.parts) (long : length leaves ≤ k) (sized : length old ≡ length n.parts) (left : AreLeft old rows leaves k) where
  pub each_renewed : AreRenewed (net_of n draw limits) s old rows leaves k fault → (j : ℕ) → j < length old → IsRenewed (net_of n draw limits) s old rows fault j
  each_renewed so j h = by_flag (up_or_down stale j (omega (arith, h, sized, flags)))
    where
      by_flag : (slice_get stale j ≡ Some true) ⊎ (slice_get stale j ≡ Some false) → IsRenewed (net_of n draw limits) s old rows fault j
      by_flag (inl up) = let at = listed.each j up in so.each at.0 j (omega (arith, long, slice_get_within leaves at.0 j at.1)) at.1
      by_flag (inr down) =
          let part = cut n.parts j (omega (arith, h, sized)) in
          let same = left j (λ i u there. not_listed leaves stale listed j down i there) in
          inl (sym (part_renewed n draw limits s j part.0 time stable m (row_at old j) part.1 clock seen now) ∙ fresh j part.0 down part.1 ∙ ap Fresh (sym same))

-- all rows are fresh
all_fresh : (net : Net) (s : State) (i : ℕ) (old rows : List Row) → length rows ≡ length old → ((j : ℕ) → j < length old → renewed_at net s (i + j) (row_at old j) ≡ Fresh (row_at rows j)) → renewed_from net s i old ≡ AllFresh rows
all_fresh net s i [] [] sized each = refl
all_fresh net s i [] (r ∷ rs) sized each = absurd (omega (arith, sized))
all_fresh net s i (o ∷ os) [] sized each = absurd (omega (arith, sized))
all_fresh net s i (o ∷ os) (r ∷ rs) sized each =
    let at : i + 0 ≡ i = omega arith in
    ap (λ x. renewed_then i x (renewed_from net s (suc i) os)) (ap (λ (k : ℕ). renewed_at net s k o) (sym at) ∙ each 0 (omega arith))
    ∙ ap (and_rest r) (all_fresh net s (suc i) os rs (omega (arith, sized)) (λ j h. let on : suc i + j ≡ i + suc j = omega arith in ap (λ (k : ℕ). renewed_at net s k (row_at os j)) on ∙ each (suc j) (omega (arith, h))))

-- one is faulty, and those before it are fresh
one_faulty : (net : Net) (s : State) (i j k : ℕ) (trap : Trap) (old rows : List Row) → j < length old → ((x : ℕ) → x < j → renewed_at net s (i + x) (row_at old x) ≡ Fresh (row_at rows x))
    → renewed_at net s (i + j) (row_at old j) ≡ Faulty k trap → renewed_from net s i old ≡ FaultAt (i + j) k trap
one_faulty net s i j k trap [] rows h each here = absurd (omega (arith, h))
one_faulty net s i zero k trap (o ∷ os) rows h each here =
    let at : i + 0 ≡ i = omega arith in
    ap (λ x. renewed_then i x (renewed_from net s (suc i) os)) (ap (λ (n : ℕ). renewed_at net s n o) (sym at) ∙ here) ∙ ap (λ (n : ℕ). FaultAt n k trap) (sym at)
one_faulty net s i (suc j) k trap (o ∷ os) rows h each here =
    let at : i + 0 ≡ i = omega arith in
    let on : suc i + j ≡ i + suc j = omega arith in
    ap (λ x. renewed_then i x (renewed_from net s (suc i) os)) (ap (λ (n : ℕ). renewed_at net s n o) (sym at) ∙ each 0 (omega arith))
    ∙ ap (and_rest (row_at rows 0))
    (one_faulty net s (suc i) j k trap os (Rattle.std.proofs.Common.drop 1 rows) (omega (arith, h))
    (λ x u. let next : suc i + x ≡ i + suc x = omega arith in ap (λ (n : ℕ). renewed_at net s n (row_at os x)) next ∙ each (suc x) (omega (arith, u)) ∙ ap Fresh (sym (dropped rows x)))
    (ap (λ (n : ℕ). renewed_at net s n (row_at os j)) on ∙ here))
    ∙ ap (λ (n : ℕ). FaultAt n k trap) on
  where
    dropped : (rs : List Row) (x : ℕ) → row_at (Rattle.std.proofs.Common.drop 1 rs) x ≡ row_at rs (suc x)
    dropped [] x = refl
    dropped (r ∷ rs) x = refl

-- where each leaf is renewed, or comes after a fault
pub renewed_whole : (net : Net) (s : State) (old rows : List Row) (fault : FirstTrap) → length rows ≡ length old → ((j : ℕ) → j < length old → IsRenewed net s old rows fault j) → IsFirstTrap net s old fault → renewal_by fault rows ≡ renewed_from net s 0 old
renewed_whole net s old rows (Ok done) sized each first = sym (all_fresh net s 0 old rows sized (λ j h. let at : 0 + j ≡ j = omega arith in ap (λ (k : ℕ). renewed_at net s k (row_at old j)) at ∙ fresh j (each j h)))
  where
    fresh : (j : ℕ) → IsRenewed net s old rows (Ok done) j → renewed_at net s j (row_at old j) ≡ Fresh (row_at rows j)
    fresh j (inl e) = e
    fresh j (inr b) = absurd b
renewed_whole net s old rows (Err f) sized each first =
    let at : 0 + f.0.0 ≡ f.0.0 = omega arith in
    sym (one_faulty net s 0 f.0.0 f.1 f.2 old rows first.0 (λ x u. let here : 0 + x ≡ x = omega arith in ap (λ (k : ℕ). renewed_at net s k (row_at old x)) here ∙ fresh x u (each x (omega (arith, u, first.0))))
    (ap (λ (k : ℕ). renewed_at net s k (row_at old f.0.0)) at ∙ first.1) ∙ ap (λ (n : ℕ). FaultAt n f.1 f.2) at)
  where
    fresh : (x : ℕ) → x < f.0.0 → IsRenewed net s old rows (Err f) x → renewed_at net s x (row_at old x) ≡ Fresh (row_at rows x)
    fresh x u (inl e) = e
    fresh x u (inr b) = absurd (omega (arith, u, b))
