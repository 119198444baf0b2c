-- A network's net is as the code's lists ask.
use Rattle.std.proofs.Common.{ℕ, zero, suc, ◌<◌, ◌≤◌, ◌≡◌, ◌∙◌, ap, sym, refl, subst, All, List, [], ◌∷◌, ◌++◌, length, map, Option, Bool, true, false, arith, nat_eq, cond}
use Rattle.std.specs.Prelude.{Result, Ok, Err, filter, slice_index, slice_index_or}
use Rattle.std.proofs.lemmas.List.{length-map}
use Rattle.san_base.specs.declared.ending.Trap.{Trap}
use Rattle.san_law.specs.Activity as leaf
use Rattle.san_law.specs.Clocks.{AllClocks, BadClock, Clock, Clocks, clock_then, renewed_act, renewed_acts, renewed_row, row_of_clocks}
use Rattle.san_law.specs.Net.{Done, Faulty, Fresh, Impulse, Local, Renewing, Row, Timer, no_row}
use Rattle.san_law.specs.Network.{Limits, no_part}
use Rattle.san_net.specs.Accepted.{rewards_of}
use Rattle.san_net.specs.Instants.{Named}
use Rattle.san_net.specs.Laid.{EachPart, IsNetwork}
use Rattle.san_net.specs.Leaf.{activities_from, impulse_in, leaf_of, rate_in, slot_in}
use Rattle.san_net.specs.Network.{Network, net_of}
use Rattle.san_net.specs.declared.atomic.ImpulseTerm.{ImpulseTerm}
use Rattle.san_net.specs.declared.part.Part.{Part}
use Rattle.san_core.specs.inner.Suits.{FitsLists}
use Rattle.san_core.proofs.Suiting.{all_of, of_none}
use Rattle.san_reward.proofs.Making.{with_first}

-- what holds of each item of a list holds of those at its end
all_right : {X : Type 0} (P : X → Type 0) (xs ys : List X) → All P (xs ++ ys) → All P ys
all_right P [] ys h = h
all_right P (x ∷ xs) ys h = all_right P xs ys (λ k d l. h (suc k) d (omega (arith, l)))

module _ (rewards : ℕ) where
  abbrev IsKnown : leaf.Activity → Type 0
  IsKnown a = (v : List ℕ) → All (λ (x : Impulse). x.reward < rewards) (a.impulses v)

  one_known : (k : ℕ) (v : List ℕ) (t : ImpulseTerm) (b : Bool) (ts : List ImpulseTerm) → t.reward < rewards → All (λ (x : Impulse). x.reward < rewards) (map (impulse_in v) ts) → All (λ (x : Impulse). x.reward < rewards) (map (impulse_in v) (cond b (t ∷ ts) ts))
  one_known k v t true ts here rest = with_first (λ (x : Impulse). x.reward < rewards) (impulse_in v t) (map (impulse_in v) ts) here rest
  one_known k v t false ts here rest = rest

  impulses_known : (k : ℕ) (v : List ℕ) (terms : List ImpulseTerm) → All (λ t. t.reward < rewards) terms → All (λ (x : Impulse). x.reward < rewards) (map (impulse_in v) (filter (λ t. nat_eq t.act k) terms))
  impulses_known k v [] h = of_none (λ (x : Impulse). x.reward < rewards)
  impulses_known k v (t ∷ terms) h = one_known k v t (nat_eq t.act k) (filter (λ t. nat_eq t.act k) terms) (h 0 t (omega arith)) (impulses_known k v terms (λ i d l. h (suc i) d (omega (arith, l))))

  activities_known : (terms : List ImpulseTerm) → All (λ t. t.reward < rewards) terms → (n : ℕ) (acts : List Named) (k : ℕ) → IsKnown (slice_index_or (activities_from terms n acts) k leaf.no_activity)
  activities_known terms h n [] k v = of_none (λ (x : Impulse). x.reward < rewards)
  activities_known terms h n (a ∷ acts) zero v = impulses_known n v terms h
  activities_known terms h n (a ∷ acts) (suc k) v = activities_known terms h (suc n) acts k v

  leaves_known : (parts : List Part) → EachPart parts (λ _ p. All (λ r. r < rewards) (rewards_of p.atomic)) → (j k : ℕ) → IsKnown (leaf.activity_of (slice_index_or (map leaf_of parts) j no_part) k)
  leaves_known [] h j k = λ v. of_none (λ (x : Impulse). x.reward < rewards)
  leaves_known (p ∷ parts) h zero k = activities_known p.atomic.impulses (all_of (λ r. r < rewards) (λ (t : ImpulseTerm). t.reward) p.atomic.impulses (all_right (λ r. r < rewards) (map (λ t. t.reward) p.atomic.rates) (map (λ t. t.reward) p.atomic.impulses) (h 0 p refl))) 0 p.atomic.acts k
  leaves_known (p ∷ parts) h (suc j) k = leaves_known parts (λ i q is. h (suc i) q is) j k

  abbrev left_impulses : Result Done Trap → List Impulse
  left_impulses (Ok d) = d.impulses
  left_impulses (Err t) = []

  done_known : (r : Row) (k : ℕ) (a : leaf.Activity) (x : Result leaf.Effected Trap) (d : Done) → IsKnown a → leaf.done_by r k a x ≡ Ok d → All (λ (y : Impulse). y.reward < rewards) d.impulses
  done_known r k a (Err t) d known is = absurd cc
  done_known r k a (Ok e) d known is = let same : a.impulses e.values ≡ d.impulses = ap left_impulses is in subst (λ (xs : List Impulse). All (λ (y : Impulse). y.reward < rewards) xs) same (known e.values)

places_few : (parts : List Part) → EachPart parts (λ _ p. length p.slots ≤ 256) → (j : ℕ) → length (slice_index_or (map (λ (p : leaf.Part). p.slots) (map leaf_of parts)) j []) ≤ 256
places_few [] h j = omega arith
places_few (p ∷ parts) h zero = omega (arith, h 0 p refl, length-map p.slots slot_in)
places_few (p ∷ parts) h (suc j) = places_few parts (λ i q is. h (suc i) q is) j

rates_each : (parts : List Part) (j : ℕ) (v : List ℕ) → length ((slice_index_or (map leaf_of parts) j no_part).rates v) ≡ length (slice_index_or (map leaf_of parts) j no_part).terms
rates_each [] j v = refl
rates_each (p ∷ parts) zero v = length-map p.atomic.rates (rate_in v) ∙ sym (length-map p.atomic.rates (λ t. t.reward))
rates_each (p ∷ parts) (suc j) v = rates_each parts j v

-- as many timers after a renewal
abbrev ClocksLong : ℕ → Clocks → Type 0
ClocksLong n (BadClock k trap) = Unit {0}
ClocksLong n (AllClocks ts ns) = length ts ≡ n

then_long : (n k : ℕ) (r : Result Clock Trap) (rest : Clocks) → ClocksLong n rest → ClocksLong (suc n) (clock_then k r rest)
then_long n k (Err trap) rest h = tt
then_long n k (Ok x) (BadClock i trap) h = tt
then_long n k (Ok x) (AllClocks ts ns) h = ap suc h

acts_long : (draws : ℕ → ℕ → ℕ) (time : ℕ) (seen v : List ℕ) (k : ℕ) (acts : List leaf.Activity) (ts : List (Option Timer)) (ns : List ℕ) → ClocksLong (length ts) (renewed_acts draws time seen v k acts ts ns)
acts_long draws time seen v k [] ts ns = refl
acts_long draws time seen v k (a ∷ acts) [] ns = refl
acts_long draws time seen v k (a ∷ acts) (t ∷ ts) [] = refl
acts_long draws time seen v k (a ∷ acts) (t ∷ ts) (n ∷ ns) = then_long (length ts) k (renewed_act (draws k) time seen v a a.kind t n) (renewed_acts draws time seen v (suc k) acts ts ns) (acts_long draws time seen v (suc k) acts ts ns)

abbrev row_left : Renewing → Row
row_left (Fresh r) = r
row_left (Faulty k trap) = no_row

fresh_long : (n : ℕ) (cases : List ℕ) (x : Clocks) (r : Row) → row_of_clocks cases x ≡ Fresh r → ClocksLong n x → length r.timers ≡ n
fresh_long n cases (BadClock k trap) r is h = absurd cc
fresh_long n cases (AllClocks ts ns) r is h = ap (λ (x : Row). length x.timers) (sym (ap row_left is)) ∙ h

renewed_long : (draw : ℕ → ℕ → ℕ) (p : leaf.Part) (time : ℕ) (seen : List ℕ) (l : Local) (r : Row) → renewed_row draw p time seen l ≡ Fresh r → length r.timers ≡ length l.row.timers
renewed_long draw p time seen l r is =
    let draws : ℕ → ℕ → ℕ = λ k. draw (leaf.delay_stream p k) in
    fresh_long (length l.row.timers) l.row.cases (renewed_acts draws time seen l.values 0 p.activities l.row.timers l.row.delays) r is (acts_long draws time seen l.values 0 p.activities l.row.timers l.row.delays)

pub networks_are_bounded : (n : Network) → IsNetwork n → (draw : ℕ → ℕ → ℕ) (limits : Limits) → FitsLists (net_of n draw limits)
networks_are_bounded n is draw limits = record {
  known = λ j k l d done.
      let part = slice_index_or (map leaf_of n.parts) j no_part in
      let a = leaf.activity_of part k in
      let u = draw (leaf.case_stream part k) (slice_index l.row.cases k) in
      let m : length (map (λ r. Rattle.san_net.specs.Network.span_in r.span) n.rewards) ≡ length n.rewards = length-map n.rewards (λ r. Rattle.san_net.specs.Network.span_in r.span) in
      subst (λ q. All (λ (x : Impulse). x.reward < q) d.impulses) (sym m) (done_known (length n.rewards) l.row k a (a.complete u l.values) d (leaves_known (length n.rewards) n.parts is.rewarded.known j k) done);
  places = places_few n.parts (λ j p there. omega (arith, (is.slotted j p there).each, (is.accepted j p there).cells));
  rates = rates_each n.parts;
  timers = λ j time seen l r is. renewed_long draw (slice_index_or (map leaf_of n.parts) j no_part) time seen l r is;
}
