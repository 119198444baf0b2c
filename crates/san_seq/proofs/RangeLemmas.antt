-- An activity that is found is one of its leaf's.
use Rattle.std.proofs.Common.{ℕ, zero, suc, ◌+◌, ◌≤◌, ◌<◌, ◌≡◌, ◌∙◌, ◌⊎◌, inl, inr, ap, refl, subst, arith, List, [], ◌∷◌, length, map, Option, Some, None, Bool, true, false, nat_lt, cond}
use Rattle.san_law.specs.Activity.{ActKind, Activity, Answer, Instant, No, Part, Timed, Traps, Yes, activity_of, first_in, found_by, instants_from, placed, placed_by}
use Rattle.san_law.specs.Net.{Broken, Enabled, Found, Net, Nothing, Row, least_timer}
use Rattle.san_law.specs.Next.{Completes, Next, Stable, TrapsAt, found_at, last_first, next_instant, scan, next_of}
use Rattle.san_law.specs.Renewal.{Due, least_from, sooner}
use Rattle.san_law.specs.State.{State, gather, slots_of}
use Rattle.std.proofs.lemmas.Bool.{cases_lt}
use Rattle.std.proofs.lemmas.List.{length-map}
use Rattle.san_law.specs.Network.{Limits as Bounds, part_at}
use Rattle.san_net.specs.Laid.{IsNetwork}
use Rattle.san_net.specs.Leaf.{leaf_of}
use Rattle.san_net.specs.Network.{Network, net_of, network_in}
use Rattle.san_seq.specs.inner.Rows.{AreRows, row_at}
use Rattle.san_net.specs.Tables.{IsActOf}
use Rattle.san_clock.proofs.DueLemmas.{least_within}
use Rattle.san_seq.proofs.NextLemmas.{cut}
use Rattle.san_net.proofs.PartLemmas.{part_is, activities_long}
use Rattle.san_net.proofs.FlatLemmas.{acts_within}

-- the activity that is found, be it enabled or broken
abbrev acted : Found → Option ℕ
acted Nothing = None
acted (Enabled k) = Some k
acted (Broken k trap) = Some k

-- the leaf and the activity that come next, enabled or broken
abbrev pub acts_next : Next → Option (ℕ × ℕ)
acts_next Stable = None
acts_next (Completes j k) = Some (j, k)
acts_next (TrapsAt j k trap) = Some (j, k)

same_act : (x y : ℕ) → (let o : Option ℕ = Some x in o) ≡ Some y → x ≡ y
same_act x y e = cc

same_pair : (x y : ℕ × ℕ) → (let o : Option (ℕ × ℕ) = Some x in o) ≡ Some y → x ≡ y
same_pair x y e = cc

same_due : (x y : Due) → (let o : Option Due = Some x in o) ≡ Some y → x ≡ y
same_due x y e = cc

-- all numbers are below one
abbrev Under : ℕ → List (ℕ × ℕ) → Type 0
Under b [] = Unit {0}
Under b (x ∷ xs) = (x.1 < b) × Under b xs

under_placed : (b : ℕ) (x : ℕ × ℕ) (ys : List (ℕ × ℕ)) → x.1 < b → Under b ys → Under b (placed x ys)
under_placed b x [] h a = (h, tt)
under_placed b x (y ∷ ys) h a = by_test (nat_lt x.0 y.0) (under_placed b x ys h a.1)
  where
    by_test : (t : Bool) → Under b (placed x ys) → Under b (cond t (y ∷ placed x ys) (x ∷ y ∷ ys))
    by_test true rest = (a.0, rest)
    by_test false rest = (h, a)

under_by : (b k : ℕ) (kind : ActKind) (xs : List (ℕ × ℕ)) → k < b → Under b xs → Under b (placed_by k kind xs)
under_by b k (Timed delay pair) xs h a = a
under_by b k (Instant priority) xs h a = under_placed b (priority, k) xs h a

instants_under : (b k : ℕ) (acts : List Activity) → k + length acts ≤ b → Under b (instants_from k acts)
instants_under b k [] h = tt
instants_under b k (a ∷ acts) h = under_by b k a.kind (instants_from (suc k) acts) (omega (arith, h)) (instants_under b (suc k) acts (omega (arith, h)))

found_under : (part : Part) (values : List ℕ) (b act : ℕ) (xs : List (ℕ × ℕ)) → Under b xs → acted (first_in part values xs) ≡ Some act → act < b
found_under part values b act [] a is = absurd cc
found_under part values b act (x ∷ xs) a is = by_answer (found_under part values b act xs a.1) ((activity_of part x.1).enabled values) is
  where
    by_answer : (acted (first_in part values xs) ≡ Some act → act < b) → (w : Answer) → acted (found_by w x.1 (first_in part values xs)) ≡ Some act → act < b
    by_answer rest No e = rest e
    by_answer rest Yes e = subst (λ (n : ℕ). n < b) (same_act x.1 act e) a.0
    by_answer rest (Traps trap) e = subst (λ (n : ℕ). n < b) (same_act x.1 act e) a.0

-- a leaf's first instantaneous activity is one of its activities
first_within : (part : Part) (values : List ℕ) (act : ℕ) → acted (Rattle.san_law.specs.Activity.first_instant part values) ≡ Some act → act < length part.activities
first_within part values act is = found_under part values (length part.activities) act (instants_from 0 part.activities) (instants_under (length part.activities) 0 part.activities (omega arith)) is

module _ (net : Net) (s : State) (j k : ℕ) (first : (i : ℕ) (v : List ℕ) (act : ℕ) → acted (net.first i v) ≡ Some act → act < net.acts i) where
  at_act : (i act : ℕ) → act < net.acts i → (let o : Option (ℕ × ℕ) = Some (i, act) in o) ≡ Some (j, k) → (i ≡ j) × (k < net.acts i)
  at_act i act h e =
      let same = same_pair (i, act) (j, k) e in
      let at : act ≡ k = ap (λ (x : ℕ × ℕ). x.1) same in
      (ap (λ (x : ℕ × ℕ). x.0) same, subst (λ (n : ℕ). n < net.acts i) at h)

  at_found : (i : ℕ) (f : Found) (rest : Next) → net.first i (gather (slots_of net i) s.marking) ≡ f → acts_next (found_at i f rest) ≡ Some (j, k) → ((i ≡ j) × (k < net.acts i)) ⊎ (acts_next rest ≡ Some (j, k))
  at_found i Nothing rest f e = inr e
  at_found i (Enabled act) rest f e = inl (at_act i act (first i _ act (ap acted f)) e)
  at_found i (Broken act trap) rest f e = inl (at_act i act (first i _ act (ap acted f)) e)

  in_scan : (i n : ℕ) → acts_next (scan net s i n) ≡ Some (j, k) → (j < i + n) × (k < net.acts j)
  in_scan i zero is = absurd cc
  in_scan i (suc n) is = by_case (in_scan (suc i) n) (at_found i (next_of net s i) (scan net s (suc i) n) refl is)
    where
      by_case : (acts_next (scan net s (suc i) n) ≡ Some (j, k) → (j < suc i + n) × (k < net.acts j)) → ((i ≡ j) × (k < net.acts i)) ⊎ (acts_next (scan net s (suc i) n) ≡ Some (j, k)) → (j < i + suc n) × (k < net.acts j)
      by_case rest (inl h) = (omega (arith, h.0), subst (λ (x : ℕ). k < net.acts x) h.0 h.1)
      by_case rest (inr r) = let got = rest r in (omega (arith, got.0), got.1)

  by_last : (last : Option ℕ) → ((i : ℕ) → last ≡ Some i → i < length net.parts) → acts_next (last_first net s last (scan net s 0 (length net.parts))) ≡ Some (j, k) → (j < length net.parts) × (k < net.acts j)
  by_last None there is = let got = in_scan 0 (length net.parts) is in (omega (arith, got.0), got.1)
  by_last (Some i) there is = by_case (at_found i (next_of net s i) (scan net s 0 (length net.parts)) refl is)
    where
      by_case : ((i ≡ j) × (k < net.acts i)) ⊎ (acts_next (scan net s 0 (length net.parts)) ≡ Some (j, k)) → (j < length net.parts) × (k < net.acts j)
      by_case (inl h) = (subst (λ (x : ℕ). x < length net.parts) h.0 (there i refl), subst (λ (x : ℕ). k < net.acts x) h.0 h.1)
      by_case (inr r) = let got = in_scan 0 (length net.parts) r in (omega (arith, got.0), got.1)

  -- the next instantaneous activity is one of a leaf's
  next_within : ((i : ℕ) → s.last ≡ Some i → i < length net.parts) → acts_next (next_instant net s) ≡ Some (j, k) → (j < length net.parts) × (k < net.acts j)
  unfolding next_instant
  next_within there is = by_last s.last there is

-- the earlier of two is one of them
sooner_due : (d : Due) (rest : Option Due) (x : Due) → sooner d rest ≡ Some x → (d ≡ x) ⊎ (rest ≡ Some x)
sooner_due d None x is = inl (same_due d x is)
sooner_due d (Some e) x is = by_test (nat_lt e.time d.time) is
  where
    by_test : (b : Bool) → (let o : Option Due = cond b (Some e) (Some d) in o) ≡ Some x → (d ≡ x) ⊎ ((let o : Option Due = Some e in o) ≡ Some x)
    by_test true r = inr r
    by_test false r = inl (same_due d x r)

-- where a timer stands among rows of which the first has a number
pub record IsAt (i : ℕ) (rows : List Row) (d : Due) : Type 0 where
  pub at : ℕ
  pub leaf : d.leaf ≡ i + at
  pub inside : at < length rows
  pub act : d.act < length (row_at rows at).timers
  pub is : least_timer (row_at rows at) ≡ Some (d.time, d.act)

further : (i : ℕ) (r : Row) (rs : List Row) (d : Due) → IsAt (suc i) rs d → IsAt i (r ∷ rs) d
further i r rs d a = record { at = suc a.at; leaf = omega (arith, a.leaf); inside = omega (arith, a.inside); act = a.act; is = a.is }

due_at : (i : ℕ) (rows : List Row) (d : Due) → least_from i (map least_timer rows) ≡ Some d → IsAt i rows d
due_at i [] d is = absurd cc
due_at i (r ∷ rs) d is = by_least (due_at (suc i) rs d) (least_timer r) refl is
  where
    by_case : (least_from (suc i) (map least_timer rs) ≡ Some d → IsAt (suc i) rs d) → (t : ℕ × ℕ) → least_timer r ≡ Some t → ((let first : Due = record { time = t.0; leaf = i; act = t.1 } in first) ≡ d) ⊎ (least_from (suc i) (map least_timer rs) ≡ Some d) → IsAt i (r ∷ rs) d
    by_case more t has (inl e) =
        let leaf : i ≡ d.leaf = ap (λ (x : Due). x.leaf) e in
        let act : t.1 ≡ d.act = ap (λ (x : Due). x.act) e in
        record { at = 0; leaf = omega (arith, leaf); inside = omega arith; act = subst (λ (n : ℕ). n < length r.timers) act (least_within r t has); is = has ∙ ap (λ (x : Due). (let o : Option (ℕ × ℕ) = Some (x.time, x.act) in o)) e }
    by_case more t has (inr rest) = further i r rs d (more rest)

    by_least : (least_from (suc i) (map least_timer rs) ≡ Some d → IsAt (suc i) rs d) → (o : Option (ℕ × ℕ)) → least_timer r ≡ o → Rattle.san_law.specs.Renewal.and_sooner i o (least_from (suc i) (map least_timer rs)) ≡ Some d → IsAt i (r ∷ rs) d
    by_least more None none e = further i r rs d (more e)
    by_least more (Some t) has e = by_case more t has (sooner_due (record { time = t.0; leaf = i; act = t.1 }) (least_from (suc i) (map least_timer rs)) d e)

-- the timer that is due first is of an activity of a leaf
pub due_within : (rows : List Row) (d : Due) → least_from 0 (map least_timer rows) ≡ Some d → (d.leaf < length rows) × (d.act < length (row_at rows d.leaf).timers)
due_within rows d is =
    let a = due_at 0 rows d is in
    let same : a.at ≡ d.leaf = omega (arith, a.leaf) in
    (omega (arith, a.inside, same), subst (λ (j : ℕ). d.act < length (row_at rows j).timers) same a.act)

-- and it is the least of that leaf
pub due_is : (rows : List Row) (d : Due) → least_from 0 (map least_timer rows) ≡ Some d → least_timer (row_at rows d.leaf) ≡ Some (d.time, d.act)
due_is rows d is =
    let a = due_at 0 rows d is in
    let same : a.at ≡ d.leaf = omega (arith, a.leaf) in
    subst (λ (j : ℕ). least_timer (row_at rows j) ≡ Some (d.time, d.act)) same a.is

-- an activity of the net is one of the network
pub act_is_of : (n : Network) (draw : ℕ → ℕ → ℕ) (bounds : Bounds) (j k : ℕ) → j < length (net_of n draw bounds).parts → k < (net_of n draw bounds).acts j → IsActOf n j k
act_is_of n draw bounds j k leaf act =
    let long : length (net_of n draw bounds).parts ≡ length n.parts = length-map (map leaf_of n.parts) (λ (q : Part). q.slots) ∙ length-map n.parts leaf_of in
    record {
      leaf = omega (arith, leaf, long);
      act = λ p at.
          let acts : length (part_at (network_in n) j).activities ≡ length p.atomic.acts = ap (λ (q : Part). length q.activities) (part_is n j p at) ∙ activities_long p.atomic.impulses 0 p.atomic.acts in
          omega (arith, act, acts);
    }

-- what comes next in a network's net is one of its activities
pub next_in_range : (n : Network) (draw : ℕ → ℕ → ℕ) (bounds : Bounds) (s : State) (j k : ℕ) → ((i : ℕ) → s.last ≡ Some i → i < length n.parts)
    → acts_next (next_instant (net_of n draw bounds) s) ≡ Some (j, k) → IsActOf n j k
next_in_range n draw bounds s j k there is =
    let long : length (net_of n draw bounds).parts ≡ length n.parts = length-map (map leaf_of n.parts) (λ (q : Part). q.slots) ∙ length-map n.parts leaf_of in
    let got = next_within (net_of n draw bounds) s j k (λ i v act e. first_within (part_at (network_in n) i) v act e) (λ i e. omega (arith, there i e, long)) is in
    act_is_of n draw bounds j k got.0 got.1

past_rows : (rows : List Row) (j : ℕ) → length rows ≤ j → length (row_at rows j).timers ≤ 0
past_rows [] j h = omega arith
past_rows (r ∷ rs) zero h = absurd (omega (arith, h))
past_rows (r ∷ rs) (suc j) h = past_rows rs j (omega (arith, h))

-- a network's rows are short
pub rows_small : (n : Network) (rows : List Row) → IsNetwork n → AreRows n.parts rows → (j : ℕ) → length (row_at rows j).timers ≤ 65536
rows_small n rows known are j = by_case (cases_lt j (length rows))
  where
    by_case : (j < length rows) ⊎ (length rows ≤ j) → length (row_at rows j).timers ≤ 65536
    by_case (inl h) =
        let at = cut n.parts j (omega (arith, h, are.each)) in
        omega (arith, (are.fit j at.0 at.1).timers, acts_within n j at.0 known at.1, known.small.acts)
    by_case (inr h) = omega (arith, past_rows rows j h)
