-- What has no flag up stays idle through a step.
use Rattle.std.proofs.Common.{replicate, ℕ, zero, suc, ◌+◌, ◌<◌, ◌≡◌, ◌≢◌, ◌∙◌, ◌⊎◌, inl, inr, ap, sym, refl, subst, arith, List, [], ◌∷◌, length, Option, Some, None, Result, Ok, Err, IfOk, Bool, true, false, slice_index, slice_set, nat_eq}
use Rattle.std.specs.Prelude.{slice_get}
use Rattle.std.proofs.lemmas.Bool.{eqb-true}
use Rattle.std.proofs.lemmas.List.{get_or-set_other}
use Rattle.std.proofs.lemmas.Option.{slice_get_within}
use Rattle.san_base.specs.declared.ending.Trap.{Trap}
use Rattle.san_law.proofs.Places.{scatter_at, scatter_length}
use Rattle.san_law.proofs.Renewals.{quiet_is_steady, steady_is_quiet}
use Rattle.san_law.specs.Activity as leaf
use Rattle.san_law.specs.Lawful.{AllBelow, IsLaid, IsLawful}
use Rattle.san_law.specs.Net.{Done, Faulty, Fresh, Found, Local, Net, Nothing, Renewing, Row, no_row, without_timer}
use Rattle.san_law.specs.Network.{Limits as Bounds}
use Rattle.san_law.specs.Next.{Next, Stable, found_at}
use Rattle.san_law.specs.Renewal.{AllFresh, Due, FaultAt, Renewal, and_rest, renewed_at, renewed_from, renewed_then}
use Rattle.san_law.specs.State.{State, gather, index_of, local_of, or_next, scatter, slots_of, taken_from}
use Rattle.san_law.specs.Step as law
use Rattle.san_net.specs.Laid.{places_of}
use Rattle.san_net.specs.Leaf.{leaf_of}
use Rattle.san_net.specs.Network.{Network, net_of}
use Rattle.san_net.specs.declared.part.Part.{Part}
use Rattle.san_law.specs.Clocks.{renewed_row, some_pair}
use Rattle.san_seq.specs.declared.stale.Stale.{Stale}
use Rattle.san_seq.specs.declared.concern.Concern.TheVariants as concern
use Rattle.san_seq.specs.inner.Known.{AreAsleep, AreFresh, AreIdle, AreQuiet, AreSettled, AreTouched, HasFlags, HaveSame, IsAtRest, SeesSame, WakesUp}
use Rattle.san_seq.specs.inner.Nexts.{first_by, first_from, first_of_part, next_among}
use Rattle.san_seq.specs.inner.States.{instant_in}
use Rattle.san_seq.specs.inner.Wakes.{AreWoken, EachWeight, Stands, Woken, bands_at, level}
use Rattle.san_seq.specs.Outcomes.{event_or_ending}
use Rattle.san_seq.specs.inner.Renewals.{renewed_part}
use Rattle.san_seq.specs.inner.Rows.{row_at}
use Rattle.san_base.specs.declared.ending.Ending.{Ending}
use Rattle.san_base.specs.declared.ending.Event.{Event}
use Rattle.san_seq.proofs.AlikeLemmas.{pair_all, rest_alike}
use Rattle.san_seq.proofs.AnswerLemmas.{Happening, happened, happening_by}
use Rattle.san_seq.proofs.AwakeLemmas.{asleep_after}
use Rattle.san_seq.proofs.NextLemmas.{cut}
use Rattle.san_net.proofs.CellLemmas.{gather_eq}
use Rattle.san_net.proofs.PartLemmas.{lies_over, part_is, places_are}
use Rattle.san_seq.proofs.RowLemmas.{part_renewed}
use Rattle.san_seq.proofs.WeightLemmas.{each_always, each_both}

not_false : (o : Option Bool) → o ≡ Some true → o ≡ Some false → {A : Type 0} → A
not_false o a b = cc

-- without a pair renewal doesn't look at what was seen
unseen : (n : Network) (draw : ℕ → ℕ → ℕ) (bounds : Bounds) → IsLawful (net_of n draw bounds) → (j : ℕ) (p : Part) → slice_get n.parts j ≡ Some p → some_pair (leaf_of p).activities ≡ false
    → (t : ℕ) (a b : List ℕ) (l : Local) → renewed_row draw (leaf_of p) t a l ≡ renewed_row draw (leaf_of p) t b l
unseen n draw bounds ok j p is none t a b l =
    subst (λ (q : leaf.Part). renewed_row draw q t a l ≡ renewed_row draw q t b l) (part_is n j p is) (ok.unpaired j t a b l (ap (λ (q : leaf.Part). some_pair q.activities) (part_is n j p is) ∙ none))

pub are_fresh : (n : Network) (draw : ℕ → ℕ → ℕ) (bounds : Bounds) (w : Woken) (stale : Stale) (s : State) → IsLawful (net_of n draw bounds) → AreIdle n w stale s
    → AreFresh draw n.parts stale.timers s.time s.stable s.marking s.rows
are_fresh n draw bounds w stale s ok known j p down is = by_pair (some_pair (leaf_of p).activities) refl
  where
    rest : IsAtRest p s.stable s.marking (row_at s.rows j)
    rest = known.timers j p is down

    local : Local
    local = record { values = gather (places_of p) s.marking; row = row_at s.rows j }

    here : renewed_row draw (leaf_of p) s.time (gather (places_of p) s.marking) local ≡ Fresh (row_at s.rows j)
    here = steady_is_quiet (leaf_of p) draw (gather (places_of p) s.marking) (row_at s.rows j) rest.steady s.time

    by_pair : (b : Bool) → some_pair (leaf_of p).activities ≡ b → renewed_part draw p s.time s.stable s.marking (row_at s.rows j) ≡ Fresh (row_at s.rows j)
    by_pair true e =
        ap (λ (seen : List ℕ). renewed_row draw (leaf_of p) s.time seen local) (gather_eq (places_of p) s.stable s.marking (λ k q at. pair_all p.atomic.impulses 0 p.atomic.acts k (SeesSame s.stable s.marking q) e (rest.same k q at))) ∙ here
    by_pair false e = unseen n draw bounds ok j p is e s.time (gather (places_of p) s.stable) (gather (places_of p) s.marking) local ∙ here

-- where nothing comes next, no leaf has anything
nothing_by : (j : ℕ) (f : Found) (rest : Next) → found_at j f rest ≡ Stable → (f ≡ Nothing) × (rest ≡ Stable)
nothing_by j Nothing rest e = (refl, e)
nothing_by j (Rattle.san_law.specs.Net.Enabled k) rest e = absurd cc
nothing_by j (Rattle.san_law.specs.Net.Broken k trap) rest e = absurd cc

settled_from : (j : ℕ) (m : List ℕ) (ps : List Part) → first_from j m ps ≡ Stable → (i : ℕ) (p : Part) → slice_get ps i ≡ Some p → first_of_part m p ≡ Nothing
unfolding first_from
settled_from j m [] e i p is = absurd cc
settled_from j m (q ∷ ps) e zero p is =
    let same : q ≡ p = one q p is in
    ap (first_of_part m) (sym same) ∙ (nothing_by j (first_of_part m q) (first_from (suc j) m ps) e).0
  where
    one : (x y : Part) → (let o : Option Part = Some x in o) ≡ Some y → x ≡ y
    one x y q = cc
settled_from j m (q ∷ ps) e (suc i) p is = settled_from (suc j) m ps (nothing_by j (first_of_part m q) (first_from (suc j) m ps) e).1 i p is

settled_by : (parts : List Part) (last : Option ℕ) (m : List ℕ) → next_among parts last m ≡ Stable → AreSettled parts m
settled_by parts None m e j p is = settled_from 0 m parts e j p is
settled_by parts (Some l) m e j p is = settled_from 0 m parts (nothing_by l (first_by m (slice_get parts l)) (first_from 0 m parts) e).1 j p is

pub settled : (parts : List Part) (last : Option ℕ) (m : List ℕ) → next_among parts last m ≡ Stable → AreSettled parts m
settled = settled_by

-- what renewal leaves of each row
abbrev EachFresh : Net → State → ℕ → List Row → Renewal → Type 0
EachFresh net s i rows (AllFresh fresh) = (j : ℕ) → j < length rows → renewed_at net s (i + j) (row_at rows j) ≡ Fresh (row_at fresh j)
EachFresh net s i rows (FaultAt j k trap) = Unit {0}

each_rest : (net : Net) (s : State) (i : ℕ) (r now : Row) (rs : List Row) (x : Renewal) → renewed_at net s i r ≡ Fresh now → EachFresh net s (suc i) rs x → EachFresh net s i (r ∷ rs) (and_rest now x)
each_rest net s i r now rs (FaultAt j k trap) here rest = tt
each_rest net s i r now rs (AllFresh fresh) here rest = each
  where
    each : (j : ℕ) → j < length (r ∷ rs) → renewed_at net s (i + j) (row_at (r ∷ rs) j) ≡ Fresh (row_at (now ∷ fresh) j)
    each zero h = let same : i + 0 ≡ i = omega arith in ap (λ (k : ℕ). renewed_at net s k r) same ∙ here
    each (suc j) h = let same : i + suc j ≡ suc i + j = omega arith in ap (λ (k : ℕ). renewed_at net s k (row_at rs j)) same ∙ rest j (omega (arith, h))

each_then : (net : Net) (s : State) (i : ℕ) (r : Row) (rs : List Row) (x : Renewing) (rest : Renewal) → renewed_at net s i r ≡ x → EachFresh net s (suc i) rs rest → EachFresh net s i (r ∷ rs) (renewed_then i x rest)
each_then net s i r rs (Fresh now) rest here h = each_rest net s i r now rs rest here h
each_then net s i r rs (Faulty k trap) rest here h = tt

each_fresh : (net : Net) (s : State) (i : ℕ) (rows : List Row) → EachFresh net s i rows (renewed_from net s i rows)
each_fresh net s i [] = λ j h. absurd (omega (arith, h))
each_fresh net s i (r ∷ rs) = each_then net s i r rs (renewed_at net s i r) (renewed_from net s (suc i) rs) refl (each_fresh net s (suc i) rs)

-- all leaves are quiet after a renewal
pub quiet_after : (n : Network) (draw : ℕ → ℕ → ℕ) (bounds : Bounds) → IsLawful (net_of n draw bounds) → (s : State) (fresh : List Row) → length s.rows ≡ length n.parts
    → renewed_from (net_of n draw bounds) s 0 s.rows ≡ AllFresh fresh → AreSettled n.parts s.marking → AreQuiet n.parts s.marking fresh
quiet_after n draw bounds ok s fresh sized renewed nothing j p is = (nothing j p is, quiet_is_steady (leaf_of p) draw (gather (places_of p) s.marking) (gather (places_of p) s.marking) (row_at fresh j) 0 (quiet 0))
  where
    net : Net
    net = net_of n draw bounds

    here : renewed_at net s (0 + j) (row_at s.rows j) ≡ Fresh (row_at fresh j)
    here = subst (EachFresh net s 0 s.rows) renewed (each_fresh net s 0 s.rows) j (omega (arith, slice_get_within n.parts j p is, sized))

    quiet : (t : ℕ) → renewed_part draw p t s.marking s.marking (row_at fresh j) ≡ Fresh (row_at fresh j)
    quiet t =
        let same : 0 + j ≡ j = omega arith in
        let at : renewed_at net s j (row_at s.rows j) ≡ Fresh (row_at fresh j) = ap (λ (k : ℕ). renewed_at net s k (row_at s.rows j)) (sym same) ∙ here in
        let u : State = record { time = t; marking = s.marking; stable = s.marking; rows = s.rows; burst = s.burst; last = s.last; count = s.count } in
        part_renewed n draw bounds u j p t s.marking s.marking (row_at fresh j) is refl refl refl
        ∙ ok.again j s.time t (gather (slots_of net j) s.stable) (record { values = gather (slots_of net j) s.marking; row = row_at s.rows j }) (row_at fresh j) at

-- what a completion leaves of a state
pub record Moved (net : Net) (j : ℕ) (u v : State) : Type 0 where
  pub values : List ℕ
  pub row : Row
  pub marking : v.marking ≡ scatter (slots_of net j) values u.marking
  pub stable : v.stable ≡ u.stable
  pub rows : v.rows ≡ slice_set u.rows j row

complete_moved : (net : Net) (u : State) (burst j k : ℕ) (r : Result Done Trap) (t : Happening) → happening_by (law.complete net u burst j k r).0 ≡ Ok t → Moved net j u (law.complete net u burst j k r).1
complete_moved net u burst j k (Err trap) t answered = absurd cc
complete_moved net u burst j k (Ok d) t answered = record { values = d.left.values; row = d.left.row; marking = refl; stable = refl; rows = refl }

unless_moved : (net : Net) (u : State) (burst j k : ℕ) (o : Option law.Ending) (r : Result Done Trap) (t : Happening) → happening_by (law.unless_over u o (law.complete net u burst j k r)).0 ≡ Ok t
    → Moved net j u (law.unless_over u o (law.complete net u burst j k r)).1
unless_moved net u burst j k (Some e) r t answered = absurd cc
unless_moved net u burst j k None r t answered = complete_moved net u burst j k r t answered

pub fire_moved : (net : Net) (u : State) (j k : ℕ) (t : Happening) → happening_by (law.fire net u j k).0 ≡ Ok t → Moved net j u (law.fire net u j k).1
fire_moved net u j k t answered = unless_moved net u 0 j k (law.count_limit net u.count) (net.done j k (local_of net u j)) t answered

pub instant_moved : (n : Network) (draw : ℕ → ℕ → ℕ) (bounds : Bounds) (u : State) (j k : ℕ) (t : Happening) → happening_by (instant_in n draw bounds u j k).0 ≡ Ok t → Moved (net_of n draw bounds) j u (instant_in n draw bounds u j k).1
instant_moved n draw bounds u j k t answered =
    unless_moved (net_of n draw bounds) u (u.burst + 1) j k (law.limit_at (net_of n draw bounds) u.burst u.count) ((net_of n draw bounds).done j k (local_of (net_of n draw bounds) u j)) t answered

-- whatever it comes to, the markings are as long as before
complete_sized : (net : Net) (u : State) (burst j k m : ℕ) (r : Result Done Trap) → length u.marking ≡ m → length u.stable ≡ m → (length (law.complete net u burst j k r).1.marking ≡ m) × (length (law.complete net u burst j k r).1.stable ≡ m)
complete_sized net u burst j k m (Err trap) a b = (a, b)
complete_sized net u burst j k m (Ok d) a b = (scatter_length (slots_of net j) d.left.values u.marking ∙ a, b)

unless_sized : (net : Net) (u : State) (burst j k m : ℕ) (o : Option law.Ending) (r : Result Done Trap) → length u.marking ≡ m → length u.stable ≡ m
    → (length (law.unless_over u o (law.complete net u burst j k r)).1.marking ≡ m) × (length (law.unless_over u o (law.complete net u burst j k r)).1.stable ≡ m)
unless_sized net u burst j k m (Some e) r a b = (a, b)
unless_sized net u burst j k m None r a b = complete_sized net u burst j k m r a b

pub fire_sized : (net : Net) (u : State) (j k m : ℕ) → length u.marking ≡ m → length u.stable ≡ m → (length (law.fire net u j k).1.marking ≡ m) × (length (law.fire net u j k).1.stable ≡ m)
fire_sized net u j k m a b = unless_sized net u 0 j k m (law.count_limit net u.count) (net.done j k (local_of net u j)) a b

pub instant_sized : (n : Network) (draw : ℕ → ℕ → ℕ) (bounds : Bounds) (u : State) (j k m : ℕ) → length u.marking ≡ m → length u.stable ≡ m
    → (length (instant_in n draw bounds u j k).1.marking ≡ m) × (length (instant_in n draw bounds u j k).1.stable ≡ m)
instant_sized n draw bounds u j k m a b =
    let net = net_of n draw bounds in
    unless_sized net u (u.burst + 1) j k m (law.limit_at net u.burst u.count) (net.done j k (local_of net u j)) a b

-- where a place stands in a list of them
found_place : (q : ℕ) (places : List ℕ) (i : ℕ) → index_of q places ≡ Some i → slice_get places i ≡ Some q
found_place q [] i e = absurd cc
found_place q (p ∷ ps) i e = by_test (found_place q ps) (nat_eq q p) refl (index_of q ps) refl i e
  where
    one : (x y : ℕ) → (let o : Option ℕ = Some x in o) ≡ Some y → x ≡ y
    one x y f = cc

    by_test : ((k : ℕ) → index_of q ps ≡ Some k → slice_get ps k ≡ Some q) → (b : Bool) → nat_eq q p ≡ b → (o : Option ℕ) → index_of q ps ≡ o → (k : ℕ) → or_next b o ≡ Some k → slice_get (p ∷ ps) k ≡ Some q
    by_test rest true t o is k f = subst (λ (x : ℕ). slice_get (p ∷ ps) x ≡ Some q) (one 0 k f) (ap (λ (x : ℕ). (let z : Option ℕ = Some x in z)) (sym (eqb-true q p t)))
    by_test rest false t None is k f = absurd cc
    by_test rest false t (Some x) is k f = subst (λ (y : ℕ). slice_get (p ∷ ps) y ≡ Some q) (one (suc x) k f) (rest x is)

-- a place has its value, but where it is one of the leaf's
same_or_own : (slots values m : List ℕ) (q : ℕ) → q < length m → (slice_index (scatter slots values m) q ≡ slice_index m q) ⊎ ((i : ℕ) × (slice_get slots i ≡ Some q))
same_or_own slots values m q h = by_place (index_of q slots) refl
  where
    by_place : (o : Option ℕ) → index_of q slots ≡ o → (slice_index (scatter slots values m) q ≡ slice_index m q) ⊎ ((i : ℕ) × (slice_get slots i ≡ Some q))
    by_place None is = inl (scatter_at slots values m q h ∙ ap (λ (x : Option ℕ). taken_from values x (slice_index m q)) is)
    by_place (Some i) is = inr (i, found_place q slots i is)

-- after a completion the flags that are still down say the same of what it left
module _ (n : Network) (draw : ℕ → ℕ → ℕ) (bounds : Bounds) (w : Woken) (j : ℕ) (part : Part) (u v : State) (old new : Stale) (is : slice_get n.parts j ≡ Some part)
    (long : length u.marking ≡ length n.initial)
    (within : (i : ℕ) (p : Part) (k q : ℕ) → slice_get n.parts i ≡ Some p → slice_get (places_of p) k ≡ Some q → q < length u.marking)
    (moved : Moved (net_of n draw bounds) j u v) (woken : AreWoken n w) (flags : HasFlags n old) (touched : AreTouched w (places_of part) v.stable v.marking old new) where
  marking_is : v.marking ≡ scatter (places_of part) moved.values u.marking
  marking_is = moved.marking ∙ ap (λ (ss : List ℕ). scatter ss moved.values u.marking) (places_are n j part is draw bounds)

  -- a weight that saw the same of a place does so still, unless it is one of the leaf's
  still_same : (q weight : ℕ) → q < length u.marking → SeesSame u.stable u.marking q weight → ((l : ℕ) → slice_get (places_of part) l ≡ Some q → SeesSame v.stable v.marking q weight) → SeesSame v.stable v.marking q weight
  still_same q weight h was own = by_case (same_or_own (places_of part) moved.values u.marking q h)
    where
      by_case : (slice_index (scatter (places_of part) moved.values u.marking) q ≡ slice_index u.marking q) ⊎ ((l : ℕ) × (slice_get (places_of part) l ≡ Some q)) → SeesSame v.stable v.marking q weight
      by_case (inl f) = ap (λ (xs : List ℕ). level weight (slice_index xs q)) moved.stable ∙ was ∙ ap (level weight) (sym f) ∙ sym (ap (λ (xs : List ℕ). level weight (slice_index xs q)) marking_is)
      by_case (inr f) = own f.0 f.1

  -- what was the same before and after was so in between
  stays : (q weight : ℕ) → SeesSame u.stable u.marking q weight → SeesSame v.stable v.marking q weight → SeesSame u.marking v.marking q weight
  stays q weight a b = sym a ∙ ap (λ (xs : List ℕ). level weight (slice_index xs q)) (sym moved.stable) ∙ b

  places_after : HaveSame old.places u.stable u.marking → HaveSame new.places v.stable v.marking
  places_after known q down =
      let h : q < length u.marking = omega (arith, slice_get_within new.places q false down, touched.places.sized, flags.places, long) in
      still_same q 0 h (known q (touched.places.kept q down)) (λ l f. touched.places.equal l q q 0 f down (refl, refl))

  timers_after : slice_get new.timers j ≡ Some true → ((i : ℕ) (p : Part) → i ≢ j → slice_get n.parts i ≡ Some p → slice_get old.timers i ≡ Some false → IsAtRest p u.stable u.marking (row_at u.rows i))
      → (i : ℕ) (p : Part) → slice_get n.parts i ≡ Some p → slice_get new.timers i ≡ Some false → IsAtRest p v.stable v.marking (row_at v.rows i)
  timers_after own known i p at down = subst (IsAtRest p v.stable v.marking) (sym row) (record {
    steady = rest_alike p u.marking v.marking (row_at u.rows i) (λ c q e. both c q e (SeesSame u.marking v.marking q) (λ weight a s. stays q weight a (after c q e weight a s))) was.steady;
    same = λ c q e. both c q e (SeesSame v.stable v.marking q) (after c q e);
  })
    where
      other : i ≢ j
      other e = not_false (slice_get new.timers j) own (ap (slice_get new.timers) (sym e) ∙ down)

      was : IsAtRest p u.stable u.marking (row_at u.rows i)
      was = known i p other at (touched.timers.kept i down)

      after : (c q : ℕ) → slice_get (places_of p) c ≡ Some q → (weight : ℕ) → SeesSame u.stable u.marking q weight → Stands (bands_at w.timers q) weight i → SeesSame v.stable v.marking q weight
      after c q e weight a s = still_same q weight (within i p c q at e) a (λ l f. touched.timers.equal l i q weight f down s)

      both : (c q : ℕ) → slice_get (places_of p) c ≡ Some q → (P : ℕ → Type 0) → ((weight : ℕ) → SeesSame u.stable u.marking q weight → Stands (bands_at w.timers q) weight i → P weight) → EachWeight concern.Timers p.atomic.acts c P
      both c q e P f = each_both c (SeesSame u.stable u.marking q) (λ weight. Stands (bands_at w.timers q) weight i) P f concern.Timers p.atomic.acts (was.same c q e) (woken.timers.there i c q p (slice_get_within n.parts i p at) at e)

      row : row_at v.rows i ≡ row_at u.rows i
      row = ap (λ (rs : List Row). row_at rs i) moved.rows ∙ get_or-set_other u.rows j i moved.row no_row other

  pub idle_after : slice_get new.timers j ≡ Some true → WakesUp n j old.awake new.awake → IsLaid (net_of n draw bounds) (length n.initial) → AreAsleep n old.awake u.marking → HaveSame old.places u.stable u.marking
      → (old.settled ≡ true → AreSettled n.parts u.stable)
      → ((i : ℕ) (p : Part) → i ≢ j → slice_get n.parts i ≡ Some p → slice_get old.timers i ≡ Some false → IsAtRest p u.stable u.marking (row_at u.rows i))
      → AreIdle n w new v
  idle_after own wakes lies asleep places settled timers = record {
    woken = woken;
    flags = record { timers = touched.timers.sized ∙ flags.timers; places = touched.places.sized ∙ flags.places; awake = wakes.sized ∙ flags.awake };
    asleep = asleep_after n draw bounds lies j moved.values u.marking v.marking within moved.marking old.awake new.awake asleep wakes;
    places = places_after places;
    settled = λ e. subst (AreSettled n.parts) (sym moved.stable) (settled (sym touched.settled ∙ e));
    timers = timers_after own timers;
  }

-- before the first step all timers are stale, and no place has changed
all_up : (many j : ℕ) → (let xs : List Bool = replicate many true in slice_get xs j) ≡ Some false → {A : Type 0} → A
all_up zero j e = cc
all_up (suc many) zero e = cc
all_up (suc many) (suc j) e = all_up many j e

length_replicate : {A : Type 0} (k : ℕ) (a : A) → length (replicate k a) ≡ k
length_replicate zero a = refl
length_replicate (suc k) a = ap suc (length_replicate k a)

both : (b : Bool) → b ≡ true → b ≡ false → {A : Type 0} → A
both b e f = cc

pub all_are_stale : (n : Network) (w : Woken) (stale : Stale) (s : State) → AreWoken n w → stale.settled ≡ false → stale.timers ≡ replicate (length n.parts) true → stale.places ≡ replicate (length n.initial) false
    → stale.awake ≡ replicate (length n.parts) true → s.stable ≡ s.marking → AreIdle n w stale s
all_are_stale n w stale s woken a b c d same = record {
  woken = woken;
  flags = record { timers = ap length b ∙ length_replicate (length n.parts) true; places = ap length c ∙ length_replicate (length n.initial) false; awake = ap length d ∙ length_replicate (length n.parts) true };
  asleep = λ j p at down. all_up (length n.parts) j (ap (λ (xs : List Bool). slice_get xs j) (sym d) ∙ down);
  places = λ q down. ap (λ (xs : List ℕ). slice_index xs q) same;
  settled = λ e. both stale.settled e a;
  timers = λ j p at down. all_up (length n.parts) j (ap (λ (xs : List Bool). slice_get xs j) (sym b) ∙ down);
}

all_below_at : (xs : List ℕ) (n k q : ℕ) → AllBelow xs n → slice_get xs k ≡ Some q → q < n
all_below_at [] n k q b e = absurd cc
all_below_at (x ∷ xs) n zero q b e = subst (λ (y : ℕ). y < n) (one x q e) b.0
  where
    one : (a c : ℕ) → (let o : Option ℕ = Some a in o) ≡ Some c → a ≡ c
    one a c f = cc
all_below_at (x ∷ xs) n (suc k) q b e = all_below_at xs n k q b.1 e

-- each place of a leaf is one of the marking
pub places_within : (n : Network) (m : List ℕ) → length m ≡ length n.initial → ((draw : ℕ → ℕ → ℕ) (bounds : Bounds) → IsLaid (net_of n draw bounds) (length n.initial))
    → (i : ℕ) (p : Part) (k q : ℕ) → slice_get n.parts i ≡ Some p → slice_get (places_of p) k ≡ Some q → q < length m
places_within n m sized lies i p k q is at = all_below_at (places_of p) (length m) k q (lies_over n i p is m sized lies).within at

-- what is answered is what a step answered
pub if_answered : (now : Result Event Ending) (n : Network) (x : law.Stepped) (P : Type 0) → now ≡ event_or_ending n x → ((t : Happening) → happening_by x ≡ Ok t → P) → IfOk now (λ e. P)
if_answered (Ok e) n x P is h = let got = happened n x e (sym is) in h got.0 got.1
if_answered (Err e) n x P is h = tt

-- flags over markings that are these
touched_over : (w : Woken) (places stable m a b : List ℕ) (old new : Stale) → a ≡ stable → b ≡ m → AreTouched w places a b old new → AreTouched w places stable m old new
touched_over w places stable m a b old new e f so =
    subst (λ (x : List ℕ). AreTouched w places x m old new) e (subst (λ (y : List ℕ). AreTouched w places a y old new) f so)

module _ (n : Network) (draw : ℕ → ℕ → ℕ) (bounds : Bounds) (w : Woken) (lies : (d : ℕ → ℕ → ℕ) (b : Bounds) → IsLaid (net_of n d b) (length n.initial)) (j k : ℕ) (h : j < length n.parts) (v : State) (a b : List ℕ) (old new : Stale)
    (at_a : a ≡ v.stable) (at_b : b ≡ v.marking) (woken : AreWoken n w) (flags : HasFlags n old) (own : slice_get new.timers j ≡ Some true) (wakes : WakesUp n j old.awake new.awake)
    (touched : (p : Part) → slice_get n.parts j ≡ Some p → AreTouched w (places_of p) a b old new) where
  pub timed_known : (s : State) (d : Due) (u : State) (t : Happening) → d.leaf ≡ j → length s.marking ≡ length n.initial → u ≡ law.fired (net_of n draw bounds) s s.rows d → AreAsleep n old.awake s.marking → AreQuiet n.parts s.marking s.rows
      → v ≡ (law.fire (net_of n draw bounds) u j k).1 → happening_by (law.fire (net_of n draw bounds) u j k).0 ≡ Ok t → AreIdle n w new v
  timed_known s d u t leaf sized is asleep quiet left answered =
      let net = net_of n draw bounds in
      let part = cut n.parts j h in
      let moved_u : Moved net j u v = subst (Moved net j u) (sym left) (fire_moved net u j k t answered) in
      let moved : Moved net j (law.fired net s s.rows d) v = subst (λ (x : State). Moved net j x v) is moved_u in
      idle_after n draw bounds w j part.0 (law.fired net s s.rows d) v old new part.1 sized (places_within n s.marking sized lies) moved woken flags
      (touched_over w (places_of part.0) v.stable v.marking a b old new at_a at_b (touched part.0 part.1)) own wakes (lies draw bounds) asleep
      (λ q down. refl)
      (λ e i p at. (quiet i p at).0)
      (λ i p other at down.
      let row : row_at (slice_set s.rows d.leaf (without_timer (row_at s.rows d.leaf) d.act)) i ≡ row_at s.rows i = get_or-set_other s.rows d.leaf i (without_timer (row_at s.rows d.leaf) d.act) no_row (λ e. other (e ∙ leaf)) in
      subst (IsAtRest p s.marking s.marking) (sym row) (record { steady = (quiet i p at).1; same = λ c q e. each_always c (SeesSame s.marking s.marking q) (λ weight. refl) concern.Timers p.atomic.acts }))

  pub instant_known : (s u : State) (t : Happening) → length s.marking ≡ length n.initial → u ≡ s → AreIdle n w old s
      → v ≡ (instant_in n draw bounds u j k).1 → happening_by (instant_in n draw bounds u j k).0 ≡ Ok t → AreIdle n w new v
  instant_known s u t sized is known left answered =
      let net = net_of n draw bounds in
      let part = cut n.parts j h in
      let moved_u : Moved net j u v = subst (Moved net j u) (sym left) (instant_moved n draw bounds u j k t answered) in
      let moved : Moved net j s v = subst (λ (x : State). Moved net j x v) is moved_u in
      idle_after n draw bounds w j part.0 s v old new part.1 sized (places_within n s.marking sized lies) moved woken flags
      (touched_over w (places_of part.0) v.stable v.marking a b old new at_a at_b (touched part.0 part.1)) own wakes (lies draw bounds) known.asleep
      known.places known.settled (λ i p other at down. known.timers i p at down)
