-- Leaves that are asleep: they have nothing, and stay so while others complete.
use Rattle.std.proofs.Common.{ℕ, zero, suc, ◌+◌, ◌<◌, ◌≤◌, ◌≡◌, ◌≢◌, ◌∙◌, ◌⊎◌, inl, inr, ap, sym, refl, subst, arith, List, [], ◌∷◌, length, map, Option, Some, None, Bool, false, slice_index, slice_set}
use Rattle.std.specs.Prelude.{slice_get}
use Rattle.std.proofs.lemmas.Bool.{cases_eq, cases_lt}
use Rattle.san_law.proofs.Places.{scatter_at}
use Rattle.san_law.specs.Lawful.{AllApart, IsLaid}
use Rattle.san_law.specs.Net.{Nothing}
use Rattle.san_law.specs.Net as net
use Rattle.san_law.specs.Network.{Limits as Bounds}
use Rattle.san_law.specs.Next as law
use Rattle.san_law.specs.Next.{found_at}
use Rattle.san_law.specs.State.{gather, index_of, part_of, place_of as law_place, scatter, slots_of, taken_from}
use Rattle.san_net.specs.First.{first_among}
use Rattle.san_net.specs.Laid.{places_of}
use Rattle.san_net.specs.Leaf.{found_by}
use Rattle.san_net.specs.Network.{Network, net_of}
use Rattle.san_net.specs.declared.part.Part.{Part}
use Rattle.san_net.proofs.PartLemmas.{places_are}
use Rattle.san_winner.specs.Flags.{IsNext, SaysNext}
use Rattle.san_seq.specs.declared.next.First.{First}
use Rattle.san_seq.specs.inner.Firsts.{IsFirst, IsFound}
use Rattle.san_seq.specs.inner.Known.{AreAsleep, IsAsleep, WakesUp}
use Rattle.san_seq.specs.inner.Nexts.{first_by}
use Rattle.san_seq.proofs.FlaggedLemmas.{set_other}
use Rattle.san_seq.proofs.NextLemmas.{cut}
use Rattle.san_seq.proofs.SearchLemmas.{nothing_of}

nothing_asleep : (n : Network) (awake : List Bool) (m : List ℕ) → AreAsleep n awake m → (j : ℕ) → j < length n.parts → slice_get awake j ≡ Some false → first_by m (slice_get n.parts j) ≡ Nothing
nothing_asleep n awake m asleep j h down = let part = cut n.parts j h in ap (first_by m) part.1 ∙ asleep j part.0 part.1 down m (λ i q at own. refl)

-- the search among those that are awake
module _ (n : Network) (awake : List Bool) (m : List ℕ) (asleep : AreAsleep n awake m) (sized : length awake ≡ length n.parts) (from : ℕ)
    (before : (j : ℕ) → j < from → first_by m (slice_get n.parts j) ≡ Nothing) where
  until : (many : ℕ) → many ≤ length n.parts → ((i : ℕ) → from ≤ i → i < many → slice_get awake i ≡ Some false) → (j : ℕ) → j < many → first_by m (slice_get n.parts j) ≡ Nothing
  until many low down j h = by_case (cases_lt j from)
    where
      by_case : (j < from) ⊎ (from ≤ j) → first_by m (slice_get n.parts j) ≡ Nothing
      by_case (inl l) = before j l
      by_case (inr l) = nothing_asleep n awake m asleep j (omega (arith, h, low)) (down j l h)

  pub none_awake : (f : First) → IsFirst n.parts m f → SaysNext from awake None → IsFound n.parts m f.leaf.0 f
  none_awake f is none = record { first = is; sooner = omega arith; none = until f.leaf.0 is.within (λ i l u. none i l (omega (arith, u, is.within, sized))) }

  pub later_awake : (f : First) (at : ℕ) → IsFirst n.parts m f → IsNext from awake at → f.leaf.0 ≤ at → IsFound n.parts m f.leaf.0 f
  later_awake f at is next late = record { first = is; sooner = omega arith; none = until f.leaf.0 is.within (λ i l u. next.down i l (omega (arith, u, late))) }

  pub found_awake : (most : ℕ) (g : First) → most ≤ length n.parts → IsNext from awake g.leaf.0 → g.leaf.0 < most → IsFirst n.parts m g → IsFound n.parts m most g
  found_awake most g low next sooner is = record { first = is; sooner = omega (arith, sooner); none = until g.leaf.0 is.within next.down }

  pub more_awake : (at : ℕ) → IsNext from awake at → ((rest : law.Next) → found_at at (first_by m (slice_get n.parts at)) rest ≡ rest) → (j : ℕ) → j < at + 1 → first_by m (slice_get n.parts j) ≡ Nothing
  more_awake at next none j h = by_case (cases_lt j at)
    where
      by_case : (j < at) ⊎ (at ≤ j) → first_by m (slice_get n.parts j) ≡ Nothing
      by_case (inl l) = until at (omega (arith, next.within, sized)) next.down j l
      by_case (inr l) =
          let here : at ≡ j = omega (arith, h, l) in
          subst (λ (i : ℕ). first_by m (slice_get n.parts i) ≡ Nothing) here (nothing_of at (first_by m (slice_get n.parts at)) none)

-- a leaf that is asleep isn't awake any more
pub dozed : (n : Network) (awake : List Bool) (m : List ℕ) (at : ℕ) → AreAsleep n awake m → ((p : Part) → slice_get n.parts at ≡ Some p → IsAsleep n.shared p m) → AreAsleep n (slice_set awake at false) m
dozed n awake m at asleep here j p is down = by_case (cases_eq j at)
  where
    by_case : (j ≡ at) ⊎ (j ≢ at) → IsAsleep n.shared p m
    by_case (inl e) = here p (ap (slice_get n.parts) (sym e) ∙ is)
    by_case (inr other) = asleep j p is (sym (set_other awake at j false other) ∙ down)

-- a leaf without instantaneous activities has nothing in any marking
pub never_first : (shared : ℕ) (p : Part) (m : List ℕ) → p.atomic.instants ≡ [] → IsAsleep shared p m
never_first shared p m none v same = ap (λ (order : List ℕ). found_by (first_among p.atomic.acts order (gather (places_of p) v)).answer) none

-- a private place is of no other leaf
apart_at : (shared : ℕ) (IsOthers : ℕ → Type 0) (ss : List net.Slot) (k q : ℕ) → AllApart shared IsOthers ss → slice_get (map law_place ss) k ≡ Some q → shared ≤ q → IsOthers q
apart_at shared IsOthers [] k q apart at own = absurd cc
apart_at shared IsOthers (net.Private p ∷ ss) zero q apart at own = subst IsOthers (one p q at) apart.1
  where
    one : (x y : ℕ) → (let o : Option ℕ = Some x in o) ≡ Some y → x ≡ y
    one x y e = cc
apart_at shared IsOthers (net.Private p ∷ ss) (suc k) q apart at own = apart_at shared IsOthers ss k q apart.2 at own
apart_at shared IsOthers (net.Shared p ∷ ss) zero q apart at own = absurd (omega (arith, apart.0, own, one p q at))
  where
    one : (x y : ℕ) → (let o : Option ℕ = Some x in o) ≡ Some y → x ≡ y
    one x y e = cc
apart_at shared IsOthers (net.Shared p ∷ ss) (suc k) q apart at own = apart_at shared IsOthers ss k q apart.1 at own

-- after a completion of one leaf
module _ (n : Network) (draw : ℕ → ℕ → ℕ) (bounds : Bounds) (lies : IsLaid (net_of n draw bounds) (length n.initial)) (j : ℕ) (values m after : List ℕ)
    (within : (i : ℕ) (p : Part) (k q : ℕ) → slice_get n.parts i ≡ Some p → slice_get (places_of p) k ≡ Some q → q < length m) (moved : after ≡ scatter (slots_of (net_of n draw bounds) j) values m) where
  private_stays : (i : ℕ) (p : Part) (k q : ℕ) → i ≢ j → slice_get n.parts i ≡ Some p → slice_get (places_of p) k ≡ Some q → n.shared ≤ q → slice_index after q ≡ slice_index m q
  private_stays i p k q other is at own =
      let net : net.Net = net_of n draw bounds in
      let there : slice_get (slots_of net i) k ≡ Some q = ap (λ (ss : List ℕ). slice_get ss k) (places_are n i p is draw bounds) ∙ at in
      let out : index_of q (slots_of net j) ≡ None = apart_at n.shared (λ x. index_of x (slots_of net j) ≡ None) (part_of net i) k q (lies.apart i j (λ e. other (sym e))) there own in
      ap (λ (xs : List ℕ). slice_index xs q) moved ∙ scatter_at (slots_of net j) values m q (within i p k q is at) ∙ ap (λ (o : Option ℕ). taken_from values o (slice_index m q)) out

  pub asleep_after : (old new : List Bool) → AreAsleep n old m → WakesUp n j old new → AreAsleep n new after
  asleep_after old new asleep wakes i p is down = by_case (cases_eq i j)
    where
      by_case : (i ≡ j) ⊎ (i ≢ j) → IsAsleep n.shared p after
      by_case (inl e) = wakes.itself p (ap (slice_get n.parts) (sym e) ∙ is) (ap (slice_get new) (sym e) ∙ down) after
      by_case (inr other) = λ v same. asleep i p is (wakes.kept i down) v (λ k q at own. same k q at own ∙ private_stays i p k q other is at own)
