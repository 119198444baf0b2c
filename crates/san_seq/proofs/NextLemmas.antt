-- A leaf's first instantaneous activity, found over its view.
use Rattle.std.proofs.Common.{ℕ, zero, suc, ◌+◌, ◌-◌, ◌<◌, ◌≤◌, ◌≡◌, ◌∙◌, ap, sym, refl, subst, arith, List, [], ◌∷◌, length, map, drop, Option, Some, Ok, IsTrue, unwrap_or}
use Rattle.std.specs.Option.{option_map}
use Rattle.std.specs.Prelude.{slice_get}
use Rattle.std.proofs.lemmas.List.{length-map}
use Rattle.san_expr.specs.Meets.{Evaluates}
use Rattle.san_expr.specs.View.{plain}
use Rattle.san_expr.proofs.WholeLemmas.{plain_meets}
use Rattle.san_law.specs.Net.{Nothing}
use Rattle.san_law.specs.Next as law
use Rattle.san_law.specs.Next.{found_at}
use Rattle.san_law.specs.State.{gather}
use Rattle.san_net.specs.Accepted.{IsAccepted}
use Rattle.san_net.specs.Below.{acts_below}
use Rattle.san_net.specs.First.{first_of}
use Rattle.san_net.specs.Laid.{place_of, places_of}
use Rattle.san_net.specs.Leaf.{found_by, first_in}
use Rattle.san_net.specs.declared.atomic.Atomic.{Atomic}
use Rattle.san_net.specs.declared.first.FirstInstant.{FirstInstant}
use Rattle.san_net.specs.declared.part.Part.{Part}
use Rattle.san_net.specs.declared.part.Slot.{Slot}
use Rattle.san_net.proofs.CellLemmas.{cells_are}
use Rattle.san_net.proofs.FirstLemmas.{accepted_below}
use Rattle.san_seq.specs.declared.next.Next.{Next}
use Rattle.san_seq.specs.inner.Nexts.{first_by, first_from, next_in}

module _ (p : Part) (slots : List Slot) (m values : List ℕ) (slot : slots ≡ p.slots) (seen : values ≡ gather (map place_of slots) m) where
  values_are : values ≡ gather (places_of p) m
  values_are = seen ∙ ap (λ (ss : List Slot). gather (map place_of ss) m) slot

  pub fits : (a : Atomic) → a ≡ p.atomic → IsAccepted p.atomic → length p.slots ≡ length p.atomic.initial → IsTrue (acts_below a.acts (length values))
  fits a is accepted each =
      let sized : length p.atomic.initial ≡ length values = sym each ∙ sym (length-map p.slots place_of) ∙ sym (ap length values_are ∙ cells_are (places_of p) m) in
      subst (λ (b : Atomic). IsTrue (acts_below b.acts (length values))) (sym is)
      (subst (λ (n : ℕ). IsTrue (acts_below p.atomic.acts n)) sized (accepted_below p.atomic accepted))

  pub found_is : (a : Atomic) (left : List ℕ) (found : FirstInstant) → a ≡ p.atomic → Evaluates (plain values) (plain left) (first_of a) (Ok found)
      → found_by (Ok found) ≡ first_in p.atomic (gather (places_of p) m)
  found_is a left found is did =
      ap found_by (sym (plain_meets values left (first_of a) (Ok found) did.meets).0) ∙ ap (first_in a) values_are ∙ ap (λ (b : Atomic). first_in b (gather (places_of p) m)) is

pub cut : {A : Type 0} (ps : List A) (j : ℕ) → j < length ps → (p : A) × (slice_get ps j ≡ Some p) × (drop j ps ≡ p ∷ drop (suc j) ps)
cut [] j h = absurd (omega (arith, h))
cut (p ∷ ps) zero h = (p, refl, refl)
cut (p ∷ ps) (suc j) h = cut ps j (omega (arith, h))

-- a leaf, and then those after it
pub one_leaf : (ps : List Part) (m : List ℕ) (j : ℕ) → j < length ps → first_from j m (drop j ps) ≡ found_at j (first_by m (slice_get ps j)) (first_from (j + 1) m (drop (j + 1) ps))
unfolding first_from
one_leaf ps m j h =
    let at = cut ps j h in
    let next : suc j ≡ j + 1 = omega arith in
    ap (first_from j m) at.2 ∙ ap (λ f. found_at j f (first_from (suc j) m (drop (suc j) ps))) (sym (ap (first_by m) at.1))
    ∙ ap (λ (k : ℕ). found_at j (first_by m (slice_get ps j)) (first_from k m (drop k ps))) next

-- what a leaf has, or what those after it have
pub went_on : (ps : List Part) (m : List ℕ) (j : ℕ) (o : Option Next) → j < length ps
    → ((rest : law.Next) → found_at j (first_by m (slice_get ps j)) rest ≡ unwrap_or (option_map next_in o) rest)
    → first_from j m (drop j ps) ≡ unwrap_or (option_map next_in o) (first_from (j + 1) m (drop (j + 1) ps))
went_on ps m j o h found = one_leaf ps m j h ∙ found (first_from (j + 1) m (drop (j + 1) ps))

pub none_left : (ps : List Part) (m : List ℕ) (j : ℕ) → length ps ≤ j → first_from j m (drop j ps) ≡ law.Stable
unfolding first_from
none_left ps m j h = ap (first_from j m) (drop_all ps j h)
  where
    drop_all : (qs : List Part) (k : ℕ) → length qs ≤ k → drop k qs ≡ []
    drop_all [] zero h = refl
    drop_all [] (suc k) h = refl
    drop_all (q ∷ qs) zero h = absurd (omega (arith, h))
    drop_all (q ∷ qs) (suc k) h = drop_all qs k (omega (arith, h))

-- leaves that have nothing are passed over
pub skipped : (ps : List Part) (m : List ℕ) (n from : ℕ) → from + n ≤ length ps → ((i : ℕ) → from ≤ i → i < from + n → first_by m (slice_get ps i) ≡ Nothing) → first_from from m (drop from ps) ≡ first_from (from + n) m (drop (from + n) ps)
skipped ps m zero from h none = let same : from ≡ from + 0 = omega arith in ap (λ (k : ℕ). first_from k m (drop k ps)) same
skipped ps m (suc n) from h none =
    let on : (from + 1) + n ≡ from + suc n = omega arith in
    one_leaf ps m from (omega (arith, h)) ∙ ap (λ f. found_at from f (first_from (from + 1) m (drop (from + 1) ps))) (none from (omega arith) (omega arith))
    ∙ skipped ps m n (from + 1) (omega (arith, h)) (λ i l u. none i (omega (arith, l)) (omega (arith, u)))
    ∙ ap (λ (k : ℕ). first_from k m (drop k ps)) on

pub skipped_to : (ps : List Part) (m : List ℕ) (from j : ℕ) → from ≤ j → j ≤ length ps → ((i : ℕ) → from ≤ i → i < j → first_by m (slice_get ps i) ≡ Nothing) → first_from from m (drop from ps) ≡ first_from j m (drop j ps)
skipped_to ps m from j low h none =
    let at : from + (j - from) ≡ j = omega (arith, low) in
    skipped ps m (j - from) from (omega (arith, h, low)) (λ i l u. none i l (omega (arith, u, low))) ∙ ap (λ (k : ℕ). first_from k m (drop k ps)) at
