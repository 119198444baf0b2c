-- A leaf's completion with its next case draw.
use Rattle.std.proofs.Common.{ℕ, zero, suc, ◌+◌, ◌*◌, ◌≡◌, ◌∙◌, ap, sym, refl, arith, List, [], ◌∷◌, length, Option, Some, Result, Ok, Err, slice_index, slice_index_or}
use Rattle.std.specs.Prelude.{slice_get}
use Rattle.san_base.specs.declared.ending.Trap.{Trap}
use Rattle.san_clock.specs.Rows.{counted_by}
use Rattle.san_law.proofs.Places.{scatter_length}
use Rattle.san_law.specs.Activity.{Activity, Effected, activity_of, completed, done_by, no_activity, with_case}
use Rattle.san_law.specs.Activity as leaf
use Rattle.san_law.specs.Net.{Row}
use Rattle.san_law.specs.Network as law
use Rattle.san_net.specs.Network.{Network, network_in}
use Rattle.san_net.proofs.PartLemmas.{part_is, places_are}
use Rattle.san_law.specs.State.{gather}
use Rattle.san_net.specs.Instants.{Named}
use Rattle.san_net.specs.Laid.{places_of}
use Rattle.san_net.specs.Leaf.{activities_from, activity_in, completed_in}
use Rattle.san_net.specs.declared.atomic.ImpulseTerm.{ImpulseTerm}
use Rattle.san_net.specs.declared.part.Part.{Part}
use Rattle.san_seq.proofs.CompletionLemmas.{values_left}
use Rattle.san_seq.specs.inner.Completions.{completed_by, leaf_left, part_left, done_left}

some_is : {A : Type 0} (x y : A) → (let o : Option A = Some x in o) ≡ Some y → x ≡ y
some_is x y e = cc

-- a leaf's activity by number
act_is : (terms : List ImpulseTerm) (j : ℕ) (acts : List Named) (k : ℕ) (a : Named) → slice_get acts k ≡ Some a → slice_index_or (activities_from terms j acts) k no_activity ≡ activity_in terms (j + k) a.1
act_is terms j [] k a is = cc
act_is terms j (b ∷ acts) zero a is = let none : j ≡ j + 0 = omega arith in ap (λ (x : Named). activity_in terms j x.1) (some_is b a is) ∙ ap (λ (i : ℕ). activity_in terms i a.1) none
act_is terms j (b ∷ acts) (suc k) a is = let next : suc j + k ≡ j + suc k = omega arith in act_is terms (suc j) acts k a is ∙ ap (λ (i : ℕ). activity_in terms i a.1) next

-- the completion's case and marking
module _ (places m : List ℕ) (row : Row) (k : ℕ) (act : Activity) where
  by_result : (r : Result Effected Trap) → completed_by (values_left places m r).0 (values_left places m r).1 (with_case row k) ≡ done_left places m (done_by row k act r)
  by_result (Ok e) = refl
  by_result (Err trap) = refl

pub done_is : (p : Part) (draw : ℕ → ℕ → ℕ) (k u : ℕ) (m after : List ℕ) (row : Row) (a : Named) (case : Result ℕ Trap) → slice_get p.atomic.acts k ≡ Some a
    → u ≡ draw (2 * (p.first.0 + k) + 1) (slice_index row.cases k)
    → (case, after) ≡ values_left (places_of p) m (completed_in a.1 u (gather (places_of p) m))
    → completed_by case after (with_case row k) ≡ part_left draw p k m row
done_is p draw k u m after row a case is drawn did =
    let act : Activity = activity_in p.atomic.impulses (0 + k) a.1 in
    ap (λ (x : Result ℕ Trap × List ℕ). completed_by x.0 x.1 (with_case row k)) did
    ∙ ap (λ (n : ℕ). completed_by (values_left (places_of p) m (completed_in a.1 n (gather (places_of p) m))).0 (values_left (places_of p) m (completed_in a.1 n (gather (places_of p) m))).1 (with_case row k)) drawn
    ∙ by_result (places_of p) m row k act (completed_in a.1 (draw (2 * (p.first.0 + k) + 1) (slice_index row.cases k)) (gather (places_of p) m))
    ∙ ap (λ (x : Activity). done_left (places_of p) m (done_by row k x (x.complete (draw (2 * (p.first.0 + k) + 1) (slice_index row.cases k)) (gather (places_of p) m)))) (sym (act_is p.atomic.impulses 0 p.atomic.acts k a is))

-- a trap takes no draw
pub counted_same : (case : Result ℕ Trap) (m : List ℕ) (row : Row) (k : ℕ) → completed_by case m (counted_by case row k) ≡ completed_by case m (with_case row k)
counted_same (Ok case) m row k = refl
counted_same (Err trap) m row k = refl

pub not_counted : (case : Result ℕ Trap) (trap : Trap) (row now : Row) (k : ℕ) → case ≡ Err trap → now ≡ counted_by case row k → now ≡ row
not_counted case trap row now k is e = e ∙ ap (λ (r : Result ℕ Trap). counted_by r row k) is

-- a trap leaves the marking
pub kept_is : (places m after : List ℕ) (trap : Trap) (r : Result Effected Trap) → ((let x : Result ℕ Trap = Err trap in x), after) ≡ values_left places m r → after ≡ m
kept_is places m after trap (Ok e) is = let both : (let x : Result ℕ Trap = Err trap in x) ≡ Ok e.case = ap (λ x. x.0) is in absurd cc
kept_is places m after trap (Err other) is = ap (λ x. x.1) is

pub sized_is : (places m after : List ℕ) (case : Result ℕ Trap) (r : Result Effected Trap) → (case, after) ≡ values_left places m r → length after ≡ length m
sized_is places m after case (Ok e) is = ap (λ x. length x.1) is ∙ scatter_length places e.values m
sized_is places m after case (Err trap) is = ap (λ x. length x.1) is

-- a part's completion is its leaf's in the network
pub done_there : (n : Network) (draw : ℕ → ℕ → ℕ) (limits : law.Limits) (j k : ℕ) (p : Part) (m : List ℕ) (row : Row) → slice_get n.parts j ≡ Some p
    → part_left draw p k m row ≡ leaf_left n draw limits j k m row
done_there n draw limits j k p m row is =
    ap (λ (q : leaf.Part). done_left (places_of p) m (completed draw q k (record { values = gather (places_of p) m; row = row }))) (sym (part_is n j p is))
    ∙ ap (λ (ps : List ℕ). done_left ps m (completed draw (law.part_at (network_in n) j) k (record { values = gather ps m; row = row }))) (sym (places_are n j p is draw limits))
