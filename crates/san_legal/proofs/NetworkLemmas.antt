-- A network's draws are free.
use Rattle.std.proofs.Common.{ℕ, zero, suc, ◌+◌, ◌-◌, ◌<◌, ◌≤◌, ◌≡◌, ◌∙◌, ap, sym, refl, subst, arith, Bool, cond, nat_lt, List, [], ◌∷◌, length, map, take, Option, Some, Result, Ok, Err}
use Rattle.std.specs.Prelude.{slice_get, slice_index_or}
use Rattle.std.proofs.lemmas.Bool.{le-ltb, lt-ltb}
use Rattle.std.proofs.lemmas.List.Sums.{sum_by-cons}
use Rattle.san_base.specs.declared.ending.Trap.{Trap}
use Rattle.san_expr.specs.Meaning.{Evaluation, Meaning, go_on, joined, settled, then_do}
use Rattle.san_law.specs.Activity as leaf
use Rattle.san_law.specs.Network as law
use Rattle.san_net.specs.Accepted.{IsAccepted, IsAcceptedActivity, IsAcceptedKind}
use Rattle.san_net.specs.Choice.{all_natural, chosen, weights_of}
use Rattle.san_net.specs.Completion.{case_outputs, inputs_of, outputs_of}
use Rattle.san_net.specs.Instants.{Named}
use Rattle.san_net.specs.Laid.{EachPart, IsNetwork, acts_of}
use Rattle.san_net.specs.Leaf.{activities_from, activity_in, completed_in, effected_by, kind_in, leaf_of}
use Rattle.san_net.specs.Network.{Network, network_in}
use Rattle.san_net.specs.declared.activity.Activity.{Activity}
use Rattle.san_net.specs.declared.activity.ActKind.{ActKind}
use Rattle.san_net.specs.declared.activity.ActKind.TheVariants as kind
use Rattle.san_net.specs.declared.activity.Case.{Case}
use Rattle.san_net.specs.declared.activity.Input.{Input}
use Rattle.san_net.specs.declared.atomic.ImpulseTerm.{ImpulseTerm}
use Rattle.san_net.specs.declared.part.Part.{Part}
use Rattle.san_net.proofs.PartLemmas.{activities_long, part_is, part_there}
use Rattle.san_legal.specs.Free.{HasDelays, IsFree, IsFreeNetwork}
use Rattle.san_legal.specs.FreeRuns.{HasOwnStreams}
use Rattle.san_legal.specs.Laws.{KeptStatesAreThoseOfRuns, LegalEventsAreThoseOfRuns, LegalRunsAreThoseOfDraws}
use Rattle.san_legal.proofs.DelayLemmas.{are_delays}
use Rattle.san_legal.proofs.KeptRuns.{kept_states_are_those_of_runs, legal_events_are_those_of_runs, legal_runs_are_those_of_draws}

-- ---- a case tells what a completion does

same_case : (a b : ℕ) → (let r : Result ℕ Trap = Ok a in r) ≡ Ok b → a ≡ b
same_case a b e = cc

-- input functions and a case's outputs
abbrev rest_of : List Input → List Case → ℕ → Meaning ℕ
rest_of inputs cases k = then_do (inputs_of inputs) (λ _. then_do (outputs_of (case_outputs cases k)) (λ _. settled (Ok k)))

module _ (inputs : List Input) (cases : List Case) where
  last_case : (k case : ℕ) (r : Result (Unit {0}) Trap) (a : Evaluation (Unit {0})) → (go_on r a (λ _. settled (Ok k))).answer ≡ Ok case → k ≡ case
  last_case k case (Err t) a e = absurd cc
  last_case k case (Ok x) a e = same_case k case e

  rest_case : (k case : ℕ) (r : Result (Unit {0}) Trap) (a : Evaluation (Unit {0})) → (go_on r a (λ _. then_do (outputs_of (case_outputs cases k)) (λ _. settled (Ok k)))).answer ≡ Ok case → k ≡ case
  rest_case k case (Err t) a e = absurd cc
  rest_case k case (Ok x) a e = last_case k case (outputs_of (case_outputs cases k) a.left).answer (outputs_of (case_outputs cases k) a.left) e

  case_is : (k case : ℕ) (m : List ℕ) → (rest_of inputs cases k m).answer ≡ Ok case → k ≡ case
  case_is k case m e = rest_case k case (inputs_of inputs m).answer (inputs_of inputs m) e

  same_effect : (e f : leaf.Effected) → (let r : Result leaf.Effected Trap = Ok e in r) ≡ Ok f → e ≡ f
  same_effect e f h = cc

  -- whatever is chosen, the case that is told leads there
  abbrev LeadsTo : List ℕ → leaf.Effected → Type 0
  LeadsTo m e = e.values ≡ (rest_of inputs cases e.case m).left

  by_answer : (k : ℕ) (m : List ℕ) (o : Evaluation ℕ) (e : leaf.Effected) → o.left ≡ (rest_of inputs cases k m).left → (r : Result ℕ Trap) → ((case : ℕ) → r ≡ Ok case → k ≡ case) → effected_by o r ≡ Ok e → LeadsTo m e
  by_answer k m o e left (Err t) is h = absurd cc
  by_answer k m o e left (Ok case) is h =
      let same : (let y : leaf.Effected = record { case = case; values = o.left; sets = o.sets } in y) ≡ e = same_effect (record { case = case; values = o.left; sets = o.sets }) e h in
      let told : k ≡ e.case = is case refl ∙ ap (λ (x : leaf.Effected). x.case) same in
      sym (ap (λ (x : leaf.Effected). x.values) same) ∙ (left ∙ ap (λ (i : ℕ). (rest_of inputs cases i m).left) told)

  by_choice : (a : Evaluation ℕ) (c : Result ℕ Trap) (e : leaf.Effected) → effected_by (go_on c a (rest_of inputs cases)) (go_on c a (rest_of inputs cases)).answer ≡ Ok e → LeadsTo a.left e
  by_choice a (Err t) e h = absurd cc
  by_choice a (Ok k) e h = by_answer k a.left (go_on (Ok k) a (rest_of inputs cases)) e refl (rest_of inputs cases k a.left).answer (λ case is. case_is k case a.left is) h

  module _ (v : List ℕ) where
    abbrev weighed : Evaluation (List (Option ℕ))
    weighed = weights_of cases v

    by_weights : (u : ℕ) (r : Result (List (Option ℕ)) Trap) (e : leaf.Effected)
        → effected_by (go_on (go_on r weighed (λ ys. settled (chosen u (all_natural ys)))).answer (go_on r weighed (λ ys. settled (chosen u (all_natural ys)))) (rest_of inputs cases)) (go_on (go_on r weighed (λ ys. settled (chosen u (all_natural ys)))).answer (go_on r weighed (λ ys. settled (chosen u (all_natural ys)))) (rest_of inputs cases)).answer ≡ Ok e
        → LeadsTo weighed.left e
    by_weights u (Err t) e h = absurd cc
    by_weights u (Ok ys) e h = by_choice (joined weighed (settled (chosen u (all_natural ys)) weighed.left)) (chosen u (all_natural ys)) e h

leads_to : (a : Activity) (u : ℕ) (v : List ℕ) (e : leaf.Effected) → completed_in a u v ≡ Ok e → LeadsTo a.inputs a.cases (weights_of a.cases v).left e
leads_to a u v e h = by_weights a.inputs a.cases v u (weights_of a.cases v).answer e h

-- ---- activities

kind_delays : (k : ActKind) → IsAcceptedKind k → HasDelays (kind_in k)
kind_delays (kind.Timed delay pair) accepted = are_delays delay accepted
kind_delays (kind.Instant priority) accepted = tt

free_activity : (terms : List ImpulseTerm) (k : ℕ) (a : Activity) → IsAcceptedKind a.kind → IsFree (activity_in terms k a)
free_activity terms k a accepted = record {
  delays = kind_delays a.kind accepted;
  cases = λ u w v e f he hf same. leads_to a u v e he ∙ (ap (λ (i : ℕ). (rest_of a.inputs a.cases i (weights_of a.cases v).left).left) same ∙ sym (leads_to a w v f hf));
}

none_free : IsFree leaf.no_activity
none_free = record { delays = tt; cases = λ u w v e f he hf same. absurd cc }

activities_free : (terms : List ImpulseTerm) (n : ℕ) (acts : List Named) → ((i : ℕ) (a : Named) → slice_get acts i ≡ Some a → IsAcceptedKind a.1.kind) → (i : ℕ) → IsFree (slice_index_or (activities_from terms n acts) i leaf.no_activity)
activities_free terms n [] accepted i = none_free
activities_free terms n (a ∷ acts) accepted zero = free_activity terms n a.1 (accepted 0 a refl)
activities_free terms n (a ∷ acts) accepted (suc i) = activities_free terms (suc n) acts (λ l x is. accepted (suc l) x is) i

abbrev LeafFree : leaf.Part → Type 0
LeafFree part = (i : ℕ) → IsFree (leaf.activity_of part i)

leaves_free : (parts : List Part) → EachPart parts (λ _ p. LeafFree (leaf_of p)) → (j : ℕ) → LeafFree (slice_index_or (map leaf_of parts) j law.no_part)
leaves_free [] each j = λ i. none_free
leaves_free (p ∷ parts) each zero = each 0 p refl
leaves_free (p ∷ parts) each (suc j) = leaves_free parts (λ n q is. each (suc n) q is) j

-- of a list of accepted activities each is accepted
kinds_accepted : (cells : ℕ) (acts : List Named) → ((i : ℕ) (d : Named) → i < length acts → IsAcceptedActivity cells (slice_index_or acts i d).1) → (i : ℕ) (a : Named) → slice_get acts i ≡ Some a → IsAcceptedKind a.1.kind
kinds_accepted cells [] all i a is = absurd cc
kinds_accepted cells (x ∷ acts) all zero a is =
    let same : x ≡ a = same_named x a is in
    subst (λ (y : Named). IsAcceptedKind y.1.kind) same (all 0 x (omega arith)).kind
  where
    same_named : (x y : Named) → (let o : Option Named = Some x in o) ≡ Some y → x ≡ y
    same_named x y e = cc
kinds_accepted cells (x ∷ acts) all (suc i) a is = kinds_accepted cells acts (λ l d h. all (suc l) d (omega (arith, h))) i a is

part_free : (p : Part) → IsAccepted p.atomic → LeafFree (leaf_of p)
part_free p accepted i = activities_free p.atomic.impulses 0 p.atomic.acts (kinds_accepted (length p.atomic.initial) p.atomic.acts accepted.activities) i

-- ---- streams apart

-- the leaf of an activity's number, and its number there
place_in : List Part → ℕ → ℕ × ℕ
place_in [] a = (0, a)
place_in (p ∷ parts) a = cond (nat_lt a (length p.atomic.acts)) (0, a) (suc (place_in parts (a - length p.atomic.acts)).0, (place_in parts (a - length p.atomic.acts)).1)

-- behind a part
place_over : (q : Part) (parts : List Part) (a : ℕ) (x : ℕ × ℕ) → length q.atomic.acts ≤ a → place_in parts (a - length q.atomic.acts) ≡ x → place_in (q ∷ parts) a ≡ (suc x.0, x.1)
unfolding place_in
place_over q parts a x over rest =
    ap (λ (b : Bool). cond b (0, a) (suc (place_in parts (a - length q.atomic.acts)).0, (place_in parts (a - length q.atomic.acts)).1)) (le-ltb a (length q.atomic.acts) over)
    ∙ ap (λ (y : ℕ × ℕ). (let z : ℕ × ℕ = (suc y.0, y.1) in z)) rest

place_is : (parts : List Part) (j k : ℕ) (p : Part) → slice_get parts j ≡ Some p → k < length p.atomic.acts → place_in parts (acts_of (take j parts) + k) ≡ (j, k)
unfolding place_in
place_is [] j k p is h = absurd cc
place_is (q ∷ parts) zero k p is h =
    let same : q ≡ p = same_part q p is in
    let inside : k < length q.atomic.acts = subst (λ (x : Part). k < length x.atomic.acts) (sym same) h in
    let at : acts_of (take 0 (q ∷ parts)) + k ≡ k = omega arith in
    ap (place_in (q ∷ parts)) at ∙ ap (λ (b : Bool). cond b (0, k) (suc (place_in parts (k - length q.atomic.acts)).0, (place_in parts (k - length q.atomic.acts)).1)) (lt-ltb k (length q.atomic.acts) inside)
  where
    same_part : (x y : Part) → (let o : Option Part = Some x in o) ≡ Some y → x ≡ y
    same_part x y e = cc
place_is (q ∷ parts) (suc j) k p is h =
    let n : ℕ = length q.atomic.acts in
    let a : ℕ = acts_of (take (suc j) (q ∷ parts)) + k in
    let more : acts_of (take (suc j) (q ∷ parts)) ≡ n + acts_of (take j parts) = sum_by-cons (λ (x : Part). length x.atomic.acts) q (take j parts) in
    let over : n ≤ a = omega (arith, more) in
    let left : a - n ≡ acts_of (take j parts) + k = omega (arith, more) in
    place_over q parts a (j, k) over (ap (place_in parts) left ∙ place_is parts j k p is h)

module _ (n : Network) (net : IsNetwork n) where
  acts_there : (j k : ℕ) → k < length (law.part_at (network_in n) j).activities → j < length n.parts
  acts_there j k h = by_parts n.parts j h
    where
      by_parts : (parts : List Part) (i : ℕ) → k < length (slice_index_or (map leaf_of parts) i law.no_part).activities → i < length parts
      by_parts [] i h = absurd (omega (arith, h))
      by_parts (p ∷ parts) zero h = omega arith
      by_parts (p ∷ parts) (suc i) h = let more = by_parts parts i h in omega (arith, more)

  place_of_act : (j k : ℕ) → k < length (law.part_at (network_in n) j).activities → place_in n.parts ((law.part_at (network_in n) j).first + k) ≡ (j, k)
  place_of_act j k h =
      let there = part_there n.parts j (acts_there j k h) in
      let p = there.0 in
      let same : law.part_at (network_in n) j ≡ leaf_of p = part_is n j p there.1 in
      let inside : k < length p.atomic.acts = (let at : k < length (leaf_of p).activities = subst (λ (x : leaf.Part). k < length x.activities) same h in omega (arith, at, activities_long p.atomic.impulses 0 p.atomic.acts)) in
      let first : (law.part_at (network_in n) j).first ≡ acts_of (take j n.parts) = ap (λ (x : leaf.Part). x.first) same ∙ net.numbered.acts j p there.1 in
      ap (λ (x : ℕ). place_in n.parts (x + k)) first ∙ place_is n.parts j k p there.1 inside

  streams_apart : HasOwnStreams (network_in n)
  streams_apart = record {
    leaf_of = λ a. (place_in n.parts a).0;
    act_of = λ a. (place_in n.parts a).1;
    leaf = λ j k h. ap (λ (x : ℕ × ℕ). x.0) (place_of_act j k h);
    act = λ j k h. ap (λ (x : ℕ × ℕ). x.1) (place_of_act j k h);
  }

pub networks_are_free : (n : Network) → IsNetwork n → IsFreeNetwork (network_in n)
networks_are_free n net = record {
  each = λ j i. leaves_free n.parts (λ m p is. part_free p (net.accepted m p is)) j i;
  apart = streams_apart n net;
}

pub networks_kept : (n : Network) → IsNetwork n → KeptStatesAreThoseOfRuns (network_in n)
networks_kept n net = kept_states_are_those_of_runs (network_in n) (networks_are_free n net)

pub networks_events : (n : Network) → IsNetwork n → LegalEventsAreThoseOfRuns (network_in n)
networks_events n net = legal_events_are_those_of_runs (network_in n) (networks_are_free n net)

pub networks_runs : (n : Network) → IsNetwork n → LegalRunsAreThoseOfDraws (network_in n)
networks_runs n net = legal_runs_are_those_of_draws (network_in n) (networks_are_free n net)
