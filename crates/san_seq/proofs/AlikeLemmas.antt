-- Markings of which a leaf's weights see the same are alike for it.
use Rattle.san_base.proofs.NumberTests.{some_same}
use Rattle.std.proofs.Common.{ℕ, zero, suc, ◌+◌, ◌<◌, ◌≤◌, ◌≡◌, ◌≢◌, ◌∙◌, ◌⊎◌, ◌||◌, ◌&&◌, inl, inr, ap, sym, refl, subst, arith, List, [], ◌∷◌, length, Option, Some, None, Result, Ok, Err, Bool, true, false, nat_eq, nat_lt, nat_le, cond, slice_index, slice_index_or}
use Rattle.std.specs.Prelude.{slice_get, IfSome, not}
use Rattle.std.proofs.lemmas.Bool.{cases_lt, eq-eqb, lt-ltb, le-ltb, le-leb, lt-leb, ne_eqb}
use Rattle.std.proofs.lemmas.List.Elements.{All-head, All-tail}
use Rattle.san_base.specs.declared.ending.Trap.{Trap}
use Rattle.san_expr.specs.Meaning.{go_on, settled}
use Rattle.san_expr.specs.Mentions.{mentions}
use Rattle.san_expr.specs.Value.{is_zero, value_of}
use Rattle.san_expr.specs.declared.expr.Expr.{Expr}
use Rattle.san_expr.proofs.ConcernLemmas.{concerns_settled, concerns_then, value_concerns}
use Rattle.san_law.specs.Activity as leaf
use Rattle.san_law.specs.Clocks.{IsSteady, answers, has_pair, some_pair, steady, steady_act}
use Rattle.san_law.specs.Net as net
use Rattle.san_law.specs.State.{gather}
use Rattle.san_net.specs.Accepted.{IsAccepted}
use Rattle.san_net.specs.Enabled.{all_hold, and_then, has_tokens, predicate_of, truth_of}
use Rattle.san_net.specs.Instants.{Named}
use Rattle.san_net.specs.Laid.{places_of}
use Rattle.san_net.specs.Leaf.{activities_from, activity_in, answer_by, enabled_in, first_in, kind_in, leaf_of}
use Rattle.san_net.specs.declared.activity.ActKind.{ActKind}
use Rattle.san_net.specs.declared.activity.ActKind.TheVariants as kind
use Rattle.san_net.specs.declared.activity.Activity.{Activity}
use Rattle.san_net.specs.declared.activity.Input.{Input}
use Rattle.san_net.specs.declared.activity.Input.TheVariants as input
use Rattle.san_net.specs.declared.atomic.ImpulseTerm.{ImpulseTerm}
use Rattle.san_net.specs.declared.part.Part.{Part}
use Rattle.san_net.proofs.ConcernLemmas.{truth_reads}
use Rattle.san_net.proofs.FirstLaws.{first_is_first}
use Rattle.san_net.proofs.CellLemmas.{cells_are}
use Rattle.san_seq.specs.declared.concern.Concern.{Concern}
use Rattle.san_seq.specs.declared.concern.Concern.TheVariants as concern
use Rattle.san_seq.specs.inner.Known.{AreSameOn, SeesSame}
use Rattle.san_seq.specs.inner.Nexts.{first_of_part}
use Rattle.san_seq.specs.inner.Wakes.{EachInstant, EachOf, EachOfAct, EachTimed, EachWeight, level, weight_at}
use Rattle.san_seq.proofs.WeightLemmas.{all_at, each_always, each_weaker, inputs_always}

-- by a weight that sees the same, both values are as great or neither
as_great : (w a b : ℕ) → level w a ≡ level w b → nat_lt a w ≡ nat_lt b w
as_great w a b h = by_case (cases_lt a w) (cases_lt b w)
  where
    below : (v : ℕ) → v < w → level w v ≡ 0
    below v l = ap (λ (t : Bool). cond t v (cond (nat_le w v) 1 0)) (ne_eqb w 0 (omega (arith, l))) ∙ ap (λ (t : Bool). cond t 1 0) (lt-leb w v l)

    reached : (v : ℕ) → w ≢ 0 → w ≤ v → level w v ≡ 1
    reached v n l = ap (λ (t : Bool). cond t v (cond (nat_le w v) 1 0)) (ne_eqb w 0 n) ∙ ap (λ (t : Bool). cond t 1 0) (le-leb w v l)

    by_case : (a < w) ⊎ (w ≤ a) → (b < w) ⊎ (w ≤ b) → nat_lt a w ≡ nat_lt b w
    by_case (inl l) (inl m) = lt-ltb a w l ∙ sym (lt-ltb b w m)
    by_case (inr l) (inr m) = le-ltb a w l ∙ sym (le-ltb b w m)
    by_case (inl l) (inr m) = absurd (let e : 0 ≡ 1 = sym (below a l) ∙ h ∙ reached b (omega (arith, l)) m in omega (arith, e))
    by_case (inr l) (inl m) = absurd (let e : 1 ≡ 0 = sym (reached a (omega (arith, m)) l) ∙ h ∙ below b m in omega (arith, e))

-- what predicates come to, by the first of them
abbrev and_answer : Result Bool Trap → Result Bool Trap → Result Bool Trap
and_answer (Ok true) rest = rest
and_answer (Ok false) rest = Ok false
and_answer (Err trap) rest = Err trap

predicate_left : (i : Input) (v : List ℕ) → (predicate_of i v).left ≡ v
predicate_left (input.Arc p w) v = refl
predicate_left (input.Gate e body) v = (truth_reads e v).0

holds_by : (i : Input) (inputs : List Input) (v : List ℕ) → (all_hold (i ∷ inputs) v).answer ≡ and_answer (predicate_of i v).answer (all_hold inputs v).answer
holds_by i inputs v = by_answer (predicate_of i v).answer ∙ ap (λ (u : List ℕ). and_answer (predicate_of i v).answer (all_hold inputs u).answer) (predicate_left i v)
  where
    by_answer : (r : Result Bool Trap) → (go_on r (predicate_of i v) (and_then (all_hold inputs))).answer ≡ and_answer r (all_hold inputs (predicate_of i v).left).answer
    by_answer (Ok true) = refl
    by_answer (Ok false) = refl
    by_answer (Err trap) = refl

-- values that each weight sees the same of
module _ (v u : List ℕ) (sized : length v ≡ length u) where
  abbrev Sees : ℕ → ℕ → Type 0
  Sees q w = level w (slice_index v q) ≡ level w (slice_index u q)

  gate_alike : (e : Expr) → ((q : ℕ) → IfSome (cond (mentions e q) (let o : Option ℕ = Some 0 in o) None) (Sees q)) → (truth_of e v).answer ≡ (truth_of e u).answer
  gate_alike e same =
      let cells = mentions e in
      let law = concerns_then cells (value_of e) (λ x. settled (Ok (not (is_zero x)))) (value_concerns e) (λ x. concerns_settled cells (Ok (not (is_zero x)))) in
      (law.alike v u (record { sized = sized; same = λ q named. subst (λ (t : Bool). IfSome (cond t (let o : Option ℕ = Some 0 in o) None) (Sees q)) named (same q) })).answer

  arc_alike : (p w : ℕ) → ((q : ℕ) → IfSome (cond (nat_eq q p) (Some w) None) (Sees q)) → (has_tokens p w v).answer ≡ (has_tokens p w u).answer
  arc_alike p w same =
      let here : Sees p w = subst (λ (t : Bool). IfSome (cond t (Some w) None) (Sees p)) (eq-eqb p p refl) (same p) in
      ap (λ (t : Bool). (let r : Result Bool Trap = Ok (not t) in r)) (as_great w (slice_index v p) (slice_index u p) here)

  predicate_alike : (i : Input) → ((q : ℕ) → IfSome (weight_at i q) (Sees q)) → (predicate_of i v).answer ≡ (predicate_of i u).answer
  predicate_alike (input.Arc p w) same = arc_alike p w same
  predicate_alike (input.Gate e body) same = gate_alike e same

  inputs_alike : (inputs : List Input) → ((q : ℕ) → EachOf inputs q (Sees q)) → (all_hold inputs v).answer ≡ (all_hold inputs u).answer
  inputs_alike [] same = refl
  inputs_alike (i ∷ inputs) same =
      holds_by i inputs v
      ∙ ap (λ (r : Result Bool Trap). and_answer r (all_hold inputs v).answer) (predicate_alike i (λ q. All-head (λ y. IfSome (weight_at y q) (Sees q)) i inputs (same q)))
      ∙ ap (and_answer (predicate_of i u).answer) (inputs_alike inputs (λ q. All-tail (λ y. IfSome (weight_at y q) (Sees q)) i inputs (same q)))
      ∙ sym (holds_by i inputs u)

  -- an activity that is enabled in one is so in the other
  enabled_alike : (x : Concern) (acts : List Named) (k : ℕ) (a : Named) → ((q : ℕ) → EachWeight x acts q (Sees q)) → slice_get acts k ≡ Some a
      → (((q : ℕ) → EachOfAct x a.1 q (Sees q)) → (q : ℕ) → EachOf a.1.inputs q (Sees q)) → enabled_in a.1 v ≡ enabled_in a.1 u
  enabled_alike x acts k a same is part = ap answer_by (inputs_alike a.1.inputs (part (λ q. all_at (λ y. EachOfAct x y.1 q (Sees q)) acts k a (same q) is)))

-- what holds of each number in an order
abbrev AllOf : (ℕ → Type 0) → List (ℕ × ℕ) → Type 0
AllOf P [] = Unit {0}
AllOf P (y ∷ ys) = P y.1 × AllOf P ys

all_placed : (P : ℕ → Type 0) (y : ℕ × ℕ) (ys : List (ℕ × ℕ)) → P y.1 → AllOf P ys → AllOf P (leaf.placed y ys)
all_placed P y [] h a = (h, tt)
all_placed P y (z ∷ zs) h a = by_test (nat_lt y.0 z.0) (all_placed P y zs h a.1)
  where
    by_test : (b : Bool) → AllOf P (leaf.placed y zs) → AllOf P (cond b (z ∷ leaf.placed y zs) (y ∷ z ∷ zs))
    by_test true rest = (a.0, rest)
    by_test false rest = (h, a)

abbrev IsInstant : ActKind → Type 0
IsInstant (kind.Timed delay pair) = ⊥
IsInstant (kind.Instant priority) = Unit {0}

abbrev IsTimed : ActKind → Type 0
IsTimed (kind.Timed delay pair) = Unit {0}
IsTimed (kind.Instant priority) = ⊥

-- each of the instantaneous activities in their order
all_instants : (P : ℕ → Type 0) (terms : List ImpulseTerm) (k : ℕ) (acts : List Named) → ((i : ℕ) (a : Named) → slice_get acts i ≡ Some a → IsInstant a.1.kind → P (k + i)) → AllOf P (leaf.instants_from k (activities_from terms k acts))
all_instants P terms k [] each = tt
all_instants P terms k (a ∷ acts) each =
    by_kind a.1.kind (λ i. subst P (let e : k + 0 ≡ k = omega arith in e) (each 0 a refl i))
    (all_instants P terms (suc k) acts (λ i b is t. subst P (let e : k + suc i ≡ suc k + i = omega arith in e) (each (suc i) b is t)))
  where
    by_kind : (c : ActKind) → (IsInstant c → P k) → AllOf P (leaf.instants_from (suc k) (activities_from terms (suc k) acts)) → AllOf P (leaf.placed_by k (kind_in c) (leaf.instants_from (suc k) (activities_from terms (suc k) acts)))
    by_kind (kind.Timed delay pair) here rest = rest
    by_kind (kind.Instant priority) here rest = all_placed P (priority, k) (leaf.instants_from (suc k) (activities_from terms (suc k) acts)) (here tt) rest

abbrev IsLike : leaf.Part → List ℕ → List ℕ → ℕ → Type 0
IsLike part v w k = (leaf.activity_of part k).enabled v ≡ (leaf.activity_of part k).enabled w

found_alike : (part : leaf.Part) (v w : List ℕ) (order : List (ℕ × ℕ)) → AllOf (IsLike part v w) order → leaf.first_in part v order ≡ leaf.first_in part w order
found_alike part v w [] all = refl
found_alike part v w (x ∷ xs) all =
    ap (λ (a : leaf.Answer). leaf.found_by a x.1 (leaf.first_in part v xs)) all.0
    ∙ ap (leaf.found_by ((leaf.activity_of part x.1).enabled w) x.1) (found_alike part v w xs all.1)

activity_at : (terms : List ImpulseTerm) (n : ℕ) (acts : List Named) (k : ℕ) (a : Named) (v : List ℕ) → slice_get acts k ≡ Some a → (slice_index_or (activities_from terms n acts) k leaf.no_activity).enabled v ≡ enabled_in a.1 v
activity_at terms n [] k a v is = absurd cc
activity_at terms n (b ∷ acts) zero a v is = ap (λ (y : Named). enabled_in y.1 v) (some_same b a is)
activity_at terms n (b ∷ acts) (suc k) a v is = activity_at terms (suc n) acts k a v is

module _ (v u : List ℕ) where
  abbrev Shows : ℕ → ℕ → Type 0
  Shows q w = level w (slice_index v q) ≡ level w (slice_index u q)

  instant_part : (c : ActKind) (a : Activity) → IsInstant c → ((q : ℕ) → EachInstant c a q (Shows q)) → (q : ℕ) → EachOf a.inputs q (Shows q)
  instant_part (kind.Timed delay pair) a i h q = absurd i
  instant_part (kind.Instant priority) a i h q = h q

  timer_part : (c : ActKind) (a : Activity) → IsTimed c → ((q : ℕ) → EachTimed c a q (Shows q)) → (q : ℕ) → EachOf a.inputs q (Shows q)
  timer_part (kind.Timed delay None) a i h q = h q
  timer_part (kind.Timed delay (Some pair)) a i h q = inputs_always q (Shows q) (λ w. ap (level w) (h q)) a.inputs
  timer_part (kind.Instant priority) a i h q = absurd i

-- what stands first is the same in both
first_alike : (p : Part) (v w : List ℕ) → IsAccepted p.atomic → length v ≡ length w → ((q : ℕ) → EachWeight concern.Instants p.atomic.acts q (Shows v w q)) → first_in p.atomic v ≡ first_in p.atomic w
first_alike p v w ok sized same =
    first_is_first p v ok
    ∙ found_alike (leaf_of p) v w (leaf.instants_from 0 (leaf_of p).activities) (all_instants (IsLike (leaf_of p) v w) p.atomic.impulses 0 p.atomic.acts each)
    ∙ sym (first_is_first p w ok)
  where
    each : (i : ℕ) (a : Named) → slice_get p.atomic.acts i ≡ Some a → IsInstant a.1.kind → IsLike (leaf_of p) v w (0 + i)
    each i a is t =
        let e : i ≡ 0 + i = omega arith in
        subst (IsLike (leaf_of p) v w) e
        (activity_at p.atomic.impulses 0 p.atomic.acts i a v is ∙ enabled_alike v w sized concern.Instants p.atomic.acts i a same is (instant_part v w a.1.kind a.1 t) ∙ sym (activity_at p.atomic.impulses 0 p.atomic.acts i a w is))

-- a row that is steady in one is so in the other
steady_one : (terms : List ImpulseTerm) (k : ℕ) (a : Named) (c : ActKind) (x : Option net.Timer) (v w : List ℕ) → (IsTimed c → enabled_in a.1 v ≡ enabled_in a.1 w) → steady_act v (activity_in terms k a.1) (kind_in c) x ≡ steady_act w (activity_in terms k a.1) (kind_in c) x
steady_one terms k a (kind.Instant priority) x v w h = refl
steady_one terms k a (kind.Timed delay pair) x v w h = ap (λ (t : leaf.Answer). answers t x) (h tt)

steady_all : (terms : List ImpulseTerm) (k : ℕ) (acts : List Named) (ts : List (Option net.Timer)) (ns : List ℕ) (v w : List ℕ) → ((i : ℕ) (a : Named) → slice_get acts i ≡ Some a → IsTimed a.1.kind → enabled_in a.1 v ≡ enabled_in a.1 w)
    → steady v (activities_from terms k acts) ts ns ≡ steady w (activities_from terms k acts) ts ns
steady_all terms k [] ts ns v w each = refl
steady_all terms k (a ∷ acts) [] ns v w each = refl
steady_all terms k (a ∷ acts) (t ∷ ts) [] v w each = refl
steady_all terms k (a ∷ acts) (t ∷ ts) (n ∷ ns) v w each =
    ap (λ (b : Bool). b && steady v (activities_from terms (suc k) acts) ts ns) (steady_one terms k a a.1.kind t v w (each 0 a refl))
    ∙ ap (λ (b : Bool). steady_act w (activity_in terms k a.1) (kind_in a.1.kind) t && b) (steady_all terms (suc k) acts ts ns v w (λ i b is. each (suc i) b is))

steady_alike : (p : Part) (v w : List ℕ) (r : net.Row) → length v ≡ length w → ((q : ℕ) → EachWeight concern.Timers p.atomic.acts q (Shows v w q)) → IsSteady (leaf_of p) v r → IsSteady (leaf_of p) w r
steady_alike p v w r sized same is =
    sym (steady_all p.atomic.impulses 0 p.atomic.acts r.timers r.delays v w (λ i a at t. enabled_alike v w sized concern.Timers p.atomic.acts i a same at (timer_part v w a.1.kind a.1 t))) ∙ is

-- a leaf with a pair hangs on all its values
pair_one : (c : ActKind) (a : Activity) (q : ℕ) (P : ℕ → Type 0) → has_pair (kind_in c) ≡ true → EachTimed c a q P → P 0
pair_one (kind.Instant priority) a q P h each = absurd cc
pair_one (kind.Timed delay None) a q P h each = absurd cc
pair_one (kind.Timed delay (Some pair)) a q P h each = each

pub pair_all : (terms : List ImpulseTerm) (k : ℕ) (acts : List Named) (q : ℕ) (P : ℕ → Type 0) → some_pair (activities_from terms k acts) ≡ true → EachWeight concern.Timers acts q P → P 0
pair_all terms k [] q P h each = absurd cc
pair_all terms k (a ∷ acts) q P h each = by_test (has_pair (kind_in a.1.kind)) refl h (λ f. pair_all terms (suc k) acts q P f (All-tail (λ y. EachOfAct concern.Timers y.1 q P) a acts each))
  where
    by_test : (b : Bool) → has_pair (kind_in a.1.kind) ≡ b → (b || some_pair (activities_from terms (suc k) acts)) ≡ true → (some_pair (activities_from terms (suc k) acts) ≡ true → P 0) → P 0
    by_test true e f rest = pair_one a.1.kind a.1 q P e (All-head (λ y. EachOfAct concern.Timers y.1 q P) a acts each)
    by_test false e f rest = rest f

-- markings of the whole network
pub record IsCellOf (places : List ℕ) (i : ℕ) (a b : List ℕ) : Type 0 where
  pub place : ℕ
  pub at : slice_get places i ≡ Some place
  pub one : slice_index (gather places a) i ≡ slice_index a place
  pub other : slice_index (gather places b) i ≡ slice_index b place

gathered : (places a b : List ℕ) (i : ℕ) → IsCellOf places i a b ⊎ (slice_index (gather places a) i ≡ slice_index (gather places b) i)
gathered [] a b i = inr refl
gathered (p ∷ ps) a b zero = inl (record { place = p; at = refl; one = refl; other = refl })
gathered (p ∷ ps) a b (suc i) = by_rest (gathered ps a b i)
  where
    by_rest : IsCellOf ps i a b ⊎ (slice_index (gather ps a) i ≡ slice_index (gather ps b) i) → IsCellOf (p ∷ ps) (suc i) a b ⊎ (slice_index (gather (p ∷ ps) a) (suc i) ≡ slice_index (gather (p ∷ ps) b) (suc i))
    by_rest (inl c) = inl (record { place = c.place; at = c.at; one = c.one; other = c.other })
    by_rest (inr e) = inr e

shows_same : (x : Concern) (p : Part) (a b : List ℕ) → AreSameOn x p a b → (i : ℕ) → EachWeight x p.atomic.acts i (Shows (gather (places_of p) a) (gather (places_of p) b) i)
shows_same x p a b same i = by_case (gathered (places_of p) a b i)
  where
    by_case : IsCellOf (places_of p) i a b ⊎ (slice_index (gather (places_of p) a) i ≡ slice_index (gather (places_of p) b) i) → EachWeight x p.atomic.acts i (Shows (gather (places_of p) a) (gather (places_of p) b) i)
    by_case (inl c) =
        each_weaker i (SeesSame a b c.place) (Shows (gather (places_of p) a) (gather (places_of p) b) i) (λ w h. ap (level w) c.one ∙ h ∙ sym (ap (level w) c.other)) x p.atomic.acts (same i c.place c.at)
    by_case (inr e) = each_always i (Shows (gather (places_of p) a) (gather (places_of p) b) i) (λ w. ap (level w) e) x p.atomic.acts

as_long : (p : Part) (a b : List ℕ) → length (gather (places_of p) a) ≡ length (gather (places_of p) b)
as_long p a b = cells_are (places_of p) a ∙ sym (cells_are (places_of p) b)

pub nothing_alike : (p : Part) (a b : List ℕ) → IsAccepted p.atomic → AreSameOn concern.Instants p a b → first_of_part a p ≡ net.Nothing → first_of_part b p ≡ net.Nothing
nothing_alike p a b ok same is = sym (first_alike p (gather (places_of p) a) (gather (places_of p) b) ok (as_long p a b) (shows_same concern.Instants p a b same)) ∙ is

pub rest_alike : (p : Part) (a b : List ℕ) (r : net.Row) → AreSameOn concern.Timers p a b → IsSteady (leaf_of p) (gather (places_of p) a) r → IsSteady (leaf_of p) (gather (places_of p) b) r
rest_alike p a b r same is = steady_alike p (gather (places_of p) a) (gather (places_of p) b) r (as_long p a b) (shows_same concern.Timers p a b same) is
