-- Instantaneous activities, one after another.
use Rattle.san_base.proofs.Bools.{and_both}
use Rattle.std.proofs.Common.{ℕ, zero, suc, refl, ◌&&◌, IsTrue, Option, Some, arith, ◌+◌, ◌<◌, ◌≤◌, ◌≡◌, ◌∙◌, ap, sym, subst, Bool, true, false, Result, Ok, Err, List, [], ◌∷◌, length, get_or, drop, drop-cons, add-one}
use Rattle.std.specs.Prelude.{All, slice_get}
use Rattle.san_base.specs.declared.ending.Trap.{Trap}
use Rattle.san_expr.specs.View.{ViewState}
use Rattle.san_expr.specs.Meaning.{Meaning}
use Rattle.san_expr.specs.Meets.{Evaluates}
use Rattle.san_expr.proofs.ComposeLemmas.{evaluates_settled, evaluates_then}
use Rattle.san_net.specs.Accepted.{IsAccepted, IsAcceptedActivity}
use Rattle.san_net.specs.Below.{activity_below, acts_below}
use Rattle.san_net.specs.declared.atomic.Atomic.{Atomic}
use Rattle.san_net.proofs.MadeLemmas.{all_first, all_rest}
use Rattle.std.proofs.lemmas.Option.{slice_get_past}
use Rattle.san_net.specs.Enabled.{enabled_of}
use Rattle.san_net.specs.First.{attempt, enabled_by, first_among, found_or}
use Rattle.san_net.specs.Instants.{Named}
use Rattle.san_net.specs.declared.first.FirstInstant.{FirstInstant}
use Rattle.san_net.specs.declared.first.FirstInstant.TheVariants as first

-- a trap is an answer like others
pub evaluates_attempt : {T : Type 0} (old new : ViewState) (a : Meaning T) (r : Result T Trap) → Evaluates old new a r → Evaluates old new (attempt a) (Ok r)
evaluates_attempt old new a r p = record {
  meets = record {
    answer = λ m h. ap Ok (p.meets.answer m h);
    left = p.meets.left;
    looks = p.meets.looks;
    sets = p.meets.sets;
    unset = p.meets.unset;
    grows = p.meets.grows;
    seen = p.meets.seen;
    places = p.meets.places;
    behind = p.meets.behind;
    kept = p.meets.kept;
  };
  own = p.own;
}

module _ (acts : List Named) where
  abbrev pub test : ℕ → Meaning Bool
  test k = enabled_by (slice_get acts k)

  -- what the rest of the activities gives from here on, all of them give from the start
  abbrev pub Stands : ViewState → ViewState → List ℕ → List ℕ → Type 0
  Stands was now order rest = (new : ViewState) (r : FirstInstant) → Evaluates now new (first_among acts rest) (Ok r) → Evaluates was new (first_among acts order) (Ok r)

  step_by : (now next new : ViewState) (rest : List ℕ) (k : ℕ) (read : Result Bool Trap) (r : FirstInstant) → Evaluates now next (test k) read
      → Evaluates next new (found_or k (first_among acts rest) read) (Ok r) → Evaluates now new (first_among acts (k ∷ rest)) (Ok r)
  step_by now next new rest k read r p q = evaluates_then now next new (attempt (test k)) (found_or k (first_among acts rest)) read (Ok r) (evaluates_attempt now next (test k) read p) q

  pub stands_more : (was now next : ViewState) (order rest : List ℕ) (k : ℕ) (read : Result Bool Trap) → Stands was now order (k ∷ rest) → read ≡ Ok false → Evaluates now next (test k) read → Stands was next order rest
  stands_more was now next order rest k read stands is p = λ new r q.
      stands new r (step_by now next new rest k read r p (subst (λ (a : Result Bool Trap). Evaluates next new (found_or k (first_among acts rest) a) (Ok r)) (sym is) q))

  pub stands_yes : (was now next : ViewState) (order rest : List ℕ) (k : ℕ) (read : Result Bool Trap) → Stands was now order (k ∷ rest) → read ≡ Ok true → Evaluates now next (test k) read → Evaluates was next (first_among acts order) (Ok (first.Enabled k))
  stands_yes was now next order rest k read stands is p =
      stands next (first.Enabled k) (step_by now next next rest k read (first.Enabled k) p (subst (λ (a : Result Bool Trap). Evaluates next next (found_or k (first_among acts rest) a) (Ok (first.Enabled k))) (sym is) (evaluates_settled next (Ok (first.Enabled k)))))

  pub stands_trap : (was now next : ViewState) (order rest : List ℕ) (k : ℕ) (t : Trap) (read : Result Bool Trap) → Stands was now order (k ∷ rest) → read ≡ Err t → Evaluates now next (test k) read → Evaluates was next (first_among acts order) (Ok (first.Trapped k t))
  stands_trap was now next order rest k t read stands is p =
      stands next (first.Trapped k t) (step_by now next next rest k read (first.Trapped k t) p (subst (λ (a : Result Bool Trap). Evaluates next next (found_or k (first_among acts rest) a) (Ok (first.Trapped k t))) (sym is) (evaluates_settled next (Ok (first.Trapped k t)))))

  pub stands_end : (was now : ViewState) (order rest : List ℕ) → Stands was now order rest → rest ≡ [] → Evaluates was now (first_among acts order) (Ok first.None)
  stands_end was now order rest stands none = stands now first.None (subst (λ (ks : List ℕ). Evaluates now now (first_among acts ks) (Ok first.None)) (sym none) (evaluates_settled now (Ok first.None)))

pub rest_at : (xs : List ℕ) (i : ℕ) → i < length xs → drop i xs ≡ get_or xs i 0 ∷ drop (i + 1) xs
rest_at xs i h = drop-cons xs i 0 h ∙ ap (λ n. get_or xs i 0 ∷ drop n xs) (sym (add-one i))

pub got_one : {X : Type 0} (xs : List X) (i : ℕ) (x : X) → i < length xs → slice_get xs i ≡ Some (get_or xs i x)
got_one [] i x l = absurd (omega (arith, l))
got_one (y ∷ xs) zero x l = refl
got_one (y ∷ xs) (suc i) x l = got_one xs i x (omega (arith, l))

-- an activity that is there is as low as all
act_below : (acts : List Named) (k places : ℕ) (a : Named) → slice_get acts k ≡ Some a → IsTrue (acts_below acts places) → IsTrue (activity_below a.1 places)
act_below [] k places a is below = absurd cc
act_below (b ∷ acts) zero places a is below =
    let same : b ≡ a = cc in
    subst (λ (x : Named). IsTrue (activity_below x.1 places)) same (and_both (activity_below b.1 places) (acts_below acts places) below).0
act_below (b ∷ acts) (suc k) places a is below = act_below acts k places a is (and_both (activity_below b.1 places) (acts_below acts places) below).1

-- an accepted atomic's activities name its own cells
pub accepted_below : (a : Atomic) → IsAccepted a → IsTrue (acts_below a.acts (length a.initial))
accepted_below a accepted = all_acts a.acts (length a.initial) accepted.activities
  where
    all_acts : (acts : List Named) (cells : ℕ) → All (λ x. IsAcceptedActivity cells x.1) acts → IsTrue (acts_below acts cells)
    all_acts [] cells h = refl
    all_acts (x ∷ acts) cells h =
        ap (λ (b : Bool). b && acts_below acts cells) (all_first (λ (y : Named). IsAcceptedActivity cells y.1) x acts h).places
        ∙ all_acts acts cells (all_rest (λ (y : Named). IsAcceptedActivity cells y.1) x acts h)

-- an activity of a table, as it is looked up
pub evaluates_at : (acts : List Named) (k : ℕ) (a : Named) (old new : ViewState) (r : Result Bool Trap) → k < length acts → a ≡ get_or acts k a → Evaluates old new (enabled_of a.1) r → Evaluates old new (enabled_by (slice_get acts k)) r
evaluates_at acts k a old new r within is p = subst (λ (o : Option Named). Evaluates old new (enabled_by o) r) (sym (got_one acts k a within ∙ ap Some (sym is))) p

pub evaluates_past : (acts : List Named) (k : ℕ) (s : ViewState) → length acts ≤ k → Evaluates s s (enabled_by (slice_get acts k)) (Ok false)
evaluates_past acts k s past = subst (λ (o : Option Named). Evaluates s s (enabled_by o) (Ok false)) (sym (slice_get_past acts k past)) (evaluates_settled s (Ok false))

pub test_below : (acts : List Named) (k places : ℕ) (a : Named) → k < length acts → a ≡ get_or acts k a → IsTrue (acts_below acts places) → IsTrue (activity_below a.1 places)
test_below acts k places a within is below = act_below acts k places a (got_one acts k a within ∙ ap Some (sym is)) below
