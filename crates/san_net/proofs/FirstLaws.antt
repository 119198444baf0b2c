-- What stands first in a leaf is what the law asks for.
use Rattle.san_base.proofs.Bools.{holds_left, holds_right}
use Rattle.std.proofs.Common.{ℕ, zero, suc, ◌≡◌, ◌∙◌, ap, sym, refl, Bool, true, false, Result, Ok, Err, List, [], ◌∷◌, map}
use Rattle.std.specs.Prelude.{slice_get, slice_index_or}
use Rattle.san_base.specs.declared.ending.Trap.{Trap}
use Rattle.san_expr.specs.Concerns.{AssignsNothing, Concerns, IsPartOf}
use Rattle.san_expr.specs.Meaning.{Meaning}
use Rattle.san_expr.specs.Mentions.{CellSet, any_of}
use Rattle.san_expr.proofs.ConcernLemmas.{concerns_more, concerns_settled, concerns_then}
use Rattle.san_expr.proofs.WholeLemmas.{nothing_settled, nothing_then}
use Rattle.san_law.specs.Activity as leaf
use Rattle.san_net.specs.Accepted.{IsAccepted}
use Rattle.san_net.specs.First.{attempt, enabled_by, first_among, first_of, found_or}
use Rattle.san_net.specs.Instants.{Named, instant_before, ranked_from}
use Rattle.san_net.specs.Leaf.{activities_from, answer_by, first_in, found_by, kind_in, leaf_of}
use Rattle.san_net.specs.Mentions.{enabling_mentions, tests_mention}
use Rattle.san_net.specs.declared.activity.ActKind.{ActKind}
use Rattle.san_net.specs.declared.activity.ActKind.TheVariants.{Timed, Instant}
use Rattle.san_net.specs.declared.atomic.Atomic.{Atomic}
use Rattle.san_net.specs.declared.atomic.ImpulseTerm.{ImpulseTerm}
use Rattle.san_net.specs.declared.first.FirstInstant.{FirstInstant}
use Rattle.san_net.specs.declared.first.FirstInstant.TheVariants as first
use Rattle.san_net.specs.declared.part.Part.{Part}
use Rattle.san_net.proofs.ConcernLemmas.{enabling_concerns, enabling_reads}

-- the order of the law is that of the atomic
placed_same : (k : ℕ) (kind : ActKind) (xs : List (ℕ × ℕ)) → leaf.placed_by k (kind_in kind) xs ≡ instant_before k kind xs
placed_same k (Timed delay pair) xs = refl
placed_same k (Instant priority) xs = refl

ranked_same : (terms : List ImpulseTerm) (k : ℕ) (acts : List Named) → leaf.instants_from k (activities_from terms k acts) ≡ ranked_from k acts
ranked_same terms k [] = refl
ranked_same terms k (a ∷ acts) = placed_same k a.1.kind (leaf.instants_from (suc k) (activities_from terms (suc k) acts)) ∙ ap (instant_before k a.1.kind) (ranked_same terms (suc k) acts)

test_same : (terms : List ImpulseTerm) (v : List ℕ) (n : ℕ) (acts : List Named) (k : ℕ) → (slice_index_or (activities_from terms n acts) k leaf.no_activity).enabled v ≡ answer_by (enabled_by (slice_get acts k) v).answer
test_same terms v n [] k = refl
test_same terms v n (a ∷ acts) zero = refl
test_same terms v n (a ∷ acts) (suc k) = test_same terms v (suc n) acts k

test_reads : (acts : List Named) (k : ℕ) → AssignsNothing (enabled_by (slice_get acts k))
test_reads [] k = nothing_settled {T = Bool} (Ok false)
test_reads (a ∷ acts) zero = enabling_reads a.1
test_reads (a ∷ acts) (suc k) = test_reads acts k

module _ (p : Part) (v : List ℕ) where
  abbrev own : List Named
  own = p.atomic.acts

  by_answer : (k : ℕ) (xs : List (ℕ × ℕ)) (r : Result Bool Trap) (m : List ℕ) → m ≡ v → found_by (first_among own (map (λ x. x.1) xs) v).answer ≡ leaf.first_in (leaf_of p) v xs
      → found_by (found_or k (first_among own (map (λ x. x.1) xs)) r m).answer ≡ leaf.found_by (answer_by r) k (leaf.first_in (leaf_of p) v xs)
  by_answer k xs (Ok true) m same rest = refl
  by_answer k xs (Ok false) m same rest = ap (λ (w : List ℕ). found_by (first_among own (map (λ x. x.1) xs) w).answer) same ∙ rest
  by_answer k xs (Err t) m same rest = refl

  first_same : (xs : List (ℕ × ℕ)) → found_by (first_among own (map (λ x. x.1) xs) v).answer ≡ leaf.first_in (leaf_of p) v xs
  first_same [] = refl
  first_same (x ∷ xs) =
      let test = enabled_by (slice_get own x.1) in
      by_answer x.1 xs (test v).answer (test v).left (test_reads own x.1 v).0 (first_same xs)
      ∙ ap (λ (a : leaf.Answer). leaf.found_by a x.1 (leaf.first_in (leaf_of p) v xs)) (sym (test_same p.atomic.impulses v 0 own x.1))

pub first_is_first : (p : Part) (v : List ℕ) → IsAccepted p.atomic → first_in p.atomic v ≡ leaf.first_instant (leaf_of p) v
first_is_first p v a =
    ap (λ (ks : List ℕ). found_by (first_among p.atomic.acts ks v).answer) a.instants ∙ first_same p v (ranked_from 0 p.atomic.acts)
    ∙ ap (leaf.first_in (leaf_of p) v) (sym (ranked_same p.atomic.impulses 0 p.atomic.acts))

-- a trap that is an answer concerns the same cells
attempt_concerns : {T : Type 0} (cells : CellSet) (a : Meaning T) → Concerns cells a → Concerns cells (attempt a)
attempt_concerns cells a c = record {
  looks = c.looks;
  sets = c.sets;
  alike = λ m n e. let like = c.alike m n e in record { answer = ap Ok like.answer; looks = like.looks; sets = like.sets; left = like.left };
  unset = c.unset;
  sized = c.sized;
  marking = c.marking;
}

attempt_reads : {T : Type 0} (a : Meaning T) → AssignsNothing a → AssignsNothing (attempt a)
attempt_reads a h = h

module _ (cells : CellSet) where
  test_concerns : (acts : List Named) (k : ℕ) → IsPartOf (any_of (map (λ x. enabling_mentions x.1) acts)) cells → Concerns cells (enabled_by (slice_get acts k))
  test_concerns [] k part = concerns_settled cells {T = Bool} (Ok false)
  test_concerns (a ∷ acts) zero part =
      concerns_more (enabling_mentions a.1) cells _ (λ q h. part q (holds_left (enabling_mentions a.1 q) (any_of (map (λ x. enabling_mentions x.1) acts) q) h)) (enabling_concerns a.1)
  test_concerns (a ∷ acts) (suc k) part = test_concerns acts k (λ q h. part q (holds_right (enabling_mentions a.1 q) (any_of (map (λ x. enabling_mentions x.1) acts) q) h))

  firsts_concern : (acts : List Named) (order : List ℕ) → IsPartOf (any_of (map (λ x. enabling_mentions x.1) acts)) cells → Concerns cells (first_among acts order)
  firsts_concern acts [] part = concerns_settled cells (Ok first.None)
  firsts_concern acts (k ∷ order) part =
      concerns_then cells (attempt (enabled_by (slice_get acts k))) (found_or k (first_among acts order)) (attempt_concerns cells (enabled_by (slice_get acts k)) (test_concerns acts k part))
      (λ r. by_answer_of r (firsts_concern acts order part))
    where
      by_answer_of : (r : Result Bool Trap) → Concerns cells (first_among acts order) → Concerns cells (found_or k (first_among acts order) r)
      by_answer_of (Ok true) rest = concerns_settled cells {T = FirstInstant} (Ok (first.Enabled k))
      by_answer_of (Ok false) rest = rest
      by_answer_of (Err t) rest = concerns_settled cells {T = FirstInstant} (Ok (first.Trapped k t))

firsts_read : (acts : List Named) (order : List ℕ) → AssignsNothing (first_among acts order)
firsts_read acts [] = nothing_settled (Ok first.None)
firsts_read acts (k ∷ order) =
    nothing_then (attempt (enabled_by (slice_get acts k))) (found_or k (first_among acts order)) (attempt_reads (enabled_by (slice_get acts k)) (test_reads acts k)) (λ r. by_answer_of r (firsts_read acts order))
  where
    by_answer_of : (r : Result Bool Trap) → AssignsNothing (first_among acts order) → AssignsNothing (found_or k (first_among acts order) r)
    by_answer_of (Ok true) rest = nothing_settled {T = FirstInstant} (Ok (first.Enabled k))
    by_answer_of (Ok false) rest = rest
    by_answer_of (Err t) rest = nothing_settled {T = FirstInstant} (Ok (first.Trapped k t))

pub first_concerns : (a : Atomic) → Concerns (tests_mention a) (first_of a)
first_concerns a = firsts_concern (tests_mention a) a.acts a.instants (λ q h. h)

pub first_reads : (a : Atomic) → AssignsNothing (first_of a)
first_reads a = firsts_read a.acts a.instants
