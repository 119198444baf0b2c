-- What stands first is one of the atomic's activities.
use Rattle.std.proofs.Common.{ℕ, zero, suc, ◌<◌, ◌≤◌, ◌≡◌, ◌∙◌, ap, refl, subst, arith, Bool, true, false, List, [], ◌∷◌, length, map, Option, Some, None, Result, Ok, Err}
use Rattle.std.specs.Prelude.{slice_get}
use Rattle.std.proofs.lemmas.List.{length-map}
use Rattle.san_base.specs.declared.ending.Trap.{Trap}
use Rattle.san_expr.specs.Meets.{Evaluates, marking_of}
use Rattle.san_expr.specs.View.{Agrees}
use Rattle.san_net.specs.First.{enabled_by, first_among, first_of, found_or}
use Rattle.san_net.specs.Instants.{Named}
use Rattle.san_net.specs.declared.atomic.Atomic.{Atomic}
use Rattle.san_net.specs.declared.first.FirstInstant.{FirstInstant}
use Rattle.san_net.specs.declared.first.FirstInstant.TheVariants as instant
use Rattle.san_leaf.specs.inner.Cells.{value_by}
use Rattle.san_leaf.specs.inner.Turns.{FoundWithin, ClosesWithin}
use Rattle.san_leaf.specs.declared.block.Close.{Close}
use Rattle.san_leaf.specs.declared.block.Close.TheVariants as close
use Rattle.san_leaf.specs.inner.ViewStates.{Seeing, view_state_of}
use Rattle.san_leaf.proofs.SoundLemmas.{filled_at}

there : (acts : List Named) (k : ℕ) (a : Named) → slice_get acts k ≡ Some a → k < length acts
there [] k a is = cc
there (x ∷ acts) zero a is = omega arith
there (x ∷ acts) (suc k) a is = let h = there acts k a is in omega (arith, h)

abbrev found_in : Result FirstInstant Trap → FirstInstant
found_in (Ok f) = f
found_in (Err trap) = instant.None

-- what isn't there is not enabled and doesn't trap
within_by : (acts : List Named) (k : ℕ) (o : Option Named) (m n : List ℕ) (rest : List ℕ) (f : FirstInstant) → slice_get acts k ≡ o
    → ((w : List ℕ) → (first_among acts rest w).answer ≡ Ok f → FoundWithin (length acts) f)
    → (found_or k (first_among acts rest) (enabled_by o m).answer n).answer ≡ Ok f → FoundWithin (length acts) f
within_by acts k None m n rest f at go is = go n is
within_by acts k (Some a) m n rest f at go is = by_answer (enabled_by (Some a) m).answer is
  where
    by_answer : (r : Result Bool Trap) → (found_or k (first_among acts rest) r n).answer ≡ Ok f → FoundWithin (length acts) f
    by_answer (Ok true) e = subst (FoundWithin (length acts)) (ap found_in e) (there acts k a at)
    by_answer (Ok false) e = go n e
    by_answer (Err t) e = subst (FoundWithin (length acts)) (ap found_in e) (there acts k a at)

among_within : (acts : List Named) (order m : List ℕ) (f : FirstInstant) → (first_among acts order m).answer ≡ Ok f → FoundWithin (length acts) f
among_within acts [] m f is = subst (FoundWithin (length acts)) (ap found_in is) tt
among_within acts (k ∷ order) m f is = within_by acts k (slice_get acts k) m (enabled_by (slice_get acts k) m).left order f refl (λ w e. among_within acts order w f e) is

pub found_within : (a : Atomic) (s0 s1 : Seeing) (f : FirstInstant) → length s1.first ≡ length s1.places → Evaluates (view_state_of s0) (view_state_of s1) (first_of a) (Ok f) → FoundWithin (length a.acts) f
found_within a s0 s1 f sized e =
    let m = map value_by s1.first in
    let agrees : Agrees (view_state_of s1) m = record { sized = length-map s1.first value_by ∙ sized; has = filled_at s1.first } in
    among_within a.acts a.instants (marking_of (view_state_of s0) m) f (e.meets.answer m agrees)

pub enabled_within : (n k : ℕ) (f : FirstInstant) → f ≡ instant.Enabled k → FoundWithin n f → k < n
enabled_within n k f is h = subst (FoundWithin n) is h

pub trapped_within : (n k : ℕ) (t : Trap) (f : FirstInstant) → f ≡ instant.Trapped k t → FoundWithin n f → k < n
trapped_within n k t f is h = subst (FoundWithin n) is h

pub within_more : (n m : ℕ) (c : Close) → n ≤ m → ClosesWithin n c → ClosesWithin m c
within_more n m close.Rests le h = tt
within_more n m close.More le h = tt
within_more n m (close.FailsTest k t) le h = omega (arith, le, h)
within_more n m (close.FailsDone k t) le h = omega (arith, le, h)
