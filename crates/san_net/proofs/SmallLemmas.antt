-- Values that are numbers of tokens stay so: scattered into a marking, gathered out of it, and through a completion.
use Rattle.std.proofs.Common.{ℕ, zero, suc, ◌≤◌, ap, arith, List, [], ◌∷◌, map, Option, Some, None, slice_index_or}
use Rattle.std.specs.Prelude.{Result, Ok, Err}
use Rattle.san_base.specs.declared.ending.Trap.{Trap}
use Rattle.san_base.specs.declared.limits.TheConstants.{MAX_TOKENS}
use Rattle.san_expr.specs.Concerns.{IsMarking}
use Rattle.san_law.specs.Activity as leaf
use Rattle.san_law.specs.Network.{no_part}
use Rattle.san_law.specs.State.{gather, index_of, scatter, scatter_from, taken_from}
use Rattle.san_net.specs.Completion.{completion_of}
use Rattle.san_net.specs.Instants.{Named}
use Rattle.san_net.specs.Leaf.{activities_from, activity_in, effected_by, leaf_of}
use Rattle.san_net.specs.declared.activity.Activity.{Activity}
use Rattle.san_net.specs.declared.atomic.ImpulseTerm.{ImpulseTerm}
use Rattle.san_net.specs.declared.part.Part.{Part}
use Rattle.san_net.proofs.ConcernLemmas.{completion_concerns}

-- values in their places keep a marking one
taken_small : (values : List ℕ) (o : Option ℕ) (v : ℕ) → IsMarking values → v ≤ MAX_TOKENS → taken_from values o v ≤ MAX_TOKENS
taken_small values None v h k = k
taken_small values (Some p) v h k = h p

pub scatter_small : (slots values : List ℕ) (q : ℕ) (m : List ℕ) → IsMarking values → IsMarking m → IsMarking (scatter_from slots values q m)
scatter_small slots values q [] h k p = k p
scatter_small slots values q (v ∷ vs) h k zero = taken_small values (index_of q slots) v h (k 0)
scatter_small slots values q (v ∷ vs) h k (suc p) = scatter_small slots values (suc q) vs h (λ i. k (suc i)) p

pub scattered_small : (slots values m : List ℕ) → IsMarking values → IsMarking m → IsMarking (scatter slots values m)
unfolding scatter
scattered_small slots values m h k = scatter_small slots values 0 m h k

pub gather_small : (slots m : List ℕ) → IsMarking m → IsMarking (gather slots m)
gather_small [] m h p = omega arith
gather_small (s ∷ ss) m h zero = h s
gather_small (s ∷ ss) m h (suc p) = gather_small ss m h p

-- and so do completions
abbrev pub KeepsValues : List ℕ → Result leaf.Effected Trap → Type 0
KeepsValues v (Err t) = Unit {0}
KeepsValues v (Ok e) = IsMarking v → IsMarking e.values

abbrev pub KeepsSmall : leaf.Activity → Type 0
KeepsSmall a = (u : ℕ) (v : List ℕ) → KeepsValues v (a.complete u v)

activity_small : (terms : List ImpulseTerm) (k : ℕ) (a : Activity) → KeepsSmall (activity_in terms k a)
activity_small terms k a u v = by_answer (completion_of u a v).answer
  where
    by_answer : (r : Result ℕ Trap) → KeepsValues v (effected_by (completion_of u a v) r)
    by_answer (Err t) = tt
    by_answer (Ok c) = (completion_concerns u a).marking v

pub activities_small : (terms : List ImpulseTerm) (n : ℕ) (acts : List Named) (k : ℕ) → KeepsSmall (slice_index_or (activities_from terms n acts) k leaf.no_activity)
activities_small terms n [] k = λ u v. tt
activities_small terms n (a ∷ acts) zero = activity_small terms n a.1
activities_small terms n (a ∷ acts) (suc k) = activities_small terms (suc n) acts k

pub leaves_small : (parts : List Part) (j k : ℕ) → KeepsSmall (leaf.activity_of (slice_index_or (map leaf_of parts) j no_part) k)
leaves_small [] j k = λ u v. tt
leaves_small (p ∷ parts) zero k = activities_small p.atomic.impulses 0 p.atomic.acts k
leaves_small (p ∷ parts) (suc j) k = leaves_small parts j k
