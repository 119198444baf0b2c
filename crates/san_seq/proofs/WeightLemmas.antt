-- Facts of each weight by which a leaf's activities hang on a cell.
use Rattle.std.proofs.Common.{ℕ, ◌≡◌, subst, List, Option, Some, None, slice_index_or}
use Rattle.std.specs.Prelude.{slice_get, All, IfSome}
use Rattle.std.proofs.lemmas.Option.{get_or_from_slice_get, slice_get_within}
use Rattle.san_net.specs.Instants.{Named}
use Rattle.san_net.specs.declared.activity.ActKind.{ActKind}
use Rattle.san_net.specs.declared.activity.ActKind.TheVariants as kind
use Rattle.san_net.specs.declared.activity.Activity.{Activity}
use Rattle.san_net.specs.declared.activity.Input.{Input}
use Rattle.san_seq.specs.declared.concern.Concern.{Concern}
use Rattle.san_seq.specs.declared.concern.Concern.TheVariants as concern
use Rattle.san_seq.specs.inner.Wakes.{EachInstant, EachOf, EachOfAct, EachTimed, EachWeight, weight_at}

-- a fact of each item, at one
pub all_at : {X : Type 0} (P : X → Type 0) (xs : List X) (k : ℕ) (x : X) → All P xs → slice_get xs k ≡ Some x → P x
all_at P xs k x all is = subst P (get_or_from_slice_get xs k x x is) (all k x (slice_get_within xs k x is))

if_both : (o : Option ℕ) (P Q R : ℕ → Type 0) → ((w : ℕ) → P w → Q w → R w) → IfSome o P → IfSome o Q → IfSome o R
if_both None P Q R f p q = p
if_both (Some w) P Q R f p q = f w p q

if_always : (o : Option ℕ) (P : ℕ → Type 0) → ((w : ℕ) → P w) → IfSome o P
if_always None P f = tt
if_always (Some w) P f = f w

module _ (q : ℕ) (P Q R : ℕ → Type 0) (f : (w : ℕ) → P w → Q w → R w) where
  inputs_both : (inputs : List Input) → EachOf inputs q P → EachOf inputs q Q → EachOf inputs q R
  inputs_both inputs p r k d h = if_both (weight_at (slice_index_or inputs k d) q) P Q R f (p k d h) (r k d h)

  instant_both : (c : ActKind) (a : Activity) → EachInstant c a q P → EachInstant c a q Q → EachInstant c a q R
  instant_both (kind.Timed delay pair) a p r = tt
  instant_both (kind.Instant priority) a p r = inputs_both a.inputs p r

  timed_both : (c : ActKind) (a : Activity) → EachTimed c a q P → EachTimed c a q Q → EachTimed c a q R
  timed_both (kind.Timed delay None) a p r = inputs_both a.inputs p r
  timed_both (kind.Timed delay (Some pair)) a p r = f 0 p r
  timed_both (kind.Instant priority) a p r = tt

  act_both : (x : Concern) (a : Activity) → EachOfAct x a q P → EachOfAct x a q Q → EachOfAct x a q R
  act_both concern.Instants a p r = instant_both a.kind a p r
  act_both concern.Timers a p r = timed_both a.kind a p r

  pub each_both : (x : Concern) (acts : List Named) → EachWeight x acts q P → EachWeight x acts q Q → EachWeight x acts q R
  each_both x acts p r k d h = act_both x (slice_index_or acts k d).1 (p k d h) (r k d h)

module _ (q : ℕ) (P : ℕ → Type 0) (f : (w : ℕ) → P w) where
  pub inputs_always : (inputs : List Input) → EachOf inputs q P
  inputs_always inputs k d h = if_always (weight_at (slice_index_or inputs k d) q) P f

  instant_always : (c : ActKind) (a : Activity) → EachInstant c a q P
  instant_always (kind.Timed delay pair) a = tt
  instant_always (kind.Instant priority) a = inputs_always a.inputs

  timed_always : (c : ActKind) (a : Activity) → EachTimed c a q P
  timed_always (kind.Timed delay None) a = inputs_always a.inputs
  timed_always (kind.Timed delay (Some pair)) a = f 0
  timed_always (kind.Instant priority) a = tt

  act_always : (x : Concern) (a : Activity) → EachOfAct x a q P
  act_always concern.Instants a = instant_always a.kind a
  act_always concern.Timers a = timed_always a.kind a

  pub each_always : (x : Concern) (acts : List Named) → EachWeight x acts q P
  each_always x acts k d h = act_always x (slice_index_or acts k d).1

module _ (q : ℕ) (P Q : ℕ → Type 0) (f : (w : ℕ) → P w → Q w) where
  pub inputs_weaker : (inputs : List Input) → EachOf inputs q P → EachOf inputs q Q
  inputs_weaker inputs p = inputs_both q P P Q (λ w h g. f w h) inputs p p

  pub act_weaker : (x : Concern) (a : Activity) → EachOfAct x a q P → EachOfAct x a q Q
  act_weaker x a p = act_both q P P Q (λ w h g. f w h) x a p p

  pub each_weaker : (x : Concern) (acts : List Named) → EachWeight x acts q P → EachWeight x acts q Q
  each_weaker x acts p = each_both q P P Q (λ w h g. f w h) x acts p p
