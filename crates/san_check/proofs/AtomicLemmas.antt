-- Without a fault each reward's atomic is there.
use Rattle.san_base.proofs.Bools.{not_false}
use Rattle.san_base.proofs.Lists.{nothing_behind}
use Rattle.std.proofs.Common.{◌≡◌, ℕ, suc, ◌+◌, ◌<◌, ◌≤◌, Bool, true, false, cond, not, List, [], ◌∷◌, ◌++◌, length, map, Option, Some, None, All, refl, sym, ap, subst, ◌∙◌, true≢false, arith}
use Rattle.std.proofs.lemmas.List.Elements.{All-nil, All-cons}
use Rattle.std.proofs.lemmas.Slice.Eq.{bytes_eq-Decides}
use Rattle.std.specs.Prelude.{unwrap_or}
use Rattle.std.specs.Str.{bytes_eq}
use Rattle.san_text.specs.declared.syntax.ModelDecl.{ModelDecl}
use Rattle.san_text.specs.declared.syntax.ModelDecl.TheVariants as model
use Rattle.san_text.specs.declared.syntax.RewardDecl.{RewardDecl}
use Rattle.san_net.specs.declared.part.Reward.{Reward}
use Rattle.san_check.specs.declared.known.Known.{Known}
use Rattle.san_check.specs.Tables.{is_known, declared}
use Rattle.san_check.specs.walk.Activity.{ActNames}
use Rattle.san_check.specs.walk.Composition.{Models, nothing, known_as, name_of, known_of, with_model, all_models}
use Rattle.san_check.specs.walk.Reward.{reward_entries, rewards_entries}
use Rattle.san_check.specs.build.Reward.{with_atomic, all_atomics, reward_of}
use Rattle.san_check.specs.build.Atomic.{atomic_in, atomics_from}
use Rattle.san_check.proofs.FreeLemmas.{Free, free_left, free_right, code_free}
use Rattle.san_check.proofs.TableLemmas.{declared_last, declared_known}
use Rattle.san_check.proofs.TreeLemmas.{grows, number_below}
use Rattle.san_check.proofs.NumberLemmas.{found_front, known_itself, known_stays}
use Rattle.san_check.proofs.PlacedLemmas.{found_new}

-- the models that are atomics have their names in the table of atomics
abbrev pub AreAtomics : Models → ActNames → Type 0
AreAtomics known atomics = (name : List ℕ) → (known_as known name).atomic ≡ true → is_known atomics name ≡ true

abbrev is_atomic : Option Known → Bool
is_atomic o = (unwrap_or o nothing).atomic

kept_atomic : (atomics : ActNames) (m : ModelDecl) (name : List ℕ) → is_known atomics name ≡ true → is_known (with_atomic atomics m) name ≡ true
unfolding with_atomic
kept_atomic atomics (model.Atomic n places acts) name h = known_stays atomics n name tt h
kept_atomic atomics (model.Join n children shares) name h = h
kept_atomic atomics (model.Rep n of times shares) name h = h

own_atomic : (known : Models) (atomics : ActNames) (m : ModelDecl) → (known_of known m).atomic ≡ true → is_known (with_atomic atomics m) (name_of m) ≡ true
unfolding with_atomic known_of
own_atomic known atomics (model.Atomic n places acts) h = known_itself atomics n tt
own_atomic known atomics (model.Join n children shares) h = absurd (true≢false (sym h))
own_atomic known atomics (model.Rep n of times shares) h = absurd (true≢false (sym h))

new_atomic : (same : Bool) (known : Models) (atomics : ActNames) (m : ModelDecl) (name : List ℕ) → bytes_eq name (name_of m) ≡ same → is_atomic (cond same (Some (known_of known m)) None) ≡ true → is_known (with_atomic atomics m) name ≡ true
new_atomic true known atomics m name is h = subst (λ (s : List ℕ). is_known (with_atomic atomics m) s ≡ true) (sym ((bytes_eq-Decides name (name_of m)).0 is)) (own_atomic known atomics m h)
new_atomic false known atomics m name is h = absurd (true≢false (sym h))

last_atomic : (old : Bool) (known : Models) (atomics : ActNames) (m : ModelDecl) (name : List ℕ) → is_known known name ≡ old → AreAtomics known atomics → (known_as (known ++ (name_of m, known_of known m) ∷ []) name).atomic ≡ true
    → is_known (with_atomic atomics m) name ≡ true
last_atomic true known atomics m name is at h = kept_atomic atomics m name (at name (ap is_atomic (sym (found_front known ((name_of m, known_of known m) ∷ []) name is)) ∙ h))
last_atomic false known atomics m name is at h = new_atomic (bytes_eq name (name_of m)) known atomics m name refl (ap is_atomic (sym (found_new known (name_of m) (known_of known m) name is)) ∙ h)

one_more_by : (there : Bool) (known : Models) (atomics : ActNames) (m : ModelDecl) → is_known known (name_of m) ≡ there → AreAtomics known atomics → AreAtomics (with_model known m) (with_atomic atomics m)
one_more_by true known atomics m is at name h = kept_atomic atomics m name (at name (ap (λ (t : Models). (known_as t name).atomic) (sym (declared_known known (name_of m) (known_of known m) is)) ∙ h))
one_more_by false known atomics m is at name h = last_atomic (is_known known name) known atomics m name refl at (ap (λ (t : Models). (known_as t name).atomic) (sym (declared_last known (name_of m) (known_of known m) is)) ∙ h)

pub atomics_known : (known : Models) (atomics : ActNames) (ms : List ModelDecl) → AreAtomics known atomics → AreAtomics (all_models known ms) (all_atomics atomics ms)
atomics_known known atomics [] at = at
atomics_known known atomics (m ∷ ms) at = atomics_known (with_model known m) (with_atomic atomics m) ms (one_more_by (is_known known (name_of m)) known atomics m refl at)

pub none_known : AreAtomics [] []
none_known name h = absurd (true≢false (sym h))

pub atomics_few : (rewards : List RewardDecl) (atomics : ActNames) (ms : List ModelDecl) → length (all_atomics atomics ms) ≤ length atomics + length (atomics_from rewards ms)
unfolding with_atomic atomic_in
atomics_few rewards atomics [] = omega arith
atomics_few rewards atomics (model.Atomic name places acts ∷ ms) =
    let one = (grows atomics name tt).2 in
    let more = atomics_few rewards (declared atomics name tt) ms in
    let all : length (all_atomics (declared atomics name tt) ms) ≤ length atomics + suc (length (atomics_from rewards ms)) = omega (arith, one, more) in
    all
atomics_few rewards atomics (model.Join name children shares ∷ ms) = atomics_few rewards atomics ms
atomics_few rewards atomics (model.Rep name of times shares ∷ ms) = atomics_few rewards atomics ms

abbrev IsOn : ℕ → Reward → Type 0
IsOn k r = r.atomic < k

pub rewards_on : (models : Models) (known atomics : ActNames) (n k : ℕ) (rs : List RewardDecl) → AreAtomics models atomics → length atomics ≤ k → Free (rewards_entries models known n rs) → All (λ r. r.atomic < k) (map (reward_of atomics) rs)
unfolding reward_entries
rewards_on models known atomics n k [] at few f = All-nil (IsOn k)
rewards_on models known atomics n k (r ∷ rs) at few f =
    let next = declared known r.name tt in
    let here = free_left (reward_entries models r) (rewards_entries models next (n + 1) rs) f.1 in
    let atomic = not_false (known_as models r.atomic).atomic (code_free 23 (not (known_as models r.atomic).atomic) here.0) in
    let below = number_below atomics [] atomics r.atomic (sym (nothing_behind atomics)) (at r.atomic atomic) in
    All-cons (IsOn k) (reward_of atomics r) (map (reward_of atomics) rs) (omega (arith, below, few)) (rewards_on models next atomics (n + 1) k rs at few (free_right (reward_entries models r) (rewards_entries models next (n + 1) rs) f.1))
