-- A leaf's next number is at most the number of steps.
use Rattle.std.proofs.Common.{ℕ, zero, suc, ◌+◌, ◌≤◌, ◌≡◌, sym, refl, subst, List, [], ◌∷◌, ◌++◌, length, replicate, Option, Some, None, arith}
use Rattle.std.specs.Prelude.{slice_index, slice_set}
use Rattle.std.proofs.lemmas.List.{length_push}
use Rattle.san_base.proofs.NumberTests.{some_same}
use Rattle.san_base.specs.declared.limits.Limits.{Limits}
use Rattle.san_book.specs.Machines.{Machine}
use Rattle.san_book.specs.Chains.{chain_of}
use Rattle.san_book.specs.Cores.{Claim, Commit, Core, Cut, Late, Publish, Read, Redo, Step, opened}
use Rattle.san_book.specs.Steps.{all_committed, falls, happens, taken_anew, then_by}
use Rattle.san_book.specs.Journals.{booked, replayed, stepped}
use Rattle.san_book.specs.Laws.{After}
use Rattle.san_book.proofs.Committing.{fallen_by}
use Rattle.san_book.proofs.Walking.{Handles, after_commits, handled, read_after}
use Rattle.san_book.proofs.Afters.{after_booked, after_map}

-- each is
abbrev pub AreFew : {H P : Type 0} → Core H P → Type 0
AreFew c = (j : ℕ) → slice_index c.counters j ≤ length c.journal

-- the same ones, or one more of one leaf, with one step more
more : (ks : List ℕ) (n : ℕ) (js : List Step) (s : Step) → ((j : ℕ) → slice_index ks j ≤ length js) → (j : ℕ) → slice_index ks j ≤ length (js ++ s ∷ [])
more ks n js s few j = let l = few j in let p : length (js ++ s ∷ []) ≡ length js + 1 = length_push js s in omega (arith, l, p)

set_below : (ks : List ℕ) (i v most : ℕ) → v ≤ most → ((j : ℕ) → slice_index ks j ≤ most) → (j : ℕ) → slice_index (slice_set ks i v) j ≤ most
set_below [] i v most l few j = few j
set_below (k ∷ ks) zero v most l few zero = l
set_below (k ∷ ks) zero v most l few (suc j) = few (suc j)
set_below (k ∷ ks) (suc i) v most l few zero = few zero
set_below (k ∷ ks) (suc i) v most l few (suc j) = set_below ks i v most l (λ n. few (suc n)) j

one_more : (ks : List ℕ) (i : ℕ) (js : List Step) (s : Step) → ((j : ℕ) → slice_index ks j ≤ length js) → (j : ℕ) → slice_index (slice_set ks i (suc (slice_index ks i))) j ≤ length (js ++ s ∷ [])
one_more ks i js s few j =
    let p : length (js ++ s ∷ []) ≡ length js + 1 = length_push js s in
    let l = few i in
    set_below ks i (suc (slice_index ks i)) (length (js ++ s ∷ [])) (omega (arith, l, p)) (more ks 0 js s few) j

module _ {H S P : Type 0} (m : Machine H S P) (limits : Limits) (c : Core H P) (few : AreFew c) where
  abbrev Same : Core H P → Type 0
  Same d = (d.counters ≡ c.counters) × (d.journal ≡ c.journal)

  still : (s : Step) (d : Core H P) → Same d → AreFew (booked s d)
  still s d same j = subst (λ (ks : List ℕ). slice_index ks j ≤ length (d.journal ++ s ∷ [])) (sym same.0) (subst (λ (js : List Step). slice_index c.counters j ≤ length (js ++ s ∷ [])) (sym same.1) (more c.counters 0 c.journal s few j))

  few_handles : Handles m limits c (λ s d. AreFew (booked s d))
  few_handles = record {
    claim = λ w j may free. more c.counters 0 c.journal (Claim w) few;
    read = λ w place v p e. more c.counters 0 c.journal (Read w place v) few;
    publish = λ w kind time p n x e made. one_more c.counters p.leaf c.journal (Publish w kind time) few;
    late = λ w p e. more c.counters 0 c.journal (Late w) few;
    cut = λ w j n l. more c.counters 0 c.journal (Cut w j) few;
    commit = λ w n l. after_map Same (λ d. AreFew (booked (Commit w n) d)) (all_committed m limits n c) (λ d same. still (Commit w n) d same)
        (after_commits m limits (λ n d. Same d) (λ n d j kind time x rest same i. same) n c (refl, refl));
    redo = λ w j kind time g need.
        let p : P = m.needed c.held j kind time in
        let one : AreFew (booked (Redo w) (taken_anew m c j p)) = one_more c.counters j c.journal (Redo w) few in
        fallen_by (λ d. AreFew (booked (Redo w) d)) (falls m kind time (m.state (m.takes c.held j p) j) (chain_of c.chains j)) m (taken_anew m c j p) j one one;
  }

  pub steps_keep_few : (s : Step) → After AreFew (stepped m limits s c)
  steps_keep_few s = after_booked AreFew s (happens m limits s c) (handled m limits c (λ s d. AreFew (booked s d)) few_handles s)

pub counters_are_few : {H S P : Type 0} (m : Machine H S P) (limits : Limits) (ss : List Step) (b c : Core H P) → AreFew b → replayed m limits ss b ≡ Some c → AreFew c
counters_are_few m limits [] b c few e = subst AreFew (some_same b c e) few
counters_are_few {H} {S} {P} m limits (s ∷ ss) b c few e = by_first (stepped m limits s b) (λ a k. read_after AreFew (stepped m limits s b) a (steps_keep_few m limits b few s) k) (λ a f k. counters_are_few m limits ss a c f k) e
  where
    by_first : (o : Option (Core H P)) → ((a : Core H P) → o ≡ Some a → AreFew a) → ((a : Core H P) → AreFew a → replayed m limits ss a ≡ Some c → AreFew c) → then_by o (replayed m limits ss) ≡ Some c → AreFew c
    by_first None f go k = absurd (cc)
    by_first (Some a) f go k = go a (f a refl) k

none_counted : (n j : ℕ) → slice_index (replicate n 0) j ≡ 0
none_counted zero j = refl
none_counted (suc n) zero = refl
none_counted (suc n) (suc j) = none_counted n j

pub opened_few : {H S P : Type 0} (m : Machine H S P) (workers : ℕ) (start : H) → AreFew (opened m workers start)
opened_few m workers start j = let e : slice_index (replicate (m.leaves start) 0) j ≡ 0 = none_counted (m.leaves start) j in omega (arith, e)
