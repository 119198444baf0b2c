-- Flags with the list of those that are up.
use Rattle.san_base.proofs.NumberTests.{some_same}
use Rattle.std.proofs.Common.{ℕ, zero, suc, ◌+◌, ◌<◌, ◌≤◌, ◌≡◌, ◌≢◌, ◌∙◌, ◌⊎◌, inl, inr, ap, sym, refl, subst, arith, List, [], ◌∷◌, length, take, replicate, Option, Some, None, Bool, true, false, slice_index, slice_set}
use Rattle.std.specs.Prelude.{slice_get}
use Rattle.std.proofs.lemmas.Bool.{cases_eq, cases_lt}
use Rattle.std.proofs.lemmas.List.{length-set, length-take-le, same_lists, get_or-set_same, get_or-set_other}
use Rattle.std.proofs.lemmas.Option.{slice_get_within}
use Rattle.san_seq.specs.inner.Flagged.{AreListed, IsListed, many_up}
use Rattle.san_seq.specs.inner.Known.{HaveSame}

pub up_or_down : (flags : List Bool) (j : ℕ) → j < length flags → (slice_get flags j ≡ Some true) ⊎ (slice_get flags j ≡ Some false)
up_or_down [] j h = absurd (omega (arith, h))
up_or_down (true ∷ fs) zero h = inl refl
up_or_down (false ∷ fs) zero h = inr refl
up_or_down (f ∷ fs) (suc j) h = up_or_down fs j (omega (arith, h))

pub not_both : (o : Option Bool) → o ≡ Some true → o ≡ Some false → {A : Type 0} → A
not_both o a b = cc

-- items of a list that is set
pub set_same : {X : Type 0} (xs : List X) (j : ℕ) (x : X) → j < length xs → slice_get (slice_set xs j x) j ≡ Some x
set_same [] j x h = absurd (omega (arith, h))
set_same (y ∷ ys) zero x h = refl
set_same (y ∷ ys) (suc j) x h = set_same ys j x (omega (arith, h))

pub set_other : {X : Type 0} (xs : List X) (j i : ℕ) (x : X) → i ≢ j → slice_get (slice_set xs j x) i ≡ slice_get xs i
set_other [] j i x n = refl
set_other (y ∷ ys) zero zero x n = absurd (n refl)
set_other (y ∷ ys) zero (suc i) x n = refl
set_other (y ∷ ys) (suc j) zero x n = refl
set_other (y ∷ ys) (suc j) (suc i) x n = set_other ys j i x (λ e. n (ap suc e))

pub set_up : (flags : List Bool) (j : ℕ) → slice_get flags j ≡ Some true → flags ≡ slice_set flags j true
set_up [] j e = refl
set_up (f ∷ fs) zero e = ap (λ (b : Bool). b ∷ fs) (some_same f true e)
set_up (f ∷ fs) (suc j) e = ap (λ (bs : List Bool). f ∷ bs) (set_up fs j e)

-- one more flag is up
pub many_more : (flags : List Bool) (j : ℕ) → slice_get flags j ≡ Some false → many_up (slice_set flags j true) ≡ suc (many_up flags)
many_more [] j e = absurd cc
many_more (true ∷ fs) zero e = absurd cc
many_more (false ∷ fs) zero e = refl
many_more (true ∷ fs) (suc j) e = ap suc (many_more fs j e)
many_more (false ∷ fs) (suc j) e = many_more fs j e

pub many_within : (flags : List Bool) → many_up flags ≤ length flags
many_within [] = omega arith
many_within (true ∷ fs) = omega (arith, many_within fs)
many_within (false ∷ fs) = omega (arith, many_within fs)

pub many_down : (n : ℕ) → many_up (replicate n false) ≡ 0
many_down zero = refl
many_down (suc n) = many_down n

-- there is room for one more where one is down
pub room_left : (flags : List Bool) (j : ℕ) → slice_get flags j ≡ Some false → many_up flags < length flags
room_left flags j e = omega (arith, many_within (slice_set flags j true), many_more flags j e, length-set flags j true)

-- the front of a list
front_of : {X : Type 0} (xs : List X) (n k : ℕ) (x : X) → slice_get (take n xs) k ≡ Some x → (k < n) × (slice_get xs k ≡ Some x)
front_of [] zero k x e = absurd cc
front_of [] (suc n) k x e = absurd cc
front_of (y ∷ ys) zero k x e = absurd cc
front_of (y ∷ ys) (suc n) zero x e = (omega arith, e)
front_of (y ∷ ys) (suc n) (suc k) x e = let there = front_of ys n k x e in (omega (arith, there.0), there.1)

in_front : {X : Type 0} (xs : List X) (n k : ℕ) (x : X) → k < n → slice_get xs k ≡ Some x → slice_get (take n xs) k ≡ Some x
in_front [] n k x h e = absurd cc
in_front (y ∷ ys) zero k x h e = absurd (omega (arith, h))
in_front (y ∷ ys) (suc n) zero x h e = e
in_front (y ∷ ys) (suc n) (suc k) x h e = in_front ys n k x (omega (arith, h)) e

module _ (flags : List Bool) (list : List ℕ) (count at : ℕ) (is : IsListed flags list count) (down : slice_get flags at ≡ Some false) where
  here : at < length flags
  here = slice_get_within flags at false down

  pub room : count < length list
  room = omega (arith, is.room, is.many, room_left flags at down)

  abbrev pub more : List Bool
  more = slice_set flags at true

  abbrev pub longer : List ℕ
  longer = slice_set list count at

  -- an item of the longer front is that of the old one, or the new one
  which : (k i : ℕ) → slice_get (take (count + 1) longer) k ≡ Some i → ((k < count) × (slice_get (take count list) k ≡ Some i)) ⊎ ((k ≡ count) × (i ≡ at))
  which k i e = by_case (cases_eq k count)
    where
      there : (k < count + 1) × (slice_get longer k ≡ Some i)
      there = front_of longer (count + 1) k i e

      by_case : (k ≡ count) ⊎ (k ≢ count) → ((k < count) × (slice_get (take count list) k ≡ Some i)) ⊎ ((k ≡ count) × (i ≡ at))
      by_case (inl same) = inr (same, some_same i at (sym there.1 ∙ ap (slice_get longer) same ∙ set_same list count at room))
      by_case (inr other) =
          let low : k < count = omega (arith, there.0, other) in
          inl (low, in_front list count k i low (sym (set_other list count k at other) ∙ there.1))

  apart : (i : ℕ) → slice_get flags i ≡ Some true → i ≢ at
  apart i up e = not_both (slice_get flags at) (ap (slice_get flags) (sym e) ∙ up) down

  pub listed_more : IsListed more longer (count + 1)
  listed_more = record {
    room = length-set list count at ∙ is.room ∙ sym (length-set flags at true);
    many = omega (arith, is.many, many_more flags at down);
    listed = record { up = raised; each = each; once = once };
  }
    where
      raised : (k i : ℕ) → slice_get (take (count + 1) longer) k ≡ Some i → slice_get more i ≡ Some true
      raised k i e = by_case (which k i e)
        where
          by_case : ((k < count) × (slice_get (take count list) k ≡ Some i)) ⊎ ((k ≡ count) × (i ≡ at)) → slice_get more i ≡ Some true
          by_case (inl h) = let up = is.listed.up k i h.1 in set_other flags at i true (apart i up) ∙ up
          by_case (inr h) = ap (slice_get more) h.1 ∙ set_same flags at true here

      each : (i : ℕ) → slice_get more i ≡ Some true → (k : ℕ) × (slice_get (take (count + 1) longer) k ≡ Some i)
      each i up = by_case (cases_eq i at)
        where
          by_case : (i ≡ at) ⊎ (i ≢ at) → (k : ℕ) × (slice_get (take (count + 1) longer) k ≡ Some i)
          by_case (inl same) = (count, in_front longer (count + 1) count i (omega arith) (set_same list count at room ∙ ap (λ (x : ℕ). (let o : Option ℕ = Some x in o)) (sym same)))
          by_case (inr other) =
              let was = is.listed.each i (sym (set_other flags at i true other) ∙ up) in
              let there = front_of list count was.0 i was.1 in
              (was.0, in_front longer (count + 1) was.0 i (omega (arith, there.0)) (set_other list count was.0 at (λ e. absurd (omega (arith, there.0, e))) ∙ there.1))

      once : (j k i : ℕ) → slice_get (take (count + 1) longer) j ≡ Some i → slice_get (take (count + 1) longer) k ≡ Some i → j ≡ k
      once j k i a b = by_case (which j i a) (which k i b)
        where
          by_case : ((j < count) × (slice_get (take count list) j ≡ Some i)) ⊎ ((j ≡ count) × (i ≡ at)) → ((k < count) × (slice_get (take count list) k ≡ Some i)) ⊎ ((k ≡ count) × (i ≡ at)) → j ≡ k
          by_case (inl g) (inl h) = is.listed.once j k i g.1 h.1
          by_case (inl g) (inr h) = absurd (apart i (is.listed.up j i g.1) h.1)
          by_case (inr g) (inl h) = absurd (apart i (is.listed.up k i h.1) g.1)
          by_case (inr g) (inr h) = g.0 ∙ sym h.0

-- where all flags are the same
pub all_are : (b : Bool) (flags : List Bool) → ((i : ℕ) → i < length flags → slice_get flags i ≡ Some b) → flags ≡ replicate (length flags) b
all_are b [] each = refl
all_are b (f ∷ fs) each = ap (λ (x : Bool). x ∷ fs) (some_same f b (each 0 (omega arith))) ∙ ap (λ (bs : List Bool). b ∷ bs) (all_are b fs (λ i h. each (suc i) (omega (arith, h))))

down_at : (n i : ℕ) → slice_get (replicate n false) i ≡ Some true → ⊥
down_at zero i e = cc
down_at (suc n) zero e = cc
down_at (suc n) (suc i) e = down_at n i e

no_front : (list : List ℕ) → take 0 list ≡ []
no_front [] = refl
no_front (x ∷ xs) = refl

pub none_listed : (n : ℕ) (list : List ℕ) → length list ≡ n → IsListed (replicate n false) list 0
none_listed n list sized = record {
  room = sized ∙ sym (Rattle.std.proofs.lemmas.List.length-replicate n false);
  many = sym (many_down n);
  listed = record {
    up = λ k i e. absurd (omega (arith, (front_of list 0 k i e).0));
    each = λ i e. absurd (down_at n i e);
    once = λ j k i a b. absurd (omega (arith, (front_of list 0 j i a).0));
  };
}

-- flags that are still up stand later in the list
abbrev pub AreLeft : List Bool → List ℕ → ℕ → Type 0
AreLeft flags list k = (i : ℕ) → slice_get flags i ≡ Some true → (j : ℕ) × (k ≤ j) × (slice_get list j ≡ Some i)

pub left_first : (flags : List Bool) (list : List ℕ) → AreListed list flags → AreLeft flags list 0
left_first flags list is i up = let at = is.each i up in (at.0, omega arith, at.1)

pub left_less : (flags : List Bool) (list : List ℕ) (k at : ℕ) → at < length flags → slice_get list k ≡ Some at → AreLeft flags list k → AreLeft (slice_set flags at false) list (k + 1)
left_less flags list k at h here left i up = by_case (cases_eq i at)
  where
    by_case : (i ≡ at) ⊎ (i ≢ at) → (j : ℕ) × (k + 1 ≤ j) × (slice_get list j ≡ Some i)
    by_case (inl same) = not_both (slice_get (slice_set flags at false) i) up (ap (slice_get (slice_set flags at false)) same ∙ set_same flags at false h)
    by_case (inr other) =
        let was = left i (sym (set_other flags at i false other) ∙ up) in
        let later : k ≢ was.0 = λ e. other (some_same i at (sym was.2 ∙ ap (slice_get list) (sym e) ∙ here)) in
        (was.0, omega (arith, was.1, later), was.2)

pub none_left : (flags : List Bool) (list : List ℕ) (k : ℕ) → length list ≤ k → AreLeft flags list k → flags ≡ replicate (length flags) false
none_left flags list k long left = all_are false flags (λ i h. by_case i (up_or_down flags i h))
  where
    by_case : (i : ℕ) → (slice_get flags i ≡ Some true) ⊎ (slice_get flags i ≡ Some false) → slice_get flags i ≡ Some false
    by_case i (inl up) = let at = left i up in absurd (omega (arith, long, at.1, slice_get_within list at.0 i at.2))
    by_case i (inr down) = down

-- one flag more is up
pub up_more : (flags : List Bool) (at : ℕ) → at < length flags → ((i : ℕ) → i < at → slice_get flags i ≡ Some true) → (i : ℕ) → i < at + 1 → slice_get (slice_set flags at true) i ≡ Some true
up_more flags at h before i u = by_case (cases_eq i at)
  where
    by_case : (i ≡ at) ⊎ (i ≢ at) → slice_get (slice_set flags at true) i ≡ Some true
    by_case (inl same) = ap (slice_get (slice_set flags at true)) same ∙ set_same flags at true h
    by_case (inr other) = set_other flags at i true other ∙ before i (omega (arith, u, other))

-- a value that is copied
pub copied : (stable m : List ℕ) (at q : ℕ) → at < length stable → slice_index stable q ≡ slice_index m q → slice_index (slice_set stable at (slice_index m at)) q ≡ slice_index m q
copied stable m at q h is = by_case (cases_eq q at)
  where
    by_case : (q ≡ at) ⊎ (q ≢ at) → slice_index (slice_set stable at (slice_index m at)) q ≡ slice_index m q
    by_case (inl same) = ap (slice_index (slice_set stable at (slice_index m at))) same ∙ get_or-set_same stable at (slice_index m at) 0 h ∙ ap (slice_index m) (sym same)
    by_case (inr other) = get_or-set_other stable at q (slice_index m at) 0 other ∙ is

-- the flagged places of a list's front have been copied
abbrev pub AreCopied : List ℕ → ℕ → List ℕ → List ℕ → Type 0
AreCopied list k stable m = (i q : ℕ) → i < k → slice_get list i ≡ Some q → slice_index stable q ≡ slice_index m q

pub copied_more : (list : List ℕ) (k at : ℕ) (stable m : List ℕ) → at < length stable → slice_get list k ≡ Some at → AreCopied list k stable m → AreCopied list (k + 1) (slice_set stable at (slice_index m at)) m
copied_more list k at stable m h here before i q u is = by_case (cases_lt i k)
  where
    by_case : (i < k) ⊎ (k ≤ i) → slice_index (slice_set stable at (slice_index m at)) q ≡ slice_index m q
    by_case (inl low) = copied stable m at q h (before i q low is)
    by_case (inr high) =
        let same : i ≡ k = omega (arith, u, high) in
        let it : q ≡ at = some_same q at (sym is ∙ ap (slice_get list) same ∙ here) in
        ap (slice_index (slice_set stable at (slice_index m at))) it ∙ get_or-set_same stable at (slice_index m at) 0 h ∙ ap (slice_index m) (sym it)

pub same_copied : (flags : List Bool) (at : ℕ) (stable m : List ℕ) → at < length stable → HaveSame flags stable m → HaveSame flags (slice_set stable at (slice_index m at)) m
same_copied flags at stable m h same q down = copied stable m at q h (same q down)

pub all_copied : (flags : List Bool) (list : List ℕ) (k : ℕ) (stable m : List ℕ) → AreListed list flags → length flags ≡ length m → length stable ≡ length m → length list ≤ k → HaveSame flags stable m → AreCopied list k stable m → stable ≡ m
all_copied flags list k stable m is long sized over same before = same_lists stable m sized (λ q d h. any q d h (by_flag q (up_or_down flags q (omega (arith, h, sized, long)))))
  where
    by_flag : (q : ℕ) → (slice_get flags q ≡ Some true) ⊎ (slice_get flags q ≡ Some false) → slice_index stable q ≡ slice_index m q
    by_flag q (inl up) = let at = is.each q up in before at.0 q (omega (arith, over, slice_get_within list at.0 q at.1)) at.1
    by_flag q (inr down) = same q down

    any : (q d : ℕ) → q < length stable → slice_index stable q ≡ slice_index m q → Rattle.std.proofs.Common.get_or stable q d ≡ Rattle.std.proofs.Common.get_or m q d
    any q d h e = Rattle.std.proofs.lemmas.List.get_or_default stable q d 0 h ∙ e ∙ sym (Rattle.std.proofs.lemmas.List.get_or_default m q d 0 (omega (arith, h, sized)))

pub front_sized : (flags : List Bool) (list : List ℕ) (count : ℕ) → IsListed flags list count → count ≡ length (take count list)
front_sized flags list count is = sym (length-take-le count list (omega (arith, is.room, is.many, many_within flags)))
