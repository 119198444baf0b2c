-- Walking one part, then another.
use Rattle.std.proofs.Common.{◌≡◌, ℕ, suc, ◌+◌, ◌<◌, List, [], ◌∷◌, ◌++◌, map, length, drop, get_or, min, Some, None, refl, sym, ap, ◌∙◌, arith, add-one, drop-cons}
use Rattle.std.specs.Option.{option_map}
use Rattle.san_check.specs.declared.walk.Walk.{Walk}
use Rattle.san_check.specs.declared.walk.Fault.{Fault}
use Rattle.san_check.specs.walk.Entries.{Entries, joined, first_fault, reported}
use Rattle.san_check.specs.inner.Walks.{seen, seen_all}

pub seen_append : (walk : Walk) (us vs : Entries) → seen_all walk (us ++ vs) ≡ seen_all (seen_all walk us) vs
seen_append walk [] vs = refl
seen_append walk (u ∷ us) vs = seen_append (seen walk u) us vs

pub two_parts : (w w1 w2 : Walk) (us vs : Entries) → w1 ≡ seen_all w us → w2 ≡ seen_all w1 vs → w2 ≡ seen_all w (us ++ vs)
two_parts w w1 w2 us vs h k = k ∙ ap (λ (x : Walk). seen_all x vs) h ∙ sym (seen_append w us vs)

pub three_parts : (w w1 w2 w3 : Walk) (us vs ws : Entries) → w1 ≡ seen_all w us → w2 ≡ seen_all w1 vs → w3 ≡ seen_all w2 ws → w3 ≡ seen_all w (us ++ (vs ++ ws))
three_parts w w1 w2 w3 us vs ws a b c = two_parts w w1 w3 us (vs ++ ws) a (two_parts w1 w2 w3 vs ws b c)

-- one more part, and what is left behind it
pub part_goes_on : (w w1 total : Walk) (us vs : Entries) → w1 ≡ seen_all w us → seen_all w (us ++ vs) ≡ total → seen_all w1 vs ≡ total
part_goes_on w w1 total us vs h so_far = ap (λ (x : Walk). seen_all x vs) h ∙ sym (seen_append w us vs) ∙ so_far

-- the next item of a list, and those behind it
pub dropped : {A : Type 0} (xs : List A) (i : ℕ) (x : A) → i < length xs → x ≡ get_or xs i x → drop i xs ≡ x ∷ drop (i + 1) xs
dropped xs i x lt is = drop-cons xs i x lt ∙ ap (λ y. y ∷ drop (suc i) xs) (sym is) ∙ ap (λ n. x ∷ drop n xs) (sym (add-one i))

pub list_goes_on : {A : Type 0} (f : A → Entries) (xs : List A) (i : ℕ) (x : A) (w w1 total : Walk) → i < length xs → x ≡ get_or xs i x → w1 ≡ seen_all w (f x)
    → seen_all w (joined (map f (drop i xs))) ≡ total → seen_all w1 (joined (map f (drop (i + 1) xs))) ≡ total
list_goes_on f xs i x w w1 total lt is h so_far =
    part_goes_on w w1 total (f x) (joined (map f (drop (i + 1) xs))) h (ap (λ ys. seen_all w (joined (map f ys))) (sym (dropped xs i x lt is)) ∙ so_far)

stays : (n : ℕ) (f : Fault) (es : Entries) → (seen_all (record { words = n; fault = Some f }) es).fault ≡ Some f
unfolding seen
stays n f [] = refl
stays n f (e ∷ es) = stays (min (suc n) 4294967295) f es

found_from : (n : ℕ) (es : Entries) → (seen_all (record { words = min n 4294967295; fault = None }) es).fault ≡ option_map reported (first_fault n es)
unfolding seen
found_from n [] = refl
found_from n (None ∷ es) =
    let next : min (suc (min n 4294967295)) 4294967295 ≡ min (suc n) 4294967295 = omega arith in
    ap (λ k. (seen_all (record { words = k; fault = None }) es).fault) next ∙ found_from (suc n) es
found_from n (Some c ∷ es) = stays (min (suc (min n 4294967295)) 4294967295) (record { code = c; word = min n 4294967295 }) es

-- a walk from the start finds the first fault
pub first_of_walk : (es : Entries) → (seen_all (record { words = 0; fault = None }) es).fault ≡ option_map reported (first_fault 0 es)
first_of_walk es = found_from 0 es
