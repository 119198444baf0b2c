-- Going over the bytes that pass a test, one by one.
use Rattle.san_base.proofs.Bools.{both_true}
use Rattle.std.proofs.Common.{◌≡◌, ℕ, zero, suc, ◌+◌, ◌<◌, ◌≤◌, Bool, true, false, cond, ◌&&◌, nat_lt, List, [], ◌∷◌, length, drop, get_or, refl, ap, arith, drop-cons, take, ◌*◌}
use Rattle.std.proofs.lemmas.Bool.Decides.{nat_tests}
use Rattle.std.specs.Char.{digit_value}
use Rattle.std.specs.Str.Parse.{digits_value}
use Rattle.std.proofs.lemmas.Int.Digits.{digits_value_more}
use Rattle.std.proofs.lemmas.Str.Parse.{digits_value-take-le}
use Rattle.san_base.specs.Names.{each}
use Rattle.san_lex.specs.Bytes.{run}

pub digit_test : (b : ℕ) → nat_lt (digit_value b) 10 ≡ (nat_lt 47 b && nat_lt b 58)
digit_test b = grind (arith, nat_tests)

-- how many pass from a place on
pub run_goes : (p : ℕ → Bool) (bs : List ℕ) (n : ℕ) → n < length bs → p (get_or bs n 0) ≡ true → suc (length (run p (drop (suc n) bs))) ≡ length (run p (drop n bs))
unfolding run
run_goes p bs n lt e = rw (drop-cons bs n 0, e) refl

pub run_stops : (p : ℕ → Bool) (bs : List ℕ) (n : ℕ) → n < length bs → p (get_or bs n 0) ≡ false → length (run p (drop n bs)) ≡ 0
unfolding run
run_stops p bs n lt e = rw (drop-cons bs n 0, e) refl

pub run_ends : (p : ℕ → Bool) (bs : List ℕ) (n : ℕ) → length bs ≤ n → length (run p (drop n bs)) ≡ 0
unfolding run
run_ends p [] zero le = refl
run_ends p [] (suc n) le = refl
run_ends p (b ∷ bs) zero le = absurd (omega arith)
run_ends p (b ∷ bs) (suc n) le = run_ends p bs n (omega arith)

pub each_at : (p : ℕ → Bool) (bs : List ℕ) (i : ℕ) → each p bs ≡ true → i < length bs → p (get_or bs i 0) ≡ true
each_at p [] i h lt = absurd (omega arith)
each_at p (b ∷ bs) zero h lt = (both_true (p b) (each p bs) h).0
each_at p (b ∷ bs) (suc i) h lt = each_at p bs i (both_true (p b) (each p bs) h).1 (omega arith)

pub value_more : (ds : List ℕ) (i : ℕ) → i < length ds → digits_value 10 (take (i + 1) ds) ≡ digits_value 10 (take i ds) * 10 + digit_value (get_or ds i 0)
value_more ds i lt = digits_value_more 10 ds i lt

pub value_grows : (ds : List ℕ) (i : ℕ) → digits_value 10 (take i ds) ≤ digits_value 10 ds
value_grows ds i = digits_value-take-le 10 ds i (omega arith)

-- what passes is so many from the front
pub run_take_at : (p : ℕ → Bool) (b : ℕ) (bs us : List ℕ) (c : Bool) → take (length us) bs ≡ us → take (length (cond c (b ∷ us) [])) (b ∷ bs) ≡ cond c (b ∷ us) []
run_take_at p b bs us true h = ap (λ (xs : List ℕ). b ∷ xs) h
run_take_at p b bs us false h = refl

pub run_take : (p : ℕ → Bool) (bs : List ℕ) → take (length (run p bs)) bs ≡ run p bs
unfolding run
run_take p [] = refl
run_take p (b ∷ bs) = run_take_at p b bs (run p bs) (p b) (run_take p bs)
