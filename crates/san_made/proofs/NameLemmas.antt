-- Names that end with a number, and numbers, as words.
use Rattle.std.proofs.Common.{◌≡◌, ℕ, ◌<◌, ◌≤◌, Bool, true, false, ◌&&◌, List, [], ◌∷◌, ◌++◌, length, None, refl, ap, ◌∙◌, arith, nat_eq}
use Rattle.san_base.proofs.Bools.{both_true}
use Rattle.std.proofs.lemmas.Bool.Decides.{nat_tests}
use Rattle.std.proofs.lemmas.Fmt.{decimal_is_IsNumeral, length-decimal-le}
use Rattle.std.specs.Char.{digit_value}
use Rattle.std.specs.Fmt.{decimal}
use Rattle.std.specs.Str.Parse.{AllDigits}
use Rattle.san_base.specs.Names.{each, is_in_name}
use Rattle.san_lex.specs.Keywords.{keyword_of}
use Rattle.san_lex.specs.Words.{IsName}
use Rattle.san_made.proofs.CutLemmas.{IsPlain, is_plain}

digit_named : (b : ℕ) → digit_value b < 10 → is_in_name b ≡ true
digit_named b h = grind (arith, nat_tests)

digit_plain : (b : ℕ) → digit_value b < 10 → is_plain b ≡ true
digit_plain b h = let apart : nat_eq b 35 ≡ false = grind (arith, nat_tests) in rw apart refl

each_named : (ds : List ℕ) → AllDigits 10 ds → each is_in_name ds ≡ true
each_named [] h = refl
each_named (d ∷ ds) h = ap (λ (b : Bool). b && each is_in_name ds) (digit_named d h.0) ∙ each_named ds h.1

each_plain : (ds : List ℕ) → AllDigits 10 ds → IsPlain ds
each_plain [] h = refl
each_plain (d ∷ ds) h = ap (λ (b : Bool). b && each is_plain ds) (digit_plain d h.0) ∙ each_plain ds h.1

-- what is known of a number's digits
pub record HasDigits (ds : List ℕ) : Type 0 where
  pub some : 0 < length ds
  pub few : length ds ≤ 4
  pub digits : AllDigits 10 ds

pub digits_of : (k : ℕ) → k ≤ 1024 → HasDigits (decimal k)
digits_of k l =
    let d = decimal_is_IsNumeral k (omega (arith, l)) in
    record { some = d.0.0; few = length-decimal-le 4 k (omega arith) (omega (arith, l)) (omega (arith, l)); digits = d.0.1 }

no_keyword : (ds : List ℕ) → HasDigits ds → keyword_of (115 ∷ ds) ≡ None
unfolding keyword_of
no_keyword [] h = let l = h.some in absurd (omega (arith, l))
no_keyword (d ∷ ds) h =
    let digit : digit_value d < 10 = h.digits.0 in
    let a : nat_eq 97 d ≡ false = grind (arith, nat_tests) in
    let b : nat_eq 104 d ≡ false = grind (arith, nat_tests) in
    let c : nat_eq 121 d ≡ false = grind (arith, nat_tests) in
    rw (a, b, c) refl

-- `s` and a number
pub station_named : (k : ℕ) → k ≤ 1024 → IsName (115 ∷ decimal k)
station_named k l =
    let d = digits_of k l in
    let few = d.few in
    (refl, each_named (decimal k) d.digits, omega (arith, few), no_keyword (decimal k) d)

-- `w` and a number; no keyword begins so
pub wire_named : (k : ℕ) → k ≤ 1024 → IsName (119 ∷ decimal k)
unfolding keyword_of
wire_named k l =
    let d = digits_of k l in
    let few = d.few in
    (refl, each_named (decimal k) d.digits, omega (arith, few), refl)

-- ---- no byte of a line begins a comment

plain_append : (xs ys : List ℕ) → IsPlain xs → IsPlain ys → IsPlain (xs ++ ys)
plain_append [] ys h k = k
plain_append (x ∷ xs) ys h k =
    let p = both_true (is_plain x) (each is_plain xs) h in
    ap (λ (b : Bool). b && each is_plain (xs ++ ys)) p.0 ∙ plain_append xs ys p.1 k

-- a number between such bytes
pub plain_around : (xs : List ℕ) (k : ℕ) (ys : List ℕ) → k ≤ 1024 → IsPlain xs → IsPlain ys → IsPlain (xs ++ (decimal k ++ ys))
plain_around xs k ys l h g = plain_append xs (decimal k ++ ys) h (plain_append (decimal k) ys (each_plain (decimal k) (digits_of k l).digits) g)
