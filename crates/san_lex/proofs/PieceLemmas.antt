-- Pieces of names and numbers are what stands at the front.
use Rattle.std.proofs.Common.{◌≡◌, ℕ, suc, ◌-◌, ◌<◌, ◌≤◌, Bool, true, false, cond, ◌&&◌, List, [], ◌∷◌, length, take, drop, Some, None, refl, sym, ap, ◌∙◌, arith}
use Rattle.std.proofs.lemmas.Bool.Decides.{nat_tests}
use Rattle.std.specs.Str.Parse.{digits_value}
use Rattle.san_lex.specs.declared.keyword.Keyword.{Keyword}
use Rattle.san_lex.specs.declared.sign.Sign.TheVariants as sign
use Rattle.san_lex.specs.declared.token.Kind.TheVariants as kind
use Rattle.san_lex.specs.declared.piece.Piece.TheVariants as piece
use Rattle.std.specs.Prelude.{nat_le}
use Rattle.san_base.specs.declared.limits.TheConstants.{MAX_NAME_BYTES}
use Rattle.san_lex.specs.declared.byte.TheConstants.{MAX_NUMBER}
use Rattle.san_base.specs.Names.{is_digit, is_in_name, each}
use Rattle.san_lex.specs.Bytes.{first, run}
use Rattle.san_lex.specs.Keywords.{keyword_of}
use Rattle.san_lex.specs.Lexer.{Number, Name, Token, Broken, Large, named, numbered}
use Rattle.san_lex.specs.inner.Fronts.{NameFront, NumberFront}
use Rattle.san_lex.proofs.RunLemmas.{run_take}
use Rattle.san_lex.proofs.WordLemmas.{each_run}

pub take_whole : (bs : List ℕ) → take (length bs) bs ≡ bs
take_whole [] = refl
take_whole (b ∷ bs) = ap (λ (us : List ℕ). b ∷ us) (take_whole bs)

-- what a slice pattern gives behind the first item
pub rest_of : (bytes : List ℕ) → take (length bytes - 1) (drop 1 bytes) ≡ drop 1 bytes
rest_of [] = refl
rest_of (b ∷ bs) = let one : suc (length bs) - 1 ≡ length bs = omega arith in ap (λ (n : ℕ). take n bs) one ∙ take_whole bs

pub run_rest : (p : ℕ → Bool) (bytes : List ℕ) (n : ℕ) → n ≡ length (run p (take (length bytes - 1) (drop 1 bytes))) → n ≡ length (run p (drop 1 bytes))
run_rest p bytes n e = e ∙ ap (λ (bs : List ℕ). length (run p bs)) (rest_of bytes)

whole : (p : ℕ → Bool) (b n : ℕ) (bs : List ℕ) → n ≡ length (run p bs) → take (suc n) (b ∷ bs) ≡ b ∷ run p bs
whole p b n bs e = ap (λ (k : ℕ). b ∷ take k bs) e ∙ ap (λ (us : List ℕ). b ∷ us) (run_take p bs)

pub number_each : (bytes : List ℕ) (n : ℕ) → 1 ≤ length bytes → is_digit (first bytes) ≡ true → n ≡ length (run is_digit (drop 1 bytes)) → each is_digit (take (suc n) bytes) ≡ true
number_each [] n lt h e = absurd (omega arith)
number_each (b ∷ bs) n lt h e = ap (each is_digit) (whole is_digit b n bs e) ∙ ap (λ (c : Bool). c && each is_digit (run is_digit bs)) h ∙ each_run is_digit bs

pub number_small : (bytes : List ℕ) (n v : ℕ) → 1 ≤ length bytes → n ≡ length (run is_digit (drop 1 bytes)) → v ≡ digits_value 10 (take (suc n) bytes) → v ≤ MAX_NUMBER → NumberFront bytes (piece.Token (kind.Number v) n)
unfolding numbered
number_small [] n v lt e h small = tt
number_small (b ∷ bs) n v lt e h small =
    let same : v ≡ digits_value 10 (b ∷ run is_digit bs) = h ∙ ap (digits_value 10) (whole is_digit b n bs e) in
    let t : nat_le v MAX_NUMBER ≡ true = grind (arith, nat_tests) in
    rw (← same, t, ← e) refl

pub number_large : (bytes : List ℕ) (n : ℕ) → 1 ≤ length bytes → n ≡ length (run is_digit (drop 1 bytes)) → MAX_NUMBER < digits_value 10 (take (suc n) bytes) → NumberFront bytes piece.Large
unfolding numbered
number_large [] n lt e h = tt
number_large (b ∷ bs) n lt e h =
    let same = ap (digits_value 10) (whole is_digit b n bs e) in
    let big : nat_le (digits_value 10 (take (suc n) (b ∷ bs))) MAX_NUMBER ≡ false = grind (arith, nat_tests) in
    let t : nat_le (digits_value 10 (b ∷ run is_digit bs)) MAX_NUMBER ≡ false = ap (λ (k : ℕ). nat_le k MAX_NUMBER) (sym same) ∙ big in
    sym (ap (λ (c : Bool). cond c (Token (Number (digits_value 10 (b ∷ run is_digit bs))) (length (run is_digit bs))) (Broken Large)) t)

pub name_is : (bytes : List ℕ) (n : ℕ) → 1 ≤ length bytes → n ≡ length (run is_in_name (drop 1 bytes)) → n < MAX_NAME_BYTES → keyword_of (take (suc n) bytes) ≡ None → NameFront bytes (piece.Token kind.Name n)
unfolding named
name_is [] n lt e small k = tt
name_is (b ∷ bs) n lt e small k =
    let w = whole is_in_name b n bs e in
    let key : keyword_of (b ∷ run is_in_name bs) ≡ None = ap keyword_of (sym w) ∙ k in
    let t : nat_le MAX_NAME_BYTES n ≡ false = grind (arith, nat_tests) in
    let no : suc n - 0 ≡ suc n = omega arith in
    let left : Token (Name (take (suc n - 0) (b ∷ bs))) n ≡ Token (Name (b ∷ run is_in_name bs)) n = ap (λ (m : ℕ). Token (Name (take m (b ∷ bs))) n) no ∙ ap (λ (us : List ℕ). Token (Name us) n) w in
    left ∙ sym (rw (← e, t, key) refl)

pub keyword_is : (bytes : List ℕ) (n : ℕ) (s : Keyword) → 1 ≤ length bytes → n ≡ length (run is_in_name (drop 1 bytes)) → n < MAX_NAME_BYTES → keyword_of (take (suc n) bytes) ≡ Some s → NameFront bytes (piece.Token (kind.Fixed (sign.Keyword s)) n)
unfolding named
keyword_is [] n s lt e small k = tt
keyword_is (b ∷ bs) n s lt e small k =
    let key : keyword_of (b ∷ run is_in_name bs) ≡ Some s = ap keyword_of (sym (whole is_in_name b n bs e)) ∙ k in
    let t : nat_le MAX_NAME_BYTES n ≡ false = grind (arith, nat_tests) in
    sym (rw (← e, t, key) refl)
