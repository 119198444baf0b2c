-- The tokens of a text are words that can be written.
use Rattle.std.proofs.Common.{◌≡◌, ℕ, zero, suc, ◌+◌, ◌<◌, ◌≤◌, Bool, true, false, cond, ◌&&◌, List, [], ◌∷◌, length, map, Result, Ok, Err, Option, Some, None, refl, ap, subst, ◌∙◌, arith}
use Rattle.std.specs.Prelude.{nat_eq, nat_le}
use Rattle.std.proofs.lemmas.Bool.Decides.{nat_tests}
use Rattle.std.specs.Str.Parse.{digits_value}
use Rattle.san_lex.specs.declared.keyword.Keyword.{Keyword}
use Rattle.san_lex.specs.declared.sign.Sign.{Sign}
use Rattle.san_base.specs.declared.limits.TheConstants.{MAX_NAME_BYTES}
use Rattle.san_lex.specs.declared.byte.TheConstants.{MAX_NUMBER}
use Rattle.san_base.specs.Names.{is_letter, is_digit, is_in_name, each}
use Rattle.san_lex.specs.Bytes.{is_blank, run, first}
use Rattle.san_lex.specs.Keywords.{keyword_of}
use Rattle.san_lex.specs.Lexer.{Number, TokenFault, Large, Long, Front, Gap, Token, Broken, name_word, named, numbered, single, double, sign_front, front, more, Located, with_token, grown, lex, word_of}
use Rattle.san_lex.specs.Words.{IsWord, AreWords}

abbrev FrontFits : Front → Type 0
FrontFits (Gap n) = Unit {0}
FrontFits (Token w n) = IsWord w
FrontFits (Broken f) = Unit {0}

either : (c : Bool) (x y : Front) → (c ≡ true → FrontFits x) → (c ≡ false → FrontFits y) → FrontFits (cond c x y)
either true x y h k = h refl
either false x y h k = k refl

each_run_at : (p : ℕ → Bool) (b : ℕ) (us : List ℕ) (c : Bool) → p b ≡ c → each p us ≡ true → each p (cond c (b ∷ us) []) ≡ true
each_run_at p b us true e h = ap (λ (x : Bool). x && each p us) e ∙ h
each_run_at p b us false e h = refl

pub each_run : (p : ℕ → Bool) (bs : List ℕ) → each p (run p bs) ≡ true
unfolding run
each_run p [] = refl
each_run p (b ∷ bs) = each_run_at p b (run p bs) (p b) refl (each_run p bs)

name_fits : (o : Option Keyword) (b : ℕ) (bs : List ℕ) → keyword_of (b ∷ bs) ≡ o → is_letter b ≡ true → each is_in_name bs ≡ true → length bs < MAX_NAME_BYTES → IsWord (name_word o (b ∷ bs))
name_fits None b bs k l e lt = (l, e, lt, k)
name_fits (Some s) b bs k l e lt = tt

named_fits : (b : ℕ) (bs : List ℕ) → is_letter b ≡ true → each is_in_name bs ≡ true → FrontFits (named (b ∷ bs))
unfolding named
named_fits b bs l e = either (nat_le MAX_NAME_BYTES (length bs)) (Broken Long) (Token (name_word (keyword_of (b ∷ bs)) (b ∷ bs)) (length bs)) (λ h. tt)
    (λ h. name_fits (keyword_of (b ∷ bs)) b bs refl l e (grind (arith, nat_tests)))

below : (n : ℕ) → nat_le n MAX_NUMBER ≡ true → n ≤ MAX_NUMBER
below n h = grind (arith, nat_tests)

numbered_fits : (b : ℕ) (bs : List ℕ) → FrontFits (numbered (b ∷ bs))
unfolding numbered
numbered_fits b bs = either (nat_le (digits_value 10 (b ∷ bs)) MAX_NUMBER) (Token (Number (digits_value 10 (b ∷ bs))) (length bs)) (Broken Large) (λ h. below (digits_value 10 (b ∷ bs)) h) (λ h. tt)

sign_fits : (o p : Option Sign) → FrontFits (sign_front o p)
sign_fits (Some s) p = tt
sign_fits None (Some s) = tt
sign_fits None None = tt

front_fits : (b : ℕ) (bs : List ℕ) → FrontFits (front b bs)
unfolding front
front_fits b bs =
    either (is_blank b) _ _ (λ h. tt) (λ h.
    either (nat_eq b 35) _ _ (λ h. tt) (λ h.
    either (is_letter b) _ _ (λ h. named_fits b (run is_in_name bs) h (each_run is_in_name bs)) (λ h.
    either (is_digit b) _ _ (λ h. numbered_fits b (run is_digit bs)) (λ h. sign_fits (double b (first bs)) (single b)))))

token_words : (p : Located) (r : Result (List Located) TokenFault) (ps : List Located) → with_token p r ≡ Ok ps → (qs : List Located) × (r ≡ Ok qs) × (p ∷ qs ≡ ps)
token_words p (Ok qs) ps e = (qs, refl, cc)
token_words p (Err f) ps e = absurd cc

grown_words : (f : Front) (at : ℕ) (r : Result (List Located) TokenFault) (ps : List Located) → FrontFits f → ((qs : List Located) → r ≡ Ok qs → AreWords (map word_of qs)) → grown f at r ≡ Ok ps → AreWords (map word_of ps)
grown_words (Gap n) at r ps h rest e = rest ps e
grown_words (Token w n) at r ps h rest e =
    let t = token_words (record { word = w; start = at; end = at + suc n }) r ps e in
    subst (λ (qs : List Located). AreWords (map word_of qs)) t.2 (h, rest t.0 t.1)
grown_words (Broken f) at r ps h rest e = absurd cc

pub lex_words : (skip at : ℕ) (bs : List ℕ) (ps : List Located) → lex skip at bs ≡ Ok ps → AreWords (map word_of ps)
unfolding lex
lex_words skip at [] ps e = let none : [] ≡ ps = cc in subst (λ (qs : List Located). AreWords (map word_of qs)) none tt
lex_words (suc k) at (b ∷ bs) ps e = lex_words k (suc at) bs ps e
lex_words zero at (b ∷ bs) ps e = grown_words (front b bs) at (lex (more (front b bs)) (suc at) bs) ps (front_fits b bs) (λ qs h. lex_words (more (front b bs)) (suc at) bs qs h) e
