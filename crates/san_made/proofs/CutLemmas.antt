-- A text is heard piece by piece: what stands before a blank is heard as it is at the end of a line.
use Rattle.san_base.proofs.Bools.{both_true}
use Rattle.std.proofs.Common.{◌≡◌, ℕ, zero, suc, ◌+◌, ◌≤◌, Bool, true, false, cond, List, [], ◌∷◌, ◌++◌, length, map, Result, Ok, Err, Option, Some, None, refl, sym, ap, ◌∙◌, arith, nat_eq}
use Rattle.san_base.specs.Names.{each, is_digit, is_in_name, is_letter}
use Rattle.san_lex.specs.declared.sign.Sign.{Sign}
use Rattle.san_lex.specs.Bytes.{first, is_blank, is_in_line, run}
use Rattle.san_lex.specs.Lexer.{Broken, Front, Gap, Located, Long, Large, Token, TokenFault, Word, double, front, grown, heard, lex, more, named, numbered, sign_front, single, with_token, word_of}

-- wherever they stand, the bytes are heard as these words
abbrev pub Hears : List ℕ → List Word → Type 0
Hears bytes ws = (at : ℕ) → heard (lex 0 at bytes) ≡ Ok ws

-- the end of a line, or a space
abbrev pub blank : Bool → ℕ
blank true = 10
blank false = 32

-- a byte that begins no comment
abbrev pub is_plain : ℕ → Bool
is_plain b = cond (nat_eq b 35) false true

abbrev pub IsPlain : List ℕ → Type 0
IsPlain bytes = each is_plain bytes ≡ true

no_comment : (u : ℕ) → is_plain u ≡ true → nat_eq u 35 ≡ false
no_comment u h = by_test (nat_eq u 35) refl h
  where
    by_test : (t : Bool) → nat_eq u 35 ≡ t → cond t false true ≡ true → nat_eq u 35 ≡ false
    by_test true e g = absurd cc
    by_test false e g = e

run_cut : (p : ℕ → Bool) (s : ℕ) (us vs : List ℕ) → p s ≡ false → p 10 ≡ false → run p (us ++ s ∷ vs) ≡ run p (us ++ 10 ∷ [])
unfolding run
run_cut p s [] vs a b = ap (λ (c : Bool). cond c (s ∷ run p vs) []) a ∙ sym (ap (λ (c : Bool). cond c (10 ∷ []) []) b)
run_cut p s (u ∷ us) vs a b = ap (λ (xs : List ℕ). cond (p u) (u ∷ xs) []) (run_cut p s us vs a b)

one_more : (b : Bool) (u n : ℕ) (xs : List ℕ) → length xs ≤ n → length (cond b (u ∷ xs) []) ≤ suc n
one_more true u n xs l = omega (arith, l)
one_more false u n xs l = omega arith

run_within : (p : ℕ → Bool) (us : List ℕ) → p 10 ≡ false → length (run p (us ++ 10 ∷ [])) ≤ length us
unfolding run
run_within p [] b = let none : length (cond (p 10) (10 ∷ []) []) ≡ 0 = ap (λ (c : Bool). length {A = ℕ} (cond c (10 ∷ []) [])) b in omega (arith, none)
run_within p (u ∷ us) b = one_more (p u) u (length us) (run p (us ++ 10 ∷ [])) (run_within p us b)

quiet : (e : Bool) → (is_in_name (blank e) ≡ false) × (is_digit (blank e) ≡ false)
quiet true = (refl, refl)
quiet false = (refl, refl)

next_cut : (e : Bool) (u : ℕ) (us vs : List ℕ) → double u (first (us ++ blank e ∷ vs)) ≡ double u (first (us ++ 10 ∷ []))
unfolding double
next_cut true u [] vs = refl
next_cut false u [] vs = refl
next_cut e u (x ∷ us) vs = refl

front_by : (u : ℕ) (bs cs : List ℕ) → nat_eq u 35 ≡ false → run is_in_name bs ≡ run is_in_name cs → run is_digit bs ≡ run is_digit cs → double u (first bs) ≡ double u (first cs) → front u bs ≡ front u cs
unfolding front
front_by u bs cs hash names digits next = rw (hash, names, digits, next) refl

front_cut : (e : Bool) (u : ℕ) (us vs : List ℕ) → is_plain u ≡ true → front u (us ++ blank e ∷ vs) ≡ front u (us ++ 10 ∷ [])
front_cut e u us vs plain =
    let q = quiet e in
    front_by u (us ++ blank e ∷ vs) (us ++ 10 ∷ []) (no_comment u plain) (run_cut is_in_name (blank e) us vs q.0 refl) (run_cut is_digit (blank e) us vs q.1 refl) (next_cut e u us vs)

-- ---- what stands at the front takes no byte of the blank

either_within : (n : ℕ) (b : Bool) (x y : Front) → more x ≤ n → more y ≤ n → more (cond b x y) ≤ n
either_within n true x y h k = h
either_within n false x y h k = k

named_within : (u n : ℕ) (r : List ℕ) → length r ≤ n → more (named (u ∷ r)) ≤ n
unfolding named
named_within u n r l = either_within n _ (Broken Long) (Token _ (length r)) (omega arith) l

numbered_within : (u n : ℕ) (r : List ℕ) → length r ≤ n → more (numbered (u ∷ r)) ≤ n
unfolding numbered
numbered_within u n r l = either_within n _ (Token _ (length r)) (Broken Large) l (omega arith)

one_byte : (s : Option Sign) → more (sign_front None s) ≤ 0
one_byte None = omega arith
one_byte (Some s) = omega arith

two_bytes : (s t : Option Sign) (n : ℕ) → more (sign_front s t) ≤ suc n
two_bytes (Some s) t n = omega arith
two_bytes None (Some t) n = omega arith
two_bytes None None n = omega arith

sign_within : (u : ℕ) (us : List ℕ) → more (sign_front (double u (first (us ++ 10 ∷ []))) (single u)) ≤ length us
unfolding double
sign_within u [] = one_byte (single u)
sign_within u (x ∷ us) = two_bytes (double u x) (single u) (length us)

more_within : (u : ℕ) (us : List ℕ) → more (front u (us ++ 10 ∷ [])) ≤ length us
unfolding front
more_within u us =
    either_within (length us) (is_blank u) (Gap 0) _ (omega arith)
    (either_within (length us) (nat_eq u 35) (Gap (length (run is_in_line (us ++ 10 ∷ [])))) _ (run_within is_in_line us refl)
    (either_within (length us) (is_letter u) (named (u ∷ run is_in_name (us ++ 10 ∷ []))) _ (named_within u (length us) (run is_in_name (us ++ 10 ∷ [])) (run_within is_in_name us refl))
    (either_within (length us) (is_digit u) (numbered (u ∷ run is_digit (us ++ 10 ∷ []))) (sign_front (double u (first (us ++ 10 ∷ []))) (single u)) (numbered_within u (length us) (run is_digit (us ++ 10 ∷ [])) (run_within is_digit us refl))
    (sign_within u us))))

-- ---- what is heard

split : (p : Located) (r : Result (List Located) TokenFault) (ws : List Word) → heard (with_token p r) ≡ Ok ws → (xs : List Word) × (heard r ≡ Ok xs) × (p.word ∷ xs ≡ ws)
split p (Ok ps) ws e = (map word_of ps, refl, cc)
split p (Err f) ws e = absurd cc

put_before : (p : Located) (r : Result (List Located) TokenFault) (ws : List Word) → heard r ≡ Ok ws → heard (with_token p r) ≡ Ok (p.word ∷ ws)
put_before p (Ok ps) ws e = let same : map word_of ps ≡ ws = cc in ap (λ (us : List Word). Ok (p.word ∷ us)) same
put_before p (Err f) ws e = absurd cc

behind_blank : (e : Bool) (at : ℕ) (vs : List ℕ) (xs : List Word) → Hears vs xs → heard (lex 0 at (blank e ∷ vs)) ≡ Ok xs
unfolding lex front
behind_blank true at vs xs h = h (suc at)
behind_blank false at vs xs h = h (suc at)

-- the words before the blank, and those behind it
abbrev Cuts : Bool → List ℕ → List ℕ → List Word → Type 0
Cuts e us vs xs = (skip at : ℕ) (ws : List Word) → skip ≤ length us → heard (lex skip at (us ++ 10 ∷ [])) ≡ Ok ws → heard (lex skip at (us ++ blank e ∷ vs)) ≡ Ok (ws ++ xs)

goes_on : (e : Bool) (us vs : List ℕ) (xs : List Word) → Cuts e us vs xs → (f : Front) (at : ℕ) (ws : List Word) → more f ≤ length us
    → heard (grown f at (lex (more f) (suc at) (us ++ 10 ∷ []))) ≡ Ok ws → heard (grown f at (lex (more f) (suc at) (us ++ blank e ∷ vs))) ≡ Ok (ws ++ xs)
goes_on e us vs xs cuts (Gap n) at ws l h = cuts n (suc at) ws l h
goes_on e us vs xs cuts (Token w n) at ws l h =
    let s = split (record { word = w; start = at; end = at + suc n }) (lex n (suc at) (us ++ 10 ∷ [])) ws h in
    put_before (record { word = w; start = at; end = at + suc n }) (lex n (suc at) (us ++ blank e ∷ vs)) (s.0 ++ xs) (cuts n (suc at) s.0 l s.1) ∙ ap (λ (us : List Word). Ok (us ++ xs)) s.2
goes_on e us vs xs cuts (Broken f) at ws l h = absurd cc

no_words : (ws : List Word) (at : ℕ) → heard (lex 0 at (10 ∷ [])) ≡ Ok ws → [] ≡ ws
unfolding lex front
no_words ws at h = cc

lex_cut : (e : Bool) (us vs : List ℕ) (xs : List Word) → IsPlain us → Hears vs xs → Cuts e us vs xs
unfolding lex
lex_cut e [] vs xs plain behind zero at ws l h = behind_blank e at vs xs behind ∙ ap (λ (us : List Word). Ok (us ++ xs)) (no_words ws at h)
lex_cut e [] vs xs plain behind (suc k) at ws l h = absurd (omega (arith, l))
lex_cut e (u ∷ us) vs xs plain behind zero at ws l h =
    let p = both_true (is_plain u) (each is_plain us) plain in
    ap (λ (f : Front). heard (grown f at (lex (more f) (suc at) (us ++ blank e ∷ vs)))) (front_cut e u us vs p.0)
    ∙ goes_on e us vs xs (lex_cut e us vs xs p.1 behind) (front u (us ++ 10 ∷ [])) at ws (more_within u us) h
lex_cut e (u ∷ us) vs xs plain behind (suc k) at ws l h =
    let p = both_true (is_plain u) (each is_plain us) plain in
    lex_cut e us vs xs p.1 behind k (suc at) ws (omega (arith, l)) h

-- a line, and what is behind its end
pub line_heard : (us vs : List ℕ) (ws xs : List Word) → IsPlain us → Hears (us ++ 10 ∷ []) ws → Hears vs xs → Hears (us ++ 10 ∷ vs) (ws ++ xs)
line_heard us vs ws xs plain h behind at = lex_cut true us vs xs plain behind 0 at ws (omega arith) (h at)

-- the front of a line, and what is behind a space
pub front_heard : (us vs : List ℕ) (ws xs : List Word) → IsPlain us → Hears (us ++ 10 ∷ []) ws → Hears vs xs → Hears (us ++ 32 ∷ vs) (ws ++ xs)
front_heard us vs ws xs plain h behind at = lex_cut false us vs xs plain behind 0 at ws (omega arith) (h at)
