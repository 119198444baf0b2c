-- Offsets of tokens, and the offsets of the words that count.
use Rattle.std.proofs.Common.{◌≡◌, ℕ, zero, suc, ◌+◌, ◌-◌, ◌<◌, ◌≤◌, Bool, true, false, cond, List, [], ◌∷◌, ◌++◌, length, map, drop, get_or, Ok, refl, sym, ap, subst, ◌∙◌, append_assoc, arith}
use Rattle.std.proofs.lemmas.List.{length-map}
use Rattle.san_lex.specs.declared.token.Token.{Token}
use Rattle.san_lex.specs.Lexer.{Word, tokens, word_of}
use Rattle.san_lex.specs.Pieces.{located, kind_word}
use Rattle.san_lex.specs.Words.{AreWords}
use Rattle.san_lex.proofs.WordLemmas.{lex_words}
use Rattle.san_text.specs.inner.Tokens.{word, words}
use Rattle.san_text.specs.declared.text.Before.{Before}
use Rattle.san_text.specs.Texts.{start_or, offset_of, is_counted, after_word, spots_after}

start_at : (text : List ℕ) (ts : List Token) (i : ℕ) (d : Token) (end : ℕ) → i < length ts → start_or end (drop i (map (located text) ts)) ≡ (get_or ts i d).start
start_at text [] i d end lt = absurd (omega arith)
start_at text (t ∷ ts) zero d end lt = refl
start_at text (t ∷ ts) (suc i) d end lt = start_at text ts i d end (omega arith)

start_end : (text : List ℕ) (ts : List Token) (i end : ℕ) → length ts ≤ i → start_or end (drop i (map (located text) ts)) ≡ end
start_end text [] zero end le = refl
start_end text [] (suc i) end le = refl
start_end text (t ∷ ts) zero end le = absurd (omega arith)
start_end text (t ∷ ts) (suc i) end le = start_end text ts i end (omega arith)

pub offset_at : (text : List ℕ) (ts : List Token) (left i : ℕ) (d : Token) → i ≡ length ts - left → i < length ts → offset_of text (map (located text) ts) left ≡ (get_or ts i d).start
unfolding offset_of
offset_at text ts left i d e lt =
    let same : length (map (located text) ts) - left ≡ i = omega (arith, length-map ts (located text)) in
    ap (λ (n : ℕ). start_or (length text) (drop n (map (located text) ts))) same ∙ start_at text ts i d (length text) lt

pub offset_end : (text : List ℕ) (ts : List Token) (left i : ℕ) → i ≡ length ts - left → length ts ≤ i → offset_of text (map (located text) ts) left ≡ length text
unfolding offset_of
offset_end text ts left i e le =
    let same : length (map (located text) ts) - left ≡ i = omega (arith, length-map ts (located text)) in
    ap (λ (n : ℕ). start_or (length text) (drop n (map (located text) ts))) same ∙ start_end text ts i (length text) le

pub words_are : (text : List ℕ) (ts : List Token) → map word_of (map (located text) ts) ≡ words text ts
words_are text [] = refl
words_are text (t ∷ ts) = ap (λ (ws : List Word). word text t ∷ ws) (words_are text ts)

pub words_fit : (text : List ℕ) (ts : List Token) → tokens text ≡ Ok (map (located text) ts) → AreWords (words text ts)
unfolding tokens
words_fit text ts e = subst AreWords (words_are text ts) (lex_words 0 0 text (map (located text) ts) e)

-- ---- one token more

abbrev shown : List ℕ → Before → Token → List Token → List ℕ
shown text b t ts = cond (is_counted b (word text t)) (t.start ∷ spots_after (after_word b (word text t)) (map (located text) ts)) (spots_after (after_word b (word text t)) (map (located text) ts))

spot_step : (text : List ℕ) (ts : List Token) (i : ℕ) (d : Token) (b : Before) → i < length ts → spots_after b (map (located text) (drop i ts)) ≡ shown text b (get_or ts i d) (drop (suc i) ts)
spot_step text [] i d b lt = absurd (omega arith)
spot_step text (t ∷ ts) zero d b lt = refl
spot_step text (t ∷ ts) (suc i) d b lt = spot_step text ts i d b (omega arith)

pub spot_counted : (text : List ℕ) (ts : List Token) (i : ℕ) (d : Token) (b then : Before) (found more : List ℕ) (counted : Bool) (total : List ℕ) → i < length ts
    → ((from to : ℕ) → counted ≡ is_counted b (kind_word text (get_or ts i d).kind from to)) → counted ≡ true
    → ((from to : ℕ) → then ≡ after_word b (kind_word text (get_or ts i d).kind from to)) → more ≡ found ++ (get_or ts i d).start ∷ []
    → found ++ spots_after b (map (located text) (drop i ts)) ≡ total → more ++ spots_after then (map (located text) (drop (i + 1) ts)) ≡ total
spot_counted text ts i d b then found more counted total lt counts is goes e so_far =
    let t : Token = get_or ts i d in
    let one : i + 1 ≡ suc i = omega arith in
    let rest : List ℕ = spots_after (after_word b (word text t)) (map (located text) (drop (suc i) ts)) in
    let step : spots_after b (map (located text) (drop i ts)) ≡ t.start ∷ rest = spot_step text ts i d b lt ∙ ap (λ (c : Bool). cond c (t.start ∷ rest) rest) (sym (counts t.start t.end) ∙ is) in
    ap (λ (n : ℕ). more ++ spots_after then (map (located text) (drop n ts))) one
    ∙ ap (λ (c : Before). more ++ spots_after c (map (located text) (drop (suc i) ts))) (goes t.start t.end)
    ∙ ap (λ (xs : List ℕ). xs ++ rest) e ∙ append_assoc found (t.start ∷ []) rest ∙ ap (λ (xs : List ℕ). found ++ xs) (sym step) ∙ so_far

pub spot_skipped : (text : List ℕ) (ts : List Token) (i : ℕ) (d : Token) (b then : Before) (found more : List ℕ) (counted : Bool) (total : List ℕ) → i < length ts
    → ((from to : ℕ) → counted ≡ is_counted b (kind_word text (get_or ts i d).kind from to)) → counted ≡ false
    → ((from to : ℕ) → then ≡ after_word b (kind_word text (get_or ts i d).kind from to)) → more ≡ found
    → found ++ spots_after b (map (located text) (drop i ts)) ≡ total → more ++ spots_after then (map (located text) (drop (i + 1) ts)) ≡ total
spot_skipped text ts i d b then found more counted total lt counts is goes e so_far =
    let t : Token = get_or ts i d in
    let one : i + 1 ≡ suc i = omega arith in
    let rest : List ℕ = spots_after (after_word b (word text t)) (map (located text) (drop (suc i) ts)) in
    let step : spots_after b (map (located text) (drop i ts)) ≡ rest = spot_step text ts i d b lt ∙ ap (λ (c : Bool). cond c (t.start ∷ rest) rest) (sym (counts t.start t.end) ∙ is) in
    ap (λ (n : ℕ). more ++ spots_after then (map (located text) (drop n ts))) one
    ∙ ap (λ (c : Before). more ++ spots_after c (map (located text) (drop (suc i) ts))) (goes t.start t.end)
    ∙ ap (λ (xs : List ℕ). xs ++ rest) e ∙ ap (λ (xs : List ℕ). found ++ xs) (sym step) ∙ so_far
