-- The spots of a text are those of the words of its syntax.
use Rattle.std.proofs.Common.{◌≡◌, ℕ, Bool, true, false, cond, List, [], ◌∷◌, length, map, Result, Ok, Err, refl, sym, ap, ◌∙◌}
use Rattle.std.proofs.lemmas.List.{length-map}
use Rattle.std.specs.Prelude.{IfOk}
use Rattle.san_lex.specs.Lexer.{Word, Located, tokens, word_of}
use Rattle.san_lex.specs.Lexer as lexer
use Rattle.san_text.specs.declared.syntax.Syntax.{Syntax}
use Rattle.san_text.specs.declared.text.Before.{Before}
use Rattle.san_text.specs.declared.text.Before.TheVariants as before
use Rattle.san_text.specs.declared.text.Parsed.{Parsed}
use Rattle.san_text.specs.declared.text.ParseFault.{ParseFault}
use Rattle.san_text.specs.Steps.{GrammarFault}
use Rattle.san_text.specs.Models.{syntax_at}
use Rattle.san_text.specs.Texts.{is_counted, after_word, spots_after, spots_of, counted_after, words_that_count, words_of, counting_after, counting, start_of, offset_of, parsed_words, parsed_tokens, parsed, Parses}
use Rattle.san_text.proofs.SyntaxLemmas.{syntax_law}

spot_starts : (c : Bool) (p : Located) (ns : List ℕ) (ps : List Located) → ns ≡ map start_of ps → cond c (p.start ∷ ns) ns ≡ map start_of (cond c (p ∷ ps) ps)
spot_starts true p ns ps e = ap (λ (u : List ℕ). p.start ∷ u) e
spot_starts false p ns ps e = e

starts_counting : (b : Before) (ps : List Located) → spots_after b ps ≡ map start_of (counting_after b ps)
starts_counting b [] = refl
starts_counting b (p ∷ ps) = spot_starts (is_counted b p.word) p (spots_after (after_word b p.word) ps) (counting_after (after_word b p.word) ps) (starts_counting (after_word b p.word) ps)

word_counts : (c : Bool) (p : Located) (ws : List Word) (ps : List Located) → ws ≡ map word_of ps → cond c (p.word ∷ ws) ws ≡ map word_of (cond c (p ∷ ps) ps)
word_counts true p ws ps e = ap (λ (u : List Word). p.word ∷ u) e
word_counts false p ws ps e = e

words_counting : (b : Before) (ps : List Located) → counted_after b (map word_of ps) ≡ map word_of (counting_after b ps)
words_counting b [] = refl
words_counting b (p ∷ ps) = word_counts (is_counted b p.word) p (counted_after (after_word b p.word) (map word_of ps)) (counting_after (after_word b p.word) ps) (words_counting (after_word b p.word) ps)

-- the tokens and the reading of a text that parses
pub record Read (text : List ℕ) (x : Parsed) : Type 0 where
  pub found : List Located
  pub lexed : tokens text ≡ Ok found
  pub left : ℕ
  pub read : syntax_at (map word_of found) ≡ Ok (x.syntax, left)
  pub spotted : x.spots ≡ spots_of found

words_read : (text : List ℕ) (found : List Located) (r : Result (Syntax × ℕ) GrammarFault) (x : Parsed) → tokens text ≡ Ok found → syntax_at (map word_of found) ≡ r → parsed_words text found r ≡ Ok x → Read text x
words_read text found (Ok y) x lexed is e =
    let made : Parsed = record { syntax = y.0; spots = spots_of found; system = offset_of text found y.1 } in
    let same : made ≡ x = cc in
    record { found = found; lexed = lexed; left = y.1; read = is ∙ ap (λ (z : Parsed). Ok (z.syntax, y.1)) same; spotted = sym (ap (λ (z : Parsed). z.spots) same) }
words_read text found (Err f) x lexed is e = absurd cc

tokens_read : (text : List ℕ) (r : Result (List Located) lexer.TokenFault) (x : Parsed) → tokens text ≡ r → parsed_tokens text r ≡ Ok x → Read text x
tokens_read text (Ok found) x is e = words_read text found (syntax_at (map word_of found)) x is refl e
tokens_read text (Err f) x is e = absurd cc

pub reading_of : (text : List ℕ) (x : Parsed) → parsed text ≡ Ok x → Read text x
unfolding parsed
reading_of text x e = tokens_read text (tokens text) x refl e

abbrev lexed_as : List Located → Result (List Located) lexer.TokenFault
lexed_as ps = Ok ps

same_tokens : (text : List ℕ) (found other : List Located) → tokens text ≡ Ok found → tokens text ≡ Ok other → other ≡ found
same_tokens text found other e h = let both : lexed_as other ≡ lexed_as found = sym h ∙ e in cc

pub spots_are : (text : List ℕ) (found : List Located) (x : Parsed) → tokens text ≡ Ok found → parsed text ≡ Ok x → x.spots ≡ map start_of (counting found)
unfolding spots_of counting
spots_are text found x h e =
    let t = reading_of text x e in
    t.spotted ∙ starts_counting before.Other t.found ∙ ap (λ (ps : List Located). map start_of (counting_after before.Other ps)) (same_tokens text found t.found h t.lexed)

pub words_count : (text : List ℕ) (found : List Located) (x : Parsed) → tokens text ≡ Ok found → parsed text ≡ Ok x → words_of x.syntax ≡ map word_of (counting found)
unfolding words_of words_that_count counting
words_count text found x h e =
    let t = reading_of text x e in
    sym ((syntax_law (map word_of t.found) (x.syntax, t.left) t.read).words.counted_as before.Other) ∙ words_counting before.Other t.found
    ∙ ap (λ (ps : List Located). map word_of (counting_after before.Other ps)) (same_tokens text found t.found h t.lexed)

pub spots_length : (text : List ℕ) (x : Parsed) → parsed text ≡ Ok x → length x.spots ≡ length (words_of x.syntax)
spots_length text x e =
    let t = reading_of text x e in
    ap length (spots_are text t.found x t.lexed e) ∙ length-map (counting t.found) start_of ∙ sym (length-map (counting t.found) word_of) ∙ sym (ap length (words_count text t.found x t.lexed e))

-- so what is answered of the tokens has as many spots as words
pub spots_hold : (text : List ℕ) (found : List Located) (r : Result Parsed ParseFault) → tokens text ≡ Ok found → Parses r (parsed_words text found (syntax_at (map word_of found))) → IfOk r (λ x. length x.spots ≡ length (words_of x.syntax))
unfolding parsed
spots_hold text found (Ok x) h e = spots_length text x (ap (parsed_tokens text) h ∙ e)
spots_hold text found (Err f) h e = tt
