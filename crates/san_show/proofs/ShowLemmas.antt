-- The canonical text is read again.
use Rattle.std.proofs.Common.{◌≡◌, ℕ, List, map, Result, Ok, Err, refl, ap, subst, ◌∙◌}
use Rattle.san_lex.specs.Lexer.{Word, Located, lex, tokens, heard, word_of}
use Rattle.san_lex.specs.Lexer as lexer
use Rattle.san_lex.specs.Words.{AreWords}
use Rattle.san_lex.specs.Layout.{Line, show_text}
use Rattle.san_lex.proofs.WordLemmas.{lex_words}
use Rattle.san_lex.proofs.SaidLemmas.{said_fits, fits_said}
use Rattle.san_lex.proofs.LayoutLemmas.{layout_law}
use Rattle.san_text.specs.declared.syntax.Syntax.{Syntax}
use Rattle.san_text.specs.declared.text.Parsed.{Parsed}
use Rattle.san_text.specs.Models.{syntax_at}
use Rattle.san_text.specs.ModelWords.{syntax_words}
use Rattle.san_text.specs.Texts.{spots_of, offset_of, parsed_words, parsed_tokens, parsed}
use Rattle.san_text.proofs.SyntaxLemmas.{syntax_law}
use Rattle.san_text.proofs.CountLemmas.{reading_of}
use Rattle.san_show.specs.Canonical.{canonical}

-- a text of these words
heard_as : (text : List ℕ) (ws : List Word) (s : Syntax) (left : ℕ) (r : Result (List Located) lexer.TokenFault) → heard r ≡ Ok ws → syntax_at ws ≡ Ok (s, left) → (y : Parsed) × (parsed_tokens text r ≡ Ok y) × (y.syntax ≡ s)
heard_as text ws s left (Ok ps) e read =
    let same : map word_of ps ≡ ws = cc in
    let y : Parsed = record { syntax = s; spots = spots_of ps; system = offset_of text ps left } in
    (y, ap (parsed_words text ps) (ap syntax_at same ∙ read), refl)
heard_as text ws s left (Err f) e read = absurd cc

words_fit : (text : List ℕ) (found : List Located) → tokens text ≡ Ok found → AreWords (map word_of found)
unfolding tokens
words_fit text found e = lex_words 0 0 text found e

shown_heard : (ws : List Word) → AreWords ws → heard (tokens (show_text ws)) ≡ Ok ws
unfolding tokens
shown_heard ws fit = layout_law Line 0 ws fit 0

pub parse_shown : (text : List ℕ) (x : Parsed) → parsed text ≡ Ok x → (y : Parsed) × (parsed (canonical x.syntax) ≡ Ok y) × (y.syntax ≡ x.syntax)
unfolding parsed canonical
parse_shown text x e =
    let t = reading_of text x e in
    let w = syntax_law (map word_of t.found) (x.syntax, t.left) t.read in
    let ws : List Word = syntax_words x.syntax in
    let fit : AreWords ws = fits_said ws (subst AreWords w.words.said_as (said_fits (map word_of t.found) (words_fit text t.found t.lexed))) in
    heard_as (show_text ws) ws x.syntax w.left (tokens (show_text ws)) (shown_heard ws fit) w.again
