-- A text has no more words than bytes, so each word's number is shown as it is.
use Rattle.std.proofs.Common.{◌≡◌, ℕ, suc, ◌≤◌, Bool, true, false, cond, List, [], ◌∷◌, length, Ok, ap, arith}
use Rattle.san_lex.specs.Lexer.{Located}
use Rattle.san_check.proofs.FormedLemmas.{tokens_within}
use Rattle.san_text.specs.declared.text.Before.{Before}
use Rattle.san_text.specs.declared.text.Before.TheVariants as before
use Rattle.san_text.specs.declared.text.Parsed.{Parsed}
use Rattle.san_text.specs.Texts.{parsed, is_counted, after_word, spots_after, spots_of}
use Rattle.san_text.proofs.CountLemmas.{reading_of}

one_more : (c : Bool) (offset n : ℕ) (offsets : List ℕ) → length offsets ≤ n → length (cond c (offset ∷ offsets) offsets) ≤ suc n
one_more true offset n offsets h = omega (arith, h)
one_more false offset n offsets h = omega (arith, h)

spots_within : (b : Before) (ps : List Located) → length (spots_after b ps) ≤ length ps
spots_within b [] = omega arith
spots_within b (p ∷ ps) = one_more (is_counted b p.word) p.start (length ps) (spots_after (after_word b p.word) ps) (spots_within (after_word b p.word) ps)

-- a text's words are no more than its bytes
pub few_spots : (text : List ℕ) (x : Parsed) → parsed text ≡ Ok x → length x.spots ≤ length text
unfolding spots_of
few_spots text x e =
    let t = reading_of text x e in
    let spots = ap length t.spotted in
    let within = spots_within before.Other t.found in
    let tokens = tokens_within text t.found t.lexed in
    omega (arith, spots, within, tokens)
