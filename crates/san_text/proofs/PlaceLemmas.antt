-- Declarations of places.
use Rattle.san_base.proofs.Bools.{both_true, and_false}
use Rattle.std.proofs.Common.{◌≡◌, ℕ, Bool, true, false, ◌&&◌, List, [], ◌∷◌, ◌++◌, Option, Some, None, refl, ap, ◌∙◌}
use Rattle.san_lex.specs.declared.keyword.Keyword.TheVariants as keyword
use Rattle.san_lex.specs.declared.sign.Mark.TheVariants as mark
use Rattle.san_lex.specs.declared.sign.Sign.TheVariants as sign
use Rattle.san_lex.specs.Lexer.{Word, Fixed}
use Rattle.san_text.specs.declared.syntax.PlaceDecl.{PlaceDecl}
use Rattle.san_text.specs.Words.{is_next, tail, has_arrays}
use Rattle.san_text.specs.Steps.{next_mark, next_keyword}
use Rattle.san_text.specs.Activities.{length_at, initial_at, place_at}
use Rattle.san_text.specs.ActivityWords.{length_words, initial_words, place_words}
use Rattle.san_text.proofs.FrontLemmas.{next_is, next_self}
use Rattle.san_text.proofs.StepLemmas.{seq, sign_then, done, maybe, Follow, Any, Law, law_of, sign_step, seq_step, seq_through, done_step, maybe_law}
use Rattle.san_text.proofs.BasicLemmas.{name_law, number_law, Items, Nothing, items_of}

abbrev has_length : ℕ → List Word → Bool
has_length version ws = has_arrays version && next_mark mark.OpenBracket ws

length_is : (version : ℕ) (ws : List Word) → has_length version ws ≡ true → (ws ≡ Fixed (sign.Mark mark.OpenBracket) ∷ tail ws) × ((after : List Word) → has_length version (Fixed (sign.Mark mark.OpenBracket) ∷ after) ≡ true)
length_is version ws h =
    let t = both_true (has_arrays version) (next_mark mark.OpenBracket ws) h in
    (next_is (sign.Mark mark.OpenBracket) ws t.1, λ after. ap (λ (b : Bool). b && next_mark mark.OpenBracket (Fixed (sign.Mark mark.OpenBracket) ∷ after)) t.0 ∙ next_self (sign.Mark mark.OpenBracket) after)

abbrev NoLength : ℕ → Follow
NoLength version was now = has_length version now ≡ false

length_law : (version : ℕ) → Law length_words (length_at version) (NoLength version)
unfolding length_at seq sign_then done maybe
length_law version = maybe_law (has_length version) (length_is version) refl (seq_step number_law (λ n. sign_step (sign.Mark mark.CloseBracket) (λ a b. tt) (done_step (Some n) (λ a b h. h) refl)))

abbrev NoInitial : Follow
NoInitial was now = next_mark mark.Equals now ≡ false

initial_is : (ws : List Word) → next_mark mark.Equals ws ≡ true → (ws ≡ Fixed (sign.Mark mark.Equals) ∷ tail ws) × ((after : List Word) → next_mark mark.Equals (Fixed (sign.Mark mark.Equals) ∷ after) ≡ true)
initial_is ws h = (next_is (sign.Mark mark.Equals) ws h, λ after. next_self (sign.Mark mark.Equals) after)

initial_law : Law initial_words initial_at NoInitial
unfolding initial_at seq done maybe
initial_law = maybe_law (next_mark mark.Equals) initial_is refl (seq_step number_law (λ n. done_step (Some n) (λ a b h. h) refl))

initial_before : (version : ℕ) (i : Option ℕ) (us : List Word) → has_length version us ≡ false → has_length version (initial_words i ++ us) ≡ false
unfolding is_next
initial_before version None us h = h
initial_before version (Some n) us h = and_false (has_arrays version)

abbrev place_of : List ℕ → Option ℕ → Option ℕ → PlaceDecl
place_of s l i = record { name = s; length = l; initial = i }

pub place_law : (version : ℕ) → Law place_words (place_at version) Any
unfolding place_at seq sign_then done is_next
place_law version = law_of (sign_step (sign.Keyword keyword.Place) (λ a b. tt) (seq_step name_law (λ n. seq_step (length_law version) (λ l.
    seq_through {more = NoLength version} initial_law (λ ws i us vs e h. initial_before version i vs h)
    (λ i. sign_step (sign.Mark mark.Semicolon) (λ a b. (refl, and_false (has_arrays version))) (done_step (place_of n l i) (λ a b h. h) refl))))))

starts_place : (d : PlaceDecl) (after : List Word) → next_keyword keyword.Place (place_words d ++ after) ≡ true
unfolding is_next
starts_place d after = refl

no_place : next_keyword keyword.Place [] ≡ false
unfolding is_next
no_place = refl

pub place_items : (version : ℕ) → Items place_words (next_keyword keyword.Place) (place_at version) Nothing
place_items version = items_of no_place starts_place (place_law version)
