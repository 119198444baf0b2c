-- Rewards.
use Rattle.std.proofs.Common.{◌≡◌, ℕ, true, false, List, [], ◌∷◌, ◌++◌, refl}
use Rattle.san_lex.specs.declared.keyword.Keyword.TheVariants as keyword
use Rattle.san_lex.specs.declared.sign.Mark.TheVariants as mark
use Rattle.san_lex.specs.declared.sign.Sign.TheVariants as sign
use Rattle.san_lex.specs.Lexer.{Word, Number, Name, Fixed}
use Rattle.san_text.specs.declared.syntax.RewardDecl.{RewardDecl}
use Rattle.san_text.specs.declared.syntax.SpanDecl.{SpanDecl}
use Rattle.san_text.specs.declared.syntax.SpanDecl.TheVariants as span
use Rattle.san_text.specs.declared.syntax.TermDecl.{TermDecl}
use Rattle.san_text.specs.declared.syntax.TermDecl.TheVariants as term
use Rattle.san_text.specs.Words.{look, is_next}
use Rattle.san_text.specs.Steps.{next_keyword}
use Rattle.san_text.specs.Models.{bounds_at, over_at, mean_at, tick_at, span_at, rate_at, impulse_at, term_at, starts_term, measured_at, reward_at}
use Rattle.san_text.specs.ModelWords.{span_words, term_words, reward_words}
use Rattle.san_text.proofs.StepLemmas.{seq, sign_then, done, choice, Any, Law, law_of, sign_step, seq_step, seq_through, done_step, choice_step}
use Rattle.san_text.proofs.BasicLemmas.{name_law, number_law, expr_keeps, Items, Nothing, items_of, list_law}

abbrev bounds_words : ℕ × ℕ → List Word
bounds_words b = Number b.0 ∷ Number b.1 ∷ []

bounds_law : Law bounds_words bounds_at Any
unfolding bounds_at seq done
bounds_law = law_of (seq_step number_law (λ a. seq_step number_law (λ b. done_step (a, b) (λ a b h. h) refl)))

span_law : Law span_words span_at Any
unfolding span_at over_at mean_at tick_at choice seq sign_then done is_next
span_law = law_of (choice_step (sign.Keyword keyword.Over) (λ a b. tt) (seq_step bounds_law (λ n. done_step (span.Over n.0 n.1) (λ a b h. h) refl))
    (choice_step (sign.Keyword keyword.Mean) (λ a b. (refl, tt)) (seq_step bounds_law (λ n. done_step (span.Mean n.0 n.1) (λ a b h. h) refl))
    (sign_step (sign.Keyword keyword.At) (λ a b. (refl, (refl, tt))) (seq_step number_law (λ t. done_step (span.At t) (λ a b h. h) refl)))))

term_law : (version : ℕ) → Law term_words (term_at version) Any
unfolding term_at rate_at impulse_at choice seq sign_then done look is_next
term_law version = law_of (choice_step (sign.Keyword keyword.Rate) (λ a b. tt)
    (seq_step (expr_keeps version) (λ e. sign_step (sign.Mark mark.Semicolon) (λ a b. refl) (done_step (term.Rate e) (λ a b h. h) refl)))
    (sign_step (sign.Keyword keyword.Impulse) (λ a b. (refl, tt)) (seq_step name_law (λ n. seq_step (expr_keeps version) (λ e. sign_step (sign.Mark mark.Semicolon) (λ a b. refl) (done_step (term.Impulse n e) (λ a b h. h) refl))))))

term_begins : (d : TermDecl) (after : List Word) → starts_term (term_words d ++ after) ≡ true
unfolding starts_term is_next
term_begins (term.Rate e) after = refl
term_begins (term.Impulse s e) after = refl

no_term : starts_term [] ≡ false
unfolding starts_term is_next
no_term = refl

term_items : (version : ℕ) → Items term_words starts_term (term_at version) Nothing
term_items version = items_of no_term term_begins (term_law version)

abbrev measured_words : List ℕ × List ℕ → List Word
measured_words n = Fixed (sign.Keyword keyword.Reward) ∷ Name n.0 ∷ Fixed (sign.Keyword keyword.On) ∷ Name n.1 ∷ []

measured_law : Law measured_words measured_at Any
unfolding measured_at seq sign_then done
measured_law = law_of (sign_step (sign.Keyword keyword.Reward) (λ a b. tt) (seq_step name_law (λ n. sign_step (sign.Keyword keyword.On) (λ a b. tt) (seq_step name_law (λ o. done_step (n, o) (λ a b h. h) refl)))))

abbrev reward_of : List ℕ × List ℕ → SpanDecl → List TermDecl → RewardDecl
reward_of n s ts = record { name = n.0; atomic = n.1; span = s; terms = ts }

pub reward_law : (version : ℕ) → Law reward_words (reward_at version) Any
unfolding reward_at seq sign_then done starts_term is_next
reward_law version = law_of (seq_step measured_law (λ n. seq_through {more = Any} span_law (λ ws s us vs m h. tt) (λ s. sign_step (sign.Mark mark.OpenBrace) (λ a b. (tt, tt)) (seq_step (list_law (term_items version)) (λ ts.
    sign_step (sign.Mark mark.CloseBrace) (λ a b. refl) (done_step (reward_of n s ts) (λ a b h. h) refl))))))

reward_begins : (d : RewardDecl) (after : List Word) → next_keyword keyword.Reward (reward_words d ++ after) ≡ true
unfolding is_next
reward_begins d after = refl

pub no_reward : next_keyword keyword.Reward [] ≡ false
unfolding is_next
no_reward = refl

pub reward_items : (version : ℕ) → Items reward_words (next_keyword keyword.Reward) (reward_at version) Nothing
reward_items version = items_of no_reward reward_begins (reward_law version)
