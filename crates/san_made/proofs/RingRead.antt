-- A ring's words are read as its syntax.
use Rattle.std.proofs.Common.{◌≡◌, ℕ, zero, suc, ◌≤◌, Bool, true, false, List, [], ◌∷◌, ◌++◌, length, drop, Result, Ok, refl, ap, ◌∙◌, arith, codes}
use Rattle.san_lex.specs.declared.keyword.Keyword.TheVariants as keyword
use Rattle.san_lex.specs.declared.sign.Mark.TheVariants as mark
use Rattle.san_lex.specs.Lexer.{Name, Word}
use Rattle.san_text.proofs.ManyLemmas.{many_stops}
use Rattle.san_text.specs.Words.{at_level, is_next, look, name_of, number_of, turns_of}
use Rattle.san_text.specs.Steps.{GrammarFault, Reading, ◌>>=◌, all_of, many, mark_at, name_at, next_keyword, number_at, number_or_none, sign_at}
use Rattle.san_text.specs.Activities as activity
use Rattle.san_text.specs.Expressions as expression
use Rattle.san_text.specs.Models.{atomic_at, bounds_at, child_at, ended, head_at, impulse_at, join_at, measured_at, model_at, more_part, over_at, part_at, parts_at, reward_at, share_at, span_at, starts_model, starts_term, syntax_at, system_at, term_at, version_at}
use Rattle.san_text.specs.declared.syntax.ChildDecl.{ChildDecl}
use Rattle.san_text.specs.declared.syntax.ModelDecl.{ModelDecl}
use Rattle.san_text.specs.declared.syntax.ModelDecl.TheVariants as model
use Rattle.san_text.specs.declared.syntax.ShareDecl.{ShareDecl}
use Rattle.san_text.specs.declared.syntax.Syntax.{Syntax}
use Rattle.san_made.proofs.RingModel.{child, children, ring, ring_syntax, share, shares, station}
use Rattle.san_made.proofs.RingWords.{all_words, child_words, right_brace, left_brace, reward_words, ring_words, share_words, station_words, system_words, tail_words, words_from}

-- ---- the lines of children and shares

children_read : (left k fuel : ℕ) (after : List Word) → left ≤ fuel → next_keyword keyword.Child after ≡ false → many (next_keyword keyword.Child) child_at fuel (words_from child_words k left ++ after) ≡ Ok (children k left, after)
unfolding many child_at name_at sign_at is_next name_of
children_read zero k fuel after l e = many_stops (next_keyword keyword.Child) child_at fuel after e
children_read (suc left) k zero after l e = absurd (omega (arith, l))
children_read (suc left) k (suc fuel) after l e = ap (λ (r : Result (List ChildDecl × List Word) GrammarFault). r >>= λ y. Ok (child k ∷ y.0, y.1)) (children_read left (suc k) fuel after (omega (arith, l)) e)

shares_read : (left n k fuel : ℕ) (after : List Word) → left ≤ fuel → next_keyword keyword.Share after ≡ false → many (next_keyword keyword.Share) share_at fuel (words_from (share_words n) k left ++ after) ≡ Ok (shares n k left, after)
unfolding many share_at parts_at part_at more_part name_at sign_at is_next name_of
shares_read zero n k fuel after l e = many_stops (next_keyword keyword.Share) share_at fuel after e
shares_read (suc left) n k zero after l e = absurd (omega (arith, l))
shares_read (suc left) n k (suc fuel) after l e = ap (λ (r : Result (List ShareDecl × List Word) GrammarFault). r >>= λ y. Ok (share n k ∷ y.0, y.1)) (shares_read left n (suc k) fuel after (omega (arith, l)) e)

children_long : (left k : ℕ) (after : List Word) → left ≤ length (words_from child_words k left ++ after)
children_long zero k after = omega arith
children_long (suc left) k after = let more = children_long left (suc k) after in omega (arith, more)

shares_long : (left n k : ℕ) (after : List Word) → left ≤ length (words_from (share_words n) k left ++ after)
shares_long zero n k after = omega arith
shares_long (suc left) n k after = let more = shares_long left n (suc k) after in omega (arith, more)

no_child : (left n k : ℕ) (rest : List Word) → next_keyword keyword.Child (words_from (share_words n) k left ++ right_brace ∷ rest) ≡ false
unfolding is_next
no_child zero n k rest = refl
no_child (suc left) n k rest = refl

-- ---- the join

join_read : (n : ℕ) (rest : List Word) → join_at (Name (codes "ring") ∷ left_brace ∷ (words_from child_words 0 n ++ (words_from (share_words n) 0 n ++ right_brace ∷ rest))) ≡ Ok (ring n, rest)
unfolding join_at name_at sign_at is_next name_of
join_read n rest =
    let lines = words_from (share_words n) 0 n ++ right_brace ∷ rest in
    ap (λ (r : Result (List ChildDecl × List Word) GrammarFault). r >>= λ c. all_of (next_keyword keyword.Share) share_at c.1 >>= λ s. mark_at mark.CloseBrace s.1 >>= λ r. Ok (model.Join (codes "ring") c.0 s.0, r))
    (children_read n 0 (length (words_from child_words 0 n ++ lines)) lines (children_long n 0 lines) (no_child n n 0 rest))
    ∙ ap (λ (r : Result (List ShareDecl × List Word) GrammarFault). r >>= λ s. mark_at mark.CloseBrace s.1 >>= λ r. Ok (model.Join (codes "ring") (children 0 n) s.0, r))
    (shares_read n n 0 (length lines) (right_brace ∷ rest) (shares_long n n 0 (right_brace ∷ rest)) refl)

-- ---- the models

-- one item, and those after it
many_one : {A : Type 0} (starts : List Word → Bool) (item : Reading A) (fuel : ℕ) (ws : List Word) (x : A) (after : List Word) (xs : List A) (end : List Word)
    → starts ws ≡ true → item ws ≡ Ok (x, after) → many starts item fuel after ≡ Ok (xs, end) → many starts item (suc fuel) ws ≡ Ok (x ∷ xs, end)
unfolding many
many_one starts item fuel ws x after xs end is e more = rw (is, e, more) refl

station_read : (rest : List Word) → model_at 1 (station_words ++ rest) ≡ Ok (station, rest)
unfolding model_at atomic_at many name_at number_at number_or_none sign_at is_next name_of number_of look at_level turns_of activity.place_at activity.length_at activity.initial_at activity.arc_at activity.starts_act activity.act_at activity.timed_at activity.starts_input activity.timing_at activity.dist_at activity.geom_at activity.pair_at activity.cases_at activity.plain_at activity.starts_output activity.output_at activity.output_arc activity.input_at activity.input_arc activity.uniform_at expression.expr expression.levels expression.chain expression.beginning expression.begun expression.closing expression.grouped expression.indexed expression.more expression.room expression.turned expression.unary
station_read rest = refl

ring_read : (n : ℕ) (rest : List Word) → model_at 1 (ring_words ++ (words_from child_words 0 n ++ (words_from (share_words n) 0 n ++ right_brace ∷ rest))) ≡ Ok (ring n, rest)
unfolding model_at is_next
ring_read n rest = join_read n rest

-- the words behind the join
abbrev last_words : List Word
last_words = system_words ++ reward_words

models_read : (n : ℕ) → all_of starts_model (model_at 1) (station_words ++ (ring_words ++ (words_from child_words 0 n ++ (words_from (share_words n) 0 n ++ tail_words)))) ≡ Ok (station ∷ ring n ∷ [], last_words)
unfolding starts_model is_next
models_read n =
    let lines = words_from child_words 0 n ++ (words_from (share_words n) 0 n ++ tail_words) in
    many_one starts_model (model_at 1) _ (station_words ++ (ring_words ++ lines)) station (ring_words ++ lines) (ring n ∷ []) last_words refl (station_read (ring_words ++ lines))
    (many_one starts_model (model_at 1) _ (ring_words ++ lines) (ring n) last_words [] last_words refl (ring_read n last_words) (many_stops starts_model (model_at 1) _ last_words refl))

-- how many words are left at the system's name
abbrev name_left : ℕ
name_left = length (Name (codes "ring") ∷ drop 2 last_words)

end_read : (n : ℕ) → (system_at last_words >>= λ s. all_of (next_keyword keyword.Reward) (reward_at 1) s.1 >>= λ r. ended r.1 >>= λ e. Ok (let x : Syntax × ℕ = (record { version = 1; models = station ∷ ring n ∷ []; system = s.0.0; rewards = r.0 }, s.0.1) in x)) ≡ Ok (ring_syntax n, name_left)
unfolding system_at reward_at ended many name_at number_at number_or_none sign_at is_next name_of number_of look at_level turns_of measured_at span_at over_at bounds_at starts_term term_at impulse_at expression.expr expression.levels expression.chain expression.unary expression.begun expression.beginning expression.room expression.more expression.turned
end_read n = refl

pub ring_is_read : (n : ℕ) → syntax_at (all_words n) ≡ Ok (ring_syntax n, name_left)
unfolding syntax_at head_at version_at name_at number_at sign_at is_next name_of number_of
ring_is_read n =
    ap (λ (r : Result (List ModelDecl × List Word) GrammarFault). r >>= λ m. system_at m.1 >>= λ s. all_of (next_keyword keyword.Reward) (reward_at 1) s.1 >>= λ r. ended r.1 >>= λ e. Ok (let x : Syntax × ℕ = (record { version = 1; models = m.0; system = s.0.0; rewards = r.0 }, s.0.1) in x))
    (models_read n)
    ∙ end_read n
