-- Delays and activities.
use Rattle.san_base.proofs.Bools.{both_true, and_false}
use Rattle.std.proofs.Common.{◌≡◌, ℕ, Bool, true, false, ◌&&◌, List, [], ◌∷◌, ◌++◌, Option, Some, None, refl, sym, ap}
use Rattle.std.proofs.lemmas.List.{append-nil}
use Rattle.std.specs.Prelude.{codes}
use Rattle.std.proofs.lemmas.Slice.Eq.{bytes_eq-Decides}
use Rattle.san_lex.specs.declared.keyword.Keyword.TheVariants as keyword
use Rattle.san_lex.specs.declared.sign.Mark.TheVariants as mark
use Rattle.san_lex.specs.declared.sign.Sign.TheVariants as sign
use Rattle.san_lex.specs.Lexer.{Word, Number, Name, Fixed}
use Rattle.san_text.specs.declared.syntax.Ast.{Ast}
use Rattle.san_text.specs.declared.syntax.Cases.{Cases}
use Rattle.san_text.specs.declared.syntax.CaseDecl.{CaseDecl}
use Rattle.san_text.specs.declared.syntax.InputDecl.{InputDecl}
use Rattle.san_text.specs.declared.syntax.OutputDecl.{OutputDecl}
use Rattle.san_text.specs.declared.syntax.OutputDecl.TheVariants as output
use Rattle.san_text.specs.declared.syntax.DistDecl.{DistDecl}
use Rattle.san_text.specs.declared.syntax.DistDecl.TheVariants as dist
use Rattle.san_text.specs.declared.syntax.Timing.{Timing}
use Rattle.san_text.specs.declared.syntax.ActDecl.{ActDecl}
use Rattle.san_text.specs.Words.{look, is_next, tail, name_of, has_priorities}
use Rattle.san_text.specs.Steps.{next_keyword}
use Rattle.san_text.specs.Activities.{starts_input, entry_at, more_entry, entries_at, det_at, uniform_at, geom_at, table_at, dist_at, react_at, pair_at, timing_at, timed_at, is_called, priority_at, instant_at, act_at, starts_act, starts_output}
use Rattle.san_text.specs.Spelling.{spelling}
use Rattle.san_text.specs.ActivityWords.{output_words, case_words, entry_words, with_commas, dist_words, react_words, pair_words, timing_words, priority_words, act_by, act_words}
use Rattle.san_text.proofs.FrontLemmas.{next_is, next_self}
use Rattle.san_text.proofs.StepLemmas.{seq, sign_then, done, choice, maybe, Follow, Any, Law, Steps, law_of, sign_step, seq_step, seq_through, done_step, choice_step, maybe_law}
use Rattle.san_text.proofs.BasicLemmas.{name_law, number_law, Looks, expr_keeps, Items, Nothing, items_of, list_law}
use Rattle.san_text.proofs.CommaLemmas.{NoComma, commas_law}
use Rattle.san_text.proofs.ArcLemmas.{input_items, cases_law, cases_before}

-- ---- delays

pub entry_law : Law entry_words entry_at Any
unfolding entry_at seq sign_then done
entry_law = law_of (seq_step number_law (λ d. sign_step (sign.Mark mark.Colon) (λ a b. tt) (seq_step number_law (λ w. done_step (d, w) (λ a b h. h) refl))))

entries_law : Law (with_commas entry_words) entries_at NoComma
unfolding entries_at more_entry
entries_law = commas_law entry_law

-- what follows a delay ends it
abbrev Ended : Follow
Ended was now = Looks was now × NoComma was now

dist_law : (version : ℕ) → Law dist_words (dist_at version) Ended
unfolding dist_at det_at uniform_at geom_at table_at choice seq sign_then done look is_next
dist_law version = law_of (choice_step (sign.Keyword keyword.Det) (λ a b. tt)
    (seq_step (expr_keeps version) (λ e. done_step (dist.Det e) (λ a b h. h.0) (ap (λ (u : List Word). Fixed (sign.Keyword keyword.Det) ∷ u) (sym (append-nil (spelling e))))))
    (choice_step (sign.Keyword keyword.Uniform) (λ a b. (refl, tt))
    (seq_step (expr_keeps version) (λ x. sign_step (sign.Mark mark.Comma) (λ a b. refl) (seq_step (expr_keeps version) (λ y. done_step (dist.Uniform x y) (λ a b h. h.0)
    (ap (λ (u : List Word). Fixed (sign.Keyword keyword.Uniform) ∷ (spelling x ++ Fixed (sign.Mark mark.Comma) ∷ u)) (sym (append-nil (spelling y))))))))
    (choice_step (sign.Keyword keyword.Geom) (λ a b. (refl, (refl, tt)))
    (seq_step number_law (λ p. seq_step number_law (λ q. done_step (dist.Geom p q) (λ a b h. tt) refl)))
    (sign_step (sign.Keyword keyword.Table) (λ a b. (refl, (refl, (refl, tt)))) (seq_step entries_law (λ es. done_step (dist.Table es) (λ a b h. h.1)
    (ap (λ (u : List Word). Fixed (sign.Keyword keyword.Table) ∷ u) (sym (append-nil (with_commas entry_words es))))))))))

-- ---- timing

react_law : (version : ℕ) → Law react_words (react_at version) Any
unfolding react_at seq sign_then done look
react_law version = law_of (seq_step (expr_keeps version) (λ x. sign_step (sign.Mark mark.Comma) (λ a b. refl) (seq_step (expr_keeps version) (λ y. sign_step (sign.Mark mark.Semicolon) (λ a b. refl) (done_step (x, y) (λ a b h. h) refl)))))

abbrev NoReact : Follow
NoReact was now = next_keyword keyword.React now ≡ false

react_is : (ws : List Word) → next_keyword keyword.React ws ≡ true → (ws ≡ Fixed (sign.Keyword keyword.React) ∷ tail ws) × ((after : List Word) → next_keyword keyword.React (Fixed (sign.Keyword keyword.React) ∷ after) ≡ true)
react_is ws h = (next_is (sign.Keyword keyword.React) ws h, λ after. next_self (sign.Keyword keyword.React) after)

pair_law : (version : ℕ) → Law pair_words (pair_at version) NoReact
unfolding pair_at seq done maybe
pair_law version = maybe_law (next_keyword keyword.React) react_is refl (seq_step (react_law version) (λ p. done_step (Some p) (λ a b h. h) (ap (λ (u : List Word). Fixed (sign.Keyword keyword.React) ∷ u) (sym (append-nil (react_words p))))))

abbrev timing_of : DistDecl → Option (Ast × Ast) → Timing
timing_of d p = record { delay = d; pair = p }

timing_law : (version : ℕ) → Law timing_words (timing_at version) NoReact
unfolding timing_at seq sign_then done look is_next
timing_law version = law_of (sign_step (sign.Keyword keyword.Delay) (λ a b. tt) (seq_step (dist_law version) (λ d. sign_step (sign.Mark mark.Semicolon) (λ a b. (refl, refl)) (seq_step (pair_law version) (λ p. done_step (timing_of d p) (λ a b h. h)
    (ap (λ (u : List Word). Fixed (sign.Keyword keyword.Delay) ∷ (dist_words d ++ Fixed (sign.Mark mark.Semicolon) ∷ u)) (sym (append-nil (pair_words p)))))))))

-- ---- activities

output_no_react : (d : OutputDecl) (us : List Word) → next_keyword keyword.React (output_words d ++ us) ≡ false
unfolding is_next
output_no_react (output.Arc s w) us = refl
output_no_react (output.Body b) us = refl

case_no_react : (d : CaseDecl) (us : List Word) → next_keyword keyword.React (case_words d ++ us) ≡ false
unfolding is_next
case_no_react d us = refl

output_no_input : (d : OutputDecl) (us : List Word) → starts_input (output_words d ++ us) ≡ false
unfolding starts_input is_next
output_no_input (output.Arc s w) us = refl
output_no_input (output.Body b) us = refl

case_no_input : (d : CaseDecl) (us : List Word) → starts_input (case_words d ++ us) ≡ false
unfolding starts_input is_next
case_no_input d us = refl

abbrev timed_of : List ℕ → List InputDecl → Timing → Cases → ActDecl
timed_of n i t c = record { name = n; priority = None; inputs = i; timing = Some t; cases = c }

-- behind the keyword
timed_steps : (version : ℕ) → Steps (λ us. Fixed (sign.Keyword keyword.Timed) ∷ us) act_words (timed_at version) Any Any
unfolding timed_at seq sign_then done starts_input starts_output is_next
timed_steps version = seq_step name_law (λ n. sign_step (sign.Mark mark.OpenBrace) (λ a b. tt) (seq_step (list_law (input_items version)) (λ i.
    seq_through {more = Any} (timing_law version) (λ ws t us vs m h. refl) (λ t.
    seq_through {more = NoReact} (cases_law version) (λ ws c us vs m h. (cases_before (λ us. next_keyword keyword.React us ≡ false) output_no_react case_no_react c vs h, tt)) (λ c.
    sign_step (sign.Mark mark.CloseBrace) (λ a b. ((refl, refl), refl)) (done_step (timed_of n i t c) (λ a b h. h) refl))))))

called_is : (ws : List Word) → is_called (codes "priority") (name_of ws) ≡ true → ws ≡ Name (codes "priority") ∷ tail ws
unfolding name_of
called_is [] h = absurd cc
called_is (Number n ∷ ws) h = absurd cc
called_is (Name s ∷ ws) h = ap (λ (u : List ℕ). Name u ∷ ws) ((bytes_eq-Decides s (codes "priority")).0 h)
called_is (Fixed s ∷ ws) h = absurd cc

priority_is : (version : ℕ) (ws : List Word) → (has_priorities version && is_called (codes "priority") (name_of ws)) ≡ true
    → (ws ≡ Name (codes "priority") ∷ tail ws) × ((after : List Word) → (has_priorities version && is_called (codes "priority") (name_of (Name (codes "priority") ∷ after))) ≡ true)
unfolding name_of
priority_is version ws h =
    let t = both_true (has_priorities version) (is_called (codes "priority") (name_of ws)) h in
    (called_is ws t.1, λ after. ap (λ (b : Bool). b && is_called (codes "priority") (Some (codes "priority"))) t.0)

abbrev NoPriority : ℕ → Follow
NoPriority version was now = (has_priorities version && is_called (codes "priority") (name_of now)) ≡ false

priority_law : (version : ℕ) → Law priority_words (priority_at version) (NoPriority version)
unfolding priority_at seq done maybe
priority_law version = maybe_law (λ ws. has_priorities version && is_called (codes "priority") (name_of ws)) (priority_is version) refl (seq_step number_law (λ n. done_step (Some n) (λ a b h. h) refl))

abbrev instant_of : List ℕ → Option ℕ → List InputDecl → Cases → ActDecl
instant_of n p i c = record { name = n; priority = p; inputs = i; timing = None; cases = c }

instant_steps : (version : ℕ) → Steps (λ us. us) act_words (instant_at version) Any (λ was now. (next_keyword keyword.Timed now ≡ false) × Any was now)
unfolding instant_at seq sign_then done starts_input starts_output is_next name_of
instant_steps version = sign_step (sign.Keyword keyword.Instant) (λ a b. (refl, tt)) (seq_step name_law (λ n. seq_step (priority_law version) (λ p.
    sign_step (sign.Mark mark.OpenBrace) (λ a b. and_false (has_priorities version)) (seq_step (list_law (input_items version)) (λ i.
    seq_through {more = λ was now. starts_input now ≡ false} (cases_law version) (λ ws c us vs m h. cases_before (λ us. starts_input us ≡ false) output_no_input case_no_input c vs h) (λ c.
    sign_step (sign.Mark mark.CloseBrace) (λ a b. ((refl, refl), refl)) (done_step (instant_of n p i c) (λ a b h. h) refl)))))))

pub act_law : (version : ℕ) → Law act_words (act_at version) Any
unfolding act_at choice
act_law version = law_of (choice_step (sign.Keyword keyword.Timed) (λ a b. tt) (timed_steps version) (instant_steps version))

starts_by : (d : ActDecl) (o : Option Timing) (after : List Word) → starts_act (act_by d o ++ after) ≡ true
unfolding starts_act is_next
starts_by d None after = refl
starts_by d (Some t) after = refl

act_begins : (d : ActDecl) (after : List Word) → starts_act (act_words d ++ after) ≡ true
act_begins d after = starts_by d d.timing after

no_act : starts_act [] ≡ false
unfolding starts_act is_next
no_act = refl

pub act_items : (version : ℕ) → Items act_words starts_act (act_at version) Nothing
act_items version = items_of no_act act_begins (act_law version)
