-- Inputs, outputs and cases.
use Rattle.std.proofs.Common.{◌≡◌, ℕ, Bool, true, false, cond, List, [], ◌∷◌, ◌++◌, length, Result, Ok, refl, sym, ap, subst, ◌∙◌}
use Rattle.std.proofs.lemmas.List.{append-nil}
use Rattle.san_lex.specs.declared.keyword.Keyword.TheVariants as keyword
use Rattle.san_lex.specs.declared.sign.Mark.TheVariants as mark
use Rattle.san_lex.specs.declared.sign.Sign.TheVariants as sign
use Rattle.san_lex.specs.Lexer.{Word, Fixed}
use Rattle.san_text.specs.declared.syntax.Ast.{Ast}
use Rattle.san_text.specs.declared.syntax.StmtDecl.{StmtDecl}
use Rattle.san_text.specs.declared.syntax.InputDecl.{InputDecl}
use Rattle.san_text.specs.declared.syntax.InputDecl.TheVariants as input
use Rattle.san_text.specs.declared.syntax.OutputDecl.{OutputDecl}
use Rattle.san_text.specs.declared.syntax.OutputDecl.TheVariants as output
use Rattle.san_text.specs.declared.syntax.Cases.{Cases}
use Rattle.san_text.specs.declared.syntax.Cases.TheVariants as cases
use Rattle.san_text.specs.declared.syntax.CaseDecl.{CaseDecl}
use Rattle.san_text.specs.Words.{look, is_next, tail, number_of}
use Rattle.san_text.specs.Steps.{GrammarFault, ◌>>=◌, sign_at, many, next_mark, next_keyword}
use Rattle.san_text.specs.Statements.{block}
use Rattle.san_text.specs.Activities.{arc_at, function_at, input_arc, gate_at, input_at, starts_input, output_arc, body_at, output_at, starts_output, case_at, weighted_at, plain_at, cases_at}
use Rattle.san_text.specs.Spelling.{spelling, body_words}
use Rattle.san_text.specs.ActivityWords.{arc_words, function_words, input_words, output_words, outputs_words, case_words, cases_words}
use Rattle.san_text.proofs.FrontLemmas.{bind_ok, ok_is, then_ok, next_is}
use Rattle.san_text.proofs.AlikeLemmas.{alike_is, alike_then, alike_front, alike_plain}
use Rattle.san_text.proofs.StepLemmas.{seq, sign_then, done, choice, Any, Kept, Law, law_of, signed, sign_again, sign_step, seq_step, seq_through, done_step, choice_step}
use Rattle.san_text.proofs.BasicLemmas.{name_law, weight_law, expr_keeps, Items, Nothing, items_of, list_law, list_words, list_before}
use Rattle.san_text.proofs.StmtLemmas.{block_law, body_law}

-- ---- arcs

arc_law : Law arc_words arc_at Any
unfolding arc_at seq sign_then done number_of
arc_law = law_of (seq_step name_law (λ n. seq_step weight_law (λ w. sign_step (sign.Mark mark.Semicolon) (λ a b. refl) (done_step (n, w) (λ a b h. h) refl))))

-- ---- gates

function_none : (version : ℕ) (after : List Word) → function_at version (Fixed (sign.Mark mark.Semicolon) ∷ after) ≡ Ok ([], after)
unfolding function_at is_next
function_none version after = refl

function_body : (version : ℕ) (us : List Word) → function_at version (Fixed (sign.Keyword keyword.Do) ∷ us) ≡ block version 14 us
unfolding function_at is_next
function_body version us = ap (λ (r : Result (List Word) GrammarFault). r >>= λ d. block version 14 d) (sign_again (sign.Keyword keyword.Do) us)

-- where a function is read, an expression before it ended, and does so before its spelling
record Gated (version : ℕ) (ws : List Word) (p : List StmtDecl × List Word) : Type 0 where
  keeps : Kept function_words (function_at version) Any ws p
  was : look ws ≡ look (Fixed (sign.Mark mark.Semicolon) ∷ [])

none_gated : (version : ℕ) (ws : List Word) (p : List StmtDecl × List Word) → ws ≡ Fixed (sign.Mark mark.Semicolon) ∷ tail ws → ([], tail ws) ≡ p → Gated version ws p
unfolding function_at look
none_gated version ws p is e = subst (λ (z : List StmtDecl × List Word). Gated version ws z) e (record {
  keeps = record { words = alike_is ws (Fixed (sign.Mark mark.Semicolon) ∷ tail ws) is; again = λ after h. function_none version after };
  was = ap look is;
})

body_gated : (version : ℕ) (ws vs : List Word) (xs : List StmtDecl) (r : List Word) → ws ≡ Fixed (sign.Keyword keyword.Do) ∷ vs → Kept body_words (block version 14) Any vs (xs, r) → Gated version ws (xs, r)
unfolding function_at look
body_gated version ws vs [] r is t = record {
  keeps = record {
    words = alike_then ws (Fixed (sign.Keyword keyword.Do) ∷ vs) (Fixed (sign.Mark mark.Semicolon) ∷ r) (alike_is ws (Fixed (sign.Keyword keyword.Do) ∷ vs) is)
        (alike_then (Fixed (sign.Keyword keyword.Do) ∷ vs) (Fixed (sign.Keyword keyword.Do) ∷ (body_words [] ++ r)) (Fixed (sign.Mark mark.Semicolon) ∷ r) (alike_front (Fixed (sign.Keyword keyword.Do) ∷ []) vs (body_words [] ++ r) t.words) (alike_plain r));
    again = λ after h. function_none version after;
  };
  was = ap look is;
}
body_gated version ws vs (x ∷ xs) r is t = record {
  keeps = record {
    words = alike_then ws (Fixed (sign.Keyword keyword.Do) ∷ vs) (Fixed (sign.Keyword keyword.Do) ∷ (body_words (x ∷ xs) ++ r)) (alike_is ws (Fixed (sign.Keyword keyword.Do) ∷ vs) is) (alike_front (Fixed (sign.Keyword keyword.Do) ∷ []) vs (body_words (x ∷ xs) ++ r) t.words);
    again = λ after h. function_body version (body_words (x ∷ xs) ++ after) ∙ t.again after tt;
  };
  was = ap look is;
}

gated_by : (version : ℕ) (b : Bool) (ws : List Word) (p : List StmtDecl × List Word) → next_mark mark.Semicolon ws ≡ b → cond b (Ok ([], tail ws)) (sign_at (sign.Keyword keyword.Do) ws >>= λ d. block version 14 d) ≡ Ok p → Gated version ws p
gated_by version true ws p h e = none_gated version ws p (next_is (sign.Mark mark.Semicolon) ws h) (ok_is ([], tail ws) p e)
gated_by version false ws p h e =
    let a = bind_ok (sign_at (sign.Keyword keyword.Do) ws) (λ d. block version 14 d) p e in
    body_gated version ws a.0 p.0 p.1 (signed (sign.Keyword keyword.Do) ws a.0 a.1) (block_law version 14 a.0 p a.2).keeps

gated : (version : ℕ) (ws : List Word) (p : List StmtDecl × List Word) → function_at version ws ≡ Ok p → Gated version ws p
unfolding function_at
gated version ws p e = gated_by version (next_mark mark.Semicolon ws) ws p refl e

function_law : (version : ℕ) → Law function_words (function_at version) Any
function_law version = record { kept = λ ws p e. (gated version ws p e).keeps }

function_looks : (xs : List StmtDecl) (us : List Word) → look (function_words xs ++ us) ≡ look (Fixed (sign.Mark mark.Semicolon) ∷ [])
unfolding look
function_looks [] us = refl
function_looks (x ∷ xs) us = refl

-- ---- inputs

pub input_law : (version : ℕ) → Law input_words (input_at version) Any
unfolding input_at input_arc gate_at choice seq sign_then done is_next
input_law version = law_of (choice_step (sign.Keyword keyword.In) (λ a b. tt)
    (seq_step arc_law (λ a. done_step (input.Arc a.0 a.1) (λ a b h. h) (ap (λ (u : List Word). Fixed (sign.Keyword keyword.In) ∷ u) (sym (append-nil (arc_words a))))))
    (sign_step (sign.Keyword keyword.Gate) (λ a b. (refl, tt)) (seq_step (expr_keeps version) (λ e.
    seq_through {more = Any} (function_law version) (λ ws b us vs m h. function_looks b vs ∙ sym (gated version ws (b, us) m).was)
    (λ b. done_step (input.Gate e b) (λ a b h. (tt, tt)) (ap (λ (u : List Word). Fixed (sign.Keyword keyword.Gate) ∷ (spelling e ++ u)) (sym (append-nil (function_words b)))))))))

input_begins : (d : InputDecl) (after : List Word) → starts_input (input_words d ++ after) ≡ true
unfolding starts_input is_next
input_begins (input.Arc s w) after = refl
input_begins (input.Gate e b) after = refl

no_input : starts_input [] ≡ false
unfolding starts_input is_next
no_input = refl

pub input_items : (version : ℕ) → Items input_words starts_input (input_at version) Nothing
input_items version = items_of no_input input_begins (input_law version)

-- ---- outputs

output_law : (version braces : ℕ) → Law output_words (output_at version braces) Any
unfolding output_at output_arc body_at choice seq sign_then done is_next
output_law version braces = law_of (choice_step (sign.Keyword keyword.Out) (λ a b. tt)
    (seq_step arc_law (λ a. done_step (output.Arc a.0 a.1) (λ a b h. h) (ap (λ (u : List Word). Fixed (sign.Keyword keyword.Out) ∷ u) (sym (append-nil (arc_words a))))))
    (sign_step (sign.Keyword keyword.Do) (λ a b. (refl, tt)) (seq_step (body_law version braces) (λ b. done_step (output.Body b) (λ a b h. h) (ap (λ (u : List Word). Fixed (sign.Keyword keyword.Do) ∷ u) (sym (append-nil (body_words b))))))))

output_begins : (d : OutputDecl) (after : List Word) → starts_output (output_words d ++ after) ≡ true
unfolding starts_output is_next
output_begins (output.Arc s w) after = refl
output_begins (output.Body b) after = refl

no_output : starts_output [] ≡ false
unfolding starts_output is_next
no_output = refl

output_items : (version braces : ℕ) → Items output_words starts_output (output_at version braces) Nothing
output_items version braces = items_of no_output output_begins (output_law version braces)

-- ---- cases

abbrev case_of : Ast → List OutputDecl → CaseDecl
case_of e ds = record { weight = e; outputs = ds }

case_law : (version : ℕ) → Law case_words (case_at version) Any
unfolding case_at seq sign_then done look starts_output is_next
case_law version = law_of (sign_step (sign.Keyword keyword.Case) (λ a b. tt) (seq_step (expr_keeps version) (λ e. sign_step (sign.Mark mark.OpenBrace) (λ a b. refl)
    (seq_step (list_law (output_items version 13)) (λ ds. sign_step (sign.Mark mark.CloseBrace) (λ a b. refl) (done_step (case_of e ds) (λ a b h. h) refl))))))

case_begins : (d : CaseDecl) (after : List Word) → next_keyword keyword.Case (case_words d ++ after) ≡ true
unfolding is_next
case_begins d after = refl

no_case : next_keyword keyword.Case [] ≡ false
unfolding is_next
no_case = refl

case_items : (version : ℕ) → Items case_words (next_keyword keyword.Case) (case_at version) Nothing
case_items version = items_of no_case case_begins (case_law version)

-- no further case or output comes next
abbrev pub NoCase : List Word → Type 0
NoCase ws = (starts_output ws ≡ false) × (next_keyword keyword.Case ws ≡ false)

empty_case : next_keyword keyword.Case [] ≡ true → ⊥
unfolding is_next
empty_case h = cc

case_first : (d : CaseDecl) (ds : List CaseDecl) (after : List Word) → next_keyword keyword.Case (list_words case_words (d ∷ ds) ++ after) ≡ true
unfolding is_next
case_first d ds after = refl

output_no_case : (d : OutputDecl) (after : List Word) → next_keyword keyword.Case (output_words d ++ after) ≡ false
unfolding is_next
output_no_case (output.Arc s w) after = refl
output_no_case (output.Body b) after = refl

-- a list whose first item was there has one
one_read : (version : ℕ) (ws : List Word) (p : List CaseDecl × List Word) → next_keyword keyword.Case ws ≡ true → many (next_keyword keyword.Case) (case_at version) (length ws) ws ≡ Ok p → (d : CaseDecl) × (ds : List CaseDecl) × (p.0 ≡ d ∷ ds)
unfolding many
one_read version [] p h e = absurd (empty_case h)
one_read version (w ∷ ws) p h e =
    let a = bind_ok (case_at version (w ∷ ws)) (λ x. many (next_keyword keyword.Case) (case_at version) (length ws) x.1 >>= λ y. Ok (x.0 ∷ y.0, y.1)) p
    (ap (λ (b : Bool). cond b (case_at version (w ∷ ws) >>= λ x. many (next_keyword keyword.Case) (case_at version) (length ws) x.1 >>= λ y. Ok (x.0 ∷ y.0, y.1)) (Ok ([], w ∷ ws))) (sym h) ∙ e) in
    let b = bind_ok (many (next_keyword keyword.Case) (case_at version) (length ws) a.0.1) (λ y. Ok (a.0.0 ∷ y.0, y.1)) p a.2 in
    (a.0.0, b.0.0, sym (ap (λ (z : List CaseDecl × List Word). z.0) (ok_is (a.0.0 ∷ b.0.0, b.0.1) p b.2)))

weighted_read : (version : ℕ) (us : List Word) → next_keyword keyword.Case us ≡ true → cases_at version us ≡ weighted_at version us
unfolding cases_at
weighted_read version us h = ap (λ (b : Bool). cond b (weighted_at version us) (plain_at version us)) h

plain_read : (version : ℕ) (us : List Word) → next_keyword keyword.Case us ≡ false → cases_at version us ≡ plain_at version us
unfolding cases_at
plain_read version us h = ap (λ (b : Bool). cond b (weighted_at version us) (plain_at version us)) h

weighted_law : (version : ℕ) (ws : List Word) (p : Cases × List Word) → next_keyword keyword.Case ws ≡ true → weighted_at version ws ≡ Ok p → Kept cases_words (cases_at version) (λ was now. NoCase now) ws p
unfolding weighted_at
weighted_law version ws p h e =
    let a = bind_ok (many (next_keyword keyword.Case) (case_at version) (length ws) ws) (λ c. Ok (cases.Weighted c.0, c.1)) p e in
    let t = (list_law (case_items version)).kept ws a.0 a.1 in
    let one = one_read version ws a.0 h a.1 in
    let J : List Word = list_words case_words a.0.0 in
    subst (λ (z : Cases × List Word). Kept cases_words (cases_at version) (λ was now. NoCase now) ws z) (ok_is (cases.Weighted a.0.0, a.0.1) p a.2) (record {
      words = t.words;
      again = λ after k.
          weighted_read version (J ++ after) (ap (λ (ds : List CaseDecl). next_keyword keyword.Case (list_words case_words ds ++ after)) one.2 ∙ case_first one.0 one.1 after)
          ∙ then_ok (many (next_keyword keyword.Case) (case_at version) (length (J ++ after)) (J ++ after)) (λ c. Ok (cases.Weighted c.0, c.1)) (a.0.0, after) (cases.Weighted a.0.0, after) (t.again after k.1) refl;
    })

plain_law : (version : ℕ) (ws : List Word) (p : Cases × List Word) → plain_at version ws ≡ Ok p → Kept cases_words (cases_at version) (λ was now. NoCase now) ws p
unfolding plain_at
plain_law version ws p e =
    let a = bind_ok (many starts_output (output_at version 14) (length ws) ws) (λ o. Ok (cases.Plain o.0, o.1)) p e in
    let t = (list_law (output_items version 14)).kept ws a.0 a.1 in
    let J : List Word = outputs_words a.0.0 in
    subst (λ (z : Cases × List Word). Kept cases_words (cases_at version) (λ was now. NoCase now) ws z) (ok_is (cases.Plain a.0.0, a.0.1) p a.2) (record {
      words = t.words;
      again = λ after k.
          plain_read version (J ++ after) (list_before output_words (λ us. next_keyword keyword.Case us ≡ false) output_no_case a.0.0 after k.1)
          ∙ then_ok (many starts_output (output_at version 14) (length (J ++ after)) (J ++ after)) (λ o. Ok (cases.Plain o.0, o.1)) (a.0.0, after) (cases.Plain a.0.0, after) (t.again after k.0) refl;
    })

cases_by : (version : ℕ) (b : Bool) (ws : List Word) (p : Cases × List Word) → next_keyword keyword.Case ws ≡ b → cond b (weighted_at version ws) (plain_at version ws) ≡ Ok p → Kept cases_words (cases_at version) (λ was now. NoCase now) ws p
cases_by version true ws p h e = weighted_law version ws p h e
cases_by version false ws p h e = plain_law version ws p e

pub cases_law : (version : ℕ) → Law cases_words (cases_at version) (λ was now. NoCase now)
unfolding cases_at
cases_law version = record { kept = λ ws p e. cases_by version (next_keyword keyword.Case ws) ws p refl e }

-- cases stand before words that outputs and cases may stand before
pub cases_before : (Q : List Word → Type 0) → ((d : OutputDecl) (us : List Word) → Q (output_words d ++ us)) → ((d : CaseDecl) (us : List Word) → Q (case_words d ++ us)) → (c : Cases) (us : List Word) → Q us → Q (cases_words c ++ us)
cases_before Q each more (cases.Plain ds) us h = list_before output_words Q each ds us h
cases_before Q each more (cases.Weighted ds) us h = list_before case_words Q more ds us h
