-- The rules of statements, places and activities look no further than the first word that isn't legal.
use Rattle.std.proofs.Common.{◌≡◌, ℕ, zero, suc, ◌<◌, ◌≤◌, Bool, true, false, cond, ◌&&◌, List, [], ◌∷◌, length, Ok, Err, Option, Some, None, refl, ap, arith}
use Rattle.std.specs.Prelude.{codes}
use Rattle.san_lex.specs.declared.keyword.Keyword.{Keyword}
use Rattle.san_lex.specs.declared.keyword.Keyword.TheVariants as keyword
use Rattle.san_lex.specs.declared.sign.Mark.TheVariants as mark
use Rattle.san_lex.specs.declared.sign.Sign.{Sign}
use Rattle.san_lex.specs.declared.sign.Sign.TheVariants as sign
use Rattle.san_lex.specs.Lexer.{Word, Number, Name, Fixed}
use Rattle.san_text.specs.declared.syntax.Ast.{Ast}
use Rattle.san_text.specs.declared.syntax.StmtDecl.{StmtDecl}
use Rattle.san_text.specs.declared.syntax.StmtDecl.TheViews as stmt
use Rattle.san_text.specs.declared.syntax.StmtDecl.TheVariants as plain
use Rattle.san_text.specs.declared.syntax.PlaceDecl.{PlaceDecl}
use Rattle.san_text.specs.declared.syntax.ActDecl.{ActDecl}
use Rattle.san_text.specs.declared.syntax.Timing.{Timing}
use Rattle.san_text.specs.declared.syntax.InputDecl.{InputDecl}
use Rattle.san_text.specs.declared.syntax.InputDecl.TheVariants as input
use Rattle.san_text.specs.declared.syntax.OutputDecl.{OutputDecl}
use Rattle.san_text.specs.declared.syntax.OutputDecl.TheVariants as output
use Rattle.san_text.specs.declared.syntax.Cases.{Cases}
use Rattle.san_text.specs.declared.syntax.Cases.TheVariants as cases
use Rattle.san_text.specs.declared.syntax.CaseDecl.{CaseDecl}
use Rattle.san_text.specs.declared.syntax.DistDecl.{DistDecl}
use Rattle.san_text.specs.declared.syntax.DistDecl.TheVariants as dist
use Rattle.san_text.specs.Words.{is_next, tail, name_of, has_arrays, has_priorities}
use Rattle.san_text.specs.Steps.{Illegal, Deep, Reading, ◌>>=◌, all_of, gathered, next_mark, next_keyword}
use Rattle.san_text.specs.Statements.{Body, set_cell, set_plain, set_at, otherwise, if_at, stmt_by, stmt_at, starts_stmt, inner, block}
use Rattle.san_text.specs.Activities.{length_at, initial_at, place_at, arc_at, function_at, input_arc, gate_at, input_at, starts_input, output_arc, body_at, output_at, starts_output, case_at, weighted_at, plain_at, cases_at, entry_at, more_entry, entries_at, det_at, uniform_at, geom_at, table_at, dist_at, react_at, pair_at, timing_at, timed_at, is_called, priority_at, instant_at, act_at, starts_act}
use Rattle.san_text.proofs.FrontLemmas.{next_is}
use Rattle.san_text.proofs.StepLemmas.{seq, sign_then, done, choice, maybe, guarded}
use Rattle.san_text.proofs.LocalLemmas.{Local, bind_local, first_local, cond_local, skip_local, illegal_local, deep_local, done_local, seq_local, sign_local, choice_local, maybe_local, guarded_local, name_local, number_local, weight_local, Firsts, Listed, all_local, gathered_local, Takes, takes_sign, takes_choice, listed, next_first, name_first}
use Rattle.san_text.proofs.LocalExprLemmas.{expr_local}
use Rattle.san_text.proofs.StmtLemmas.{empty_starts, none_starts}

-- ---- statements

set_local : (version : ℕ) (s : List ℕ) → Local (set_at version s)
unfolding set_at set_plain set_cell guarded seq sign_then done
set_local version s = guarded_local (has_arrays version) (sign.Mark mark.OpenBracket)
    (sign_local (sign.Mark mark.OpenBracket) (seq_local (expr_local version) (λ i. sign_local (sign.Mark mark.CloseBracket) (sign_local (sign.Mark mark.Equals) (seq_local (expr_local version) (λ x. sign_local (sign.Mark mark.Semicolon) (done_local (plain.SetCell s i x))))))))
    (sign_local (sign.Mark mark.Equals) (seq_local (expr_local version) (λ x. sign_local (sign.Mark mark.Semicolon) (done_local (plain.Set s x)))))

otherwise_local : (body : Body) → Local body → Local (otherwise body)
unfolding otherwise done
otherwise_local body l = first_local (is_next (sign.Keyword keyword.Else)) (λ c ws. cond c (body (tail ws)) (Ok ([], ws))) (next_first (sign.Keyword keyword.Else)) (cond_local (λ ws. body (tail ws)) (λ ws. Ok ([], ws)) (skip_local body l) (done_local []))

if_local : (version : ℕ) (body : Body) → Local body → Local (if_at version body)
unfolding if_at seq done
if_local version body l = seq_local (expr_local version) (λ e. seq_local l (λ b. seq_local (otherwise_local body l) (λ c. done_local (stmt.If e b c))))

named_local : (version : ℕ) (body : Body) → Local body → (o : Option (List ℕ)) → Local (stmt_by version body o)
unfolding stmt_by
named_local version body l (Some s) = skip_local (set_at version s) (set_local version s)
named_local version body l None = first_local (is_next (sign.Keyword keyword.If)) (λ c ws. cond c (if_at version body (tail ws)) (Err (Illegal (length ws)))) (next_first (sign.Keyword keyword.If))
    (cond_local (λ ws. if_at version body (tail ws)) (λ ws. Err (Illegal (length ws))) (skip_local (if_at version body) (if_local version body l)) illegal_local)

stmt_local : (version : ℕ) (body : Body) → Local body → Local (stmt_at version body)
stmt_local version body l = first_local name_of (stmt_by version body) name_first (named_local version body l)

pub no_word : (s : Sign) → is_next s [] ≡ false
unfolding is_next
no_word s = refl

if_takes : (version : ℕ) (body : Body) → Local body → (b : Bool) (w : Word) (ws : List Word) (p : StmtDecl × List Word) → cond b (if_at version body ws) (Err (Illegal (length (w ∷ ws)))) ≡ Ok p → length p.1 < length (w ∷ ws)
if_takes version body l true w ws p e = let le : length p.1 ≤ length ws = (if_local version body l).within ws p e in omega (arith, le)
if_takes version body l false w ws p e = absurd cc

named_takes : (version : ℕ) (body : Body) → Local body → (o : Option (List ℕ)) (ws : List Word) (p : StmtDecl × List Word) → starts_stmt ws ≡ true → stmt_by version body o ws ≡ Ok p → length p.1 < length ws
unfolding stmt_by
named_takes version body l o [] p s e = absurd (empty_starts s)
named_takes version body l (Some n) (w ∷ ws) p s e = let le : length p.1 ≤ length ws = (set_local version n).within ws p e in omega (arith, le)
named_takes version body l None (w ∷ ws) p s e = if_takes version body l (is_next (sign.Keyword keyword.If) (w ∷ ws)) w ws p e

stmt_first : Firsts starts_stmt
unfolding starts_stmt name_of is_next
stmt_first (Number n) us vs = refl
stmt_first (Name s) us vs = refl
stmt_first (Fixed s) us vs = refl

stmts_listed : (version : ℕ) (body : Body) → Local body → Listed starts_stmt (stmt_at version body)
stmts_listed version body l = record { none = none_starts; first = stmt_first; eats = λ ws p s e. named_takes version body l (name_of ws) ws p s e; each = stmt_local version body l }

inner_local : (version : ℕ) (body : Body) → Local body → Local (inner version body)
unfolding inner seq sign_then done
inner_local version body l = seq_local (all_local (stmts_listed version body l)) (λ xs. sign_local (sign.Mark mark.CloseBrace) (done_local xs))

block_local : (version n : ℕ) → Local (block version n)
unfolding block sign_then
block_local version zero = first_local (is_next (sign.Mark mark.OpenBrace)) (λ c ws. cond c (Err (Deep (length ws))) (Err (Illegal (length ws)))) (next_first (sign.Mark mark.OpenBrace)) (cond_local (λ ws. Err (Deep (length ws))) (λ ws. Err (Illegal (length ws))) deep_local illegal_local)
block_local version (suc n) = sign_local (sign.Mark mark.OpenBrace) (inner_local version (block version n) (block_local version n))

-- ---- places

pub key_first : (k : Keyword) → Firsts (next_keyword k)
key_first k = next_first (sign.Keyword k)

length_local : (version : ℕ) → Local (length_at version)
unfolding length_at seq sign_then done maybe is_next
length_local version = maybe_local (λ ws. has_arrays version && next_mark mark.OpenBracket ws) (λ w us vs. refl) (seq_local number_local (λ n. sign_local (sign.Mark mark.CloseBracket) (done_local (Some n))))

initial_local : Local initial_at
unfolding initial_at seq done maybe
initial_local = maybe_local (next_mark mark.Equals) (next_first (sign.Mark mark.Equals)) (seq_local number_local (λ n. done_local (Some n)))

abbrev place_of : List ℕ → Option ℕ → Option ℕ → PlaceDecl
place_of s l i = record { name = s; length = l; initial = i }

place_local : (version : ℕ) → Local (place_at version)
unfolding place_at seq sign_then done
place_local version = sign_local (sign.Keyword keyword.Place) (seq_local name_local (λ n. seq_local (length_local version) (λ l. seq_local initial_local (λ i. sign_local (sign.Mark mark.Semicolon) (done_local (place_of n l i))))))

place_takes : (version : ℕ) → Takes (place_at version)
unfolding place_at seq sign_then done
place_takes version = takes_sign (sign.Keyword keyword.Place) (seq_local name_local (λ n. seq_local (length_local version) (λ l. seq_local initial_local (λ i. sign_local (sign.Mark mark.Semicolon) (done_local (place_of n l i))))))

pub places_listed : (version : ℕ) → Listed (next_keyword keyword.Place) (place_at version)
places_listed version = listed (no_word (sign.Keyword keyword.Place)) (key_first keyword.Place) (place_takes version) (place_local version)

-- ---- inputs, outputs and cases

arc_local : Local arc_at
unfolding arc_at seq sign_then done
arc_local = seq_local name_local (λ n. seq_local weight_local (λ w. sign_local (sign.Mark mark.Semicolon) (done_local (n, w))))

function_local : (version : ℕ) → Local (function_at version)
unfolding function_at sign_then done
function_local version = first_local (next_mark mark.Semicolon) (λ c ws. cond c (Ok ([], tail ws)) (sign_then (sign.Keyword keyword.Do) (block version 14) ws)) (next_first (sign.Mark mark.Semicolon))
    (cond_local (λ ws. Ok ([], tail ws)) (sign_then (sign.Keyword keyword.Do) (block version 14)) (skip_local (λ ws. Ok ([], ws)) (done_local [])) (sign_local (sign.Keyword keyword.Do) (block_local version 14)))

in_local : Local input_arc
unfolding input_arc seq done
in_local = seq_local arc_local (λ a. done_local (input.Arc a.0 a.1))

gate_local : (version : ℕ) → Local (gate_at version)
unfolding gate_at seq sign_then done
gate_local version = sign_local (sign.Keyword keyword.Gate) (seq_local (expr_local version) (λ e. seq_local (function_local version) (λ b. done_local (input.Gate e b))))

gate_takes : (version : ℕ) → Takes (gate_at version)
unfolding gate_at seq sign_then done
gate_takes version = takes_sign (sign.Keyword keyword.Gate) (seq_local (expr_local version) (λ e. seq_local (function_local version) (λ b. done_local (input.Gate e b))))

pub inputs_listed : (version : ℕ) → Listed starts_input (input_at version)
unfolding input_at choice starts_input is_next
inputs_listed version = listed refl (λ w us vs. refl) (takes_choice (sign.Keyword keyword.In) in_local (gate_takes version)) (choice_local (sign.Keyword keyword.In) in_local (gate_local version))

out_local : Local output_arc
unfolding output_arc seq done
out_local = seq_local arc_local (λ a. done_local (output.Arc a.0 a.1))

body_local : (version braces : ℕ) → Local (body_at version braces)
unfolding body_at seq sign_then done
body_local version braces = sign_local (sign.Keyword keyword.Do) (seq_local (block_local version braces) (λ b. done_local (output.Body b)))

body_takes : (version braces : ℕ) → Takes (body_at version braces)
unfolding body_at seq sign_then done
body_takes version braces = takes_sign (sign.Keyword keyword.Do) (seq_local (block_local version braces) (λ b. done_local (output.Body b)))

outputs_listed : (version braces : ℕ) → Listed starts_output (output_at version braces)
unfolding output_at choice starts_output is_next
outputs_listed version braces = listed refl (λ w us vs. refl) (takes_choice (sign.Keyword keyword.Out) out_local (body_takes version braces)) (choice_local (sign.Keyword keyword.Out) out_local (body_local version braces))

abbrev case_of : Ast → List OutputDecl → CaseDecl
case_of e ds = record { weight = e; outputs = ds }

case_local : (version : ℕ) → Local (case_at version)
unfolding case_at seq sign_then done
case_local version = sign_local (sign.Keyword keyword.Case) (seq_local (expr_local version) (λ e. sign_local (sign.Mark mark.OpenBrace) (seq_local (all_local (outputs_listed version 13)) (λ ds. sign_local (sign.Mark mark.CloseBrace) (done_local (case_of e ds))))))

case_takes : (version : ℕ) → Takes (case_at version)
unfolding case_at seq sign_then done
case_takes version = takes_sign (sign.Keyword keyword.Case) (seq_local (expr_local version) (λ e. sign_local (sign.Mark mark.OpenBrace) (seq_local (all_local (outputs_listed version 13)) (λ ds. sign_local (sign.Mark mark.CloseBrace) (done_local (case_of e ds))))))

case_listed : (version : ℕ) → Listed (next_keyword keyword.Case) (case_at version)
case_listed version = listed (no_word (sign.Keyword keyword.Case)) (key_first keyword.Case) (case_takes version) (case_local version)

weighted_local : (version : ℕ) → Local (weighted_at version)
unfolding weighted_at seq done
weighted_local version = seq_local (all_local (case_listed version)) (λ c. done_local (cases.Weighted c))

plain_local : (version : ℕ) → Local (plain_at version)
unfolding plain_at seq done
plain_local version = seq_local (all_local (outputs_listed version 14)) (λ o. done_local (cases.Plain o))

cases_local : (version : ℕ) → Local (cases_at version)
unfolding cases_at
cases_local version = first_local (next_keyword keyword.Case) (λ c ws. cond c (weighted_at version ws) (plain_at version ws)) (key_first keyword.Case) (cond_local (weighted_at version) (plain_at version) (weighted_local version) (plain_local version))

-- ---- delays

behind_takes : {A : Type 0} (r : Reading A) → Local r → (ws : List Word) (p : A × List Word) → next_mark mark.Comma ws ≡ true → r (tail ws) ≡ Ok p → length p.1 < length ws
behind_takes r l ws p s e =
    let front : length ws ≡ suc (length (tail ws)) = ap length (next_is (sign.Mark mark.Comma) ws s) in
    let le : length p.1 ≤ length (tail ws) = l.within (tail ws) p e in
    omega (arith, front, le)

pub commas_local : {A : Type 0} {r : Reading A} → Local r → Local (λ ws. r ws >>= λ x. gathered (x.0 ∷ []) (all_of (next_mark mark.Comma) (λ us. r (tail us)) x.1))
commas_local {r = r} l =
    let more : Listed (next_mark mark.Comma) (λ us. r (tail us)) = record { none = no_word (sign.Mark mark.Comma); first = next_first (sign.Mark mark.Comma); eats = behind_takes r l; each = skip_local r l } in
    bind_local r (λ x. gathered (x.0 ∷ []) (all_of (next_mark mark.Comma) (λ us. r (tail us)) x.1)) (λ x. refl) l (λ x. gathered_local (x.0 ∷ []) (all_of (next_mark mark.Comma) (λ us. r (tail us))) (all_local more))

entry_local : Local entry_at
unfolding entry_at seq sign_then done
entry_local = seq_local number_local (λ d. sign_local (sign.Mark mark.Colon) (seq_local number_local (λ w. done_local (d, w))))

entries_local : Local entries_at
unfolding entries_at more_entry
entries_local = commas_local entry_local

dist_local : (version : ℕ) → Local (dist_at version)
unfolding dist_at det_at uniform_at geom_at table_at choice seq sign_then done
dist_local version = choice_local (sign.Keyword keyword.Det) (seq_local (expr_local version) (λ e. done_local (dist.Det e)))
    (choice_local (sign.Keyword keyword.Uniform) (seq_local (expr_local version) (λ x. sign_local (sign.Mark mark.Comma) (seq_local (expr_local version) (λ y. done_local (dist.Uniform x y)))))
    (choice_local (sign.Keyword keyword.Geom) (seq_local number_local (λ p. seq_local number_local (λ q. done_local (dist.Geom p q))))
    (sign_local (sign.Keyword keyword.Table) (seq_local entries_local (λ es. done_local (dist.Table es))))))

react_local : (version : ℕ) → Local (react_at version)
unfolding react_at seq sign_then done
react_local version = seq_local (expr_local version) (λ x. sign_local (sign.Mark mark.Comma) (seq_local (expr_local version) (λ y. sign_local (sign.Mark mark.Semicolon) (done_local (x, y)))))

pair_local : (version : ℕ) → Local (pair_at version)
unfolding pair_at seq done maybe
pair_local version = maybe_local (next_keyword keyword.React) (key_first keyword.React) (seq_local (react_local version) (λ p. done_local (Some p)))

abbrev timing_of : DistDecl → Option (Ast × Ast) → Timing
timing_of d p = record { delay = d; pair = p }

pub timing_local : (version : ℕ) → Local (timing_at version)
unfolding timing_at seq sign_then done
timing_local version = sign_local (sign.Keyword keyword.Delay) (seq_local (dist_local version) (λ d. sign_local (sign.Mark mark.Semicolon) (seq_local (pair_local version) (λ p. done_local (timing_of d p)))))

-- ---- activities

abbrev timed_of : List ℕ → List InputDecl → Timing → Cases → ActDecl
timed_of n i t c = record { name = n; priority = None; inputs = i; timing = Some t; cases = c }

timed_local : (version : ℕ) → Local (timed_at version)
unfolding timed_at seq sign_then done
timed_local version = seq_local name_local (λ n. sign_local (sign.Mark mark.OpenBrace) (seq_local (all_local (inputs_listed version)) (λ i. seq_local (timing_local version) (λ t. seq_local (cases_local version) (λ c. sign_local (sign.Mark mark.CloseBrace) (done_local (timed_of n i t c)))))))

called_first : (version : ℕ) (w : Word) (us vs : List Word) → (has_priorities version && is_called (codes "priority") (name_of (w ∷ us))) ≡ (has_priorities version && is_called (codes "priority") (name_of (w ∷ vs)))
called_first version w us vs = ap (λ o. has_priorities version && is_called (codes "priority") o) (name_first w us vs)

pub priority_local : (version : ℕ) → Local (priority_at version)
unfolding priority_at seq done maybe
priority_local version = maybe_local (λ ws. has_priorities version && is_called (codes "priority") (name_of ws)) (called_first version) (seq_local number_local (λ n. done_local (Some n)))

abbrev instant_of : List ℕ → Option ℕ → List InputDecl → Cases → ActDecl
instant_of n p i c = record { name = n; priority = p; inputs = i; timing = None; cases = c }

instant_local : (version : ℕ) → Local (instant_at version)
unfolding instant_at seq sign_then done
instant_local version = sign_local (sign.Keyword keyword.Instant) (seq_local name_local (λ n. seq_local (priority_local version) (λ p. sign_local (sign.Mark mark.OpenBrace) (seq_local (all_local (inputs_listed version)) (λ i. seq_local (cases_local version) (λ c. sign_local (sign.Mark mark.CloseBrace) (done_local (instant_of n p i c))))))))

instant_takes : (version : ℕ) → Takes (instant_at version)
unfolding instant_at seq sign_then done
instant_takes version = takes_sign (sign.Keyword keyword.Instant) (seq_local name_local (λ n. seq_local (priority_local version) (λ p. sign_local (sign.Mark mark.OpenBrace) (seq_local (all_local (inputs_listed version)) (λ i. seq_local (cases_local version) (λ c. sign_local (sign.Mark mark.CloseBrace) (done_local (instant_of n p i c))))))))

pub acts_listed : (version : ℕ) → Listed starts_act (act_at version)
unfolding act_at choice starts_act is_next
acts_listed version = listed refl (λ w us vs. refl) (takes_choice (sign.Keyword keyword.Timed) (timed_local version) (instant_takes version)) (choice_local (sign.Keyword keyword.Timed) (timed_local version) (instant_local version))
