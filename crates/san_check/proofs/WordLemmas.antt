-- There is one entry for each word that counts.
use Rattle.san_base.proofs.Lists.{nothing_behind}
use Rattle.std.proofs.Common.{◌≡◌, ℕ, suc, ◌+◌, ◌<◌, Bool, false, is_some, true≢false, List, [], ◌∷◌, ◌++◌, length, map, Option, Some, None, nat_le, refl, sym, ap, subst, ◌∙◌, arith, append_assoc, length-append}
use Rattle.san_base.specs.declared.op.Op.TheVariants as op
use Rattle.san_lex.specs.declared.keyword.Keyword.TheVariants as keyword
use Rattle.san_lex.specs.declared.sign.Mark.TheVariants as mark
use Rattle.san_lex.specs.declared.sign.Sign.{Sign}
use Rattle.san_lex.specs.declared.sign.Sign.TheVariants as sign
use Rattle.san_lex.specs.Lexer.{Word, Number, Name, Fixed}
use Rattle.san_text.specs.declared.text.Before.TheVariants as before
use Rattle.san_text.specs.declared.syntax.Ast.{Ast, map-Ast}
use Rattle.san_text.specs.declared.syntax.Ast.TheViews as ast
use Rattle.san_text.specs.declared.syntax.Ast.TheOpen.{Ast-F}
use Rattle.san_text.specs.declared.syntax.Ast.TheFolds.{fold-roll-Ast, ind-Ast}
use Rattle.san_text.specs.declared.syntax.StmtDecl.{StmtDecl, map-StmtDecl}
use Rattle.san_text.specs.declared.syntax.StmtDecl.TheViews as stmt
use Rattle.san_text.specs.declared.syntax.StmtDecl.TheOpen.{StmtDecl-F}
use Rattle.san_text.specs.declared.syntax.StmtDecl.TheFolds.{fold-roll-StmtDecl, ind-StmtDecl}
use Rattle.san_text.specs.declared.syntax.PlaceDecl.{PlaceDecl}
use Rattle.san_text.specs.declared.syntax.ActDecl.{ActDecl}
use Rattle.san_text.specs.declared.syntax.Timing.{Timing}
use Rattle.san_text.specs.declared.syntax.InputDecl.{InputDecl}
use Rattle.san_text.specs.declared.syntax.InputDecl.TheVariants as input
use Rattle.san_text.specs.declared.syntax.OutputDecl.{OutputDecl}
use Rattle.san_text.specs.declared.syntax.OutputDecl.TheVariants as output
use Rattle.san_text.specs.declared.syntax.Cases.{Cases}
use Rattle.san_text.specs.declared.syntax.Cases.TheVariants as cases
use Rattle.san_text.specs.declared.syntax.CaseDecl.{CaseDecl}
use Rattle.san_text.specs.declared.syntax.DistDecl.{DistDecl}
use Rattle.san_text.specs.declared.syntax.DistDecl.TheVariants as dist
use Rattle.san_text.specs.declared.syntax.ModelDecl.{ModelDecl}
use Rattle.san_text.specs.declared.syntax.ModelDecl.TheVariants as model
use Rattle.san_text.specs.declared.syntax.ChildDecl.{ChildDecl}
use Rattle.san_text.specs.declared.syntax.ShareDecl.{ShareDecl}
use Rattle.san_text.specs.declared.syntax.RewardDecl.{RewardDecl}
use Rattle.san_text.specs.declared.syntax.SpanDecl.{SpanDecl}
use Rattle.san_text.specs.declared.syntax.SpanDecl.TheVariants as span
use Rattle.san_text.specs.declared.syntax.TermDecl.{TermDecl}
use Rattle.san_text.specs.declared.syntax.TermDecl.TheVariants as term
use Rattle.san_text.specs.declared.syntax.Syntax.{Syntax}
use Rattle.san_text.specs.Spelling.{spell_step, spelling, braced, else_words, stmt_words, stmts_words, stmt_step as spell_stmt, joined as all_words}
use Rattle.san_text.specs.ActivityWords.{length_words, initial_words, number_words, arc_words, function_words, input_words, output_words, outputs_words, case_words, cases_words, entry_words, with_commas, dist_words, pair_words, timing_words, priority_words, act_by, act_words}
use Rattle.san_text.specs.ModelWords.{places_words, acts_words, child_words, part_words, share_words, shown_words, model_words, span_words, term_words, reward_words, syntax_words}
use Rattle.san_text.specs.Texts.{after_sign, counted_after, words_that_count, words_of}
use Rattle.san_check.specs.declared.place.Place.{Place}
use Rattle.san_check.specs.declared.walk.Fault.{Fault}
use Rattle.san_check.specs.Tables.{Pairs, declared, all_paired}
use Rattle.san_check.specs.walk.Entries.{Entries, joined, first_fault}
use Rattle.san_check.specs.walk.Expression.{Places, expr_step, first_entries, expr_entries, stmt_step, stmt_entries, stmts_entries}
use Rattle.san_check.specs.walk.Activity.{ActNames, weight_entries, arc_entries, input_entries, output_entries, outputs_entries, case_entries, cases_entries, summed, table_entries, dist_entries, pair_entries, timing_entries, priority_entries, front_entries, act_entries}
use Rattle.san_check.specs.walk.Atomic.{length_entries, initial_entries, places_entries, with_place, counted, cells_of, all_places, acts_entries}
use Rattle.san_check.specs.walk.Composition.{Models, Children, model_code, children_entries, with_child, all_children, parts_entries, first_place, shares_entries, with_share, shown_entries, with_shown, shown_by, model_entries, models_entries, with_model, all_models, known_as}
use Rattle.san_check.specs.walk.Reward.{span_entries, is_at, term_entries, terms_entries, reward_entries, rewards_entries}
use Rattle.san_check.specs.walk.Model.{syntax_entries, syntax_fault}

-- as many of the words count, where none of `instant NAME` stands before or behind them
pub record Counts (n : ℕ) (ws : List Word) : Type 0 where
  pub law : (rest : List Word) → length (counted_after before.Other (ws ++ rest)) ≡ n + length (counted_after before.Other rest)

none : Counts 0 []
none = record { law = λ rest. omega arith }

both : {m n : ℕ} {us vs : List Word} → Counts m us → Counts n vs → Counts (m + n) (us ++ vs)
both {m} {n} {us} {vs} h k = record {
  law = λ rest.
      let a = h.law (vs ++ rest) in
      let b = k.law rest in
      ap (λ ws. length (counted_after before.Other ws)) (append_assoc us vs rest) ∙ omega (arith, a, b);
}

name : (s : List ℕ) → Counts 1 (Name s ∷ [])
name s = record { law = λ rest. omega arith }

number : (n : ℕ) → Counts 1 (Number n ∷ [])
number n = record { law = λ rest. omega arith }

fixed : (s : Sign) → after_sign s ≡ before.Other → Counts 0 (Fixed s ∷ [])
fixed s h = record { law = λ rest. ap (λ b. length (counted_after b rest)) h ∙ omega arith }

semicolon : Counts 0 (Fixed (sign.Mark mark.Semicolon) ∷ [])
semicolon = fixed (sign.Mark mark.Semicolon) refl

recount : {m n : ℕ} {ws : List Word} → Counts m ws → m ≡ n → Counts n ws
recount {m} {n} {ws} h e = subst (λ (k : ℕ). Counts k ws) e h

braces : {n : ℕ} {ws : List Word} → Counts n ws → Counts n (braced ws)
braces h = recount (both (fixed (sign.Mark mark.OpenBrace) refl) (both h (fixed (sign.Mark mark.CloseBrace) refl))) (omega arith)

-- lists, one item behind the other
lists : {A : Type 0} (f : A → Entries) (g : A → List Word) → ((x : A) → Counts (length (f x)) (g x)) → (xs : List A) → Counts (length (joined (map f xs))) (all_words (map g xs))
lists f g law [] = none
lists f g law (x ∷ xs) = recount (both (law x) (lists f g law xs)) (sym (length-append (f x) (joined (map f xs))))

abbrev Spelled : Places → Ast → Type 0
Spelled places x = (late : Bool) → Counts (length (first_entries places x late)) (spelling x)

rolled : (places : Places) (z : Ast-F Ast) → ((late : Bool) → Counts (length (expr_step places (map-Ast Ast (Bool → Entries) (first_entries places) z) late)) (spell_step (map-Ast Ast (List Word) spelling z))) → Spelled places (ast.roll-Ast z)
unfolding spelling
rolled places z h late =
    subst (λ (ws : List Word). Counts (length (first_entries places (ast.roll-Ast z) late)) ws) (sym (fold-roll-Ast (List Word) spell_step z))
    (recount (h late) (ap (λ (f : Bool → Entries). length (f late)) (sym (fold-roll-Ast (Bool → Entries) (expr_step places) z))))

layer : {S : Type 0} (places : Places) (first : S → Ast) → ((s : S) → Spelled places (first s)) → (y : Ast-F S) → Spelled places (ast.roll-Ast (map-Ast S Ast first y))
layer places first law (Ast-F.Number n) = rolled places (Ast-F.Number n) (λ late. number n)
layer places first law (Ast-F.Name s) = rolled places (Ast-F.Name s) (λ late. name s)
layer places first law (Ast-F.Cell s i) = rolled places (Ast-F.Cell s (first i)) (λ late. recount (both (name s) (both (fixed (sign.Mark mark.OpenBracket) refl) (both (law i false) (fixed (sign.Mark mark.CloseBracket) refl)))) (omega arith))
layer places first law (Ast-F.Neg a) = rolled places (Ast-F.Neg (first a)) (λ late. recount (both (fixed (sign.Operator op.Sub) refl) (law a late)) (omega arith))
layer places first law (Ast-F.Not a) = rolled places (Ast-F.Not (first a)) (λ late. recount (both (fixed sign.Not refl) (law a late)) (omega arith))
layer places first law (Ast-F.Binary o a b) = rolled places (Ast-F.Binary o (first a) (first b)) (λ late. recount (both (law a late) (both (fixed (sign.Operator o) refl) (law b false))) (omega (arith, length-append (first_entries places (first a) late) (first_entries places (first b) false))))
layer places first law (Ast-F.Group a) = rolled places (Ast-F.Group (first a)) (λ late. recount (both (fixed (sign.Mark mark.OpenParen) refl) (both (law a late) (fixed (sign.Mark mark.CloseParen) refl))) (omega arith))

first_counts : (places : Places) (e : Ast) → Spelled places e
first_counts places e = ind-Ast (Spelled places) (λ x y is. subst (λ (z : Ast-F Ast). Spelled places (ast.roll-Ast z)) is (layer places (λ s. s.0) (λ s. s.1) y)) e

expr_counts : (places : Places) (e : Ast) → Counts (length (expr_entries places e)) (spelling e)
expr_counts places e = first_counts places e false

abbrev Said : Places → StmtDecl → Type 0
Said places x = Counts (length (stmt_entries places x)) (stmt_words x)

stmt_rolled : (places : Places) (z : StmtDecl-F StmtDecl) → Counts (length (stmt_step places (map-StmtDecl StmtDecl Entries (stmt_entries places) z))) (spell_stmt (map-StmtDecl StmtDecl (List Word) stmt_words z)) → Said places (stmt.roll-StmtDecl z)
unfolding stmt_words
stmt_rolled places z h =
    subst (λ (ws : List Word). Counts (length (stmt_entries places (stmt.roll-StmtDecl z))) ws) (sym (fold-roll-StmtDecl (List Word) spell_stmt z))
    (recount h (ap length (sym (fold-roll-StmtDecl Entries (stmt_step places) z))))

inner : {S : Type 0} (places : Places) (first : S → StmtDecl) → ((s : S) → Said places (first s)) → (xs : List S) → Counts (length (joined (map (stmt_entries places) (map first xs)))) (all_words (map stmt_words (map first xs)))
inner places first law [] = none
inner places first law (x ∷ xs) = recount (both (law x) (inner places first law xs)) (sym (length-append (stmt_entries places (first x)) (joined (map (stmt_entries places) (map first xs)))))

otherwise : {S : Type 0} (places : Places) (first : S → StmtDecl) → ((s : S) → Said places (first s)) → (xs : List S) → Counts (length (joined (map (stmt_entries places) (map first xs)))) (else_words (map stmt_words (map first xs)))
otherwise places first law [] = none
otherwise places first law (x ∷ xs) = recount (both (fixed (sign.Keyword keyword.Else) refl) (braces (inner places first law (x ∷ xs)))) (omega arith)

stmt_layer : {S : Type 0} (places : Places) (first : S → StmtDecl) → ((s : S) → Said places (first s)) → (y : StmtDecl-F S) → Said places (stmt.roll-StmtDecl (map-StmtDecl S StmtDecl first y))
stmt_layer places first law (StmtDecl-F.Set s e) = stmt_rolled places (StmtDecl-F.Set s e) (recount (both (name s) (both (fixed (sign.Mark mark.Equals) refl) (both (expr_counts places e) semicolon))) (omega arith))
stmt_layer places first law (StmtDecl-F.SetCell s i e) =
    stmt_rolled places (StmtDecl-F.SetCell s i e)
    (recount (both (name s) (both (fixed (sign.Mark mark.OpenBracket) refl) (both (expr_counts places i) (both (fixed (sign.Mark mark.CloseBracket) refl) (both (fixed (sign.Mark mark.Equals) refl) (both (expr_counts places e) semicolon))))))
    (omega (arith, length-append (expr_entries places i) (expr_entries places e))))
stmt_layer places first law (StmtDecl-F.If e xs ys) =
    let a = joined (map (stmt_entries places) (map first xs)) in
    let b = joined (map (stmt_entries places) (map first ys)) in
    stmt_rolled places (StmtDecl-F.If e (map first xs) (map first ys))
    (recount (both (fixed (sign.Keyword keyword.If) refl) (both (expr_counts places e) (both (braces (inner places first law xs)) (otherwise places first law ys))))
    (omega (arith, length-append (expr_entries places e) (a ++ b), length-append a b)))

stmt_counts : (places : Places) (x : StmtDecl) → Said places x
stmt_counts places x = ind-StmtDecl (Said places) (λ x y is. subst (λ (z : StmtDecl-F StmtDecl). Said places (stmt.roll-StmtDecl z)) is (stmt_layer places (λ s. s.0) (λ s. s.1) y)) x

stmts_counts : (places : Places) (body : List StmtDecl) → Counts (length (stmts_entries places body)) (stmts_words body)
stmts_counts places body = lists (stmt_entries places) stmt_words (stmt_counts places) body

weight_counts : (w : Option ℕ) → Counts (length (weight_entries w)) (number_words w)
unfolding weight_entries
weight_counts None = none
weight_counts (Some w) = number w

arc_counts : (places : Places) (s : List ℕ) (w : Option ℕ) → Counts (length (arc_entries places s w)) (arc_words (s, w))
unfolding arc_entries
arc_counts places s w = recount (both (name s) (both (weight_counts w) semicolon)) (omega arith)

function_counts : (places : Places) (body : List StmtDecl) → Counts (length (stmts_entries places body)) (function_words body)
function_counts places [] = semicolon
function_counts places (x ∷ xs) = recount (both (fixed (sign.Keyword keyword.Do) refl) (braces (stmts_counts places (x ∷ xs)))) (omega arith)

input_counts : (places : Places) (d : InputDecl) → Counts (length (input_entries places d)) (input_words d)
unfolding input_entries
input_counts places (input.Arc s w) = recount (both (fixed (sign.Keyword keyword.In) refl) (arc_counts places s w)) (omega arith)
input_counts places (input.Gate e b) = recount (both (fixed (sign.Keyword keyword.Gate) refl) (both (expr_counts places e) (function_counts places b))) (omega (arith, length-append (expr_entries places e) (stmts_entries places b)))

output_counts : (places : Places) (d : OutputDecl) → Counts (length (output_entries places d)) (output_words d)
unfolding output_entries
output_counts places (output.Arc s w) = recount (both (fixed (sign.Keyword keyword.Out) refl) (arc_counts places s w)) (omega arith)
output_counts places (output.Body b) = recount (both (fixed (sign.Keyword keyword.Do) refl) (braces (stmts_counts places b))) (omega arith)

outputs_counts : (places : Places) (ds : List OutputDecl) → Counts (length (outputs_entries places ds)) (outputs_words ds)
outputs_counts places ds = lists (output_entries places) output_words (output_counts places) ds

case_counts : (places : Places) (d : CaseDecl) → Counts (length (case_entries places d)) (case_words d)
unfolding case_entries
case_counts places d =
    recount (both (fixed (sign.Keyword keyword.Case) refl) (both (expr_counts places d.weight) (both (fixed (sign.Mark mark.OpenBrace) refl) (both (outputs_counts places d.outputs) (fixed (sign.Mark mark.CloseBrace) refl)))))
    (omega (arith, length-append (expr_entries places d.weight) (outputs_entries places d.outputs)))

cases_counts : (places : Places) (d : Cases) → Counts (length (cases_entries places d)) (cases_words d)
unfolding cases_entries
cases_counts places (cases.Plain ds) = outputs_counts places ds
cases_counts places (cases.Weighted cs) = lists (case_entries places) case_words (case_counts places) cs

entry_counts : (e : ℕ × ℕ) → Counts 2 (entry_words e)
entry_counts e = recount (both (number e.0) (both (fixed (sign.Mark mark.Colon) refl) (number e.1))) (omega arith)

more_counts : (n sum : ℕ) (es : List (ℕ × ℕ)) → Counts (length (table_entries n sum es)) (all_words (map (λ y. Fixed (sign.Mark mark.Comma) ∷ entry_words y) es))
more_counts n sum [] = none
more_counts n sum (e ∷ es) = recount (both (both (fixed (sign.Mark mark.Comma) refl) (entry_counts e)) (more_counts (n + 1) (summed sum e.1) es)) (omega arith)

table_counts : (es : List (ℕ × ℕ)) → Counts (length (table_entries 0 0 es)) (with_commas entry_words es)
table_counts [] = none
table_counts (e ∷ es) = recount (both (entry_counts e) (more_counts (0 + 1) (summed 0 e.1) es)) (omega arith)

dist_counts : (places : Places) (d : DistDecl) → Counts (length (dist_entries places d)) (dist_words d)
unfolding dist_entries
dist_counts places (dist.Det e) = recount (both (fixed (sign.Keyword keyword.Det) refl) (expr_counts places e)) (omega arith)
dist_counts places (dist.Uniform a b) = recount (both (fixed (sign.Keyword keyword.Uniform) refl) (both (expr_counts places a) (both (fixed (sign.Mark mark.Comma) refl) (expr_counts places b)))) (omega (arith, length-append (expr_entries places a) (expr_entries places b)))
dist_counts places (dist.Geom p q) = recount (both (fixed (sign.Keyword keyword.Geom) refl) (both (number p) (number q))) (omega arith)
dist_counts places (dist.Table es) = recount (both (fixed (sign.Keyword keyword.Table) refl) (table_counts es)) (omega arith)

pair_counts : (places : Places) (p : Option (Ast × Ast)) → Counts (length (pair_entries places p)) (pair_words p)
unfolding pair_entries
pair_counts places None = none
pair_counts places (Some p) =
    recount (both (fixed (sign.Keyword keyword.React) refl) (both (expr_counts places p.0) (both (fixed (sign.Mark mark.Comma) refl) (both (expr_counts places p.1) semicolon)))) (omega (arith, length-append (expr_entries places p.0) (expr_entries places p.1)))

timing_counts : (places : Places) (t : Timing) → Counts (length (timing_entries places (Some t))) (timing_words t)
unfolding timing_entries
timing_counts places t =
    recount (both (fixed (sign.Keyword keyword.Delay) refl) (both (dist_counts places t.delay) (both semicolon (pair_counts places t.pair)))) (omega (arith, length-append (dist_entries places t.delay) (pair_entries places t.pair)))

-- behind `instant` a name counts, and the word `priority` doesn't
instant_front : (s : List ℕ) (p : Option ℕ) (n : ℕ) (ws : List Word) → Counts n (Fixed (sign.Mark mark.OpenBrace) ∷ ws) → Counts (suc (length (priority_entries p)) + n) (Fixed (sign.Keyword keyword.Instant) ∷ Name s ∷ (priority_words p ++ Fixed (sign.Mark mark.OpenBrace) ∷ ws))
unfolding priority_entries
instant_front s None n ws h = record { law = λ rest. let a = h.law rest in omega (arith, a) }
instant_front s (Some k) n ws h = record { law = λ rest. let a = h.law rest in omega (arith, a) }

act_of : (places : Places) (d : ActDecl) (t : Option Timing) → Counts (suc (length (front_entries t d.priority ++ (joined (map (input_entries places) d.inputs) ++ (timing_entries places t ++ cases_entries places d.cases))))) (act_by d t)
unfolding timing_entries
act_of places d None =
    let inputs = joined (map (input_entries places) d.inputs) in
    let inner = both (fixed (sign.Mark mark.OpenBrace) refl) (both (lists (input_entries places) input_words (input_counts places) d.inputs) (both (cases_counts places d.cases) (fixed (sign.Mark mark.CloseBrace) refl))) in
    recount (instant_front d.name d.priority _ _ inner)
    (omega (arith, length-append (priority_entries d.priority) (inputs ++ cases_entries places d.cases), length-append inputs (cases_entries places d.cases)))
act_of places d (Some t) =
    let inputs = joined (map (input_entries places) d.inputs) in
    let timing = timing_entries places (Some t) in
    recount (both (fixed (sign.Keyword keyword.Timed) refl) (both (name d.name) (both (fixed (sign.Mark mark.OpenBrace) refl) (both (lists (input_entries places) input_words (input_counts places) d.inputs)
    (both (timing_counts places t) (both (cases_counts places d.cases) (fixed (sign.Mark mark.CloseBrace) refl)))))))
    (omega (arith, length-append inputs (timing ++ cases_entries places d.cases), length-append timing (cases_entries places d.cases)))

act_counts : (places : Places) (d : ActDecl) → Counts (suc (length (act_entries places d))) (act_words d)
unfolding act_entries
act_counts places d = act_of places d d.timing

acts_counts : (places : Places) (acts : ActNames) (n : ℕ) (ds : List ActDecl) → Counts (length (acts_entries places acts n ds)) (acts_words ds)
acts_counts places acts n [] = none
acts_counts places acts n (d ∷ ds) =
    let more = acts_entries places (declared acts d.name tt) (n + 1) ds in
    recount (both (act_counts places d) (acts_counts places (declared acts d.name tt) (n + 1) ds)) (omega (arith, length-append (act_entries places d) more))

length_counts : (cells : ℕ) (l : Option ℕ) → Counts (length (length_entries cells l)) (length_words l)
unfolding length_entries
length_counts cells None = none
length_counts cells (Some l) = recount (both (fixed (sign.Mark mark.OpenBracket) refl) (both (number l) (fixed (sign.Mark mark.CloseBracket) refl))) (omega arith)

initial_counts : (i : Option ℕ) → Counts (length (initial_entries i)) (initial_words i)
unfolding initial_entries
initial_counts None = none
initial_counts (Some i) = recount (both (fixed (sign.Mark mark.Equals) refl) (number i)) (omega arith)

places_counts : (places : Places) (cells : ℕ) (ds : List PlaceDecl) → Counts (length (places_entries places cells ds)) (places_words ds)
places_counts places cells [] = none
places_counts places cells (d ∷ ds) =
    let more = places_entries (with_place places d) (counted cells (cells_of d)) ds in
    recount (both (both (fixed (sign.Keyword keyword.Place) refl) (both (name d.name) (both (length_counts cells d.length) (both (initial_counts d.initial) semicolon)))) (places_counts (with_place places d) (counted cells (cells_of d)) ds))
    (omega (arith, length-append (length_entries cells d.length) (initial_entries d.initial ++ more), length-append (initial_entries d.initial) more))

children_counts : (models : Models) (children : Children) (n : ℕ) (cs : List ChildDecl) → Counts (length (children_entries models children n cs)) (all_words (map child_words cs))
children_counts models children n [] = none
children_counts models children n (c ∷ cs) =
    recount (both (both (fixed (sign.Keyword keyword.Child) refl) (both (name c.name) (both (fixed (sign.Mark mark.Equals) refl) (both (name c.of) semicolon)))) (children_counts models (with_child models children c) (n + 1) cs)) (omega arith)

part_counts : (p : List ℕ × List ℕ) → Counts 2 (part_words p)
part_counts p = recount (both (name p.0) (both (fixed (sign.Mark mark.Dot) refl) (name p.1))) (omega arith)

more_parts : (children : Children) (taken : Pairs) (first : Option Place) (earlier : ActNames) (ps : List (List ℕ × List ℕ)) → Counts (length (parts_entries children taken first earlier ps)) (all_words (map (λ y. Fixed (sign.Mark mark.Comma) ∷ part_words y) ps))
more_parts children taken first earlier [] = none
more_parts children taken first earlier (p ∷ ps) = recount (both (both (fixed (sign.Mark mark.Comma) refl) (part_counts p)) (more_parts children taken first (declared earlier p.0 tt) ps)) (omega arith)

parts_counts : (children : Children) (taken : Pairs) (first : Option Place) (ps : List (List ℕ × List ℕ)) → Counts (length (parts_entries children taken first [] ps)) (with_commas part_words ps)
parts_counts children taken first [] = none
parts_counts children taken first (p ∷ ps) = recount (both (part_counts p) (more_parts children taken first (declared [] p.0 tt) ps)) (omega arith)

shares_counts : (children : Children) (shares : Places) (taken : Pairs) (n : ℕ) (ss : List ShareDecl) → Counts (length (shares_entries children shares taken n ss)) (all_words (map share_words ss))
shares_counts children shares taken n [] = none
shares_counts children shares taken n (s ∷ ss) =
    let parts = parts_entries children taken (first_place children s.parts) [] s.parts in
    let more = shares_entries children (with_share children shares s) (all_paired taken s.parts) (n + 1) ss in
    recount (both (both (fixed (sign.Keyword keyword.Share) refl) (both (name s.name) (both (fixed (sign.Mark mark.Equals) refl) (both (parts_counts children taken (first_place children s.parts) s.parts) semicolon))))
    (shares_counts children (with_share children shares s) (all_paired taken s.parts) (n + 1) ss))
    (omega (arith, length-append parts more))

shown_counts : (places shares : Places) (n : ℕ) (ss : List (List ℕ)) → Counts (length (shown_entries places shares n ss)) (all_words (map shown_words ss))
shown_counts places shares n [] = none
shown_counts places shares n (s ∷ ss) = recount (both (both (fixed (sign.Keyword keyword.Share) refl) (both (name s) semicolon)) (shown_counts places (with_shown places shares s) (n + 1) ss)) (omega arith)

model_counts : (models : Models) (m : ModelDecl) → Counts (suc (length (model_entries models m))) (model_words m)
unfolding model_entries
model_counts models (model.Atomic s ps ds) =
    recount (both (fixed (sign.Keyword keyword.Atomic) refl) (both (name s) (both (fixed (sign.Mark mark.OpenBrace) refl) (both (places_counts [] 0 ps) (both (acts_counts (all_places [] ps) [] 0 ds) (fixed (sign.Mark mark.CloseBrace) refl))))))
    (omega (arith, length-append (places_entries [] 0 ps) (acts_entries (all_places [] ps) [] 0 ds)))
model_counts models (model.Join s cs ss) =
    recount (both (fixed (sign.Keyword keyword.Join) refl) (both (name s) (both (fixed (sign.Mark mark.OpenBrace) refl) (both (children_counts models [] 0 cs) (both (shares_counts (all_children models [] cs) [] [] 0 ss) (fixed (sign.Mark mark.CloseBrace) refl))))))
    (omega (arith, length-append (children_entries models [] 0 cs) (shares_entries (all_children models [] cs) [] [] 0 ss)))
model_counts models (model.Rep s o n ss) =
    recount (both (fixed (sign.Keyword keyword.Rep) refl) (both (name s) (both (fixed (sign.Mark mark.Equals) refl) (both (name o) (both (fixed (sign.Keyword keyword.Times) refl) (both (number n) (braces (shown_counts (shown_by models o) [] 0 ss)))))))) (omega arith)

models_counts : (models : Models) (n : ℕ) (ms : List ModelDecl) → Counts (length (models_entries models n ms)) (all_words (map model_words ms))
models_counts models n [] = none
models_counts models n (m ∷ ms) = recount (both (model_counts models m) (models_counts (with_model models m) (n + 1) ms)) (omega (arith, length-append (model_entries models m) (models_entries (with_model models m) (n + 1) ms)))

span_counts : (d : SpanDecl) → Counts (length (span_entries d)) (span_words d)
unfolding span_entries
span_counts (span.Over a b) = recount (both (fixed (sign.Keyword keyword.Over) refl) (both (number a) (number b))) (omega arith)
span_counts (span.Mean a b) = recount (both (fixed (sign.Keyword keyword.Mean) refl) (both (number a) (number b))) (omega arith)
span_counts (span.At a) = recount (both (fixed (sign.Keyword keyword.At) refl) (number a)) (omega arith)

term_counts : (places : Places) (acts : ActNames) (at : Bool) (n : ℕ) (d : TermDecl) → Counts (length (term_entries places acts at n d)) (term_words d)
unfolding term_entries
term_counts places acts at n (term.Rate e) = recount (both (fixed (sign.Keyword keyword.Rate) refl) (both (first_counts places e (nat_le 16 n)) semicolon)) (omega arith)
term_counts places acts at n (term.Impulse s e) = recount (both (fixed (sign.Keyword keyword.Impulse) refl) (both (name s) (both (expr_counts places e) semicolon))) (omega arith)

terms_counts : (places : Places) (acts : ActNames) (at : Bool) (n : ℕ) (ds : List TermDecl) → Counts (length (terms_entries places acts at n ds)) (all_words (map term_words ds))
terms_counts places acts at n [] = none
terms_counts places acts at n (d ∷ ds) = recount (both (term_counts places acts at n d) (terms_counts places acts at (n + 1) ds)) (sym (length-append (term_entries places acts at n d) (terms_entries places acts at (n + 1) ds)))

reward_counts : (models : Models) (r : RewardDecl) → Counts (suc (length (reward_entries models r))) (reward_words r)
unfolding reward_entries
reward_counts models r =
    let known = known_as models r.atomic in
    let terms = terms_entries known.places known.acts (is_at r.span) 0 r.terms in
    recount (both (fixed (sign.Keyword keyword.Reward) refl) (both (name r.name) (both (fixed (sign.Keyword keyword.On) refl) (both (name r.atomic) (both (span_counts r.span) (braces (terms_counts known.places known.acts (is_at r.span) 0 r.terms)))))))
    (omega (arith, length-append (span_entries r.span) terms))

rewards_counts : (models : Models) (rewards : ActNames) (n : ℕ) (rs : List RewardDecl) → Counts (length (rewards_entries models rewards n rs)) (all_words (map reward_words rs))
rewards_counts models rewards n [] = none
rewards_counts models rewards n (r ∷ rs) =
    recount (both (reward_counts models r) (rewards_counts models (declared rewards r.name tt) (n + 1) rs)) (omega (arith, length-append (reward_entries models r) (rewards_entries models (declared rewards r.name tt) (n + 1) rs)))

syntax_counts : (s : Syntax) → Counts (length (syntax_entries s)) (syntax_words s)
unfolding syntax_entries syntax_words
syntax_counts s =
    let models = all_models [] s.models in
    let rewards = rewards_entries models [] 0 s.rewards in
    recount (both (both (fixed (sign.Keyword keyword.San) refl) (both (number s.version) semicolon)) (both (models_counts [] 0 s.models) (both (both (fixed (sign.Keyword keyword.System) refl) (both (name s.system) semicolon)) (rewards_counts models [] 0 s.rewards))))
    (omega (arith, length-append (models_entries [] 0 s.models) (model_code models s.system ∷ rewards)))

pub one_each : (s : Syntax) → length (syntax_entries s) ≡ length (words_of s)
unfolding words_of words_that_count
one_each s =
    let all = (syntax_counts s).law [] in
    sym (ap (λ ws. length (counted_after before.Other ws)) (sym (nothing_behind (syntax_words s))) ∙ all ∙ omega arith)

fault_below : (n : ℕ) (es : Entries) (f : Fault) → first_fault n es ≡ Some f → f.word < n + length es
fault_below n [] f h = absurd (true≢false (sym (ap is_some h)))
fault_below n (None ∷ es) f h = let more = fault_below (suc n) es f h in omega (arith, more)
fault_below n (Some c ∷ es) f h =
    let same : record { code = c; word = n } ≡ f = cc in
    let at : n ≡ f.word = ap (λ (g : Fault). g.word) same in
    omega (arith, at)

pub word_is_there : (s : Syntax) (f : Fault) → syntax_fault s ≡ Some f → f.word < length (words_of s)
word_is_there s f h = let below = fault_below 0 (syntax_entries s) f h in let each = one_each s in omega (arith, below, each)
