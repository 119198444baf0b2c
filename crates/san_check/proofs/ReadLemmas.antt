-- What is read of activities: a table has an entry, and cases with weights are some.
use Rattle.std.proofs.Common.{◌≡◌, ℕ, zero, suc, ◌≤◌, ◌<◌, Bool, true, false, cond, List, [], ◌∷◌, length, Result, Ok, Err, All, refl, ap, subst, arith}
use Rattle.std.proofs.lemmas.List.Elements.{All-cons, All-nil, All-head, All-tail}
use Rattle.san_lex.specs.declared.keyword.Keyword.TheVariants as keyword
use Rattle.san_lex.specs.declared.sign.Mark.TheVariants as mark
use Rattle.san_lex.specs.declared.sign.Sign.TheVariants as sign
use Rattle.san_lex.specs.Lexer.{Word}
use Rattle.san_text.specs.declared.syntax.ActDecl.{ActDecl}
use Rattle.san_text.specs.declared.syntax.Timing.{Timing}
use Rattle.san_text.specs.declared.syntax.Cases.{Cases}
use Rattle.san_text.specs.declared.syntax.Cases.TheVariants as cases
use Rattle.san_text.specs.declared.syntax.DistDecl.{DistDecl}
use Rattle.san_text.specs.declared.syntax.ModelDecl.{ModelDecl}
use Rattle.san_text.specs.declared.syntax.ModelDecl.TheVariants as model
use Rattle.san_text.specs.declared.syntax.Syntax.{Syntax}
use Rattle.san_text.specs.Words.{tail}
use Rattle.san_text.specs.Steps.{GrammarFault, Reading, ◌>>=◌, name_at, number_at, mark_at, keyword_at, next_keyword, next_mark, many, all_of, gathered}
use Rattle.san_text.specs.Expressions.{expr}
use Rattle.san_text.specs.Activities.{place_at, starts_input, input_at, starts_act, act_at, timed_at, instant_at, timing_at, pair_at, priority_at, dist_at, det_at, uniform_at, geom_at, table_at, entries_at, entry_at, more_entry, cases_at, weighted_at, plain_at, case_at, starts_output, output_at}
use Rattle.san_text.specs.Models.{syntax_at, head_at, starts_model, model_at, atomic_at, join_at, child_at, share_at, rep_at, copied_at, times_at, shown_at, system_at, reward_at, ended}
use Rattle.san_text.proofs.FrontLemmas.{bind_ok, ok_is, next_is}
use Rattle.san_text.proofs.StepLemmas.{signed}
use Rattle.san_text.proofs.LocalLemmas.{Local, name_local, all_local, tail_le}
use Rattle.san_text.proofs.LocalGrammarLemmas.{places_listed, inputs_listed, timing_local, priority_local, acts_listed}
use Rattle.san_text.proofs.LocalModelLemmas.{models_listed, head_local}
use Rattle.san_check.specs.Formed.{IsFormedDist, IsFormedTiming}

-- ---- lists

-- an item was read at the front of so many words at most
pub record Got {A : Type 0} (item : Reading A) (room : ℕ) (x : A) : Type 0 where
  pub at : List Word
  pub rest : List Word
  pub fits : length at ≤ room
  pub read : item at ≡ Ok (x, rest)

many_by : {A : Type 0} (starts : List Word → Bool) (item : Reading A) (n room : ℕ) (ws : List Word)
    → ((vs : List Word) (q : List A × List Word) → length vs ≤ room → many starts item n vs ≡ Ok q → All (Got item room) q.0) → Local item → length ws ≤ room
    → (b : Bool) (p : List A × List Word) → cond b (item ws >>= λ x. many starts item n x.1 >>= λ y. Ok (x.0 ∷ y.0, y.1)) (Ok ([], ws)) ≡ Ok p → All (Got item room) p.0
many_by starts item n room ws more l le false p e = subst (λ (z : List _ × List Word). All (Got item room) z.0) (ok_is ([], ws) p e) (All-nil (Got item room))
many_by starts item n room ws more l le true p e =
    let x = bind_ok (item ws) (λ x. many starts item n x.1 >>= λ y. Ok (x.0 ∷ y.0, y.1)) p e in
    let y = bind_ok (many starts item n x.0.1) (λ y. Ok (x.0.0 ∷ y.0, y.1)) p x.2 in
    let less : length x.0.1 ≤ length ws = l.within ws x.0 x.1 in
    let first : Got item room x.0.0 = record { at = ws; rest = x.0.1; fits = le; read = x.1 } in
    subst (λ (z : List _ × List Word). All (Got item room) z.0) (ok_is (x.0.0 ∷ y.0.0, y.0.1) p y.2) (All-cons (Got item room) x.0.0 y.0.0 first (more x.0.1 y.0 (omega (arith, le, less)) y.1))

pub many_got : {A : Type 0} (starts : List Word → Bool) (item : Reading A) → Local item → (n room : ℕ) (ws : List Word) (p : List A × List Word) → length ws ≤ room → many starts item n ws ≡ Ok p → All (Got item room) p.0
unfolding many
many_got starts item l zero room ws p le e = subst (λ (z : List _ × List Word). All (Got item room) z.0) (ok_is ([], ws) p e) (All-nil (Got item room))
many_got starts item l (suc n) room ws p le e = many_by starts item n room ws (λ vs q. many_got starts item l n room vs q) l le (starts ws) p e

all_as : {A : Type 0} {P Q : A → Type 0} → ((x : A) → P x → Q x) → (xs : List A) → All P xs → All Q xs
all_as {P = P} {Q = Q} f [] h = All-nil Q
all_as {P = P} {Q = Q} f (x ∷ xs) h = All-cons Q x xs (f x (All-head P x xs h)) (all_as f xs (All-tail P x xs h))

-- no more items than turns, and one where one starts
few_by : {A : Type 0} (starts : List Word → Bool) (item : Reading A) (n : ℕ) (ws : List Word)
    → ((vs : List Word) (q : List A × List Word) → many starts item n vs ≡ Ok q → length q.0 ≤ n)
    → (b : Bool) (p : List A × List Word) → cond b (item ws >>= λ x. many starts item n x.1 >>= λ y. Ok (x.0 ∷ y.0, y.1)) (Ok ([], ws)) ≡ Ok p → length p.0 ≤ suc n
few_by starts item n ws more false p e = subst (λ (z : List _ × List Word). length z.0 ≤ suc n) (ok_is ([], ws) p e) (omega arith)
few_by starts item n ws more true p e =
    let x = bind_ok (item ws) (λ x. many starts item n x.1 >>= λ y. Ok (x.0 ∷ y.0, y.1)) p e in
    let y = bind_ok (many starts item n x.0.1) (λ y. Ok (x.0.0 ∷ y.0, y.1)) p x.2 in
    let few : length y.0.0 ≤ n = more x.0.1 y.0 y.1 in
    subst (λ (z : List _ × List Word). length z.0 ≤ suc n) (ok_is (x.0.0 ∷ y.0.0, y.0.1) p y.2) (omega (arith, few))

many_few : {A : Type 0} (starts : List Word → Bool) (item : Reading A) (n : ℕ) (ws : List Word) (p : List A × List Word) → many starts item n ws ≡ Ok p → length p.0 ≤ n
unfolding many
many_few starts item zero ws p e = subst (λ (z : List _ × List Word). length z.0 ≤ 0) (ok_is ([], ws) p e) (omega arith)
many_few starts item (suc n) ws p e = few_by starts item n ws (λ vs q. many_few starts item n vs q) (starts ws) p e

some_by : {A : Type 0} (starts : List Word → Bool) (item : Reading A) (n : ℕ) (ws : List Word) (b : Bool) (p : List A × List Word) → b ≡ true
    → cond b (item ws >>= λ x. many starts item n x.1 >>= λ y. Ok (x.0 ∷ y.0, y.1)) (Ok ([], ws)) ≡ Ok p → 1 ≤ length p.0
some_by starts item n ws false p is e = absurd cc
some_by starts item n ws true p is e =
    let x = bind_ok (item ws) (λ x. many starts item n x.1 >>= λ y. Ok (x.0 ∷ y.0, y.1)) p e in
    let y = bind_ok (many starts item n x.0.1) (λ y. Ok (x.0.0 ∷ y.0, y.1)) p x.2 in
    subst (λ (z : List _ × List Word). 1 ≤ length z.0) (ok_is (x.0.0 ∷ y.0.0, y.0.1) p y.2) (omega arith)

many_some : {A : Type 0} (starts : List Word → Bool) (item : Reading A) (n : ℕ) (ws : List Word) (p : List A × List Word) → 0 < n → starts ws ≡ true → many starts item n ws ≡ Ok p → 1 ≤ length p.0
unfolding many
many_some starts item zero ws p lt is e = absurd (omega (arith, lt))
many_some starts item (suc n) ws p lt is e = some_by starts item n ws (starts ws) p is e

-- ---- delays and cases

gathered_some : {A : Type 0} (x : A) (r : Result (List A × List Word) GrammarFault) (p : List A × List Word) → gathered (x ∷ []) r ≡ Ok p → 1 ≤ length p.0
gathered_some x (Ok y) p e = subst (λ (z : List _ × List Word). 1 ≤ length z.0) (ok_is (x ∷ y.0, y.1) p e) (omega arith)
gathered_some x (Err f) p e = absurd cc

table_formed : (ws : List Word) (p : DistDecl × List Word) → table_at ws ≡ Ok p → IsFormedDist p.0
unfolding table_at entries_at
table_formed ws p e =
    let t = bind_ok (keyword_at keyword.Table ws) _ p e in
    let es = bind_ok (entries_at t.0) _ p t.2 in
    let x = bind_ok (entry_at t.0) (λ x. gathered (x.0 ∷ []) (all_of (next_mark mark.Comma) more_entry x.1)) es.0 es.1 in
    subst (λ (z : DistDecl × List Word). IsFormedDist z.0) (ok_is _ p es.2) (gathered_some x.0.0 (all_of (next_mark mark.Comma) more_entry x.0.1) es.0 x.2)

det_formed : (version : ℕ) (ws : List Word) (p : DistDecl × List Word) → det_at version ws ≡ Ok p → IsFormedDist p.0
unfolding det_at
det_formed version ws p e =
    let x = bind_ok (expr version ws) _ p e in
    subst (λ (z : DistDecl × List Word). IsFormedDist z.0) (ok_is _ p x.2) tt

uniform_formed : (version : ℕ) (ws : List Word) (p : DistDecl × List Word) → uniform_at version ws ≡ Ok p → IsFormedDist p.0
unfolding uniform_at
uniform_formed version ws p e =
    let a = bind_ok (expr version ws) _ p e in
    let c = bind_ok (mark_at mark.Comma a.0.1) _ p a.2 in
    let b = bind_ok (expr version c.0) _ p c.2 in
    subst (λ (z : DistDecl × List Word). IsFormedDist z.0) (ok_is _ p b.2) tt

geom_formed : (ws : List Word) (p : DistDecl × List Word) → geom_at ws ≡ Ok p → IsFormedDist p.0
unfolding geom_at
geom_formed ws p e =
    let a = bind_ok (number_at ws) _ p e in
    let b = bind_ok (number_at a.0.1) _ p a.2 in
    subst (λ (z : DistDecl × List Word). IsFormedDist z.0) (ok_is _ p b.2) tt

dist_by : (version : ℕ) (ws : List Word) (p : DistDecl × List Word) (a b c : Bool) → cond a (det_at version (tail ws)) (cond b (uniform_at version (tail ws)) (cond c (geom_at (tail ws)) (table_at ws))) ≡ Ok p → IsFormedDist p.0
dist_by version ws p true b c e = det_formed version (tail ws) p e
dist_by version ws p false true c e = uniform_formed version (tail ws) p e
dist_by version ws p false false true e = geom_formed (tail ws) p e
dist_by version ws p false false false e = table_formed ws p e

timing_formed : (version : ℕ) (ws : List Word) (p : Timing × List Word) → timing_at version ws ≡ Ok p → IsFormedDist p.0.delay
unfolding timing_at dist_at
timing_formed version ws p e =
    let d = bind_ok (keyword_at keyword.Delay ws) _ p e in
    let x = bind_ok (dist_at version d.0) _ p d.2 in
    let s = bind_ok (mark_at mark.Semicolon x.0.1) _ p x.2 in
    let r = bind_ok (pair_at version s.0) _ p s.2 in
    subst (λ (z : Timing × List Word). IsFormedDist z.0.delay) (ok_is _ p r.2) (dist_by version d.0 x.0 (next_keyword keyword.Det d.0) (next_keyword keyword.Uniform d.0) (next_keyword keyword.Geom d.0) x.1)

-- cases with weights are some, and no more than there is room for
abbrev pub AreCases : ℕ → Cases → Type 0
AreCases room (cases.Plain outputs) = Unit {0}
AreCases room (cases.Weighted list) = (1 ≤ length list) × (length list ≤ room)

cases_by : (version room : ℕ) (ws : List Word) (p : Cases × List Word) (b : Bool) → length ws ≤ room → next_keyword keyword.Case ws ≡ b → cond b (weighted_at version ws) (plain_at version ws) ≡ Ok p → AreCases room p.0
unfolding weighted_at plain_at
cases_by version room ws p true le is e =
    let c = bind_ok (all_of (next_keyword keyword.Case) (case_at version) ws) _ p e in
    let there = ap length (next_is (sign.Keyword keyword.Case) ws is) in
    let some = many_some (next_keyword keyword.Case) (case_at version) (length ws) ws c.0 (omega (arith, there)) is c.1 in
    let few = many_few (next_keyword keyword.Case) (case_at version) (length ws) ws c.0 c.1 in
    subst (λ (z : Cases × List Word). AreCases room z.0) (ok_is _ p c.2) (some, omega (arith, le, few))
cases_by version room ws p false le is e =
    let o = bind_ok (all_of starts_output (output_at version 14) ws) _ p e in
    subst (λ (z : Cases × List Word). AreCases room z.0) (ok_is _ p o.2) tt

cases_formed : (version room : ℕ) (ws : List Word) (p : Cases × List Word) → length ws ≤ room → cases_at version ws ≡ Ok p → AreCases room p.0
unfolding cases_at
cases_formed version room ws p le e = cases_by version room ws p (next_keyword keyword.Case ws) le refl e

-- ---- activities and models

pub record Parts (room : ℕ) (act : ActDecl) : Type 0 where
  pub timing : IsFormedTiming act.timing
  pub cases : AreCases room act.cases

timed_parts : (version room : ℕ) (ws : List Word) (p : ActDecl × List Word) → length ws ≤ room → timed_at version ws ≡ Ok p → Parts room p.0
unfolding timed_at
timed_parts version room ws p le e =
    let n = bind_ok (name_at ws) _ p e in
    let b = bind_ok (mark_at mark.OpenBrace n.0.1) _ p n.2 in
    let i = bind_ok (all_of starts_input (input_at version) b.0) _ p b.2 in
    let t = bind_ok (timing_at version i.0.1) _ p i.2 in
    let c = bind_ok (cases_at version t.0.1) _ p t.2 in
    let r = bind_ok (mark_at mark.CloseBrace c.0.1) _ p c.2 in
    let one : length n.0.1 ≤ length ws = name_local.within ws n.0 n.1 in
    let two = ap length (signed (sign.Mark mark.OpenBrace) n.0.1 b.0 b.1) in
    let three : length i.0.1 ≤ length b.0 = (all_local (inputs_listed version)).within b.0 i.0 i.1 in
    let four : length t.0.1 ≤ length i.0.1 = (timing_local version).within i.0.1 t.0 t.1 in
    subst (λ (z : ActDecl × List Word). Parts room z.0) (ok_is _ p r.2)
    (record { timing = timing_formed version i.0.1 t.0 t.1; cases = cases_formed version room t.0.1 c.0 (omega (arith, le, one, two, three, four)) c.1 })

instant_parts : (version room : ℕ) (ws : List Word) (p : ActDecl × List Word) → length ws ≤ room → instant_at version ws ≡ Ok p → Parts room p.0
unfolding instant_at
instant_parts version room ws p le e =
    let k = bind_ok (keyword_at keyword.Instant ws) _ p e in
    let n = bind_ok (name_at k.0) _ p k.2 in
    let q = bind_ok (priority_at version n.0.1) _ p n.2 in
    let b = bind_ok (mark_at mark.OpenBrace q.0.1) _ p q.2 in
    let i = bind_ok (all_of starts_input (input_at version) b.0) _ p b.2 in
    let c = bind_ok (cases_at version i.0.1) _ p i.2 in
    let r = bind_ok (mark_at mark.CloseBrace c.0.1) _ p c.2 in
    let zeroth = ap length (signed (sign.Keyword keyword.Instant) ws k.0 k.1) in
    let one : length n.0.1 ≤ length k.0 = name_local.within k.0 n.0 n.1 in
    let behind : length q.0.1 ≤ length n.0.1 = (priority_local version).within n.0.1 q.0 q.1 in
    let two = ap length (signed (sign.Mark mark.OpenBrace) q.0.1 b.0 b.1) in
    let three : length i.0.1 ≤ length b.0 = (all_local (inputs_listed version)).within b.0 i.0 i.1 in
    subst (λ (z : ActDecl × List Word). Parts room z.0) (ok_is _ p r.2)
    (record { timing = tt; cases = cases_formed version room i.0.1 c.0 (omega (arith, le, zeroth, one, behind, two, three)) c.1 })

act_by : (version room : ℕ) (ws : List Word) (p : ActDecl × List Word) (b : Bool) → length ws ≤ room → cond b (timed_at version (tail ws)) (instant_at version ws) ≡ Ok p → Parts room p.0
act_by version room ws p true le e = timed_parts version room (tail ws) p (omega (arith, le, tail_le ws)) e
act_by version room ws p false le e = instant_parts version room ws p le e

act_parts : (version room : ℕ) (act : ActDecl) → Got (act_at version) room act → Parts room act
unfolding act_at
act_parts version room act g = act_by version room g.at (act, g.rest) (next_keyword keyword.Timed g.at) g.fits g.read

abbrev pub ModelParts : ℕ → ModelDecl → Type 0
ModelParts room (model.Atomic name places acts) = All (Parts room) acts
ModelParts room (model.Join name children shares) = Unit {0}
ModelParts room (model.Rep name of times shares) = Unit {0}

atomic_parts : (version room : ℕ) (ws : List Word) (p : ModelDecl × List Word) → length ws ≤ room → atomic_at version ws ≡ Ok p → ModelParts room p.0
unfolding atomic_at
atomic_parts version room ws p le e =
    let n = bind_ok (name_at ws) _ p e in
    let b = bind_ok (mark_at mark.OpenBrace n.0.1) _ p n.2 in
    let ps = bind_ok (all_of (next_keyword keyword.Place) (place_at version) b.0) _ p b.2 in
    let acts = bind_ok (all_of starts_act (act_at version) ps.0.1) _ p ps.2 in
    let r = bind_ok (mark_at mark.CloseBrace acts.0.1) _ p acts.2 in
    let one : length n.0.1 ≤ length ws = name_local.within ws n.0 n.1 in
    let two = ap length (signed (sign.Mark mark.OpenBrace) n.0.1 b.0 b.1) in
    let three : length ps.0.1 ≤ length b.0 = (all_local (places_listed version)).within b.0 ps.0 ps.1 in
    let got = many_got starts_act (act_at version) (acts_listed version).each (length ps.0.1) room ps.0.1 acts.0 (omega (arith, le, one, two, three)) acts.1 in
    subst (λ (z : ModelDecl × List Word). ModelParts room z.0) (ok_is _ p r.2) (all_as (act_parts version room) acts.0.0 got)

join_parts : (room : ℕ) (ws : List Word) (p : ModelDecl × List Word) → join_at ws ≡ Ok p → ModelParts room p.0
unfolding join_at
join_parts room ws p e =
    let n = bind_ok (name_at ws) _ p e in
    let b = bind_ok (mark_at mark.OpenBrace n.0.1) _ p n.2 in
    let c = bind_ok (all_of (next_keyword keyword.Child) child_at b.0) _ p b.2 in
    let s = bind_ok (all_of (next_keyword keyword.Share) share_at c.0.1) _ p c.2 in
    let r = bind_ok (mark_at mark.CloseBrace s.0.1) _ p s.2 in
    subst (λ (z : ModelDecl × List Word). ModelParts room z.0) (ok_is _ p r.2) tt

rep_parts : (room : ℕ) (ws : List Word) (p : ModelDecl × List Word) → rep_at ws ≡ Ok p → ModelParts room p.0
unfolding rep_at
rep_parts room ws p e =
    let n = bind_ok (copied_at ws) _ p e in
    let t = bind_ok (times_at n.0.1) _ p n.2 in
    let b = bind_ok (mark_at mark.OpenBrace t.0.1) _ p t.2 in
    let s = bind_ok (all_of (next_keyword keyword.Share) shown_at b.0) _ p b.2 in
    let r = bind_ok (mark_at mark.CloseBrace s.0.1) _ p s.2 in
    subst (λ (z : ModelDecl × List Word). ModelParts room z.0) (ok_is _ p r.2) tt

model_by : (version room : ℕ) (ws : List Word) (p : ModelDecl × List Word) (a b : Bool) → length ws ≤ room → cond a (atomic_at version (tail ws)) (cond b (join_at (tail ws)) (rep_at ws)) ≡ Ok p → ModelParts room p.0
model_by version room ws p true b le e = atomic_parts version room (tail ws) p (omega (arith, le, tail_le ws)) e
model_by version room ws p false true le e = join_parts room (tail ws) p e
model_by version room ws p false false le e = rep_parts room ws p e

model_parts : (version room : ℕ) (m : ModelDecl) → Got (model_at version) room m → ModelParts room m
unfolding model_at
model_parts version room m g = model_by version room g.at (m, g.rest) (next_keyword keyword.Atomic g.at) (next_keyword keyword.Join g.at) g.fits g.read

pub syntax_parts : (ws : List Word) (x : Syntax × ℕ) → syntax_at ws ≡ Ok x → All (ModelParts (length ws)) x.0.models
unfolding syntax_at
syntax_parts ws x e =
    let v = bind_ok (head_at ws) _ x e in
    let ms = bind_ok (all_of starts_model (model_at v.0.0) v.0.1) _ x v.2 in
    let s = bind_ok (system_at ms.0.1) _ x ms.2 in
    let rs = bind_ok (all_of (next_keyword keyword.Reward) (reward_at v.0.0) s.0.1) _ x s.2 in
    let over = bind_ok (ended rs.0.1) _ x rs.2 in
    let one : length v.0.1 ≤ length ws = head_local.within ws v.0 v.1 in
    let got = many_got starts_model (model_at v.0.0) (models_listed v.0.0).each (length v.0.1) (length ws) v.0.1 ms.0 one ms.1 in
    subst (λ (z : Syntax × ℕ). All (ModelParts (length ws)) z.0.models) (ok_is _ x over.2) (all_as (model_parts v.0.0 (length ws)) ms.0.0 got)
