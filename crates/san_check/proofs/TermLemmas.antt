-- Without a fault an atomic's terms are as they are accepted.
use Rattle.san_base.proofs.Bools.{not_false}
use Rattle.san_base.proofs.Lists.{nothing_behind}
use Rattle.std.proofs.Common.{◌≡◌, ℕ, ◌+◌, ◌<◌, ◌≤◌, Bool, true, false, not, nat_le, List, [], ◌∷◌, length, Option, None, is_some, All, refl, sym, ap, subst, true≢false, arith}
use Rattle.std.proofs.lemmas.Bool.{leb-false}
use Rattle.std.proofs.lemmas.List.Elements.{All-cons, All-nil}
use Rattle.san_text.specs.declared.syntax.Ast.{Ast}
use Rattle.san_text.specs.declared.syntax.Ast.TheViews as ast
use Rattle.san_text.specs.declared.syntax.Ast.TheOpen.{Ast-F}
use Rattle.san_text.specs.declared.syntax.Ast.TheFolds.{fold-roll-Ast, map-Ast, ind-Ast}
use Rattle.san_text.specs.declared.syntax.TermDecl.{TermDecl}
use Rattle.san_text.specs.declared.syntax.TermDecl.TheVariants as term
use Rattle.san_net.specs.declared.atomic.RateTerm.{RateTerm}
use Rattle.san_net.specs.declared.atomic.ImpulseTerm.{ImpulseTerm}
use Rattle.san_net.specs.Accepted.{IsAcceptedTerm}
use Rattle.san_check.specs.Tables.{is_known}
use Rattle.san_check.specs.walk.Entries.{Entries, code, ◌else◌}
use Rattle.san_check.specs.walk.Expression.{Places, whole, element, entry, expr_step, first_entries, expr_entries}
use Rattle.san_check.specs.walk.Activity.{ActNames}
use Rattle.san_check.specs.walk.Reward.{impulse_code, term_entries, terms_entries}
use Rattle.san_check.specs.build.Cells.{CellTable}
use Rattle.san_check.specs.build.Composition.{number}
use Rattle.san_check.specs.build.Expression.{expr_of}
use Rattle.san_check.specs.build.Term.{rate_in, impulse_in, rates_in, impulses_in}
use Rattle.san_check.proofs.FreeLemmas.{Free, free_left, free_right, code_free, else_first, else_second}
use Rattle.san_check.proofs.TreeLemmas.{number_below}
use Rattle.san_check.proofs.FitLemmas.{Placed, first_good, expr_good}

-- a late expression has a code
abbrev Refused : Places → Ast → Type 0
Refused places e = Free (first_entries places e true) → ⊥

late_code : (o : Option ℕ) → entry true o ≡ None → ⊥
unfolding entry
late_code o h = true≢false (ap is_some h)

rolled : (places : Places) (z : Ast-F Ast) → (Free (expr_step places (map-Ast Ast (Bool → Entries) (first_entries places) z) true) → ⊥) → Refused places (ast.roll-Ast z)
rolled places z h f = h (subst (λ (g : Bool → Entries). Free (g true)) (fold-roll-Ast (Bool → Entries) (expr_step places) z) f)

layer : {S : Type 0} (places : Places) (first : S → Ast) → ((s : S) → Refused places (first s)) → (y : Ast-F S) → Refused places (ast.roll-Ast (map-Ast S Ast first y))
layer places first law (Ast-F.Number n) = rolled places (Ast-F.Number n) (λ f. late_code None f.0)
layer places first law (Ast-F.Name s) = rolled places (Ast-F.Name s) (λ f. late_code (whole places s) f.0)
layer places first law (Ast-F.Cell s i) = rolled places (Ast-F.Cell s (first i)) (λ f. late_code (element places s) f.0)
layer places first law (Ast-F.Neg a) = rolled places (Ast-F.Neg (first a)) (λ f. law a f)
layer places first law (Ast-F.Not a) = rolled places (Ast-F.Not (first a)) (λ f. law a f)
layer places first law (Ast-F.Binary o a b) = rolled places (Ast-F.Binary o (first a) (first b)) (λ f. law a (free_left (first_entries places (first a) true) (first_entries places (first b) false) f))
layer places first law (Ast-F.Group a) = rolled places (Ast-F.Group (first a)) (λ f. law a f)

refused : (places : Places) (e : Ast) → Refused places e
refused places e = ind-Ast (Refused places) (λ x y is. subst (λ (z : Ast-F Ast). Refused places (ast.roll-Ast z)) is (layer places (λ s. s.0) (λ s. s.1) y)) e

-- a term of a reward behind n others: there are fewer than 16, its activity is one of the atomic's, its cells are the atomic's
abbrev pub GoodRate : ℕ → RateTerm → Type 0
GoodRate k t = IsAcceptedTerm k t.expr

abbrev pub GoodImpulse : ℕ → ℕ → ImpulseTerm → Type 0
GoodImpulse k acts t = (t.act < acts) × IsAcceptedTerm k t.expr

early : (late : Bool) (n : ℕ) (places : Places) (e : Ast) → nat_le 16 n ≡ late → Free (first_entries places e late) → n < 16
early true n places e is f = absurd (refused places e f)
early false n places e is f = let h = leb-false 16 n is in omega (arith, h)

known_act : (acts : ActNames) (at : Bool) (n : ℕ) (name : List ℕ) → impulse_code acts at n name ≡ None → (is_known acts name ≡ true) × (n < 16)
unfolding impulse_code
known_act acts at n name h =
    let more = else_second (code 24 (not (is_known acts name))) (code 39 at else code 47 (nat_le 16 n)) h in
    let few = leb-false 16 n (code_free 47 (nat_le 16 n) (else_second (code 39 at) (code 47 (nat_le 16 n)) more)) in
    (not_false (is_known acts name) (code_free 24 (not (is_known acts name)) (else_first (code 24 (not (is_known acts name))) (code 39 at else code 47 (nat_le 16 n)) h)), omega (arith, few))

-- terms of a reward behind n others
pub record GoodTerms (k acts n : ℕ) (ts : List TermDecl) (us : List RateTerm) (vs : List ImpulseTerm) : Type 0 where
  pub few : n + length ts ≤ 16
  pub rates : All (GoodRate k) us
  pub impulses : All (GoodImpulse k acts) vs

act_below : (acts : ActNames) (name : List ℕ) → is_known acts name ≡ true → number acts name < length acts
act_below acts name h = number_below acts [] acts name (sym (nothing_behind acts)) h

pub terms_good : (places : Places) (cells : CellTable) (acts : ActNames) (k reward n : ℕ) (at : Bool) → Placed places cells k → (ts : List TermDecl) → n ≤ 16 → Free (terms_entries places acts at n ts)
    → GoodTerms k (length acts) n ts (rates_in cells reward ts) (impulses_in cells acts reward ts)
unfolding term_entries rate_in impulse_in
terms_good places cells acts k reward n at fit [] few f = record { few = omega (arith, few); rates = All-nil (GoodRate k); impulses = All-nil (GoodImpulse k (length acts)) }
terms_good places cells acts k reward n at fit (term.Rate e ∷ ts) few f =
    let here = free_left (first_entries places e (nat_le 16 n)) (terms_entries places acts at (n + 1) ts) f in
    let room = early (nat_le 16 n) n places e refl here in
    let g = first_good places cells k fit e (nat_le 16 n) here in
    let more = terms_good places cells acts k reward (n + 1) at fit ts (omega (arith, room)) (free_right (first_entries places e (nat_le 16 n)) (terms_entries places acts at (n + 1) ts) f) in
    record {
      few = omega (arith, more.few);
      rates = All-cons (GoodRate k) (record { reward = reward; expr = expr_of cells e }) (rates_in cells reward ts) (record { places = g.0; lengths = g.1 }) more.rates;
      impulses = more.impulses;
    }
terms_good places cells acts k reward n at fit (term.Impulse act e ∷ ts) few f =
    let known = known_act acts at n act f.0 in
    let here = free_left (expr_entries places e) (terms_entries places acts at (n + 1) ts) f.1 in
    let g = expr_good places cells k fit e here in
    let more = terms_good places cells acts k reward (n + 1) at fit ts (omega (arith, known.1)) (free_right (expr_entries places e) (terms_entries places acts at (n + 1) ts) f.1) in
    record {
      few = omega (arith, more.few);
      rates = more.rates;
      impulses = All-cons (GoodImpulse k (length acts)) (record { reward = reward; act = number acts act; expr = expr_of cells e }) (impulses_in cells acts reward ts) (act_below acts act known.0, record { places = g.0; lengths = g.1 }) more.impulses;
    }
