-- Statements, one after another.
use Rattle.san_base.proofs.Bools.{and_both}
use Rattle.std.proofs.Common.{ℕ, ℤ, suc, ◌+◌, ◌<◌, ◌≡◌, ◌∙◌, ap, sym, refl, subst, Bool, true, false, not, cond, ◌&&◌, IsTrue, Result, Ok, Err, List, [], ◌∷◌, length, get_or, drop, drop-cons, add-one}
use denote.Hole.Carrier
use Rattle.san_base.specs.declared.ending.Trap.{Trap}
use Rattle.san_expr.specs.declared.expr.Expr.{Expr}
use Rattle.san_expr.specs.declared.stmt.Stmt.{Stmt}
use Rattle.san_expr.specs.declared.stmt.Stmt.TheOpen.{Stmt-F}
use Rattle.san_expr.specs.declared.stmt.Stmt.TheViews as view
use Rattle.san_expr.specs.declared.stmt.Stmt.TheVariants as variant
use Rattle.san_expr.specs.declared.stmt.Stmt.TheFolds.{fold-roll-Stmt}
use Rattle.san_expr.specs.View.{ViewState}
use Rattle.san_expr.specs.Meaning.{Meaning, settled, then_do}
use Rattle.san_expr.specs.Value.{value_of, is_zero, cell_of}
use Rattle.san_expr.specs.Effect.{Acts, effect_step, effect_of, effects_of, chosen, assign_at}
use Rattle.san_expr.specs.Below.{stmt_below, stmts_below}
use Rattle.san_expr.specs.Meets.{Meets, Evaluates}
use Rattle.san_expr.proofs.ComposeLemmas.{meets_then, meets_stop, evaluates_settled}

effect_of-if : (e : Expr) (xs ys : List Stmt) → effect_of (view.If e xs ys) ≡ then_do (value_of e) (chosen (effects_of xs) (effects_of ys))
unfolding view.roll-Stmt denote.Hole.Carrier.roll
effect_of-if e xs ys = fold-roll-Stmt Acts effect_step (Stmt-F.If e xs ys)

effect_of-set_cell : (first length : ℕ) (index e : Expr) → effect_of (variant.SetCell first length index e) ≡ then_do (value_of index) (λ x. then_do (settled (cell_of first length x)) (λ p. then_do (value_of e) (assign_at p)))
unfolding view.roll-Stmt denote.Hole.Carrier.roll
effect_of-set_cell first length index e = fold-roll-Stmt Acts effect_step (Stmt-F.SetCell first length index e)

meets_as : {T : Type 0} (s0 s1 : ViewState) (a b : Meaning T) (r : Result T Trap) → a ≡ b → Meets s0 s1 b r → Meets s0 s1 a r
meets_as s0 s1 a b r is p = subst (λ (m : Meaning _). Meets s0 s1 m r) (sym is) p

-- an index, then the assignment of the element that it names
pub meets_set_cell : (s0 s1 s2 : ViewState) (s : Stmt) (first length : ℕ) (index e : Expr) (x : ℤ) (read : Result ℤ Trap) (r : Result (Unit {0}) Trap)
    → s ≡ variant.SetCell first length index e → read ≡ Ok x → Evaluates s0 s1 (value_of index) read
    → Meets s1 s2 (then_do (settled (cell_of first length x)) (λ p. then_do (value_of e) (assign_at p))) r → Meets s0 s2 (effect_of s) r
meets_set_cell s0 s1 s2 s first length index e x read r is answer p q =
    let next : ℤ → Acts = λ y. then_do (settled (cell_of first length y)) (λ c. then_do (value_of e) (assign_at c)) in
    meets_as s0 s2 (effect_of s) (then_do (value_of index) next) r
    (ap effect_of is ∙ effect_of-set_cell first length index e)
    (meets_then s0 s1 s2 (value_of index) next x r (subst (λ (a : Result ℤ Trap). Meets s0 s1 (value_of index) a) answer p.meets) q)

-- a condition, then the statements that it chooses
pub meets_if : (s0 s1 s2 : ViewState) (s : Stmt) (e : Expr) (xs ys body : List Stmt) (x : ℤ) (b : Bool) (read : Result ℤ Trap) (r : Result (Unit {0}) Trap)
    → s ≡ view.If e xs ys → read ≡ Ok x → Evaluates s0 s1 (value_of e) read → is_zero x ≡ b → body ≡ cond b ys xs
    → Meets s1 s2 (effects_of body) r → Meets s0 s2 (effect_of s) r
meets_if s0 s1 s2 s e xs ys body x b read r is answer p zero_is body_is q =
    let chosen_is : chosen (effects_of xs) (effects_of ys) x ≡ effects_of body =
    ap (λ (z : Bool). cond z (effects_of ys) (effects_of xs)) zero_is ∙ by_case b ∙ ap effects_of (sym body_is) in
    meets_as s0 s2 (effect_of s) (then_do (value_of e) (chosen (effects_of xs) (effects_of ys))) r
    (ap effect_of is ∙ effect_of-if e xs ys)
    (meets_then s0 s1 s2 (value_of e) (chosen (effects_of xs) (effects_of ys)) x r
    (subst (λ (a : Result ℤ Trap). Meets s0 s1 (value_of e) a) answer p.meets)
    (meets_as s1 s2 (chosen (effects_of xs) (effects_of ys) x) (effects_of body) r chosen_is q))
  where
    by_case : (z : Bool) → cond z (effects_of ys) (effects_of xs) ≡ effects_of (cond z ys xs)
    by_case true = refl
    by_case false = refl

-- what the rest of the statements does from here on, all of them do from the start
abbrev pub Stands : ViewState → ViewState → List Stmt → List Stmt → Type 0
Stands was now body rest = (new : ViewState) (r : Result (Unit {0}) Trap) → Meets now new (effects_of rest) r → Meets was new (effects_of body) r

pub stands_more : (was now next : ViewState) (body rest : List Stmt) (s : Stmt) (done : Result (Unit {0}) Trap) → Stands was now body (s ∷ rest)
    → done ≡ Ok tt → Meets now next (effect_of s) done → Stands was next body rest
stands_more was now next body rest s done stands is p = λ new r q.
    stands new r (meets_then now next new (effect_of s) (λ _. effects_of rest) tt r (subst (λ (a : Result (Unit {0}) Trap). Meets now next (effect_of s) a) is p) q)

pub stands_trap : (was now new : ViewState) (body rest : List Stmt) (s : Stmt) (t : Trap) (done : Result (Unit {0}) Trap) → Stands was now body (s ∷ rest)
    → done ≡ Err t → Meets now new (effect_of s) done → Meets was new (effects_of body) (Err t)
stands_trap was now new body rest s t done stands is p =
    stands new (Err t) (meets_stop now new (effect_of s) (λ _. effects_of rest) t (subst (λ (a : Result (Unit {0}) Trap). Meets now new (effect_of s) a) is p))

pub stands_end : (was now : ViewState) (body rest : List Stmt) → Stands was now body rest → rest ≡ [] → Meets was now (effects_of body) (Ok tt)
stands_end was now body rest stands none =
    stands now (Ok tt) (subst (λ (xs : List Stmt). Meets now now (effects_of xs) (Ok tt)) (sym none) (evaluates_settled now (Ok tt)).meets)

pub rest_at : (ss : List Stmt) (i : ℕ) (s : Stmt) → i < length ss → s ≡ get_or ss i s → drop i ss ≡ s ∷ drop (i + 1) ss
rest_at ss i s h is = drop-cons ss i s h ∙ (ap (λ (x : Stmt). x ∷ drop (suc i) ss) (sym is) ∙ ap (λ n. s ∷ drop n ss) (sym (add-one i)))

-- the first of the rest, and what follows it
pub first_below : (ss : List Stmt) (i k places : ℕ) (s : Stmt) → i < length ss → s ≡ get_or ss i s → k ≡ places → IsTrue (stmts_below (drop i ss) places)
    → IsTrue (stmt_below s k) × IsTrue (stmts_below (drop (i + 1) ss) places)
first_below ss i k places s h is same below =
    let at = rest_at ss i s h is in
    let b = and_both (stmt_below s places) (stmts_below (drop (i + 1) ss) places) (subst (λ (xs : List Stmt). IsTrue (stmts_below xs places)) at below) in
    (subst (λ (n : ℕ). IsTrue (stmt_below s n)) (sym same) b.0, b.1)

pub holds_true : (b : Bool) → not b ≡ true → b ≡ false
holds_true true h = cc
holds_true false h = refl
