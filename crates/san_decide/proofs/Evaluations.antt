-- The cells that are looked at decide expressions and statements.
use Rattle.std.proofs.Common.{ℕ, Bool, true, false, not, cond, nat_le, Ok, Err, ℤ, pos, negsuc, List, [], ◌∷◌, map}
use Rattle.san_base.specs.declared.limits.TheConstants.{MAX_TOKENS}
use Rattle.san_base.specs.declared.op.Op.{Op}
use Rattle.san_base.specs.declared.ending.Trap.TheVariants.{Marking}
use Rattle.san_expr.specs.declared.expr.Expr.{Expr}
use Rattle.san_expr.specs.declared.expr.Expr.TheOpen.{Expr-F}
use Rattle.san_expr.specs.declared.expr.Expr.TheFolds.{map-Expr}
use Rattle.san_expr.specs.declared.stmt.Stmt.{Stmt}
use Rattle.san_expr.specs.declared.stmt.Stmt.TheOpen.{Stmt-F}
use Rattle.san_expr.specs.declared.stmt.Stmt.TheFolds.{map-Stmt}
use Rattle.san_expr.specs.Meaning.{Meaning, settled, value_at, put_at, then_do}
use Rattle.san_expr.specs.Value.{value_step, value_of, rest_of, is_decided, truth, is_zero, applied, cell_of}
use Rattle.san_expr.specs.Effect.{Acts, assign_at, in_turn, chosen, effect_step, effect_of, effects_of}
use Rattle.san_decide.specs.Decided.{Decides}
use Rattle.san_decide.proofs.Composing.{decides_put_at, decides_settled, decides_then, decides_value_at}
use Rattle.san_expr.proofs.Unrolling.{HeldExpr, HeldStmt, IsEffectKept, IsValueKept, every_effect, every_value}

decides_rest : (op : Op) (right : Meaning ℤ) (x : ℤ) → Decides right → Decides (rest_of op right x)
decides_rest op right x r = by_test (is_decided op x)
  where
    by_test : (b : Bool) → Decides (cond b (settled (Ok (truth (not (is_zero x))))) (then_do right (λ y. settled (applied op x y))))
    by_test true = decides_settled (Ok (truth (not (is_zero x))))
    by_test false = decides_then right (λ y. settled (applied op x y)) r (λ y. decides_settled (applied op x y))

-- expressions
abbrev Held : Type 0
Held = HeldExpr (IsValueKept Decides)

one_level : (y : Expr-F Held) → Decides (value_step (map-Expr Held (Meaning ℤ) (λ h. value_of h.0) y))
one_level (Expr-F.Number n) = decides_settled (Ok n)
one_level (Expr-F.Place p) = decides_value_at p
one_level (Expr-F.Cell first length index) =
    decides_then (value_of index.0) (λ x. then_do (settled (cell_of first length x)) value_at) index.1
    (λ x. decides_then (settled (cell_of first length x)) value_at (decides_settled (cell_of first length x)) decides_value_at)
one_level (Expr-F.Neg a) = decides_then (value_of a.0) _ a.1 (λ x. decides_settled _)
one_level (Expr-F.Not a) = decides_then (value_of a.0) _ a.1 (λ x. decides_settled _)
one_level (Expr-F.Binary op left right) = decides_then (value_of left.0) (rest_of op (value_of right.0)) left.1 (λ x. decides_rest op (value_of right.0) x right.1)

pub value_decides : (e : Expr) → Decides (value_of e)
value_decides = every_value Decides one_level

-- statements
pub decides_assign : (p : ℕ) (x : ℤ) → Decides (assign_at p x)
decides_assign p (negsuc n) = decides_settled (Err Marking)
decides_assign p (pos n) = by_test (nat_le n MAX_TOKENS)
  where
    by_test : (b : Bool) → Decides (then_do (settled (cond b (Ok n) (Err Marking))) (put_at p))
    by_test true = decides_put_at p n
    by_test false = decides_settled (Err Marking)

abbrev HeldOne : Type 0
HeldOne = HeldStmt (IsEffectKept Decides)

pub turns_decide : {X : Type 0} (acts : X → Acts) → ((x : X) → Decides (acts x)) → (xs : List X) → Decides (in_turn (map acts xs))
turns_decide acts each [] = decides_settled (Ok tt)
turns_decide acts each (x ∷ xs) = decides_then (acts x) (λ _. in_turn (map acts xs)) (each x) (λ _. turns_decide acts each xs)

one_stmt : (y : Stmt-F HeldOne) → Decides (effect_step (map-Stmt HeldOne Acts (λ h. effect_of h.0) y))
one_stmt (Stmt-F.Set p e) = decides_then (value_of e) (assign_at p) (value_decides e) (decides_assign p)
one_stmt (Stmt-F.SetCell first length index e) =
    decides_then (value_of index) (λ x. then_do (settled (cell_of first length x)) (λ p. then_do (value_of e) (assign_at p))) (value_decides index)
    (λ x. decides_then (settled (cell_of first length x)) (λ p. then_do (value_of e) (assign_at p)) (decides_settled (cell_of first length x))
    (λ p. decides_then (value_of e) (assign_at p) (value_decides e) (decides_assign p)))
one_stmt (Stmt-F.If e xs ys) =
    let acts = in_turn (map (λ (h : HeldOne). effect_of h.0) xs) in
    let others = in_turn (map (λ (h : HeldOne). effect_of h.0) ys) in
    decides_then (value_of e) (chosen acts others) (value_decides e)
    (λ x. by_test acts others (turns_decide (λ (h : HeldOne). effect_of h.0) (λ h. h.1) xs) (turns_decide (λ (h : HeldOne). effect_of h.0) (λ h. h.1) ys) (is_zero x))
  where
    by_test : (acts others : Acts) → Decides acts → Decides others → (b : Bool) → Decides (cond b others acts)
    by_test acts others p q true = q
    by_test acts others p q false = p

pub effects_decide : (body : List Stmt) → Decides (effects_of body)
effects_decide body = turns_decide effect_of (every_effect Decides one_stmt) body
