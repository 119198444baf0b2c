-- What a value and an effect come to one level down, and what so holds of all of them.
use Rattle.std.proofs.Common.{ℕ, ◌≡◌, ◌∙◌, ap, sym, refl, subst, ℤ, List, [], ◌∷◌, map}
use Rattle.san_expr.specs.declared.expr.Expr.{Expr}
use Rattle.san_expr.specs.declared.expr.Expr.TheOpen.{Expr-F}
use Rattle.san_expr.specs.declared.expr.Expr.TheViews.{roll-Expr}
use Rattle.san_expr.specs.declared.expr.Expr.TheFolds.{fold-roll-Expr, map-Expr, ind-Expr}
use Rattle.san_expr.specs.declared.stmt.Stmt.{Stmt}
use Rattle.san_expr.specs.declared.stmt.Stmt.TheOpen.{Stmt-F}
use Rattle.san_expr.specs.declared.stmt.Stmt.TheViews.{roll-Stmt}
use Rattle.san_expr.specs.declared.stmt.Stmt.TheFolds.{fold-roll-Stmt, map-Stmt, ind-Stmt}
use Rattle.san_expr.specs.Meaning.{Meaning}
use Rattle.san_expr.specs.Value.{value_step, value_of}
use Rattle.san_expr.specs.Effect.{Acts, effect_step, effect_of}

-- an expression, or a statement, with what is known of it
abbrev pub HeldExpr : (Expr → Type 0) → Type 0
HeldExpr P = (e : Expr) × P e

abbrev pub HeldStmt : (Stmt → Type 0) → Type 0
HeldStmt P = (s : Stmt) × P s

value_map : (P : Expr → Type 0) (y : Expr-F (HeldExpr P)) → map-Expr Expr (Meaning ℤ) value_of (map-Expr (HeldExpr P) Expr (λ h. h.0) y) ≡ map-Expr (HeldExpr P) (Meaning ℤ) (λ h. value_of h.0) y
value_map P (Expr-F.Number n) = refl
value_map P (Expr-F.Place p) = refl
value_map P (Expr-F.Cell first length index) = refl
value_map P (Expr-F.Neg a) = refl
value_map P (Expr-F.Not a) = refl
value_map P (Expr-F.Binary op left right) = refl

-- an expression's value is made of those of its parts
pub value_is : (P : Expr → Type 0) (y : Expr-F (HeldExpr P)) → value_of (roll-Expr (map-Expr (HeldExpr P) Expr (λ h. h.0) y)) ≡ value_step (map-Expr (HeldExpr P) (Meaning ℤ) (λ h. value_of h.0) y)
value_is P y = fold-roll-Expr (Meaning ℤ) value_step (map-Expr (HeldExpr P) Expr (λ h. h.0) y) ∙ ap value_step (value_map P y)

pub map_map : {A B C : Type 0} (f : A → B) (g : B → C) (xs : List A) → map g (map f xs) ≡ map (λ x. g (f x)) xs
map_map f g [] = refl
map_map f g (x ∷ xs) = ap (λ (ys : List _). g (f x) ∷ ys) (map_map f g xs)

effect_map : (P : Stmt → Type 0) (y : Stmt-F (HeldStmt P)) → map-Stmt Stmt Acts effect_of (map-Stmt (HeldStmt P) Stmt (λ h. h.0) y) ≡ map-Stmt (HeldStmt P) Acts (λ h. effect_of h.0) y
effect_map P (Stmt-F.Set p e) = refl
effect_map P (Stmt-F.SetCell first length index e) = refl
effect_map P (Stmt-F.If e xs ys) = λ i. Stmt-F.If e (map_map (λ (h : HeldStmt P). h.0) effect_of xs i) (map_map (λ (h : HeldStmt P). h.0) effect_of ys i)

-- a statement's effect is made of those of its parts
pub effect_is : (P : Stmt → Type 0) (y : Stmt-F (HeldStmt P)) → effect_of (roll-Stmt (map-Stmt (HeldStmt P) Stmt (λ h. h.0) y)) ≡ effect_step (map-Stmt (HeldStmt P) Acts (λ h. effect_of h.0) y)
effect_is P y = fold-roll-Stmt Acts effect_step (map-Stmt (HeldStmt P) Stmt (λ h. h.0) y) ∙ ap effect_step (effect_map P y)

-- what each level keeps holds of the value of every expression
module _ (Q : Meaning ℤ → Type 0) where
  abbrev pub IsValueKept : Expr → Type 0
  IsValueKept e = Q (value_of e)

  module _ (level : (y : Expr-F (HeldExpr IsValueKept)) → Q (value_step (map-Expr (HeldExpr IsValueKept) (Meaning ℤ) (λ h. value_of h.0) y))) where
    value_level : (x : Expr-F Expr) (y : Expr-F (HeldExpr IsValueKept)) → map-Expr (HeldExpr IsValueKept) Expr (λ h. h.0) y ≡ x → IsValueKept (roll-Expr x)
    value_level x y e = subst (λ (z : Expr-F Expr). IsValueKept (roll-Expr z)) e (subst Q (sym (value_is IsValueKept y)) (level y))

    pub every_value : (e : Expr) → Q (value_of e)
    every_value = ind-Expr IsValueKept value_level

-- and of the effect of every statement
module _ (Q : Acts → Type 0) where
  abbrev pub IsEffectKept : Stmt → Type 0
  IsEffectKept s = Q (effect_of s)

  module _ (level : (y : Stmt-F (HeldStmt IsEffectKept)) → Q (effect_step (map-Stmt (HeldStmt IsEffectKept) Acts (λ h. effect_of h.0) y))) where
    effect_level : (x : Stmt-F Stmt) (y : Stmt-F (HeldStmt IsEffectKept)) → map-Stmt (HeldStmt IsEffectKept) Stmt (λ h. h.0) y ≡ x → IsEffectKept (roll-Stmt x)
    effect_level x y e = subst (λ (z : Stmt-F Stmt). IsEffectKept (roll-Stmt z)) e (subst Q (sym (effect_is IsEffectKept y)) (level y))

    pub every_effect : (s : Stmt) → Q (effect_of s)
    every_effect = ind-Stmt IsEffectKept effect_level
