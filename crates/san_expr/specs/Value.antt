-- The value of an expression in a marking, or the trap that ends its evaluation.
use Rattle.std.specs.Prelude.{ℕ, zero, suc, ◌+◌, ◌^◌, nat_lt, Bool, true, false, not, Result, Ok, Err, if◌then◌else◌, ℤ, pos, negsuc, ◌+ℤ◌, ◌-ℤ◌, ◌*ℤ◌, neg_ℤ, int_div, int_rem, int_lt}
use Rattle.san_base.specs.declared.op.Op.{Op}
use Rattle.san_base.specs.declared.op.Op.TheVariants.{Or, And, Eq, Ne, Lt, Le, Gt, Ge, Add, Sub, Mul, Div, Rem}
use Rattle.san_base.specs.declared.ending.Trap.{Trap}
use Rattle.san_base.specs.declared.ending.Trap.TheVariants.{Arith, Index}
use Rattle.san_expr.specs.Meaning.{Meaning, settled, value_at, then_do}
use Rattle.san_expr.specs.declared.expr.Expr.{Expr}
use Rattle.san_expr.specs.declared.expr.Expr.TheOpen.{Expr-F}
use Rattle.san_expr.specs.declared.expr.Expr.TheFolds.{fold-Expr}

abbrev pub Number : Type 0
Number = Result ℤ Trap

-- inside the signed 64-bit range
abbrev pub fits_i64 : ℤ → Bool
fits_i64 (pos n) = nat_lt n (2 ^ 63)
fits_i64 (negsuc n) = nat_lt n (2 ^ 63)

abbrev pub fitting : ℤ → Number
fitting z = if fits_i64 z then Ok z else Err Arith

abbrev pub is_zero : ℤ → Bool
is_zero (pos zero) = true
is_zero (pos (suc n)) = false
is_zero (negsuc n) = false

abbrev pub truth : Bool → ℤ
truth true = pos 1
truth false = pos 0

abbrev pub is_same : ℤ → ℤ → Bool
is_same x y = is_zero (x -ℤ y)

-- an operator on two values; the quotient is cut toward zero, and the remainder has the dividend's sign
abbrev pub applied : Op → ℤ → ℤ → Number
applied Or x y = Ok (truth (not (is_zero y)))
applied And x y = Ok (truth (not (is_zero y)))
applied Eq x y = Ok (truth (is_same x y))
applied Ne x y = Ok (truth (not (is_same x y)))
applied Lt x y = Ok (truth (int_lt x y))
applied Le x y = Ok (truth (not (int_lt y x)))
applied Gt x y = Ok (truth (int_lt y x))
applied Ge x y = Ok (truth (not (int_lt x y)))
applied Add x y = fitting (x +ℤ y)
applied Sub x y = fitting (x -ℤ y)
applied Mul x y = fitting (x *ℤ y)
applied Div x y = if is_zero y then Err Arith else fitting (int_div x y)
applied Rem x y = if is_zero y then Err Arith else (if fits_i64 (int_div x y) then Ok (int_rem x y) else Err Arith)

-- the left value decides alone
abbrev pub is_decided : Op → ℤ → Bool
is_decided Or x = not (is_zero x)
is_decided And x = is_zero x
is_decided _ x = false

-- what an operator needs of its right side, once its left value is known
abbrev pub rest_of : Op → Meaning ℤ → ℤ → Meaning ℤ
rest_of op right x = if is_decided op x then settled (Ok (truth (not (is_zero x)))) else then_do right (λ y. settled (applied op x y))

-- the cell that an index names in the array with this first cell and this length
abbrev pub cell_of : ℕ → ℕ → ℤ → Result ℕ Trap
cell_of first length (pos i) = if nat_lt i length then Ok (first + i) else Err Index
cell_of first length (negsuc i) = Err Index

-- one level, with the meaning of each operand in its place
abbrev pub value_step : Expr-F (Meaning ℤ) → Meaning ℤ
value_step (Expr-F.Number n) = settled (Ok n)
value_step (Expr-F.Place p) = value_at p
value_step (Expr-F.Cell first length index) = then_do index (λ x. then_do (settled (cell_of first length x)) value_at)
value_step (Expr-F.Neg a) = then_do a (λ x. settled (fitting (neg_ℤ x)))
value_step (Expr-F.Not a) = then_do a (λ x. settled (Ok (truth (is_zero x))))
value_step (Expr-F.Binary op left right) = then_do left (rest_of op right)

abbrev pub value_of : Expr → Meaning ℤ
value_of = fold-Expr (Meaning ℤ) value_step
