-- What statements make of a marking, or the trap that ends them.
use Rattle.std.specs.Prelude.{ℕ, nat_le, Result, Ok, Err, if◌then◌else◌, ℤ, pos, negsuc, List, [], ◌∷◌, map}
use Rattle.san_base.specs.declared.limits.TheConstants.{MAX_TOKENS}
use Rattle.san_base.specs.declared.ending.Trap.{Trap}
use Rattle.san_base.specs.declared.ending.Trap.TheVariants.{Marking}
use Rattle.san_expr.specs.Meaning.{Meaning, settled, put_at, then_do}
use Rattle.san_expr.specs.Value.{value_of, cell_of, is_zero}
use Rattle.san_expr.specs.declared.stmt.Stmt.{Stmt}
use Rattle.san_expr.specs.declared.stmt.Stmt.TheOpen.{Stmt-F}
use Rattle.san_expr.specs.declared.stmt.Stmt.TheFolds.{fold-Stmt}

abbrev pub Acts : Type 0
Acts = Meaning (Unit {0})

-- a number that a cell can have
abbrev pub count_of : ℤ → Result ℕ Trap
count_of (pos n) = if nat_le n MAX_TOKENS then Ok n else Err Marking
count_of (negsuc n) = Err Marking

abbrev pub assign_at : ℕ → ℤ → Acts
assign_at p x = then_do (settled (count_of x)) (put_at p)

-- one after another, in order
abbrev pub in_turn : List Acts → Acts
in_turn [] = settled (Ok tt)
in_turn (a ∷ as_list) = then_do a (λ _. in_turn as_list)

abbrev pub chosen : Acts → Acts → ℤ → Acts
chosen then_body else_body x = if is_zero x then else_body else then_body

-- one level, with the effect of each inner statement in its place
abbrev pub effect_step : Stmt-F Acts → Acts
effect_step (Stmt-F.Set p e) = then_do (value_of e) (assign_at p)
effect_step (Stmt-F.SetCell first length index e) =
    then_do (value_of index) (λ x. then_do (settled (cell_of first length x)) (λ p. then_do (value_of e) (assign_at p)))
effect_step (Stmt-F.If e then_body else_body) = then_do (value_of e) (chosen (in_turn then_body) (in_turn else_body))

abbrev pub effect_of : Stmt → Acts
effect_of = fold-Stmt Acts effect_step

abbrev pub effects_of : List Stmt → Acts
effects_of body = in_turn (map effect_of body)
