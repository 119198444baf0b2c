-- Evaluations assign nothing, and a view of a whole marking has that marking alone.
use Rattle.std.proofs.Common.{ℕ, zero, suc, ◌≡◌, ◌∙◌, ap, sym, refl, subst, arith, Bool, true, false, not, cond, ◌||◌, Result, Ok, Err, ℤ, neg_ℤ, List, [], ◌∷◌, length}
use Rattle.san_base.specs.declared.op.Op.{Op}
use Rattle.san_base.specs.declared.ending.Trap.{Trap}
use Rattle.san_expr.specs.declared.expr.Expr.{Expr}
use Rattle.san_expr.specs.declared.expr.Expr.TheOpen.{Expr-F}
use Rattle.san_expr.specs.declared.expr.Expr.TheFolds.{map-Expr}
use Rattle.san_expr.specs.declared.dist.Dist.{Dist}
use Rattle.san_expr.specs.declared.dist.Dist.TheVariants.{Det, Uniform, Geom, Table}
use Rattle.san_expr.specs.Concerns.{AssignsNothing}
use Rattle.san_expr.specs.Delay.{delay_of, ticks_of, between}
use Rattle.san_expr.specs.Meaning.{Meaning, settled, value_at, go_on, then_do}
use Rattle.san_expr.specs.Meets.{Meets, Evaluates, marking_of}
use Rattle.san_expr.specs.Value.{value_step, value_of, rest_of, is_decided, truth, is_zero, applied, cell_of, fitting}
use Rattle.san_expr.specs.View.{ViewState, Agrees, OwnsAll, plain}
use Rattle.san_expr.proofs.Unrolling.{HeldExpr, IsValueKept, every_value}
use Rattle.san_expr.proofs.ViewLemmas.{over_whole}

module _ {T U : Type 0} (a : Meaning T) (next : T → Meaning U) (first : AssignsNothing a) (rest : (x : T) → AssignsNothing (next x)) where
  by_answer : (r : Result T Trap) (m : List ℕ) → ((go_on r (a m) next).left ≡ m) × ((p : ℕ) → (go_on r (a m) next).sets p ≡ false)
  by_answer (Ok x) m =
      let then_p = rest x (a m).left in
      (then_p.0 ∙ (first m).0, λ p. ap (λ (b : Bool). b || (next x (a m).left).sets p) ((first m).1 p) ∙ then_p.1 p)
  by_answer (Err t) m = first m

  pub nothing_then : AssignsNothing (then_do a next)
  nothing_then m = by_answer (a m).answer m

pub nothing_settled : {T : Type 0} (r : Result T Trap) → AssignsNothing (settled r)
nothing_settled r m = (refl, λ p. refl)

pub nothing_value_at : (p : ℕ) → AssignsNothing (value_at p)
nothing_value_at p m = (refl, λ q. refl)

nothing_rest : (op : Op) (right : Meaning ℤ) (x : ℤ) → AssignsNothing right → AssignsNothing (rest_of op right x)
nothing_rest op right x r = by_test (is_decided op x)
  where
    by_test : (b : Bool) → AssignsNothing (cond b (settled (Ok (truth (not (is_zero x))))) (then_do right (λ y. settled (applied op x y))))
    by_test true = nothing_settled (Ok (truth (not (is_zero x))))
    by_test false = nothing_then right (λ y. settled (applied op x y)) r (λ y. nothing_settled (applied op x y))

one_level : (y : Expr-F (HeldExpr (IsValueKept AssignsNothing))) → AssignsNothing (value_step (map-Expr (HeldExpr (IsValueKept AssignsNothing)) (Meaning ℤ) (λ h. value_of h.0) y))
one_level (Expr-F.Number n) = nothing_settled (Ok n)
one_level (Expr-F.Place p) = nothing_value_at p
one_level (Expr-F.Cell first count index) =
    nothing_then (value_of index.0) (λ x. then_do (settled (cell_of first count x)) value_at) index.1
    (λ x. nothing_then (settled (cell_of first count x)) value_at (nothing_settled (cell_of first count x)) nothing_value_at)
one_level (Expr-F.Neg a) = nothing_then (value_of a.0) (λ x. settled (fitting (neg_ℤ x))) a.1 (λ x. nothing_settled (fitting (neg_ℤ x)))
one_level (Expr-F.Not a) = nothing_then (value_of a.0) (λ x. settled (Ok (truth (is_zero x)))) a.1 (λ x. nothing_settled (Ok (truth (is_zero x))))
one_level (Expr-F.Binary op left right) = nothing_then (value_of left.0) (rest_of op (value_of right.0)) left.1 (λ x. nothing_rest op (value_of right.0) x right.1)

pub value_reads : (e : Expr) → AssignsNothing (value_of e)
value_reads = every_value AssignsNothing one_level

pub delay_reads : (d : Dist) (u : ℕ) → AssignsNothing (delay_of d u)
delay_reads (Det e) u m = nothing_then (value_of e) (λ x. settled (ticks_of x)) (value_reads e) (λ x. nothing_settled (ticks_of x)) m
delay_reads (Uniform low high) u m =
    nothing_then (value_of low) (λ x. then_do (value_of high) (λ y. settled (between u (ticks_of x) (ticks_of y)))) (value_reads low)
    (λ x. nothing_then (value_of high) (λ y. settled (between u (ticks_of x) (ticks_of y))) (value_reads high) (λ y. nothing_settled (between u (ticks_of x) (ticks_of y)))) m
delay_reads (Geom p q) u m = (refl, λ c. refl)
delay_reads (Table entries) u m = (refl, λ c. refl)

pub whole_is_one : (s : ViewState) → OwnsAll s → (m n : List ℕ) → Agrees s m → Agrees s n → marking_of s m ≡ marking_of s n
whole_is_one s whole m n a b = over_whole s.own m n (a.sized ∙ sym b.sized) (λ p h. whole p (omega (arith, a.sized)))

pub plain_is : (values m : List ℕ) → length m ≡ length values → marking_of (plain values) m ≡ values
plain_is [] [] e = refl
plain_is [] (x ∷ m) e = absurd (omega arith)
plain_is (v ∷ values) [] e = absurd (omega arith)
plain_is (v ∷ values) (x ∷ m) e = ap (λ (ys : List ℕ). v ∷ ys) (plain_is values m (omega arith))

pub plain_whole : (values : List ℕ) → OwnsAll (plain values)
plain_whole [] p h = absurd (omega arith)
plain_whole (v ∷ values) zero h = refl
plain_whole (v ∷ values) (suc p) h = plain_whole values p (omega arith)

agrees_with_plain : (values : List ℕ) (n : ℕ) → length values ≡ n → (left : List ℕ) → length left ≡ n → Agrees (plain left) values
agrees_with_plain values n e left f = record { sized = e ∙ sym f; has = λ p. tt }

-- a call over the view of a whole marking is its meaning there
pub plain_meets : {T : Type 0} (values left : List ℕ) (a : Meaning T) (r : Result T Trap) → Meets (plain values) (plain left) a r
    → ((a values).answer ≡ r) × (left ≡ (a values).left)
plain_meets values left a r p =
    let agrees = agrees_with_plain values (length values) refl left p.places in
    let was = plain_is values values refl in (
      ap (λ (m : List ℕ). (a m).answer) (sym was) ∙ p.answer values agrees,
      sym (plain_is left values (sym p.places)) ∙ p.left values agrees ∙ ap (λ (m : List ℕ). (a m).left) was,
    )

pub plain_evaluates : (values left : List ℕ) (e : Expr) (r : Result ℤ Trap) → Evaluates (plain values) (plain left) (value_of e) r
    → ((value_of e values).answer ≡ r) × (left ≡ values)
plain_evaluates values left e r p = let q = plain_meets values left (value_of e) r p.meets in (q.0, q.1 ∙ (value_reads e values).0)
