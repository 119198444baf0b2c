-- Two evaluations, one after the other, and an answer by their values.
use Rattle.std.proofs.Common.{ℕ, ℤ, ◌≡◌, sym, subst, Result, Ok, Err}
use Rattle.san_base.specs.declared.ending.Trap.{Trap}
use Rattle.san_expr.specs.Meaning.{Meaning, settled, then_do}
use Rattle.san_expr.specs.Meets.{Evaluates}
use Rattle.san_expr.specs.View.{ViewState}
use Rattle.san_expr.proofs.ComposeLemmas.{evaluates_then, evaluates_stop, evaluates_settled}

evaluates_as : {T : Type 0} (s0 s1 : ViewState) (a : Meaning T) (r r' : Result T Trap) → r ≡ r' → Evaluates s0 s1 a r → Evaluates s0 s1 a r'
evaluates_as s0 s1 a r r' is p = subst (λ (x : Result _ Trap). Evaluates s0 s1 a x) is p

module _ (s0 s1 s2 : ViewState) (a b : Meaning ℤ) (f : ℤ → ℤ → Result ℕ Trap) (x : ℤ) (first second : Result ℤ Trap) (is : first ≡ Ok x) (p : Evaluates s0 s1 a first)
    (q : Evaluates s1 s2 b second) where
  pub both_answer : (y : ℤ) (r : Result ℕ Trap) → second ≡ Ok y → r ≡ f x y → Evaluates s0 s2 (then_do a (λ v. then_do b (λ w. settled (f v w)))) r
  both_answer y r at answer =
      evaluates_then s0 s1 s2 a (λ v. then_do b (λ w. settled (f v w))) x r (evaluates_as s0 s1 a first (Ok x) is p)
      (evaluates_then s1 s2 s2 b (λ w. settled (f x w)) y r (evaluates_as s1 s2 b second (Ok y) at q)
      (evaluates_as s2 s2 (settled (f x y)) (f x y) r (sym answer) (evaluates_settled s2 (f x y))))

  pub second_traps : (t : Trap) → second ≡ Err t → Evaluates s0 s2 (then_do a (λ v. then_do b (λ w. settled (f v w)))) (Err t)
  second_traps t at =
      evaluates_then s0 s1 s2 a (λ v. then_do b (λ w. settled (f v w))) x (Err t) (evaluates_as s0 s1 a first (Ok x) is p)
      (evaluates_stop s1 s2 b (λ w. settled (f x w)) t (evaluates_as s1 s2 b second (Err t) at q))
