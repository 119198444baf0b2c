-- Cases over all draws.
use Rattle.std.proofs.Common.{ℕ, ℤ, pos, ◌^◌, ◌<◌, ◌≡◌, ◌∙◌, ap, sym, refl, subst, arith, List, [], ◌∷◌, Option, Some, Result, Ok, Err}
use Rattle.std.specs.Prelude.{slice_index}
use Rattle.san_base.specs.declared.ending.Trap.{Trap}
use Rattle.san_base.specs.declared.ending.Trap.TheVariants as trap
use Rattle.san_expr.specs.Meaning.{Meaning, settled, then_do}
use Rattle.san_expr.specs.Value.{value_of}
use Rattle.san_expr.specs.declared.expr.Expr.TheVariants.{Number}
use Rattle.san_legal.proofs.CaseLemmas.{cases_are_drawn}
use Rattle.san_legal.specs.Cases.{IsChosen, IsWeighted}
use Rattle.san_legal.specs.Examples.{one_none_three, weighing}
use Rattle.san_net.proofs.Counted.{number_value}
use Rattle.san_net.specs.Choice.{all_natural, case_of, chosen, natural, weights_of}

abbrev Weights : Type 0
Weights = Meaning (List (Option ℕ))

-- a weight, and those after it
abbrev weight_and : Meaning ℤ → Weights → Weights
weight_and m rest = then_do (then_do m (λ x. settled (Ok (natural x)))) (λ y. then_do rest (λ ys. settled (Ok (y ∷ ys))))

abbrev no_more : Weights
no_more = settled (Ok [])

-- three weights by what they come to
three_weights : (a b c : ℤ) → weight_and (value_of (Number a)) (weight_and (value_of (Number b)) (weight_and (value_of (Number c)) no_more)) ≡ weight_and (settled (Ok a)) (weight_and (settled (Ok b)) (weight_and (settled (Ok c)) no_more))
three_weights a b c =
    ap (λ (m : Meaning ℤ). weight_and m (weight_and (value_of (Number b)) (weight_and (value_of (Number c)) no_more))) (number_value a)
    ∙ (ap (λ (m : Meaning ℤ). weight_and (settled (Ok a)) (weight_and m (weight_and (value_of (Number c)) no_more))) (number_value b)
    ∙ ap (λ (m : Meaning ℤ). weight_and (settled (Ok a)) (weight_and (settled (Ok b)) (weight_and m no_more))) (number_value c))

abbrev weighed : List (Option ℕ)
weighed = Some 1 ∷ Some 0 ∷ Some 3 ∷ []

weights_computed : (weights_of one_none_three []).answer ≡ Ok weighed
weights_computed = ap (λ (m : Weights). (m []).answer) (three_weights (pos 1) (pos 0) (pos 3))

pub last_weighted : IsWeighted one_none_three [] 2
last_weighted = record { answers = weighed; weights = 1 ∷ 0 ∷ 3 ∷ []; evaluated = weights_computed; natural = refl; total = refl; some = omega arith }

pub last_chosen : IsChosen one_none_three [] 2
last_chosen = (2 ^ 63, omega arith, ap (λ (m : Weights). (then_do m (λ ys. settled (chosen (2 ^ 63) (all_natural ys))) []).answer) (three_weights (pos 1) (pos 0) (pos 3)))

same_answers : (a b : List (Option ℕ)) → (let r : Result (List (Option ℕ)) Trap = Ok a in r) ≡ Ok b → a ≡ b
same_answers a b e = cc

same_weights : (a b : List ℕ) → (let o : Option (List ℕ) = Some a in o) ≡ Some b → a ≡ b
same_weights a b e = cc

pub second_not_weighted : IsWeighted one_none_three [] 1 → ⊥
second_not_weighted is =
    let answers : weighed ≡ is.answers = same_answers weighed is.answers (sym weights_computed ∙ is.evaluated) in
    let weights : (1 ∷ 0 ∷ 3 ∷ []) ≡ is.weights = same_weights (1 ∷ 0 ∷ 3 ∷ []) is.weights (subst (λ (ys : List (Option ℕ)). all_natural ys ≡ Some is.weights) (sym answers) is.natural) in
    let some : 0 < 0 = subst (λ (ws : List ℕ). 0 < slice_index ws 1) (sym weights) is.some in
    absurd (omega (arith, some))

pub second_not_chosen : IsChosen one_none_three [] 1 → ⊥
second_not_chosen is = second_not_weighted ((cases_are_drawn one_none_three [] 1).0 is)

pub zero_traps : (u : ℕ) → (case_of u (weighing 0 ∷ []) []).answer ≡ Err trap.Weight
zero_traps u = ap (λ (m : Meaning ℤ). (then_do (weight_and m no_more) (λ ys. settled (chosen u (all_natural ys))) []).answer) (number_value (pos 0))
