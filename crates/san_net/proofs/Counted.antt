-- The rewards of a small network, by computation.
use Rattle.std.proofs.Common.{ℕ, ℤ, ◌≡◌, ◌∙◌, ap, refl, pos, Ok, Some, None, true, false, List, [], ◌∷◌}
use Rattle.san_expr.specs.Delay.{ticks_of}
use Rattle.san_expr.specs.Meaning.{Meaning, settled, then_do, value_at}
use Rattle.san_expr.specs.Value.{value_of, value_step}
use Rattle.san_expr.specs.declared.expr.Expr.TheVariants.{Number, Place}
use Rattle.san_expr.specs.declared.expr.Expr.TheOpen.{Expr-F}
use Rattle.san_expr.specs.declared.expr.Expr.TheViews as view
use Rattle.san_expr.specs.declared.expr.Expr.TheFolds.{fold-roll-Expr}
use Rattle.san_law.specs.Activity as leaf
use Rattle.san_law.specs.Examples.{ran, run_of, tick_at, worth_of}
use Rattle.san_law.specs.Net as net
use Rattle.san_law.specs.Net.{Net, least_timer, without_timer}
use Rattle.san_law.specs.Network as law
use Rattle.san_law.specs.Next.{next_instant}
use Rattle.san_law.specs.Reward.{Beyond, Mean, Sum}
use Rattle.san_law.specs.State.{scatter}
use Rattle.san_law.specs.Step.{End, step}
use Rattle.san_net.specs.Choice.{all_natural, chosen, natural}
use Rattle.san_net.specs.Completion.{inputs_of, outputs_of, case_outputs}
use Rattle.san_net.specs.Examples.{counting_to, one_case}
use Rattle.san_net.specs.Leaf.{answer_by, effected_by}
use Rattle.san_net.specs.Enabled.{all_hold}
use Rattle.san_base.specs.Rated.{rated_by}
use Rattle.san_expr.proofs.EvalLemmas.{value_of-place}
use Rattle.san_net.specs.declared.activity.Input.{Input}
use Rattle.san_net.specs.declared.activity.Input.TheVariants as input
use Rattle.san_net.specs.declared.activity.Case.{Case}
use Rattle.san_net.specs.declared.activity.Output.TheVariants as output

pub number_value : (n : ℤ) → value_of (Number n) ≡ settled (Ok n)
unfolding view.roll-Expr denote.Hole.Carrier.roll
number_value n = fold-roll-Expr (Meaning ℤ) value_step (Expr-F.Number n)

abbrev the_inputs : List Input
the_inputs = input.Arc 0 1 ∷ []

abbrev the_cases : List Case
the_cases = one_case (output.Arc 0 1 ∷ output.Arc 1 1 ∷ [])

-- the network by what its expressions come to
module _ (weight delay rate impulse : Meaning ℤ) where
  abbrev completion_by : ℕ → Meaning ℕ
  completion_by u =
      then_do
      (then_do (then_do (then_do weight (λ x. settled (Ok (natural x)))) (λ y. then_do (settled (Ok [])) (λ ys. settled (Ok (y ∷ ys))))) (λ ys. settled (chosen u (all_natural ys))))
      (λ k. then_do (inputs_of the_inputs) (λ _. then_do (outputs_of (case_outputs the_cases k)) (λ _. settled (Ok k))))

  abbrev activity_by : leaf.Activity
  activity_by = record {
    kind = leaf.Timed (λ u v. (then_do delay (λ x. settled (ticks_of x)) v).answer) None;
    enabled = λ v. answer_by (all_hold the_inputs v).answer;
    complete = λ u v. effected_by (completion_by u v) (completion_by u v).answer;
    impulses = λ v. record { reward = 0; rated = rated_by (impulse v).answer } ∷ record { reward = 1; rated = rated_by (impulse v).answer } ∷ [];
  }

  abbrev net_by : ℕ → Net
  net_by horizon = law.net_of (λ s k. 0)
      (record {
        parts = record {
          slots = net.Private 0 ∷ net.Private 1 ∷ [];
          first = 0;
          activities = activity_by ∷ [];
          rates = λ v. rated_by (rate v).answer ∷ rated_by (rate v).answer ∷ rated_by (rate v).answer ∷ [];
          terms = 0 ∷ 1 ∷ 2 ∷ [];
        } ∷ [];
        shared = 0;
        initial = 1 ∷ 0 ∷ [];
        spans = record { from = 0; to = 10; mean = false } ∷ record { from = 0; to = 10; mean = true } ∷ record { from = 6; to = 7; mean = false } ∷ [];
      })
      (record { horizon = horizon; burst = 10; events = 20 })

abbrev one : Meaning ℤ
one = settled (Ok (pos 1))

abbrev three : Meaning ℤ
three = settled (Ok (pos 3))

abbrev five : Meaning ℤ
five = settled (Ok (pos 5))

abbrev computed : ℕ → Net
computed horizon = net_by one three (value_at 1) five horizon

is_computed : (horizon : ℕ) → counting_to horizon ≡ computed horizon
is_computed horizon =
    ap (λ (m : Meaning ℤ). net_by m (value_of (Number (pos 3))) (value_of (Place 1)) (value_of (Number (pos 5))) horizon) (number_value (pos 1))
    ∙ ap (λ (m : Meaning ℤ). net_by one m (value_of (Place 1)) (value_of (Number (pos 5))) horizon) (number_value (pos 3))
    ∙ ap (λ (m : Meaning ℤ). net_by one three m (value_of (Number (pos 5))) horizon) (value_of-place 1)
    ∙ ap (λ (m : Meaning ℤ). net_by one three (value_at 1) m horizon) (number_value (pos 5))

ticks : run_of (computed 10) ≡ ran (tick_at 3 ∷ tick_at 6 ∷ tick_at 9 ∷ []) 10 End
unfolding step next_instant scatter least_timer without_timer
ticks = refl

sum : worth_of (computed 10) 0 (run_of (computed 10)) ≡ Some (Sum (pos 27))
unfolding step next_instant scatter least_timer without_timer
sum = refl

mean : worth_of (computed 10) 1 (run_of (computed 10)) ≡ Some (Mean (pos 27) 10)
unfolding step next_instant scatter least_timer without_timer
mean = refl

at_six : worth_of (computed 10) 2 (run_of (computed 10)) ≡ Some (Sum (pos 2))
unfolding step next_instant scatter least_timer without_timer
at_six = refl

beyond : worth_of (computed 8) 0 (run_of (computed 8)) ≡ Some Beyond
unfolding step next_instant scatter least_timer without_timer
beyond = refl

pub three_ticks : run_of (counting_to 10) ≡ ran (tick_at 3 ∷ tick_at 6 ∷ tick_at 9 ∷ []) 10 End
three_ticks = ap run_of (is_computed 10) ∙ ticks

pub sum_and_impulses : worth_of (counting_to 10) 0 (run_of (counting_to 10)) ≡ Some (Sum (pos 27))
sum_and_impulses = ap (λ (n : Net). worth_of n 0 (run_of n)) (is_computed 10) ∙ sum

pub mean_of_ten : worth_of (counting_to 10) 1 (run_of (counting_to 10)) ≡ Some (Mean (pos 27) 10)
mean_of_ten = ap (λ (n : Net). worth_of n 1 (run_of n)) (is_computed 10) ∙ mean

pub one_tick : worth_of (counting_to 10) 2 (run_of (counting_to 10)) ≡ Some (Sum (pos 2))
one_tick = ap (λ (n : Net). worth_of n 2 (run_of n)) (is_computed 10) ∙ at_six

pub beyond_the_horizon : worth_of (counting_to 8) 0 (run_of (counting_to 8)) ≡ Some Beyond
beyond_the_horizon = ap (λ (n : Net). worth_of n 0 (run_of n)) (is_computed 8) ∙ beyond
