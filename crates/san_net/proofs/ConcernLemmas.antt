-- Which cells enabling and completion have to do with.
use Rattle.san_base.proofs.Bools.{holds_left, holds_right}
use Rattle.std.proofs.Common.{ℕ, zero, suc, pos, refl, Bool, true, false, ◌||◌, IsTrue, Ok, List, [], ◌∷◌, map, ◌+ℤ◌, ◌-ℤ◌, Option}
use Rattle.std.specs.Prelude.{int_lt, not}
use Rattle.std.proofs.lemmas.Bool.{eq-eqb}
use Rattle.san_expr.specs.Concerns.{AssignsNothing, Concerns, IsPartOf}
use Rattle.san_expr.specs.Effect.{Acts, assign_at, in_turn}
use Rattle.san_expr.specs.Meaning.{settled, then_do, value_at}
use Rattle.san_expr.specs.Mentions.{CellSet, any_of, mentions}
use Rattle.san_expr.specs.Value.{is_zero, value_of}
use Rattle.san_expr.specs.declared.expr.Expr.{Expr}
use Rattle.san_expr.proofs.ConcernLemmas.{concerns_assign, concerns_more, concerns_settled, concerns_then, concerns_value_at, effects_concern, value_concerns}
use Rattle.san_expr.proofs.WholeLemmas.{nothing_settled, nothing_then, nothing_value_at, value_reads}
use Rattle.san_net.specs.Choice.{all_natural, case_of, chosen, natural, weight_of, weights_of}
use Rattle.san_net.specs.Completion.{case_outputs, completion_of, function_of, inputs_of, output_of, outputs_of}
use Rattle.san_net.specs.Enabled.{all_hold, and_then, enabled_of, predicate_of, truth_of}
use Rattle.san_net.specs.Mentions.{case_mentions, completion_mentions, enabling_mentions, function_mentions, output_mentions, predicate_mentions}
use Rattle.san_net.specs.declared.activity.Activity.{Activity}
use Rattle.san_net.specs.declared.activity.Case.{Case}
use Rattle.san_net.specs.declared.activity.Input.{Input}
use Rattle.san_net.specs.declared.activity.Input.TheVariants as input
use Rattle.san_net.specs.declared.activity.Output.{Output}
use Rattle.san_net.specs.declared.activity.Output.TheVariants as output

pub truth_reads : (e : Expr) → AssignsNothing (truth_of e)
truth_reads e = nothing_then (value_of e) (λ x. settled (Ok (not (is_zero x)))) (value_reads e) (λ x. nothing_settled (Ok (not (is_zero x))))

predicate_reads : (i : Input) → AssignsNothing (predicate_of i)
predicate_reads (input.Arc p w) = nothing_then (value_at p) (λ x. settled (Ok (not (int_lt x (pos w))))) (nothing_value_at p) (λ x. nothing_settled (Ok (not (int_lt x (pos w)))))
predicate_reads (input.Gate e body) = truth_reads e

predicates_read : (inputs : List Input) → AssignsNothing (all_hold inputs)
predicates_read [] = nothing_settled {T = Bool} (Ok true)
predicates_read (i ∷ inputs) = nothing_then (predicate_of i) (and_then (all_hold inputs)) (predicate_reads i) (λ b. by_test b (predicates_read inputs))
  where
    by_test : (b : Bool) → AssignsNothing (all_hold inputs) → AssignsNothing (and_then (all_hold inputs) b)
    by_test true h = h
    by_test false h = nothing_settled {T = Bool} (Ok false)

pub enabling_reads : (a : Activity) → AssignsNothing (enabled_of a)
enabling_reads a = predicates_read a.inputs

module _ (cells : CellSet) where
  within_value : (e : Expr) → IsPartOf (mentions e) cells → Concerns cells (value_of e)
  within_value e part = concerns_more (mentions e) cells (value_of e) part (value_concerns e)

  predicate_concerns : (i : Input) → IsPartOf (predicate_mentions i) cells → Concerns cells (predicate_of i)
  predicate_concerns (input.Arc p w) part =
      concerns_then cells (value_at p) (λ x. settled (Ok (not (int_lt x (pos w))))) (concerns_value_at cells p (part p (eq-eqb p p refl))) (λ x. concerns_settled cells (Ok (not (int_lt x (pos w)))))
  predicate_concerns (input.Gate e body) part = concerns_then cells (value_of e) (λ x. settled (Ok (not (is_zero x)))) (within_value e part) (λ x. concerns_settled cells (Ok (not (is_zero x))))

  predicates_concern : (inputs : List Input) → IsPartOf (any_of (map predicate_mentions inputs)) cells → Concerns cells (all_hold inputs)
  predicates_concern [] part = concerns_settled cells {T = Bool} (Ok true)
  predicates_concern (i ∷ inputs) part =
      concerns_then cells (predicate_of i) (and_then (all_hold inputs)) (predicate_concerns i (λ q h. part q (holds_left (predicate_mentions i q) (any_of (map predicate_mentions inputs) q) h)))
      (λ b. by_test b (predicates_concern inputs (λ q h. part q (holds_right (predicate_mentions i q) (any_of (map predicate_mentions inputs) q) h))))
    where
      by_test : (b : Bool) → Concerns cells (all_hold inputs) → Concerns cells (and_then (all_hold inputs) b)
      by_test true h = h
      by_test false h = concerns_settled cells {T = Bool} (Ok false)

  weight_concerns : (c : Case) → IsPartOf (mentions c.weight) cells → Concerns cells (weight_of c)
  weight_concerns c part = concerns_then cells (value_of c.weight) (λ x. settled (Ok (natural x))) (within_value c.weight part) (λ x. concerns_settled cells (Ok (natural x)))

  weights_concern : (cases : List Case) → IsPartOf (any_of (map case_mentions cases)) cells → Concerns cells (weights_of cases)
  weights_concern [] part = concerns_settled cells {T = List (Option ℕ)} (Ok [])
  weights_concern (c ∷ cases) part =
      concerns_then cells (weight_of c) (λ y. then_do (weights_of cases) (λ ys. settled (Ok (y ∷ ys))))
      (weight_concerns c (λ q h. part q (holds_left (case_mentions c q) (any_of (map case_mentions cases) q) (holds_left (mentions c.weight q) (any_of (map output_mentions c.outputs) q) h))))
      (λ y. by_rest y (weights_concern cases (λ q h. part q (holds_right (case_mentions c q) (any_of (map case_mentions cases) q) h))))
    where
      by_rest : (y : Option ℕ) → Concerns cells (weights_of cases) → Concerns cells (then_do (weights_of cases) (λ ys. settled (Ok (y ∷ ys))))
      by_rest y rest = concerns_then cells (weights_of cases) (λ ys. settled (Ok (y ∷ ys))) rest (λ ys. concerns_settled cells (Ok (y ∷ ys)))

  choice_concerns : (u : ℕ) (cases : List Case) → IsPartOf (any_of (map case_mentions cases)) cells → Concerns cells (case_of u cases)
  choice_concerns u cases part = concerns_then cells (weights_of cases) (λ ys. settled (chosen u (all_natural ys))) (weights_concern cases part) (λ ys. concerns_settled cells (chosen u (all_natural ys)))

  function_concerns : (i : Input) → IsPartOf (function_mentions i) cells → Concerns cells (function_of i)
  function_concerns (input.Arc p w) part =
      let own = part p (eq-eqb p p refl) in
      concerns_then cells (value_at p) (λ x. assign_at p (x -ℤ pos w)) (concerns_value_at cells p own) (λ x. concerns_assign cells p (x -ℤ pos w) own)
  function_concerns (input.Gate e body) part = effects_concern body cells part

  output_concerns : (o : Output) → IsPartOf (output_mentions o) cells → Concerns cells (output_of o)
  output_concerns (output.Arc p w) part =
      let own = part p (eq-eqb p p refl) in
      concerns_then cells (value_at p) (λ x. assign_at p (x +ℤ pos w)) (concerns_value_at cells p own) (λ x. concerns_assign cells p (x +ℤ pos w) own)
  output_concerns (output.Body body) part = effects_concern body cells part

  turns_concern : {X : Type 0} (acts : X → Acts) (named : X → CellSet) → ((x : X) → IsPartOf (named x) cells → Concerns cells (acts x)) → (xs : List X) → IsPartOf (any_of (map named xs)) cells → Concerns cells (in_turn (map acts xs))
  turns_concern acts named each [] part = concerns_settled cells (Ok tt)
  turns_concern acts named each (x ∷ xs) part =
      concerns_then cells (acts x) (λ _. in_turn (map acts xs)) (each x (λ q h. part q (holds_left (named x q) (any_of (map named xs) q) h)))
      (λ _. turns_concern acts named each xs (λ q h. part q (holds_right (named x q) (any_of (map named xs) q) h)))

  outputs_concern : (cases : List Case) (k : ℕ) → IsPartOf (any_of (map case_mentions cases)) cells → Concerns cells (outputs_of (case_outputs cases k))
  outputs_concern [] k part = concerns_settled cells (Ok tt)
  outputs_concern (c ∷ cases) zero part =
      turns_concern output_of output_mentions output_concerns c.outputs
      (λ q h. part q (holds_left (case_mentions c q) (any_of (map case_mentions cases) q) (holds_right (mentions c.weight q) (any_of (map output_mentions c.outputs) q) h)))
  outputs_concern (c ∷ cases) (suc k) part = outputs_concern cases k (λ q h. part q (holds_right (case_mentions c q) (any_of (map case_mentions cases) q) h))

pub enabling_concerns : (a : Activity) → Concerns (enabling_mentions a) (enabled_of a)
enabling_concerns a = predicates_concern (enabling_mentions a) a.inputs (λ q h. h)

pub completion_concerns : (u : ℕ) (a : Activity) → Concerns (completion_mentions a) (completion_of u a)
completion_concerns u a =
    let cells = completion_mentions a in
    let inputs : IsPartOf (any_of (map function_mentions a.inputs)) cells = λ q h. holds_left (any_of (map function_mentions a.inputs) q) (any_of (map case_mentions a.cases) q) h in
    let cases : IsPartOf (any_of (map case_mentions a.cases)) cells = λ q h. holds_right (any_of (map function_mentions a.inputs) q) (any_of (map case_mentions a.cases) q) h in
    concerns_then cells (case_of u a.cases) (λ k. then_do (inputs_of a.inputs) (λ _. then_do (outputs_of (case_outputs a.cases k)) (λ _. settled (Ok k)))) (choice_concerns cells u a.cases cases)
    (λ k. concerns_then cells (inputs_of a.inputs) (λ _. then_do (outputs_of (case_outputs a.cases k)) (λ _. settled (Ok k)))
    (turns_concern cells function_of function_mentions (function_concerns cells) a.inputs inputs)
    (λ _. concerns_then cells (outputs_of (case_outputs a.cases k)) (λ _. settled (Ok k)) (outputs_concern cells a.cases k cases) (λ _. concerns_settled cells (Ok k))))
