-- Without a fault an activity is as it is accepted.
use Rattle.san_base.proofs.Bools.{and_true}
use Rattle.std.proofs.Common.{◌≡◌, ℕ, ◌≤◌, true, nat_lt, ◌++◌, map, Option, Some, None, refl, sym, subst, arith}
use Rattle.std.proofs.lemmas.Bool.{ltb-false}
use Rattle.std.specs.Prelude.{unwrap_or}
use Rattle.san_text.specs.declared.syntax.Ast.{Ast}
use Rattle.san_text.specs.declared.syntax.ActDecl.{ActDecl}
use Rattle.san_text.specs.declared.syntax.Timing.{Timing}
use Rattle.san_expr.specs.Below.{places_below, dist_below}
use Rattle.san_net.specs.Below.{inputs_below, kind_below}
use Rattle.san_net.specs.Lengths.{has_lengths, all_true, dist_has_lengths, kind_has_lengths, input_has_lengths}
use Rattle.san_net.specs.Accepted.{IsAcceptedKind, IsAcceptedActivity}
use Rattle.san_check.specs.walk.Entries.{joined}
use Rattle.san_check.specs.walk.Expression.{Places, expr_entries}
use Rattle.san_check.specs.walk.Activity.{input_entries, cases_entries, dist_entries, pair_entries, timing_entries, priority_entries, front_entries, act_entries}
use Rattle.san_check.specs.build.Cells.{CellTable}
use Rattle.san_check.specs.build.Composition.{capped}
use Rattle.san_check.specs.build.Expression.{expr_of, dist_of}
use Rattle.san_check.specs.build.Activity.{input_of, pair_of, kind_of, activity_of}
use Rattle.san_check.specs.Formed.{IsFormedTiming, IsFormedAct}
use Rattle.san_check.proofs.FreeLemmas.{Free, free_left, free_right, code_free}
use Rattle.san_check.proofs.FitLemmas.{Placed, expr_good}
use Rattle.san_check.proofs.ActLemmas.{GoodPart, inputs_good, cases_good, some_cases}
use Rattle.san_check.proofs.DelayLemmas.{dist_good}

timed_good : (places : Places) (cells : CellTable) (k : ℕ) → Placed places cells k → (t : Timing) (priority : Option ℕ) (pair : Option (Ast × Ast)) → t.pair ≡ pair → IsFormedTiming (Some t) → Free (dist_entries places t.delay) → Free (pair_entries places pair)
    → GoodPart (kind_below (kind_of cells (Some t) priority) k) (kind_has_lengths (kind_of cells (Some t) priority)) (IsAcceptedKind (kind_of cells (Some t) priority))
unfolding kind_of pair_of pair_entries
timed_good places cells k at t priority None is formed f g =
    let d = dist_good places cells k at t.delay formed f in
    subst (λ (p : Option (Ast × Ast)). GoodPart (kind_below (kind_of cells (Some (record { delay = t.delay; pair = p })) priority) k) (kind_has_lengths (kind_of cells (Some (record { delay = t.delay; pair = p })) priority)) (IsAcceptedKind (kind_of cells (Some (record { delay = t.delay; pair = p })) priority))) (sym is)
    (record { below = d.below; lengths = and_true (dist_has_lengths (dist_of cells t.delay)) true d.lengths refl; accepted = d.accepted })
timed_good places cells k at t priority (Some p) is formed f g =
    let d = dist_good places cells k at t.delay formed f in
    let a = expr_good places cells k at p.0 (free_left (expr_entries places p.0) (expr_entries places p.1) g) in
    let b = expr_good places cells k at p.1 (free_right (expr_entries places p.0) (expr_entries places p.1) g) in
    subst (λ (p : Option (Ast × Ast)). GoodPart (kind_below (kind_of cells (Some (record { delay = t.delay; pair = p })) priority) k) (kind_has_lengths (kind_of cells (Some (record { delay = t.delay; pair = p })) priority)) (IsAcceptedKind (kind_of cells (Some (record { delay = t.delay; pair = p })) priority))) (sym is)
    (record {
      below = and_true (dist_below (dist_of cells t.delay) k) _ d.below (and_true (places_below (expr_of cells p.0) k) _ a.0 b.0);
      lengths = and_true (dist_has_lengths (dist_of cells t.delay)) _ d.lengths (and_true (has_lengths (expr_of cells p.0)) _ a.1 b.1);
      accepted = d.accepted;
    })

priority_small : (priority : Option ℕ) → Free (priority_entries priority) → capped (unwrap_or priority 0) ≤ 1000
unfolding priority_entries
priority_small None f = omega arith
priority_small (Some p) f = let h = ltb-false 1000 p (code_free 49 (nat_lt 1000 p) f.0) in omega (arith, h)

kind_good : (places : Places) (cells : CellTable) (k : ℕ) → Placed places cells k → (timing : Option Timing) (priority : Option ℕ) → IsFormedTiming timing → Free (front_entries timing priority) → Free (timing_entries places timing)
    → GoodPart (kind_below (kind_of cells timing priority) k) (kind_has_lengths (kind_of cells timing priority)) (IsAcceptedKind (kind_of cells timing priority))
unfolding kind_of timing_entries
kind_good places cells k at None priority formed f g = record { below = refl; lengths = refl; accepted = priority_small priority f }
kind_good places cells k at (Some t) priority formed f g =
    timed_good places cells k at t priority t.pair refl formed (free_left (dist_entries places t.delay) (pair_entries places t.pair) g) (free_right (dist_entries places t.delay) (pair_entries places t.pair) g)

pub activity_good : (places : Places) (cells : CellTable) (k : ℕ) → Placed places cells k → (a : ActDecl) → IsFormedAct a → Free (act_entries places a) → IsAcceptedActivity k (activity_of cells a)
unfolding act_entries
activity_good places cells k at a formed f =
    let front = front_entries a.timing a.priority in
    let ins = joined (map (input_entries places) a.inputs) in
    let timing = timing_entries places a.timing in
    let outs = cases_entries places a.cases in
    let f1 = free_right front (ins ++ (timing ++ outs)) f in
    let f2 = free_right ins (timing ++ outs) f1 in
    let kind = kind_good places cells k at a.timing a.priority formed.timing (free_left front (ins ++ (timing ++ outs)) f) (free_left timing outs f2) in
    let inputs = inputs_good places cells k at a.inputs (free_left ins (timing ++ outs) f1) in
    let cases = cases_good places cells k at a.cases (free_right timing outs f2) in
    let some = some_cases cells a.cases formed.cases in
    record {
      places = and_true (kind_below (kind_of cells a.timing a.priority) k) _ kind.below (and_true (inputs_below (map (input_of cells) a.inputs) k) _ inputs.below cases.below);
      lengths = and_true (kind_has_lengths (kind_of cells a.timing a.priority)) _ kind.lengths (and_true (all_true (map input_has_lengths (map (input_of cells) a.inputs))) _ inputs.lengths cases.lengths);
      kind = kind.accepted;
      inputs = inputs.accepted;
      outputs = cases.accepted;
      some = some.0;
      numbered = some.1;
    }
