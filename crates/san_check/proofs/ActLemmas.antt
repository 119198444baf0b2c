-- Without a fault the activities of an atomic are as they are accepted.
use Rattle.san_base.proofs.Bools.{and_true}
use Rattle.std.proofs.Common.{◌≡◌, ℕ, pos, ◌≤◌, Bool, true, ◌&&◌, nat_lt, List, [], ◌∷◌, length, map, Option, Some, None, IsTrue, All, refl, arith}
use Rattle.std.proofs.lemmas.Bool.{ltb-false, lt-ltb}
use Rattle.std.proofs.lemmas.List.{length-map}
use Rattle.std.proofs.lemmas.List.Elements.{All-cons, All-nil}
use Rattle.san_text.specs.declared.syntax.InputDecl.{InputDecl}
use Rattle.san_text.specs.declared.syntax.InputDecl.TheVariants as in_decl
use Rattle.san_text.specs.declared.syntax.OutputDecl.{OutputDecl}
use Rattle.san_text.specs.declared.syntax.OutputDecl.TheVariants as out_decl
use Rattle.san_text.specs.declared.syntax.Cases.{Cases}
use Rattle.san_text.specs.declared.syntax.Cases.TheVariants as cases
use Rattle.san_text.specs.declared.syntax.CaseDecl.{CaseDecl}
use Rattle.san_expr.specs.Below.{places_below}
use Rattle.san_net.specs.Below.{input_below, output_below, inputs_below, outputs_below, case_below, cases_below}
use Rattle.san_net.specs.Lengths.{has_lengths, all_true, input_has_lengths, output_has_lengths, case_has_lengths}
use Rattle.san_net.specs.Accepted.{IsWeight, IsAcceptedInput, IsAcceptedOutput}
use Rattle.san_check.specs.walk.Entries.{code, joined}
use Rattle.san_check.specs.walk.Expression.{Places, expr_entries, stmts_entries}
use Rattle.san_check.specs.walk.Activity.{is_outside, weight_entries, arc_entries, input_entries, output_entries, outputs_entries, case_entries, cases_entries}
use Rattle.san_check.specs.build.Cells.{CellTable, cells_at}
use Rattle.san_check.specs.build.Expression.{expr_of}
use Rattle.san_check.specs.build.Activity.{weight_of, input_of, output_of, outputs_of, case_of, only_case, cases_of}
use Rattle.san_check.specs.Formed.{IsFormedCases}
use Rattle.san_check.proofs.FreeLemmas.{Free, free_left, free_right, code_free}
use Rattle.san_check.proofs.ListedLemmas.{or_left, or_right}
use Rattle.san_check.proofs.FitLemmas.{Placed, good_number, whole_known, first_below, expr_good}
use Rattle.san_check.proofs.BodyLemmas.{body_good}

pub within : (c n least most : ℕ) → code c (is_outside n least most) ≡ None → (least ≤ n) × (n ≤ most)
within c n least most h =
    let out = code_free c (is_outside n least most) h in
    (ltb-false n least (or_left (nat_lt n least) (nat_lt most n) out), ltb-false most n (or_right (nat_lt n least) (nat_lt most n) out))

weight_good : (w : Option ℕ) → Free (weight_entries w) → IsWeight (weight_of w)
unfolding weight_entries
weight_good None f = (omega arith, omega arith)
weight_good (Some w) f = let h = within 32 w 1 2147483647 f.0 in (omega (arith, h.0, h.1), omega (arith, h.0, h.1))

-- a part of an activity: its cells are below a number, and its arrays have one
pub record GoodPart (is_below has : Bool) (Accepted : Type 0) : Type 0 where
  pub below : IsTrue is_below
  pub lengths : IsTrue has
  pub accepted : Accepted

pub input_good : (places : Places) (cells : CellTable) (k : ℕ) → Placed places cells k → (d : InputDecl) → Free (input_entries places d) → GoodPart (input_below (input_of cells d) k) (input_has_lengths (input_of cells d)) (IsAcceptedInput (input_of cells d))
unfolding input_entries arc_entries input_of
input_good places cells k at (in_decl.Arc s w) f = record { below = lt-ltb (cells_at cells s).first k (first_below at s (whole_known places s f.0)); lengths = refl; accepted = weight_good w f.1 }
input_good places cells k at (in_decl.Gate e b) f =
    let g = expr_good places cells k at e (free_left (expr_entries places e) (stmts_entries places b) f) in
    let h = body_good places cells k at b (free_right (expr_entries places e) (stmts_entries places b) f) in
    record { below = and_true (places_below (expr_of cells e) k) _ g.0 h.0; lengths = and_true (has_lengths (expr_of cells e)) _ g.1 h.1; accepted = tt }

output_good : (places : Places) (cells : CellTable) (k : ℕ) → Placed places cells k → (d : OutputDecl) → Free (output_entries places d) → GoodPart (output_below (output_of cells d) k) (output_has_lengths (output_of cells d)) (IsAcceptedOutput (output_of cells d))
unfolding output_entries arc_entries output_of
output_good places cells k at (out_decl.Arc s w) f = record { below = lt-ltb (cells_at cells s).first k (first_below at s (whole_known places s f.0)); lengths = refl; accepted = weight_good w f.1 }
output_good places cells k at (out_decl.Body b) f = let h = body_good places cells k at b f in record { below = h.0; lengths = h.1; accepted = tt }

pub inputs_good : (places : Places) (cells : CellTable) (k : ℕ) → Placed places cells k → (ds : List InputDecl) → Free (joined (map (input_entries places) ds))
    → GoodPart (inputs_below (map (input_of cells) ds) k) (all_true (map input_has_lengths (map (input_of cells) ds))) (All IsAcceptedInput (map (input_of cells) ds))
inputs_good places cells k at [] f = record { below = refl; lengths = refl; accepted = All-nil IsAcceptedInput }
inputs_good places cells k at (d ∷ ds) f =
    let one = input_good places cells k at d (free_left (input_entries places d) (joined (map (input_entries places) ds)) f) in
    let more = inputs_good places cells k at ds (free_right (input_entries places d) (joined (map (input_entries places) ds)) f) in
    record { below = and_true (input_below (input_of cells d) k) _ one.below more.below; lengths = and_true (input_has_lengths (input_of cells d)) _ one.lengths more.lengths; accepted = All-cons IsAcceptedInput (input_of cells d) (map (input_of cells) ds) one.accepted more.accepted }

outputs_good : (places : Places) (cells : CellTable) (k : ℕ) → Placed places cells k → (ds : List OutputDecl) → Free (outputs_entries places ds)
    → GoodPart (outputs_below (outputs_of cells ds) k) (all_true (map output_has_lengths (outputs_of cells ds))) (All IsAcceptedOutput (outputs_of cells ds))
outputs_good places cells k at [] f = record { below = refl; lengths = refl; accepted = All-nil IsAcceptedOutput }
outputs_good places cells k at (d ∷ ds) f =
    let one = output_good places cells k at d (free_left (output_entries places d) (outputs_entries places ds) f) in
    let more = outputs_good places cells k at ds (free_right (output_entries places d) (outputs_entries places ds) f) in
    record { below = and_true (output_below (output_of cells d) k) _ one.below more.below; lengths = and_true (output_has_lengths (output_of cells d)) _ one.lengths more.lengths; accepted = All-cons IsAcceptedOutput (output_of cells d) (outputs_of cells ds) one.accepted more.accepted }

case_good : (places : Places) (cells : CellTable) (k : ℕ) → Placed places cells k → (c : CaseDecl) → Free (case_entries places c) → GoodPart (case_below (case_of cells c) k) (case_has_lengths (case_of cells c)) (All IsAcceptedOutput (case_of cells c).outputs)
unfolding case_entries
case_good places cells k at c f =
    let w = expr_good places cells k at c.weight (free_left (expr_entries places c.weight) (outputs_entries places c.outputs) f) in
    let o = outputs_good places cells k at c.outputs (free_right (expr_entries places c.weight) (outputs_entries places c.outputs) f) in
    record { below = and_true (places_below (expr_of cells c.weight) k) _ w.0 o.below; lengths = and_true (has_lengths (expr_of cells c.weight)) _ w.1 o.lengths; accepted = o.accepted }

weighted_good : (places : Places) (cells : CellTable) (k : ℕ) → Placed places cells k → (cs : List CaseDecl) → Free (joined (map (case_entries places) cs))
    → GoodPart (cases_below (map (case_of cells) cs) k) (all_true (map case_has_lengths (map (case_of cells) cs))) (All (λ c. All IsAcceptedOutput c.outputs) (map (case_of cells) cs))
weighted_good places cells k at [] f = record { below = refl; lengths = refl; accepted = All-nil (λ c. All IsAcceptedOutput c.outputs) }
weighted_good places cells k at (c ∷ cs) f =
    let one = case_good places cells k at c (free_left (case_entries places c) (joined (map (case_entries places) cs)) f) in
    let more = weighted_good places cells k at cs (free_right (case_entries places c) (joined (map (case_entries places) cs)) f) in
    record { below = and_true (case_below (case_of cells c) k) _ one.below more.below; lengths = and_true (case_has_lengths (case_of cells c)) _ one.lengths more.lengths; accepted = All-cons (λ c. All IsAcceptedOutput c.outputs) (case_of cells c) (map (case_of cells) cs) one.accepted more.accepted }

with_true : (a : Bool) → a ≡ true → (a && true) ≡ true
with_true a h = and_true a true h refl

pub cases_good : (places : Places) (cells : CellTable) (k : ℕ) → Placed places cells k → (c : Cases) → Free (cases_entries places c)
    → GoodPart (cases_below (cases_of cells c) k) (all_true (map case_has_lengths (cases_of cells c))) (All (λ c. All IsAcceptedOutput c.outputs) (cases_of cells c))
unfolding cases_entries cases_of
cases_good places cells k at (cases.Plain outputs) f =
    let o = outputs_good places cells k at outputs f in
    let one = good_number k (pos 1) in
    record {
      below = with_true (case_below (only_case cells outputs) k) (and_true (places_below (only_case cells outputs).weight k) _ one.0 o.below);
      lengths = with_true (case_has_lengths (only_case cells outputs)) (and_true (has_lengths (only_case cells outputs).weight) _ one.1 o.lengths);
      accepted = All-cons (λ c. All IsAcceptedOutput c.outputs) (only_case cells outputs) [] o.accepted (All-nil (λ c. All IsAcceptedOutput c.outputs));
    }
cases_good places cells k at (cases.Weighted cs) f = weighted_good places cells k at cs f

pub some_cases : (cells : CellTable) (c : Cases) → IsFormedCases c → (1 ≤ length (cases_of cells c)) × (length (cases_of cells c) ≤ 4294967295)
unfolding cases_of
some_cases cells (cases.Plain outputs) h = (omega arith, omega arith)
some_cases cells (cases.Weighted cs) h = let same = length-map cs (case_of cells) in (omega (arith, same, h.0), omega (arith, same, h.1))
