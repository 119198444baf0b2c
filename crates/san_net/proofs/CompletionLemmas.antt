-- Arcs, and what a completion consists of.
use Rattle.san_base.proofs.Bools.{and_both}
use Rattle.std.proofs.Common.{ℕ, ℤ, zero, suc, pos, ◌<◌, ◌≡◌, ◌∙◌, sym, refl, subst, Bool, true, false, ◌&&◌, IsTrue, Result, Ok, Err, List, [], ◌∷◌}
use Rattle.san_base.specs.declared.ending.Trap.{Trap}
use Rattle.san_expr.specs.View.{ViewState, ReadsCell, assigned}
use Rattle.san_expr.specs.Effect.{assign_at, count_of}
use Rattle.san_expr.specs.Meaning.{Meaning, put_at, settled, then_do, value_at}
use Rattle.san_expr.specs.Meets.{Evaluates, Meets}
use Rattle.san_expr.proofs.ComposeLemmas.{evaluates_read, evaluates_settled, meets_put, meets_settled_then, meets_stop, meets_then}
use Rattle.san_net.specs.Below.{cases_below, outputs_below}
use Rattle.san_net.specs.Choice.{case_of}
use Rattle.san_net.specs.Completion.{case_outputs, completed_by, inputs_of, outputs_of}
use Rattle.san_net.specs.declared.activity.Input.{Input}
use Rattle.san_net.specs.declared.activity.Case.{Case}

-- a read, and the assignment of what is made of it
pub meets_arc : (s0 s1 s2 : ViewState) (p v y : ℕ) (f : ℤ → ℤ) (made : Result ℕ Trap) → p < s0.places → ReadsCell s0 s1 p v → made ≡ count_of (f (pos v)) → made ≡ Ok y
    → s2 ≡ assigned s1 p y → Meets s0 s2 (then_do (value_at p) (λ x. assign_at p (f x))) (Ok tt)
meets_arc s0 s1 s2 p v y f made within read is answer put =
    meets_then s0 s1 s2 (value_at p) (λ x. assign_at p (f x)) (pos v) (Ok tt) (evaluates_read s0 s1 p v within read).meets
    (meets_settled_then s1 s2 (count_of (f (pos v))) (put_at p) y (Ok tt) (sym is ∙ answer) (meets_put s1 s2 p y put))

pub meets_arc_trap : (s0 s1 : ViewState) (p v : ℕ) (t : Trap) (f : ℤ → ℤ) (made : Result ℕ Trap) → p < s0.places → ReadsCell s0 s1 p v → made ≡ count_of (f (pos v)) → made ≡ Err t
    → Meets s0 s1 (then_do (value_at p) (λ x. assign_at p (f x))) (Err t)
meets_arc_trap s0 s1 p v t f made within read is answer =
    meets_then s0 s1 s1 (value_at p) (λ x. assign_at p (f x)) (pos v) (Err t) (evaluates_read s0 s1 p v within read).meets
    (subst (λ (o : Result ℕ Trap). Meets s1 s1 (then_do (settled o) (put_at p)) (Err t)) (sym answer ∙ is)
    (meets_stop s1 s1 (settled (Err t)) (put_at p) t (evaluates_settled s1 (Err t)).meets))

pub outputs_are_below : (cases : List Case) (k places : ℕ) → IsTrue (cases_below cases places) → IsTrue (outputs_below (case_outputs cases k) places)
outputs_are_below [] k places h = refl
outputs_are_below (c ∷ cases) zero places h = (and_both _ _ (and_both _ _ h).0).1
outputs_are_below (c ∷ cases) (suc k) places h = outputs_are_below cases k places (and_both _ _ h).1

module _ (u : ℕ) (inputs : List Input) (cases : List Case) where
  abbrev outputs_then : ℕ → Unit {0} → Meaning ℕ
  outputs_then k x = then_do (outputs_of (case_outputs cases k)) (λ _. settled (Ok k))

  abbrev inputs_then : ℕ → Meaning ℕ
  inputs_then k = then_do (inputs_of inputs) (outputs_then k)

  choosing : (s0 s1 : ViewState) (r a : Result ℕ Trap) → r ≡ a → Evaluates s0 s1 (case_of u cases) r → Meets s0 s1 (case_of u cases) a
  choosing s0 s1 r a e p = subst (λ (x : Result ℕ Trap). Meets s0 s1 (case_of u cases) x) e p.meets

  acting : (s0 s1 : ViewState) (act : Meaning (Unit {0})) (r a : Result (Unit {0}) Trap) → r ≡ a → Meets s0 s1 act r → Meets s0 s1 act a
  acting s0 s1 act r a e p = subst (λ (x : Result (Unit {0}) Trap). Meets s0 s1 act x) e p

  pub choice_traps : (s0 s1 : ViewState) (t : Trap) (r : Result ℕ Trap) → r ≡ Err t → Evaluates s0 s1 (case_of u cases) r → Meets s0 s1 (completed_by u inputs cases) (Err t)
  choice_traps s0 s1 t r e p = meets_stop s0 s1 (case_of u cases) inputs_then t (choosing s0 s1 r (Err t) e p)

  pub inputs_trap : (s0 s1 s2 : ViewState) (k : ℕ) (t : Trap) (r : Result ℕ Trap) (done : Result (Unit {0}) Trap) → r ≡ Ok k → done ≡ Err t
      → Evaluates s0 s1 (case_of u cases) r → Meets s1 s2 (inputs_of inputs) done → Meets s0 s2 (completed_by u inputs cases) (Err t)
  inputs_trap s0 s1 s2 k t r done e traps p q =
      meets_then s0 s1 s2 (case_of u cases) inputs_then k (Err t) (choosing s0 s1 r (Ok k) e p)
      (meets_stop s1 s2 (inputs_of inputs) (outputs_then k) t (acting s1 s2 (inputs_of inputs) done (Err t) traps q))

  pub outputs_trap : (s0 s1 s2 s3 : ViewState) (k : ℕ) (t : Trap) (r : Result ℕ Trap) (done last : Result (Unit {0}) Trap) → r ≡ Ok k → done ≡ Ok tt → last ≡ Err t
      → Evaluates s0 s1 (case_of u cases) r → Meets s1 s2 (inputs_of inputs) done → Meets s2 s3 (outputs_of (case_outputs cases k)) last → Meets s0 s3 (completed_by u inputs cases) (Err t)
  outputs_trap s0 s1 s2 s3 k t r done last e goes traps p q w =
      meets_then s0 s1 s3 (case_of u cases) inputs_then k (Err t) (choosing s0 s1 r (Ok k) e p)
      (meets_then s1 s2 s3 (inputs_of inputs) (outputs_then k) tt (Err t) (acting s1 s2 (inputs_of inputs) done (Ok tt) goes q)
      (meets_stop s2 s3 (outputs_of (case_outputs cases k)) (λ _. settled (Ok k)) t (acting s2 s3 (outputs_of (case_outputs cases k)) last (Err t) traps w)))

  pub completes : (s0 s1 s2 s3 : ViewState) (k : ℕ) (r : Result ℕ Trap) (done last : Result (Unit {0}) Trap) → r ≡ Ok k → done ≡ Ok tt → last ≡ Ok tt
      → Evaluates s0 s1 (case_of u cases) r → Meets s1 s2 (inputs_of inputs) done → Meets s2 s3 (outputs_of (case_outputs cases k)) last → Meets s0 s3 (completed_by u inputs cases) (Ok k)
  completes s0 s1 s2 s3 k r done last e goes ends p q w =
      meets_then s0 s1 s3 (case_of u cases) inputs_then k (Ok k) (choosing s0 s1 r (Ok k) e p)
      (meets_then s1 s2 s3 (inputs_of inputs) (outputs_then k) tt (Ok k) (acting s1 s2 (inputs_of inputs) done (Ok tt) goes q)
      (meets_then s2 s3 s3 (outputs_of (case_outputs cases k)) (λ _. settled (Ok k)) tt (Ok k) (acting s2 s3 (outputs_of (case_outputs cases k)) last (Ok tt) ends w)
      (evaluates_settled s3 (Ok k)).meets))
