-- Completions that are taken back where they trap.
use Rattle.std.proofs.Common.{ℕ, zero, suc, ◌<◌, ◌≡◌, ◌∙◌, ap, sym, refl, subst, arith, not, ◌||◌, ◌&&◌, List, [], ◌∷◌, length, Option, Some, None, Result, Ok, Err}
use Rattle.std.specs.Prelude.{slice_get}
use Rattle.san_base.specs.declared.ending.Trap.{Trap}
use Rattle.san_base.proofs.Bools.{or_false}
use Rattle.san_expr.specs.Meaning.{Meaning, Evaluation}
use Rattle.san_expr.specs.Meets.{Meets, marking_of}
use Rattle.san_expr.specs.View.{Agrees, ViewState, is_known}
use Rattle.san_net.specs.Completion.{completion_of}
use Rattle.san_net.specs.Instants.{Named}
use Rattle.san_leaf.specs.Blocks.{back_by, completed_by, or_back}
use Rattle.san_leaf.specs.inner.ViewStates.{Seeing, view_state_of}

module _ {T : Type 0} (s0 s1 : ViewState) (a : Meaning T) where
  back_is : (r : Result T Trap) (m : List ℕ) → (a m).answer ≡ r → or_back a m ≡ back_by m (a m) r
  back_is r m is = ap (back_by m (a m)) is

  -- a completion that doesn't trap
  pub tried : (x : T) → Meets s0 s1 a (Ok x) → Meets s0 s1 (or_back a) (Ok (Ok x))
  tried x p =
      let is : (m : List ℕ) → Agrees s1 m → or_back a (marking_of s0 m) ≡ back_by (marking_of s0 m) (a (marking_of s0 m)) (Ok x) = λ m h. back_is (Ok x) (marking_of s0 m) (p.answer m h) in
      record {
        answer = λ m h. ap (λ (o : Evaluation (Result T Trap)). o.answer) (is m h);
        left = λ m h. p.left m h ∙ sym (ap (λ (o : Evaluation (Result T Trap)). o.left) (is m h));
        looks = λ m h q. p.looks m h q ∙ sym (ap (λ (o : Evaluation (Result T Trap)). is_known (s0.first q) || (not (is_known (s0.own q)) && o.looks q)) (is m h));
        sets = λ m h q. p.sets m h q ∙ sym (ap (λ (o : Evaluation (Result T Trap)). is_known (s0.own q) || o.sets q) (is m h));
        unset = λ m h q e. p.unset m h q (sym (ap (λ (o : Evaluation (Result T Trap)). o.sets q) (is m h)) ∙ e);
        grows = p.grows;
        seen = p.seen;
        places = p.places;
        behind = p.behind;
        kept = p.kept;
      }

  abbrev back : ViewState
  back = record { places = s1.places; first = s1.first; own = s0.own; behind = s1.behind; kept = s1.kept }

  -- one that traps
  pub taken_back : (t : Trap) → Meets s0 s1 a (Err t) → Meets s0 back (or_back a) (Ok (Err t))
  taken_back t p =
      let old : (m : List ℕ) → Agrees back m → Agrees s1 m = λ m h. record { sized = h.sized; has = h.has } in
      let is : (m : List ℕ) → Agrees back m → or_back a (marking_of s0 m) ≡ back_by (marking_of s0 m) (a (marking_of s0 m)) (Err t) = λ m h. back_is (Err t) (marking_of s0 m) (p.answer m (old m h)) in
      record {
        answer = λ m h. ap (λ (o : Evaluation (Result T Trap)). o.answer) (is m h);
        left = λ m h. sym (ap (λ (o : Evaluation (Result T Trap)). o.left) (is m h));
        looks = λ m h q. p.looks m (old m h) q ∙ sym (ap (λ (o : Evaluation (Result T Trap)). is_known (s0.first q) || (not (is_known (s0.own q)) && o.looks q)) (is m h));
        sets = λ m h q. sym (or_false (is_known (s0.own q))) ∙ sym (ap (λ (o : Evaluation (Result T Trap)). is_known (s0.own q) || o.sets q) (is m h));
        unset = λ m h q e. refl;
        grows = p.grows;
        seen = p.seen;
        places = p.places;
        behind = p.behind;
        kept = p.kept;
      }

-- the same, by what the view holds afterwards
pub back_there : {T : Type 0} (a : Meaning T) (t : Trap) (r : Result T Trap) (s0 s1 : Seeing) (places : List ℕ) (own1 own2 first : List (Option ℕ)) (marking : Option (List ℕ)) (kept : List ℕ)
    → Meets (view_state_of s0) (view_state_of s1) a r → r ≡ Err t → record { places = places; own = own1; first = first; marking = marking; kept = kept } ≡ s1 → own2 ≡ s0.own
    → Meets (view_state_of s0) (view_state_of (record { places = places; own = own2; first = first; marking = marking; kept = kept })) (or_back a) (Ok (Err t))
back_there a t r s0 s1 places own1 own2 first marking kept p is there same =
    let s : Seeing = record { places = places; own = own1; first = first; marking = marking; kept = kept } in
    let q : Meets (view_state_of s0) (view_state_of s) a (Err t) = subst (λ (x : Seeing). Meets (view_state_of s0) (view_state_of x) a (Err t)) (sym there) (subst (λ x. Meets (view_state_of s0) (view_state_of s1) a x) is p) in
    subst (λ (o : List (Option ℕ)). Meets (view_state_of s0) (view_state_of (record { places = places; own = o; first = first; marking = marking; kept = kept })) (or_back a) (Ok (Err t))) (sym same) (taken_back (view_state_of s0) (view_state_of s) a t q)

pub done_there : {T : Type 0} (a : Meaning T) (x : T) (r : Result T Trap) (s0 s1 : ViewState) → Meets s0 s1 a r → r ≡ Ok x → Meets s0 s1 (or_back a) (Ok (Ok x))
done_there a x r s0 s1 p is = tried s0 s1 a x (subst (λ y. Meets s0 s1 a y) is p)

-- an activity that is there
pub act_done : (acts : List Named) (k u : ℕ) (s t : ViewState) (r : Result ℕ Trap) → k < length acts → ((a : Named) → slice_get acts k ≡ Some a → Meets s t (completion_of u a.1) r) → Meets s t (completed_by u (slice_get acts k)) r
act_done acts k u s t r there done = by_act (slice_get acts k) refl
  where
    is_there : (xs : List Named) (i : ℕ) → i < length xs → slice_get xs i ≡ None → ⊥
    is_there [] i lt is = omega (arith, lt)
    is_there (x ∷ xs) zero lt is = cc
    is_there (x ∷ xs) (suc i) lt is = is_there xs i (omega (arith, lt)) is

    by_act : (o : Option Named) → slice_get acts k ≡ o → Meets s t (completed_by u o) r
    by_act None is = absurd (is_there acts k there is)
    by_act (Some a) is = done a is
