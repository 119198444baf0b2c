-- Predicates, one after another.
use Rattle.san_base.proofs.Bools.{and_both}
use Rattle.std.proofs.Common.{ℕ, suc, ◌+◌, ◌<◌, ◌≤◌, ◌≡◌, ◌∙◌, ap, sym, refl, subst, Bool, true, false, not, ◌&&◌, IsTrue, Result, Ok, Err, List, [], ◌∷◌, length, get_or, drop, drop-cons, add-one, pos, nat_le, nat_lt, ◌⊎◌, inl, inr}
use Rattle.std.proofs.lemmas.Bool.{le-ltb, lt-ltb}
use Rattle.std.proofs.lemmas.Bool.Decides.{leb_tells}
use Rattle.std.specs.Prelude.{int_lt}
use Rattle.san_base.specs.declared.ending.Trap.{Trap}
use Rattle.san_expr.specs.View.{ViewState, ReadsCell}
use Rattle.san_expr.specs.Meaning.{settled, value_at}
use Rattle.san_expr.specs.Meets.{Evaluates}
use Rattle.san_expr.proofs.ComposeLemmas.{evaluates_read, evaluates_settled, evaluates_stop, evaluates_then}
use Rattle.san_net.specs.Below.{input_below, inputs_below}
use Rattle.san_net.specs.Enabled.{all_hold, and_then, has_tokens, predicate_of}
use Rattle.san_net.specs.declared.activity.Input.{Input}

-- what the rest of the predicates gives from here on, all of them give from the start
abbrev pub Stands : ViewState → ViewState → List Input → List Input → Type 0
Stands was now inputs rest = (new : ViewState) (r : Result Bool Trap) → Evaluates now new (all_hold rest) r → Evaluates was new (all_hold inputs) r

pub stands_more : (was now next : ViewState) (inputs rest : List Input) (i : Input) (read : Result Bool Trap) → Stands was now inputs (i ∷ rest)
    → read ≡ Ok true → Evaluates now next (predicate_of i) read → Stands was next inputs rest
stands_more was now next inputs rest i read stands is p = λ new r q.
    stands new r (evaluates_then now next new (predicate_of i) (and_then (all_hold rest)) true r (subst (λ (a : Result Bool Trap). Evaluates now next (predicate_of i) a) is p) q)

pub stands_no : (was now new : ViewState) (inputs rest : List Input) (i : Input) (read : Result Bool Trap) → Stands was now inputs (i ∷ rest)
    → read ≡ Ok false → Evaluates now new (predicate_of i) read → Evaluates was new (all_hold inputs) (Ok false)
stands_no was now new inputs rest i read stands is p =
    stands new (Ok false) (evaluates_then now new new (predicate_of i) (and_then (all_hold rest)) false (Ok false)
    (subst (λ (a : Result Bool Trap). Evaluates now new (predicate_of i) a) is p) (evaluates_settled new (Ok false)))

pub stands_trap : (was now new : ViewState) (inputs rest : List Input) (i : Input) (t : Trap) (read : Result Bool Trap) → Stands was now inputs (i ∷ rest)
    → read ≡ Err t → Evaluates now new (predicate_of i) read → Evaluates was new (all_hold inputs) (Err t)
stands_trap was now new inputs rest i t read stands is p =
    stands new (Err t) (evaluates_stop now new (predicate_of i) (and_then (all_hold rest)) t (subst (λ (a : Result Bool Trap). Evaluates now new (predicate_of i) a) is p))

pub stands_end : (was now : ViewState) (inputs rest : List Input) → Stands was now inputs rest → rest ≡ [] → Evaluates was now (all_hold inputs) (Ok true)
stands_end was now inputs rest stands none =
    stands now (Ok true) (subst (λ (xs : List Input). Evaluates now now (all_hold xs) (Ok true)) (sym none) (evaluates_settled now (Ok true)))

pub rest_at : (xs : List Input) (i : ℕ) (x : Input) → i < length xs → x ≡ get_or xs i x → drop i xs ≡ x ∷ drop (i + 1) xs
rest_at xs i x h is = drop-cons xs i x h ∙ (ap (λ (y : Input). y ∷ drop (suc i) xs) (sym is) ∙ ap (λ n. x ∷ drop n xs) (sym (add-one i)))

-- the first of the rest, and what follows it
pub first_below : (xs : List Input) (i k places : ℕ) (x : Input) → i < length xs → x ≡ get_or xs i x → k ≡ places → IsTrue (inputs_below (drop i xs) places)
    → IsTrue (input_below x k) × IsTrue (inputs_below (drop (i + 1) xs) places)
first_below xs i k places x h is same below =
    let at = rest_at xs i x h is in
    let b = and_both (input_below x places) (inputs_below (drop (i + 1) xs) places) (subst (λ (ys : List Input). IsTrue (inputs_below ys places)) at below) in
    (subst (λ (n : ℕ). IsTrue (input_below x n)) (sym same) b.0, b.1)

at_least : (v w : ℕ) → nat_le w v ≡ not (nat_lt v w)
at_least v w = by_test (leb_tells w v)
  where
    by_test : ((nat_le w v ≡ true) × (w ≤ v)) ⊎ ((nat_le w v ≡ false) × (v < w)) → nat_le w v ≡ not (nat_lt v w)
    by_test (inl t) = t.0 ∙ sym (ap not (le-ltb v w t.1))
    by_test (inr t) = t.0 ∙ sym (ap not (lt-ltb v w t.1))

-- a read, and the test of what it gave
pub evaluates_has : (s0 s1 : ViewState) (p w v : ℕ) → p < s0.places → ReadsCell s0 s1 p v → Evaluates s0 s1 (has_tokens p w) (Ok (nat_le w v))
evaluates_has s0 s1 p w v within read =
    subst (λ (b : Bool). Evaluates s0 s1 (has_tokens p w) (Ok b)) (sym (at_least v w))
    (evaluates_then s0 s1 s1 (value_at p) (λ x. settled (Ok (not (int_lt x (pos w))))) (pos v) (Ok (not (nat_lt v w))) (evaluates_read s0 s1 p v within read)
    (evaluates_settled s1 (Ok (not (nat_lt v w)))))
