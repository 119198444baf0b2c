-- How evaluations that are decided by what they look at go on.
use Rattle.std.proofs.Common.{ℕ, zero, suc, ◌≡◌, ◌∙◌, ap, sym, refl, subst, arith, Bool, true, false, not, ◌&&◌, ◌||◌, IsTrue, Result, Ok, Err, pos, List, [], ◌∷◌, length}
use Rattle.std.specs.Prelude.{slice_index, slice_set}
use Rattle.std.proofs.lemmas.Bool.{eq-eqb}
use Rattle.san_base.proofs.Bools.{or_none}
use Rattle.san_base.proofs.NumberTests.{same_number, number_itself}
use Rattle.san_base.specs.declared.ending.Trap.{Trap}
use Rattle.san_expr.specs.Concerns.{AreEqualOn}
use Rattle.san_expr.specs.Meaning.{Meaning, settled, value_at, put_at, go_on, then_do}
use Rattle.san_net.specs.First.{attempt}
use Rattle.san_leaf.specs.Blocks.{back_by, or_back}
use Rattle.san_decide.specs.Decided.{Decides, HaveOneAnswer}
use Rattle.san_expr.proofs.ConcernLemmas.{length-slice_set, set_other}

no_truth : {A : Type 0} → false ≡ true → A
no_truth e = cc

pub decides_settled : {T : Type 0} (r : Result T Trap) → Decides (settled r)
decides_settled r = record {
  alike = λ m n e. record { answer = refl; looks = λ p. refl; sets = λ p. refl; assigned = λ p h. no_truth h };
  unset = λ m p h. refl;
  sized = λ m. refl;
}

pub decides_value_at : (p : ℕ) → Decides (value_at p)
decides_value_at p = record {
  alike = λ m n e. record { answer = ap (λ (x : ℕ). Ok (pos x)) (e.same p (number_itself p)); looks = λ q. refl; sets = λ q. refl; assigned = λ q h. no_truth h };
  unset = λ m q h. refl;
  sized = λ m. refl;
}

set_same : (m n : List ℕ) (p v : ℕ) → length m ≡ length n → slice_index (slice_set m p v) p ≡ slice_index (slice_set n p v) p
set_same [] [] p v e = refl
set_same [] (y ∷ n) p v e = absurd (omega (arith, e))
set_same (x ∷ m) [] p v e = absurd (omega (arith, e))
set_same (x ∷ m) (y ∷ n) zero v e = refl
set_same (x ∷ m) (y ∷ n) (suc p) v e = set_same m n p v (omega (arith, e))

pub decides_put_at : (p v : ℕ) → Decides (put_at p v)
decides_put_at p v = record {
  alike = λ m n e. record {
    answer = refl;
    looks = λ q. refl;
    sets = λ q. refl;
    assigned = λ q h. subst (λ (k : ℕ). slice_index (slice_set m p v) k ≡ slice_index (slice_set n p v) k) (sym (same_number q p h)) (set_same m n p v e.sized);
  };
  unset = λ m q h. set_other m p v q (λ e. no_truth (sym h ∙ eq-eqb q p e));
  sized = λ m. length-slice_set m p v;
}

or_left : (a b : Bool) → a ≡ true → (a || b) ≡ true
or_left a b h = ap (λ (x : Bool). x || b) h

or_late : (l s k : Bool) → s ≡ false → k ≡ true → (l || (not s && k)) ≡ true
or_late true s k e h = refl
or_late false s k e h = ap (λ (x : Bool). not x && k) e ∙ h

module _ {T U : Type 0} (a : Meaning T) (next : T → Meaning U) (first : Decides a) (rest : (x : T) → Decides (next x)) where
  looked_first : (r : Result T Trap) (m n : List ℕ) → AreEqualOn (go_on r (a m) next).looks m n → AreEqualOn (a m).looks m n
  looked_first (Ok x) m n e = record { sized = e.sized; same = λ p h. e.same p (or_left ((a m).looks p) (not ((a m).sets p) && (next x (a m).left).looks p) h) }
  looked_first (Err t) m n e = e

  module _ (x : T) (m n : List ℕ) (e : AreEqualOn (go_on (Ok x) (a m) next).looks m n) where
    one : HaveOneAnswer (a m) (a n)
    one = first.alike m n (looked_first (Ok x) m n e)

    left_by : (p : ℕ) → IsTrue ((next x (a m).left).looks p) → (b : Bool) → (a m).sets p ≡ b → slice_index (a m).left p ≡ slice_index (a n).left p
    left_by p h true is = one.assigned p is
    left_by p h false is =
        first.unset m p is ∙ e.same p (or_late ((a m).looks p) ((a m).sets p) ((next x (a m).left).looks p) is h) ∙ sym (first.unset n p (sym (one.sets p) ∙ is))

    left_equal : AreEqualOn (next x (a m).left).looks (a m).left (a n).left
    left_equal = record { sized = first.sized m ∙ e.sized ∙ sym (first.sized n); same = λ p h. left_by p h ((a m).sets p) refl }

    two : HaveOneAnswer (next x (a m).left) (next x (a n).left)
    two = (rest x).alike (a m).left (a n).left left_equal

    assigned_by : (p : ℕ) → IsTrue ((a m).sets p || (next x (a m).left).sets p) → (b : Bool) → (next x (a m).left).sets p ≡ b → slice_index (next x (a m).left).left p ≡ slice_index (next x (a n).left).left p
    assigned_by p h true is = two.assigned p is
    assigned_by p h false is =
        (rest x).unset (a m).left p is ∙ one.assigned p (set_before ((a m).sets p) ((next x (a m).left).sets p) h is)
        ∙ sym ((rest x).unset (a n).left p (sym (two.sets p) ∙ is))
      where
        set_before : (s t : Bool) → IsTrue (s || t) → t ≡ false → IsTrue s
        set_before true t h e = refl
        set_before false t h e = no_truth (sym e ∙ h)

    both : HaveOneAnswer (go_on (Ok x) (a m) next) (go_on (Ok x) (a n) next)
    both = record {
      answer = two.answer;
      looks = λ p. cc (one.looks p, one.sets p, two.looks p);
      sets = λ p. cc (one.sets p, two.sets p);
      assigned = λ p h. assigned_by p h ((next x (a m).left).sets p) refl;
    }

  alike_by : (r : Result T Trap) (m n : List ℕ) → AreEqualOn (go_on r (a m) next).looks m n → HaveOneAnswer (go_on r (a m) next) (go_on r (a n) next)
  alike_by (Ok x) m n e = both x m n e
  alike_by (Err t) m n e = let p = first.alike m n e in record { answer = refl; looks = p.looks; sets = p.sets; assigned = p.assigned }

  unset_by : (r : Result T Trap) (m : List ℕ) (p : ℕ) → (go_on r (a m) next).sets p ≡ false → slice_index (go_on r (a m) next).left p ≡ slice_index m p
  unset_by (Ok x) m p h =
      let none = or_none ((a m).sets p) ((next x (a m).left).sets p) h in
      (rest x).unset (a m).left p none.1 ∙ first.unset m p none.0
  unset_by (Err t) m p h = first.unset m p h

  sized_by : (r : Result T Trap) (m : List ℕ) → length (go_on r (a m) next).left ≡ length m
  sized_by (Ok x) m = (rest x).sized (a m).left ∙ first.sized m
  sized_by (Err t) m = first.sized m

  pub decides_then : Decides (then_do a next)
  decides_then = record {
    alike = λ m n e.
        subst (λ (r : Result T Trap). HaveOneAnswer (go_on (a m).answer (a m) next) (go_on r (a n) next))
        (first.alike m n (looked_first (a m).answer m n e)).answer (alike_by (a m).answer m n e);
    unset = λ m. unset_by (a m).answer m;
    sized = λ m. sized_by (a m).answer m;
  }

-- a trap as an answer
pub decides_attempt : {T : Type 0} (a : Meaning T) → Decides a → Decides (attempt a)
decides_attempt a d = record {
  alike = λ m n e. let l = d.alike m n e in record { answer = ap Ok l.answer; looks = l.looks; sets = l.sets; assigned = l.assigned };
  unset = d.unset;
  sized = d.sized;
}

-- a trap that takes its assignments back
module _ {T : Type 0} (a : Meaning T) (d : Decides a) where
  looked_back : (r : Result T Trap) (m n : List ℕ) → AreEqualOn (back_by m (a m) r).looks m n → AreEqualOn (a m).looks m n
  looked_back (Ok x) m n e = e
  looked_back (Err t) m n e = e

  back_alike : (r : Result T Trap) (m n : List ℕ) → HaveOneAnswer (a m) (a n) → HaveOneAnswer (back_by m (a m) r) (back_by n (a n) r)
  back_alike (Ok x) m n l = record { answer = refl; looks = l.looks; sets = l.sets; assigned = l.assigned }
  back_alike (Err t) m n l = record { answer = refl; looks = l.looks; sets = λ p. refl; assigned = λ p h. no_truth h }

  back_unset : (r : Result T Trap) (m : List ℕ) (p : ℕ) → (back_by m (a m) r).sets p ≡ false → slice_index (back_by m (a m) r).left p ≡ slice_index m p
  back_unset (Ok x) m p h = d.unset m p h
  back_unset (Err t) m p h = refl

  back_sized : (r : Result T Trap) (m : List ℕ) → length (back_by m (a m) r).left ≡ length m
  back_sized (Ok x) m = d.sized m
  back_sized (Err t) m = refl

  pub decides_back : Decides (or_back a)
  decides_back = record {
    alike = λ m n e.
        let l = d.alike m n (looked_back (a m).answer m n e) in
        subst (λ (r : Result T Trap). HaveOneAnswer (back_by m (a m) (a m).answer) (back_by n (a n) r)) l.answer (back_alike (a m).answer m n l);
    unset = λ m. back_unset (a m).answer m;
    sized = λ m. back_sized (a m).answer m;
  }
