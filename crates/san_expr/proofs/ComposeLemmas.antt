-- Calls over a view, one after another.
use Rattle.san_base.proofs.Bools.{or_none, or_assoc, or_second}
use Rattle.std.proofs.Common.{ℕ, ◌≡◌, ◌∙◌, ◌<◌, ap, sym, refl, subst, arith, List, Option, Some, None, Bool, true, false, not, nat_eq, cond, ◌||◌, ◌&&◌, ◌⊎◌, inl, inr, Result, Ok, Err, pos}
use Rattle.std.specs.Prelude.{slice_index}
use Rattle.std.proofs.lemmas.Bool.Decides.{eqb_tells}
use Rattle.san_base.specs.declared.ending.Trap.{Trap}
use Rattle.san_expr.specs.View.{Known, ViewState, Agrees, IsAt, IsSeen, ReadsCell, Answers, assigned, or_else, with, is_known}
use Rattle.san_expr.specs.Meaning.{Evaluation, Meaning, settled, value_at, put_at, joined, go_on, then_do}
use Rattle.san_expr.specs.Meets.{Meets, Evaluates, marking_of}
use Rattle.san_expr.proofs.ViewLemmas.{agrees_before, slice_index-over, over-with, with_here, with_there}

pub looks_both : (f o a s b : Bool) → ((f || (not o && a)) || (not (o || s) && b)) ≡ (f || (not o && (a || (not s && b))))
looks_both true o a s b = refl
looks_both false true a s b = refl
looks_both false false true s b = refl
looks_both false false false s b = refl

or_false : (a : Bool) → a ≡ (a || false)
or_false true = refl
or_false false = refl

or_and_false : (a b : Bool) → a ≡ (a || (b && false))
or_and_false true b = refl
or_and_false false true = refl
or_and_false false false = refl

seen_first : (behind behind1 : List ℕ) (old mid new : Option ℕ) (p v : ℕ) → behind1 ≡ behind → old ≡ None → new ≡ Some v
    → ((w : ℕ) → old ≡ None → mid ≡ Some w → IsSeen behind p w) → ((w : ℕ) → mid ≡ None → new ≡ Some w → IsSeen behind1 p w)
    → ((w : ℕ) → mid ≡ Some w → new ≡ Some w) → IsSeen behind p v
seen_first behind behind1 old None new p v same none is first second grows = subst (λ (b : List ℕ). IsSeen b p v) same (second v refl is)
seen_first behind behind1 old (Some w) new p v same none is first second grows =
    let e : Some w ≡ Some v = sym (grows w refl) ∙ is in
    let e' : w ≡ v = cc in
    subst (λ (x : ℕ). IsSeen behind p x) e' (first w none refl)

module _ {T U : Type 0} where
  -- what two calls mean where the first gives an answer
  then_is : (a : Meaning T) (next : T → Meaning U) (was mid : List ℕ) (x : T) → (a was).answer ≡ Ok x → mid ≡ (a was).left
      → then_do a next was ≡ joined (a was) (next x mid)
  then_is a next was mid x is left =
      ap (λ (r : Result T Trap). go_on r (a was) next) is ∙ ap (λ (l : List ℕ). joined (a was) (next x l)) (sym left)

  stop_is : (a : Meaning T) (next : T → Meaning U) (was : List ℕ) (t : Trap) → (a was).answer ≡ Err t
      → then_do a next was ≡ go_on (Err t) (a was) next
  stop_is a next was t is = ap (λ (r : Result T Trap). go_on r (a was) next) is

  -- a call that gives an answer, then the call that it goes on with
  pub meets_then : (s0 s1 s2 : ViewState) (a : Meaning T) (next : T → Meaning U) (x : T) (r : Result U Trap)
      → Meets s0 s1 a (Ok x) → Meets s1 s2 (next x) r → Meets s0 s2 (then_do a next) r
  meets_then s0 s1 s2 a next x r p q =
      let before : (m : List ℕ) → Agrees s2 m → Agrees s1 m = λ m h. agrees_before s1 s2 m q.places q.grows h in
      let is : (m : List ℕ) → Agrees s2 m → then_do a next (marking_of s0 m) ≡ joined (a (marking_of s0 m)) (next x (marking_of s1 m)) =
      λ m h. then_is a next (marking_of s0 m) (marking_of s1 m) x (p.answer m (before m h)) (p.left m (before m h)) in
      record {
        answer = λ m h. ap (λ (o : Evaluation U). o.answer) (is m h) ∙ q.answer m h;
        left = λ m h. q.left m h ∙ sym (ap (λ (o : Evaluation U). o.left) (is m h));
        looks = λ m h n.
            let A = a (marking_of s0 m) in
            let B = next x (marking_of s1 m) in
            q.looks m h n
            ∙ ap (λ (b : Bool). b || (not (is_known (s1.own n)) && B.looks n)) (p.looks m (before m h) n)
            ∙ ap (λ (b : Bool). (is_known (s0.first n) || (not (is_known (s0.own n)) && A.looks n)) || (not b && B.looks n)) (p.sets m (before m h) n)
            ∙ looks_both (is_known (s0.first n)) (is_known (s0.own n)) (A.looks n) (A.sets n) (B.looks n)
            ∙ sym (ap (λ (o : Evaluation U). is_known (s0.first n) || (not (is_known (s0.own n)) && o.looks n)) (is m h));
        sets = λ m h n.
            let A = a (marking_of s0 m) in
            let B = next x (marking_of s1 m) in
            q.sets m h n
            ∙ ap (λ (b : Bool). b || B.sets n) (p.sets m (before m h) n)
            ∙ or_assoc (is_known (s0.own n)) (A.sets n) (B.sets n)
            ∙ sym (ap (λ (o : Evaluation U). is_known (s0.own n) || o.sets n) (is m h));
        unset = λ m h n e.
            let A = a (marking_of s0 m) in
            let B = next x (marking_of s1 m) in
            let none = or_none (A.sets n) (B.sets n) (sym (ap (λ (o : Evaluation U). o.sets n) (is m h)) ∙ e) in
            q.unset m h n none.1 ∙ p.unset m (before m h) n none.0;
        grows = λ n v h. q.grows n v (p.grows n v h);
        seen = λ n v none is_v.
            seen_first s0.behind s1.behind (s0.first n) (s1.first n) (s2.first n) n v p.behind none is_v (p.seen n) (q.seen n) (q.grows n);
        places = q.places ∙ p.places;
        behind = q.behind ∙ p.behind;
        kept = q.kept ∙ p.kept;
      }

  -- a call that traps: nothing comes after it
  pub meets_stop : (s0 s1 : ViewState) (a : Meaning T) (next : T → Meaning U) (t : Trap)
      → Meets s0 s1 a (Err t) → Meets s0 s1 (then_do a next) (Err t)
  meets_stop s0 s1 a next t p =
      let is : (m : List ℕ) → Agrees s1 m → then_do a next (marking_of s0 m) ≡ go_on (Err t) (a (marking_of s0 m)) next =
      λ m h. stop_is a next (marking_of s0 m) t (p.answer m h) in
      record {
        answer = λ m h. ap (λ (o : Evaluation U). o.answer) (is m h);
        left = λ m h. p.left m h ∙ sym (ap (λ (o : Evaluation U). o.left) (is m h));
        looks = λ m h n. p.looks m h n ∙ sym (ap (λ (o : Evaluation U). is_known (s0.first n) || (not (is_known (s0.own n)) && o.looks n)) (is m h));
        sets = λ m h n. p.sets m h n ∙ sym (ap (λ (o : Evaluation U). is_known (s0.own n) || o.sets n) (is m h));
        unset = λ m h n e. p.unset m h n (sym (ap (λ (o : Evaluation U). o.sets n) (is m h)) ∙ e);
        grows = p.grows;
        seen = p.seen;
        places = p.places;
        behind = p.behind;
        kept = p.kept;
      }

  pub evaluates_then : (s0 s1 s2 : ViewState) (a : Meaning T) (next : T → Meaning U) (x : T) (r : Result U Trap)
      → Evaluates s0 s1 a (Ok x) → Evaluates s1 s2 (next x) r → Evaluates s0 s2 (then_do a next) r
  evaluates_then s0 s1 s2 a next x r p q = record { meets = meets_then s0 s1 s2 a next x r p.meets q.meets; own = q.own ∙ p.own }

  pub evaluates_stop : (s0 s1 : ViewState) (a : Meaning T) (next : T → Meaning U) (t : Trap)
      → Evaluates s0 s1 a (Err t) → Evaluates s0 s1 (then_do a next) (Err t)
  evaluates_stop s0 s1 a next t p = record { meets = meets_stop s0 s1 a next t p.meets; own = p.own }

-- no call at all
pub evaluates_settled : {T : Type 0} (s : ViewState) (r : Result T Trap) → Evaluates s s (settled r) r
evaluates_settled s r = record {
  meets = record {
    answer = λ m h. refl;
    left = λ m h. refl;
    looks = λ m h p. or_and_false (is_known (s.first p)) (not (is_known (s.own p)));
    sets = λ m h p. or_false (is_known (s.own p));
    unset = λ m h p e. refl;
    grows = λ p v h. h;
    seen = λ p v none is. cc;
    places = refl;
    behind = refl;
    kept = refl;
  };
  own = refl;
}

-- a cell that is the view's own, or was read before: nothing becomes known
known_looks : (own first : Known) (p q : ℕ) → (is_known (first p) || is_known (own p)) ≡ true
    → is_known (first q) ≡ (is_known (first q) || (not (is_known (own q)) && nat_eq q p))
known_looks own first p q known = by_test (eqb_tells q p)
  where
    here : (a b : Bool) → (a || b) ≡ true → a ≡ (a || (not b && true))
    here true b e = refl
    here false true e = refl
    here false false e = cc

    by_test : ((nat_eq q p ≡ true) × (q ≡ p)) ⊎ ((nat_eq q p ≡ false) × (q ≡ p → ⊥)) → is_known (first q) ≡ (is_known (first q) || (not (is_known (own q)) && nat_eq q p))
    by_test (inl t) =
        here (is_known (first q)) (is_known (own q)) (ap (λ (n : ℕ). is_known (first n) || is_known (own n)) t.1 ∙ known)
        ∙ ap (λ (b : Bool). is_known (first q) || (not (is_known (own q)) && b)) (sym t.0)
    by_test (inr t) =
        or_and_false (is_known (first q)) (not (is_known (own q)))
        ∙ ap (λ (b : Bool). is_known (first q) || (not (is_known (own q)) && b)) (sym t.0)

-- a cell that is read for the first time is the one that becomes known
new_looks : (own first : Known) (p v q : ℕ) → own p ≡ None
    → is_known (with first p v q) ≡ (is_known (first q) || (not (is_known (own q)) && nat_eq q p))
new_looks own first p v q none = by_test (eqb_tells q p)
  where
    open_or : (a : Bool) → true ≡ (a || true)
    open_or true = refl
    open_or false = refl

    by_test : ((nat_eq q p ≡ true) × (q ≡ p)) ⊎ ((nat_eq q p ≡ false) × (q ≡ p → ⊥)) → is_known (with first p v q) ≡ (is_known (first q) || (not (is_known (own q)) && nat_eq q p))
    by_test (inl t) =
        ap (λ (b : Bool). is_known (cond b (Some v) (first q))) t.0
        ∙ open_or (is_known (first q))
        ∙ ap (λ (b : Bool). is_known (first q) || (not b && true)) (sym (ap (λ (n : ℕ). is_known (own n)) t.1 ∙ ap is_known none))
        ∙ ap (λ (b : Bool). is_known (first q) || (not (is_known (own q)) && b)) (sym t.0)
    by_test (inr t) =
        ap (λ (b : Bool). is_known (cond b (Some v) (first q))) t.0
        ∙ or_and_false (is_known (first q)) (not (is_known (own q)))
        ∙ ap (λ (b : Bool). is_known (first q) || (not (is_known (own q)) && b)) (sym t.0)

value_own : (s : ViewState) (m : List ℕ) (p w : ℕ) → p < s.places → Agrees s m → s.own p ≡ Some w → slice_index (marking_of s m) p ≡ w
value_own s m p w within a is =
    slice_index-over s.own m p (omega (arith, a.sized)) ∙ ap (λ (o : Option ℕ). or_else o (slice_index m p)) is

value_first : (s : ViewState) (m : List ℕ) (p w : ℕ) → p < s.places → Agrees s m → s.own p ≡ None → s.first p ≡ Some w → slice_index (marking_of s m) p ≡ w
value_first s m p w within a none is =
    let at : IsAt (Some w) (slice_index m p) = subst (λ (o : Option ℕ). IsAt o (slice_index m p)) is (a.has p) in
    slice_index-over s.own m p (omega (arith, a.sized)) ∙ ap (λ (o : Option ℕ). or_else o (slice_index m p)) none ∙ sym at

-- a read of a cell that is known
reads_known : (s : ViewState) (p v w : ℕ) → v ≡ w → (is_known (s.first p) || is_known (s.own p)) ≡ true
    → ((m : List ℕ) → Agrees s m → slice_index (marking_of s m) p ≡ w) → Evaluates s s (value_at p) (Ok (pos v))
reads_known s p v w e known at = record {
  meets = record {
    answer = λ m h. ap (λ (n : ℕ). Ok (pos n)) (at m h ∙ sym e);
    left = λ m h. refl;
    looks = λ m h q. known_looks s.own s.first p q known;
    sets = λ m h q. or_false (is_known (s.own q));
    unset = λ m h q n. refl;
    grows = λ q x h. h;
    seen = λ q x none is. cc;
    places = refl;
    behind = refl;
    kept = refl;
  };
  own = refl;
}

-- a read of a cell that wasn't known
reads_new : (s : ViewState) (p v : ℕ) → p < s.places → s.own p ≡ None → s.first p ≡ None → IsSeen s.behind p v
    → Evaluates s (record s { first = with s.first p v }) (value_at p) (Ok (pos v))
reads_new s p v within none unread seen =
    let new : ViewState = record s { first = with s.first p v } in
    record {
      meets = record {
        answer = λ m h. ap (λ (n : ℕ). Ok (pos n)) (value_first new m p v within h none (with_here s.first p v));
        left = λ m h. refl;
        looks = λ m h q. new_looks s.own s.first p v q none;
        sets = λ m h q. or_false (is_known (s.own q));
        unset = λ m h q n. refl;
        grows = λ q x h. kept_known q x h (eqb_tells q p);
        seen = λ q x was is. is_seen q x was is (eqb_tells q p);
        places = refl;
        behind = refl;
        kept = refl;
      };
      own = refl;
    }
  where
    kept_known : (q x : ℕ) → s.first q ≡ Some x → ((nat_eq q p ≡ true) × (q ≡ p)) ⊎ ((nat_eq q p ≡ false) × (q ≡ p → ⊥)) → with s.first p v q ≡ Some x
    kept_known q x h (inl t) = let e : s.first q ≡ None = ap s.first t.1 ∙ unread in cc
    kept_known q x h (inr t) = with_there s.first p v q t.0 ∙ h

    is_seen : (q x : ℕ) → s.first q ≡ None → with s.first p v q ≡ Some x → ((nat_eq q p ≡ true) × (q ≡ p)) ⊎ ((nat_eq q p ≡ false) × (q ≡ p → ⊥)) → IsSeen s.behind q x
    is_seen q x was is (inl t) =
        let e : with s.first p v q ≡ Some v = ap (λ (b : Bool). cond b (Some v) (s.first q)) t.0 in
        let e' : v ≡ x = cc in
        subst (λ (n : ℕ). IsSeen s.behind n x) (sym t.1) (subst (λ (n : ℕ). IsSeen s.behind p n) e' seen)
    is_seen q x was is (inr t) =
        let e : with s.first p v q ≡ s.first q = with_there s.first p v q t.0 in
        cc

left : (a b : Bool) → a ≡ true → (a || b) ≡ true
left a b e = ap (λ (x : Bool). x || b) e

-- a read is the evaluation of one cell
pub evaluates_read : (old new : ViewState) (p v : ℕ) → p < old.places → ReadsCell old new p v → Evaluates old new (value_at p) (Ok (pos v))
evaluates_read old new p v within r = by_cases (old.own p) refl (old.first p) refl r
  where
    by_cases : (o : Option ℕ) → old.own p ≡ o → (f : Option ℕ) → old.first p ≡ f → Answers o f old new p v → Evaluates old new (value_at p) (Ok (pos v))
    by_cases (Some w) is f first a =
        subst (λ (s : ViewState). Evaluates old s (value_at p) (Ok (pos v))) (sym a.1)
        (reads_known old p v w a.0 (or_second (is_known (old.first p)) (is_known (old.own p)) (ap is_known is)) (λ m h. value_own old m p w within h is))
    by_cases None is (Some w) first a =
        subst (λ (s : ViewState). Evaluates old s (value_at p) (Ok (pos v))) (sym a.1)
        (reads_known old p v w a.0 (left (is_known (old.first p)) (is_known (old.own p)) (ap is_known first)) (λ m h. value_first old m p w within h is first))
    by_cases None is None first a =
        subst (λ (s : ViewState). Evaluates old s (value_at p) (Ok (pos v))) (sym a.1) (reads_new old p v within is first a.0)

-- an assignment of one cell
pub meets_put : (old new : ViewState) (p v : ℕ) → new ≡ assigned old p v → Meets old new (put_at p v) (Ok tt)
meets_put old new p v is = subst (λ (s : ViewState). Meets old s (put_at p v) (Ok tt)) (sym is)
    (record {
      answer = λ m h. refl;
      left = λ m h. over-with old.own m p v;
      looks = λ m h q. or_and_false (is_known (old.first q)) (not (is_known (old.own q)));
      sets = λ m h q. known_now q (eqb_tells q p);
      unset = λ m h q e. with_there old.own p v q e;
      grows = λ q x h. h;
      seen = λ q x none known. cc;
      places = refl;
      behind = refl;
      kept = refl;
    })
  where
    or_true : (a : Bool) → true ≡ (a || true)
    or_true true = refl
    or_true false = refl

    known_now : (q : ℕ) → ((nat_eq q p ≡ true) × (q ≡ p)) ⊎ ((nat_eq q p ≡ false) × (q ≡ p → ⊥)) → is_known (with old.own p v q) ≡ (is_known (old.own q) || nat_eq q p)
    known_now q (inl t) =
        ap (λ (b : Bool). is_known (cond b (Some v) (old.own q))) t.0 ∙ or_true (is_known (old.own q)) ∙ ap (λ (b : Bool). is_known (old.own q) || b) (sym t.0)
    known_now q (inr t) =
        ap (λ (b : Bool). is_known (cond b (Some v) (old.own q))) t.0 ∙ or_false (is_known (old.own q)) ∙ ap (λ (b : Bool). is_known (old.own q) || b) (sym t.0)

-- an answer that is settled, and the call that it calls for
pub meets_settled_then : {T U : Type 0} (s0 s1 : ViewState) (o : Result T Trap) (next : T → Meaning U) (x : T) (r : Result U Trap)
    → o ≡ Ok x → Meets s0 s1 (next x) r → Meets s0 s1 (then_do (settled o) next) r
meets_settled_then s0 s1 o next x r is p =
    subst (λ (a : Result _ Trap). Meets s0 s1 (then_do (settled a) next) r) (sym is)
    (meets_then s0 s0 s1 (settled (Ok x)) next x r (evaluates_settled s0 (Ok x)).meets p)

pub evaluates_settled_then : {T U : Type 0} (s0 s1 : ViewState) (o : Result T Trap) (next : T → Meaning U) (x : T) (r : Result U Trap)
    → o ≡ Ok x → Evaluates s0 s1 (next x) r → Evaluates s0 s1 (then_do (settled o) next) r
evaluates_settled_then s0 s1 o next x r is p = record { meets = meets_settled_then s0 s1 o next x r is p.meets; own = p.own }
