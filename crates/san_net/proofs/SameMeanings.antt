-- Meanings that give equal outcomes, cell by cell.
use Rattle.san_base.proofs.Bools.{or_assoc}
use Rattle.std.proofs.Common.{ℕ, ◌≡◌, ◌∙◌, ap, sym, refl, subst, Bool, true, false, not, ◌||◌, ◌&&◌, Result, Ok, Err, List}
use Rattle.san_base.specs.declared.ending.Trap.{Trap}
use Rattle.san_expr.proofs.ComposeLemmas.{looks_both}
use Rattle.san_expr.specs.View.{ViewState, is_known}
use Rattle.san_expr.specs.Concerns.{AssignsNothing}
use Rattle.san_expr.specs.Meaning.{Evaluation, Meaning, settled, go_on, joined, then_do}
use Rattle.san_expr.specs.Meets.{Evaluates, Meets, marking_of}

pub record AreSame {T : Type 0} (a b : Evaluation T) : Type 0 where
  pub answer : a.answer ≡ b.answer
  pub left : a.left ≡ b.left
  pub looks : (p : ℕ) → a.looks p ≡ b.looks p
  pub sets : (p : ℕ) → a.sets p ≡ b.sets p

abbrev pub Same : {T : Type 0} → Meaning T → Meaning T → Type 0
Same a b = (m : List ℕ) → AreSame (a m) (b m)

pub same_sym : {T : Type 0} (a b : Meaning T) → Same a b → Same b a
same_sym a b h m = record { answer = sym (h m).answer; left = sym (h m).left; looks = λ p. sym ((h m).looks p); sets = λ p. sym ((h m).sets p) }

pub same_trans : {T : Type 0} (a b c : Meaning T) → Same a b → Same b c → Same a c
same_trans a b c h k m = record {
  answer = (h m).answer ∙ (k m).answer;
  left = (h m).left ∙ (k m).left;
  looks = λ p. (h m).looks p ∙ (k m).looks p;
  sets = λ p. (h m).sets p ∙ (k m).sets p;
}

module _ {T U : Type 0} where
  -- the same first, then the same next
  then_by : (f g : T → Meaning U) → ((x : T) → Same (f x) (g x)) → (r : Result T Trap) (A : Evaluation T) → AreSame (go_on r A f) (go_on r A g)
  then_by f g h (Err t) A = record { answer = refl; left = refl; looks = λ p. refl; sets = λ p. refl }
  then_by f g h (Ok x) A = record {
    answer = (h x A.left).answer;
    left = (h x A.left).left;
    looks = λ p. ap (λ (b : Bool). A.looks p || (not (A.sets p) && b)) ((h x A.left).looks p);
    sets = λ p. ap (λ (b : Bool). A.sets p || b) ((h x A.left).sets p);
  }

  pub then_same : (a : Meaning T) (f g : T → Meaning U) → ((x : T) → Same (f x) (g x)) → Same (then_do a f) (then_do a g)
  then_same a f g h m = then_by f g h (a m).answer (a m)

  first_by : (f : T → Meaning U) (r : Result T Trap) (A B : Evaluation T) → A.left ≡ B.left → ((p : ℕ) → A.looks p ≡ B.looks p) → ((p : ℕ) → A.sets p ≡ B.sets p)
      → AreSame (go_on r A f) (go_on r B f)
  first_by f (Err t) A B l k s = record { answer = refl; left = l; looks = k; sets = s }
  first_by f (Ok x) A B l k s = record {
    answer = ap (λ (m : List ℕ). (f x m).answer) l;
    left = ap (λ (m : List ℕ). (f x m).left) l;
    looks = λ p.
        ap (λ (b : Bool). b || (not (A.sets p) && (f x A.left).looks p)) (k p)
        ∙ ap (λ (b : Bool). B.looks p || (not b && (f x A.left).looks p)) (s p)
        ∙ ap (λ (m : List ℕ). B.looks p || (not (B.sets p) && (f x m).looks p)) l;
    sets = λ p. ap (λ (b : Bool). b || (f x A.left).sets p) (s p) ∙ ap (λ (m : List ℕ). B.sets p || (f x m).sets p) l;
  }

  pub first_same : (a b : Meaning T) (f : T → Meaning U) → Same a b → Same (then_do a f) (then_do b f)
  first_same a b f h m =
      subst (λ (r : Result T Trap). AreSame (go_on (a m).answer (a m) f) (go_on r (b m) f)) (h m).answer
      (first_by f (a m).answer (a m) (b m) (h m).left (h m).looks (h m).sets)

  -- an answer at hand
  pub settled_same : (x : T) (f : T → Meaning U) → Same (then_do (settled (Ok x)) f) (f x)
  settled_same x f m = record { answer = refl; left = refl; looks = λ p. refl; sets = λ p. refl }

or_gone : (k s l : Bool) → (l ≡ true → k ≡ true) → (k || (not s && l)) ≡ (k || (not s && false))
or_gone true s l h = refl
or_gone false s true h = absurd (let e : false ≡ true = h refl in cc)
or_gone false s false h = refl

-- an outcome that looks at nothing new and leaves all as it is
pub record AddsNothing {T : Type 0} (known : ℕ → Bool) (o : Evaluation T) (r : Result T Trap) (m : List ℕ) : Type 0 where
  pub answer : o.answer ≡ r
  pub left : o.left ≡ m
  pub looks : (p : ℕ) → o.looks p ≡ true → known p ≡ true
  pub sets : (p : ℕ) → o.sets p ≡ false

module _ {T U : Type 0} where
  again_by : (a : Meaning T) (f : T → Meaning U) (r : T → Result U Trap) (m : List ℕ) → (a m).left ≡ m
      → ((x : T) → (a m).answer ≡ Ok x → AddsNothing (a m).looks (f x m) (r x) m) → (q : Result T Trap) → (a m).answer ≡ q
      → AreSame (go_on q (a m) f) (go_on q (a m) (λ x. settled (r x)))
  again_by a f r m l h (Err t) e = record { answer = refl; left = refl; looks = λ p. refl; sets = λ p. refl }
  again_by a f r m l h (Ok x) e =
      let n = subst (λ (k : List ℕ). AddsNothing (a m).looks (f x k) (r x) k) (sym l) (h x e) in
      record {
        answer = n.answer;
        left = n.left;
        looks = λ p. or_gone ((a m).looks p) ((a m).sets p) ((f x (a m).left).looks p) (n.looks p);
        sets = λ p. ap (λ (b : Bool). (a m).sets p || b) (n.sets p);
      }

  -- what follows may be left out where it only gives an answer
  pub again : (a : Meaning T) (f : T → Meaning U) (r : T → Result U Trap) → AssignsNothing a
      → ((m : List ℕ) (x : T) → (a m).answer ≡ Ok x → AddsNothing (a m).looks (f x m) (r x) m) → Same (then_do a f) (then_do a (λ x. settled (r x)))
  again a f r nothing h m = again_by a f r m (nothing m).0 (h m) (a m).answer refl

module _ {S T U : Type 0} where
  three_by : (g : T → Meaning U) (A : Evaluation S) (B : Evaluation T) (r : Result T Trap) → AreSame (go_on r (joined A B) g) (joined A (go_on r B g))
  three_by g A B (Err t) = record { answer = refl; left = refl; looks = λ p. refl; sets = λ p. refl }
  three_by g A B (Ok y) = record {
    answer = refl;
    left = refl;
    looks = λ p. looks_both (A.looks p) (A.sets p) (B.looks p) (B.sets p) ((g y B.left).looks p);
    sets = λ p. or_assoc (A.sets p) (B.sets p) ((g y B.left).sets p);
  }

  two_by : (f : S → Meaning T) (g : T → Meaning U) (A : Evaluation S) (r : Result S Trap)
      → AreSame (go_on (go_on r A f).answer (go_on r A f) g) (go_on r A (λ x. then_do (f x) g))
  two_by f g A (Err t) = record { answer = refl; left = refl; looks = λ p. refl; sets = λ p. refl }
  two_by f g A (Ok x) = three_by g A (f x A.left) (f x A.left).answer

  -- one after another, grouped otherwise
  pub grouped_same : (a : Meaning S) (f : S → Meaning T) (g : T → Meaning U) → Same (then_do (then_do a f) g) (then_do a (λ x. then_do (f x) g))
  grouped_same a f g m = two_by f g (a m) (a m).answer

-- a call that does what one meaning says does what the same says
pub meets_same : {T : Type 0} (s0 s1 : ViewState) (a b : Meaning T) (r : Result T Trap) → Same a b → Meets s0 s1 a r → Meets s0 s1 b r
meets_same s0 s1 a b r h p =
    let is : (m : List ℕ) → AreSame (a (marking_of s0 m)) (b (marking_of s0 m)) = λ m. h (marking_of s0 m) in
    record {
      answer = λ m g. sym (is m).answer ∙ p.answer m g;
      left = λ m g. p.left m g ∙ (is m).left;
      looks = λ m g n. p.looks m g n ∙ ap (λ (x : Bool). is_known (s0.first n) || (not (is_known (s0.own n)) && x)) ((is m).looks n);
      sets = λ m g n. p.sets m g n ∙ ap (λ (x : Bool). is_known (s0.own n) || x) ((is m).sets n);
      unset = λ m g n e. p.unset m g n ((is m).sets n ∙ e);
      grows = p.grows;
      seen = p.seen;
      places = p.places;
      behind = p.behind;
      kept = p.kept;
    }

pub evaluates_same : {T : Type 0} (s0 s1 : ViewState) (a b : Meaning T) (r : Result T Trap) → Same a b → Evaluates s0 s1 a r → Evaluates s0 s1 b r
evaluates_same s0 s1 a b r h p = record { meets = meets_same s0 s1 a b r h p.meets; own = p.own }
