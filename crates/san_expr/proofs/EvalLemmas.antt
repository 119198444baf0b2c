-- The arms of an evaluation.
use Rattle.std.proofs.Common.{ℕ, ℤ, ◌≡◌, ◌∙◌, ap, sym, subst, Bool, true, false, not, cond, Result, Ok, Err, IsTrue, nat_lt, ◌<◌}
use Rattle.std.proofs.lemmas.Bool.{ltb-true}
use denote.Hole.Carrier
use Rattle.san_base.specs.declared.op.Op.{Op}
use Rattle.san_base.specs.declared.ending.Trap.{Trap}
use Rattle.san_expr.specs.declared.expr.Expr.{Expr}
use Rattle.san_expr.specs.declared.expr.Expr.TheOpen.{Expr-F}
use Rattle.san_expr.specs.declared.expr.Expr.TheViews as view
use Rattle.san_expr.specs.declared.expr.Expr.TheVariants as variant
use Rattle.san_expr.specs.declared.expr.Expr.TheFolds.{fold-roll-Expr}
use Rattle.san_expr.specs.View.{ViewState}
use Rattle.san_expr.specs.Meaning.{Meaning, settled, value_at, then_do}
use Rattle.san_expr.specs.Value.{value_step, value_of, rest_of, is_decided, truth, is_zero, applied, cell_of}
use Rattle.san_expr.specs.Below.{Bounded, places_below, places_below_step}
use Rattle.san_expr.specs.Meets.{Evaluates}
use Rattle.san_expr.proofs.ComposeLemmas.{evaluates_then, evaluates_stop, evaluates_settled}

value_of-cell : (first length : ℕ) (index : Expr) → value_of (view.Cell first length index) ≡ then_do (value_of index) (λ x. then_do (settled (cell_of first length x)) value_at)
unfolding view.roll-Expr denote.Hole.Carrier.roll
value_of-cell first length index = fold-roll-Expr (Meaning ℤ) value_step (Expr-F.Cell first length index)

value_of-binary : (op : Op) (left right : Expr) → value_of (view.Binary op left right) ≡ then_do (value_of left) (rest_of op (value_of right))
unfolding view.roll-Expr denote.Hole.Carrier.roll
value_of-binary op left right = fold-roll-Expr (Meaning ℤ) value_step (Expr-F.Binary op left right)

evaluates_as : {T : Type 0} (s0 s1 : ViewState) (a b : Meaning T) (r : Result T Trap) → a ≡ b → Evaluates s0 s1 b r → Evaluates s0 s1 a r
evaluates_as s0 s1 a b r is p = subst (λ (m : Meaning _). Evaluates s0 s1 m r) (sym is) p

-- the evaluation of an equal expression, whose answer is known
given : (s0 s1 : ViewState) (e e' : Expr) (r r' : Result ℤ Trap) → e ≡ e' → r ≡ r' → Evaluates s0 s1 (value_of e) r → Evaluates s0 s1 (value_of e') r'
given s0 s1 e e' r r' same answer p =
    subst (λ (x : Expr). Evaluates s0 s1 (value_of x) r') same (subst (λ (x : Result ℤ Trap). Evaluates s0 s1 (value_of e) x) answer p)

pub evaluates_cell : (s0 s1 s2 : ViewState) (e index inner : Expr) (first length : ℕ) (x : ℤ) (read r : Result ℤ Trap) → e ≡ view.Cell first length index → inner ≡ index → read ≡ Ok x
    → Evaluates s0 s1 (value_of inner) read → Evaluates s1 s2 (then_do (settled (cell_of first length x)) value_at) r → Evaluates s0 s2 (value_of e) r
evaluates_cell s0 s1 s2 e index inner first length x read r is same answer p q =
    evaluates_as s0 s2 (value_of e) (then_do (value_of index) (λ y. then_do (settled (cell_of first length y)) value_at)) r
    (ap value_of is ∙ value_of-cell first length index)
    (evaluates_then s0 s1 s2 (value_of index) (λ y. then_do (settled (cell_of first length y)) value_at) x r (given s0 s1 inner index read (Ok x) same answer p) q)

pub evaluates_binary : (s0 s1 s2 : ViewState) (e left right inner : Expr) (op : Op) (x : ℤ) (read r : Result ℤ Trap) → e ≡ view.Binary op left right → inner ≡ left → read ≡ Ok x
    → Evaluates s0 s1 (value_of inner) read → Evaluates s1 s2 (rest_of op (value_of right) x) r → Evaluates s0 s2 (value_of e) r
evaluates_binary s0 s1 s2 e left right inner op x read r is same answer p q =
    evaluates_as s0 s2 (value_of e) (then_do (value_of left) (rest_of op (value_of right))) r
    (ap value_of is ∙ value_of-binary op left right)
    (evaluates_then s0 s1 s2 (value_of left) (rest_of op (value_of right)) x r (given s0 s1 inner left read (Ok x) same answer p) q)

-- the left value decides
pub rest_decided : (s : ViewState) (op : Op) (right : Expr) (x : ℤ) (r : Result ℤ Trap) → is_decided op x ≡ true → r ≡ Ok (truth (not (is_zero x)))
    → Evaluates s s (rest_of op (value_of right) x) r
rest_decided s op right x r decided is =
    evaluates_as s s (rest_of op (value_of right) x) (settled (Ok (truth (not (is_zero x))))) r
    (ap (λ (b : Bool). cond b (settled (Ok (truth (not (is_zero x))))) (then_do (value_of right) (λ y. settled (applied op x y)))) decided)
    (subst (λ (a : Result ℤ Trap). Evaluates s s (settled (Ok (truth (not (is_zero x))))) a) (sym is) (evaluates_settled s (Ok (truth (not (is_zero x))))))

-- the right side is needed
rest_open : (s0 s1 : ViewState) (op : Op) (right : Expr) (x : ℤ) (r : Result ℤ Trap) → is_decided op x ≡ false
    → Evaluates s0 s1 (then_do (value_of right) (λ y. settled (applied op x y))) r → Evaluates s0 s1 (rest_of op (value_of right) x) r
rest_open s0 s1 op right x r undecided p =
    evaluates_as s0 s1 (rest_of op (value_of right) x) (then_do (value_of right) (λ y. settled (applied op x y))) r
    (ap (λ (b : Bool). cond b (settled (Ok (truth (not (is_zero x))))) (then_do (value_of right) (λ y. settled (applied op x y)))) undecided) p

pub rest_answers : (s0 s1 : ViewState) (op : Op) (right inner : Expr) (x y : ℤ) (read r : Result ℤ Trap) → is_decided op x ≡ false → inner ≡ right → read ≡ Ok y → r ≡ applied op x y
    → Evaluates s0 s1 (value_of inner) read → Evaluates s0 s1 (rest_of op (value_of right) x) r
rest_answers s0 s1 op right inner x y read r undecided same answer is p =
    rest_open s0 s1 op right x r undecided
    (evaluates_then s0 s1 s1 (value_of right) (λ z. settled (applied op x z)) y r (given s0 s1 inner right read (Ok y) same answer p)
    (subst (λ (a : Result ℤ Trap). Evaluates s1 s1 (settled (applied op x y)) a) (sym is) (evaluates_settled s1 (applied op x y))))

pub rest_traps : (s0 s1 : ViewState) (op : Op) (right inner : Expr) (x : ℤ) (t : Trap) (read : Result ℤ Trap) → is_decided op x ≡ false → inner ≡ right → read ≡ Err t
    → Evaluates s0 s1 (value_of inner) read → Evaluates s0 s1 (rest_of op (value_of right) x) (Err t)
rest_traps s0 s1 op right inner x t read undecided same answer p =
    rest_open s0 s1 op right x (Err t) undecided
    (evaluates_stop s0 s1 (value_of right) (λ z. settled (applied op x z)) t (given s0 s1 inner right read (Err t) same answer p))

pub value_of-place : (p : ℕ) → value_of (variant.Place p) ≡ value_at p
unfolding view.roll-Expr denote.Hole.Carrier.roll
value_of-place p = fold-roll-Expr (Meaning ℤ) value_step (Expr-F.Place p)

pub evaluates_place : (s0 s1 : ViewState) (e : Expr) (p : ℕ) (r : Result ℤ Trap) → e ≡ variant.Place p → Evaluates s0 s1 (value_at p) r → Evaluates s0 s1 (value_of e) r
evaluates_place s0 s1 e p r is h = evaluates_as s0 s1 (value_of e) (value_at p) r (ap value_of is ∙ value_of-place p) h

places_below-place : (p k : ℕ) → places_below (variant.Place p) k ≡ nat_lt p k
unfolding view.roll-Expr denote.Hole.Carrier.roll
places_below-place p k = ap (λ (b : Bounded). b k) (fold-roll-Expr Bounded places_below_step (Expr-F.Place p))

pub below_place : (e : Expr) (p k : ℕ) → e ≡ variant.Place p → IsTrue (places_below e k) → p < k
below_place e p k is h = ltb-true p k (sym (places_below-place p k) ∙ ap (λ (x : Expr). places_below x k) (sym is) ∙ h)
