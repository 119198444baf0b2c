-- Which cells evaluations have to do with.
use Rattle.san_base.proofs.Bools.{or_none, holds_left, holds_right}
use Rattle.san_base.proofs.NumberTests.{same_number, number_itself}
use Rattle.std.proofs.Common.{ℕ, zero, suc, ◌+◌, ◌≤◌, ◌<◌, ◌≡◌, ◌∙◌, ap, sym, refl, subst, arith, Bool, true, false, not, cond, ◌&&◌, ◌||◌, ◌⊎◌, inl, inr, IsTrue, nat_eq, nat_lt, nat_le, Result, Ok, Err, ℤ, pos, negsuc, List, [], ◌∷◌, map, length}
use Rattle.std.specs.Prelude.{slice_index, slice_set}
use Rattle.std.proofs.lemmas.Bool.{leb-true, ltb-true, lt-ltb, le-leb}
use Rattle.std.proofs.lemmas.Bool.Decides.{eqb_tells}
use Rattle.san_base.specs.declared.limits.TheConstants.{MAX_TOKENS}
use Rattle.san_base.specs.declared.op.Op.{Op}
use Rattle.san_base.specs.declared.ending.Trap.{Trap}
use Rattle.san_base.specs.declared.ending.Trap.TheVariants.{Marking, Index}
use Rattle.san_expr.proofs.Unrolling.{HeldExpr, HeldStmt, effect_is, map_map, value_is}
use Rattle.san_expr.specs.declared.expr.Expr.{Expr}
use Rattle.san_expr.specs.declared.expr.Expr.TheOpen.{Expr-F}
use Rattle.san_expr.specs.declared.expr.Expr.TheViews.{roll-Expr}
use Rattle.san_expr.specs.declared.expr.Expr.TheFolds.{fold-roll-Expr, map-Expr, ind-Expr}
use Rattle.san_expr.specs.declared.stmt.Stmt.{Stmt}
use Rattle.san_expr.specs.declared.stmt.Stmt.TheOpen.{Stmt-F}
use Rattle.san_expr.specs.declared.stmt.Stmt.TheViews.{roll-Stmt}
use Rattle.san_expr.specs.declared.stmt.Stmt.TheFolds.{fold-roll-Stmt, map-Stmt, ind-Stmt}
use Rattle.san_expr.specs.declared.dist.Dist.{Dist}
use Rattle.san_expr.specs.declared.dist.Dist.TheVariants.{Det, Uniform, Geom, Table}
use Rattle.san_expr.specs.Delay.{delay_of, ticks_of, between, geometric}
use Rattle.san_expr.specs.Meaning.{Meaning, settled, value_at, put_at, go_on, then_do}
use Rattle.san_expr.specs.Value.{value_step, value_of, rest_of, is_decided, truth, is_zero, applied, cell_of}
use Rattle.san_expr.specs.Effect.{Acts, assign_at, in_turn, chosen, effect_step, effect_of, effects_of}
use Rattle.san_expr.specs.Mentions.{CellSet, array_cells, mentions_step, mentions, any_of, stmt_mentions_step, stmt_mentions, stmts_mention, dist_mentions}
use Rattle.san_expr.specs.Concerns.{IsPartOf, AreEqualOn, AreAlike, IsMarking, Concerns}

either : (P : Type 0) (l s k : Bool) → (IsTrue l → P) → (IsTrue k → P) → IsTrue (l || (not s && k)) → P
either P true s k f g h = f refl
either P false true k f g h = absurd cc
either P false false k f g h = g h

one_of : (P : Type 0) (l k : Bool) → (IsTrue l → P) → (IsTrue k → P) → IsTrue (l || k) → P
one_of P true k f g h = f refl
one_of P false k f g h = g h

and_from : (a b : Bool) → IsTrue a → IsTrue b → IsTrue (a && b)
and_from a b h k = ap (λ (x : Bool). x && b) h ∙ k

not_cell : (q p : ℕ) → nat_eq q p ≡ false → q ≡ p → ⊥
not_cell q p h e = by_test (eqb_tells q p)
  where
    by_test : ((nat_eq q p ≡ true) × (q ≡ p)) ⊎ ((nat_eq q p ≡ false) × (q ≡ p → ⊥)) → ⊥
    by_test (inl t) = cc
    by_test (inr t) = t.1 e

pub length-slice_set : (m : List ℕ) (p v : ℕ) → length (slice_set m p v) ≡ length m
length-slice_set [] p v = refl
length-slice_set (x ∷ m) zero v = refl
length-slice_set (x ∷ m) (suc p) v = ap suc (length-slice_set m p v)

set_both : (m n : List ℕ) (p v q : ℕ) → length m ≡ length n → slice_index m q ≡ slice_index n q → slice_index (slice_set m p v) q ≡ slice_index (slice_set n p v) q
set_both [] [] p v q e h = refl
set_both [] (y ∷ n) p v q e h = absurd (omega arith)
set_both (x ∷ m) [] p v q e h = absurd (omega arith)
set_both (x ∷ m) (y ∷ n) zero v zero e h = refl
set_both (x ∷ m) (y ∷ n) zero v (suc q) e h = h
set_both (x ∷ m) (y ∷ n) (suc p) v zero e h = h
set_both (x ∷ m) (y ∷ n) (suc p) v (suc q) e h = set_both m n p v q (omega arith) h

pub set_other : (m : List ℕ) (p v q : ℕ) → (q ≡ p → ⊥) → slice_index (slice_set m p v) q ≡ slice_index m q
set_other [] p v q apart = refl
set_other (x ∷ m) zero v zero apart = absurd (apart refl)
set_other (x ∷ m) zero v (suc q) apart = refl
set_other (x ∷ m) (suc p) v zero apart = refl
set_other (x ∷ m) (suc p) v (suc q) apart = set_other m p v q (λ e. apart (ap suc e))

set_small : (m : List ℕ) (p v q : ℕ) → v ≤ MAX_TOKENS → slice_index m q ≤ MAX_TOKENS → slice_index (slice_set m p v) q ≤ MAX_TOKENS
set_small [] p v q h k = k
set_small (x ∷ m) zero v zero h k = h
set_small (x ∷ m) zero v (suc q) h k = k
set_small (x ∷ m) (suc p) v zero h k = k
set_small (x ∷ m) (suc p) v (suc q) h k = set_small m p v q h k

module _ (cells : CellSet) where
  pub concerns_settled : {T : Type 0} (r : Result T Trap) → Concerns cells (settled r)
  concerns_settled r = record {
    looks = λ m p h. absurd cc;
    sets = λ m p h. absurd cc;
    alike = λ m n e. record { answer = refl; looks = λ p. refl; sets = λ p. refl; left = e };
    unset = λ m p h. refl;
    sized = λ m. refl;
    marking = λ m h. h;
  }

  pub concerns_value_at : (p : ℕ) → IsTrue (cells p) → Concerns cells (value_at p)
  concerns_value_at p within = record {
    looks = λ m q h. subst (λ (n : ℕ). IsTrue (cells n)) (sym (same_number q p h)) within;
    sets = λ m q h. absurd cc;
    alike = λ m n e. record { answer = ap (λ (x : ℕ). Ok (pos x)) (e.same p within); looks = λ q. refl; sets = λ q. refl; left = e };
    unset = λ m q h. refl;
    sized = λ m. refl;
    marking = λ m h. h;
  }

  pub concerns_put_at : (p v : ℕ) → IsTrue (cells p) → v ≤ MAX_TOKENS → Concerns cells (put_at p v)
  concerns_put_at p v within few = record {
    looks = λ m q h. absurd cc;
    sets = λ m q h. subst (λ (n : ℕ). IsTrue (cells n)) (sym (same_number q p h)) within;
    alike = λ m n e. record {
      answer = refl;
      looks = λ q. refl;
      sets = λ q. refl;
      left = record {
        sized = length-slice_set m p v ∙ e.sized ∙ sym (length-slice_set n p v);
        same = λ q h. set_both m n p v q e.sized (e.same q h);
      };
    };
    unset = λ m q h. set_other m p v q (not_cell q p h);
    sized = λ m. length-slice_set m p v;
    marking = λ m h q. set_small m p v q few (h q);
  }

  module _ {T U : Type 0} (a : Meaning T) (next : T → Meaning U) (first : Concerns cells a) (rest : (x : T) → Concerns cells (next x)) where
    looks_by : (r : Result T Trap) (m : List ℕ) (p : ℕ) → IsTrue ((go_on r (a m) next).looks p) → IsTrue (cells p)
    looks_by (Ok x) m p h = either (IsTrue (cells p)) ((a m).looks p) ((a m).sets p) ((next x (a m).left).looks p) (first.looks m p) ((rest x).looks (a m).left p) h
    looks_by (Err t) m p h = first.looks m p h

    sets_by : (r : Result T Trap) (m : List ℕ) (p : ℕ) → IsTrue ((go_on r (a m) next).sets p) → IsTrue (cells p)
    sets_by (Ok x) m p h = one_of (IsTrue (cells p)) ((a m).sets p) ((next x (a m).left).sets p) (first.sets m p) ((rest x).sets (a m).left p) h
    sets_by (Err t) m p h = first.sets m p h

    alike_by : (r : Result T Trap) (m n : List ℕ) → AreEqualOn cells m n → AreAlike cells (go_on r (a m) next) (go_on r (a n) next)
    alike_by (Ok x) m n e =
        let p = first.alike m n e in
        let q = (rest x).alike (a m).left (a n).left p.left in
        record {
          answer = q.answer;
          looks = λ k. cc (p.looks k, p.sets k, q.looks k);
          sets = λ k. cc (p.sets k, q.sets k);
          left = q.left;
        }
    alike_by (Err t) m n e = let p = first.alike m n e in record { answer = refl; looks = p.looks; sets = p.sets; left = p.left }

    unset_by : (r : Result T Trap) (m : List ℕ) (p : ℕ) → (go_on r (a m) next).sets p ≡ false → slice_index (go_on r (a m) next).left p ≡ slice_index m p
    unset_by (Ok x) m p h =
        let none = or_none ((a m).sets p) ((next x (a m).left).sets p) h in
        (rest x).unset (a m).left p none.1 ∙ first.unset m p none.0
    unset_by (Err t) m p h = first.unset m p h

    sized_by : (r : Result T Trap) (m : List ℕ) → length (go_on r (a m) next).left ≡ length m
    sized_by (Ok x) m = (rest x).sized (a m).left ∙ first.sized m
    sized_by (Err t) m = first.sized m

    marking_by : (r : Result T Trap) (m : List ℕ) → IsMarking m → IsMarking (go_on r (a m) next).left
    marking_by (Ok x) m h = (rest x).marking (a m).left (first.marking m h)
    marking_by (Err t) m h = first.marking m h

    pub concerns_then : Concerns cells (then_do a next)
    concerns_then = record {
      looks = λ m. looks_by (a m).answer m;
      sets = λ m. sets_by (a m).answer m;
      alike = λ m n e.
          subst (λ (r : Result T Trap). AreAlike cells (go_on (a m).answer (a m) next) (go_on r (a n) next)) (first.alike m n e).answer (alike_by (a m).answer m n e);
      unset = λ m. unset_by (a m).answer m;
      sized = λ m. sized_by (a m).answer m;
      marking = λ m. marking_by (a m).answer m;
    }

  -- an answer that is settled, and what it calls for
  pub concerns_guard : {T U : Type 0} (r : Result T Trap) (next : T → Meaning U) → ((x : T) → r ≡ Ok x → Concerns cells (next x)) → Concerns cells (then_do (settled r) next)
  concerns_guard (Ok x) next h = h x refl
  concerns_guard (Err t) next h = concerns_settled (Err t)

  in_array : (first length p : ℕ) (x : ℤ) → cell_of first length x ≡ Ok p → IsTrue (array_cells first length p)
  in_array first length p (negsuc i) e = absurd cc
  in_array first length p (pos i) e = by_test (nat_lt i length) refl e
    where
      by_test : (b : Bool) → nat_lt i length ≡ b → cond b (Ok (first + i)) (Err Index) ≡ Ok p → IsTrue (array_cells first length p)
      by_test true t h =
          let is : first + i ≡ p = cc in
          let below : i < length = ltb-true i length t in
          subst (λ (n : ℕ). IsTrue (array_cells first length n)) is
          (and_from (nat_le first (first + i)) (nat_lt (first + i) (first + length)) (le-leb first (first + i) (omega arith)) (lt-ltb (first + i) (first + length) (omega arith)))
      by_test false t h = absurd cc

  concerns_element : {U : Type 0} (first length : ℕ) (x : ℤ) (next : ℕ → Meaning U) → IsPartOf (array_cells first length) cells → ((p : ℕ) → IsTrue (cells p) → Concerns cells (next p))
      → Concerns cells (then_do (settled (cell_of first length x)) next)
  concerns_element first length x next part h = concerns_guard (cell_of first length x) next (λ p e. h p (part p (in_array first length p x e)))

  pub concerns_assign : (p : ℕ) (x : ℤ) → IsTrue (cells p) → Concerns cells (assign_at p x)
  concerns_assign p (negsuc n) within = concerns_settled (Err Marking)
  concerns_assign p (pos n) within = by_test (nat_le n MAX_TOKENS) refl
    where
      by_test : (b : Bool) → nat_le n MAX_TOKENS ≡ b → Concerns cells (then_do (settled (cond b (Ok n) (Err Marking))) (put_at p))
      by_test true t = concerns_put_at p n within (leb-true n MAX_TOKENS t)
      by_test false t = concerns_settled (Err Marking)

  concerns_rest : (op : Op) (right : Meaning ℤ) (x : ℤ) → Concerns cells right → Concerns cells (rest_of op right x)
  concerns_rest op right x r = by_test (is_decided op x)
    where
      by_test : (b : Bool) → Concerns cells (cond b (settled (Ok (truth (not (is_zero x))))) (then_do right (λ y. settled (applied op x y))))
      by_test true = concerns_settled (Ok (truth (not (is_zero x))))
      by_test false = concerns_then right (λ y. settled (applied op x y)) r (λ y. concerns_settled (applied op x y))

-- what concerns some cells concerns any further ones
pub concerns_more : {T : Type 0} (some all : CellSet) (a : Meaning T) → IsPartOf some all → Concerns some a → Concerns all a
concerns_more some all a part c = record {
  looks = λ m p h. part p (c.looks m p h);
  sets = λ m p h. part p (c.sets m p h);
  alike = λ m n e.
      let within : AreEqualOn some m n = record { sized = e.sized; same = λ p h. e.same p (part p h) } in
      let like = c.alike m n within in
      record {
        answer = like.answer;
        looks = like.looks;
        sets = like.sets;
        left = record {
          sized = c.sized m ∙ e.sized ∙ sym (c.sized n);
          same = λ p h. by_set m n e like p h ((a m).sets p) refl;
        };
      };
  unset = c.unset;
  sized = c.sized;
  marking = c.marking;
}
  where
    by_set : (m n : List ℕ) → AreEqualOn all m n → AreAlike some (a m) (a n) → (p : ℕ) → IsTrue (all p) → (b : Bool) → (a m).sets p ≡ b
        → slice_index (a m).left p ≡ slice_index (a n).left p
    by_set m n e like p h true is = like.left.same p (c.sets m p is)
    by_set m n e like p h false is = c.unset m p is ∙ e.same p h ∙ sym (c.unset n p (sym (like.sets p) ∙ is))

concerns_as : {T : Type 0} (cells : CellSet) (a b : Meaning T) → a ≡ b → Concerns cells b → Concerns cells a
concerns_as cells a b e h = subst (λ (m : Meaning _). Concerns cells m) (sym e) h

-- an expression has to do with the cells that it mentions
abbrev IsConcerned : Expr → Type 0
IsConcerned e = (cells : CellSet) → IsPartOf (mentions e) cells → Concerns cells (value_of e)

abbrev Held : Type 0
Held = HeldExpr IsConcerned

one_level : (y : Expr-F Held) (cells : CellSet) → IsPartOf (mentions_step (map-Expr Held CellSet (λ h. mentions h.0) y)) cells
    → Concerns cells (value_step (map-Expr Held (Meaning ℤ) (λ h. value_of h.0) y))
one_level (Expr-F.Number n) cells part = concerns_settled cells (Ok n)
one_level (Expr-F.Place p) cells part = concerns_value_at cells p (part p (number_itself p))
one_level (Expr-F.Cell first length index) cells part =
    concerns_then cells (value_of index.0) (λ x. then_do (settled (cell_of first length x)) value_at)
    (index.1 cells (λ q h. part q (holds_right (array_cells first length q) (mentions index.0 q) h)))
    (λ x. concerns_element cells first length x value_at (λ q h. part q (holds_left (array_cells first length q) (mentions index.0 q) h)) (concerns_value_at cells))
one_level (Expr-F.Neg a) cells part = concerns_then cells (value_of a.0) _ (a.1 cells part) (λ x. concerns_settled cells _)
one_level (Expr-F.Not a) cells part = concerns_then cells (value_of a.0) _ (a.1 cells part) (λ x. concerns_settled cells _)
one_level (Expr-F.Binary op left right) cells part =
    concerns_then cells (value_of left.0) (rest_of op (value_of right.0))
    (left.1 cells (λ q h. part q (holds_left (mentions left.0 q) (mentions right.0 q) h)))
    (λ x. concerns_rest cells op (value_of right.0) x (right.1 cells (λ q h. part q (holds_right (mentions left.0 q) (mentions right.0 q) h))))

mentions_map : (y : Expr-F Held) → map-Expr Expr CellSet mentions (map-Expr Held Expr (λ h. h.0) y) ≡ map-Expr Held CellSet (λ h. mentions h.0) y
mentions_map (Expr-F.Number n) = refl
mentions_map (Expr-F.Place p) = refl
mentions_map (Expr-F.Cell first length index) = refl
mentions_map (Expr-F.Neg a) = refl
mentions_map (Expr-F.Not a) = refl
mentions_map (Expr-F.Binary op left right) = refl

level : (x : Expr-F Expr) (y : Expr-F Held) → map-Expr Held Expr (λ h. h.0) y ≡ x → IsConcerned (roll-Expr x)
level x y e = subst (λ (z : Expr-F Expr). IsConcerned (roll-Expr z)) e (λ cells part.
    concerns_as cells (value_of (roll-Expr (map-Expr Held Expr (λ h. h.0) y))) (value_step (map-Expr Held (Meaning ℤ) (λ h. value_of h.0) y))
    (value_is IsConcerned y)
    (one_level y cells (λ q h. part q
    (subst (λ (c : CellSet). IsTrue (c q)) (sym (fold-roll-Expr CellSet mentions_step (map-Expr Held Expr (λ h. h.0) y) ∙ ap mentions_step (mentions_map y))) h))))

concerned : (e : Expr) → IsConcerned e
concerned = ind-Expr IsConcerned level

pub value_concerns : (e : Expr) → Concerns (mentions e) (value_of e)
value_concerns e = concerned e (mentions e) (λ p h. h)

-- statements
abbrev AreConcerned : Stmt → Type 0
AreConcerned s = (cells : CellSet) → IsPartOf (stmt_mentions s) cells → Concerns cells (effect_of s)

abbrev HeldOne : Type 0
HeldOne = HeldStmt AreConcerned

concerns_list : (hs : List HeldOne) (cells : CellSet) → IsPartOf (any_of (map (λ h. stmt_mentions h.0) hs)) cells → Concerns cells (in_turn (map (λ h. effect_of h.0) hs))
concerns_list [] cells part = concerns_settled cells (Ok tt)
concerns_list (h ∷ hs) cells part =
    concerns_then cells (effect_of h.0) (λ _. in_turn (map (λ k. effect_of k.0) hs))
    (h.1 cells (λ q t. part q (holds_left (stmt_mentions h.0 q) (any_of (map (λ k. stmt_mentions k.0) hs) q) t)))
    (λ _. concerns_list hs cells (λ q t. part q (holds_right (stmt_mentions h.0 q) (any_of (map (λ k. stmt_mentions k.0) hs) q) t)))

one_stmt : (y : Stmt-F HeldOne) (cells : CellSet) → IsPartOf (stmt_mentions_step (map-Stmt HeldOne CellSet (λ h. stmt_mentions h.0) y)) cells
    → Concerns cells (effect_step (map-Stmt HeldOne Acts (λ h. effect_of h.0) y))
one_stmt (Stmt-F.Set p e) cells part =
    concerns_then cells (value_of e) (assign_at p) (concerned e cells (λ q h. part q (holds_right (nat_eq q p) (mentions e q) h)))
    (λ x. concerns_assign cells p x (part p (holds_left (nat_eq p p) (mentions e p) (number_itself p))))
one_stmt (Stmt-F.SetCell first length index e) cells part =
    concerns_then cells (value_of index) (λ x. then_do (settled (cell_of first length x)) (λ p. then_do (value_of e) (assign_at p)))
    (concerned index cells (λ q h. part q (holds_right (array_cells first length q) (mentions index q || mentions e q) (holds_left (mentions index q) (mentions e q) h))))
    (λ x. concerns_element cells first length x (λ p. then_do (value_of e) (assign_at p))
    (λ q h. part q (holds_left (array_cells first length q) (mentions index q || mentions e q) h))
    (λ p within. concerns_then cells (value_of e) (assign_at p)
    (concerned e cells (λ q h. part q (holds_right (array_cells first length q) (mentions index q || mentions e q) (holds_right (mentions index q) (mentions e q) h))))
    (λ y. concerns_assign cells p y within)))
one_stmt (Stmt-F.If e xs ys) cells part =
    let thens = any_of (map (λ (h : HeldOne). stmt_mentions h.0) xs) in
    let elses = any_of (map (λ (h : HeldOne). stmt_mentions h.0) ys) in
    let acts = in_turn (map (λ (h : HeldOne). effect_of h.0) xs) in
    let others = in_turn (map (λ (h : HeldOne). effect_of h.0) ys) in
    concerns_then cells (value_of e) (chosen acts others)
    (concerned e cells (λ q h. part q (holds_left (mentions e q) (thens q || elses q) h)))
    (λ x. by_test acts others
    (concerns_list xs cells (λ q h. part q (holds_right (mentions e q) (thens q || elses q) (holds_left (thens q) (elses q) h))))
    (concerns_list ys cells (λ q h. part q (holds_right (mentions e q) (thens q || elses q) (holds_right (thens q) (elses q) h))))
    (is_zero x))
  where
    by_test : (acts others : Acts) → Concerns cells acts → Concerns cells others → (b : Bool) → Concerns cells (cond b others acts)
    by_test acts others p q true = q
    by_test acts others p q false = p

stmt_mentions_map : (y : Stmt-F HeldOne) → map-Stmt Stmt CellSet stmt_mentions (map-Stmt HeldOne Stmt (λ h. h.0) y) ≡ map-Stmt HeldOne CellSet (λ h. stmt_mentions h.0) y
stmt_mentions_map (Stmt-F.Set p e) = refl
stmt_mentions_map (Stmt-F.SetCell first length index e) = refl
stmt_mentions_map (Stmt-F.If e xs ys) = λ i. Stmt-F.If e (map_map (λ (h : HeldOne). h.0) stmt_mentions xs i) (map_map (λ (h : HeldOne). h.0) stmt_mentions ys i)

stmt_level : (x : Stmt-F Stmt) (y : Stmt-F HeldOne) → map-Stmt HeldOne Stmt (λ h. h.0) y ≡ x → AreConcerned (roll-Stmt x)
stmt_level x y e = subst (λ (z : Stmt-F Stmt). AreConcerned (roll-Stmt z)) e (λ cells part.
    concerns_as cells (effect_of (roll-Stmt (map-Stmt HeldOne Stmt (λ h. h.0) y))) (effect_step (map-Stmt HeldOne Acts (λ h. effect_of h.0) y))
    (effect_is AreConcerned y)
    (one_stmt y cells (λ q h. part q
    (subst (λ (c : CellSet). IsTrue (c q)) (sym (fold-roll-Stmt CellSet stmt_mentions_step (map-Stmt HeldOne Stmt (λ h. h.0) y) ∙ ap stmt_mentions_step (stmt_mentions_map y))) h))))

stmt_concerned : (s : Stmt) → AreConcerned s
stmt_concerned = ind-Stmt AreConcerned stmt_level

pub effects_concern : (body : List Stmt) (cells : CellSet) → IsPartOf (stmts_mention body) cells → Concerns cells (effects_of body)
effects_concern [] cells part = concerns_settled cells (Ok tt)
effects_concern (s ∷ body) cells part =
    concerns_then cells (effect_of s) (λ _. effects_of body)
    (stmt_concerned s cells (λ q t. part q (holds_left (stmt_mentions s q) (stmts_mention body q) t)))
    (λ _. effects_concern body cells (λ q t. part q (holds_right (stmt_mentions s q) (stmts_mention body q) t)))

pub statements_concern : (body : List Stmt) → Concerns (stmts_mention body) (effects_of body)
statements_concern body = effects_concern body (stmts_mention body) (λ p h. h)

pub delay_concerns : (d : Dist) (u : ℕ) → Concerns (dist_mentions d) (delay_of d u)
delay_concerns (Det e) u = concerns_then (mentions e) (value_of e) (λ x. settled (ticks_of x)) (concerned e (mentions e) (λ q h. h)) (λ x. concerns_settled (mentions e) (ticks_of x))
delay_concerns (Uniform low high) u =
    let cells : CellSet = λ q. mentions low q || mentions high q in
    concerns_then cells (value_of low) (λ x. then_do (value_of high) (λ y. settled (between u (ticks_of x) (ticks_of y))))
    (concerned low cells (λ q h. holds_left (mentions low q) (mentions high q) h))
    (λ x. concerns_then cells (value_of high) (λ y. settled (between u (ticks_of x) (ticks_of y)))
    (concerned high cells (λ q h. holds_right (mentions low q) (mentions high q) h))
    (λ y. concerns_settled cells (between u (ticks_of x) (ticks_of y))))
delay_concerns (Geom p q) u = concerns_settled (dist_mentions (Geom p q)) (Ok (geometric p q u))
delay_concerns (Table entries) u = concerns_settled (dist_mentions (Table entries)) _
