-- Without a fault each place of an atomic has cells of its own, and what names them is below their number.
use Rattle.san_base.proofs.Bools.{not_false, and_true}
use Rattle.std.proofs.Common.{◌≡◌, ℕ, ℤ, pos, ◌+◌, ◌^◌, ◌<◌, ◌≤◌, Bool, true, false, not, ◌&&◌, nat_le, List, min, Option, None, is_some, IsTrue, sym, ap, subst, ◌∙◌, true≢false, arith}
use Rattle.std.proofs.lemmas.Bool.{lt-ltb, le-leb}
use denote.Hole.Carrier
use Rattle.san_base.specs.declared.op.Op.{Op}
use Rattle.san_text.specs.declared.syntax.Ast.{Ast}
use Rattle.san_text.specs.declared.syntax.Ast.TheViews as ast
use Rattle.san_text.specs.declared.syntax.Ast.TheOpen.{Ast-F}
use Rattle.san_text.specs.declared.syntax.Ast.TheFolds.{fold-roll-Ast, map-Ast, ind-Ast}
use Rattle.san_expr.specs.Below.{Bounded, places_below, places_below_step}
use Rattle.san_expr.specs.declared.expr.Expr.{Expr}
use Rattle.san_expr.specs.declared.expr.Expr.TheVariants as leaf
use Rattle.san_expr.specs.declared.expr.Expr.TheViews as expr
use Rattle.san_expr.specs.declared.expr.Expr.TheOpen.{Expr-F}
use Rattle.san_expr.specs.declared.expr.Expr.TheFolds.{fold-roll-Expr}
use Rattle.san_net.specs.Lengths.{has_lengths, lengths_step}
use Rattle.san_check.specs.declared.build.cells.Cells.{Cells}
use Rattle.san_check.specs.Tables.{found, is_known}
use Rattle.san_check.specs.walk.Entries.{Entries, code}
use Rattle.san_check.specs.walk.Expression.{Places, is_array, whole, element, entry, expr_step, first_entries}
use Rattle.san_check.specs.build.Cells.{CellTable, cells_at}
use Rattle.san_check.specs.build.Expression.{expr_of_step, expr_of}
use Rattle.san_check.proofs.FreeLemmas.{Free, free_left, free_right, code_free, else_first}

-- cells below a number
abbrev pub In : Cells → ℕ → Type 0
In c k = (1 ≤ c.length) × (c.first + c.length ≤ k)

-- places of an atomic, with their cells, of which there are so many
pub record Placed (places : Places) (cells : CellTable) (k : ℕ) : Type 0 where
  pub same : (name : List ℕ) → is_known cells name ≡ is_known places name
  pub fits : (name : List ℕ) → is_known places name ≡ true → In (cells_at cells name) k
  pub few : k ≤ 256

abbrev pub Good : ℕ → Expr → Type 0
Good k e = IsTrue (places_below e k) × IsTrue (has_lengths e)

pub good_number : (k : ℕ) (n : ℤ) → Good k (leaf.Number n)
unfolding expr.roll-Expr denote.Hole.Carrier.roll
good_number k n = (ap (λ (b : Bounded). b k) (fold-roll-Expr Bounded places_below_step (Expr-F.Number n)), fold-roll-Expr Bool lengths_step (Expr-F.Number n))

good_place : (k p : ℕ) → p < k → Good k (leaf.Place p)
unfolding expr.roll-Expr denote.Hole.Carrier.roll
good_place k p h = (ap (λ (b : Bounded). b k) (fold-roll-Expr Bounded places_below_step (Expr-F.Place p)) ∙ lt-ltb p k h, fold-roll-Expr Bool lengths_step (Expr-F.Place p))

good_cell : (k : ℕ) (c : Cells) (i : Expr) → k ≤ 256 → In c k → Good k i → Good k (expr.Cell c.first c.length i)
unfolding expr.roll-Expr denote.Hole.Carrier.roll
good_cell k c i few h g =
    let small : c.first + c.length ≤ 4294967296 = omega (arith, few, h.1) in (
      ap (λ (b : Bounded). b k) (fold-roll-Expr Bounded places_below_step (Expr-F.Cell c.first c.length i))
          ∙ and_true (nat_le (c.first + c.length) k && nat_le (c.first + c.length) (2 ^ 32)) (places_below i k)
          (and_true (nat_le (c.first + c.length) k) (nat_le (c.first + c.length) (2 ^ 32)) (le-leb (c.first + c.length) k h.1) (le-leb (c.first + c.length) (2 ^ 32) small)) g.0,
      fold-roll-Expr Bool lengths_step (Expr-F.Cell c.first c.length i) ∙ and_true (nat_le 1 c.length) (has_lengths i) (le-leb 1 c.length h.0) g.1,
    )

good_neg : (k : ℕ) (a : Expr) → Good k a → Good k (expr.Neg a)
unfolding expr.roll-Expr denote.Hole.Carrier.roll
good_neg k a g = (ap (λ (b : Bounded). b k) (fold-roll-Expr Bounded places_below_step (Expr-F.Neg a)) ∙ g.0, fold-roll-Expr Bool lengths_step (Expr-F.Neg a) ∙ g.1)

good_not : (k : ℕ) (a : Expr) → Good k a → Good k (expr.Not a)
unfolding expr.roll-Expr denote.Hole.Carrier.roll
good_not k a g = (ap (λ (b : Bounded). b k) (fold-roll-Expr Bounded places_below_step (Expr-F.Not a)) ∙ g.0, fold-roll-Expr Bool lengths_step (Expr-F.Not a) ∙ g.1)

good_binary : (k : ℕ) (o : Op) (a b : Expr) → Good k a → Good k b → Good k (expr.Binary o a b)
unfolding expr.roll-Expr denote.Hole.Carrier.roll
good_binary k o a b g h = (
  ap (λ (b : Bounded). b k) (fold-roll-Expr Bounded places_below_step (Expr-F.Binary o a b)) ∙ and_true (places_below a k) (places_below b k) g.0 h.0,
  fold-roll-Expr Bool lengths_step (Expr-F.Binary o a b) ∙ and_true (has_lengths a) (has_lengths b) g.1 h.1,
)

entry_free : (late : Bool) (o : Option ℕ) → entry late o ≡ None → o ≡ None
unfolding entry
entry_free true o h = absurd (true≢false (ap is_some h))
entry_free false o h = h

pub whole_known : (places : Places) (name : List ℕ) → whole places name ≡ None → is_known places name ≡ true
unfolding whole
whole_known places name h = not_false (is_known places name) (code_free 21 (not (is_known places name)) (else_first (code 21 (not (is_known places name))) (code 54 (is_array (found places name))) h))

pub element_known : (places : Places) (name : List ℕ) → element places name ≡ None → is_known places name ≡ true
unfolding element
element_known places name h = not_false (is_known places name) (code_free 21 (not (is_known places name)) (else_first (code 21 (not (is_known places name))) (code 54 (not (is_array (found places name)))) h))

pub first_below : {places : Places} {cells : CellTable} {k : ℕ} → Placed places cells k → (name : List ℕ) → is_known places name ≡ true → (cells_at cells name).first < k
first_below at name known = let h = at.fits name known in omega (arith, h.0, h.1)

abbrev Meant : Places → CellTable → ℕ → Ast → Type 0
Meant places cells k e = (late : Bool) → Free (first_entries places e late) → Good k (expr_of cells e)

rolled : (places : Places) (cells : CellTable) (k : ℕ) (z : Ast-F Ast) → ((late : Bool) → Free (expr_step places (map-Ast Ast (Bool → Entries) (first_entries places) z) late) → Good k (expr_of_step cells (map-Ast Ast Expr (expr_of cells) z)))
    → Meant places cells k (ast.roll-Ast z)
rolled places cells k z h late free =
    subst (λ (x : Expr). Good k x) (sym (fold-roll-Ast Expr (expr_of_step cells) z)) (h late (subst (λ (f : Bool → Entries). Free (f late)) (fold-roll-Ast (Bool → Entries) (expr_step places) z) free))

layer : {S : Type 0} (places : Places) (cells : CellTable) (k : ℕ) → Placed places cells k → (first : S → Ast) → ((s : S) → Meant places cells k (first s)) → (y : Ast-F S) → Meant places cells k (ast.roll-Ast (map-Ast S Ast first y))
layer places cells k at first law (Ast-F.Number n) = rolled places cells k (Ast-F.Number n) (λ late f. good_number k (pos (min n 9223372036854775807)))
layer places cells k at first law (Ast-F.Name s) = rolled places cells k (Ast-F.Name s) (λ late f. good_place k (cells_at cells s).first (first_below at s (whole_known places s (entry_free late (whole places s) f.0))))
layer places cells k at first law (Ast-F.Cell s i) =
    rolled places cells k (Ast-F.Cell s (first i)) (λ late f. good_cell k (cells_at cells s) (expr_of cells (first i)) at.few (at.fits s (element_known places s (entry_free late (element places s) f.0))) (law i false f.1))
layer places cells k at first law (Ast-F.Neg a) = rolled places cells k (Ast-F.Neg (first a)) (λ late f. good_neg k (expr_of cells (first a)) (law a late f))
layer places cells k at first law (Ast-F.Not a) = rolled places cells k (Ast-F.Not (first a)) (λ late f. good_not k (expr_of cells (first a)) (law a late f))
layer places cells k at first law (Ast-F.Binary o a b) =
    rolled places cells k (Ast-F.Binary o (first a) (first b)) (λ late f. good_binary k o (expr_of cells (first a)) (expr_of cells (first b)) (law a late (free_left (first_entries places (first a) late) (first_entries places (first b) false) f))
    (law b false (free_right (first_entries places (first a) late) (first_entries places (first b) false) f)))
layer places cells k at first law (Ast-F.Group a) = rolled places cells k (Ast-F.Group (first a)) (λ late f. law a late f)

pub first_good : (places : Places) (cells : CellTable) (k : ℕ) → Placed places cells k → (e : Ast) (late : Bool) → Free (first_entries places e late) → Good k (expr_of cells e)
first_good places cells k at e = ind-Ast (Meant places cells k) (λ x y is. subst (λ (z : Ast-F Ast). Meant places cells k (ast.roll-Ast z)) is (layer places cells k at (λ s. s.0) (λ s. s.1) y)) e

pub expr_good : (places : Places) (cells : CellTable) (k : ℕ) → Placed places cells k → (e : Ast) → Free (first_entries places e false) → Good k (expr_of cells e)
expr_good places cells k at e f = first_good places cells k at e false f
