-- Without a fault what the statements of an atomic name is below the number of its cells.
use Rattle.san_base.proofs.Bools.{and_true}
use Rattle.std.proofs.Common.{ℕ, ◌+◌, ◌^◌, ◌<◌, ◌≤◌, Bool, ◌&&◌, nat_lt, nat_le, List, [], ◌∷◌, ◌++◌, map, IsTrue, refl, sym, ap, subst, ◌∙◌, arith}
use Rattle.std.proofs.lemmas.Bool.{lt-ltb, le-leb}
use denote.Hole.Carrier
use Rattle.san_text.specs.declared.syntax.StmtDecl.{StmtDecl}
use Rattle.san_text.specs.declared.syntax.StmtDecl.TheViews as stmt
use Rattle.san_text.specs.declared.syntax.StmtDecl.TheOpen.{StmtDecl-F}
use Rattle.san_text.specs.declared.syntax.StmtDecl.TheFolds.{fold-roll-StmtDecl, map-StmtDecl, ind-StmtDecl}
use Rattle.san_expr.specs.Below.{Bounded, places_below, stmt_below_step, stmt_below, stmts_below}
use Rattle.san_expr.specs.declared.expr.Expr.{Expr}
use Rattle.san_expr.specs.declared.stmt.Stmt.{Stmt}
use Rattle.san_expr.specs.declared.stmt.Stmt.TheVariants as plain
use Rattle.san_expr.specs.declared.stmt.Stmt.TheViews as made
use Rattle.san_expr.specs.declared.stmt.Stmt.TheOpen.{Stmt-F}
use Rattle.san_expr.specs.declared.stmt.Stmt.TheFolds.{fold-roll-Stmt}
use Rattle.san_net.specs.Lengths.{has_lengths, stmt_lengths_step, stmt_has_lengths, stmts_have_lengths}
use Rattle.san_check.specs.declared.build.cells.Cells.{Cells}
use Rattle.san_check.specs.walk.Entries.{Entries, joined}
use Rattle.san_check.specs.walk.Expression.{Places, expr_entries, stmt_step, stmt_entries, stmts_entries}
use Rattle.san_check.specs.build.Cells.{CellTable, cells_at}
use Rattle.san_check.specs.build.Expression.{expr_of, set_in, stmt_of_step, stmt_of, stmts_of}
use Rattle.san_check.proofs.FreeLemmas.{Free, free_left, free_right}
use Rattle.san_check.proofs.FitLemmas.{In, Placed, Good, whole_known, element_known, first_below, expr_good}

abbrev pub GoodStmt : ℕ → Stmt → Type 0
GoodStmt k s = IsTrue (stmt_below s k) × IsTrue (stmt_has_lengths s)

abbrev pub GoodBody : ℕ → List Stmt → Type 0
GoodBody k body = IsTrue (stmts_below body k) × IsTrue (stmts_have_lengths body)

good_set : (k p : ℕ) (e : Expr) → p < k → Good k e → GoodStmt k (plain.Set p e)
unfolding made.roll-Stmt denote.Hole.Carrier.roll
good_set k p e h g =
    (ap (λ (b : Bounded). b k) (fold-roll-Stmt Bounded stmt_below_step (Stmt-F.Set p e)) ∙ and_true (nat_lt p k) (places_below e k) (lt-ltb p k h) g.0, fold-roll-Stmt Bool stmt_lengths_step (Stmt-F.Set p e) ∙ g.1)

good_set_cell : (k : ℕ) (c : Cells) (i e : Expr) → k ≤ 256 → In c k → Good k i → Good k e → GoodStmt k (set_in c i e)
unfolding made.roll-Stmt denote.Hole.Carrier.roll
good_set_cell k c i e few h g r =
    let small : c.first + c.length ≤ 4294967296 = omega (arith, few, h.1) in (
      ap (λ (b : Bounded). b k) (fold-roll-Stmt Bounded stmt_below_step (Stmt-F.SetCell c.first c.length i e))
          ∙ and_true (nat_le (c.first + c.length) k && nat_le (c.first + c.length) (2 ^ 32)) (places_below i k && places_below e k)
          (and_true (nat_le (c.first + c.length) k) (nat_le (c.first + c.length) (2 ^ 32)) (le-leb (c.first + c.length) k h.1) (le-leb (c.first + c.length) (2 ^ 32) small)) (and_true (places_below i k) (places_below e k) g.0 r.0),
      fold-roll-Stmt Bool stmt_lengths_step (Stmt-F.SetCell c.first c.length i e) ∙ and_true (nat_le 1 c.length) (has_lengths i && has_lengths e) (le-leb 1 c.length h.0) (and_true (has_lengths i) (has_lengths e) g.1 r.1),
    )

good_if : (k : ℕ) (e : Expr) (xs ys : List Stmt) → Good k e → GoodBody k xs → GoodBody k ys → GoodStmt k (made.If e xs ys)
unfolding made.roll-Stmt denote.Hole.Carrier.roll
good_if k e xs ys g h r = (
  ap (λ (b : Bounded). b k) (fold-roll-Stmt Bounded stmt_below_step (Stmt-F.If e xs ys)) ∙ and_true (places_below e k) (stmts_below xs k && stmts_below ys k) g.0 (and_true (stmts_below xs k) (stmts_below ys k) h.0 r.0),
  fold-roll-Stmt Bool stmt_lengths_step (Stmt-F.If e xs ys) ∙ and_true (has_lengths e) (stmts_have_lengths xs && stmts_have_lengths ys) g.1 (and_true (stmts_have_lengths xs) (stmts_have_lengths ys) h.1 r.1),
)

abbrev Meant : Places → CellTable → ℕ → StmtDecl → Type 0
Meant places cells k s = Free (stmt_entries places s) → GoodStmt k (stmt_of cells s)

rolled : (places : Places) (cells : CellTable) (k : ℕ) (z : StmtDecl-F StmtDecl) → (Free (stmt_step places (map-StmtDecl StmtDecl Entries (stmt_entries places) z)) → GoodStmt k (stmt_of_step cells (map-StmtDecl StmtDecl Stmt (stmt_of cells) z)))
    → Meant places cells k (stmt.roll-StmtDecl z)
rolled places cells k z h free =
    subst (λ (x : Stmt). GoodStmt k x) (sym (fold-roll-StmtDecl Stmt (stmt_of_step cells) z)) (h (subst (λ (f : Entries). Free f) (fold-roll-StmtDecl Entries (stmt_step places) z) free))

inner : {S : Type 0} (places : Places) (cells : CellTable) (k : ℕ) (first : S → StmtDecl) → ((s : S) → Meant places cells k (first s)) → (xs : List S) → Free (joined (map (stmt_entries places) (map first xs))) → GoodBody k (map (stmt_of cells) (map first xs))
inner places cells k first law [] f = (refl, refl)
inner places cells k first law (x ∷ xs) f =
    let one = law x (free_left (stmt_entries places (first x)) (joined (map (stmt_entries places) (map first xs))) f) in
    let more = inner places cells k first law xs (free_right (stmt_entries places (first x)) (joined (map (stmt_entries places) (map first xs))) f) in
    (and_true (stmt_below (stmt_of cells (first x)) k) (stmts_below (map (stmt_of cells) (map first xs)) k) one.0 more.0, and_true (stmt_has_lengths (stmt_of cells (first x))) (stmts_have_lengths (map (stmt_of cells) (map first xs))) one.1 more.1)

layer : {S : Type 0} (places : Places) (cells : CellTable) (k : ℕ) → Placed places cells k → (first : S → StmtDecl) → ((s : S) → Meant places cells k (first s)) → (y : StmtDecl-F S) → Meant places cells k (stmt.roll-StmtDecl (map-StmtDecl S StmtDecl first y))
layer places cells k at first law (StmtDecl-F.Set s e) =
    rolled places cells k (StmtDecl-F.Set s e) (λ f. good_set k (cells_at cells s).first (expr_of cells e) (first_below at s (whole_known places s f.0)) (expr_good places cells k at e f.1))
layer places cells k at first law (StmtDecl-F.SetCell s i e) =
    rolled places cells k (StmtDecl-F.SetCell s i e) (λ f. good_set_cell k (cells_at cells s) (expr_of cells i) (expr_of cells e) at.few (at.fits s (element_known places s f.0)) (expr_good places cells k at i (free_left (expr_entries places i) (expr_entries places e) f.1))
    (expr_good places cells k at e (free_right (expr_entries places i) (expr_entries places e) f.1)))
layer places cells k at first law (StmtDecl-F.If e xs ys) =
    let a = joined (map (stmt_entries places) (map first xs)) in
    let b = joined (map (stmt_entries places) (map first ys)) in
    rolled places cells k (StmtDecl-F.If e (map first xs) (map first ys)) (λ f. let rest = free_right (expr_entries places e) (a ++ b) f in
    good_if k (expr_of cells e) (map (stmt_of cells) (map first xs)) (map (stmt_of cells) (map first ys)) (expr_good places cells k at e (free_left (expr_entries places e) (a ++ b) f))
    (inner places cells k first law xs (free_left a b rest)) (inner places cells k first law ys (free_right a b rest)))

pub stmt_good : (places : Places) (cells : CellTable) (k : ℕ) → Placed places cells k → (s : StmtDecl) → Free (stmt_entries places s) → GoodStmt k (stmt_of cells s)
stmt_good places cells k at s = ind-StmtDecl (Meant places cells k) (λ x y is. subst (λ (z : StmtDecl-F StmtDecl). Meant places cells k (stmt.roll-StmtDecl z)) is (layer places cells k at (λ s. s.0) (λ s. s.1) y)) s

pub body_good : (places : Places) (cells : CellTable) (k : ℕ) → Placed places cells k → (body : List StmtDecl) → Free (stmts_entries places body) → GoodBody k (stmts_of cells body)
body_good places cells k at [] f = (refl, refl)
body_good places cells k at (x ∷ xs) f =
    let one = stmt_good places cells k at x (free_left (stmt_entries places x) (stmts_entries places xs) f) in
    let more = body_good places cells k at xs (free_right (stmt_entries places x) (stmts_entries places xs) f) in
    (and_true (stmt_below (stmt_of cells x) k) (stmts_below (stmts_of cells xs) k) one.0 more.0, and_true (stmt_has_lengths (stmt_of cells x)) (stmts_have_lengths (stmts_of cells xs)) one.1 more.1)
