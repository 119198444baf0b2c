-- A renewal in the values that a piece read.
use Rattle.std.proofs.Common.{ℕ, ℤ, suc, ◌≡◌, ◌∙◌, ◌↔◌, ap, sym, refl, subst, Bool, true, false, not, IsTrue, true≢false, ◌||◌, nat_eq, List, [], ◌∷◌, None, Result}
use Rattle.std.specs.Prelude.{if◌then◌else◌}
use Rattle.std.proofs.lemmas.Bool.{eq-eqb, eqb-true}
use Rattle.san_base.proofs.Bools.{and_true, both_true}
use Rattle.san_base.specs.declared.ending.Trap.{Trap}
use Rattle.san_base.specs.declared.piece.Kind.{Kind}
use Rattle.san_base.specs.declared.piece.Kind.TheVariants as piece
use Rattle.san_base.specs.Rated.{rated_by}
use Rattle.san_draw.specs.Key.{draw_of}
use Rattle.san_expr.specs.Meets.{Evaluates}
use Rattle.san_expr.specs.Value.{value_of}
use Rattle.san_expr.specs.View.{plain}
use Rattle.san_expr.specs.declared.expr.Expr.{Expr}
use Rattle.san_expr.proofs.WholeLemmas.{plain_meets, value_reads}
use Rattle.san_law.specs.Clocks.{has_pair, renewed_row, same_list, some_pair}
use Rattle.san_law.specs.Net.{Faulty, Fresh, Renewing}
use Rattle.san_law.specs.Piece.{LeafState, Outcome, leaf_view}
use Rattle.san_law.specs.Piece as law
use Rattle.san_net.specs.Instants.{Named}
use Rattle.san_net.specs.Leaf.{activities_from, kind_in, leaf_of}
use Rattle.san_net.specs.declared.atomic.ImpulseTerm.{ImpulseTerm}
use Rattle.san_net.specs.declared.part.Part.{Part}
use Rattle.san_leaf.specs.Lawful.{net_of_part}
use Rattle.san_leaf.specs.Pieces.{IsSound, reads_from, slots_in}
use Rattle.san_leaf.specs.Outcomes.{piece_by}
use Rattle.san_leaf.specs.inner.Gathers.{joined, shared_of}
use Rattle.san_leaf.specs.inner.Renewals.{any_pair, refreshed_by}
use Rattle.san_leaf.proofs.GatherLemmas.{firsts, joined_reads, joined_sees}

-- lists that are compared as wholes
same_only : (xs ys : List ℕ) → same_list xs ys ≡ true → xs ≡ ys
same_only [] [] e = refl
same_only [] (y ∷ ys) e = cc
same_only (x ∷ xs) [] e = cc
same_only (x ∷ xs) (y ∷ ys) e =
    let both = both_true (nat_eq x y) (same_list xs ys) e in
    ap (λ (z : ℕ). z ∷ xs) (eqb-true x y both.0) ∙ ap (λ (zs : List ℕ). y ∷ zs) (same_only xs ys both.1)

equal_same : (xs ys : List ℕ) → xs ≡ ys → same_list xs ys ≡ true
equal_same [] [] e = refl
equal_same [] (y ∷ ys) e = cc
equal_same (x ∷ xs) [] e = cc
equal_same (x ∷ xs) (y ∷ ys) e = and_true (nat_eq x y) (same_list xs ys) (eq-eqb x y cc) (equal_same xs ys cc)

pub differ_by : (b : Bool) (xs ys : List ℕ) → (IsTrue b ↔ (xs ≡ ys)) → not b ≡ not (same_list xs ys)
differ_by true xs ys tells = ap not (sym (equal_same xs ys (tells.0 refl)))
differ_by false xs ys tells = by_test (same_list xs ys) refl
  where
    by_test : (c : Bool) → same_list xs ys ≡ c → true ≡ not c
    by_test true e = absurd (true≢false (sym (tells.1 (same_only xs ys e))))
    by_test false e = refl

-- an activity with a pair, by the law
pairs_are : (terms : List ImpulseTerm) (k : ℕ) (acts : List Named) → some_pair (activities_from terms k acts) ≡ any_pair acts
pairs_are terms k [] = refl
pairs_are terms k (a ∷ acts) = ap (λ (b : Bool). has_pair (kind_in a.1.kind) || b) (pairs_are terms (suc k) acts)

-- a term's value over a plain list
pub rate_is : (values left : List ℕ) (e : Expr) (r : Result ℤ Trap) → Evaluates (plain values) (plain left) (value_of e) r → (rated_by r ≡ rated_by (value_of e values).answer) × (left ≡ values)
rate_is values left e r did =
    let met = plain_meets values left (value_of e) r did.meets in
    (ap rated_by (sym met.0), met.1 ∙ (value_reads e values).0)

-- the renewal of a piece, by the law
module _ (p : Part) (seed time : ℕ) (base : LeafState) where
  abbrev row_at : List ℕ → Renewing
  row_at v = renewed_row (draw_of seed) (leaf_of p) time base.seen (record { values = v; row = base.row })

  outcome_is : (v : List ℕ) (r : Renewing) → law.renewed_outcome (net_of_part (draw_of seed) p) 0 base v r ≡ refreshed_by p base v r
  outcome_is v (Faulty k t) = refl
  outcome_is v (Fresh r) = ap (λ (b : Bool). record { completions = []; writes = []; state = record { values = base.values; row = r; seen = if b then v else [] }; rates = (leaf_of p).rates v; fault = None; more = false }) (pairs_are p.atomic.impulses 0 p.atomic.acts)

  pub refresh_sound : (kind : Kind) (log : List (ℕ × ℕ)) (values : List ℕ) (outcome : Outcome) (drawn : ℕ) → kind ≡ piece.Refresh → firsts log ≡ shared_of (slots_in p)
      → values ≡ joined (slots_in p) base.values log → drawn ≡ seed
      → outcome ≡ refreshed_by p base values (renewed_row (draw_of drawn) (leaf_of p) time base.seen (record { values = values; row = base.row })) → IsSound (piece_by p seed kind base time log outcome)
  refresh_sound kind log values outcome drawn is places joins seeded makes =
      let made : outcome ≡ refreshed_by p base (joined (slots_in p) base.values log) (row_at (joined (slots_in p) base.values log)) =
      makes ∙ ap (λ (d : ℕ). refreshed_by p base values (renewed_row (draw_of d) (leaf_of p) time base.seen (record { values = values; row = base.row }))) seeded ∙ ap (λ (v : List ℕ). refreshed_by p base v (row_at v)) joins in
      subst (λ (k : Kind). IsSound (piece_by p seed k base time log outcome)) (sym is) (record {
        makes = λ shared agree.
            outcome_is (leaf_view (slots_in p) base.values shared) (row_at (leaf_view (slots_in p) base.values shared))
            ∙ ap (λ (v : List ℕ). refreshed_by p base v (row_at v)) (joined_sees (slots_in p) base.values log shared places agree) ∙ sym made;
        reads = λ shared agree.
            ap (λ (v : List ℕ). reads_from (λ i. true) 0 (slots_in p) v) (joined_sees (slots_in p) base.values log shared places agree) ∙ joined_reads 0 (slots_in p) base.values log places;
      })
