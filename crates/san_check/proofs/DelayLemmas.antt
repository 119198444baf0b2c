-- Without a fault a delay's constants are sound.
use Rattle.san_base.proofs.Bools.{and_true}
use Rattle.std.proofs.Common.{◌≡◌, ℕ, ◌+◌, ◌<◌, ◌≤◌, false, ◌&&◌, nat_eq, nat_lt, nat_le, List, [], ◌∷◌, length, map, sum, None, All, refl, arith}
use Rattle.std.proofs.lemmas.Bool.{ltb-false, leb-false}
use Rattle.std.proofs.lemmas.List.Elements.{All-cons, All-nil}
use Rattle.std.proofs.lemmas.List.Sums.{sum_by-cons}
use Rattle.san_delay.specs.Sound.{IsDelay, IsSoundDelay}
use Rattle.san_text.specs.declared.syntax.DistDecl.{DistDecl}
use Rattle.san_text.specs.declared.syntax.DistDecl.TheVariants as dist
use Rattle.san_expr.specs.Below.{places_below, dist_below}
use Rattle.san_net.specs.Lengths.{has_lengths, dist_has_lengths}
use Rattle.san_check.specs.walk.Entries.{code}
use Rattle.san_check.specs.walk.Expression.{Places, expr_entries}
use Rattle.san_check.specs.walk.Activity.{is_outside, delay_code, weight_code, summed, table_entries, dist_entries}
use Rattle.san_check.specs.build.Cells.{CellTable}
use Rattle.san_check.specs.build.Expression.{expr_of, dist_of}
use Rattle.san_check.specs.Formed.{IsFormedDist}
use Rattle.san_check.proofs.FreeLemmas.{Free, free_left, free_right, code_free, else_first, else_second}
use Rattle.san_check.proofs.ListedLemmas.{positive}
use Rattle.san_check.proofs.FitLemmas.{Placed, expr_good}
use Rattle.san_check.proofs.ActLemmas.{GoodPart, within}

-- entries of a table behind n others, whose weights have this sum
record Sound (n s : ℕ) (es : List (ℕ × ℕ)) : Type 0 where
  pub few : n + length es ≤ 64
  pub delays : All (λ e. IsDelay e.0) es
  pub most : s + sum (map (λ e. e.1) es) ≤ 4294967296
  pub some : 1 ≤ length es → 1 ≤ s + sum (map (λ e. e.1) es)

delay_free : (n d : ℕ) → delay_code n d ≡ None → IsDelay d × (n < 64)
unfolding delay_code
delay_free n d h =
    let far = leb-false 64 n (code_free 46 (nat_le 64 n) (else_second (code 34 (is_outside d 1 4294967296)) (code 46 (nat_le 64 n)) h)) in
    (within 34 d 1 4294967296 (else_first (code 34 (is_outside d 1 4294967296)) (code 46 (nat_le 64 n)) h), omega (arith, far))

weight_free : (s more : ℕ) → weight_code s more ≡ None → (s ≤ 4294967296) × ((nat_eq more 0 && nat_eq s 0) ≡ false)
unfolding weight_code
weight_free s more h = (
  ltb-false 4294967296 s (code_free 35 (nat_lt 4294967296 s) (else_first (code 35 (nat_lt 4294967296 s)) (code 36 (nat_eq more 0 && nat_eq s 0)) h)),
  code_free 36 (nat_eq more 0 && nat_eq s 0) (else_second (code 35 (nat_lt 4294967296 s)) (code 36 (nat_eq more 0 && nat_eq s 0)) h),
)

last_weight : (s : ℕ) (es : List (ℕ × ℕ)) (rest : ℕ) → (nat_eq (length es) 0 && nat_eq s 0) ≡ false → (1 ≤ length es → 1 ≤ s + rest) → 1 ≤ s + rest
last_weight s [] rest h more = let p = positive s h in omega (arith, p)
last_weight s (e ∷ es) rest h more = more (omega arith)

table_free : (n s : ℕ) (es : List (ℕ × ℕ)) → n ≤ 64 → s ≤ 4294967296 → Free (table_entries n s es) → Sound n s es
table_free n s [] few most f = record { few = omega (arith, few); delays = All-nil (λ e. IsDelay e.0); most = omega (arith, most); some = λ h. absurd (omega (arith, h)) }
table_free n s (e ∷ es) few most f =
    let d = delay_free n e.0 f.0 in
    let w = weight_free (summed s e.1) (length es) f.1.0 in
    let exact : summed s e.1 ≡ s + e.1 = omega (arith, w.0) in
    let more = table_free (n + 1) (summed s e.1) es (omega (arith, d.1)) w.0 f.1.1 in
    let step : sum (map (λ (e : ℕ × ℕ). e.1) (e ∷ es)) ≡ e.1 + sum (map (λ (e : ℕ × ℕ). e.1) es) = sum_by-cons (λ (n : ℕ). n) e.1 (map (λ (e : ℕ × ℕ). e.1) es) in
    let total : summed s e.1 + sum (map (λ e. e.1) es) ≡ s + sum (map (λ e. e.1) (e ∷ es)) = omega (arith, exact, step) in
    let last = last_weight (summed s e.1) es (sum (map (λ e. e.1) es)) w.1 more.some in
    record {
      few = omega (arith, more.few);
      delays = All-cons (λ e. IsDelay e.0) e es d.0 more.delays;
      most = omega (arith, total, more.most);
      some = λ h. omega (arith, total, last);
    }

pub dist_good : (places : Places) (cells : CellTable) (k : ℕ) → Placed places cells k → (d : DistDecl) → IsFormedDist d → Free (dist_entries places d) → GoodPart (dist_below (dist_of cells d) k) (dist_has_lengths (dist_of cells d)) (IsSoundDelay (dist_of cells d))
unfolding dist_entries dist_of
dist_good places cells k at (dist.Det e) formed f = let g = expr_good places cells k at e f in record { below = g.0; lengths = g.1; accepted = tt }
dist_good places cells k at (dist.Uniform a b) formed f =
    let g = expr_good places cells k at a (free_left (expr_entries places a) (expr_entries places b) f) in
    let h = expr_good places cells k at b (free_right (expr_entries places a) (expr_entries places b) f) in
    record { below = and_true (places_below (expr_of cells a) k) _ g.0 h.0; lengths = and_true (has_lengths (expr_of cells a)) _ g.1 h.1; accepted = tt }
dist_good places cells k at (dist.Geom p q) formed f =
    let a = within 33 p 1 1000 f.0 in
    let b = within 33 q p 1000 f.1.0 in
    record { below = refl; lengths = refl; accepted = record { some = omega (arith, a.0, a.1); most = omega (arith, a.0, a.1, b.0, b.1); parts = omega (arith, b.0, b.1) } }
dist_good places cells k at (dist.Table es) formed f =
    let t = table_free 0 0 es (omega arith) (omega arith) f in
    let some = t.some formed in
    record { below = refl; lengths = refl; accepted = record { size = (formed, omega (arith, t.few)); delays = t.delays; weights = (omega (arith, some), omega (arith, t.most)) } }
