-- A generated text is short.
use Rattle.std.proofs.Common.{ℕ, zero, suc, ◌+◌, ◌*◌, ◌<◌, ◌≤◌, ◌≡◌, refl, subst, sym, arith, cond, nat_lt, Bool, true, false, List, length, length-append}
use Rattle.std.specs.Fmt.{decimal}
use Rattle.std.proofs.lemmas.Fmt.{length-decimal-le}
use Rattle.san_base.specs.declared.limits.TheConstants.{MAX_MODEL_BYTES}
use Rattle.san_gen.specs.Texts.{child_line, farm_text, lines_from, model_text, next_station, ring_text, share_line}
use Rattle.san_gen.specs.declared.model.ModelKind.{ModelKind}
use Rattle.san_gen.specs.declared.model.ModelKind.TheVariants.{Farm, Ring}
use Rattle.san_gen.specs.declared.model.TheConstants.{MAX_COPIES}

four_digits : (n : ℕ) → n < 10000 → length (decimal n) ≤ 4
four_digits n h = length-decimal-le 4 n (omega arith) h (omega (arith, h))

child_length : (k : ℕ) → k < 10000 → length (child_line k) ≤ 60
unfolding child_line
child_length k h = let few = four_digits k h in simp length-append (omega arith)

below_next : (c : Bool) (k : ℕ) → k < 9999 → cond c (suc k) 0 < 10000
below_next true k h = omega (arith, h)
below_next false k h = omega arith

share_length : (copies k : ℕ) → k < 9999 → length (share_line copies k) ≤ 60
unfolding share_line
share_length copies k h =
    let few = four_digits k (omega (arith, h)) in
    let next = four_digits (next_station copies k) (below_next (nat_lt (suc k) copies) k h) in
    simp length-append (omega arith)

lines_length : (line : ℕ → List ℕ) → ((j : ℕ) → j < 9999 → length (line j) ≤ 60) → (k left : ℕ) → k + left < 9999 → length (lines_from line k left) ≤ left * 60
lines_length line short k zero h = omega arith
lines_length line short k (suc left) h =
    let here = short k (omega (arith, h)) in
    let rest = lines_length line short (suc k) left (omega (arith, h)) in
    omega (arith, here, rest, length-append (line k) (lines_from line (suc k) left))

pub short_farm : (text : List ℕ) (copies : ℕ) → copies ≤ MAX_COPIES → text ≡ farm_text copies → length text ≤ MAX_MODEL_BYTES
unfolding farm_text
short_farm text copies h is =
    let few = four_digits copies (omega (arith, h)) in
    subst (λ (t : List ℕ). length t ≤ MAX_MODEL_BYTES) (sym is) (simp length-append (omega arith))

pub short_ring : (text : List ℕ) (copies : ℕ) → copies ≤ MAX_COPIES → text ≡ ring_text copies → length text ≤ MAX_MODEL_BYTES
unfolding ring_text
short_ring text copies h is =
    let children = lines_length child_line (λ k b. child_length k (omega (arith, b))) 0 copies (omega (arith, h)) in
    let shares = lines_length (share_line copies) (share_length copies) 0 copies (omega (arith, h)) in
    subst (λ (t : List ℕ). length t ≤ MAX_MODEL_BYTES) (sym is) (simp length-append (omega arith))

pub short_text : (kind : ModelKind) (copies : ℕ) → copies ≤ MAX_COPIES → length (model_text kind copies) ≤ MAX_MODEL_BYTES
short_text Farm copies h = short_farm (farm_text copies) copies h refl
short_text Ring copies h = short_ring (ring_text copies) copies h refl
