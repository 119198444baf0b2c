-- Lines for numbers, one after another.
use Rattle.std.proofs.Common.{ℕ, zero, suc, ◌+◌, ◌-◌, ◌<◌, ◌≤◌, ◌≡◌, ◌∙◌, ap, sym, refl, arith, List, ◌++◌}
use Rattle.std.proofs.lemmas.List.{append-nil, append_assoc}
use Rattle.san_gen.specs.Texts.{lines_from}

first_line : (line : ℕ → List ℕ) (k n : ℕ) → k < n → lines_from line k (n - k) ≡ line k ++ lines_from line (k + 1) (n - (k + 1))
first_line line k n h = by_left (n - k) refl
  where
    by_left : (left : ℕ) → n - k ≡ left → lines_from line k left ≡ line k ++ lines_from line (k + 1) (n - (k + 1))
    by_left zero e = absurd (omega (arith, h, e))
    by_left (suc left) e = let rest : left ≡ n - (k + 1) = omega (arith, e) in let next : suc k ≡ k + 1 = omega arith in
        ap (λ (m : ℕ). line k ++ lines_from line (suc k) m) rest ∙ ap (λ (j : ℕ). line k ++ lines_from line j (n - (k + 1))) next

-- a line is added, and the others come behind it
pub one_more : (line : ℕ → List ℕ) (k n : ℕ) (text longer whole : List ℕ) → k < n → longer ≡ text ++ line k → text ++ lines_from line k (n - k) ≡ whole → longer ++ lines_from line (k + 1) (n - (k + 1)) ≡ whole
one_more line k n text longer whole h is so_far =
    ap (λ (t : List ℕ). t ++ lines_from line (k + 1) (n - (k + 1))) is
    ∙ append_assoc text (line k) (lines_from line (k + 1) (n - (k + 1)))
    ∙ ap (λ (t : List ℕ). text ++ t) (sym (first_line line k n h))
    ∙ so_far

pub all_lines : (line : ℕ → List ℕ) (k n : ℕ) (text whole : List ℕ) → n ≤ k → text ++ lines_from line k (n - k) ≡ whole → text ≡ whole
all_lines line k n text whole h so_far = let none : 0 ≡ n - k = omega (arith, h) in
    sym (append-nil text) ∙ ap (λ (m : ℕ). text ++ lines_from line k m) none ∙ so_far
