-- The lines of rewards, one after another.
use Rattle.std.proofs.Common.{ℕ, zero, suc, ◌+◌, ◌<◌, ◌≤◌, ◌≡◌, ◌∙◌, ap, sym, arith, append_assoc, append-nil, List, [], ◌∷◌, ◌++◌, length, take, slice_index_or}
use Rattle.std.proofs.lemmas.List.{take_all}
use Rattle.san_net.specs.declared.part.Reward.{Reward}
use Rattle.san_summary.specs.declared.summary.Summary.{Summary}
use Rattle.san_batch.specs.Texts.{batch_line, batch_lines}

lines_suc : (rs : List Reward) (ss : List Summary) (k : ℕ) (d : Reward) (e : Summary) → k < length rs → k < length ss
    → batch_lines (take (suc k) rs) ss ≡ batch_lines (take k rs) ss ++ batch_line (slice_index_or rs k d).name (slice_index_or ss k e)
lines_suc [] ss k d e h i = absurd (omega (arith, h))
lines_suc (r ∷ rs) [] k d e h i = absurd (omega (arith, i))
lines_suc (r ∷ rs) (s ∷ ss) zero d e h i = append-nil (batch_line r.name s)
lines_suc (r ∷ rs) (s ∷ ss) (suc k) d e h i =
    ap (λ (xs : List ℕ). batch_line r.name s ++ xs) (lines_suc rs ss k d e (omega (arith, h)) (omega (arith, i)))
    ∙ sym (append_assoc (batch_line r.name s) (batch_lines (take k rs) ss) (batch_line (slice_index_or rs k d).name (slice_index_or ss k e)))

-- one line more
pub line_more : (rs : List Reward) (ss : List Summary) (k : ℕ) (x : Reward) (y : Summary) (front text new : List ℕ) → k < length rs → k < length ss → x ≡ slice_index_or rs k x → y ≡ slice_index_or ss k y
    → text ≡ front ++ batch_lines (take k rs) ss → new ≡ text ++ batch_line x.name y → new ≡ front ++ batch_lines (take (k + 1) rs) ss
line_more rs ss k x y front text new h i is_x is_y is more =
    let next : suc k ≡ k + 1 = omega arith in
    let line = batch_line (slice_index_or rs k x).name (slice_index_or ss k y) in
    more
    ∙ (λ m. text ++ batch_line (is_x m).name (is_y m))
    ∙ ap (λ (xs : List ℕ). xs ++ line) is
    ∙ append_assoc front (batch_lines (take k rs) ss) line
    ∙ ap (λ (xs : List ℕ). front ++ xs) (sym (lines_suc rs ss k x y h i) ∙ ap (λ (n : ℕ). batch_lines (take n rs) ss) next)

pub all_lines : (rs : List Reward) (ss : List Summary) (k : ℕ) (front text : List ℕ) → length rs ≤ k → text ≡ front ++ batch_lines (take k rs) ss → text ≡ front ++ batch_lines rs ss
all_lines rs ss k front text h is = is ∙ ap (λ (xs : List Reward). front ++ batch_lines xs ss) (take_all k rs h)

-- before the first
pub no_line : (front text : List ℕ) (ss : List Summary) (rs : List Reward) → text ≡ front → text ≡ front ++ batch_lines (take 0 rs) ss
no_line front text ss rs is = is ∙ sym (append-nil front)
