-- A step more is counted.
use Rattle.std.proofs.Common.{ℕ, zero, suc, ◌+◌, ◌<◌, ◌≡◌, ◌∙◌, ap, arith, List, [], ◌∷◌, length, map, take}
use Rattle.std.specs.Prelude.{slice_index_or}
use Rattle.san_book.specs.Cores as book
use Rattle.san_book.specs.Journals.{commits, counted, is_claim, is_late, is_redo}
use Rattle.san_speculation.specs.Counting.{counts_in}
use Rattle.san_speculation.specs.Speculating.{step_in}
use Rattle.san_speculation.specs.declared.counting.Counts.{Counts}
use Rattle.san_speculation.specs.declared.step.Step.{Step}

count_next : (f : book.Step → ℕ) (js : List Step) (i : ℕ) (d : Step) → i < length js → counted f (map step_in (take (suc i) js)) ≡ counted f (map step_in (take i js)) + f (step_in (slice_index_or js i d))
count_next f [] i d l = absurd (omega (arith, l))
count_next f (j ∷ js) zero d l = omega arith
count_next f (j ∷ js) (suc i) d l = let e = count_next f js i d (omega (arith, l)) in omega (arith, e)

one_more : (i : ℕ) → i + 1 ≡ suc i
one_more i = omega arith

next : (f : book.Step → ℕ) (js : List Step) (i : ℕ) (d : Step) → i < length js → (x k : ℕ) → x ≡ counted f (map step_in (take i js)) → k ≡ f (step_in (slice_index_or js i d)) → x + k ≡ counted f (map step_in (take (i + 1) js))
next f js i d l x k so_far more =
    let e = count_next f js i d l in
    let last : counted f (map step_in (take (i + 1) js)) ≡ counted f (map step_in (take (suc i) js)) = ap (λ (n : ℕ). counted f (map step_in (take n js))) (one_more i) in
    omega (arith, so_far, more, e, last)

abbrev by : ℕ → ℕ → ℕ → ℕ → ℕ → Counts
by claims late rollbacks committed redone = record { claims = claims; late = late; rollbacks = rollbacks; committed = committed; redone = redone }

pub counts_more : (js : List Step) (i : ℕ) (d : Step) → i < length js → (c : Counts) (r claims late committed redone : ℕ) → c ≡ counts_in (map step_in (take i js)) r
    → claims ≡ is_claim (step_in (slice_index_or js i d)) → late ≡ is_late (step_in (slice_index_or js i d)) → committed ≡ commits (step_in (slice_index_or js i d)) → redone ≡ is_redo (step_in (slice_index_or js i d))
    → by (c.claims + claims) (c.late + late) c.rollbacks (c.committed + committed) (c.redone + redone) ≡ counts_in (map step_in (take (i + 1) js)) r
counts_more js i d l c r claims late committed redone so_far a b e f =
    ap (λ (x : ℕ). by x (c.late + late) c.rollbacks (c.committed + committed) (c.redone + redone)) (next is_claim js i d l c.claims claims (ap (λ (x : Counts). x.claims) so_far) a)
    ∙ (ap (λ (x : ℕ). by (counted is_claim (map step_in (take (i + 1) js))) x c.rollbacks (c.committed + committed) (c.redone + redone)) (next is_late js i d l c.late late (ap (λ (x : Counts). x.late) so_far) b)
    ∙ (ap (λ (x : ℕ). by (counted is_claim (map step_in (take (i + 1) js))) (counted is_late (map step_in (take (i + 1) js))) x (c.committed + committed) (c.redone + redone)) (ap (λ (x : Counts). x.rollbacks) so_far)
    ∙ (ap (λ (x : ℕ). by (counted is_claim (map step_in (take (i + 1) js))) (counted is_late (map step_in (take (i + 1) js))) r x (c.redone + redone)) (next commits js i d l c.committed committed (ap (λ (x : Counts). x.committed) so_far) e)
    ∙ ap (λ (x : ℕ). by (counted is_claim (map step_in (take (i + 1) js))) (counted is_late (map step_in (take (i + 1) js))) r (counted commits (map step_in (take (i + 1) js))) x) (next is_redo js i d l c.redone redone (ap (λ (x : Counts). x.redone) so_far) f))))
