-- A completion in a state.
use Rattle.std.proofs.Common.{ℕ, zero, suc, ◌+◌, ◌≡◌, ◌∙◌, ap, refl, subst, List, [], ◌∷◌, Some, Result, Ok, Err, IfErr, slice_index_or, slice_set}
use Rattle.san_base.specs.declared.ending.Trap.{Trap}
use Rattle.san_law.specs.Net.{Done, Net, Row}
use Rattle.san_law.specs.State.{State, local_of, slots_of}
use Rattle.san_law.specs.Step as law
use Rattle.san_law.specs.Network.{Limits}
use Rattle.san_net.specs.Network.{Network}
use Rattle.san_seq.specs.inner.Completions.{completed_by, leaf_left, done_left}
use Rattle.san_seq.specs.inner.Rows.{row_at}
use Rattle.san_seq.proofs.AnswerLemmas.{Happening, case_by, happening_by}

-- a state after a completion
abbrev pub left_rows : State → ℕ → ℕ → List ℕ → List Row → State
left_rows s burst j m rows = record { time = s.time; marking = m; stable = s.stable; rows = rows; burst = burst; last = Some j; count = s.count + 1 }

abbrev pub left_with : State → ℕ → ℕ → List ℕ → Row → State
left_with s burst j m row = left_rows s burst j m (slice_set s.rows j row)

module _ (net : Net) (s : State) (burst j k : ℕ) where
  -- by what the law's completion leaves
  by_done : (case : ℕ) (m : List ℕ) (row : Row) (r : Result Done Trap) → completed_by (Ok case) m row ≡ done_left (slots_of net j) s.marking r
      → (case_by s.time j k (Ok case) ≡ happening_by (law.complete net s burst j k r).0) × (left_with s burst j m row ≡ (law.complete net s burst j k r).1)
  by_done case m row (Ok d) is =
      let got = ok_is (case, m, row) _ is in (
        ap (λ (x : ℕ × List ℕ × Row). (let answered : Result Happening (ℕ × law.Ending) = Ok (record { time = s.time; leaf = j; act = k; case = x.0 }) in answered)) got,
        ap (λ (x : ℕ × List ℕ × Row). left_with s burst j x.1 x.2) got,
      )
    where
      ok_is : (x y : ℕ × List ℕ × Row) → (let r : Result (ℕ × List ℕ × Row) Trap = Ok x in r) ≡ Ok y → x ≡ y
      ok_is x y e = cc
  by_done case m row (Err trap) is = absurd cc

  by_trap : (trap : Trap) (m : List ℕ) (row : Row) (r : Result Done Trap) → completed_by (Err trap) m row ≡ done_left (slots_of net j) s.marking r
      → (case_by s.time j k (Err trap) ≡ happening_by (law.complete net s burst j k r).0) × (s ≡ (law.complete net s burst j k r).1)
  by_trap trap m row (Ok d) is = absurd cc
  by_trap trap m row (Err other) is = (ap (λ (x : Trap). case_by s.time j k (Err x)) (err_is trap other is), refl)
    where
      err_is : (x y : Trap) → (let r : Result (ℕ × List ℕ × Row) Trap = Err x in r) ≡ Err y → x ≡ y
      err_is x y e = cc

  pub completes : (case : ℕ) (m : List ℕ) (row : Row) → completed_by (Ok case) m row ≡ done_left (slots_of net j) s.marking (net.done j k (local_of net s j))
      → (case_by s.time j k (Ok case) ≡ happening_by (law.complete net s burst j k (net.done j k (local_of net s j))).0)
      × (left_with s burst j m row ≡ (law.complete net s burst j k (net.done j k (local_of net s j))).1)
  completes case m row is = by_done case m row (net.done j k (local_of net s j)) is

  pub traps : (trap : Trap) (m : List ℕ) (row : Row) → completed_by (Err trap) m row ≡ done_left (slots_of net j) s.marking (net.done j k (local_of net s j))
      → (case_by s.time j k (Err trap) ≡ happening_by (law.complete net s burst j k (net.done j k (local_of net s j))).0)
      × (s ≡ (law.complete net s burst j k (net.done j k (local_of net s j))).1)
  traps trap m row is = by_trap trap m row (net.done j k (local_of net s j)) is

-- a row put back where it stood
pub put_same : (rows : List Row) (j : ℕ) (r d : Row) → r ≡ slice_index_or rows j d → slice_set rows j r ≡ rows
put_same [] j r d is = refl
put_same (x ∷ xs) zero r d is = ap (λ (y : Row). y ∷ xs) is
put_same (x ∷ xs) (suc j) r d is = ap (λ (ys : List Row). x ∷ ys) (put_same xs j r d is)

-- a state with another marking and other rows
abbrev pub with_both : State → List ℕ → List Row → State
with_both s m rows = record { time = s.time; marking = m; stable = s.stable; rows = rows; burst = s.burst; last = s.last; count = s.count }

-- what a trap leaves is the state
pub kept : (v s : State) (final m : List ℕ) (rows : List Row) → final ≡ m → m ≡ v.marking → rows ≡ v.rows → v ≡ s → with_both v final rows ≡ s
kept v s final m rows written same still e = ap (λ (x : List ℕ). with_both v x rows) (written ∙ same) ∙ ap (with_both v v.marking) still ∙ e

pub if_err : (r : Result ℕ Trap) (trap : Trap) (P : Trap → Type 0) → r ≡ Err trap → IfErr r P → P trap
if_err r trap P is holds = subst (λ (x : Result ℕ Trap). IfErr x P) is holds

-- what the completion left, in the state's own words
pub done_in : (n : Network) (draw : ℕ → ℕ → ℕ) (limits : Limits) (v s : State) (m : List ℕ) (j k : ℕ) → m ≡ v.marking → v ≡ s
    → leaf_left n draw limits j k m (row_at v.rows j) ≡ leaf_left n draw limits j k s.marking (row_at s.rows j)
done_in n draw limits v s m j k lent e = ap (λ (x : List ℕ). leaf_left n draw limits j k x (row_at v.rows j)) lent ∙ ap (λ (x : State). leaf_left n draw limits j k x.marking (row_at x.rows j)) e

pub left_is : (v s : State) (burst j : ℕ) (final m : List ℕ) (rows : List Row) (row : Row) → final ≡ m → rows ≡ slice_set v.rows j row → v ≡ s → left_rows v burst j final rows ≡ left_with s burst j m row
left_is v s burst j final m rows row written is e = ap (λ (x : List ℕ). left_rows v burst j x rows) written ∙ ap (left_rows v burst j m) is ∙ ap (λ (x : State). left_with x burst j m row) e
