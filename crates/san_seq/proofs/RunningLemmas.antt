-- What holds of a run's state stays after a renewal, a timer's firing and a completion.
use Rattle.std.proofs.Common.{ℕ, zero, suc, ◌+◌, ◌≤◌, ◌<◌, ◌≡◌, ◌≢◌, ◌∙◌, ◌⊎◌, inl, inr, ap, sym, refl, subst, arith, List, [], ◌∷◌, length, Option, Some, None, Result, Ok, Err, All, slice_index_or, slice_set}
use Rattle.std.specs.Prelude.{slice_index}
use Rattle.std.proofs.lemmas.Bool.{cases_eq}
use Rattle.std.proofs.lemmas.List.{get_or-set_same, get_or-set_other, length-set}
use Rattle.san_base.specs.declared.ending.Trap.{Trap}
use Rattle.san_base.specs.declared.limits.Limits.{Limits}
use Rattle.san_law.proofs.Places.{scatter_length}
use Rattle.san_law.specs.Activity.{Effected, Part, activity_of, case_stream, completed, done_by, with_case}
use Rattle.san_law.specs.Net.{Done, Local, Net, Row, no_row, without_timer}
use Rattle.san_law.specs.Renewal.{Due}
use Rattle.san_law.specs.State.{State, local_of, slots_of}
use Rattle.san_law.specs.Step as law
use Rattle.san_law.specs.Network.{part_at}
use Rattle.san_net.specs.Network.{Network, net_of, network_in}
use Rattle.san_net.specs.declared.part.Part as net
use Rattle.san_net.specs.Runs.{limits_in}
use Rattle.san_seq.specs.inner.Rows.{AreDrawn, AreRows, IsLike, row_at}
use Rattle.san_seq.specs.inner.Running.{AreCounted, IsDrawn, IsRunning, with_rows}
use Rattle.san_seq.proofs.AnswerLemmas.{Happening, happening_by}

-- what holds of each row still does after one is set
each_set : (P : ℕ → Row → Type 0) (rows : List Row) (j : ℕ) (new : Row) → j < length rows → ((i : ℕ) → P i (row_at rows i)) → P j new → (i : ℕ) → P i (row_at (slice_set rows j new) i)
each_set P rows j new h all here i = by_case (cases_eq i j)
  where
    by_case : (i ≡ j) ⊎ (i ≢ j) → P i (row_at (slice_set rows j new) i)
    by_case (inl e) =
        subst (P i) (sym (ap (row_at (slice_set rows j new)) e ∙ get_or-set_same rows j new no_row h))
        (subst (λ (x : ℕ). P x new) (sym e) here)
    by_case (inr n) = subst (P i) (sym (get_or-set_other rows j i new no_row n)) (all i)

-- rows of the same lengths are rows of the same parts
like_rows : (parts : List net.Part) (old rows : List Row) → AreRows parts old → length rows ≡ length old
    → ((i : ℕ) → (length (row_at rows i).timers ≡ length (row_at old i).timers) × (length (row_at rows i).delays ≡ length (row_at old i).delays) × (length (row_at rows i).cases ≡ length (row_at old i).cases))
    → AreRows parts rows
like_rows parts old rows are sized like = record {
  each = sized ∙ are.each;
  fit = λ j p is. (let was = are.fit j p is in record { timers = (like j).0 ∙ was.timers; delays = (like j).1 ∙ was.delays; cases = (like j).2 ∙ was.cases });
}

rows_set : (parts : List net.Part) (rows : List Row) (j : ℕ) (new : Row) → j < length rows → AreRows parts rows
    → length new.timers ≡ length (row_at rows j).timers → length new.delays ≡ length (row_at rows j).delays → length new.cases ≡ length (row_at rows j).cases
    → AreRows parts (slice_set rows j new)
rows_set parts rows j new h are timers delays cases =
    like_rows parts rows (slice_set rows j new) are (length-set rows j new)
    (each_set (λ i r. (length r.timers ≡ length (row_at rows i).timers) × (length r.delays ≡ length (row_at rows i).delays) × (length r.cases ≡ length (row_at rows i).cases)) rows j new h (λ i. (refl, refl, refl)) (timers, delays, cases))

-- after a renewal
pub renewed_drawn : (n : Network) (limits : Limits) (s : State) (rows : List Row) → IsRunning n limits s → length rows ≡ length s.rows
    → ((i : ℕ) → IsLike (row_at rows i) (row_at s.rows i)) → AreDrawn (s.count + 1) rows → IsDrawn n limits (s.count + 1) (with_rows rows s)
renewed_drawn n limits s rows is sized like drawn = record {
  rows = like_rows n.parts s.rows rows is.rows sized (λ i. ((like i).timers, (like i).delays, ap length (like i).cases));
  delays = drawn;
  cases = λ i. subst (λ (xs : List ℕ). All (λ m. m ≤ s.count) xs) (sym (like i).cases) (is.cases i);
  marking = is.marking;
  stable = is.stable;
  time = is.time;
  burst = is.burst;
  count = is.count;
  last = is.last;
}

-- after a timer's firing by the horizon
pub fired_drawn : (any : Net) (n : Network) (limits : Limits) (most : ℕ) (s : State) (d : Due) → IsDrawn n limits most s → d.leaf < length s.rows → d.time ≤ limits.horizon.0
    → IsDrawn n limits most (law.fired any s s.rows d)
unfolding without_timer
fired_drawn any n limits most s d is h due = record {
  rows = rows_set n.parts s.rows d.leaf (without_timer (row_at s.rows d.leaf) d.act) h is.rows (length-set (row_at s.rows d.leaf).timers d.act None) refl refl;
  delays = each_set (λ i (x : Row). All (λ m. m ≤ most) x.delays) s.rows d.leaf (without_timer (row_at s.rows d.leaf) d.act) h is.delays (is.delays d.leaf);
  cases = each_set (λ i (x : Row). All (λ m. m ≤ s.count) x.cases) s.rows d.leaf (without_timer (row_at s.rows d.leaf) d.act) h is.cases (is.cases d.leaf);
  marking = is.marking;
  stable = is.marking;
  time = due;
  burst = omega arith;
  count = is.count;
  last = is.last;
}

-- a completion takes one case draw more
done_row : (draw : ℕ → ℕ → ℕ) (part : Part) (k : ℕ) (l : Local) (d : Done) → completed draw part k l ≡ Ok d → d.left.row ≡ with_case l.row k
done_row draw part k l d is = by_effect ((activity_of part k).complete (draw (case_stream part k) (slice_index l.row.cases k)) l.values) is
  where
    same_done : (x y : Done) → (let r : Result Done Trap = Ok x in r) ≡ Ok y → x ≡ y
    same_done x y e = cc

    by_effect : (e : Result Effected Trap) → done_by l.row k (activity_of part k) e ≡ Ok d → d.left.row ≡ with_case l.row k
    by_effect (Err trap) q = absurd cc
    by_effect (Ok e) q = sym (ap (λ (x : Done). x.left.row) (same_done _ d q))

all_counted : (most k : ℕ) (cases : List ℕ) → All (λ m. m ≤ most) cases → All (λ m. m ≤ most + 1) (slice_set cases k (slice_index cases k + 1))
all_counted most k cases all i d h = by_case (cases_eq i k)
  where
    inside : i < length cases
    inside = omega (arith, h, length-set cases k (slice_index cases k + 1))

    by_case : (i ≡ k) ⊎ (i ≢ k) → slice_index_or (slice_set cases k (slice_index cases k + 1)) i d ≤ most + 1
    by_case (inl e) =
        let here : k < length cases = subst (λ (x : ℕ). x < length cases) e inside in
        let now = ap (λ (x : ℕ). slice_index_or (slice_set cases k (slice_index cases k + 1)) x d) e ∙ get_or-set_same cases k (slice_index cases k + 1) d here in
        omega (arith, now, all k 0 here)
    by_case (inr n) = omega (arith, get_or-set_other cases k i (slice_index cases k + 1) d n, all i d inside)

more_drawn : (a b : ℕ) (rows : List Row) → a ≤ b → AreDrawn a rows → AreDrawn b rows
more_drawn a b rows h all i k d in_it = omega (arith, h, all i k d in_it)

more_counted : (a b : ℕ) (rows : List Row) → a ≤ b → AreCounted a rows → AreCounted b rows
more_counted a b rows h all i k d in_it = omega (arith, h, all i k d in_it)

module _ (n : Network) (draw : ℕ → ℕ → ℕ) (limits : Limits) (s : State) (burst j k : ℕ) (is : IsDrawn n limits (s.count + 1) s) (h : j < length s.rows) (most : burst ≤ limits.burst) (room : s.count < limits.events) where
  with_done : (d : Done) → (net_of n draw (limits_in limits)).done j k (local_of (net_of n draw (limits_in limits)) s j) ≡ Ok d
      → IsRunning n limits (law.with_local (net_of n draw (limits_in limits)) s burst j d.left)
  with_done d done =
      let row : d.left.row ≡ with_case (row_at s.rows j) k = done_row draw (part_at (network_in n) j) k (local_of (net_of n draw (limits_in limits)) s j) d done in
      let new = with_case (row_at s.rows j) k in
      let set : slice_set s.rows j d.left.row ≡ slice_set s.rows j new = ap (slice_set s.rows j) row in
      record {
        rows = subst (AreRows n.parts) (sym set) (rows_set n.parts s.rows j new h is.rows refl refl (length-set (row_at s.rows j).cases k (slice_index (row_at s.rows j).cases k + 1)));
        delays = subst (AreDrawn (s.count + 1)) (sym set) (each_set (λ i (x : Row). All (λ m. m ≤ s.count + 1) x.delays) s.rows j new h is.delays (is.delays j));
        cases = subst (AreCounted (s.count + 1)) (sym set) (each_set (λ i (x : Row). All (λ m. m ≤ s.count + 1) x.cases) s.rows j new h (more_counted s.count (s.count + 1) s.rows (omega arith) is.cases) (all_counted s.count k (row_at s.rows j).cases (is.cases j)));
        marking = scatter_length (slots_of (net_of n draw (limits_in limits)) j) d.left.values s.marking ∙ is.marking;
        stable = is.stable;
        time = is.time;
        burst = most;
        count = omega (arith, room);
        last = λ i e. (let same = same_leaf j i e in omega (arith, same, h, is.rows.each));
      }
    where
      same_leaf : (x y : ℕ) → (let o : Option ℕ = Some x in o) ≡ Some y → x ≡ y
      same_leaf x y e = cc

  pub by_done : (r : Result Done Trap) → (net_of n draw (limits_in limits)).done j k (local_of (net_of n draw (limits_in limits)) s j) ≡ r
      → (t : Happening) → happening_by (law.complete (net_of n draw (limits_in limits)) s burst j k r).0 ≡ Ok t
      → IsRunning n limits (law.complete (net_of n draw (limits_in limits)) s burst j k r).1
  by_done (Ok d) done t is = with_done d done
  by_done (Err trap) done t is = absurd cc

index_small : (cs : List ℕ) (k most : ℕ) → ((i d : ℕ) → i < length cs → slice_index_or cs i d ≤ most) → slice_index cs k ≤ most
index_small [] k most all = omega arith
index_small (c ∷ cs) zero most all = all 0 0 (omega arith)
index_small (c ∷ cs) (suc k) most all = index_small cs k most (λ i d h. all (suc i) d (omega (arith, h)))

-- the number of a case draw
pub counted_small : (rows : List Row) (most j k : ℕ) → AreCounted most rows → slice_index (row_at rows j).cases k ≤ most
counted_small rows most j k all = index_small (row_at rows j).cases k most (all j)

-- between steps the draws' numbers are as small as during one
pub ready : (n : Network) (limits : Limits) (s : State) → IsRunning n limits s → IsDrawn n limits (s.count + 1) s
ready n limits s is = record {
  rows = is.rows;
  delays = more_drawn s.count (s.count + 1) s.rows (omega arith) is.delays;
  cases = is.cases;
  marking = is.marking;
  stable = is.stable;
  time = is.time;
  burst = is.burst;
  count = is.count;
  last = is.last;
}
