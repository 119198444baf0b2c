-- What a leaf waits for can be claimed.
use Rattle.std.proofs.Common.{ℕ, ◌+◌, ◌-◌, ◌<◌, ◌≤◌, ◌≡◌, ap, refl, arith, length, Option, Some, None, Bool, true, false, nat_le}
use Rattle.std.specs.Prelude.{IfSome, if◌then◌else◌}
use Rattle.std.proofs.lemmas.Bool.{leb-true}
use Rattle.std.proofs.lemmas.Option.{slice_get_within}
use Rattle.san_base.specs.declared.limits.TheConstants.{MAX_ACTS, MAX_HORIZON}
use Rattle.san_book.specs.Plans as book
use Rattle.san_book.specs.Plans.{in_time, when}
use Rattle.san_core.proofs.Fitting.{row_least}
use Rattle.san_law.specs.Net.{Row, least_timer}
use Rattle.san_law.specs.Piece.{Fire}
use Rattle.san_leaf.proofs.TimerLemmas.{least_fits}
use Rattle.san_net.specs.declared.part.Part.{Part}
use Rattle.san_plan.specs.Plans.{RowStands}
use Rattle.san_plan.specs.inner.Waits.{Fires}

-- the activity's number in the leaf, there and back
pub fired_is : (first k time : ℕ) → (let p : book.Plan = record { kind = Fire ((first + k) - first); time = time } in p) ≡ record { kind = Fire k; time = time }
fired_is first k time = ap (λ (i : ℕ). (let p : book.Plan = record { kind = Fire i; time = time } in p)) (back first k)
  where
    back : (a k : ℕ) → (a + k) - a ≡ k
    back a k = omega arith

-- the sooner of two
pub some_by : {X : Type 0} (b : Bool) (x y : X) → Some (if b then x else y) ≡ (if b then Some x else Some y)
some_by true x y = refl
some_by false x y = refl

-- the least timer can fire
module _ (p : Part) (row : Row) (stands : RowStands p row) (few : p.first.0 + length p.atomic.acts ≤ MAX_ACTS) where
  timer_few : (d : ℕ × ℕ) → least_timer row ≡ Some d → d.1 < length p.atomic.acts
  timer_few d least =
      let at = row_least row d least in
      let within = slice_get_within row.timers at.index (Some at.timer) at.at in
      let act = at.act in
      let long = stands.timers in
      omega (arith, act, within, long)

  pub due_fires : (horizon : ℕ) → horizon ≤ MAX_HORIZON → IfSome (in_time horizon (least_timer row)) (Fires p)
  due_fires horizon most = by_least (least_timer row) refl
    where
      by_test : (d : ℕ × ℕ) → least_timer row ≡ Some d → (b : Bool) → nat_le d.0 horizon ≡ b → IfSome (when b (Some d)) (Fires p)
      by_test d least true t =
          let l = leb-true d.0 horizon t in
          let n = timer_few d least in
          record { few = omega (arith, n, few); fits = λ act is. least_fits p row d.0 d.1 act stands.timed least is; timely = omega (arith, l, most) }
      by_test d least false t = tt

      by_least : (x : Option (ℕ × ℕ)) → least_timer row ≡ x → IfSome (in_time horizon x) (Fires p)
      by_least None least = tt
      by_least (Some d) least = by_test d least (nat_le d.0 horizon) refl

-- what is up to the horizon is in the longest run
pub in_time_few : (horizon : ℕ) (x : Option (ℕ × ℕ)) → horizon ≤ MAX_HORIZON → IfSome (in_time horizon x) (λ (v : ℕ × ℕ). v.0 ≤ MAX_HORIZON)
in_time_few horizon None most = tt
in_time_few horizon (Some d) most = by_test (nat_le d.0 horizon) refl
  where
    by_test : (b : Bool) → nat_le d.0 horizon ≡ b → IfSome (when b (Some d)) (λ (v : ℕ × ℕ). v.0 ≤ MAX_HORIZON)
    by_test true t = let l = leb-true d.0 horizon t in omega (arith, l, most)
    by_test false t = tt
