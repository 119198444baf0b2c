-- A core goes on until it has ended or rests.
use Rattle.std.proofs.Common.{ℕ, zero, suc, ◌≡◌, ◌∙◌, ◌&&◌, ◌||◌, ap, sym, refl, not, length, Some, None, Bool, true, false, nat_le, nat_lt}
use Rattle.std.proofs.lemmas.Bool.{true≢false}
use Rattle.san_base.specs.declared.limits.Limits.{Limits}
use Rattle.san_law.specs.Order.{Finished, Need, Needs}
use Rattle.san_book.specs.declared.limits.TheConstants.{MAX_COMMIT, MAX_STEPS_TO_CLAIM}
use Rattle.san_book.specs.Machines.{Machine}
use Rattle.san_book.specs.Cores.{Claim, Commit, Core, Redo, claim_of}
use Rattle.san_book.specs.Plans.{planned, when}
use Rattle.san_book.specs.Steps.{all_committed, claimed_by, committed_by, goes_on, happens, has_none, is_finished, may_claim, need_in, redone, redone_by, rests, then_by}
use Rattle.san_book.specs.Journals.{booked, booked_by, stepped}
use Rattle.san_book.specs.Laws.{GoesOnByRedo, RestsOrEnded}

-- what goes on needs a piece
needs_one : (s f r : Bool) → (not (s || f) && not r) ≡ true → f ≡ false
needs_one true f r h = absurd (true≢false (sym h))
needs_one false true r h = absurd (true≢false (sym h))
needs_one false false r h = refl

module _ {H S P : Type 0} (m : Machine H S P) (limits : Limits) (c : Core H P) (w : ℕ) where
  redo_by : (n : Need) → is_finished n ≡ false → (d : Core H P) × (booked_by (Redo w) (redone_by m c n) ≡ Some d)
  redo_by (Needs j kind time) h = (booked (Redo w) (redone m c j kind time (m.needed c.held j kind time)), refl)
  redo_by Finished h = absurd (true≢false h)

  redo_goes : goes_on m limits c ≡ true → (d : Core H P) × (stepped m limits (Redo w) c ≡ Some d)
  unfolding happens
  redo_goes h =
      let r = redo_by (need_in m limits c) (needs_one (m.stopped c.held) (is_finished (need_in m limits c)) (rests m limits c) h) in
      (r.0, ap (λ b. booked_by (Redo w) (when b (redone_by m c (need_in m limits c)))) h ∙ r.1)

pub goes_on_by_redo : {H S P : Type 0} (m : Machine H S P) → GoesOnByRedo m
goes_on_by_redo m limits c w h = redo_goes m limits c w h

first_test : (a b : Bool) → a ≡ false → (a && b) ≡ false
first_test true b h = absurd (true≢false h)
first_test false b h = refl

module _ {H S P : Type 0} (m : Machine H S P) (limits : Limits) (c : Core H P) (h : goes_on m limits c ≡ false) where
  no_claim : (w : ℕ) → may_claim m limits c w ≡ false
  no_claim w = first_test (goes_on m limits c) (nat_lt (length c.journal) MAX_STEPS_TO_CLAIM && (nat_lt c.rollbacks limits.rollbacks && (nat_lt w (length c.claims) && has_none (claim_of c.claims w)))) h

  no_commit : (n : ℕ) (b : Bool) → (n ≡ 0 → b ≡ false) → when b (all_committed m limits n c) ≡ None
  no_commit n false f = refl
  no_commit zero true f = absurd (true≢false (f refl))
  no_commit (suc n) true f = ap (λ b. then_by (when b (committed_by m c (need_in m limits c))) (all_committed m limits n)) h

  nothing : (w n : ℕ) → (stepped m limits (Claim w) c ≡ None) × (stepped m limits (Commit w n) c ≡ None) × (stepped m limits (Redo w) c ≡ None)
  unfolding happens
  nothing w n = (
    ap (λ b. booked_by (Claim w) (when b (claimed_by c w (planned m limits c)))) (no_claim w),
    ap (λ o. booked_by (Commit w n) o) (no_commit n (nat_le 1 n && nat_le n MAX_COMMIT) (λ e. ap (λ (k : ℕ). nat_le 1 k && nat_le k MAX_COMMIT) e)),
    ap (λ b. booked_by (Redo w) (when b (redone_by m c (need_in m limits c)))) h,
  )

pub rests_or_ended : {H S P : Type 0} (m : Machine H S P) → RestsOrEnded m
rests_or_ended m limits c w n h = nothing m limits c h w n
