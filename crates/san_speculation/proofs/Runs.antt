-- Runs of steps, one after another, and what single steps come to.
use Rattle.std.proofs.Common.{ℕ, zero, suc, ◌<◌, ◌≤◌, ◌≡◌, ◌∙◌, ap, refl, List, [], ◌∷◌, ◌++◌, length, Option, Some, None, Bool, true, false, nat_lt, nat_le, ◌&&◌, arith}
use Rattle.san_base.proofs.NumberTests.{some_same}
use Rattle.std.proofs.lemmas.Bool.{lt-ltb}
use Rattle.std.proofs.lemmas.Bool.Decides.{nat_tests}
use Rattle.san_base.specs.declared.limits.Limits.{Limits}
use Rattle.san_book.specs.Machines.{Machine}
use Rattle.std.specs.Prelude.{slice_get}
use Rattle.san_law.specs.Piece.{Kind}
use Rattle.san_law.specs.Order.{Need, Needs}
use Rattle.san_book.specs.declared.limits.TheConstants.{MAX_COMMIT}
use Rattle.san_book.specs.Machines.{is_of}
use Rattle.san_book.specs.Lines.{agrees}
use Rattle.san_book.specs.Chains.{Chain, chain_of, current}
use Rattle.san_book.specs.Cores.{Claim, Commit, Core, Cut, Late, Pending, Redo, Step, claim_of}
use Rattle.san_book.specs.Plans.{planned, when}
use Rattle.san_book.specs.Steps.{all_committed, claimed_by, committed, committed_by, cut_at, cut_by, goes_on, happens, head_by, late_by, may_claim, need_in, redone, redone_by, taken_head, then_by, with_claim}
use Rattle.san_book.specs.Journals.{booked, booked_by, replayed, stepped}
use Rattle.san_book.specs.Bounds.{ReadFits}
use Rattle.san_book.specs.Laws.{After, ReadsFit}

-- some steps, and then others
pub replayed_more : {H S P : Type 0} (m : Machine H S P) (limits : Limits) (b c d : Core H P) (ss ts : List Step) → replayed m limits ss b ≡ Some c → replayed m limits ts c ≡ Some d → replayed m limits (ss ++ ts) b ≡ Some d
replayed_more {H} {S} {P} m limits b c d [] ts e h = ap (λ o. then_by o (replayed m limits ts)) e ∙ h
replayed_more {H} {S} {P} m limits b c d (x ∷ ss) ts e h = by_first (stepped m limits x b) (λ a k. replayed_more m limits a c d ss ts k h) e
  where
    by_first : (o : Option (Core H P)) → ((a : Core H P) → replayed m limits ss a ≡ Some c → replayed m limits (ss ++ ts) a ≡ Some d) → then_by o (replayed m limits ss) ≡ Some c → then_by o (replayed m limits (ss ++ ts)) ≡ Some d
    by_first None f e = absurd (cc)
    by_first (Some a) f e = f a e

-- a single step
pub replayed_one : {H S P : Type 0} (m : Machine H S P) (limits : Limits) (c d : Core H P) (s : Step) → stepped m limits s c ≡ Some d → replayed m limits (s ∷ []) c ≡ Some d
replayed_one m limits c d s e = ap (λ o. then_by o (replayed m limits [])) e

pub one_fits : {H S P : Type 0} (m : Machine H S P) (limits : Limits) (c : Core H P) (s : Step) → ReadFits c.claims s → ReadsFit m limits (s ∷ []) c
one_fits {H} {S} {P} m limits c s fits = (fits, after_unit (stepped m limits s c))
  where
    after_unit : (o : Option (Core H P)) → After (ReadsFit m limits []) o
    after_unit None = tt
    after_unit (Some d) = tt

-- a cut
pub cut_happens : {H S P : Type 0} (m : Machine H S P) (limits : Limits) (c : Core H P) (w j k : ℕ) → current m.reading c.lines j (chain_of c.chains j) ≡ k → k < length (chain_of c.chains j)
    → stepped m limits (Cut w j) c ≡ Some (booked (Cut w j) (cut_at m c j k))
unfolding happens
cut_happens m limits c w j k is short =
    ap (λ (n : ℕ). booked_by (Cut w j) (cut_by m c j n)) is
    ∙ ap (λ (b : Bool). booked_by (Cut w j) (when b (Some (cut_at m c j k)))) (lt-ltb k (length (chain_of c.chains j)) short)

-- a claim that goes
pub late_happens : {H S P : Type 0} (m : Machine H S P) (limits : Limits) (c : Core H P) (w : ℕ) (p : Pending) → claim_of c.claims w ≡ Some p → stepped m limits (Late w) c ≡ Some (booked (Late w) (with_claim c w None))
unfolding happens
late_happens m limits c w p is = ap (λ (o : Option Pending). booked_by (Late w) (late_by c w o)) is

not_below : (a b : ℕ) → b ≤ a → nat_lt a b ≡ false
not_below a b h = grind (arith, nat_tests)

pub cut_refused : {H S P : Type 0} (m : Machine H S P) (limits : Limits) (c : Core H P) (w j k : ℕ) → current m.reading c.lines j (chain_of c.chains j) ≡ k → length (chain_of c.chains j) ≤ k → stepped m limits (Cut w j) c ≡ None
unfolding happens
cut_refused m limits c w j k is long =
    ap (λ (n : ℕ). booked_by (Cut w j) (cut_by m c j n)) is
    ∙ ap (λ (b : Bool). booked_by (Cut w j) (when b (Some (cut_at m c j k)))) (not_below k (length (chain_of c.chains j)) long)

module _ {H S P : Type 0} (m : Machine H S P) (limits : Limits) where
  -- the head of the needed leaf's chain is committed, where it is the needed piece and read what is committed
  abbrev pub is_needed_head : Core H P → Kind → ℕ → P → Bool
  is_needed_head c kind time p = is_of m.reading kind time p && agrees (slice_get (m.shared c.held)) (m.reading.log p)

  pub head_committed : (c : Core H P) (j : ℕ) (kind : Kind) (time : ℕ) (x : ℕ × P) (rest : Chain P) → goes_on m limits c ≡ true → need_in m limits c ≡ Needs j kind time → chain_of c.chains j ≡ x ∷ rest → is_needed_head c kind time x.1 ≡ true
      → committed m limits c ≡ Some (taken_head m c j x rest)
  head_committed c j kind time x rest goes need chain test =
      ap (λ (b : Bool). when b (committed_by m c (need_in m limits c))) goes
      ∙ (ap (committed_by m c) need
      ∙ (ap (head_by m c j kind time) chain
      ∙ ap (λ (b : Bool). when b (Some (taken_head m c j x rest))) test))

  -- nothing is committed where the core doesn't go on, the chain is empty, or its head isn't that piece
  pub none_going : (c : Core H P) → goes_on m limits c ≡ false → committed m limits c ≡ None
  none_going c goes = ap (λ (b : Bool). when b (committed_by m c (need_in m limits c))) goes

  when_none : {X : Type 0} (b : Bool) → when {X = X} b None ≡ None
  when_none true = refl
  when_none false = refl

  pub none_there : (c : Core H P) (j : ℕ) (kind : Kind) (time : ℕ) → need_in m limits c ≡ Needs j kind time → chain_of c.chains j ≡ [] → committed m limits c ≡ None
  none_there c j kind time need chain = ap (λ (o : Option (Core H P)). when (goes_on m limits c) o) (ap (committed_by m c) need ∙ ap (head_by m c j kind time) chain) ∙ when_none (goes_on m limits c)

  pub other_head : (c : Core H P) (j : ℕ) (kind : Kind) (time : ℕ) (x : ℕ × P) (rest : Chain P) → need_in m limits c ≡ Needs j kind time → chain_of c.chains j ≡ x ∷ rest → is_needed_head c kind time x.1 ≡ false → committed m limits c ≡ None
  other_head c j kind time x rest need chain test =
      ap (λ (o : Option (Core H P)). when (goes_on m limits c) o) (ap (committed_by m c) need ∙ (ap (head_by m c j kind time) chain ∙ ap (λ (b : Bool). when b (Some (taken_head m c j x rest))) test))
      ∙ when_none (goes_on m limits c)

  -- one more is committed
  pub one_more : (n : ℕ) (c d e : Core H P) → all_committed m limits n c ≡ Some d → committed m limits d ≡ Some e → all_committed m limits (suc n) c ≡ Some e
  one_more zero c d e is h = ap (λ (x : Core H P). then_by (committed m limits x) (all_committed m limits zero)) (some_same c d is) ∙ ap (λ o. then_by o (all_committed m limits zero)) h
  one_more (suc n) c d e is h = by_first (committed m limits c) (λ a k. one_more n a d e k h) is
    where
      by_first : (o : Option (Core H P)) → ((a : Core H P) → all_committed m limits n a ≡ Some d → all_committed m limits (suc n) a ≡ Some e) → then_by o (all_committed m limits n) ≡ Some d → then_by o (all_committed m limits (suc n)) ≡ Some e
      by_first None f k = absurd (cc)
      by_first (Some a) f k = f a k

  -- a step of so many
  pub commit_happens : (c d : Core H P) (w n : ℕ) → 1 ≤ n → n ≤ MAX_COMMIT → all_committed m limits n c ≡ Some d → stepped m limits (Commit w n) c ≡ Some (booked (Commit w n) d)
  unfolding happens
  commit_happens c d w n least most is =
      ap (λ (b : Bool). booked_by (Commit w n) (when b (all_committed m limits n c))) (within 1 n MAX_COMMIT least most)
      ∙ ap (booked_by (Commit w n)) is
    where
      within : (a n b : ℕ) → a ≤ n → n ≤ b → (nat_le a n && nat_le n b) ≡ true
      within a n b h k = grind (arith, nat_tests)

  pub commit_refused : (c : Core H P) (w : ℕ) → committed m limits c ≡ None → stepped m limits (Commit w 1) c ≡ None
  unfolding happens
  commit_refused c w is = ap (λ o. booked_by (Commit w 1) (then_by o (all_committed m limits zero))) is

  -- a piece made anew
  pub redo_happens : (c : Core H P) (w j : ℕ) (kind : Kind) (time : ℕ) → goes_on m limits c ≡ true → need_in m limits c ≡ Needs j kind time
      → stepped m limits (Redo w) c ≡ Some (booked (Redo w) (redone m c j kind time (m.needed c.held j kind time)))
  unfolding happens
  redo_happens c w j kind time goes need =
      ap (λ (b : Bool). booked_by (Redo w) (when b (redone_by m c (need_in m limits c)))) goes
      ∙ ap (λ (x : Need). booked_by (Redo w) (redone_by m c x)) need

  -- a claim
  pub claim_happens : (c : Core H P) (w : ℕ) (x : ℕ × ℕ) → may_claim m limits c w ≡ true → planned m limits c ≡ Some x → stepped m limits (Claim w) c ≡ Some (booked (Claim w) (with_claim c w (Some (record { leaf = x.1; log = [] }))))
  unfolding happens
  claim_happens c w x may is =
      ap (λ (b : Bool). booked_by (Claim w) (when b (claimed_by c w (planned m limits c)))) may
      ∙ ap (λ (o : Option (ℕ × ℕ)). booked_by (Claim w) (claimed_by c w o)) is

  pub claim_refused : (c : Core H P) (w : ℕ) → may_claim m limits c w ≡ false → stepped m limits (Claim w) c ≡ None
  unfolding happens
  claim_refused c w may = ap (λ (b : Bool). booked_by (Claim w) (when b (claimed_by c w (planned m limits c)))) may

  pub none_planned : (c : Core H P) (w : ℕ) → planned m limits c ≡ None → stepped m limits (Claim w) c ≡ None
  unfolding happens
  none_planned c w is =
      ap (λ (o : Option (ℕ × ℕ)). booked_by (Claim w) (when (may_claim m limits c w) (claimed_by c w o))) is
      ∙ ap (booked_by (Claim w)) (when_none (may_claim m limits c w))
