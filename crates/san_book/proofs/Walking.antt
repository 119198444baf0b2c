-- A step of any kind, taken apart: what is known where it happens.
use Rattle.std.proofs.Common.{ℕ, zero, suc, ◌<◌, ◌≤◌, ◌≡◌, ◌&&◌, ◌||◌, sym, refl, subst, not, [], ◌∷◌, length, Option, Some, None, Bool, true, false, nat_lt, nat_le, arith}
use Rattle.std.specs.Prelude.{slice_get}
use Rattle.std.proofs.lemmas.Bool.Decides.{nat_tests}
use Rattle.std.proofs.lemmas.Bool.{true≢false}
use Rattle.san_base.proofs.Bools.{both_true}
use Rattle.san_base.proofs.NumberTests.{number_below, some_same}
use Rattle.san_base.specs.declared.limits.Limits.{Limits}
use Rattle.san_base.specs.declared.limits.TheConstants.{MAX_TOKENS}
use Rattle.san_base.specs.declared.numbers.PlaceId.{PlaceId}
use Rattle.san_base.specs.declared.piece.Kind as named
use Rattle.san_log.specs.Logs.{noted}
use Rattle.san_law.specs.Piece.{Kind}
use Rattle.san_law.specs.Order.{Finished, Need, Needs}
use Rattle.san_book.specs.declared.limits.TheConstants.{MAX_COMMIT, MAX_STEPS_TO_CLAIM, MAX_STRETCH_EVENTS, MAX_STRETCH_PIECES}
use Rattle.san_book.specs.Machines.{Machine, is_of}
use Rattle.san_book.specs.Lines.{agrees}
use Rattle.san_book.specs.Chains.{Chain, chain_of, current}
use Rattle.san_book.specs.Cores.{Claim, Commit, Core, Cut, Late, Pending, Publish, Read, Redo, Step, claim_of}
use Rattle.san_book.specs.Plans.{planned, when}
use Rattle.san_book.specs.Steps.{all_committed, chain_end, claimed_by, committed, committed_by, cut_at, goes_on, happens, has_none, head_by, is_finished, late_by, may_claim, need_in, published_as, published_by, pushed, pushed_by, read_by, redone, redone_by, taken_head, then_by, with_claim}
use Rattle.san_book.specs.Laws.{After}
use Rattle.san_book.proofs.Planning.{IsFree, planned_free}

at_most : (a b : ℕ) → nat_le a b ≡ true → a ≤ b
at_most a b h = grind (arith, nat_tests)

above : (a b : ℕ) → nat_le a b ≡ false → b < a
above a b h = grind (arith, nat_tests)

-- after a test
pub after_when : {X : Type 0} (Q : X → Type 0) (b : Bool) (o : Option X) → (b ≡ true → After Q o) → After Q (when b o)
after_when Q true o f = f refl
after_when Q false o f = tt

pub after_then : {X : Type 0} (Q : X → Type 0) (o : Option X) (go : X → Option X) → ((x : X) → o ≡ Some x → After Q (go x)) → After Q (then_by o go)
after_then Q None go f = tt
after_then Q (Some x) go f = f x refl

-- where a core goes on
pub record GoesOn {H S P : Type 0} (m : Machine H S P) (c : Core H P) : Type 0 where
  pub open_end : m.stopped c.held ≡ false
  pub room : c.taken < MAX_STRETCH_PIECES

going : (s f e p : Bool) → (not (s || f) && not (not (s || f) && (e || p))) ≡ true → (s ≡ false) × (p ≡ false)
going true f e p h = absurd (true≢false (sym h))
going false true e p h = absurd (true≢false (sym h))
going false false true p h = absurd (true≢false (sym h))
going false false false true h = absurd (true≢false (sym h))
going false false false false h = (refl, refl)

pub goes_where : {H S P : Type 0} (m : Machine H S P) (limits : Limits) (c : Core H P) → goes_on m limits c ≡ true → GoesOn m c
goes_where m limits c h =
    let g = going (m.stopped c.held) (is_finished (need_in m limits c)) (nat_le MAX_STRETCH_EVENTS (length (m.events c.held))) (nat_le MAX_STRETCH_PIECES c.taken) h in
    record { open_end = g.0; room = above MAX_STRETCH_PIECES c.taken g.1 }

-- where a worker may claim
pub record MayClaim {H P : Type 0} (limits : Limits) (c : Core H P) (w : ℕ) : Type 0 where
  pub steps : length c.journal < MAX_STEPS_TO_CLAIM
  pub rollbacks : c.rollbacks < limits.rollbacks
  pub worker : w < length c.claims
  pub idle : claim_of c.claims w ≡ None

idle_is : (o : Option Pending) → has_none o ≡ true → o ≡ None
idle_is None h = refl
idle_is (Some p) h = absurd (true≢false (sym h))

may_where : {H S P : Type 0} (m : Machine H S P) (limits : Limits) (c : Core H P) (w : ℕ) → may_claim m limits c w ≡ true → MayClaim limits c w
may_where m limits c w h =
    let a = both_true (goes_on m limits c) (nat_lt (length c.journal) MAX_STEPS_TO_CLAIM && (nat_lt c.rollbacks limits.rollbacks && (nat_lt w (length c.claims) && has_none (claim_of c.claims w)))) h in
    let b = both_true (nat_lt (length c.journal) MAX_STEPS_TO_CLAIM) (nat_lt c.rollbacks limits.rollbacks && (nat_lt w (length c.claims) && has_none (claim_of c.claims w))) a.1 in
    let d = both_true (nat_lt c.rollbacks limits.rollbacks) (nat_lt w (length c.claims) && has_none (claim_of c.claims w)) b.1 in
    let e = both_true (nat_lt w (length c.claims)) (has_none (claim_of c.claims w)) d.1 in
    record { steps = number_below (length c.journal) MAX_STEPS_TO_CLAIM b.0; rollbacks = number_below c.rollbacks limits.rollbacks d.0; worker = number_below w (length c.claims) e.0; idle = idle_is (claim_of c.claims w) e.1 }

-- where the head of a chain is committed
pub record IsHead {H S P : Type 0} (m : Machine H S P) (limits : Limits) (c : Core H P) (j : ℕ) (kind : Kind) (time : ℕ) (x : ℕ × P) (rest : Chain P) : Type 0 where
  pub goes : GoesOn m c
  pub need : need_in m limits c ≡ Needs j kind time
  pub chain : chain_of c.chains j ≡ x ∷ rest
  pub kinded : is_of m.reading kind time x.1 ≡ true
  pub agree : agrees (slice_get (m.shared c.held)) (m.reading.log x.1) ≡ true

module _ {H S P : Type 0} (m : Machine H S P) (limits : Limits) (c : Core H P) (Q : Core H P → Type 0) (f : (j : ℕ) (kind : Kind) (time : ℕ) (x : ℕ × P) (rest : Chain P) → IsHead m limits c j kind time x rest → Q (taken_head m c j x rest)) where
  head_then : (g : GoesOn m c) (j : ℕ) (kind : Kind) (time : ℕ) (xs : Chain P) → need_in m limits c ≡ Needs j kind time → chain_of c.chains j ≡ xs → After Q (head_by m c j kind time xs)
  head_then g j kind time [] n is = tt
  head_then g j kind time (x ∷ rest) n is = after_when Q (is_of m.reading kind time x.1 && agrees (slice_get (m.shared c.held)) (m.reading.log x.1)) (Some (taken_head m c j x rest)) (λ e.
      let b = both_true (is_of m.reading kind time x.1) (agrees (slice_get (m.shared c.held)) (m.reading.log x.1)) e in
      f j kind time x rest (record { goes = g; need = n; chain = is; kinded = b.0; agree = b.1 }))

  need_then : (g : GoesOn m c) (n : Need) → need_in m limits c ≡ n → After Q (committed_by m c n)
  need_then g (Needs j kind time) e = head_then g j kind time (chain_of c.chains j) e refl
  need_then g Finished e = tt

  pub after_commit : After Q (committed m limits c)
  after_commit = after_when Q (goes_on m limits c) (committed_by m c (need_in m limits c)) (λ e. need_then (goes_where m limits c e) (need_in m limits c) refl)

pub read_after : {X : Type 0} (Q : X → Type 0) (o : Option X) (x : X) → After Q o → o ≡ Some x → Q x
read_after Q None x a e = absurd (cc)
read_after Q (Some y) x a e = subst Q (some_same y x e) a

-- so many commits, each of which leaves one fewer to come
pub after_commits : {H S P : Type 0} (m : Machine H S P) (limits : Limits) (R : ℕ → Core H P → Type 0) →
    ((n : ℕ) (c : Core H P) (j : ℕ) (kind : Kind) (time : ℕ) (x : ℕ × P) (rest : Chain P) → R (suc n) c → IsHead m limits c j kind time x rest → R n (taken_head m c j x rest)) →
    (n : ℕ) (c : Core H P) → R n c → After (R 0) (all_committed m limits n c)
after_commits m limits R f zero c h = h
after_commits m limits R f (suc n) c h = after_then (R 0) (committed m limits c) (all_committed m limits n) (λ d e.
    after_commits m limits R f n d (read_after (R n) (committed m limits c) d (after_commit m limits c (R n) (λ j kind time x rest i. f n c j kind time x rest h i)) e))

-- what is to be shown of each kind of step
pub record Handles {H S P : Type 0} (m : Machine H S P) (limits : Limits) (c : Core H P) (Q : Step → Core H P → Type 0) : Type 0 where
  pub claim : (w j : ℕ) → MayClaim limits c w → IsFree limits c j → Q (Claim w) (with_claim c w (Some (record { leaf = j; log = [] })))
  pub read : (w : ℕ) (place : PlaceId) (v : ℕ) (p : Pending) → claim_of c.claims w ≡ Some p → Q (Read w place v) (with_claim c w (Some (record { leaf = p.leaf; log = noted place v p.log })))
  pub publish : (w : ℕ) (kind : named.Kind) (time : ℕ) (p : Pending) (k : Kind) (x : P) → claim_of c.claims w ≡ Some p → m.makes p.leaf (chain_end m c p.leaf) k time p.log ≡ Some x → Q (Publish w kind time) (pushed m c w p.leaf x)
  pub late : (w : ℕ) (p : Pending) → claim_of c.claims w ≡ Some p → Q (Late w) (with_claim c w None)
  pub cut : (w j k : ℕ) → k < length (chain_of c.chains j) → Q (Cut w j) (cut_at m c j k)
  pub commit : (w n : ℕ) → 1 ≤ n → After (Q (Commit w n)) (all_committed m limits n c)
  pub redo : (w j : ℕ) (kind : Kind) (time : ℕ) → GoesOn m c → need_in m limits c ≡ Needs j kind time → Q (Redo w) (redone m c j kind time (m.needed c.held j kind time))

module _ {H S P : Type 0} (m : Machine H S P) (limits : Limits) (c : Core H P) (Q : Step → Core H P → Type 0) (f : Handles m limits c Q) where
  claim_then : (w : ℕ) (o : Option (ℕ × ℕ)) → planned m limits c ≡ o → MayClaim limits c w → After (Q (Claim w)) (claimed_by c w o)
  claim_then w None e h = tt
  claim_then w (Some x) e h = f.claim w x.1 h (planned_free m limits c x e)

  read_then : (w : ℕ) (place : PlaceId) (v : ℕ) (o : Option Pending) → claim_of c.claims w ≡ o → After (Q (Read w place v)) (read_by c w place v o)
  read_then w place v None e = tt
  read_then w place v (Some p) e = after_when (Q (Read w place v)) (nat_le v MAX_TOKENS) (Some (with_claim c w (Some (record { leaf = p.leaf; log = noted place v p.log })))) (λ _. f.read w place v p e)

  push_then : (w : ℕ) (kind : named.Kind) (time : ℕ) (p : Pending) (k : Kind) (o : Option P) → claim_of c.claims w ≡ Some p → m.makes p.leaf (chain_end m c p.leaf) k time p.log ≡ o → After (Q (Publish w kind time)) (pushed_by m c w p.leaf o)
  push_then w kind time p k None e made = tt
  push_then w kind time p k (Some x) e made = f.publish w kind time p k x e made

  kind_then : (w : ℕ) (kind : named.Kind) (time : ℕ) (p : Pending) (k : Option Kind) → claim_of c.claims w ≡ Some p → After (Q (Publish w kind time)) (published_as m c w time p k)
  kind_then w kind time p None e = tt
  kind_then w kind time p (Some k) e = push_then w kind time p k (m.makes p.leaf (chain_end m c p.leaf) k time p.log) e refl

  publish_then : (w : ℕ) (kind : named.Kind) (time : ℕ) (o : Option Pending) → claim_of c.claims w ≡ o → After (Q (Publish w kind time)) (published_by m c w kind time o)
  publish_then w kind time None e = tt
  publish_then w kind time (Some p) e = kind_then w kind time p (m.kind_in p.leaf kind) e

  late_then : (w : ℕ) (o : Option Pending) → claim_of c.claims w ≡ o → After (Q (Late w)) (late_by c w o)
  late_then w None e = tt
  late_then w (Some p) e = f.late w p e

  redo_then : (w : ℕ) (n : Need) → GoesOn m c → need_in m limits c ≡ n → After (Q (Redo w)) (redone_by m c n)
  redo_then w (Needs j kind time) g e = f.redo w j kind time g e
  redo_then w Finished g e = tt

  pub handled : (s : Step) → After (Q s) (happens m limits s c)
  unfolding happens
  handled (Claim w) = after_when (Q (Claim w)) (may_claim m limits c w) (claimed_by c w (planned m limits c)) (λ e. claim_then w (planned m limits c) refl (may_where m limits c w e))
  handled (Read w place v) = read_then w place v (claim_of c.claims w) refl
  handled (Publish w kind time) = publish_then w kind time (claim_of c.claims w) refl
  handled (Late w) = late_then w (claim_of c.claims w) refl
  handled (Cut w j) = let k : ℕ = current m.reading c.lines j (chain_of c.chains j) in
      after_when (Q (Cut w j)) (nat_lt k (length (chain_of c.chains j))) (Some (cut_at m c j k)) (λ e. f.cut w j k (number_below k (length (chain_of c.chains j)) e))
  handled (Commit w n) = after_when (Q (Commit w n)) (nat_le 1 n && nat_le n MAX_COMMIT) (all_committed m limits n c) (λ e. f.commit w n (at_most 1 n (both_true (nat_le 1 n) (nat_le n MAX_COMMIT) e).0))
  handled (Redo w) = after_when (Q (Redo w)) (goes_on m limits c) (redone_by m c (need_in m limits c)) (λ e. redo_then w (need_in m limits c) (goes_where m limits c e) refl)
