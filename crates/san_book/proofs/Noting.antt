-- The reads of a log, one after another, and when a log agrees.
use Rattle.std.proofs.Common.{ℕ, zero, suc, ◌≤◌, ◌≡◌, ◌∙◌, ◌&&◌, ap, sym, refl, List, [], ◌∷◌, ◌++◌, append_assoc, Option, Some, None, Bool, true, false, nat_eq, nat_le, arith, slice_set}
use Rattle.std.specs.Prelude.{All, slice_get}
use Rattle.std.proofs.lemmas.Bool.Decides.{nat_tests}
use Rattle.std.proofs.lemmas.Bool.{eq-eqb, eqb-true, true≢false}
use Rattle.std.proofs.lemmas.List.{append-nil}
use Rattle.san_base.proofs.Bools.{both_true}
use Rattle.san_base.proofs.NumberTests.{number_turned, number_within}
use Rattle.san_base.specs.declared.limits.Limits.{Limits}
use Rattle.san_base.specs.declared.limits.TheConstants.{MAX_TOKENS}
use Rattle.san_log.specs.Logs.{AreEntriesOf, Entry, find, found_by, noted, noted_by}
use Rattle.san_log.specs.Once.{AreOnce}
use Rattle.san_book.specs.Machines.{Machine}
use Rattle.san_book.specs.Lines.{agrees, is_value}
use Rattle.san_book.specs.Cores.{Core, Pending, Read, Step, claim_of}
use Rattle.san_book.specs.Plans.{when}
use Rattle.san_book.specs.Steps.{happens, read_by, then_by, with_claim}
use Rattle.san_book.specs.Journals.{booked_by, reads_of, replayed, stepped}
use Rattle.san_book.specs.Laws.{AgreesIsAgreesWith, LogIsRead}
use Rattle.san_log.proofs.Noted.{still_none}

-- a claim that is set is there, and setting it again is setting it
pub claim_set : (claims : List (Option Pending)) (w : ℕ) (p n : Pending) → claim_of claims w ≡ Some p → claim_of (slice_set claims w (Some n)) w ≡ Some n
claim_set [] w p n e = absurd (cc)
claim_set (o ∷ os) zero p n e = refl
claim_set (o ∷ os) (suc w) p n e = claim_set os w p n e

pub claim_twice : (claims : List (Option Pending)) (w : ℕ) (a b : Option Pending) → slice_set (slice_set claims w a) w b ≡ slice_set claims w b
claim_twice [] w a b = refl
claim_twice (o ∷ os) zero a b = refl
claim_twice (o ∷ os) (suc w) a b = ap (λ (xs : List (Option Pending)). o ∷ xs) (claim_twice os w a b)

claim_same : (claims : List (Option Pending)) (w : ℕ) (p : Pending) → claim_of claims w ≡ Some p → slice_set claims w (Some p) ≡ claims
claim_same [] w p e = refl
claim_same (o ∷ os) zero p e = ap (λ (x : Option Pending). x ∷ os) (sym e)
claim_same (o ∷ os) (suc w) p e = ap (λ (xs : List (Option Pending)). o ∷ xs) (claim_same os w p e)

-- none of a log's places is there yet
abbrev pub AllNew : List Entry → List Entry → Type 0
AllNew done [] = Unit {0}
AllNew done (e ∷ es) = (find e.0.0 done ≡ None) × AllNew done es

not_here : (b : Bool) (v : ℕ) (o : Option ℕ) → found_by b v o ≡ None → (b ≡ false) × (o ≡ None)
not_here true v o h = absurd (cc)
not_here false v o h = (refl, h)

pub still_new : (done es : List Entry) (e : Entry) → AllNew done es → find e.0.0 es ≡ None → AllNew (done ++ e ∷ []) es
still_new done [] e h k = tt
still_new done (x ∷ xs) e h k = let n = not_here (nat_eq x.0.0 e.0.0) x.1 (find e.0.0 xs) k in
    (still_none x.0.0 done e h.0 (number_turned x.0.0 e.0.0 n.0), still_new done xs e h.1 n.1)

pub all_new : (es : List Entry) → AllNew [] es
all_new [] = tt
all_new (e ∷ es) = (refl, all_new es)

module _ {H S P : Type 0} (m : Machine H S P) (limits : Limits) (w j : ℕ) where
  -- a core with a log pending and these steps booked
  abbrev pub with_log : Core H P → List Entry → List Step → Core H P
  with_log c log ss = record { held = c.held; chains = c.chains; counters = c.counters; lines = c.lines; claims = slice_set c.claims w (Some (record { leaf = j; log = log })); journal = c.journal ++ ss; rollbacks = c.rollbacks; taken = c.taken }

  pub one_read : (c : Core H P) (done : List Entry) (e : Entry) → claim_of c.claims w ≡ Some (record { leaf = j; log = done }) → find e.0.0 done ≡ None → e.1 ≤ MAX_TOKENS → stepped m limits (Read w e.0 e.1) c ≡ Some (with_log c (done ++ e ∷ []) (Read w e.0 e.1 ∷ []))
  unfolding happens
  one_read c done e is free small =
      ap (λ (o : Option Pending). booked_by (Read w e.0 e.1) (read_by c w e.0 e.1 o)) is
      ∙ (ap (λ b. booked_by (Read w e.0 e.1) (when b (Some (with_claim c w (Some (record { leaf = j; log = noted e.0 e.1 done })))))) (number_within e.1 MAX_TOKENS small)
      ∙ ap (λ o. Some (with_log c (noted_by o e done) (Read w e.0 e.1 ∷ []))) free)

  pub reads_from : (es : List Entry) (c : Core H P) (done : List Entry) → claim_of c.claims w ≡ Some (record { leaf = j; log = done }) → AllNew done es → AreOnce es → All (λ e. e.1 ≤ MAX_TOKENS) es → replayed m limits (reads_of w es) c ≡ Some (with_log c (done ++ es) (reads_of w es))
  reads_from [] c done is new once small =
      sym (ap (λ (log : List Entry). Some (with_log c log [])) (append-nil done)
      ∙ (ap (λ (ss : List Step). Some (record { held = c.held; chains = c.chains; counters = c.counters; lines = c.lines; claims = slice_set c.claims w (Some (record { leaf = j; log = done })); journal = ss; rollbacks = c.rollbacks; taken = c.taken })) (append-nil c.journal)
      ∙ ap (λ (os : List (Option Pending)). Some (record { held = c.held; chains = c.chains; counters = c.counters; lines = c.lines; claims = os; journal = c.journal; rollbacks = c.rollbacks; taken = c.taken })) (claim_same c.claims w (record { leaf = j; log = done }) is)))
  reads_from (e ∷ es) c done is new once small =
      let next : Core H P = with_log c (done ++ e ∷ []) (Read w e.0 e.1 ∷ []) in
      ap (λ o. then_by o (replayed m limits (reads_of w es))) (one_read c done e is new.0 (small 0 e (omega arith)))
      ∙ (reads_from es next (done ++ e ∷ []) (claim_set c.claims w (record { leaf = j; log = done }) (record { leaf = j; log = done ++ e ∷ [] }) is) (still_new done es e new.1 once.0) once.1 (λ k d l. small (suc k) d (omega (arith, l)))
      ∙ (ap (λ (log : List Entry). Some (with_log next log (reads_of w es))) (append_assoc done (e ∷ []) es)
      ∙ (ap (λ (os : List (Option Pending)). Some (record { held = c.held; chains = c.chains; counters = c.counters; lines = c.lines; claims = os; journal = next.journal ++ reads_of w es; rollbacks = c.rollbacks; taken = c.taken })) (claim_twice c.claims w (Some (record { leaf = j; log = done ++ e ∷ [] })) (Some (record { leaf = j; log = done ++ e ∷ es })))
      ∙ ap (λ (ss : List Step). Some (record { held = c.held; chains = c.chains; counters = c.counters; lines = c.lines; claims = slice_set c.claims w (Some (record { leaf = j; log = done ++ e ∷ es })); journal = ss; rollbacks = c.rollbacks; taken = c.taken })) (append_assoc c.journal (Read w e.0 e.1 ∷ []) (reads_of w es)))))

pub log_is_read : {H S P : Type 0} (m : Machine H S P) → LogIsRead m
log_is_read m limits c w j es is noted = reads_from m limits w j es c [] is (all_new es) noted.once noted.small

-- a value that is there
pub value_is : (v : ℕ) (o : Option ℕ) → is_value v o ≡ true → o ≡ Some v
value_is v None h = absurd (true≢false (sym h))
value_is v (Some w) h = ap (λ (n : ℕ). Some n) (eqb-true w v h)

is_there : (v : ℕ) (o : Option ℕ) → o ≡ Some v → is_value v o ≡ true
is_there v o h = ap (λ x. is_value v x) h ∙ eq-eqb v v refl

agree_to : (es : List Entry) (shared : List ℕ) → agrees (slice_get shared) es ≡ true → AreEntriesOf es shared
agree_to [] shared h = tt
agree_to (e ∷ es) shared h = let b = both_true (is_value e.1 (slice_get shared e.0.0)) (agrees (slice_get shared) es) h in
    (value_is e.1 (slice_get shared e.0.0) b.0, agree_to es shared b.1)

agree_from : (es : List Entry) (shared : List ℕ) → AreEntriesOf es shared → agrees (slice_get shared) es ≡ true
agree_from [] shared h = refl
agree_from (e ∷ es) shared h = ap (λ b. b && agrees (slice_get shared) es) (is_there e.1 (slice_get shared e.0.0) h.0) ∙ agree_from es shared h.1

pub agrees_is_agrees_with : (es : List Entry) (shared : List ℕ) → AgreesIsAgreesWith es shared
agrees_is_agrees_with es shared = (agree_to es shared, agree_from es shared)
