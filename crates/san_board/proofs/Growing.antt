-- How far a core's journal grows by its calls.
use Rattle.std.proofs.Common.{ℕ, zero, suc, ◌+◌, ◌-◌, ◌≤◌, ◌≡◌, ◌∙◌, ap, arith, sym, refl, subst, List, [], ◌∷◌, ◌++◌, length, map, Option, Some, None}
use Rattle.std.specs.Prelude.{Result, Ok, Err}
use Rattle.std.proofs.lemmas.List.{length-map, length-set, length_push}
use Rattle.std.proofs.lemmas.Option.{none-some}
use Rattle.san_base.proofs.NumberTests.{some_same}
use Rattle.san_base.specs.declared.limits.Limits.{Limits}
use Rattle.san_base.specs.declared.numbers.NoMemory.{NoMemory}
use Rattle.san_book.specs.Cores.{Claim, Commit, Core, Cut, Late, Pending, Publish, Redo, Step, claim_of}
use Rattle.san_book.specs.Journals.{reads_of, replayed, stepped}
use Rattle.san_book.specs.Machines.{Machine}
use Rattle.san_book.specs.Steps.{all_committed, happens, then_by}
use Rattle.san_book.proofs.Afters.{after_booked, after_map}
use Rattle.san_book.proofs.Counting.{Committed, commits_change, redo_changes, steps_are_booked}
use Rattle.san_book.proofs.Walking.{Handles, handled, read_after}
use Rattle.san_core.specs.declared.redoing.Redoing.{Redoing}
use Rattle.san_core.specs.declared.redoing.Redoing.TheVariants as redoing
use Rattle.san_decide.specs.Booked.{entry_of}
use Rattle.san_leaf.specs.Pieces.{PieceValue}
use Rattle.san_leaf.specs.declared.piece.Claim.{Claim as Given}
use Rattle.san_log.specs.Logs.{Entry}
use Rattle.san_speculation.specs.Claims.{ClaimBy}
use Rattle.san_speculation.specs.CoreCalls.{CommitBy, CutBy, RedoBy}
use Rattle.san_speculation.specs.Publishing.{LateBy, PublishBy, publication}
use Rattle.san_speculation.specs.Speculating.{CoreValue, book_in}
use Rattle.san_speculation.specs.declared.publishing.Publishing.{Publishing}
use Rattle.san_speculation.specs.declared.publishing.Publishing.TheVariants as publishing
use Rattle.san_board.specs.Booked.{BooksPiece, claim_steps, piece_steps, redo_steps}

-- as many may claim, and the journal is so many steps longer
pub record Grows {H P : Type 0} (c d : Core H P) (n : ℕ) : Type 0 where
  pub claims : length d.claims ≡ length c.claims
  pub journal : length d.journal ≡ length c.journal + n

pub grows_not : {H P : Type 0} (c d : Core H P) → d ≡ c → Grows c d 0
grows_not c d e = record { claims = ap (λ x. length x.claims) e; journal = let k = ap (λ x. length x.journal) e in omega (arith, k) }

module _ {H S P : Type 0} (m : Machine H S P) (limits : Limits) (c : Core H P) where
  claims_stay : Handles m limits c (λ s d. length d.claims ≡ length c.claims)
  claims_stay = record {
    claim = λ w j may free. length-set c.claims w _;
    read = λ w place v p e. length-set c.claims w _;
    publish = λ w kind time p k x e made. length-set c.claims w _;
    late = λ w p e. length-set c.claims w _;
    cut = λ w j k l. refl;
    commit = λ w n l. after_map (Committed c n 0) (λ (d : Core H P). length d.claims ≡ length c.claims) (all_committed m limits n c) (λ d r. ap (λ (os : List (Option Pending)). length os) r.claims) (commits_change m limits c n);
    redo = λ w j kind time g need. ap (λ (os : List (Option Pending)). length os) (redo_changes m c j kind time (m.needed c.held j kind time)).claims;
  }

  -- a step
  pub step_grows : (s : Step) (d : Core H P) → stepped m limits s c ≡ Some d → Grows c d 1
  step_grows s d e =
      let longer : d.journal ≡ c.journal ++ s ∷ [] = read_after (λ (x : Core H P). x.journal ≡ c.journal ++ s ∷ []) (stepped m limits s c) d (steps_are_booked m limits c s) e in
      record {
        claims = read_after (λ (x : Core H P). length x.claims ≡ length c.claims) (stepped m limits s c) d
            (after_booked (λ (x : Core H P). length x.claims ≡ length c.claims) s (happens m limits s c) (handled m limits c (λ s x. length x.claims ≡ length c.claims) claims_stay s)) e;
        journal = ap (λ (ss : List Step). length ss) longer ∙ length_push c.journal s;
      }

-- several
pub steps_grow : {H S P : Type 0} (m : Machine H S P) (limits : Limits) (ss : List Step) (c d : Core H P) → replayed m limits ss c ≡ Some d → Grows c d (length ss)
steps_grow m limits [] c d e = grows_not c d (sym (some_same c d e))
steps_grow {H} {S} {P} m limits (s ∷ ss) c d e = by_first (stepped m limits s c) refl e (λ x h. steps_grow m limits ss x d h)
  where
    by_first : (o : Option (Core H P)) → stepped m limits s c ≡ o → then_by o (replayed m limits ss) ≡ Some d
        → ((x : Core H P) → replayed m limits ss x ≡ Some d → Grows x d (length ss)) → Grows c d (length (s ∷ ss))
    by_first None is h more = absurd (none-some d h)
    by_first (Some x) is h more =
        let one = step_grows m limits c s x is in
        let rest = more x h in
        record { claims = rest.claims ∙ one.claims; journal = omega (arith, one.journal, rest.journal) }

-- a publication has a step for each read, and one more
reads_long : (w : ℕ) (es : List Entry) → length (reads_of w es) ≡ length es
reads_long w [] = refl
reads_long w (e ∷ es) = ap suc (reads_long w es)

pub publication_long : (w : ℕ) (p : PieceValue) → length (publication w p) ≡ length p.log + 1
publication_long w p = length_push (reads_of w (map entry_of p.log)) (Publish w p.kind p.time) ∙ ap (λ (n : ℕ). n + 1) (reads_long w (map entry_of p.log) ∙ length-map p.log entry_of)

pub claim_grows : (old new : CoreValue) (w : ℕ) (r : Result (Option Given) NoMemory) → ClaimBy old w new r → Grows old.book new.book (claim_steps r)
claim_grows old new w (Err e) h = grows_not old.book new.book (ap (λ (x : CoreValue). x.book) h)
claim_grows old new w (Ok None) h = grows_not old.book new.book (ap (λ (x : CoreValue). x.book) h.same)
claim_grows old new w (Ok (Some claim)) h = step_grows (book_in old.machine) old.machine.limits old.book (Claim w) new.book h.0.happens

pub cut_grows : (old new : CoreValue) (w j : ℕ) (r : Result ℕ NoMemory) → CutBy old w j new r → Grows old.book new.book (piece_steps r)
cut_grows old new w j (Err e) h = grows_not old.book new.book (ap (λ (x : CoreValue). x.book) h)
cut_grows old new w j (Ok zero) h = grows_not old.book new.book (ap (λ (x : CoreValue). x.book) h.same)
cut_grows old new w j (Ok (suc n)) h = step_grows (book_in old.machine) old.machine.limits old.book (Cut w j) new.book h.0.happens

pub commit_grows : (old new : CoreValue) (w : ℕ) (r : Result ℕ NoMemory) → CommitBy old w new r → Grows old.book new.book (piece_steps r)
commit_grows old new w (Err e) h = grows_not old.book new.book (ap (λ (x : CoreValue). x.book) h)
commit_grows old new w (Ok zero) h = grows_not old.book new.book (ap (λ (x : CoreValue). x.book) h.same)
commit_grows old new w (Ok (suc n)) h = step_grows (book_in old.machine) old.machine.limits old.book (Commit w (suc n)) new.book h.0.happens

pub redo_grows : (old new : CoreValue) (w : ℕ) (r : Result Redoing NoMemory) → RedoBy old w new r → Grows old.book new.book (redo_steps r)
redo_grows old new w (Err e) h = grows_not old.book new.book (ap (λ (x : CoreValue). x.book) h)
redo_grows old new w (Ok redoing.Redone) h = step_grows (book_in old.machine) old.machine.limits old.book (Redo w) new.book h.happens
redo_grows old new w (Ok redoing.Ended) h = grows_not old.book new.book (ap (λ (x : CoreValue). x.book) h.0)
redo_grows old new w (Ok redoing.Rested) h = grows_not old.book new.book (ap (λ (x : CoreValue). x.book) h.0)

-- how much longer a journal is, where a publication books so much
pub record Published (p : PieceValue) (old new : CoreValue) (r : Publishing) : Type 0 where
  pub claims : length new.book.claims ≡ length old.book.claims
  pub longer : length old.book.journal ≤ length new.book.journal
  pub books : (a b : ℕ) → b ≡ a + (length new.book.journal - length old.book.journal) → BooksPiece p r a b

late_grows : (old new : CoreValue) (w : ℕ) (p q : PieceValue) (o : Option Pending) → LateBy old w p new o → Published p old new (publishing.Late q)
late_grows old new w p q None h =
    let g = grows_not old.book new.book (ap (λ (x : CoreValue). x.book) h) in
    record { claims = g.claims; longer = omega (arith, g.journal); books = λ a b e. (omega (arith, g.journal, e), omega (arith, g.journal, e)) }
late_grows old new w p q (Some claim) h =
    let g = step_grows (book_in old.machine) old.machine.limits old.book (Late w) new.book h.1.happens in
    record { claims = g.claims; longer = omega (arith, g.journal); books = λ a b e. (omega (arith, g.journal, e), omega (arith, g.journal, e)) }

pub publish_grows : (old new : CoreValue) (w : ℕ) (p : PieceValue) (r : Publishing) → PublishBy old w p new r → Published p old new r
publish_grows old new w p publishing.Published h =
    let g = steps_grow (book_in old.machine) old.machine.limits (publication w p) old.book new.book h.0 in
    let n : length (publication w p) ≡ length p.log + 1 = publication_long w p in
    record { claims = g.claims; longer = omega (arith, g.journal); books = λ a b e. omega (arith, g.journal, e, n) }
publish_grows old new w p (publishing.Late q) h = late_grows old new w p q (claim_of old.book.claims w) h.1
publish_grows old new w p (publishing.NoMemory q) h =
    let g = grows_not old.book new.book (ap (λ (x : CoreValue). x.book) h.1) in
    record { claims = g.claims; longer = omega (arith, g.journal); books = λ a b e. omega (arith, g.journal, e) }

-- the same publication, of a core and by a worker that are named otherwise
pub publish_as : (old core new : CoreValue) (w v : ℕ) (p : PieceValue) (r : Publishing) → core ≡ old → v ≡ w → PublishBy core v p new r → PublishBy old w p new r
publish_as old core new w v p r e f h = subst (λ (c : CoreValue). PublishBy c w p new r) e (subst (λ (n : ℕ). PublishBy core n p new r) f h)
