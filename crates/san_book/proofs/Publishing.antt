-- A publication with its reads.
use Rattle.san_base.proofs.NumberTests.{some_same}
use Rattle.std.proofs.Common.{ℕ, suc, ◌+◌, ◌<◌, ◌≤◌, ◌≡◌, ◌∙◌, ap, sym, subst, List, [], ◌∷◌, ◌++◌, append_assoc, length, Option, Some, None, arith, slice_set}
use Rattle.std.specs.Prelude.{All}
use Rattle.std.proofs.lemmas.List.{length_push}
use Rattle.san_base.specs.declared.limits.Limits.{Limits}
use Rattle.san_base.specs.declared.limits.TheConstants.{MAX_CELLS, MAX_TOKENS}
use Rattle.san_base.specs.declared.piece.Kind as named
use Rattle.san_log.specs.Logs.{Entry, find}
use Rattle.san_law.specs.Piece.{Kind}
use Rattle.san_log.specs.Once.{AreOnce}
use Rattle.san_book.specs.Machines.{Machine}
use Rattle.san_book.specs.Cores.{Core, Pending, Publish, Read, Step, claim_of}
use Rattle.san_book.specs.Steps.{chain_end, happens, published_as, published_by, pushed, pushed_by}
use Rattle.san_book.specs.Journals.{booked_by, reads_of, stepped}
use Rattle.san_book.specs.Laws.{After, LogFits, PublicationIsRead, ReadsFit, after_reads, published}
use Rattle.san_book.proofs.Noting.{AllNew, all_new, claim_set, claim_twice, log_is_read, one_read, still_new, with_log}
use Rattle.san_book.proofs.Replaying.{one_step_more}

module _ {H S P : Type 0} (m : Machine H S P) (limits : Limits) (w j : ℕ) (kind : named.Kind) (time : ℕ) where
  fits_from : (es : List Entry) (c : Core H P) (done : List Entry) → claim_of c.claims w ≡ Some (record { leaf = j; log = done }) → AllNew done es → AreOnce es → All (λ e. e.1 ≤ MAX_TOKENS) es → length done + length es ≤ MAX_CELLS →
      ReadsFit m limits (reads_of w es ++ Publish w kind time ∷ []) c
  fits_from [] c done is new once small few = (tt, after_unit (stepped m limits (Publish w kind time) c))
    where
      after_unit : (o : Option (Core H P)) → After (ReadsFit m limits []) o
      after_unit None = tt
      after_unit (Some d) = tt
  fits_from (e ∷ es) c done is new once small few = (
    λ p k. subst (λ (x : Pending). (find e.0.0 x.log ≡ None) × (length x.log < MAX_CELLS)) (some_same (record { leaf = j; log = done }) p (sym is ∙ k)) (new.0, omega (arith, few)),
    subst (After (ReadsFit m limits (reads_of w es ++ Publish w kind time ∷ []))) (sym (one_read m limits w j c done e is new.0 (small 0 e (omega arith))))
        (fits_from es (with_log m limits w j c (done ++ e ∷ []) (Read w e.0 e.1 ∷ [])) (done ++ e ∷ []) (claim_set c.claims w (record { leaf = j; log = done }) (record { leaf = j; log = done ++ e ∷ [] }) is) (still_new done es e new.1 once.0) once.1
        (λ k d l. small (suc k) d (omega (arith, l))) (let p : length (done ++ e ∷ []) ≡ length done + 1 = length_push done e in omega (arith, p, few))),
  )

pub log_fits : {H S P : Type 0} (m : Machine H S P) → LogFits m
log_fits m limits c w j es kind time is noted few = fits_from m limits w j kind time es c [] is (all_new es) noted.once noted.small (omega (arith, few))

-- the piece that the log makes is pushed
publish_is : {H S P : Type 0} (m : Machine H S P) (limits : Limits) (c : Core H P) (w j : ℕ) (es : List Entry) (called : named.Kind) (kind : Kind) (time : ℕ) (p : P) → claim_of c.claims w ≡ Some (record { leaf = j; log = es }) →
    m.kind_in j called ≡ Some kind → m.makes j (chain_end m c j) kind time es ≡ Some p → stepped m limits (Publish w called time) c ≡ booked_by (Publish w called time) (Some (pushed m c w j p))
unfolding happens
publish_is m limits c w j es called kind time p is named made =
    ap (λ (o : Option Pending). booked_by (Publish w called time) (published_by m c w called time o)) is
    ∙ (ap (λ (k : Option Kind). booked_by (Publish w called time) (published_as m c w time (record { leaf = j; log = es }) k)) named
    ∙ ap (λ o. booked_by (Publish w called time) (pushed_by m c w j o)) made)

pub publication_is_read : {H S P : Type 0} (m : Machine H S P) → PublicationIsRead m
publication_is_read {H} {S} {P} m limits c w j es called kind time p is noted named made =
    let d : Core H P = after_reads c w j es in
    one_step_more m limits c d (published m c w j p (reads_of w es ++ Publish w called time ∷ [])) (reads_of w es) (Publish w called time) (log_is_read m limits c w j es is noted)
    (publish_is m limits d w j es called kind time p (claim_set c.claims w (record { leaf = j; log = [] }) (record { leaf = j; log = es }) is) named made
    ∙ (ap (λ (os : List (Option Pending)). Some (with_both c w j p os ((c.journal ++ reads_of w es) ++ Publish w called time ∷ []))) (claim_twice c.claims w (Some (record { leaf = j; log = es })) None)
    ∙ ap (λ (ss : List Step). Some (with_both c w j p (slice_set c.claims w None) ss)) (append_assoc c.journal (reads_of w es) (Publish w called time ∷ []))))
  where
    with_both : Core H P → ℕ → ℕ → P → List (Option Pending) → List Step → Core H P
    with_both c w j p os ss = let d = pushed m c w j p in record { held = d.held; chains = d.chains; counters = d.counters; lines = d.lines; claims = os; journal = ss; rollbacks = d.rollbacks; taken = d.taken }
