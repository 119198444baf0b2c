-- What is committed is what the needed pieces make of the start, and its events grow.
use Rattle.std.proofs.Common.{ℕ, suc, ◌≡◌, ◌∙◌, ap, sym, refl, subst, List, [], ◌∷◌, ◌++◌, append_assoc, Bool, true, false, nat_eq}
use Rattle.std.specs.Prelude.{if◌then◌else◌}
use Rattle.std.proofs.lemmas.Bool.{eqb-true, true≢false}
use Rattle.std.proofs.lemmas.List.{append-nil}
use Rattle.san_base.proofs.Bools.{both_true}
use Rattle.san_base.specs.declared.limits.Limits.{Limits}
use Rattle.san_law.specs.Step.{Event}
use Rattle.san_law.specs.Piece.{Fire, Kind, Refresh, Settle}
use Rattle.san_law.specs.Order.{Needs, need_of}
use Rattle.san_book.specs.Machines.{Machine, advance, after_pieces, is_kind, take_need}
use Rattle.san_book.specs.Chains.{AreMadeByLogs, Chain, Connects, chain_of}
use Rattle.san_book.specs.Cores.{Commit, Core, Redo}
use Rattle.san_book.specs.Steps.{all_committed, fallen, falls, happens, taken_anew}
use Rattle.san_book.specs.Journals.{booked}
use Rattle.san_book.specs.Whole.{IsCommitted, IsLawfulMachine, IsWhole}
use Rattle.san_book.specs.Laws.{After, EventsGrow, GoOn, Stays, StepsCommit, StepsLeave}
use Rattle.san_book.proofs.Afters.{after_all, after_booked, after_map}
use Rattle.san_book.proofs.Taking.{taken_whole}
use Rattle.san_book.proofs.Walking.{Handles, IsHead, after_commits, handled}

pub kind_is : (a b : Kind) → is_kind a b ≡ true → a ≡ b
kind_is (Fire i) (Fire k) h = ap Fire (eqb-true i k h)
kind_is (Fire i) Settle h = absurd (true≢false (sym h))
kind_is (Fire i) Refresh h = absurd (true≢false (sym h))
kind_is Settle (Fire k) h = absurd (true≢false (sym h))
kind_is Settle Settle h = refl
kind_is Settle Refresh h = absurd (true≢false (sym h))
kind_is Refresh (Fire k) h = absurd (true≢false (sym h))
kind_is Refresh Settle h = absurd (true≢false (sym h))
kind_is Refresh Refresh h = refl

-- a part that isn't stopped takes the needed piece
advance_is : {H S P : Type 0} (m : Machine H S P) (horizon : ℕ) (h : H) (j : ℕ) (kind : Kind) (time : ℕ) → m.stopped h ≡ false → need_of horizon (m.order h) ≡ Needs j kind time → advance m horizon h ≡ m.takes h j (m.needed h j kind time)
advance_is m horizon h j kind time e n = ap (λ b. if b then h else take_need m h (need_of horizon (m.order h))) e ∙ ap (λ x. take_need m h x) n

-- what falls is nothing that is committed
pub fallen_by : {H S P : Type 0} (Q : Core H P → Type 0) (t : Bool) (m : Machine H S P) (c : Core H P) (j : ℕ) → Q (fallen true m c j) → Q (fallen false m c j) → Q (fallen t m c j)
fallen_by Q true m c j a b = a
fallen_by Q false m c j a b = b

module _ {H S P : Type 0} (m : Machine H S P) (law : IsLawfulMachine m) (limits : Limits) (start : H) where
  -- one needed piece more
  one_more : (c : Core H P) (j : ℕ) (kind : Kind) (time : ℕ) (h : H) → m.stopped c.held ≡ false → need_of limits.horizon.0 (m.order c.held) ≡ Needs j kind time → h ≡ m.takes c.held j (m.needed c.held j kind time) →
      IsCommitted m limits start c → h ≡ after_pieces m limits.horizon.0 (suc c.taken) start
  one_more c j kind time h e n is k = is ∙ (sym (advance_is m limits.horizon.0 c.held j kind time e n) ∙ ap (λ x. advance m limits.horizon.0 x) k)

  -- the head of a chain is what would be made anew
  head_is : (c : Core H P) (j : ℕ) (kind : Kind) (time : ℕ) (x : ℕ × P) (rest : Chain P) → IsWhole m c → IsHead m limits c j kind time x rest → m.takes c.held j x.1 ≡ m.takes c.held j (m.needed c.held j kind time)
  head_is c j kind time x rest h i =
      let b = both_true (is_kind (m.reading.kind x.1) kind) (nat_eq (m.reading.time x.1) time) i.kinded in
      let joined : Connects m.reading (m.state c.held j) (x ∷ rest) = subst (λ (y : Chain P). Connects m.reading (m.state c.held j) y) i.chain (h.connects i.goes.open_end j) in
      let made : AreMadeByLogs m j (x ∷ rest) = subst (λ (y : Chain P). AreMadeByLogs m j y) i.chain (h.chains j).made in
      law.sound c.held j kind time (m.reading.log x.1) x.1
      (sym (ap (λ s. m.makes j s (m.reading.kind x.1) (m.reading.time x.1) (m.reading.log x.1)) joined.0
      ∙ (ap (λ k. m.makes j (m.state c.held j) k (m.reading.time x.1) (m.reading.log x.1)) (kind_is (m.reading.kind x.1) kind b.0)
      ∙ ap (λ t. m.makes j (m.state c.held j) kind t (m.reading.log x.1)) (eqb-true (m.reading.time x.1) time b.1)))
      ∙ made.0)
      i.agree

  commits_by : (n : ℕ) (c : Core H P) → IsWhole m c → IsCommitted m limits start c → After (λ (d : Core H P). IsWhole m d × IsCommitted m limits start d) (all_committed m limits n c)
  commits_by n c h k = after_commits m limits (λ n d. IsWhole m d × IsCommitted m limits start d)
      (λ n d j kind time x rest r i. (
        taken_whole m law d j x rest r.0 i.goes.open_end i.chain,
        one_more d j kind time (m.takes d.held j x.1) i.goes.open_end i.need (head_is d j kind time x rest r.0 i) r.1,
      ))
      n c (h, k)

  commit_handles : (c : Core H P) → IsWhole m c → IsCommitted m limits start c → Handles m limits c (λ s d. IsCommitted m limits start (booked s d))
  commit_handles c h k = record {
    claim = λ w j may free. k;
    read = λ w place v p e. k;
    publish = λ w kind time p n x e made. k;
    late = λ w p e. k;
    cut = λ w j n l. k;
    commit = λ w n l. after_map (λ (d : Core H P). IsWhole m d × IsCommitted m limits start d) (λ d. IsCommitted m limits start (booked (Commit w n) d)) (all_committed m limits n c) (λ d r. r.1) (commits_by n c h k);
    redo = λ w j kind time g need.
        let p : P = m.needed c.held j kind time in
        let one : m.takes c.held j p ≡ after_pieces m limits.horizon.0 (suc c.taken) start = one_more c j kind time (m.takes c.held j p) g.open_end need refl k in
        fallen_by (λ d. IsCommitted m limits start (booked (Redo w) d)) (falls m kind time (m.state (m.takes c.held j p) j) (chain_of c.chains j)) m (taken_anew m c j p) j one one;
  }

pub steps_commit : {H S P : Type 0} (m : Machine H S P) → IsLawfulMachine m → StepsCommit m
steps_commit m law limits start c s h k = after_booked (IsCommitted m limits start) s (happens m limits s c) (handled m limits c (λ s d. IsCommitted m limits start (booked s d)) (commit_handles m law limits start c h k) s)

-- events
module _ {H S P : Type 0} (m : Machine H S P) (law : IsLawfulMachine m) (limits : Limits) (c : Core H P) where
  no_more : GoOn m c c
  no_more = ([], sym (append-nil (m.events c.held)))

  and_more : (d : Core H P) (j : ℕ) (p : P) → GoOn m c d → (es : List Event) × (m.events (m.takes d.held j p) ≡ m.events c.held ++ es)
  and_more d j p g = let t = law.grows d.held j p in
      (g.0 ++ t.0, t.1 ∙ (ap (λ es. es ++ t.0) g.1 ∙ append_assoc (m.events c.held) g.0 t.0))

  grow_handles : Handles m limits c (λ s d. GoOn m c (booked s d))
  grow_handles = record {
    claim = λ w j may free. no_more;
    read = λ w place v p e. no_more;
    publish = λ w kind time p n x e made. no_more;
    late = λ w p e. no_more;
    cut = λ w j n l. no_more;
    commit = λ w n l. after_map (λ (d : Core H P). GoOn m c d) (λ d. GoOn m c (booked (Commit w n) d)) (all_committed m limits n c) (λ d g. g)
        (after_commits m limits (λ n d. GoOn m c d) (λ n d j kind time x rest g i. and_more d j x.1 g) n c no_more);
    redo = λ w j kind time g need.
        let p : P = m.needed c.held j kind time in
        fallen_by (λ d. GoOn m c (booked (Redo w) d)) (falls m kind time (m.state (m.takes c.held j p) j) (chain_of c.chains j)) m (taken_anew m c j p) j (and_more c j p no_more) (and_more c j p no_more);
  }

module _ {H S P : Type 0} (m : Machine H S P) (limits : Limits) (c : Core H P) where
  leave_handles : Handles m limits c (λ s d. Stays c s (booked s d))
  leave_handles = record {
    claim = λ w j may free. refl;
    read = λ w place v p e. refl;
    publish = λ w kind time p n x e made. refl;
    late = λ w p e. refl;
    cut = λ w j n l. refl;
    commit = λ w n l. after_all (λ (d : Core H P). Stays c (Commit w n) (booked (Commit w n) d)) (all_committed m limits n c) (λ d. tt);
    redo = λ w j kind time g need. tt;
  }

pub events_grow : {H S P : Type 0} (m : Machine H S P) → IsLawfulMachine m → EventsGrow m
events_grow m law limits c s = after_booked (GoOn m c) s (happens m limits s c) (handled m limits c (λ s d. GoOn m c (booked s d)) (grow_handles m law limits c) s)

pub steps_leave : {H S P : Type 0} (m : Machine H S P) → StepsLeave m
steps_leave m limits c s = after_booked (Stays c s) s (happens m limits s c) (handled m limits c (λ s d. Stays c s (booked s d)) (leave_handles m limits c) s)
