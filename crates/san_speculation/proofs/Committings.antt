-- A commit in code is a commit of the book.
use Rattle.std.proofs.Common.{ℕ, zero, suc, ◌+◌, ◌<◌, ◌≤◌, ◌≡◌, ◌∙◌, ◌⊎◌, inl, inr, ap, sym, subst, refl, arith, List, [], ◌∷◌, ◌++◌, length, map, Option, Some, None, Ok, true}
use Rattle.std.specs.Prelude.{max}
use Rattle.std.proofs.lemmas.List.{map_push}
use Rattle.san_base.specs.declared.numbers.LeafId.{LeafId}
use Rattle.san_book.specs.Cores as book
use Rattle.san_book.specs.Journals.{stepped}
use Rattle.san_book.specs.Steps.{all_committed, goes_on}
use Rattle.san_book.specs.Whole.{IsWhole}
use Rattle.san_book.specs.declared.limits.TheConstants.{MAX_COMMIT}
use Rattle.san_ahead.specs.Ahead.{AheadValue}
use Rattle.san_core.specs.Machines.{FollowsRun, MachineValue, after_taking, core_in, net_in}
use Rattle.san_core.specs.Needed.{IsNeed}
use Rattle.san_core.specs.declared.admission.Taking.{Taking}
use Rattle.san_law.specs.Order.{Needs, need_of}
use Rattle.san_leaf.specs.States.{kind_in}
use Rattle.san_core.specs.Redone.{IsSameRun}
use Rattle.san_core.proofs.Retaking.{with_spare}
use Rattle.san_law.specs.Core as law
use Rattle.san_law.specs.Left.{left}
use Rattle.san_leaf.specs.Pieces.{PieceValue}
use Rattle.san_speculation.specs.CoreCalls.{Advances, CommitBy, Refuses}
use Rattle.san_speculation.specs.Speculating.{CoreValue, IsReplayed, book_in, claim_in, core_by, step_in}
use Rattle.san_speculation.specs.inner.Committing.{ArePartsWhole, IsNext, IsRedone, NoneNext, TakesHeads, with_parts}
use Rattle.san_speculation.specs.declared.step.Step.{Step}
use Rattle.san_speculation.specs.declared.step.Step.TheVariants as step
use Rattle.san_speculation.proofs.Keeping.{chains_long, keeps_the_law}
use Rattle.san_speculation.proofs.Runs.{commit_happens, commit_refused, redo_happens}
use Rattle.san_speculation.proofs.Speculated.{IsRun}

-- with other room the same can be committed
next_with : (m : MachineValue) (s : ℕ) (a : AheadValue) (leaf : LeafId) → IsNext m a leaf → IsNext (with_spare m s) a leaf
next_with m s a leaf next = record {
  kind = next.kind;
  time = next.time;
  head = next.head;
  rest = next.rest;
  within = next.within;
  goes = next.goes;
  need = next.need;
  chain = next.chain;
  kinded = next.kinded;
  agree = next.agree;
}

whole_with : (m : MachineValue) (s : ℕ) (a : AheadValue) → ArePartsWhole m a → ArePartsWhole (with_spare m s) a
whole_with m s a whole = (whole.0, whole.1)

heads_with : (m : MachineValue) (s : ℕ) (a : AheadValue) (k : ℕ) (n : MachineValue) (b : AheadValue) → TakesHeads (with_spare m s) a k n b → (c : book.Core law.Core PieceValue) → all_committed (book_in m) m.limits k (with_parts m a c) ≡ Some (with_parts n b c)
heads_with m s a k n b taken c = taken.committed c

-- a machine that stayed as it was, and then got room
pub reserved_then : (m same mid : MachineValue) (room : ℕ) → same ≡ m → mid ≡ with_spare same (max same.spare room) → mid ≡ with_spare m (max m.spare room)
reserved_then m same mid room is reserved = reserved ∙ ap (λ (x : MachineValue). with_spare x (max x.spare room)) is

module _ (m mid : MachineValue) (room : ℕ) (reserved : mid ≡ with_spare m (max m.spare room)) where
  pub next_reserved : (a : AheadValue) (leaf : LeafId) → IsNext m a leaf → IsNext mid a leaf
  next_reserved a leaf next = subst (λ (x : MachineValue). IsNext x a leaf) (sym reserved) (next_with m (max m.spare room) a leaf next)

  pub whole_reserved : (a : AheadValue) → ArePartsWhole m a → ArePartsWhole mid a
  whole_reserved a whole = subst (λ (x : MachineValue). ArePartsWhole x a) (sym reserved) (whole_with m (max m.spare room) a whole)

  pub spare_reserved : room ≤ mid.spare
  spare_reserved = let e : mid.spare ≡ max m.spare room = ap (λ (x : MachineValue). x.spare) reserved in omega (arith, e)

  module _ (a : AheadValue) (k : ℕ) (n : MachineValue) (b : AheadValue) (taken : TakesHeads mid a k n b) where
    taken_here : TakesHeads (with_spare m (max m.spare room)) a k n b
    taken_here = subst (λ (x : MachineValue). TakesHeads x a k n b) reserved taken

    pub all_here : (c : book.Core law.Core PieceValue) → all_committed (book_in m) m.limits k (with_parts m a c) ≡ Some (with_parts n b c)
    all_here c = heads_with m (max m.spare room) a k n b taken_here c

    pub run_here : IsSameRun m n
    run_here = record { network = taken_here.run.network; seed = taken_here.run.seed; limits = taken_here.run.limits; start = taken_here.run.start }

    pub less_here : 1 ≤ k → left (net_in n) (core_in n) < left (net_in m) (core_in m)
    less_here least = let l : left (net_in n) (core_in n) + k ≤ left (net_in m) (core_in m) = taken_here.less in omega (arith, l, least)

  -- the needed piece can be made anew as before
  pub need_reserved : (t : Taking) → IsNeed m t → IsNeed mid t
  need_reserved t need = subst (λ (x : MachineValue). IsNeed x t) (sym reserved) (record { going = need.going; need = need.need; numbers = need.numbers; part = need.part; there = need.there; first = need.first })

  pub redone_here : (a : AheadValue) (t : Taking) (n : MachineValue) (b : AheadValue) (k : ℕ) → IsRedone mid a t n b k → IsRedone m a t n b k
  redone_here a t n b k redone c = redone_with_room (subst (λ (x : MachineValue). IsRedone x a t n b k) reserved redone) c
    where
      redone_with_room : IsRedone (with_spare m (max m.spare room)) a t n b k → IsRedone m a t n b k
      redone_with_room h d = h d

  pub run_taken : (n : MachineValue) (p : PieceValue) → n ≡ after_taking mid p → IsSameRun m n
  run_taken n p is = subst (IsSameRun m) (sym (is ∙ ap (λ (x : MachineValue). after_taking x p) reserved)) (record { network = refl; seed = refl; limits = refl; start = refl })

  pub less_taken : (n : MachineValue) → left (net_in n) (core_in n) < left (net_in mid) (core_in mid) → left (net_in n) (core_in n) < left (net_in m) (core_in m)
  less_taken n less = subst (λ (x : MachineValue). left (net_in n) (core_in n) < left (net_in x) (core_in x)) reserved less

-- the parts of a core
module _ (m : MachineValue) (a : AheadValue) (os : List (Option LeafId)) (js : List Step) (r : ℕ) where
  abbrev here : CoreValue
  here = core_by m a os js r

  pub whole_seen : (v : CoreValue) → here ≡ v → FollowsRun v.machine → IsRun v.machine.network → IsReplayed v → ArePartsWhole m a
  whole_seen v is follows run replayed = (here.book, subst (λ (x : CoreValue). IsWhole (book_in x.machine) x.book) (sym is) (keeps_the_law v follows run replayed).core.whole)

  pub sizes_seen : (v : CoreValue) → here ≡ v → FollowsRun v.machine → IsRun v.machine.network → IsReplayed v → length m.network.parts ≤ length a.chains
  sizes_seen v is follows run replayed =
      let long = chains_long v follows run replayed in
      let chains : length a.chains ≡ length v.book.chains = ap (λ (x : CoreValue). length x.book.chains) is in
      let parts : length m.network.parts ≡ length v.machine.network.parts = ap (λ (x : CoreValue). length x.machine.network.parts) is in
      omega (arith, long, chains, parts)

  -- nothing can be committed
  pub commit_nothing : (w : ℕ) → NoneNext m a → stepped (book_in m) m.limits (book.Commit w 1) here.book ≡ None
  commit_nothing w none = commit_refused (book_in m) m.limits here.book w (none here.book)

  abbrev with_rest : MachineValue → AheadValue → ℕ → List book.Step → book.Core law.Core PieceValue
  with_rest n b rollbacks steps = record { held = core_in n; chains = b.chains; counters = b.counters; lines = b.lines; claims = map claim_in os; journal = steps; rollbacks = rollbacks; taken = n.taken }

  abbrev with_step : book.Core law.Core PieceValue → book.Step → book.Core law.Core PieceValue
  with_step c s = record { held = c.held; chains = c.chains; counters = c.counters; lines = c.lines; claims = c.claims; journal = c.journal ++ s ∷ []; rollbacks = c.rollbacks; taken = c.taken }

  -- so many are
  pub commit_is : (n : MachineValue) (b : AheadValue) (w k : ℕ) (steps : List Step) → 1 ≤ k → k ≤ MAX_COMMIT → ((c : book.Core law.Core PieceValue) → all_committed (book_in m) m.limits k (with_parts m a c) ≡ Some (with_parts n b c))
      → steps ≡ js ++ step.Commit w k ∷ [] → stepped (book_in m) m.limits (book.Commit w k) here.book ≡ Some (core_by n b os steps r).book
  commit_is n b w k steps least most all booked =
      commit_happens (book_in m) m.limits here.book (with_parts n b here.book) w k least most (all here.book)
      ∙ ap (λ (xs : List book.Step). Some (with_rest n b r xs)) (sym (ap (map step_in) booked ∙ map_push step_in js (step.Commit w k)))

  -- a piece is made anew
  pub redo_is : (n : MachineValue) (b : AheadValue) (w k : ℕ) (t : Taking) (steps : List Step) → goes_on (book_in m) m.limits here.book ≡ true → need_of m.limits.horizon.0 (core_in m).order ≡ Needs t.leaf.0 (kind_in t.first.0 t.kind) t.time.0
      → IsRedone m a t n b k → steps ≡ js ++ step.Redo w ∷ [] → stepped (book_in m) m.limits (book.Redo w) here.book ≡ Some (core_by n b os steps (r + k)).book
  redo_is n b w k t steps goes need redone booked =
      redo_happens (book_in m) m.limits here.book w t.leaf.0 (kind_in t.first.0 t.kind) t.time.0 goes need
      ∙ (ap (λ (c : book.Core law.Core PieceValue). Some (with_step c (book.Redo w))) (redone here.book)
      ∙ ap (λ (xs : List book.Step). Some (with_rest n b (r + k) xs)) (sym (ap (map step_in) booked ∙ map_push step_in js (step.Redo w))))

-- by how many
pub commit_by_some : (old new : CoreValue) (w n : ℕ) → 1 ≤ n → Advances old (book.Commit w n) new → Refuses new (book.Commit w 1) ⊎ (n ≡ MAX_COMMIT) → CommitBy old w new (Ok n)
commit_by_some old new w zero l advances rest = absurd (omega (arith, l))
commit_by_some old new w (suc n) l advances rest = (advances, rest)

-- no more can be, or these are the most
pub commit_rest : (m : MachineValue) (a : AheadValue) (os : List (Option LeafId)) (js : List Step) (r w n : ℕ) → NoneNext m a ⊎ (n ≡ MAX_COMMIT) → Refuses (core_by m a os js r) (book.Commit w 1) ⊎ (n ≡ MAX_COMMIT)
commit_rest m a os js r w n (inl none) = inl (commit_nothing m a os js r w none)
commit_rest m a os js r w n (inr most) = inr most
