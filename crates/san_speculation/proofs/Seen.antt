-- A core as a call sees it, and by its parts.
use Rattle.std.proofs.Common.{ℕ, List, ◌<◌, ◌≡◌, ◌∙◌, ap, sym, subst, refl, Option, Some, None, false, true}
use Rattle.san_book.specs.Cores as book
use Rattle.san_book.specs.Journals.{replayed, stepped}
use Rattle.san_law.specs.Core as law
use Rattle.san_leaf.specs.Pieces.{PieceValue}
use Rattle.san_core.specs.Machines.{FollowsRun, MachineValue, core_in, net_in}
use Rattle.san_core.specs.declared.redoing.Redoing.{Redoing}
use Rattle.san_base.specs.declared.numbers.NoMemory.{NoMemory}
use Rattle.san_book.specs.Steps.{rests}
use Rattle.std.specs.Prelude.{Result, Ok, Err}
use Rattle.std.specs.Result.{IsErr}
use Rattle.san_core.specs.Redone.{IsSameRun}
use Rattle.san_law.specs.Left.{left}
use Rattle.san_base.specs.declared.numbers.LeafId.{LeafId}
use Rattle.san_speculation.specs.CoreCalls.{Leaves, RedoBy, Stays}
use Rattle.san_ahead.specs.Ahead.{AheadValue}
use Rattle.san_speculation.specs.declared.step.Step.{Step}
use Rattle.san_speculation.specs.Speculating.{CoreValue, book_in, core_by}

-- what a step comes to
pub step_seen : (c v : CoreValue) → c ≡ v → (s : book.Step) (o : Option (book.Core law.Core PieceValue)) → stepped (book_in c.machine) c.machine.limits s c.book ≡ o → stepped (book_in v.machine) v.machine.limits s v.book ≡ o
step_seen c v is s o e = subst (λ (x : CoreValue). stepped (book_in x.machine) x.machine.limits s x.book ≡ o) is e

pub stays_seen : (c v : CoreValue) → c ≡ v → (s : book.Step) → stepped (book_in c.machine) c.machine.limits s c.book ≡ None → Stays v s v
stays_seen c v is s e = record { same = refl; refuses = step_seen c v is s None e }

-- the same machine
pub same_machine : (c v new : CoreValue) → c ≡ v → new.machine ≡ c.machine → IsSameRun v.machine new.machine
same_machine c v new is same = subst (IsSameRun v.machine) (sym (same ∙ ap (λ (x : CoreValue). x.machine) is)) (record { network = refl; seed = refl; limits = refl; start = refl })

pub leaves_seen : (c v new : CoreValue) → c ≡ v → (s : book.Step) → stepped (book_in c.machine) c.machine.limits s c.book ≡ Some new.book → new.machine ≡ c.machine → Leaves v s new
leaves_seen c v new is s e same = record { happens = step_seen c v is s (Some new.book) e; machine = same ∙ (ap (λ (x : CoreValue). x.machine) is) }

-- a run goes on from a machine as it is seen
pub run_moved : (c v : CoreValue) → c ≡ v → (n : MachineValue) → IsSameRun c.machine n → IsSameRun v.machine n
run_moved c v is n same = subst (λ (x : CoreValue). IsSameRun x.machine n) is same

-- the book's committed part is the machine's
pub held_seen : (m : MachineValue) (a : AheadValue) (os : List (Option LeafId)) (js : List Step) (r : ℕ) (v : CoreValue) → core_by m a os js r ≡ v → v.book.held ≡ core_in v.machine
held_seen m a os js r v is = subst (λ (x : CoreValue). x.book.held ≡ core_in x.machine) is refl

-- and there is less to take than there was
pub less_seen : (c v : CoreValue) → c ≡ v → (n : MachineValue) → left (net_in n) (core_in n) < left (net_in c.machine) (core_in c.machine) → left (net_in n) (core_in n) < left (net_in v.machine) (core_in v.machine)
less_seen c v is n less = subst (λ (x : CoreValue). left (net_in n) (core_in n) < left (net_in x.machine) (core_in x.machine)) is less

-- a machine follows the run, as it is seen
pub follows_seen : (m : MachineValue) (a : AheadValue) (os : List (Option LeafId)) (js : List Step) (r : ℕ) (v : CoreValue) → core_by m a os js r ≡ v → FollowsRun v.machine → FollowsRun m
follows_seen m a os js r v is follows = subst (λ (x : CoreValue). FollowsRun x.machine) (sym is) follows

-- a core rests
pub rests_seen : (c v : CoreValue) → c ≡ v → rests (book_in c.machine) c.machine.limits c.book ≡ true → (v ≡ v) × (rests (book_in v.machine) v.machine.limits v.book ≡ true)
rests_seen c v is e = (refl, subst (λ (x : CoreValue). rests (book_in x.machine) x.machine.limits x.book ≡ true) is e)

-- and one without memory is as it was
pub redo_failed : (old new : CoreValue) (w : ℕ) (r : Result Redoing NoMemory) → IsErr r → new ≡ old → RedoBy old w new r
redo_failed old new w (Err e) is same = same
redo_failed old new w (Ok x) is same = let e : false ≡ true = is in absurd (cc)

pub same_parts : (m n : MachineValue) (a : AheadValue) (os : List (Option LeafId)) (js ks : List Step) (r : ℕ) (v : CoreValue) → core_by m a os js r ≡ v → n ≡ m → ks ≡ js → core_by n a os ks r ≡ v
same_parts m n a os js ks r v is same steps = ap (λ (x : MachineValue). core_by x a os ks r) same ∙ (ap (λ (xs : List Step). core_by m a os xs r) steps ∙ is)

-- what several steps come to
pub replayed_seen : (c v : CoreValue) → c ≡ v → (ss : List book.Step) (o : Option (book.Core law.Core PieceValue)) → replayed (book_in c.machine) c.machine.limits ss c.book ≡ o → replayed (book_in v.machine) v.machine.limits ss v.book ≡ o
replayed_seen c v is ss o e = subst (λ (x : CoreValue). replayed (book_in x.machine) x.machine.limits ss x.book ≡ o) is e
