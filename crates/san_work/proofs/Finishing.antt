-- Making pieces anew, one after another.
use Rattle.std.proofs.Common.{ℕ, ◌≡◌, ◌∙◌, inl, inr, sym, refl, subst, true}
use Rattle.std.specs.Prelude.{Err, IfOk, Ok, Result}
use Rattle.san_base.specs.declared.numbers.NoMemory.{NoMemory}
use Rattle.san_book.specs.Steps.{has_ended, rests}
use Rattle.san_core.specs.Machines.{MachineValue}
use Rattle.san_core.specs.Redone.{IsSameRun}
use Rattle.san_speculation.specs.Speculating.{CoreValue, book_in}
use Rattle.san_base.specs.declared.limits.Limits.{Limits}
use Rattle.san_core.specs.Committed.{CommittedValue, StartsRun}
use Rattle.san_net.specs.Network.{Network}
use Rattle.san_net.specs.Runs.{net_at}
use Rattle.san_speculation.specs.Speculating.{opened_core}
use Rattle.san_work.specs.Stretches.{IsOfRun, IsOver}

pub run_itself : (m : MachineValue) → IsSameRun m m
run_itself m = record { network = refl; seed = refl; limits = refl; start = refl }

-- from one machine to another, and on to a third
pub run_on : (a b c : MachineValue) → IsSameRun a b → IsSameRun b c → IsSameRun a c
run_on a b c x y = record { network = y.network ∙ x.network; seed = y.seed ∙ x.seed; limits = y.limits ∙ x.limits; start = y.start ∙ x.start }

-- an equal core is of the same run
pub run_stays : (a : MachineValue) (b c : CoreValue) → IsSameRun a b.machine → c ≡ b → IsSameRun a c.machine
run_stays a b c x e = subst (λ (d : CoreValue). IsSameRun a d.machine) (sym e) x

-- a core that had ended is over
pub ended_over : (old new : CoreValue) → (new ≡ old) × (has_ended (book_in old.machine) old.machine.limits old.book ≡ true) → IsOver new
ended_over old new h = subst IsOver (sym h.0) (inl h.1)

-- and so is one that rests
pub rested_over : (old new : CoreValue) → (new ≡ old) × (rests (book_in old.machine) old.machine.limits old.book ≡ true) → IsOver new
rested_over old new h = subst IsOver (sym h.0) (inr h.1)

-- a core that is opened is of what it is opened for
pub opened_of : (n : Network) (seed : ℕ) (limits : Limits) (start : CommittedValue) (workers : ℕ) (c : CoreValue) → c ≡ opened_core n seed limits start workers → IsOfRun n seed limits start c
opened_of n seed limits start workers c is = subst (IsOfRun n seed limits start) (sym is) (record { network = refl; seed = refl; limits = refl; start = refl })

-- and a core of the same run is of the same
pub of_run_on : (n : Network) (seed : ℕ) (limits : Limits) (start : CommittedValue) (c d : CoreValue) → IsOfRun n seed limits start c → IsSameRun c.machine d.machine → IsOfRun n seed limits start d
of_run_on n seed limits start c d is same = record { network = same.network ∙ is.network; seed = same.seed ∙ is.seed; limits = same.limits ∙ is.limits; start = same.start ∙ is.start }

-- an equal start of an equal network
pub starts_same : (n m : Network) (seed : ℕ) (limits : Limits) (a b : CommittedValue) → m ≡ n → b ≡ a → StartsRun (net_at n seed limits) n a → StartsRun (net_at m seed limits) m b
starts_same n m seed limits a b e f h =
    subst (λ (x : Network). StartsRun (net_at x seed limits) x b) (sym e) (subst (λ (x : CommittedValue). StartsRun (net_at n seed limits) n x) (sym f) h)

-- what is opened there, where there is memory
pub opened_ok : (n m : Network) (seed : ℕ) (limits : Limits) (a b : CommittedValue) → m ≡ n → b ≡ a → (r : Result CoreValue NoMemory) → IfOk r (λ c. c ≡ opened_core m seed limits b 0) → IfOk r (IsOfRun n seed limits a)
opened_ok n m seed limits a b e f (Err x) h = tt
opened_ok n m seed limits a b e f (Ok c) h =
    subst (λ (x : CommittedValue). IsOfRun n seed limits x c) f (subst (λ (x : Network). IsOfRun x seed limits b c) e (opened_of m seed limits b 0 c h))
