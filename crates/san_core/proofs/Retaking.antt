-- A machine that takes its needed piece takes the run's next one.
use Rattle.std.proofs.Common.{ℕ, ◌-◌, ◌<◌, ◌≤◌, ◌≡◌, ◌∙◌, ap, sym, refl, subst, Option, Some, None, arith}
use Rattle.std.specs.Prelude.{Ok, max}
use Rattle.san_law.specs.Left.{left}
use Rattle.san_law.specs.Core.{Core}
use Rattle.san_law.specs.Net.{Net}
use Rattle.san_law.specs.Order.{Finished, Need, Needs, need_of}
use Rattle.san_law.specs.Step.{Ending}
use Rattle.san_law.specs.Pieces.{Piece, end_of, ended_by, next_piece, outcome_of_core, piece_for, unless_stopped}
use Rattle.san_net.specs.Network.{Network}
use Rattle.san_leaf.specs.Pieces.{PieceValue}
use Rattle.san_core.specs.Machines.{FollowsRun, IsNeeded, MachineValue, after_taking, core_in, net_in}
use Rattle.san_leaf.specs.States.{kind_in}
use Rattle.san_core.specs.Nets.{outcome_in}
use Rattle.san_core.specs.declared.admission.Taking.{Taking}
use Rattle.san_core.specs.Needed.{IsNeed}
use Rattle.san_core.proofs.Needing.{needs_next}
use Rattle.san_core.specs.Redone.{IsSameRun, RedoneBy, TakesNext}
use Rattle.san_core.specs.declared.redoing.Redoing.{Redoing}
use Rattle.san_core.specs.declared.redoing.Redoing.TheVariants as redoing

-- with room for so many pieces
abbrev pub with_spare : MachineValue → ℕ → MachineValue
with_spare m spare = record { network = m.network; seed = m.seed; limits = m.limits; start = m.start; held = m.held; events = m.events; taken = m.taken; spare = spare }

-- the room doesn't matter to what is needed
pub needed_with : (m : MachineValue) (spare : ℕ) (p : PieceValue) → IsNeeded m p → IsNeeded (with_spare m spare) p
needed_with m spare p needed = record { going = needed.going; need = needed.need; seed = needed.seed; part = needed.part; base = needed.base; log = needed.log }

max_one : (n : ℕ) → max n 1 - 1 ≡ n - 1
max_one n = omega arith

-- what was needed before the room was taken is needed then
pub needed_then : (old same mid : MachineValue) (p : PieceValue) → same ≡ old → mid ≡ with_spare same (max same.spare 1) → IsNeeded old p → IsNeeded mid p
needed_then old same mid p is reserved needed =
    subst (λ (x : MachineValue). IsNeeded x p) (sym reserved) (needed_with same (max same.spare 1) p (subst (λ (x : MachineValue). IsNeeded x p) (sym is) needed))

pub has_room : (same mid : MachineValue) → mid ≡ with_spare same (max same.spare 1) → 1 ≤ mid.spare
has_room same mid reserved = let e : mid.spare ≡ max same.spare 1 = ap (λ (x : MachineValue). x.spare) reserved in omega (arith, e)

module _ (old mid new : MachineValue) (p : PieceValue) (reserved : mid ≡ with_spare old (max old.spare 1)) (took : new ≡ after_taking mid p) where
  abbrev reached : MachineValue
  reached = after_taking (with_spare old (max old.spare 1)) p

  is : new ≡ reached
  is = took ∙ ap (λ (x : MachineValue). after_taking x p) reserved

  pub takes_next : (q : Piece) × (next_piece (net_in old) (core_in old) ≡ Some q) → left (net_in new) (core_in new) < left (net_in mid) (core_in mid) → TakesNext old new
  takes_next needs less = record {
    needs = needs;
    run = record {
      network = ap (λ (x : MachineValue). x.network) is;
      seed = ap (λ (x : MachineValue). x.seed) is;
      limits = ap (λ (x : MachineValue). x.limits) is;
      start = ap (λ (x : MachineValue). x.start) is;
    };
    taken = ap (λ (x : MachineValue). x.taken) is;
    spare = ap (λ (x : MachineValue). x.spare) is ∙ max_one old.spare;
    less = subst (λ (x : MachineValue). left (net_in new) (core_in new) < left (net_in x) (core_in x)) reserved less;
  }

-- so the run's next piece was taken
pub redone : (old same mid new : MachineValue) (t : Taking) (p : PieceValue) → FollowsRun old → IsNeed old t → same ≡ old → mid ≡ with_spare same (max same.spare 1) → new ≡ after_taking mid p
    → left (net_in new) (core_in new) < left (net_in mid) (core_in mid) → TakesNext old new
redone old same mid new t p run need is reserved took less =
    takes_next old mid new p (reserved ∙ ap (λ (x : MachineValue). with_spare x (max x.spare 1)) is) took
    (needs_next old run t.leaf.0 (kind_in t.first.0 t.kind) t.time.0 need.going need.need) less

-- a core that has no outcome needs a piece
abbrev HasPiece : Option Piece → Type 0
HasPiece None = ⊥
HasPiece (Some p) = Unit {0}

needs_by : (n : Network) (net : Net) (c : Core) (x : Need) → outcome_in n (end_of net x) ≡ None → HasPiece (piece_for net c x)
needs_by n net c (Needs j kind time) is = tt
needs_by n net c Finished is = absurd cc

goes_by : (n : Network) (net : Net) (c : Core) (s : Option Ending) → outcome_in n (ended_by net c s) ≡ None → HasPiece (unless_stopped net c s)
goes_by n net c None is = needs_by n net c (need_of net.horizon c.order) is
goes_by n net c (Some e) is = absurd cc

pub goes_on : (n : Network) (net : Net) (c : Core) → outcome_in n (outcome_of_core net c) ≡ None → next_piece net c ≡ None → ⊥
goes_on n net c is none = subst HasPiece none (goes_by n net c c.stop is)

-- until the run has ended there is less and less to take
pub redone_less : (old new : MachineValue) (x : Redoing) → RedoneBy old new (Ok x) → outcome_in old.network (outcome_of_core (net_in old) (core_in old)) ≡ None → left (net_in new) (core_in new) < left (net_in old) (core_in old)
redone_less old new redoing.Redone h none = h.less
redone_less old new redoing.Ended h none = absurd (goes_on old.network (net_in old) (core_in old) none h.1)
redone_less old new redoing.Rested h none = absurd h

-- and it stays the same run
same_as : (old new : MachineValue) → new ≡ old → IsSameRun old new
same_as old new is = record { network = ap (λ (x : MachineValue). x.network) is; seed = ap (λ (x : MachineValue). x.seed) is; limits = ap (λ (x : MachineValue). x.limits) is; start = ap (λ (x : MachineValue). x.start) is }

pub itself : (m : MachineValue) → IsSameRun m m
itself m = same_as m m refl

run_by : (old new : MachineValue) (x : Redoing) → RedoneBy old new (Ok x) → IsSameRun old new
run_by old new redoing.Redone h = h.run
run_by old new redoing.Ended h = same_as old new h.0
run_by old new redoing.Rested h = absurd h

pub same_run : (first old new : MachineValue) (x : Redoing) → IsSameRun first old → RedoneBy old new (Ok x) → IsSameRun first new
same_run first old new x a h =
    let b = run_by old new x h in
    record { network = b.network ∙ a.network; seed = b.seed ∙ a.seed; limits = b.limits ∙ a.limits; start = b.start ∙ a.start }

pub failed_run : (first old new : MachineValue) → IsSameRun first old → new ≡ old → IsSameRun first new
failed_run first old new a is =
    let b = same_as old new is in
    record { network = b.network ∙ a.network; seed = b.seed ∙ a.seed; limits = b.limits ∙ a.limits; start = b.start ∙ a.start }
