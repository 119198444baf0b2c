-- Which leaf is claimed next, and that the claim fits.
use Rattle.std.proofs.Common.{ℕ, ◌<◌, ◌≤◌, ◌≡◌, ◌∙◌, ap, sym, subst, refl, arith, Bool, true, false, not, ◌&&◌, nat_lt, List, [], length, Option, Some, None}
use Rattle.std.specs.Option.{option_map}
use Rattle.std.specs.Prelude.{IfSome}
use Rattle.std.proofs.lemmas.Bool.{lt-ltb}
use Rattle.std.proofs.lemmas.Bool.Decides.{nat_tests}
use Rattle.san_base.proofs.Bools.{and_true}
use Rattle.san_base.proofs.NumberTests.{some_same}
use Rattle.san_ahead.specs.Ahead.{AheadValue, last_of}
use Rattle.san_book.specs.Chains.{chain_of}
use Rattle.san_book.specs.Cores as book
use Rattle.san_book.specs.Cores.{Pending, claim_of, is_claimed}
use Rattle.san_book.specs.Plans.{time_of, when}
use Rattle.san_book.specs.Steps.{goes_on, has_none, may_claim}
use Rattle.san_book.specs.declared.limits.TheConstants.{MAX_STEPS_TO_CLAIM}
use Rattle.san_chain.specs.Chains.{end_from}
use Rattle.san_core.specs.Machines.{FollowsRun, MachineValue, core_in, net_in}
use Rattle.san_core.specs.Needed.{IsNeed}
use Rattle.san_core.specs.declared.admission.Taking.{Taking}
use Rattle.san_decide.specs.Booked.{of_piece, part_at}
use Rattle.san_law.specs.Core as law
use Rattle.san_law.specs.Core.{leaf_of}
use Rattle.san_law.specs.Pieces.{next_piece}
use Rattle.san_law.specs.Piece.{LeafState}
use Rattle.san_leaf.specs.Claimed.{claim_of as claim_for}
use Rattle.san_leaf.specs.Fits.{Fits}
use Rattle.san_leaf.specs.Pieces.{IsLog, PieceValue}
use Rattle.san_plan.specs.Plans.{IsFit, LastFits, end_state, plan_at, plan_in}
use Rattle.san_plan.specs.declared.plan.Plan.{Plan}
use Rattle.san_plan.proofs.Planned.{end_last}
use Rattle.san_speculation.specs.Speculating.{book_in}
use Rattle.san_speculation.specs.inner.Claiming.{IsPlanOf, free_time, goes_with}
use Rattle.san_speculation.specs.inner.Committing.{is_full, with_parts}
use Rattle.san_speculation.proofs.Nexts.{full_goes, goes_here, none_goes}

-- whether a run goes on
pub goes_by_need : (m : MachineValue) → FollowsRun m → (t : Taking) → IsNeed m t → (a : AheadValue) → goes_with m a (not (is_full m))
goes_by_need m follows t need a c = by_full (is_full m) refl
  where
    by_full : (b : Bool) → is_full m ≡ b → goes_on (book_in m) m.limits (with_parts m a c) ≡ not b
    by_full true e = full_goes m follows a e c
    by_full false e = goes_here m follows a t need e c

pub goes_by_none : (m : MachineValue) → FollowsRun m → next_piece (net_in m) (core_in m) ≡ None → (a : AheadValue) → goes_with m a false
goes_by_none m follows none a c = none_goes m follows a none c

below_not : (x y : ℕ) → y ≤ x → nat_lt x y ≡ false
below_not x y h = grind (arith, nat_tests)

abbrev time_in : Plan → ℕ
time_in p = p.time.0

-- a free leaf
module _ (m : MachineValue) (a : AheadValue) (claims : List (Option Pending)) (j : ℕ) where
  abbrev room : Bool
  room = nat_lt (length (chain_of a.chains j)) m.limits.window

  abbrev free_by : Bool → Bool → Option ℕ
  free_by claimed wide = when (not claimed && wide) (time_of (plan_at m a j))

  pub free_claimed : is_claimed j claims ≡ true → None ≡ free_time m a claims j
  free_claimed claimed = sym (ap (λ (b : Bool). free_by b room) claimed)

  time_mapped : (first : ℕ) (o : Option Plan) → option_map time_in o ≡ time_of (option_map (plan_in first) o)
  time_mapped first None = refl
  time_mapped first (Some p) = refl

  pub free_plan : (first : ℕ) (o : Option Plan) → option_map (plan_in first) o ≡ plan_at m a j → is_claimed j claims ≡ false → length (chain_of a.chains j) < m.limits.window → option_map time_in o ≡ free_time m a claims j
  free_plan first o is claimed short =
      time_mapped first o
      ∙ (ap time_of is
      ∙ sym (ap (λ (b : Bool). free_by b room) claimed ∙ ap (free_by false) (lt-ltb (length (chain_of a.chains j)) m.limits.window short)))

  pub own_plan : (o : Option Plan) → option_map (plan_in (part_at m.network j).first.0) o ≡ plan_at m a j → IfSome o (IsFit (part_at m.network j)) → IfSome o (IsPlanOf m a j)
  own_plan None is fits = tt
  own_plan (Some p) is fits = record { is = sym is; fits = fits }

-- the end of a chain
pub end_by_last : (m : MachineValue) (a : AheadValue) (j : ℕ) (q : PieceValue) → last_of (chain_of a.chains j) ≡ Some q → q.outcome.state ≡ end_state m a j
end_by_last m a j q is = sym (end_last (leaf_of (core_in m) j) (chain_of a.chains j) q is)

pub end_by_none : (m : MachineValue) (a : AheadValue) (j : ℕ) (s : LeafState) → FollowsRun m → s ≡ leaf_of m.held.core j → chain_of a.chains j ≡ [] → s ≡ end_state m a j
end_by_none m a j s follows is none = is ∙ (ap (λ (x : law.Core). leaf_of x j) follows.held ∙ sym (ap (end_from of_piece.end (leaf_of (core_in m) j)) none))

pub fits_by_last : (a : AheadValue) (j : ℕ) (q : PieceValue) → last_of (chain_of a.chains j) ≡ Some q → Fits (claim_for q) → IsLog q.part q.log → LastFits a j
fits_by_last a j q is fits log r e = subst (λ (x : PieceValue). Fits (claim_for x) × IsLog x.part x.log) (some_same q r (sym is ∙ e)) (fits, log)

pub fits_by_none : (a : AheadValue) (j : ℕ) → chain_of a.chains j ≡ [] → LastFits a j
fits_by_none a j none r e = absurd (let k : None ≡ Some r = sym (ap last_of none) ∙ e in cc)

-- whether a worker may claim
and_off : (a b : Bool) → a ≡ false → (a && b) ≡ false
and_off false b e = refl
and_off true b e = absurd (cc)

off_later : (a b : Bool) → b ≡ false → (a && b) ≡ false
off_later false b e = refl
off_later true b e = e

module _ (m : MachineValue) (a : AheadValue) (c : book.Core law.Core PieceValue) (w : ℕ) where
  abbrev core : book.Core law.Core PieceValue
  core = with_parts m a c

  abbrev goes : Bool
  goes = goes_on (book_in m) m.limits core

  abbrev steps : Bool
  steps = nat_lt (length core.journal) MAX_STEPS_TO_CLAIM

  abbrev backs : Bool
  backs = nat_lt core.rollbacks m.limits.rollbacks

  abbrev there : Bool
  there = nat_lt w (length core.claims)

  abbrev none : Bool
  none = has_none (claim_of core.claims w)

  pub may_not_go : goes ≡ false → may_claim (book_in m) m.limits core w ≡ false
  may_not_go e = and_off goes (steps && (backs && (there && none))) e

  pub may_not_book : MAX_STEPS_TO_CLAIM ≤ length core.journal → may_claim (book_in m) m.limits core w ≡ false
  may_not_book l = off_later goes (steps && (backs && (there && none))) (and_off steps (backs && (there && none)) (below_not (length core.journal) MAX_STEPS_TO_CLAIM l))

  pub may_not_roll : m.limits.rollbacks ≤ core.rollbacks → may_claim (book_in m) m.limits core w ≡ false
  may_not_roll l = off_later goes (steps && (backs && (there && none))) (off_later steps (backs && (there && none)) (and_off backs (there && none) (below_not core.rollbacks m.limits.rollbacks l)))

  pub may_not_hold : none ≡ false → may_claim (book_in m) m.limits core w ≡ false
  may_not_hold e = off_later goes (steps && (backs && (there && none))) (off_later steps (backs && (there && none)) (off_later backs (there && none) (off_later there none e)))

  pub may : goes ≡ true → length core.journal < MAX_STEPS_TO_CLAIM → core.rollbacks < m.limits.rollbacks → w < length core.claims → none ≡ true → may_claim (book_in m) m.limits core w ≡ true
  may a b c d e =
      and_true goes (steps && (backs && (there && none))) a
      (and_true steps (backs && (there && none)) (lt-ltb (length core.journal) MAX_STEPS_TO_CLAIM b)
      (and_true backs (there && none) (lt-ltb core.rollbacks m.limits.rollbacks c)
      (and_true there none (lt-ltb w (length core.claims) d) e)))
