-- A piece by its parts, and an outcome in code, as the law says it.
use Rattle.std.specs.Prelude.{ℕ, ◌-◌, ◌≡◌, ◌≤◌, List, map, All, IfSome}
use Rattle.std.specs.Option.{option_map}
use Rattle.san_base.specs.Rated.{term_value}
use Rattle.san_base.specs.declared.ending.Event.{Event}
use Rattle.san_base.specs.declared.piece.Kind.{Kind}
use Rattle.san_law.specs.Piece.{LeafState}
use Rattle.san_net.specs.declared.part.Part.{Part}
use Rattle.san_law.specs.Block as block
use Rattle.san_law.specs.Piece as law
use Rattle.san_leaf.specs.Fits.{Fits}
use Rattle.san_leaf.specs.Claimed.{claim_of}
use Rattle.san_leaf.specs.Pieces.{IsLog, IsSound, PieceValue}
use Rattle.san_leaf.specs.States.{pair_in}
use Rattle.san_leaf.specs.Events.{completions_from}
use Rattle.san_leaf.specs.declared.outcome.Fault.{Fault}
use Rattle.san_leaf.specs.declared.outcome.Outcome.{Outcome}

-- an event's activity, by its number in the leaf, and its case
abbrev pub act_in : ℕ → Event → ℕ × ℕ
act_in first e = (e.act.0 - first, e.case)

abbrev pub fault_in : ℕ → Fault → block.Fault
fault_in first f = record { act = f.act.0 - first; trap = f.trap; picked = f.picked }

-- the leaf's first activity has this number
abbrev pub outcome_in : ℕ → Outcome → law.Outcome
outcome_in first o = record {
  completions = completions_from 0 (map (act_in first) o.events.items) o.impulses.items;
  writes = map pair_in o.writes.items;
  state = o.state;
  rates = map term_value o.rates.items;
  fault = option_map (fault_in first) o.fault;
  more = o.more;
}

-- an event at a time, of an activity from a number on
pub record IsEventOf (first time : ℕ) (e : Event) : Type 0 where
  pub time_is : e.time.0 ≡ time
  pub act : first ≤ e.act.0

-- an outcome records of its leaf's activities, at its piece's time
pub record IsNumbered (first time : ℕ) (o : Outcome) : Type 0 where
  pub events : All (IsEventOf first time) o.events.items
  pub fault : IfSome o.fault (λ f. first ≤ f.act.0)

abbrev pub piece_by : Part → ℕ → Kind → LeafState → ℕ → List (ℕ × ℕ) → law.Outcome → PieceValue
piece_by part seed kind base time log outcome = record { part = part; seed = seed; kind = kind; base = base; time = time; log = log; outcome = outcome }

pub record IsPiece (p : PieceValue) (o : Outcome) : Type 0 where
  pub sound : IsSound p
  pub fits : Fits (claim_of p)
  pub log : IsLog p.part p.log
  pub numbered : IsNumbered p.part.first.0 p.time o
