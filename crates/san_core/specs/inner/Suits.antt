-- When a piece's outcome can be taken without memory.
use Rattle.san_base.specs.declared.limits.TheConstants.{MAX_CELLS, MAX_EVENT_IMPULSES}
use Rattle.std.specs.Prelude.{ℕ, ◌≡◌, ◌<◌, ◌≤◌, All, List, [], length, Ok, None}
use Rattle.san_law.specs.Net.{Done, Fresh, Local, Net, Row}
use Rattle.san_law.specs.State.{part_of}
use Rattle.san_law.specs.Piece.{Kind, LeafState, Outcome, Refresh}

-- what the lists of code ask of a network: an impulse is of a reward that is there, a leaf has at most 256 places, as many rates as terms, and as many timers after a renewal
pub record FitsLists (net : Net) : Type 0 where
  pub known : (j k : ℕ) (l : Local) (d : Done) → net.done j k l ≡ Ok d → All (λ x. x.reward < length net.spans) d.impulses
  pub places : (j : ℕ) → length (part_of net j) ≤ MAX_CELLS
  pub rates : (j : ℕ) (values : List ℕ) → length (net.rates j values) ≡ length (net.terms j)
  pub timers : (j time : ℕ) (seen : List ℕ) (l : Local) (r : Row) → net.renewed j time seen l ≡ Fresh r → length r.timers ≡ length l.row.timers

-- a renewal completes nothing, takes no time, and has a rate for each term of the leaf
pub record Renews (net : Net) (now time j : ℕ) (o : Outcome) : Type 0 where
  pub completions : o.completions ≡ []
  pub writes : o.writes ≡ []
  pub time_is : time ≡ now
  pub rates : o.fault ≡ None → length o.rates ≡ length (net.terms j)

-- of a leaf's piece, where there are so many shared values and places, and the order is at a time
pub record Suits (net : Net) (shared places now : ℕ) (kind : Kind) (time j : ℕ) (base : LeafState) (o : Outcome) : Type 0 where
  pub few : length o.completions ≤ 64
  pub impulses : All (λ k. length k.impulses ≤ MAX_EVENT_IMPULSES) o.completions
  pub rewards : All (λ k. All (λ x. x.reward < length net.spans) k.impulses) o.completions
  pub written : All (λ w. (w.0 < shared) × (w.0 < places)) o.writes
  pub writes : length o.writes ≤ MAX_CELLS
  pub early : now ≤ time
  pub timely : time ≤ net.horizon
  pub renews : kind ≡ Refresh → Renews net now time j o
  pub timers : length o.state.row.timers ≡ length base.row.timers
