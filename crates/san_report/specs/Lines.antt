-- The lines of a report. Each ends with a line feed.
use Rattle.std.specs.Prelude.{ℕ, suc, ◌-◌, List, [], ◌∷◌, ◌++◌, codes, Option, Some, None, slice_get, unwrap_or}
use Rattle.std.specs.Fmt.{decimal, signed_decimal}
use Rattle.std.specs.Option.{option_map}
use Rattle.san_base.specs.declared.ending.Event.{Event}
use Rattle.san_base.specs.declared.ending.Ending.{Ending}
use Rattle.san_base.specs.declared.ending.Ending.TheVariants as ending
use Rattle.san_base.specs.declared.ending.Stop.{Stop}
use Rattle.san_base.specs.declared.ending.Stop.TheVariants as stop
use Rattle.san_base.specs.declared.ending.Trap.{Trap}
use Rattle.san_base.specs.declared.ending.Trap.TheVariants as trap
use Rattle.san_base.specs.declared.numbers.Tick.{Tick}
use Rattle.san_net.specs.Network.{Network}
use Rattle.san_net.specs.Tables.{leaves_of_acts}
use Rattle.san_net.specs.declared.part.Part.{Part}
use Rattle.san_net.specs.declared.part.Reward.{Reward}
use Rattle.san_reward.specs.declared.worth.Worth.{Worth}
use Rattle.san_reward.specs.declared.worth.Worth.TheVariants as worth

-- the pieces of a line, one behind another
abbrev pub joined : List (List ℕ) → List ℕ
joined [] = []
joined (piece ∷ pieces) = piece ++ joined pieces

-- the leaf that has an activity
abbrev pub leaf_of : Network → ℕ → ℕ
leaf_of n act = unwrap_or (option_map (λ leaf. leaf.0) (slice_get (leaves_of_acts n.parts) act)) 0

-- the path of a leaf
abbrev pub leaf_path : Network → ℕ → List ℕ
leaf_path n leaf = unwrap_or (slice_get n.paths leaf) []

-- the name of an activity, by its number in the part that has it
abbrev pub name_of : Part → ℕ → List ℕ
name_of part k = unwrap_or (option_map (λ named. named.0) (slice_get part.atomic.acts k)) []

abbrev pub name_in : Option Part → ℕ → List ℕ
name_in None act = []
name_in (Some part) act = name_of part (act - part.first.0)

abbrev pub act_name : Network → ℕ → List ℕ
act_name n act = name_in (slice_get n.parts (leaf_of n act)) act

-- `N T PATH C`, where an activity's path is its leaf's path, a dot and its name
unfoldable pub event_line : Network → ℕ → Event → List ℕ
event_line n k event = joined (decimal k ∷ codes " " ∷ decimal event.time.0 ∷ codes " " ∷ leaf_path n (leaf_of n event.act.0) ∷ codes "." ∷ act_name n event.act.0 ∷ codes " " ∷ decimal event.case ∷ codes "\n" ∷ [])

abbrev pub trap_word : Trap → List ℕ
trap_word trap.Arith = codes "arith"
trap_word trap.Marking = codes "marking"
trap_word trap.Delay = codes "delay"
trap_word trap.Weight = codes "weight"
trap_word trap.Index = codes "index"

-- some words and a time
abbrev pub timed_line : List ℕ → Tick → List ℕ
timed_line words time = joined (words ∷ decimal time.0 ∷ codes "\n" ∷ [])

-- `stop unstable T`, `stop events T` or `stop trap KIND T PATH`
abbrev pub stop_line : Network → Stop → List ℕ
stop_line n (stop.Unstable time) = timed_line (codes "stop unstable ") time
stop_line n (stop.Events time) = timed_line (codes "stop events ") time
stop_line n (stop.Trap kind time act) = joined (codes "stop trap " ∷ trap_word kind ∷ codes " " ∷ decimal time.0 ∷ codes " " ∷ leaf_path n (leaf_of n act.0) ∷ codes "." ∷ act_name n act.0 ∷ codes "\n" ∷ [])

-- `end H N` after so many completions, or a stop
unfoldable pub ending_line : Network → ℕ → Ending → List ℕ
ending_line n k (ending.End horizon) = joined (codes "end " ∷ decimal horizon.0 ∷ codes " " ∷ decimal k ∷ codes "\n" ∷ [])
ending_line n k (ending.Stop why) = stop_line n why

-- a run that stopped has no rewards; a mean is the sum over the number of ticks, not reduced
abbrev pub worth_pieces : Option Worth → List (List ℕ)
worth_pieces None = codes "none" ∷ []
worth_pieces (Some worth.Beyond) = codes "beyond" ∷ []
worth_pieces (Some worth.Fault) = codes "fault" ∷ []
worth_pieces (Some (worth.Sum sum)) = signed_decimal sum ∷ []
worth_pieces (Some (worth.Mean sum ticks)) = signed_decimal sum ∷ codes "/" ∷ decimal ticks ∷ []

-- `reward NAME V`
unfoldable pub reward_line : List ℕ → Option Worth → List ℕ
reward_line name value = joined (codes "reward " ∷ name ∷ codes " " ∷ (worth_pieces value ++ codes "\n" ∷ []))

-- the rewards' lines, numbered from one on
abbrev pub reward_lines : List Reward → ℕ → (ℕ → Option Worth) → List ℕ
reward_lines [] r worth = []
reward_lines (x ∷ xs) r worth = reward_line x.name (worth r) ++ reward_lines xs (suc r) worth
