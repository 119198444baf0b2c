-- What a step tells is of an activity of the network.
use Rattle.std.proofs.Common.{ℕ, zero, suc, ◌+◌, ◌<◌, ◌≡◌, ◌∙◌, ap, refl, subst, arith, List, [], ◌∷◌, length, map}
use Rattle.std.proofs.lemmas.List.{length-map}
use Rattle.san_base.specs.declared.ending.Trap.{Trap}
use Rattle.san_law.proofs.Within.{clocks_within, row_within}
use Rattle.san_law.specs.Activity.{Activity}
use Rattle.san_law.specs.Activity as leaf
use Rattle.san_law.specs.Clocks.{AllClocks, BadClock, Clocks}
use Rattle.san_law.specs.Net.{Faulty, Fresh, Net, Renewing, Row}
use Rattle.san_law.specs.Network.{Limits as Bounds, part_at}
use Rattle.san_law.specs.Renewal.{AllFresh, Due, FaultAt, Renewal, and_rest, least_from, renewed_from, renewed_then}
use Rattle.san_law.specs.Renewal as law
use Rattle.san_law.specs.State.{State, gather, slots_of}
use Rattle.san_net.specs.Leaf.{leaf_of}
use Rattle.san_net.specs.Network.{Network, net_of, network_in}
use Rattle.san_seq.specs.inner.Rows.{row_at}
use Rattle.san_net.specs.Tables.{IsActOf}
use Rattle.san_seq.proofs.RangeLemmas.{act_is_of}

-- as many timers as before, or a fault of an activity below a number
abbrev ClocksWithin : ℕ → ℕ → Clocks → Type 0
ClocksWithin many b (AllClocks ts ns) = length ts ≡ many
ClocksWithin many b (BadClock k trap) = k < b

abbrev RowWithin : ℕ → ℕ → Renewing → Type 0
RowWithin many b (Fresh r) = length r.timers ≡ many
RowWithin many b (Faulty k trap) = k < b

-- rows with as many timers, or a fault of an activity of a leaf from a number on
abbrev AllWithin : Net → ℕ → List Row → Renewal → Type 0
AllWithin net i rows (AllFresh fresh) = (length fresh ≡ length rows) × ((j : ℕ) → length (row_at fresh j).timers ≡ length (row_at rows j).timers)
AllWithin net i rows (FaultAt j k trap) = (j < i + length rows) × (k < net.acts j)

rest_within : (net : Net) (i : ℕ) (r now : Row) (rs : List Row) (x : Renewal) → length now.timers ≡ length r.timers → AllWithin net (suc i) rs x → AllWithin net i (r ∷ rs) (and_rest now x)
rest_within net i r now rs (AllFresh fresh) e within = (ap suc within.0, each)
  where
    each : (j : ℕ) → length (row_at (now ∷ fresh) j).timers ≡ length (row_at (r ∷ rs) j).timers
    each zero = e
    each (suc j) = within.1 j
rest_within net i r now rs (FaultAt j k trap) e within = (omega (arith, within.0), within.1)

then_within : (net : Net) (i : ℕ) (r : Row) (rs : List Row) (x : Renewing) (rest : Renewal) → RowWithin (length r.timers) (net.acts i) x → AllWithin net (suc i) rs rest → AllWithin net i (r ∷ rs) (renewed_then i x rest)
then_within net i r rs (Fresh now) rest h within = rest_within net i r now rs rest h within
then_within net i r rs (Faulty k trap) rest h within = (omega arith, h)

renewal_within : (n : Network) (draw : ℕ → ℕ → ℕ) (bounds : Bounds) (s : State) (i : ℕ) (rows : List Row) → AllWithin (net_of n draw bounds) i rows (renewed_from (net_of n draw bounds) s i rows)
renewal_within n draw bounds s i [] = (refl, λ j. refl)
renewal_within n draw bounds s i (r ∷ rs) =
    let net = net_of n draw bounds in
    let part = part_at (network_in n) i in
    then_within net i r rs (law.renewed_at net s i r) (renewed_from net s (suc i) rs)
    (row_within (length r.timers) (length part.activities) r.cases _ (clocks_within (λ k. draw (leaf.delay_stream part k)) s.time (gather (slots_of net i) s.stable) (gather (slots_of net i) s.marking) (length part.activities) 0 part.activities r.timers r.delays (omega arith)))
    (renewal_within n draw bounds s (suc i) rs)

-- an activity whose renewal traps is one of the network
pub fault_within : (n : Network) (draw : ℕ → ℕ → ℕ) (bounds : Bounds) (s : State) (j k : ℕ) (trap : Trap) → length s.rows ≡ length n.parts
    → renewed_from (net_of n draw bounds) s 0 s.rows ≡ FaultAt j k trap → IsActOf n j k
fault_within n draw bounds s j k trap each is =
    let net = net_of n draw bounds in
    let many : length net.parts ≡ length n.parts = length-map (map leaf_of n.parts) (λ (q : leaf.Part). q.slots) ∙ length-map n.parts leaf_of in
    let at = subst (AllWithin net 0 s.rows) is (renewal_within n draw bounds s 0 s.rows) in
    act_is_of n draw bounds j k (omega (arith, at.0, each, many)) at.1
