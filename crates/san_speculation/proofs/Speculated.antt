-- What is known of a core's run, and of a core that has done nothing yet.
use Rattle.std.proofs.Common.{ℕ, zero, suc, ◌<◌, ◌≤◌, ◌≡◌, ◌∙◌, ◌⊎◌, inl, inr, ap, sym, subst, refl, arith, List, [], ◌∷◌, length, map, replicate, Option, Some, None}
use Rattle.std.specs.Prelude.{slice_get}
use Rattle.std.proofs.lemmas.Bool.{cases_lt}
use Rattle.std.proofs.lemmas.List.{length-map, length-take-le}
use Rattle.san_base.proofs.NumberTests.{some_same}
use Rattle.san_base.specs.declared.limits.Limits.{Limits}
use Rattle.san_base.specs.declared.limits.TheConstants.{MAX_WORKERS}
use Rattle.san_base.specs.declared.numbers.LeafId.{LeafId}
use Rattle.san_book.specs.Cores as book
use Rattle.san_book.specs.Cores.{Pending}
use Rattle.san_book.specs.Laws.{IsCore}
use Rattle.san_book.specs.Bounds.{IsBrief}
use Rattle.san_book.specs.Whole.{HasValues, IsLawfulMachine}
use Rattle.san_book.proofs.Replaying.{every_run, opens_well}
use Rattle.san_decide.specs.Booked.{book_of}
use Rattle.san_decide.proofs.Booking.{book_is_lawful, every_core_follows}
use Rattle.san_ahead.specs.Ahead.{AheadValue, nothing}
use Rattle.san_draw.specs.Key.{draw_of}
use Rattle.san_law.specs.Activity as leaf
use Rattle.san_law.specs.Core as law
use Rattle.san_law.specs.Core.{after_pieces}
use Rattle.san_law.specs.Lawful.{AllBelow, IsLaid, IsLawful}
use Rattle.san_law.specs.Net.{Net}
use Rattle.san_law.specs.Network.{Limits as Bounds}
use Rattle.san_law.specs.Standing.{Stands, follows_by}
use Rattle.san_law.specs.Starts.{IsStart}
use Rattle.san_law.specs.State.{State, opening_state}
use Rattle.san_leaf.specs.Pieces.{PieceValue}
use Rattle.san_net.specs.Laid.{IsNetwork, places_of}
use Rattle.san_net.specs.Leaf as net
use Rattle.san_net.specs.Network.{Network, net_of}
use Rattle.san_net.specs.Runs.{limits_in, net_at}
use Rattle.san_net.specs.Tables.{importers_of}
use Rattle.san_net.proofs.HolderLemmas.{Has, has_some}
use Rattle.san_net.proofs.PartLemmas.{places_are}
use Rattle.san_core.specs.Committed.{CommittedValue}
use Rattle.san_core.specs.Machines as machine
use Rattle.san_core.specs.Machines.{MachineValue}
use Rattle.san_core.proofs.Knowing.{Known, known}
use Rattle.san_speculation.specs.Speculating.{CoreValue, EveryInterleaving, IsReplayed, claim_in, core_by, opened_core}

abbrev pub HasTwo : Network → Type 0
HasTwo n = (place : ℕ) → place < n.shared → 2 ≤ length (importers_of n.parts place)

-- what is known of a network, and that each shared place is of two leaves
pub record IsRun (n : Network) : Type 0 where
  pub known : Known n
  pub shared : HasTwo n

pub is_run : (x n : Network) → x ≡ n → IsNetwork x → ((draw : ℕ → ℕ → ℕ) (limits : Bounds) → IsLawful (net_of x draw limits)) → ((draw : ℕ → ℕ → ℕ) (limits : Bounds) → IsLaid (net_of x draw limits) (length x.initial))
    → HasTwo x → ((place : ℕ) → x.shared ≤ place → place < length x.initial → length (importers_of x.parts place) ≡ 1) → IsRun n
is_run x n is network lawful laid shared private = record { known = known x n is network lawful laid shared private; shared = subst HasTwo is shared }

-- a place of a leaf is one of the marking's
found_below : (xs : List ℕ) (m i q : ℕ) → AllBelow xs m → slice_get xs i ≡ Some q → q < m
found_below [] m i q below e = absurd (cc)
found_below (x ∷ xs) m zero q below e = subst (λ (k : ℕ). k < m) (some_same x q e) below.0
found_below (x ∷ xs) m (suc i) q below e = found_below xs m i q below.1 e

pub shared_within : (n : Network) (draw : ℕ → ℕ → ℕ) (limits : Bounds) → HasTwo n → (m : ℕ) → IsLaid (net_of n draw limits) m → n.shared ≤ m
shared_within n draw limits shared m laid = by_case (cases_lt m n.shared)
  where
    by_case : (m < n.shared) ⊎ (n.shared ≤ m) → n.shared ≤ m
    by_case (inr l) = l
    by_case (inl l) =
        let has : Has n.parts m = has_some n.parts m (let two = shared m l in omega (arith, two)) in
        let below : AllBelow (places_of has.part) m = subst (λ (xs : List ℕ). AllBelow xs m) (places_are n has.leaf has.part has.is draw limits) (laid.below has.leaf) in
        absurd (let k : m < m = found_below (places_of has.part) m has.cell m below has.at in omega (arith, k))

-- a start has a state for each leaf, and a value for each shared place
pub record HasSizes (n : Network) (c : law.Core) : Type 0 where
  pub leaves : length c.leaves ≡ length n.parts
  pub shared : length c.shared ≡ n.shared

pub sizes_of : (n : Network) (draw : ℕ → ℕ → ℕ) (limits : Bounds) → HasTwo n → (c : law.Core) → IsStart (net_of n draw limits) c → HasSizes n c
sizes_of n draw limits shared c starts =
    let past = starts.follows.0 in
    let st : (s : State) × Stands (net_of n draw limits) (opening_state (net_of n draw limits)) past c s =
    subst (follows_by (net_of n draw limits) (opening_state (net_of n draw limits)) past c) starts.going starts.follows.1 in
    let holds = st.1.holds in
    record {
      leaves = holds.sized.leaves ∙ (length-map (map net.leaf_of n.parts) (λ (q : leaf.Part). q.slots) ∙ length-map n.parts net.leaf_of);
      shared = ap length holds.shared ∙ length-take-le n.shared st.0.marking (shared_within n draw limits shared (length st.0.marking) holds.sized.laid);
    }

pub leaves_are : (n : Network) → IsRun n → (seed : ℕ) (limits : Limits) (c : law.Core) → IsStart (net_at n seed limits) c → length c.leaves ≡ length n.parts
leaves_are n run seed limits c starts = (sizes_of n (draw_of seed) (limits_in limits) run.shared c starts).leaves

pub has_values : (n : Network) → IsRun n → (seed : ℕ) (limits : Limits) (c : law.Core) → IsStart (net_at n seed limits) c → HasValues (book_of n seed limits) c
has_values n run seed limits c starts = (sizes_of n (draw_of seed) (limits_in limits) run.shared c starts).shared

pub is_lawful : (n : Network) → IsRun n → (seed : ℕ) (limits : Limits) (c : law.Core) → IsStart (net_at n seed limits) c → IsLawfulMachine (book_of n seed limits)
is_lawful n run seed limits c starts = book_is_lawful n run.known.network seed limits

-- whatever steps are done to a core over a start
pub every_interleaving : (n : Network) → IsRun n → (seed : ℕ) (limits : Limits) (start : CommittedValue) (workers : ℕ) → IsStart (net_at n seed limits) start.core → EveryInterleaving n seed limits start workers
every_interleaving n run seed limits start workers starts ss c e =
    let values = has_values n run seed limits start.core starts in
    record {
      core = (every_run (book_of n seed limits) (is_lawful n run seed limits start.core starts) limits workers start.core ss c values e).0;
      follows = every_core_follows n run.known.network seed limits start.core starts values workers ss c e;
    }

-- a core without steps, by its parts
abbrev with_held : AheadValue → List (Option Pending) → law.Core → book.Core law.Core PieceValue
with_held a claims held = record { held = held; chains = a.chains; counters = a.counters; lines = a.lines; claims = claims; journal = []; rollbacks = 0; taken = 0 }

none_taken : (w : Net) (c : law.Core) → after_pieces w 0 c ≡ c
unfolding after_pieces
none_taken w c = refl

pub opened_by : (n : Network) (seed : ℕ) (limits : Limits) (s : CommittedValue) (workers : ℕ) (m : MachineValue) (a : AheadValue) (claims : List (Option LeafId)) (leaves : ℕ)
    → m ≡ machine.opened n seed limits s → a ≡ nothing leaves s.core.shared → leaves ≡ length n.parts → map claim_in claims ≡ replicate (suc workers) None → length s.core.leaves ≡ length n.parts
    → core_by m a claims [] 0 ≡ opened_core n seed limits s workers
opened_by n seed limits s workers m a claims leaves is made count none long =
    ap (λ (x : MachineValue). core_by x a claims [] 0) is
    ∙ (ap (λ (h : law.Core). with_book (with_held a (map claim_in claims) h)) (none_taken (net_at n seed limits) s.core)
    ∙ (ap (λ (x : AheadValue). with_book (with_held x (map claim_in claims) s.core)) (made ∙ ap (λ (k : ℕ). nothing k s.core.shared) (count ∙ sym long))
    ∙ ap (λ (os : List (Option Pending)). with_book (with_held (nothing (length s.core.leaves) s.core.shared) os s.core)) none))
  where
    with_book : book.Core law.Core PieceValue → CoreValue
    with_book b = record { machine = machine.opened n seed limits s; book = b }

-- it has come there by no steps
pub opens_replayed : (n : Network) → IsRun n → (seed : ℕ) (limits : Limits) (s : CommittedValue) → IsStart (net_at n seed limits) s.core → (workers : ℕ) → workers ≤ MAX_WORKERS → (v : CoreValue) → v ≡ opened_core n seed limits s workers → IsReplayed v
opens_replayed n run seed limits s starts workers few v is =
    let opens : IsCore (book_of n seed limits) limits workers s.core (book.opened (book_of n seed limits) workers s.core) × IsBrief limits (book.opened (book_of n seed limits) workers s.core) =
    opens_well (book_of n seed limits) limits workers s.core (has_values n run seed limits s.core starts) in
    subst IsReplayed (sym is) (record { workers = workers; few = few; claims = opens.0.claims; replays = refl; brief = opens.1 })
