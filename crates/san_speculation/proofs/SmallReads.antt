-- What a core's lines show is a number of tokens.
use Rattle.std.proofs.Common.{ℕ, zero, suc, ◌<◌, ◌≤◌, ◌≡◌, ◌∙◌, ap, arith, refl, sym, subst, List, [], ◌∷◌, length, All, Option, Some, None, Bool, true, false, nat_eq, ◌&&◌, slice_index_or}
use Rattle.std.specs.Prelude.{slice_get, if◌then◌else◌}
use Rattle.std.proofs.lemmas.Option.{slice_get_within}
use Rattle.san_base.proofs.NumberTests.{number_itself, some_same}
use Rattle.san_base.specs.declared.limits.Limits.{Limits}
use Rattle.san_base.specs.declared.limits.TheConstants.{MAX_EVENTS, MAX_TOKENS}
use Rattle.san_base.specs.declared.piece.Stamp.{Stamp}
use Rattle.san_book.specs.Chains.{Chain, chain_of, version_of, written}
use Rattle.san_book.specs.Cores as book
use Rattle.san_book.specs.Lines.{Line, line_of, seen_in, version_at, write_of}
use Rattle.san_book.specs.Nets.{or_zero}
use Rattle.san_book.specs.Whole.{IsWhole}
use Rattle.san_core.specs.Machines.{FollowsRun}
use Rattle.san_core.proofs.Fitting as fit
use Rattle.san_decide.specs.Booked.{book_of, of_piece}
use Rattle.san_draw.specs.Key.{draw_of}
use Rattle.san_expr.specs.Concerns.{IsMarking}
use Rattle.san_law.specs.Core as law
use Rattle.san_law.specs.Core.{leaf_of}
use Rattle.san_law.specs.Piece.{LeafState, no_leaf}
use Rattle.san_law.specs.Standing.{Stands, follows_by}
use Rattle.san_law.specs.Starts.{IsStart}
use Rattle.san_law.specs.State.{State, opening_state}
use Rattle.san_leaf.specs.Fits.{StateFits}
use Rattle.san_leaf.specs.Pieces.{PieceValue}
use Rattle.san_line.specs.Lines.{find, found_by, is_key, sees, value_at, value_or}
use Rattle.san_line.specs.Ordered.{IsOrdered}
use Rattle.san_line.specs.declared.version.Version.{Version}
use Rattle.san_line.proofs.Ordered.{key_is}
use Rattle.san_net.specs.Network.{Network, net_of}
use Rattle.san_net.specs.Runs.{limits_in}
use Rattle.san_net.specs.declared.part.Part.{Part}
use Rattle.san_speculation.specs.Snapshots.{shown_at}
use Rattle.san_speculation.specs.Speculating.{CoreValue, IsReplayed, book_in}
use Rattle.san_speculation.proofs.Keeping.{keeps_the_law}
use Rattle.san_speculation.proofs.SmallBooks.{AllSmall, HasTokens, opened_small, run_small}
use Rattle.san_speculation.proofs.SmallPieces.{AreSmallWrites, HoldsTokens}
use Rattle.san_speculation.proofs.Speculated.{IsRun, leaves_are}

-- versions whose values are numbers of tokens
abbrev AreSmallVersions : List Version → Type 0
AreSmallVersions [] = Unit {0}
AreSmallVersions (v ∷ vs) = (v.value ≤ MAX_TOKENS) × AreSmallVersions vs

or_small : (b : Bool) (v c : ℕ) → v ≤ MAX_TOKENS → c ≤ MAX_TOKENS → value_or b v c ≤ MAX_TOKENS
or_small true v c h k = h
or_small false v c h k = k

seen_small : (s : Stamp) (c : ℕ) (vs : List Version) → c ≤ MAX_TOKENS → AreSmallVersions vs → value_at s c vs ≤ MAX_TOKENS
seen_small s c [] h k = h
seen_small s c (v ∷ vs) h k = seen_small s (value_or (sees s v) v.value c) vs (or_small (sees s v) v.value c k.0 h) k.1

-- a version is found by its leaf and number
key_itself : (v : Version) → is_key v.leaf.0 v.pos v ≡ true
key_itself v = ap (λ (b : Bool). b && nat_eq v.pos v.pos) (number_itself v.leaf.0) ∙ number_itself v.pos

found_first : (v : Version) (vs : List Version) → find v.leaf.0 v.pos (v ∷ vs) ≡ Some v
found_first v vs = ap (λ (b : Bool). found_by b v (find v.leaf.0 v.pos vs)) (key_itself v)

found_later : (l p : ℕ) (x v : Version) (xs : List Version) → find x.leaf.0 x.pos xs ≡ None → find l p xs ≡ Some v → find l p (x ∷ xs) ≡ Some v
found_later l p x v xs none is = by_test (is_key l p x) refl
  where
    by_test : (b : Bool) → is_key l p x ≡ b → found_by b x (find l p xs) ≡ Some v
    by_test true key =
        let k = key_is l p x key in
        let gone : find l p xs ≡ None = subst (λ (m : ℕ). find m p xs ≡ None) k.0 (subst (λ (m : ℕ). find x.leaf.0 m xs ≡ None) k.1 none) in
        absurd (cc)
    by_test false key = is

all_versions : (vs : List Version) → IsOrdered vs → ((l p : ℕ) (v : Version) → find l p vs ≡ Some v → v.value ≤ MAX_TOKENS) → AreSmallVersions vs
all_versions [] o h = tt
all_versions (x ∷ xs) o h = (h x.leaf.0 x.pos x (found_first x xs), all_versions xs o.2 (λ l p v is. h l p v (found_later l p x v xs o.1 is)))

-- what a chain's pieces write
write_of_small : (q : ℕ) (ws : List (ℕ × ℕ)) (v : ℕ) → AreSmallWrites ws → write_of q ws ≡ Some v → v ≤ MAX_TOKENS
write_of_small q [] v s e = absurd (cc)
write_of_small q (x ∷ ws) v s e = by_test (nat_eq x.0 q) (λ k. write_of_small q ws v s.1 k) e
  where
    by_test : (b : Bool) → (write_of q ws ≡ Some v → v ≤ MAX_TOKENS) → (if b then Some x.1 else write_of q ws) ≡ Some v → v ≤ MAX_TOKENS
    by_test true more k = subst (λ (y : ℕ). y ≤ MAX_TOKENS) (some_same x.1 v k) s.0
    by_test false more k = more k

version_small : (t l p : ℕ) (o : Option ℕ) (v : Version) → ((a : ℕ) → o ≡ Some a → a ≤ MAX_TOKENS) → version_of t l p o ≡ Some v → v.value ≤ MAX_TOKENS
version_small t l p None v h e = absurd (cc)
version_small t l p (Some a) v h e = subst (λ (x : Version). x.value ≤ MAX_TOKENS) (some_same (version_at t l p a) v e) (h a refl)

written_small : (l q p : ℕ) (ch : Chain PieceValue) (v : Version) → AllSmall ch → written of_piece l q p ch ≡ Some v → v.value ≤ MAX_TOKENS
written_small l q p [] v s e = absurd (cc)
written_small l q p (x ∷ xs) v s e = by_test (nat_eq x.0 p) (λ k. written_small l q p xs v s.1 k) e
  where
    by_test : (b : Bool) → (written of_piece l q p xs ≡ Some v → v.value ≤ MAX_TOKENS) → (if b then version_of x.1.time l x.0 (write_of q x.1.outcome.writes) else written of_piece l q p xs) ≡ Some v → v.value ≤ MAX_TOKENS
    by_test true more k = version_small x.1.time l x.0 (write_of q x.1.outcome.writes) v (λ a is. write_of_small q x.1.outcome.writes a s.0.writes is) k
    by_test false more k = more k

line_is : (lines : List Line) (q : ℕ) (l : Line) → slice_get lines q ≡ Some l → line_of lines q ≡ l
line_is [] q l e = absurd (cc)
line_is (x ∷ xs) zero l e = some_same x l e
line_is (x ∷ xs) (suc q) l e = line_is xs q l e

-- over a whole book
shown_small : (n : Network) (seed : ℕ) (limits : Limits) (c : book.Core law.Core PieceValue) → IsWhole (book_of n seed limits) c → HasTokens c → (s : Stamp) (q : ℕ) → shown_at c.lines s q ≤ MAX_TOKENS
shown_small n seed limits c whole h s q = by_line (slice_get c.lines q) refl
  where
    by_line : (o : Option Line) → slice_get c.lines q ≡ o → or_zero (seen_in s o) ≤ MAX_TOKENS
    by_line None e = omega arith
    by_line (Some l) e =
        let within : q < length c.lines = slice_get_within c.lines q l e in
        let is : line_of c.lines q ≡ l = line_is c.lines q l e in
        let committed : (line_of c.lines q).committed ≤ MAX_TOKENS = subst (λ (v : ℕ). v ≤ MAX_TOKENS) (sym (whole.committed q within)) (h.held.shared q) in
        let versions : AreSmallVersions (line_of c.lines q).versions = all_versions (line_of c.lines q).versions (whole.exact.ordered q)
        (λ j p v found. written_small j q p (chain_of c.chains j) v (h.chains j) (sym (whole.exact.versions q j p within) ∙ found)) in
        subst (λ (x : Line). value_at s x.committed x.versions ≤ MAX_TOKENS) is (seen_small s (line_of c.lines q).committed (line_of c.lines q).versions committed versions)

-- a start
none_past : (leaves : List LeafState) (i : ℕ) → length leaves ≤ i → slice_index_or leaves i no_leaf ≡ no_leaf
none_past [] i h = refl
none_past (x ∷ xs) zero h = absurd (omega (arith, h))
none_past (x ∷ xs) (suc i) h = none_past xs i (omega (arith, h))

all_marking : (vs : List ℕ) → All (λ v. v ≤ MAX_TOKENS) vs → IsMarking vs
all_marking [] h p = omega arith
all_marking (v ∷ vs) h zero = h 0 0 (omega arith)
all_marking (v ∷ vs) h (suc p) = all_marking vs (λ k d l. h (suc k) d (omega (arith, l))) p

start_small : (n : Network) → IsRun n → (seed : ℕ) (limits : Limits) → limits.events ≤ MAX_EVENTS → (c : law.Core) → IsStart (net_of n (draw_of seed) (limits_in limits)) c → HoldsTokens c
start_small n run seed limits few c starts = record {
  leaves = λ i. by_part i (slice_get n.parts i) refl;
  shared = λ q. fit.shared_small n run.known.network (draw_of seed) (limits_in limits) few run.known.initial starts.follows.0 c st.0 st.1 q;
}
  where
    st : (s : State) × Stands (net_of n (draw_of seed) (limits_in limits)) (opening_state (net_of n (draw_of seed) (limits_in limits))) starts.follows.0 c s
    st = subst (follows_by (net_of n (draw_of seed) (limits_in limits)) (opening_state (net_of n (draw_of seed) (limits_in limits))) starts.follows.0 c) starts.going starts.follows.1

    past_all : (parts : List Part) (i : ℕ) → slice_get parts i ≡ None → length parts ≤ i
    past_all [] i e = omega arith
    past_all (p ∷ parts) zero e = absurd (cc)
    past_all (p ∷ parts) (suc i) e = let k = past_all parts i e in omega (arith, k)

    by_part : (i : ℕ) (o : Option Part) → slice_get n.parts i ≡ o → IsMarking (leaf_of c i).values
    by_part i None e =
        let k = past_all n.parts i e in
        let long = leaves_are n run seed limits c starts in
        subst (λ (l : LeafState). IsMarking l.values) (sym (none_past c.leaves i (omega (arith, k, long)))) (λ p. omega arith)
    by_part i (Some p) e =
        let fits : StateFits p (leaf_of c i) = fit.state_fits n run.known.network (draw_of seed) (limits_in limits) few run.known.initial starts.follows.0 c st.0 st.1 i p e in
        all_marking (leaf_of c i).values fits.small

-- what a core's lines show
pub core_shows_small : (v : CoreValue) → FollowsRun v.machine → IsRun v.machine.network → IsReplayed v → (s : Stamp) (q : ℕ) → shown_at v.book.lines s q ≤ MAX_TOKENS
core_shows_small v follows run r s q =
    let n = v.machine.network in let seed = v.machine.seed in let limits = v.machine.limits in
    let start = start_small n run seed limits follows.limits.events_in_range.1 v.machine.start.core follows.start in
    let small : HasTokens v.book = run_small n seed limits v.book.journal (book.opened (book_in v.machine) r.workers v.machine.start.core) v.book (opened_small n seed limits r.workers v.machine.start.core start) r.replays in
    shown_small n seed limits v.book (keeps_the_law v follows run r).core.whole small s q
