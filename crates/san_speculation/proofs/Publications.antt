-- A piece that goes on from a leaf's chain is the one that its log makes, and its publication is the book's.
use Rattle.std.proofs.Common.{ℕ, zero, suc, ◌+◌, ◌-◌, ◌<◌, ◌≤◌, ◌≡◌, ◌∙◌, ap, sym, subst, refl, arith, All, Bool, true, false, nat_eq, nat_le, List, [], ◌∷◌, length, map, Option, Some, None}
use Rattle.std.specs.Prelude.{slice_get}
use Rattle.std.proofs.lemmas.Bool.Decides.{nat_tests}
use Rattle.std.proofs.lemmas.List.{length-map}
use Rattle.san_base.proofs.Bools.{and_true}
use Rattle.san_base.proofs.NumberTests.{number_turned}
use Rattle.san_base.specs.declared.limits.TheConstants.{MAX_CELLS, MAX_TOKENS}
use Rattle.san_base.specs.declared.piece.Kind as base
use Rattle.san_base.specs.declared.piece.Kind.TheVariants as named
use Rattle.san_expr.specs.Concerns.{IsMarking}
use Rattle.san_law.specs.Lawful.{AreDistinct}
use Rattle.san_law.specs.Net.{Private, Shared, Slot}
use Rattle.san_law.specs.Piece as kinds
use Rattle.san_law.specs.Piece.{LeafState, Outcome, piece_of}
use Rattle.san_law.specs.State.{index_of, place_of}
use Rattle.san_law.proofs.Places.{or_next_none}
use Rattle.san_log.specs.Logs.{Entry, find, found_by}
use Rattle.san_log.specs.Once.{AreNoted, AreOnce}
use Rattle.san_leaf.specs.Claimed.{claim_of}
use Rattle.san_leaf.specs.Fits.{Fits, IsTimed, KindFits}
use Rattle.san_leaf.specs.Pieces.{AgreesWith, IsLog, IsSound, PieceValue, reads_from, reads_in, slots_in, with_read}
use Rattle.san_leaf.specs.States.{kind_in, pair_in}
use Rattle.san_net.specs.Network.{Network}
use Rattle.san_net.specs.Runs.{limits_in, net_at}
use Rattle.san_net.specs.declared.activity.ActKind.{ActKind}
use Rattle.san_net.specs.declared.activity.ActKind.TheVariants as act
use Rattle.san_net.specs.declared.part.Part.{Part}
use Rattle.san_book.specs.Nets.{same_list, values_from}
use Rattle.san_book.specs.Plans.{when}
use Rattle.san_decide.specs.Booked.{entry_of, is_timed, is_timed_act, made_from, named_in, own_kind, part_at, piece_from, same_read}
use Rattle.san_decide.proofs.Booking.{pairs_back, read_itself, reads_tell, slots_apart, slots_distinct}
use Rattle.san_book.proofs.Subject.{list_itself}
use Rattle.san_core.specs.Machines.{MachineValue}
use Rattle.san_core.proofs.Following.{piece_is}
use Rattle.san_speculation.proofs.Heads.{part_there}
use Rattle.san_speculation.proofs.Speculated.{IsRun}

-- what was read of a leaf's cells names no place twice
unread : (r : ℕ) (ss : List Slot) (vs : List ℕ) (looks : ℕ → Bool) (k : ℕ) → index_of r (map place_of ss) ≡ None → find r (map entry_of (reads_from looks k ss vs)) ≡ None
unread r [] vs looks k none = refl
unread r (Private p ∷ ss) [] looks k none = refl
unread r (Shared p ∷ ss) [] looks k none = refl
unread r (Private p ∷ ss) (v ∷ vs) looks k none = unread r ss vs looks (suc k) (or_next_none (nat_eq r p) (index_of r (map place_of ss)) none).1
unread r (Shared p ∷ ss) (v ∷ vs) looks k none = by_look (looks k) (unread r ss vs looks (suc k) none_here.1)
  where
    none_here : (nat_eq r p ≡ false) × (index_of r (map place_of ss) ≡ None)
    none_here = or_next_none (nat_eq r p) (index_of r (map place_of ss)) none

    by_look : (b : Bool) → find r (map entry_of (reads_from looks (suc k) ss vs)) ≡ None → find r (map entry_of (with_read b (p, v) (reads_from looks (suc k) ss vs))) ≡ None
    by_look false rest = rest
    by_look true rest = ap (λ (b : Bool). found_by b v (find r (map entry_of (reads_from looks (suc k) ss vs)))) (number_turned r p none_here.0) ∙ rest

read_once : (ss : List Slot) (vs : List ℕ) (looks : ℕ → Bool) (k : ℕ) → AreDistinct (map place_of ss) → AreOnce (map entry_of (reads_from looks k ss vs))
read_once [] vs looks k d = tt
read_once (Private p ∷ ss) [] looks k d = tt
read_once (Shared p ∷ ss) [] looks k d = tt
read_once (Private p ∷ ss) (v ∷ vs) looks k d = read_once ss vs looks (suc k) d.1
read_once (Shared p ∷ ss) (v ∷ vs) looks k d = by_look (looks k) (unread p ss vs looks (suc k) d.0) (read_once ss vs looks (suc k) d.1)
  where
    by_look : (b : Bool) → find p (map entry_of (reads_from looks (suc k) ss vs)) ≡ None → AreOnce (map entry_of (reads_from looks (suc k) ss vs)) → AreOnce (map entry_of (with_read b (p, v) (reads_from looks (suc k) ss vs)))
    by_look false none rest = rest
    by_look true none rest = (none, rest)

-- each value is a number of tokens, and there are no more than cells
read_small : (ss : List Slot) (vs : List ℕ) (looks : ℕ → Bool) (k : ℕ) → IsMarking vs → All (λ (e : Entry). e.1 ≤ MAX_TOKENS) (map entry_of (reads_from looks k ss vs))
read_small [] vs looks k small i d l = absurd (omega (arith, l))
read_small (Private p ∷ ss) [] looks k small i d l = absurd (omega (arith, l))
read_small (Shared p ∷ ss) [] looks k small i d l = absurd (omega (arith, l))
read_small (Private p ∷ ss) (v ∷ vs) looks k small i d l = read_small ss vs looks (suc k) (λ q. small (suc q)) i d l
read_small (Shared p ∷ ss) (v ∷ vs) looks k small i d l = by_look (looks k) (read_small ss vs looks (suc k) (λ q. small (suc q))) i d l
  where
    by_look : (b : Bool) → All (λ (e : Entry). e.1 ≤ MAX_TOKENS) (map entry_of (reads_from looks (suc k) ss vs)) → All (λ (e : Entry). e.1 ≤ MAX_TOKENS) (map entry_of (with_read b (p, v) (reads_from looks (suc k) ss vs)))
    by_look false rest i d l = rest i d l
    by_look true rest zero d l = small 0
    by_look true rest (suc i) d l = rest i d (omega (arith, l))

read_few : (ss : List Slot) (vs : List ℕ) (looks : ℕ → Bool) (k : ℕ) → length (reads_from looks k ss vs) ≤ length ss
read_few [] vs looks k = omega arith
read_few (Private p ∷ ss) [] looks k = omega arith
read_few (Shared p ∷ ss) [] looks k = omega arith
read_few (Private p ∷ ss) (v ∷ vs) looks k = let l = read_few ss vs looks (suc k) in omega (arith, l)
read_few (Shared p ∷ ss) (v ∷ vs) looks k = by_look (looks k) (read_few ss vs looks (suc k))
  where
    by_look : (b : Bool) → length (reads_from looks (suc k) ss vs) ≤ length ss → length (with_read b (p, v) (reads_from looks (suc k) ss vs)) ≤ suc (length ss)
    by_look false l = omega (arith, l)
    by_look true l = omega (arith, l)

-- a kind of a part, there and back
le_true : (a b : ℕ) → a ≤ b → nat_le a b ≡ true
le_true a b h = grind (arith, nat_tests)

timed_is : (k : ActKind) → IsTimed k → is_timed k ≡ true
timed_is (act.Timed delay pair) h = refl
timed_is (act.Instant priority) h = absurd h

own_is : (q : Part) (k : base.Kind) → KindFits q k → own_kind q k ≡ Some (kind_in q.first.0 k)
own_is q (named.Fire a) h =
    ap (λ (b : Bool). when b (Some (kinds.Fire (a.0 - q.first.0))))
    (and_true (nat_le q.first.0 a.0) (is_timed_act (slice_get q.atomic.acts (a.0 - q.first.0))) (le_true q.first.0 a.0 h.0) (ap is_timed_act h.1.1 ∙ timed_is h.1.0.1.kind h.1.2))
own_is q named.Settle h = refl
own_is q named.Refresh h = refl

named_is : (q : Part) (k : base.Kind) → KindFits q k → named_in q.first.0 (kind_in q.first.0 k) ≡ k
named_is q (named.Fire a) h = let e : q.first.0 + (a.0 - q.first.0) ≡ a.0 = omega (arith, h.0) in ap (λ (x : ℕ). named.Fire (record { 0 = x })) e
named_is q named.Settle h = refl
named_is q named.Refresh h = refl

module _ (m : MachineValue) (run : IsRun m.network) (j : ℕ) (there : j < length m.network.parts) (p : PieceValue) (sound : IsSound p) (fits : Fits (claim_of p)) (log : IsLog p.part p.log) (seed : p.seed ≡ m.seed) (part : p.part ≡ part_at m.network j) where
  abbrev n : Network
  n = m.network

  abbrev kind : kinds.Kind
  kind = kind_in p.part.first.0 p.kind

  abbrev es : List Entry
  es = map entry_of p.log

  abbrev vals : List ℕ
  vals = values_from 0 n.shared es

  distinct : AreDistinct (map place_of (slots_in p.part))
  distinct = subst (λ (q : Part). AreDistinct (map place_of (slots_in q))) (sym part) (slots_distinct n run.known.network m.seed m.limits j)

  agree : AgreesWith p.log vals
  agree =
      let read = reads_tell n.shared _ (slots_in (part_at n j)) log.values log.looks 0 (slots_apart n run.known.network m.seed m.limits j) (slots_distinct n run.known.network m.seed m.limits j) in
      subst (λ (xs : List (ℕ × ℕ)). AgreesWith xs (values_from 0 n.shared (map entry_of xs))) (sym log.is)
      (subst (λ (q : Part). AgreesWith (reads_from log.looks 0 (slots_in q) log.values) (values_from 0 n.shared (map entry_of (reads_from log.looks 0 (slots_in q) log.values)))) (sym part) read)

  reads_here : reads_in (part_at n j) m.seed kind p.base vals ≡ p.log
  reads_here =
      ap (λ (q : Part). reads_in q m.seed kind p.base vals) (sym part)
      ∙ (ap (λ (s : ℕ). reads_in p.part s kind p.base vals) (sym seed)
      ∙ sound.reads vals agree)

  outcome_here : piece_of (net_at n m.seed m.limits) j kind p.time p.base vals ≡ p.outcome
  outcome_here =
      ap (λ (s : ℕ). piece_of (net_at n s m.limits) j kind p.time p.base vals) (sym seed)
      ∙ piece_is n (limits_in m.limits) j p vals sound (part_there n.parts j there ∙ ap (λ (q : Part). (let o : Option Part = Some q in o)) (sym part)) agree

  abbrev by : Part → ℕ → base.Kind → List (ℕ × ℕ) → Outcome → PieceValue
  by q s k l o = record { part = q; seed = s; kind = k; base = p.base; time = p.time; log = l; outcome = o }

  is_piece : piece_from n m.seed m.limits j p.base kind p.time vals (map pair_in es) ≡ p
  is_piece =
      ap (λ (q : Part). by (part_at n j) m.seed (named_in q.first.0 kind) (map pair_in es) (piece_of (net_at n m.seed m.limits) j kind p.time p.base vals)) (sym part)
      ∙ (ap (λ (k : base.Kind). by (part_at n j) m.seed k (map pair_in es) (piece_of (net_at n m.seed m.limits) j kind p.time p.base vals)) (named_is p.part p.kind fits.kind)
      ∙ (ap (λ (l : List (ℕ × ℕ)). by (part_at n j) m.seed p.kind l (piece_of (net_at n m.seed m.limits) j kind p.time p.base vals)) (pairs_back p.log)
      ∙ (ap (by (part_at n j) m.seed p.kind p.log) outcome_here
      ∙ (ap (λ (q : Part). by q m.seed p.kind p.log p.outcome) (sym part)
      ∙ ap (λ (s : ℕ). by p.part s p.kind p.log p.outcome) (sym seed)))))

  -- its log makes it
  pub made : made_from n m.seed m.limits j p.base kind p.time es ≡ Some p
  made =
      let test : same_list same_read (reads_in (part_at n j) m.seed kind p.base vals) (map pair_in es) ≡ true =
      ap (λ (xs : List (ℕ × ℕ)). same_list same_read xs (map pair_in es)) reads_here ∙ (ap (same_list same_read p.log) (pairs_back p.log) ∙ list_itself same_read read_itself p.log) in
      ap (λ (b : Bool). when b (Some (piece_from n m.seed m.limits j p.base kind p.time vals (map pair_in es)))) test
      ∙ ap (λ (x : PieceValue). (let o : Option PieceValue = Some x in o)) is_piece

  -- of a kind that the leaf has
  pub kind_here : own_kind (part_at n j) p.kind ≡ Some kind
  kind_here = ap (λ (q : Part). own_kind q p.kind) (sym part) ∙ own_is p.part p.kind fits.kind

  -- and its reads fit
  pub noted_here : AreNoted es
  noted_here = subst (λ (xs : List (ℕ × ℕ)). AreNoted (map entry_of xs)) (sym log.is)
      (record { once = read_once (slots_in p.part) log.values log.looks 0 distinct; small = read_small (slots_in p.part) log.values log.looks 0 log.small })

  pub few_here : length es ≤ MAX_CELLS
  few_here =
      let long : length es ≡ length p.log = length-map p.log entry_of in
      let reads : length p.log ≤ length (slots_in p.part) = subst (λ (xs : List (ℕ × ℕ)). length xs ≤ length (slots_in p.part)) (sym log.is) (read_few (slots_in p.part) log.values log.looks 0) in
      let slots : length (slots_in p.part) ≡ length p.part.slots = length-map p.part.slots Rattle.san_net.specs.Leaf.slot_in in
      omega (arith, long, reads, slots, fits.each, fits.accepted.cells)
