-- The committed part of a run is as the book asks.
use Rattle.std.proofs.Common.{ℕ, zero, suc, ◌+◌, ◌-◌, ◌≡◌, ◌⊎◌, ◌∙◌, inl, inr, ap, sym, refl, subst, arith, Bool, true, false, nat_eq, List, [], ◌∷◌, length, map, Option, Some, None}
use Rattle.std.specs.Prelude.{if◌then◌else◌, slice_get, slice_index, slice_index_or}
use Rattle.san_base.proofs.Bools.{and_true, both_true}
use Rattle.san_base.proofs.NumberTests.{number_itself, same_number}
use Rattle.san_base.specs.declared.limits.Limits.{Limits}
use Rattle.san_draw.specs.Key.{draw_of}
use Rattle.san_log.specs.Logs.{Entry, find, found_by}
use Rattle.san_law.specs.Core as law
use Rattle.san_law.specs.Core.{Core, leaf_of, taken}
use Rattle.san_law.specs.Network.{Limits as Bounds}
use Rattle.san_law.specs.Lawful.{AllApart, AreDistinct, IsLaid}
use Rattle.san_law.specs.Net.{Net, Private, Shared, Slot}
use Rattle.san_law.specs.Order.{Finished, Need, Needs, need_of}
use Rattle.san_law.specs.Standing.{Follows}
use Rattle.san_law.specs.Starts.{IsStart}
use Rattle.san_law.specs.Step.{Ending, Event}
use Rattle.san_law.proofs.Ahead.{same_view}
use Rattle.san_law.proofs.Standing.{pieces_keep}
use Rattle.san_law.specs.Piece as kinds
use Rattle.san_law.specs.Piece.{Kind, LeafState, Outcome, leaf_view, piece_of}
use Rattle.san_law.specs.State.{index_of, opening_state, place_of, slots_of}
use Rattle.san_law.proofs.Alone.{piece_is_alone}
use Rattle.san_law.proofs.Frames.{others_stay, own_is_the_pieces, unwritten_stay}
use Rattle.san_law.proofs.Places.{or_next_none}
use Rattle.san_leaf.specs.Pieces.{AgreesWith, PieceValue, reads_from, reads_in, sees_in, slots_in, with_read, looks_in}
use Rattle.san_leaf.specs.States.{kind_in, pair_in}
use Rattle.san_net.specs.Laid.{IsNetwork}
use Rattle.san_net.specs.Leaf as net
use Rattle.san_net.specs.Network.{Network, network_in}
use Rattle.san_net.specs.Runs.{limits_in, net_at}
use Rattle.san_net.specs.declared.part.Part.{Part}
use Rattle.san_net.proofs.LaidLemmas.{laid, lawful}
use Rattle.san_book.specs.Cores as book
use Rattle.san_book.specs.Cores.{Step, opened}
use Rattle.san_book.specs.Journals.{replayed}
use Rattle.san_book.specs.Lines.{AreWrites, agrees, is_value}
use Rattle.san_book.specs.Machines.{advance, after_pieces, take_need}
use Rattle.san_book.specs.Nets.{is_there, or_zero, same_list, same_state, values_from}
use Rattle.san_book.specs.Plans.{when}
use Rattle.san_book.specs.Whole.{HasValues, IsLawfulMachine, IsAsAsked}
use Rattle.san_book.proofs.Following.{IsShared, shared_below, value_from}
use Rattle.san_book.proofs.Noting.{value_is}
use Rattle.san_book.proofs.Replaying.{every_run}
use Rattle.san_book.proofs.Subject.{events_more, leaves_long, list_is, list_itself, not_stopped, piece_fits, shared_long, state_is, state_itself, there, unwritten, value_of}
use Rattle.san_decide.specs.Booked.{BookIsLawful, EveryCoreFollows, book_of, entry_of, made_from, named_in, needed_from, no_part, of_piece, part_at, piece_from, same_read}
use Rattle.san_decide.proofs.Pieces.{reads_decide}
use Rattle.san_law.proofs.Rest.{none_more}
use Rattle.san_net.proofs.PartLemmas.{leaf_there}

-- logs, as pairs and as entries
pub pairs_back : (xs : List (ℕ × ℕ)) → map pair_in (map entry_of xs) ≡ xs
pairs_back [] = refl
pairs_back (x ∷ xs) = ap (λ (ys : List (ℕ × ℕ)). x ∷ ys) (pairs_back xs)

pub entries_back : (log : List Entry) → map entry_of (map pair_in log) ≡ log
entries_back [] = refl
entries_back (e ∷ log) = ap (λ (es : List Entry). e ∷ es) (entries_back log)

pub pairs_agree : (log : List Entry) (shared : List ℕ) → agrees (slice_get shared) log ≡ true → AgreesWith (map pair_in log) shared
pairs_agree [] shared h = tt
pairs_agree (e ∷ log) shared h =
    let b = both_true (is_value e.1 (slice_get shared e.0.0)) (agrees (slice_get shared) log) h in
    (sym (value_of shared e.0.0 e.1 (value_is e.1 (slice_get shared e.0.0) b.0)), pairs_agree log shared b.1)

read_is : (a b : ℕ × ℕ) → same_read a b ≡ true → a ≡ b
read_is a b h =
    let t = both_true (nat_eq a.0 b.0) (nat_eq a.1 b.1) h in
    ap (λ (n : ℕ). (n, a.1)) (same_number a.0 b.0 t.0) ∙ ap (λ (n : ℕ). (b.0, n)) (same_number a.1 b.1 t.1)

pub read_itself : (a : ℕ × ℕ) → same_read a a ≡ true
read_itself a = and_true (nat_eq a.0 a.0) (nat_eq a.1 a.1) (number_itself a.0) (number_itself a.1)

-- what a leaf reads of shared values is there
reads_agree : (n : ℕ) (others : ℕ → Type 0) (ss : List Slot) (values shared : List ℕ) (looks : ℕ → Bool) (k : ℕ) → length shared ≡ n → AllApart n others ss
    → agrees (slice_get shared) (map entry_of (reads_from looks k ss (leaf_view ss values shared))) ≡ true
reads_agree n others [] values shared looks k l a = refl
reads_agree n others (Private p ∷ ss) [] shared looks k l a = reads_agree n others ss [] shared looks (suc k) l a.2
reads_agree n others (Private p ∷ ss) (v ∷ values) shared looks k l a = reads_agree n others ss values shared looks (suc k) l a.2
reads_agree n others (Shared q ∷ ss) values shared looks k l a = by_look (looks k) (reads_agree n others ss values shared looks (suc k) l a.1)
  where
    by_look : (b : Bool) → agrees (slice_get shared) (map entry_of (reads_from looks (suc k) ss (leaf_view ss values shared))) ≡ true
        → agrees (slice_get shared) (map entry_of (with_read b (q, slice_index shared q) (reads_from looks (suc k) ss (leaf_view ss values shared)))) ≡ true
    by_look false rest = rest
    by_look true rest = let h = a.0 in
        and_true (is_value (slice_index shared q) (slice_get shared q)) (agrees (slice_get shared) (map entry_of (reads_from looks (suc k) ss (leaf_view ss values shared)))) (there shared q (omega (arith, h, l))) rest

-- a place that comes later in a leaf is another
apart : (r : ℕ) (ss : List Slot) (q : ℕ) → index_of r (map place_of ss) ≡ None → IsShared q ss → nat_eq r q ≡ false
apart r [] q none h = absurd h
apart r (Private p ∷ ss) q none h = apart r ss q (or_next_none (nat_eq r p) (index_of r (map place_of ss)) none).1 h
apart r (Shared p ∷ ss) q none (inl e) = ap (nat_eq r) e ∙ (or_next_none (nat_eq r p) (index_of r (map place_of ss)) none).0
apart r (Shared p ∷ ss) q none (inr h) = apart r ss q (or_next_none (nat_eq r p) (index_of r (map place_of ss)) none).1 h

-- values that have what a log finds at a leaf's places agree with what was read
reads_found : (ss : List Slot) (vs : List ℕ) (looks : ℕ → Bool) (k : ℕ) (m : List ℕ) → AreDistinct (map place_of ss)
    → ((q : ℕ) → IsShared q ss → (v : ℕ) → find q (map entry_of (reads_from looks k ss vs)) ≡ Some v → slice_index m q ≡ v) → AgreesWith (reads_from looks k ss vs) m
reads_found [] vs looks k m d f = tt
reads_found (Private p ∷ ss) [] looks k m d f = tt
reads_found (Shared p ∷ ss) [] looks k m d f = tt
reads_found (Private p ∷ ss) (v ∷ vs) looks k m d f = reads_found ss vs looks (suc k) m d.1 f
reads_found (Shared r ∷ ss) (v ∷ vs) looks k m d f = by_look (looks k) f (λ g. reads_found ss vs looks (suc k) m d.1 g)
  where
    by_look : (b : Bool) → ((q : ℕ) → IsShared q (Shared r ∷ ss) → (w : ℕ) → find q (map entry_of (with_read b (r, v) (reads_from looks (suc k) ss vs))) ≡ Some w → slice_index m q ≡ w)
        → (((q : ℕ) → IsShared q ss → (w : ℕ) → find q (map entry_of (reads_from looks (suc k) ss vs)) ≡ Some w → slice_index m q ≡ w) → AgreesWith (reads_from looks (suc k) ss vs) m)
        → AgreesWith (with_read b (r, v) (reads_from looks (suc k) ss vs)) m
    by_look false f again = again (λ q h w e. f q (inr h) w e)
    by_look true f again = (
      f r (inl refl) v (ap (λ (b : Bool). found_by b v (find r (map entry_of (reads_from looks (suc k) ss vs)))) (number_itself r)),
      again (λ q h w e. f q (inr h) w (ap (λ (b : Bool). found_by b v (find q (map entry_of (reads_from looks (suc k) ss vs)))) (apart r ss q d.0 h) ∙ e)),
    )

-- so do those of the log itself
pub reads_tell : (n : ℕ) (others : ℕ → Type 0) (ss : List Slot) (vs : List ℕ) (looks : ℕ → Bool) (k : ℕ) → AllApart n others ss → AreDistinct (map place_of ss)
    → AgreesWith (reads_from looks k ss vs) (values_from 0 n (map entry_of (reads_from looks k ss vs)))
reads_tell n others ss vs looks k a d =
    let log = map entry_of (reads_from looks k ss vs) in
    reads_found ss vs looks k (values_from 0 n log) d (λ q h v e.
    value_from 0 n q log (shared_below n others ss q a h) ∙ ap (λ (i : ℕ). or_zero (find i log)) (none_more q) ∙ ap or_zero e)

-- kinds, there and back
pub kind_back : (first : ℕ) (kind : Kind) → kind_in first (named_in first kind) ≡ kind
kind_back first (kinds.Fire k) = ap kinds.Fire (back first k)
  where
    back : (a k : ℕ) → (a + k) - a ≡ k
    back a k = omega arith
kind_back first kinds.Settle = refl
kind_back first kinds.Refresh = refl

-- a leaf's part
there_or_not : (ps : List Part) (j : ℕ) → (slice_get ps j ≡ Some (slice_index_or ps j no_part)) ⊎ (slice_index_or ps j no_part ≡ no_part)
there_or_not [] j = inr refl
there_or_not (p ∷ ps) zero = inl refl
there_or_not (p ∷ ps) (suc j) = there_or_not ps j

slots_at : (ps : List Part) (j : ℕ) → slice_index_or (map (λ p. p.slots) (map net.leaf_of ps)) j [] ≡ slots_in (slice_index_or ps j no_part)
slots_at [] j = refl
slots_at (p ∷ ps) zero = refl
slots_at (p ∷ ps) (suc j) = slots_at ps j

-- a leaf that isn't there reads nothing
nothing_read : (seed : ℕ) (kind : Kind) (base : LeafState) (shared other : List ℕ) → reads_in no_part seed kind base shared ≡ reads_in no_part seed kind base other
nothing_read seed kind base shared other = refl

-- what is made where a test holds
pub made_is : (b : Bool) (x p : PieceValue) → when b (Some x) ≡ Some p → (b ≡ true) × (x ≡ p)
made_is true x p e = (refl, cc)
made_is false x p e = absurd cc

module _ (n : Network) (network : IsNetwork n) (seed : ℕ) (limits : Limits) where
  abbrev of_run : Net
  of_run = net_at n seed limits

  is_laid : IsLaid of_run (length n.initial)
  is_laid = laid n network (draw_of seed) (limits_in limits)

  abbrev Others : ℕ → ℕ → Type 0
  Others j p = index_of p (slots_of of_run (suc j)) ≡ None

  pub slots_apart : (j : ℕ) → AllApart n.shared (Others j) (slots_in (part_at n j))
  slots_apart j = subst (λ (ss : List Slot). AllApart n.shared (Others j) ss) (slots_at n.parts j) (is_laid.apart j (suc j) (λ e. omega (arith, e)))

  pub slots_distinct : (j : ℕ) → AreDistinct (map place_of (slots_in (part_at n j)))
  slots_distinct j = subst (λ (ss : List Slot). AreDistinct (map place_of ss)) (slots_at n.parts j) (is_laid.distinct j)

  -- the law's piece of a leaf
  abbrev piece : ℕ → LeafState → Kind → ℕ → List ℕ → Outcome
  piece j base kind time shared = piece_of of_run j kind time base shared

  -- over other shared values that agree with what is read, a leaf reads the same and makes the same
  abbrev Alike : ℕ → LeafState → Kind → ℕ → List ℕ → List ℕ → Type 0
  Alike j base kind time shared other = (reads_in (part_at n j) seed kind base other ≡ reads_in (part_at n j) seed kind base shared) × (piece j base kind time other ≡ piece j base kind time shared)

  decided : (j : ℕ) (base : LeafState) (kind : Kind) (time : ℕ) (shared other : List ℕ) → AgreesWith (reads_in (part_at n j) seed kind base shared) other → Alike j base kind time shared other
  decided j base kind time shared other agree = elim (there_or_not n.parts j) [ inl e ↦ there_alike e | inr e ↦ none_alike e ]
    where
      there_alike : slice_get n.parts j ≡ Some (part_at n j) → Alike j base kind time shared other
      there_alike e =
          let alike = reads_decide (part_at n j) (network.accepted j (part_at n j) e) seed kind time base shared other agree in
          let any : Bounds = record { horizon = 0; burst = 0; events = 0 } in
          let own = piece_is_alone (network_in n) (draw_of seed) (limits_in limits) any j (net.leaf_of (part_at n j)) (leaf_there n.parts j (part_at n j) e) kind time base in
          (alike.reads, own other ∙ alike.makes ∙ sym (own shared))

      none_alike : part_at n j ≡ no_part → Alike j base kind time shared other
      none_alike e =
          let slots = slots_at n.parts j ∙ ap slots_in e in (
            ap (λ (p : Part). reads_in p seed kind base other) e ∙ sym (ap (λ (p : Part). reads_in p seed kind base shared) e ∙ nothing_read seed kind base shared other),
            same_view of_run j kind time base other shared (ap (λ (ss : List Slot). leaf_view ss base.values other) slots ∙ sym (ap (λ (ss : List Slot). leaf_view ss base.values shared) slots)),
          )

  -- a leaf's piece writes shared places alone
  writes_fit : (j : ℕ) (kind : Kind) (time : ℕ) (base : LeafState) (shared : List ℕ) → AreWrites n.shared (piece j base kind time shared).writes
  writes_fit j kind time base shared = piece_fits of_run (length n.initial) is_laid j kind time base shared

  module _ (j : ℕ) (base : LeafState) (kind : Kind) (time : ℕ) where
    abbrev p : Part
    p = part_at n j

    abbrev reads : List ℕ → List (ℕ × ℕ)
    reads shared = reads_in p seed kind base shared

    -- the values of what was read give the same piece
    itself : (shared : List ℕ) → Alike j base kind time shared (values_from 0 n.shared (map entry_of (reads shared)))
    itself shared = decided j base kind time shared (values_from 0 n.shared (map entry_of (reads shared)))
        (reads_tell n.shared (Others j) (slots_in p) (sees_in p base shared) (looks_in p seed kind base (sees_in p base shared)) 0 (slots_apart j) (slots_distinct j))

    needed_made : (shared : List ℕ) → made_from n seed limits j base kind time (map entry_of (reads shared)) ≡ Some (needed_from n seed limits j base kind time shared)
    needed_made shared =
        let log = map entry_of (reads shared) in
        let same = itself shared in
        let back = pairs_back (reads shared) in
        let test : same_list same_read (reads (values_from 0 n.shared log)) (map pair_in log) ≡ true =
        ap (λ (xs : List (ℕ × ℕ)). same_list same_read xs (map pair_in log)) same.0 ∙ ap (same_list same_read (reads shared)) back ∙ list_itself same_read read_itself (reads shared) in
        ap (λ (b : Bool). when b (Some (piece_from n seed limits j base kind time (values_from 0 n.shared log) (map pair_in log)))) test
        ∙ ap (λ (xs : List (ℕ × ℕ)). (let o : Option PieceValue = Some (piece_from n seed limits j base kind time (values_from 0 n.shared log) xs) in o)) back
        ∙ ap (λ (o : Outcome). (let x : Option PieceValue = Some (record { part = p; seed = seed; kind = named_in p.first.0 kind; base = base; time = time; log = reads shared; outcome = o }) in x)) same.1

    needed_agrees : (shared : List ℕ) → length shared ≡ n.shared → agrees (slice_get shared) (map entry_of (reads shared)) ≡ true
    needed_agrees shared l = reads_agree n.shared (Others j) (slots_in p) base.values shared (looks_in p seed kind base (sees_in p base shared)) 0 l (slots_apart j)

    -- a log that was read
    module _ (log : List Entry) (made : PieceValue) (is : made_from n seed limits j base kind time log ≡ Some made) where
      abbrev vs : List ℕ
      vs = values_from 0 n.shared log

      parts : (same_list same_read (reads vs) (map pair_in log) ≡ true) × (piece_from n seed limits j base kind time vs (map pair_in log) ≡ made)
      parts = made_is (same_list same_read (reads vs) (map pair_in log)) (piece_from n seed limits j base kind time vs (map pair_in log)) made is

      made_as : IsAsAsked of_piece n.shared base kind time log made
      made_as = subst (λ (x : PieceValue). IsAsAsked of_piece n.shared base kind time log x) parts.1
          (record { based = refl; kinded = kind_back p.first.0 kind; timed = refl; logged = entries_back log; fits = writes_fit j kind time base vs })

      -- over values that agree with it the same is made
      made_over : (shared : List ℕ) → agrees (slice_get shared) log ≡ true → made.outcome ≡ piece j base kind time shared
      made_over shared agree =
          let read : reads vs ≡ map pair_in log = list_is same_read read_is (reads vs) (map pair_in log) parts.0 in
          let alike = decided j base kind time vs shared (subst (λ (xs : List (ℕ × ℕ)). AgreesWith xs shared) (sym read) (pairs_agree log shared agree)) in
          ap (λ (x : PieceValue). x.outcome) (sym parts.1) ∙ sym alike.1

      made_kind : kind_in made.part.first.0 made.kind ≡ kind
      made_kind = ap (λ (x : PieceValue). kind_in x.part.first.0 x.kind) (sym parts.1) ∙ kind_back p.first.0 kind

      made_time : made.time ≡ time
      made_time = ap (λ (x : PieceValue). x.time) (sym parts.1)

  taken_same : (c : Core) (j : ℕ) (kind : Kind) (time : ℕ) (log : List Entry) (made : PieceValue) → made_from n seed limits j (leaf_of c j) kind time log ≡ Some made → agrees (slice_get c.shared) log ≡ true
      → taken of_run c j (kind_in made.part.first.0 made.kind) made.time made.outcome
      ≡ taken of_run c j (kind_in (part_at n j).first.0 (named_in (part_at n j).first.0 kind)) time (piece j (leaf_of c j) kind time c.shared)
  taken_same c j kind time log made is agree =
      ap (λ (k : Kind). taken of_run c j k made.time made.outcome) (made_kind j (leaf_of c j) kind time log made is ∙ sym (kind_back (part_at n j).first.0 kind))
      ∙ ap (λ (t : ℕ). taken of_run c j (kind_in (part_at n j).first.0 (named_in (part_at n j).first.0 kind)) t made.outcome) (made_time j (leaf_of c j) kind time log made is)
      ∙ ap (taken of_run c j (kind_in (part_at n j).first.0 (named_in (part_at n j).first.0 kind)) time) (made_over j (leaf_of c j) kind time log made is c.shared agree)

  pub lawful_book : IsLawfulMachine (book_of n seed limits)
  lawful_book = record {
    sizes = λ c j p. shared_long of_run c j (kind_in p.part.first.0 p.kind) p.time p.outcome;
    leaves = λ c j p. leaves_long of_run c j (kind_in p.part.first.0 p.kind) p.time p.outcome;
    others = λ c j i p d. others_stay of_run c j i (kind_in p.part.first.0 p.kind) p.time p.outcome d;
    frame = λ c j p q e. unwritten_stay of_run c j (kind_in p.part.first.0 p.kind) p.time p.outcome q (unwritten q p.outcome.writes e);
    own = λ c j p l s. own_is_the_pieces of_run c j (kind_in p.part.first.0 p.kind) p.time p.outcome l (not_stopped (taken of_run c j (kind_in p.part.first.0 p.kind) p.time p.outcome).stop s);
    grows = λ c j p. events_more of_run c j (kind_in p.part.first.0 p.kind) p.time p.outcome;
    made = λ j base kind time log p e. made_as j base kind time log p e;
    needed = λ c values j kind time. (needed_made j (leaf_of c j) kind time c.shared, needed_agrees j (leaf_of c j) kind time c.shared values);
    sound = λ c j kind time log p e a. taken_same c j kind time log p e a;
    same = λ a b. (state_is a b, λ e. subst (λ (x : LeafState). same_state a x ≡ true) e (state_itself a));
  }

pub book_is_lawful : (n : Network) → IsNetwork n → BookIsLawful n
book_is_lawful n network seed limits = lawful_book n network seed limits

-- what is committed follows the run
module _ (n : Network) (network : IsNetwork n) (seed : ℕ) (limits : Limits) where
  abbrev run : Net
  run = net_at n seed limits

  need_is : (c : Core) (x : Need) → take_need (book_of n seed limits) c x ≡ law.take_need run c x
  need_is c (Needs j kind time) = ap (λ (k : Kind). taken run c j k time (piece_of run j kind time (leaf_of c j) c.shared)) (kind_back (part_at n j).first.0 kind)
  need_is c Finished = refl

  advance_is : (c : Core) → advance (book_of n seed limits) run.horizon c ≡ law.advance_by run c c.stop
  unfolding law.advance
  advance_is c = by_stop c.stop
    where
      by_stop : (o : Option Ending) → (if is_there o then c else take_need (book_of n seed limits) c (need_of run.horizon c.order)) ≡ law.advance_by run c o
      by_stop None = need_is c (need_of run.horizon c.order)
      by_stop (Some e) = refl

  after_is : (k : ℕ) (start : Core) → after_pieces (book_of n seed limits) run.horizon k start ≡ law.after_pieces run k start
  unfolding law.after_pieces
  after_is zero start = refl
  after_is (suc k) start = ap (λ c. advance (book_of n seed limits) run.horizon c) (after_is k start) ∙ advance_is (law.after_pieces run k start)

  pub follows : (start : Core) → IsStart run start → HasValues (book_of n seed limits) start → (workers : ℕ) (ss : List Step) (c : book.Core Core PieceValue)
      → replayed (book_of n seed limits) limits ss (opened (book_of n seed limits) workers start) ≡ Some c → (past : List Event) × Follows run (opening_state run) past c.held
  follows start is values workers ss c e =
      let r = every_run (book_of n seed limits) (lawful_book n network seed limits) limits workers start ss c values e in
      let f = is.follows in
      (f.0, subst (λ x. Follows run (opening_state run) f.0 x) (sym (r.0.committed ∙ after_is c.taken start)) (pieces_keep run (lawful n network (draw_of seed) (limits_in limits)) (opening_state run) f.0 start f.1 c.taken))

pub every_core_follows : (n : Network) → IsNetwork n → EveryCoreFollows n
every_core_follows n network seed limits start is values workers ss c e = follows n network seed limits start is values workers ss c e
