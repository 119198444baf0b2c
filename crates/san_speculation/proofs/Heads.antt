-- The head of a chain that is committed next.
use Rattle.std.proofs.Common.{ℕ, zero, suc, ◌+◌, ◌<◌, ◌≡◌, ◌∙◌, ap, sym, subst, refl, arith, true, false, nat_eq, List, [], ◌∷◌, length, map, Option, Some, None}
use Rattle.std.specs.Prelude.{◌&&◌, slice_get, slice_index_or}
use Rattle.std.proofs.lemmas.Bool.{eqb-true}
use Rattle.san_base.proofs.Bools.{and_true, both_true}
use Rattle.san_base.specs.declared.limits.Limits.{Limits}
use Rattle.san_base.specs.declared.numbers.LeafId.{LeafId}
use Rattle.san_book.specs.Chains.{AllFit, AreMadeByLogs, Chain, Connects}
use Rattle.san_book.specs.Cores as book
use Rattle.san_book.specs.Lines.{AreWrites, agrees}
use Rattle.san_book.specs.Machines.{is_kind, is_of}
use Rattle.san_book.specs.Steps.{committed}
use Rattle.san_book.specs.Whole.{IsWhole}
use Rattle.san_book.proofs.Committing.{kind_is}
use Rattle.san_book.proofs.Subject.{not_stopped}
use Rattle.san_book.proofs.Walking.{goes_where}
use Rattle.san_ahead.specs.Ahead.{AheadValue, with_committed, without_head}
use Rattle.san_decide.specs.Booked.{entry_of, made_from, no_part, of_piece, part_at}
use Rattle.san_decide.proofs.Booking.{book_is_lawful, made_is, pairs_agree, pairs_back}
use Rattle.san_law.specs.Core as law
use Rattle.san_law.specs.Core.{leaf_of, taken}
use Rattle.san_law.specs.Order.{Needs, need_of}
use Rattle.san_law.specs.Piece.{Kind, LeafState}
use Rattle.san_leaf.specs.Pieces.{AgreesWith, IsSound, PieceValue}
use Rattle.san_leaf.specs.States.{kind_in}
use Rattle.san_net.specs.Network.{Network}
use Rattle.san_net.specs.declared.part.Part.{Part}
use Rattle.san_core.specs.Machines.{FollowsRun, IsNeeded, MachineValue, after_taking, core_in, net_in}
use Rattle.san_core.proofs.Following.{core_then}
use Rattle.san_core.proofs.Knowing.{within}
use Rattle.san_speculation.specs.Speculating.{book_in}
use Rattle.san_speculation.specs.inner.Committing.{IsNext, with_parts}
use Rattle.san_speculation.proofs.Runs.{head_committed}
use Rattle.san_speculation.proofs.Speculated.{IsRun}

pub part_there : (ps : List Part) (j : ℕ) → j < length ps → slice_get ps j ≡ Some (slice_index_or ps j no_part)
part_there [] j l = absurd (omega (arith, l))
part_there (p ∷ ps) zero l = refl
part_there (p ∷ ps) (suc j) l = part_there ps j (omega (arith, l))

-- what the book knows of the pieces in a chain
pub made_part : (n : Network) (seed : ℕ) (limits : Limits) (j : ℕ) (base : LeafState) (kind : Kind) (time : ℕ) (log : List Rattle.san_log.specs.Logs.Entry) (p : PieceValue) → made_from n seed limits j base kind time log ≡ Some p → (p.part ≡ part_at n j) × (p.seed ≡ seed)
made_part n seed limits j base kind time log p is = let e = made_is _ _ p is in (sym (ap (λ (x : PieceValue). x.part) e.1), sym (ap (λ (x : PieceValue). x.seed) e.1))

module _ (m : MachineValue) (follows : FollowsRun m) (run : IsRun m.network) (a : AheadValue) (c : book.Core law.Core PieceValue)
    (whole : IsWhole (book_in m) (with_parts m a c)) (leaf : LeafId) (next : IsNext m a leaf) where
  abbrev h : law.Core
  h = core_in m

  abbrev p : PieceValue
  p = next.head.1

  abbrev own : Kind
  own = kind_in p.part.first.0 p.kind

  -- the machine goes on
  stopped : Rattle.san_book.specs.Nets.is_there h.stop ≡ false
  stopped = (goes_where (book_in m) m.limits (with_parts m a c) (next.goes c)).open_end

  going : m.held.core.stop ≡ None
  going = ap (λ (x : law.Core). x.stop) follows.held ∙ not_stopped h.stop stopped

  need_core : need_of m.limits.horizon.0 h.order ≡ Needs leaf.0 next.kind next.time
  need_core = next.need

  need_held : need_of m.limits.horizon.0 m.held.core.order ≡ Needs leaf.0 next.kind next.time
  need_held = ap (λ (x : law.Core). need_of m.limits.horizon.0 x.order) follows.held ∙ need_core

  pub inside : leaf.0 < length m.network.parts
  inside = within m follows run.known going leaf.0 next.kind next.time need_held

  -- the head is a piece of the leaf's part
  made : AreMadeByLogs (book_in m) leaf.0 (next.head ∷ next.rest)
  made = subst (λ (xs : Chain PieceValue). AreMadeByLogs (book_in m) leaf.0 xs) next.chain (whole.chains leaf.0).made

  its_part : (p.part ≡ part_at m.network leaf.0) × (p.seed ≡ m.seed)
  its_part = made_part m.network m.seed m.limits leaf.0 p.base own p.time (map entry_of p.log) p made.0

  part_here : slice_get m.network.parts leaf.0 ≡ Some p.part
  part_here = part_there m.network.parts leaf.0 inside ∙ ap (λ (x : Part). (let o : Option Part = Some x in o)) (sym its_part.0)

  pub its_leaf : p.part.leaf.0 ≡ leaf.0
  its_leaf = run.known.network.numbered.leaves leaf.0 p.part part_here

  tests : (is_kind own next.kind ≡ true) × (nat_eq p.time next.time ≡ true)
  tests = both_true (is_kind own next.kind) (nat_eq p.time next.time) next.kinded

  need_is : need_of m.limits.horizon.0 m.held.core.order ≡ Needs p.part.leaf.0 own p.time
  need_is =
      need_held
      ∙ (ap (λ (k : Kind). Needs leaf.0 k next.time) (sym (kind_is own next.kind tests.0))
      ∙ (ap (λ (t : ℕ). Needs leaf.0 own t) (sym (eqb-true p.time next.time tests.1))
      ∙ ap (λ (j : ℕ). Needs j own p.time) (sym its_leaf)))

  joined : Connects of_piece (leaf_of h leaf.0) (next.head ∷ next.rest)
  joined = subst (λ (xs : Chain PieceValue). Connects of_piece (leaf_of h leaf.0) xs) next.chain (whole.connects stopped leaf.0)

  base_is : leaf_of m.held.core p.part.leaf.0 ≡ p.base
  base_is = ap (λ (x : law.Core). leaf_of x p.part.leaf.0) follows.held ∙ (ap (leaf_of h) its_leaf ∙ sym joined.0)

  log_is : AgreesWith p.log m.held.core.shared
  log_is =
      subst (λ (x : law.Core). AgreesWith p.log x.shared) (sym follows.held)
      (subst (λ (xs : List (ℕ × ℕ)). AgreesWith xs h.shared) (pairs_back p.log) (pairs_agree (map entry_of p.log) h.shared next.agree))

  pub head_needed : IsNeeded m p
  head_needed = record {
    going = going;
    need = need_is;
    seed = its_part.1;
    part = subst (λ (j : ℕ). slice_get m.network.parts j ≡ Some p.part) (sym its_leaf) part_here;
    base = base_is;
    log = log_is;
  }

  -- it writes places that are there
  pub writes_fit : AreWrites (length a.lines) p.outcome.writes
  writes_fit =
      let fit : AllFit of_piece m.network.shared (next.head ∷ next.rest) = subst (λ (xs : Chain PieceValue). AllFit of_piece m.network.shared xs) next.chain (whole.chains leaf.0).fit in
      subst (λ (k : ℕ). AreWrites k p.outcome.writes) (sym whole.lines) fit.0

  -- the book takes it as the machine does
  takes_is : IsSound p → core_in (after_taking m p) ≡ taken (net_in m) h leaf.0 own p.time p.outcome
  takes_is sound = core_then m follows run.known.network run.known.lawful run.known.laid p head_needed sound ∙ ap (λ (j : ℕ). taken (net_in m) h j own p.time p.outcome) its_leaf

  pub values_long : IsSound p → length (core_in (after_taking m p)).shared ≡ length a.lines
  values_long sound =
      ap (λ (x : law.Core). length x.shared) (takes_is sound)
      ∙ ((book_is_lawful m.network run.known.network m.seed m.limits).sizes h leaf.0 p ∙ (whole.width ∙ sym whole.lines))

  abbrev with_head : book.Core law.Core PieceValue → law.Core → AheadValue → ℕ → book.Core law.Core PieceValue
  with_head d held x k = record { held = held; chains = x.chains; counters = x.counters; lines = x.lines; claims = d.claims; journal = d.journal; rollbacks = d.rollbacks; taken = k }

  one_more : suc m.taken ≡ m.taken + 1
  one_more = omega arith

  -- what is committed then
  pub head_is_committed : IsSound p → (b : AheadValue) → b ≡ with_committed (without_head a leaf.0 next.head next.rest) (core_in (after_taking m p)).shared p.outcome.writes
      → (d : book.Core law.Core PieceValue) → committed (book_in m) m.limits (with_parts m a d) ≡ Some (with_parts (after_taking m p) b d)
  head_is_committed sound b is d =
      head_committed (book_in m) m.limits (with_parts m a d) leaf.0 next.kind next.time next.head next.rest (next.goes d) next.need next.chain test
      ∙ (ap (λ (x : law.Core). Some (with_head d x (with_committed (without_head a leaf.0 next.head next.rest) x.shared p.outcome.writes) (suc m.taken))) (sym (takes_is sound))
      ∙ (ap (λ (x : AheadValue). Some (with_head d (core_in (after_taking m p)) x (suc m.taken))) (sym is)
      ∙ ap (λ (k : ℕ). Some (with_head d (core_in (after_taking m p)) b k)) one_more))
    where
      test : (is_of of_piece next.kind next.time next.head.1 && agrees (slice_get h.shared) (of_piece.log next.head.1)) ≡ true
      test = and_true (is_of of_piece next.kind next.time next.head.1) (agrees (slice_get h.shared) (of_piece.log next.head.1)) next.kinded next.agree
