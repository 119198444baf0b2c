-- Whether something can be committed next.
use Rattle.std.proofs.Common.{ℕ, zero, suc, ◌<◌, ◌≡◌, ◌∙◌, ap, sym, subst, refl, arith, Bool, true, false, ◌||◌, List, [], ◌∷◌, length, Option, Some, None}
use Rattle.std.specs.Prelude.{slice_get, not, ◌&&◌}
use Rattle.std.proofs.lemmas.List.{length-map}
use Rattle.san_net.specs.Runs.{event_in}
use Rattle.san_base.proofs.Bools.{both_true}
use Rattle.san_base.specs.declared.numbers.LeafId.{LeafId}
use Rattle.san_book.specs.Chains.{Chain, chain_of}
use Rattle.san_book.specs.Cores as book
use Rattle.san_book.specs.Lines.{agrees}
use Rattle.san_book.specs.Machines.{is_of}
use Rattle.san_book.specs.Nets.{is_there}
use Rattle.san_book.specs.Steps.{goes_on, has_ended, is_finished, rests}
use Rattle.san_ahead.specs.Ahead.{AheadValue, Heads}
use Rattle.san_decide.specs.Booked.{of_piece}
use Rattle.san_law.specs.Core as law
use Rattle.san_law.specs.Net.{Net}
use Rattle.san_law.specs.Order.{Finished, Need, Needs, need_of}
use Rattle.san_law.specs.Pieces.{next_piece, piece_for, unless_stopped}
use Rattle.san_law.specs.Step.{Ending}
use Rattle.san_leaf.specs.Pieces.{PieceValue}
use Rattle.san_leaf.specs.States.{kind_in}
use Rattle.san_net.specs.declared.part.Part.{Part}
use Rattle.san_core.specs.Machines.{FollowsRun, MachineValue, core_in, net_in}
use Rattle.san_core.specs.Needed.{IsNeed}
use Rattle.san_core.specs.declared.admission.Taking.{Taking}
use Rattle.san_speculation.specs.Speculating.{book_in}
use Rattle.san_speculation.specs.inner.Committing.{IsNext, NoneNext, is_full, is_needed_head, with_parts}
use Rattle.san_speculation.proofs.Runs.{none_going, none_there, other_head}

-- a machine has as many events as its core
pub events_long : (m : MachineValue) → FollowsRun m → length m.events ≡ length (core_in m).events
events_long m follows = ap length follows.events ∙ length-map (core_in m).events (event_in m.network)

-- a core that needs no piece has ended
ended_by_need : (net : Net) (c : law.Core) (x : Need) → piece_for net c x ≡ None → is_finished x ≡ true
ended_by_need net c (Needs j kind time) h = absurd (cc)
ended_by_need net c Finished h = refl

ended_by_stop : (net : Net) (c : law.Core) (o : Option Ending) → unless_stopped net c o ≡ None → (is_there o || is_finished (need_of net.horizon c.order)) ≡ true
ended_by_stop net c (Some e) h = refl
ended_by_stop net c None h = ended_by_need net c (need_of net.horizon c.order) h

-- where a core has ended, or has taken as much as a stretch may, it doesn't go on; else it does
ended_not : (b full : Bool) → b ≡ true → (not b && not (not b && full)) ≡ false
ended_not true full h = refl
ended_not false full h = absurd (cc)

full_not : (b full : Bool) → full ≡ true → (not b && not (not b && full)) ≡ false
full_not true full h = refl
full_not false true h = refl
full_not false false h = absurd (cc)

open_does : (b full : Bool) → b ≡ false → full ≡ false → (not b && not (not b && full)) ≡ true
open_does false false h k = refl
open_does false true h k = absurd (cc)
open_does true full h k = absurd (cc)

open_rests : (b full : Bool) → b ≡ false → full ≡ true → (not b && full) ≡ true
open_rests false true h k = refl
open_rests false false h k = absurd (cc)
open_rests true full h k = absurd (cc)

module _ (m : MachineValue) (follows : FollowsRun m) (a : AheadValue) where
  abbrev h : law.Core
  h = core_in m

  abbrev ended : Bool
  ended = is_there h.stop || is_finished (need_of m.limits.horizon.0 h.order)

  -- nothing is needed
  pub none_needed : next_piece (net_in m) h ≡ None → NoneNext m a
  none_needed none c = none_going (book_in m) m.limits (with_parts m a c) (ended_not ended (is_full m) (ended_by_stop (net_in m) h h.stop none))

  pub ended_here : next_piece (net_in m) h ≡ None → (c : book.Core law.Core PieceValue) → has_ended (book_in m) m.limits (with_parts m a c) ≡ true
  ended_here none c = ended_by_stop (net_in m) h h.stop none

  pub none_goes : next_piece (net_in m) h ≡ None → (c : book.Core law.Core PieceValue) → goes_on (book_in m) m.limits (with_parts m a c) ≡ false
  none_goes none c = ended_not ended (is_full m) (ended_by_stop (net_in m) h h.stop none)

  pub full_goes : is_full m ≡ true → (c : book.Core law.Core PieceValue) → goes_on (book_in m) m.limits (with_parts m a c) ≡ false
  full_goes full c = full_not ended (is_full m) full

  pub none_when_full : is_full m ≡ true → NoneNext m a
  none_when_full full c = none_going (book_in m) m.limits (with_parts m a c) (full_not ended (is_full m) full)

  -- a piece is
  module _ (t : Taking) (need : IsNeed m t) where
    abbrev kind : Rattle.san_law.specs.Piece.Kind
    kind = kind_in t.first.0 t.kind

    stop_core : h.stop ≡ None
    stop_core = sym (ap (λ (x : law.Core). x.stop) follows.held) ∙ need.going

    pub need_core : need_of m.limits.horizon.0 h.order ≡ Needs t.leaf.0 kind t.time.0
    need_core = sym (ap (λ (x : law.Core). need_of m.limits.horizon.0 x.order) follows.held) ∙ need.need

    pub not_ended : ended ≡ false
    not_ended = ap (λ (o : Option Ending). is_there o || is_finished (need_of m.limits.horizon.0 h.order)) stop_core ∙ ap is_finished need_core

    pub goes_here : is_full m ≡ false → (c : book.Core law.Core PieceValue) → goes_on (book_in m) m.limits (with_parts m a c) ≡ true
    goes_here full c = open_does ended (is_full m) not_ended full

    pub rests_here : is_full m ≡ true → (c : book.Core law.Core PieceValue) → rests (book_in m) m.limits (with_parts m a c) ≡ true
    rests_here full c = open_rests ended (is_full m) not_ended full

    pub leaf_within : t.leaf.0 < length m.network.parts
    leaf_within = below m.network.parts t.leaf.0 need.part need.there
      where
        below : (ps : List Part) (j : ℕ) (p : Part) → slice_get ps j ≡ Some p → j < length ps
        below [] j p e = absurd (cc)
        below (q ∷ ps) zero p e = omega arith
        below (q ∷ ps) (suc j) p e = let l = below ps j p e in omega (arith, l)

    pub none_ahead : chain_of a.chains t.leaf.0 ≡ [] → NoneNext m a
    none_ahead none c = none_there (book_in m) m.limits (with_parts m a c) t.leaf.0 kind t.time.0 need_core none

    pub other_ahead : (p : PieceValue) → Heads a t.leaf.0 p → is_needed_head m t p ≡ false → NoneNext m a
    other_ahead p heads test c = other_head (book_in m) m.limits (with_parts m a c) t.leaf.0 kind t.time.0 (heads.pos, p) heads.rest need_core heads.is test

    pub next_ahead : is_full m ≡ false → t.leaf.0 < length a.chains → (p : PieceValue) → Heads a t.leaf.0 p → is_needed_head m t p ≡ true → IsNext m a t.leaf
    next_ahead full within p heads test =
        let both = both_true (is_of of_piece kind t.time.0 p) (agrees (slice_get h.shared) (of_piece.log p)) test in
        record {
          kind = kind;
          time = t.time.0;
          head = (heads.pos, p);
          rest = heads.rest;
          within = within;
          goes = λ c. open_does ended (is_full m) not_ended full;
          need = need_core;
          chain = heads.is;
          kinded = both.0;
          agree = both.1;
        }

-- the same with another spelling of the chain's head
abbrev head_or : ℕ × PieceValue → Chain PieceValue → ℕ × PieceValue
head_or d [] = d
head_or d (y ∷ ys) = y

pub head_same : (m : MachineValue) (a : AheadValue) (leaf : LeafId) (next : IsNext m a leaf) (x : ℕ × PieceValue) (rest : Chain PieceValue) → chain_of a.chains leaf.0 ≡ x ∷ rest → next.head ≡ x
head_same m a leaf next x rest e = ap (head_or x) (sym next.chain ∙ e)

abbrev pub with_front : (m : MachineValue) (a : AheadValue) (leaf : LeafId) (next : IsNext m a leaf) (x : ℕ × PieceValue) (rest : Chain PieceValue) → chain_of a.chains leaf.0 ≡ x ∷ rest → IsNext m a leaf
with_front m a leaf next x rest e = record {
  kind = next.kind;
  time = next.time;
  head = x;
  rest = rest;
  within = next.within;
  goes = next.goes;
  need = next.need;
  chain = e;
  kinded = subst (λ (y : ℕ × PieceValue). is_of of_piece next.kind next.time y.1 ≡ true) (head_same m a leaf next x rest e) next.kinded;
  agree = subst (λ (y : ℕ × PieceValue). agrees (slice_get (core_in m).shared) (of_piece.log y.1) ≡ true) (head_same m a leaf next x rest e) next.agree;
}
