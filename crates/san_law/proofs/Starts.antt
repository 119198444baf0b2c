-- A core with other events before its own takes the same pieces.
use Rattle.std.proofs.Common.{ℕ, zero, suc, ◌+◌, ◌≡◌, ◌∙◌, ap, refl, List, ◌∷◌, length, Option, Some, None}
use Rattle.std.proofs.lemmas.List.{append_assoc}
use Rattle.san_law.specs.Net.{Net}
use Rattle.san_law.specs.Step.{Ending, Event}
use Rattle.san_law.specs.Order.{Finished, Need, Needs, need_of}
use Rattle.san_law.specs.Piece.{Fire, Kind, Outcome, Refresh, Settle, piece_of}
use Rattle.san_law.specs.Admitted.{Admitted, admitted, admitted_fire}
use Rattle.san_law.specs.Core.{Core, advance, advance_by, after_pieces, burst_after, leaf_of, take_need, take_admitted, taken, with_block, with_renewal, stopped}
use Rattle.san_law.specs.Left.{left}
use Rattle.san_law.specs.Pieces.{Piece, next_piece, pieces_by, pieces_from}
use Rattle.san_law.specs.Starts.{AdvanceBefore, AfterBefore, PiecesBefore, TakenBefore, before}

-- the same core but for its events
abbrev with_events : Core → List Event → Core
with_events c es = record { leaves = c.leaves; shared = c.shared; order = c.order; burst = c.burst; count = c.count; events = es; tally = c.tally; stop = c.stop }

module _ (net : Net) (past : List Event) (c : Core) (j : ℕ) (time : ℕ) (o : Outcome) where
  blocks : (burst count : ℕ) (es : List Event) → with_block net (before past c) time burst count j es o ≡ before past (with_block net c time burst count j es o)
  blocks burst count es = ap (with_events (with_block net c time burst count j es o)) (append_assoc past c.events es)

  stops : (burst : ℕ) (es : List Event) (e : Ending) → stopped net (before past c) time burst es e ≡ before past (stopped net c time burst es e)
  stops burst es e = ap (with_events (stopped net c time burst es e)) (append_assoc past c.events es)

  blocks_admitted : (t : Admitted) (kind : Kind) (burst count : ℕ) → take_admitted net (before past c) time kind t (λ es. with_block net (before past c) time burst count j es o) ≡ before past (take_admitted net c time kind t (λ es. with_block net c time burst count j es o))
  blocks_admitted (es, Some e) kind burst count = stops (burst_after kind c.burst (length es)) es e
  blocks_admitted (es, None) kind burst count = blocks burst count es

  renewal_admitted : (t : Admitted) → take_admitted net (before past c) time Refresh t (λ es. with_renewal net (before past c) time j o) ≡ before past (take_admitted net c time Refresh t (λ es. with_renewal net c time j o))
  renewal_admitted (es, Some e) = stops (burst_after Refresh c.burst (length es)) es e
  renewal_admitted (es, None) = refl

pub taken_before : (net : Net) → TakenBefore net
taken_before net es c j Settle time o = blocks_admitted net es c j time o (admitted net time j c.burst c.count o.fault o.completions) Settle (burst_after Settle c.burst (length o.completions)) (c.count + length o.completions)
taken_before net es c j (Fire k) time o = blocks_admitted net es c j time o (admitted_fire net time j c.count o.fault o.completions) (Fire k) (burst_after (Fire k) c.burst (length o.completions)) (c.count + length o.completions)
taken_before net es c j Refresh time o = renewal_admitted net es c j time o (admitted net time j c.burst c.count o.fault o.completions)

pub advance_before : (net : Net) → AdvanceBefore net
unfolding advance
advance_before net es c = by_need (need_of net.horizon c.order)
  where
    by_need : (n : Need) → take_need net (before es c) n ≡ before es (take_need net c n)
    by_need Finished = refl
    by_need (Needs j kind time) = taken_before net es c j kind time (piece_of net j kind time (leaf_of c j) c.shared)

pub after_before : (net : Net) → AfterBefore net
unfolding after_pieces
after_before net es c zero = refl
after_before net es c (suc m) =
    ap (λ (d : Core). advance_by net d d.stop) (after_before net es c m) ∙ by_stop (after_pieces net m c) (after_pieces net m c).stop
  where
    by_stop : (d : Core) (o : Option Ending) → advance_by net (before es d) o ≡ before es (advance_by net d o)
    by_stop d None = advance_before net es d
    by_stop d (Some e) = refl

next_before : (net : Net) (go : Core → List Piece) (es : List Event) (c : Core) → ((d : Core) → go (before es d) ≡ go d) → (x : Option Piece) → pieces_by go net (before es c) x ≡ pieces_by go net c x
next_before net go es c h None = refl
next_before net go es c h (Some p) = ap (λ (ps : List Piece). p ∷ ps) (ap go (taken_before net es c p.leaf p.kind p.time p.outcome) ∙ h (taken net c p.leaf p.kind p.time p.outcome))

from_before : (net : Net) (n : ℕ) (es : List Event) (c : Core) → pieces_from net n (before es c) ≡ pieces_from net n c
from_before net zero es c = refl
from_before net (suc n) es c = next_before net (pieces_from net n) es c (from_before net n es) (next_piece net c)

pub pieces_before : (net : Net) → PiecesBefore net
pieces_before net es c = from_before net (left net c) es c
