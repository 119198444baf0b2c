-- What a taken piece leaves as it was.
use Rattle.std.proofs.Common.{ℕ, suc, arith, ◌+◌, ◌≡◌, ◌≢◌, ◌∙◌, sym, refl, List, [], ◌∷◌, length, Some, None}
use Rattle.std.specs.Prelude.{All, slice_index}
use Rattle.std.proofs.lemmas.List.{get_or-set_other, get_or-set_same}
use Rattle.san_law.specs.Net.{Net}
use Rattle.san_law.specs.Step.{Event}
use Rattle.san_law.specs.Admitted.{Admitted, admitted, admitted_fire}
use Rattle.san_law.specs.Piece.{Fire, Kind, LeafState, Outcome, Refresh, Settle, no_leaf}
use Rattle.san_law.specs.Core.{Core, burst_after, leaf_of, put, take_admitted, with_block, with_renewal}
use Rattle.san_law.specs.Frames.{OthersStay, OwnIsThePieces, UnwrittenStay}

-- the leaves and the shared values of a core that is taken whole, or is stopped
leaves_admitted : (net : Net) (c : Core) (time : ℕ) (kind : Kind) (t : Admitted) (whole : List Event → Core) (i : ℕ) → ((es : List Event) → leaf_of (whole es) i ≡ leaf_of c i) → leaf_of (take_admitted net c time kind t whole) i ≡ leaf_of c i
leaves_admitted net c time kind (es, Some e) whole i h = refl
leaves_admitted net c time kind (es, None) whole i h = h es

own_admitted : (net : Net) (c : Core) (time : ℕ) (kind : Kind) (t : Admitted) (whole : List Event → Core) (i : ℕ) (l : LeafState) → ((es : List Event) → leaf_of (whole es) i ≡ l) → (take_admitted net c time kind t whole).stop ≡ None → leaf_of (take_admitted net c time kind t whole) i ≡ l
own_admitted net c time kind (es, Some e) whole i l h stop = cc
own_admitted net c time kind (es, None) whole i l h stop = h es

shared_admitted : (net : Net) (c : Core) (time : ℕ) (kind : Kind) (t : Admitted) (whole : List Event → Core) (q : ℕ) → ((es : List Event) → slice_index (whole es).shared q ≡ slice_index c.shared q) → slice_index (take_admitted net c time kind t whole).shared q ≡ slice_index c.shared q
shared_admitted net c time kind (es, Some e) whole q h = refl
shared_admitted net c time kind (es, None) whole q h = h es

module _ (net : Net) (c : Core) (j : ℕ) (time : ℕ) (o : Outcome) where
  abbrev settling : Admitted
  settling = admitted net time j c.burst c.count o.fault o.completions

  abbrev firing : Admitted
  firing = admitted_fire net time j c.count o.fault o.completions

  abbrev block : (kind : Kind) → List Event → Core
  block kind es = with_block net c time (burst_after kind c.burst (length o.completions)) (c.count + length o.completions) j es o

  abbrev renewal : List Event → Core
  renewal es = with_renewal net c time j o

  put_other : (ws : List (ℕ × ℕ)) (q : ℕ) → All (λ w. w.0 ≢ q) ws → slice_index (put ws c.shared) q ≡ slice_index c.shared q
  put_other [] q h = refl
  put_other (w ∷ ws) q h = get_or-set_other (put ws c.shared) w.0 q w.1 0 (λ e. h 0 w (omega arith) (sym e)) ∙ put_other ws q (λ k d l. h (suc k) d (omega (arith, l)))

pub others_stay : (net : Net) → OthersStay net
others_stay net c j i Settle time o d = leaves_admitted net c time Settle (settling net c j time o) (block net c j time o Settle) i (λ es. get_or-set_other c.leaves j i o.state no_leaf d)
others_stay net c j i (Fire k) time o d = leaves_admitted net c time (Fire k) (firing net c j time o) (block net c j time o (Fire k)) i (λ es. get_or-set_other c.leaves j i o.state no_leaf d)
others_stay net c j i Refresh time o d = leaves_admitted net c time Refresh (settling net c j time o) (renewal net c j time o) i (λ es. get_or-set_other c.leaves j i o.state no_leaf d)

pub own_is_the_pieces : (net : Net) → OwnIsThePieces net
own_is_the_pieces net c j Settle time o h = own_admitted net c time Settle (settling net c j time o) (block net c j time o Settle) j o.state (λ es. get_or-set_same c.leaves j o.state no_leaf h)
own_is_the_pieces net c j (Fire k) time o h = own_admitted net c time (Fire k) (firing net c j time o) (block net c j time o (Fire k)) j o.state (λ es. get_or-set_same c.leaves j o.state no_leaf h)
own_is_the_pieces net c j Refresh time o h = own_admitted net c time Refresh (settling net c j time o) (renewal net c j time o) j o.state (λ es. get_or-set_same c.leaves j o.state no_leaf h)

pub unwritten_stay : (net : Net) → UnwrittenStay net
unwritten_stay net c j Settle time o q h = shared_admitted net c time Settle (settling net c j time o) (block net c j time o Settle) q (λ es. put_other net c j time o o.writes q h)
unwritten_stay net c j (Fire k) time o q h = shared_admitted net c time (Fire k) (firing net c j time o) (block net c j time o (Fire k)) q (λ es. put_other net c j time o o.writes q h)
unwritten_stay net c j Refresh time o q h = shared_admitted net c time Refresh (settling net c j time o) (renewal net c j time o) q (λ es. refl)
