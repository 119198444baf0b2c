-- What a piece leaves and writes are numbers of tokens, where what it began with and read are; and so is what is committed then.
use Rattle.std.proofs.Common.{ℕ, zero, suc, ◌+◌, ◌≤◌, ◌≡◌, ap, arith, refl, subst, List, [], ◌∷◌, length, map, Some, None, Bool, true, false, slice_index_or, slice_set}
use Rattle.std.specs.Prelude.{Result, Ok, Err, slice_index}
use Rattle.san_base.specs.declared.ending.Trap.{Trap}
use Rattle.san_base.specs.declared.limits.TheConstants.{MAX_TOKENS}
use Rattle.san_expr.specs.Concerns.{IsMarking}
use Rattle.san_law.specs.Activity as leaf
use Rattle.san_law.specs.Admitted.{Admitted, admitted, admitted_fire}
use Rattle.san_law.specs.Block.{Block, after_done, after_found, before, settle}
use Rattle.san_law.specs.Core.{Core, burst_after, leaf_of, put, take_admitted, taken, with_block, with_renewal}
use Rattle.san_law.specs.Net.{Broken, Done, Enabled, Faulty, Found, Fresh, Local, Net, Nothing, Private, Renewing, Shared, Slot}
use Rattle.san_law.specs.Network.{Limits, no_part}
use Rattle.san_law.specs.Piece.{Fire, Kind, LeafState, Outcome, Refresh, Settle, dropped, fired_outcome, leaf_view, no_leaf, outcome_of, own, piece_of, renewed_outcome, sees, with_write, writes_from}
use Rattle.san_law.specs.State.{part_of}
use Rattle.san_law.specs.Step.{Event}
use Rattle.san_net.specs.Leaf as net
use Rattle.san_net.specs.Network.{Network, net_of}
use Rattle.san_net.proofs.SmallLemmas.{KeepsValues, leaves_small}

-- each written value is a number of tokens
abbrev pub AreSmallWrites : List (ℕ × ℕ) → Type 0
AreSmallWrites [] = Unit {0}
AreSmallWrites (x ∷ ws) = (x.1 ≤ MAX_TOKENS) × AreSmallWrites ws

-- what holds of each of a list and of what is put in holds of each afterwards
pub set_holds : {X : Type 0} (P : X → Type 0) (xs : List X) (j : ℕ) (s d : X) → P s → ((i : ℕ) → P (slice_index_or xs i d)) → (i : ℕ) → P (slice_index_or (slice_set xs j s) i d)
set_holds P [] j s d h k i = k i
set_holds P (x ∷ xs) zero s d h k zero = h
set_holds P (x ∷ xs) zero s d h k (suc i) = k (suc i)
set_holds P (x ∷ xs) (suc j) s d h k zero = k 0
set_holds P (x ∷ xs) (suc j) s d h k (suc i) = set_holds P xs j s d h (λ m. k (suc m)) i

sees_small : (ss : List Slot) (vs shared : List ℕ) → IsMarking vs → IsMarking shared → IsMarking (leaf_view ss vs shared)
sees_small [] vs shared h k p = omega arith
sees_small (Shared q ∷ ss) vs shared h k zero = k q
sees_small (Shared q ∷ ss) vs shared h k (suc p) = sees_small ss vs shared h k p
sees_small (Private q ∷ ss) [] shared h k zero = omega arith
sees_small (Private q ∷ ss) [] shared h k (suc p) = sees_small ss [] shared h k p
sees_small (Private q ∷ ss) (v ∷ vs) shared h k zero = h 0
sees_small (Private q ∷ ss) (v ∷ vs) shared h k (suc p) = sees_small ss vs shared (λ i. h (suc i)) k p

own_small : (ss : List Slot) (vs : List ℕ) → IsMarking vs → IsMarking (own ss vs)
own_small [] vs h p = omega arith
own_small (Private q ∷ ss) [] h p = omega arith
own_small (Shared q ∷ ss) [] h p = omega arith
own_small (Private q ∷ ss) (v ∷ vs) h zero = h 0
own_small (Private q ∷ ss) (v ∷ vs) h (suc p) = own_small ss vs (λ i. h (suc i)) p
own_small (Shared q ∷ ss) (v ∷ vs) h p = own_small ss vs (λ i. h (suc i)) p

write_small : (b : Bool) (w : ℕ × ℕ) (ws : List (ℕ × ℕ)) → w.1 ≤ MAX_TOKENS → AreSmallWrites ws → AreSmallWrites (with_write b w ws)
write_small true w ws h k = (h, k)
write_small false w ws h k = k

writes_small : (sets : ℕ → Bool) (k : ℕ) (ss : List Slot) (vs : List ℕ) → IsMarking vs → AreSmallWrites (writes_from sets k ss vs)
writes_small sets k [] vs h = tt
writes_small sets k (Private q ∷ ss) [] h = tt
writes_small sets k (Shared q ∷ ss) [] h = tt
writes_small sets k (Private q ∷ ss) (v ∷ vs) h = writes_small sets (suc k) ss vs (λ i. h (suc i))
writes_small sets k (Shared q ∷ ss) (v ∷ vs) h = write_small (sets k) (q, v) (writes_from sets (suc k) ss vs) (h 0) (writes_small sets (suc k) ss vs (λ i. h (suc i)))

-- an outcome's leaf values and writes
pub record MakesTokens (o : Outcome) : Type 0 where
  pub state : IsMarking o.state.values
  pub writes : AreSmallWrites o.writes

abbrev left_by : Local → Result Done Trap → Local
left_by l (Ok d) = d.left
left_by l (Err t) = l

done_by_small : (l : Local) (k : ℕ) (a : leaf.Activity) (x : Result leaf.Effected Trap) (d : Done) → KeepsValues l.values x → leaf.done_by l.row k a x ≡ Ok d → IsMarking l.values → IsMarking d.left.values
done_by_small l k a (Err t) d keeps is h = absurd (cc)
done_by_small l k a (Ok e) d keeps is h = subst (λ (x : Local). IsMarking x.values) (ap (left_by l) is) (keeps h)

module _ (n : Network) (draw : ℕ → ℕ → ℕ) (limits : Limits) where
  abbrev w : Net
  w = net_of n draw limits

  done_small : (j k : ℕ) (l : Local) (d : Done) → w.done j k l ≡ Ok d → IsMarking l.values → IsMarking d.left.values
  done_small j k l d is h =
      let part = slice_index_or (map net.leaf_of n.parts) j no_part in
      let u = draw (leaf.case_stream part k) (slice_index l.row.cases k) in
      done_by_small l k (leaf.activity_of part k) ((leaf.activity_of part k).complete u l.values) d (leaves_small n.parts j k u l.values) is h

  found_small : (k j : ℕ) (l : Local) (f : Found) → IsMarking l.values → ((x : Local) → IsMarking x.values → IsMarking (settle w j k x).left.values) → IsMarking (after_found (settle w j k) (λ a. w.done j a l) l f).left.values
  found_small k j l Nothing h go = h
  found_small k j l (Broken a trap) h go = h
  found_small k j l (Enabled a) h go = by_done (w.done j a l) refl
    where
      by_done : (r : Result Done Trap) → w.done j a l ≡ r → IsMarking (after_done (settle w j k) l a r).left.values
      by_done (Err t) is = h
      by_done (Ok d) is = go d.left (done_small j a l d is h)

  settle_small : (k j : ℕ) (l : Local) → IsMarking l.values → IsMarking (settle w j k l).left.values
  settle_small zero j l h = h
  settle_small (suc k) j l h = found_small k j l (w.first j l.values) h (settle_small k j)

  block_small : (j : ℕ) (seen : List ℕ) (b : Block) → IsMarking b.left.values → MakesTokens (outcome_of w j seen b)
  block_small j seen b h = record { state = own_small (part_of w j) b.left.values h; writes = writes_small b.sets 0 (part_of w j) b.left.values h }

  fired_small : (most j k : ℕ) (base : LeafState) (l : Local) (r : Result Done Trap) → w.done j k l ≡ r → IsMarking base.values → IsMarking l.values → MakesTokens (fired_outcome w most j base k r)
  fired_small most j k base l (Err trap) is h s = record { state = h; writes = tt }
  fired_small most j k base l (Ok d) is h s = block_small j base.seen (before k d (settle w j most d.left)) (settle_small most j d.left (done_small j k l d is s))

  renewed_small : (j : ℕ) (base : LeafState) (values : List ℕ) (r : Renewing) → IsMarking base.values → MakesTokens (renewed_outcome w j base values r)
  renewed_small j base values (Faulty k trap) h = record { state = h; writes = tt }
  renewed_small j base values (Fresh r) h = record { state = h; writes = tt }

  pub piece_small : (j : ℕ) (kind : Kind) (time : ℕ) (base : LeafState) (shared : List ℕ) → IsMarking base.values → IsMarking shared → MakesTokens (piece_of w j kind time base shared)
  piece_small j Settle time base shared h k = block_small j base.seen (settle w j 64 (sees w j base shared)) (settle_small 64 j (sees w j base shared) (sees_small (part_of w j) base.values shared h k))
  piece_small j (Fire a) time base shared h k =
      let l : Local = dropped w (sees w j base shared) a in
      fired_small 63 j a base l (w.done j a l) refl h (sees_small (part_of w j) base.values shared h k)
  piece_small j Refresh time base shared h k = renewed_small j base (leaf_view (part_of w j) base.values shared) (w.renewed j time base.seen (sees w j base shared)) h

-- a committed part's leaf values and shared values
pub record HoldsTokens (c : Core) : Type 0 where
  pub leaves : (i : ℕ) → IsMarking (leaf_of c i).values
  pub shared : IsMarking c.shared

put_small : (ws : List (ℕ × ℕ)) (shared : List ℕ) → AreSmallWrites ws → IsMarking shared → IsMarking (put ws shared)
put_small [] shared s h = h
put_small (x ∷ ws) shared s h = set_holds (λ (v : ℕ). v ≤ MAX_TOKENS) (put ws shared) x.0 x.1 0 s.0 (put_small ws shared s.1 h)

module _ (w : Net) (c : Core) (j time : ℕ) (o : Outcome) (h : HoldsTokens c) (s : MakesTokens o) where
  own_state : (i : ℕ) → IsMarking (slice_index_or (slice_set c.leaves j o.state) i no_leaf).values
  own_state = set_holds (λ (x : LeafState). IsMarking x.values) c.leaves j o.state no_leaf s.state h.leaves

  admitted_small : (kind : Kind) (a : Admitted) (whole : List Event → Core) → ((es : List Event) → HoldsTokens (whole es)) → HoldsTokens (take_admitted w c time kind a whole)
  admitted_small kind (es, Some e) whole all = record { leaves = h.leaves; shared = h.shared }
  admitted_small kind (es, None) whole all = all es

  pub taken_small : (kind : Kind) → HoldsTokens (taken w c j kind time o)
  taken_small Settle = admitted_small Settle (admitted w time j c.burst c.count o.fault o.completions) (λ es. with_block w c time (burst_after Settle c.burst (length o.completions)) (c.count + length o.completions) j es o)
      (λ es. record { leaves = own_state; shared = put_small o.writes c.shared s.writes h.shared })
  taken_small (Fire k) = admitted_small (Fire k) (admitted_fire w time j c.count o.fault o.completions) (λ es. with_block w c time (burst_after (Fire k) c.burst (length o.completions)) (c.count + length o.completions) j es o)
      (λ es. record { leaves = own_state; shared = put_small o.writes c.shared s.writes h.shared })
  taken_small Refresh = admitted_small Refresh (admitted w time j c.burst c.count o.fault o.completions) (λ es. with_renewal w c time j o) (λ es. record { leaves = own_state; shared = h.shared })
