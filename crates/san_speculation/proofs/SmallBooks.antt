-- Every value that is committed, made ahead or read is a number of tokens, whatever steps are done.
use Rattle.std.proofs.Common.{ℕ, zero, suc, ◌≤◌, ◌≡◌, arith, refl, subst, List, [], ◌∷◌, ◌++◌, map, take, replicate, Option, Some, None, Bool, true, false, nat_eq, nat_le, slice_index_or}
use Rattle.std.specs.Prelude.{slice_index}
use Rattle.std.proofs.lemmas.Bool.Decides.{nat_tests}
use Rattle.san_base.proofs.NumberTests.{some_same}
use Rattle.san_base.specs.declared.limits.Limits.{Limits}
use Rattle.san_base.specs.declared.limits.TheConstants.{MAX_TOKENS}
use Rattle.san_base.specs.declared.numbers.PlaceId.{PlaceId}
use Rattle.san_book.specs.Chains.{Chain, chain_of}
use Rattle.san_book.specs.Cores as book
use Rattle.san_book.specs.Cores.{Claim, Commit, Cut, Late, Pending, Publish, Read, Redo, Step, claim_of, opened}
use Rattle.san_book.specs.Journals.{booked, booked_by, replayed, stepped}
use Rattle.san_book.specs.Machines.{Machine}
use Rattle.san_book.specs.Nets.{or_zero, same_list, values_from}
use Rattle.san_book.specs.Plans.{when}
use Rattle.san_book.specs.Steps.{chain_end, cut_at, fallen, falls, happens, read_by, taken_anew, taken_head, then_by, with_claim}
use Rattle.san_book.proofs.Afters.{after_booked, after_map}
use Rattle.san_book.proofs.Walking.{Handles, after_commits, handled, read_after}
use Rattle.san_chain.specs.Chains.{end_from}
use Rattle.san_decide.specs.Booked.{book_of, made_from, part_at, piece_from, same_read}
use Rattle.san_draw.specs.Key.{draw_of}
use Rattle.san_expr.specs.Concerns.{IsMarking}
use Rattle.san_law.specs.Core as law
use Rattle.san_law.specs.Core.{leaf_of}
use Rattle.san_law.specs.Piece.{Kind, LeafState}
use Rattle.san_leaf.specs.Pieces.{PieceValue, reads_in}
use Rattle.san_leaf.specs.States.{kind_in, pair_in}
use Rattle.san_log.specs.Logs.{Entry, find, found_by, noted, noted_by}
use Rattle.san_net.specs.Network.{Network}
use Rattle.san_net.specs.Runs.{limits_in, net_at}
use Rattle.san_speculation.proofs.SmallPieces.{HoldsTokens, MakesTokens, piece_small, set_holds, taken_small}

-- a chain's pieces
abbrev pub AllSmall : Chain PieceValue → Type 0
AllSmall [] = Unit {0}
AllSmall (x ∷ xs) = MakesTokens x.1.outcome × AllSmall xs

-- what was read
abbrev pub ReadsSmall : List Entry → Type 0
ReadsSmall [] = Unit {0}
ReadsSmall (e ∷ es) = (e.1 ≤ MAX_TOKENS) × ReadsSmall es

abbrev pub ClaimSmall : Option Pending → Type 0
ClaimSmall None = Unit {0}
ClaimSmall (Some p) = ReadsSmall p.log

pub record HasTokens (c : book.Core law.Core PieceValue) : Type 0 where
  pub held : HoldsTokens c.held
  pub chains : (j : ℕ) → AllSmall (chain_of c.chains j)
  pub claims : (w : ℕ) → ClaimSmall (claim_of c.claims w)

reads_push : (es : List Entry) (e : Entry) → ReadsSmall es → e.1 ≤ MAX_TOKENS → ReadsSmall (es ++ e ∷ [])
reads_push [] e h k = (k, tt)
reads_push (x ∷ es) e h k = (h.0, reads_push es e h.1 k)

noted_small : (o : Option ℕ) (e : Entry) (es : List Entry) → ReadsSmall es → e.1 ≤ MAX_TOKENS → ReadsSmall (noted_by o e es)
noted_small (Some v) e es h k = h
noted_small None e es h k = reads_push es e h k

found_small : (es : List Entry) → ReadsSmall es → (q : ℕ) → or_zero (find q es) ≤ MAX_TOKENS
found_small [] h q = omega arith
found_small (e ∷ es) h q = by_test (nat_eq e.0.0 q) (found_small es h.1 q)
  where
    by_test : (b : Bool) → or_zero (find q es) ≤ MAX_TOKENS → or_zero (found_by b e.1 (find q es)) ≤ MAX_TOKENS
    by_test true k = h.0
    by_test false k = k

values_small : (q k : ℕ) (es : List Entry) → ReadsSmall es → IsMarking (values_from q k es)
values_small q zero es h p = omega arith
values_small q (suc k) es h zero = found_small es h q
values_small q (suc k) es h (suc p) = values_small (suc q) k es h p

when_some : {X : Type 0} (b : Bool) (y x : X) → when b (Some y) ≡ Some x → y ≡ x
when_some true y x e = some_same y x e
when_some false y x e = absurd (cc)

end_small : (s : LeafState) (ch : Chain PieceValue) → IsMarking s.values → AllSmall ch → IsMarking (end_from (λ (p : PieceValue). p.outcome.state) s ch).values
end_small s [] h k = h
end_small s (x ∷ xs) h k = end_small x.1.outcome.state xs k.0.state k.1

chain_push : (ch : Chain PieceValue) (x : ℕ × PieceValue) → AllSmall ch → MakesTokens x.1.outcome → AllSmall (ch ++ x ∷ [])
chain_push [] x h k = (k, tt)
chain_push (y ∷ ch) x h k = (h.0, chain_push ch x h.1 k)

chain_take : (k : ℕ) (ch : Chain PieceValue) → AllSmall ch → AllSmall (take k ch)
chain_take zero ch h = tt
chain_take (suc k) [] h = tt
chain_take (suc k) (x ∷ ch) h = (h.0, chain_take k ch h.1)

replicate_holds : {X : Type 0} (P : X → Type 0) (k : ℕ) (x d : X) → P x → P d → (i : ℕ) → P (slice_index_or (replicate k x) i d)
replicate_holds P zero x d h g i = g
replicate_holds P (suc k) x d h g zero = h
replicate_holds P (suc k) x d h g (suc i) = replicate_holds P k x d h g i

within : (v : ℕ) → nat_le v MAX_TOKENS ≡ true → v ≤ MAX_TOKENS
within v h = grind (arith, nat_tests)

module _ (n : Network) (seed : ℕ) (limits : Limits) where
  abbrev m : Machine law.Core LeafState PieceValue
  m = book_of n seed limits

  abbrev Book : Type 0
  Book = book.Core law.Core PieceValue

  made_small : (j : ℕ) (base : LeafState) (kind : Kind) (time : ℕ) (log : List Entry) (x : PieceValue) → IsMarking base.values → ReadsSmall log → made_from n seed limits j base kind time log ≡ Some x → MakesTokens x.outcome
  made_small j base kind time log x h k e =
      subst (λ (p : PieceValue). MakesTokens p.outcome) (when_some (same_list same_read (reads_in (part_at n j) seed kind base (values_from 0 n.shared log)) (map pair_in log)) (piece_from n seed limits j base kind time (values_from 0 n.shared log) (map pair_in log)) x e)
      (piece_small n (draw_of seed) (limits_in limits) j kind time base (values_from 0 n.shared log) h (values_small 0 n.shared log k))

  -- after a step; a read is small where its value is
  abbrev Keeps : Step → Book → Type 0
  Keeps (Claim w) d = HasTokens d
  Keeps (Read w q v) d = v ≤ MAX_TOKENS → HasTokens d
  Keeps (Publish w kind time) d = HasTokens d
  Keeps (Late w) d = HasTokens d
  Keeps (Cut w j) d = HasTokens d
  Keeps (Commit w k) d = HasTokens d
  Keeps (Redo w) d = HasTokens d

  claims_small : (c : Book) (w : ℕ) (o : Option Pending) → HasTokens c → ClaimSmall o → HasTokens (with_claim c w o)
  claims_small c w o h k = record { held = h.held; chains = h.chains; claims = set_holds ClaimSmall c.claims w o None k h.claims }

  cut_small : (c : Book) (j k : ℕ) → HasTokens c → HasTokens (cut_at m c j k)
  cut_small c j k h = record { held = h.held; chains = set_holds AllSmall c.chains j (take k (chain_of c.chains j)) [] (chain_take k (chain_of c.chains j) (h.chains j)) h.chains; claims = h.claims }

  head_small : (d : Book) (j : ℕ) (x : ℕ × PieceValue) (rest : Chain PieceValue) → chain_of d.chains j ≡ x ∷ rest → HasTokens d → HasTokens (taken_head m d j x rest)
  head_small d j x rest is h =
      let head : AllSmall (x ∷ rest) = subst AllSmall is (h.chains j) in
      record {
        held = taken_small (net_at n seed limits) d.held j x.1.time x.1.outcome h.held head.0 (kind_in x.1.part.first.0 x.1.kind);
        chains = set_holds AllSmall d.chains j rest [] head.1 h.chains;
        claims = h.claims;
      }

  anew_small : (c : Book) (j : ℕ) (kind : Kind) (time : ℕ) → HasTokens c → HasTokens (taken_anew m c j (m.needed c.held j kind time))
  anew_small c j kind time h =
      let p : PieceValue = m.needed c.held j kind time in
      record {
        held = taken_small (net_at n seed limits) c.held j time p.outcome h.held (piece_small n (draw_of seed) (limits_in limits) j kind time (leaf_of c.held j) c.held.shared (h.held.leaves j) h.held.shared) (kind_in p.part.first.0 p.kind);
        chains = h.chains;
        claims = h.claims;
      }

  fallen_small : (b : Bool) (c : Book) (j : ℕ) → HasTokens c → HasTokens (fallen b m c j)
  fallen_small true c j h = cut_small c j 0 h
  fallen_small false c j h = h

  module _ (c : Book) (h : HasTokens c) where
    claimed : (w : ℕ) (p : Pending) → claim_of c.claims w ≡ Some p → ReadsSmall p.log
    claimed w p e = subst ClaimSmall e (h.claims w)

    end_is_small : (j : ℕ) → IsMarking (chain_end m c j).values
    end_is_small j = end_small (leaf_of c.held j) (chain_of c.chains j) (h.held.leaves j) (h.chains j)

    handles : Handles m limits c Keeps
    handles = record {
      claim = λ w j may free. claims_small c w (Some (record { leaf = j; log = [] })) h tt;
      read = λ w place v p e small. claims_small c w (Some (record { leaf = p.leaf; log = noted place v p.log })) h (noted_small (find place.0 p.log) (place, v) p.log (claimed w p e) small);
      publish = λ w kind time p k x e made. record {
        held = h.held;
        chains = set_holds AllSmall c.chains p.leaf (chain_of c.chains p.leaf ++ (slice_index c.counters p.leaf, x) ∷ []) []
            (chain_push (chain_of c.chains p.leaf) (slice_index c.counters p.leaf, x) (h.chains p.leaf) (made_small p.leaf (chain_end m c p.leaf) k time p.log x (end_is_small p.leaf) (claimed w p e) made)) h.chains;
        claims = set_holds ClaimSmall c.claims w None None tt h.claims;
      };
      late = λ w p e. claims_small c w None h tt;
      cut = λ w j k l. cut_small c j k h;
      commit = λ w k l. after_commits m limits (λ (i : ℕ) (d : Book). HasTokens d) (λ i d j kind time x rest g head. head_small d j x rest head.chain g) k c h;
      redo = λ w j kind time g need. fallen_small (falls m kind time (m.state (m.takes c.held j (m.needed c.held j kind time)) j) (chain_of c.chains j)) (taken_anew m c j (m.needed c.held j kind time)) j (anew_small c j kind time h);
    }

  -- a step that is booked
  abbrev IsFine : Step → Type 0
  IsFine (Claim w) = Unit {0}
  IsFine (Read w q v) = v ≤ MAX_TOKENS
  IsFine (Publish w kind time) = Unit {0}
  IsFine (Late w) = Unit {0}
  IsFine (Cut w j) = Unit {0}
  IsFine (Commit w k) = Unit {0}
  IsFine (Redo w) = Unit {0}

  rebooked : (s : Step) (d : Book) → HasTokens d → HasTokens (booked s d)
  rebooked s d h = record { held = h.held; chains = h.chains; claims = h.claims }

  kept : (s : Step) (d : Book) → IsFine s → Keeps s d → HasTokens (booked s d)
  kept (Claim w) d f k = rebooked (Claim w) d k
  kept (Read w q v) d f k = rebooked (Read w q v) d (k f)
  kept (Publish w kind time) d f k = rebooked (Publish w kind time) d k
  kept (Late w) d f k = rebooked (Late w) d k
  kept (Cut w j) d f k = rebooked (Cut w j) d k
  kept (Commit w i) d f k = rebooked (Commit w i) d k
  kept (Redo w) d f k = rebooked (Redo w) d k

  value_read : (c d : Book) (w : ℕ) (q : PlaceId) (v : ℕ) (o : Option Pending) → booked_by (Read w q v) (read_by c w q v o) ≡ Some d → v ≤ MAX_TOKENS
  value_read c d w q v None e = absurd (cc)
  value_read c d w q v (Some p) e = by_test (nat_le v MAX_TOKENS) refl e
    where
      by_test : (b : Bool) → nat_le v MAX_TOKENS ≡ b → booked_by (Read w q v) (when b (Some (with_claim c w (Some (record { leaf = p.leaf; log = noted q v p.log }))))) ≡ Some d → v ≤ MAX_TOKENS
      by_test true is g = within v is
      by_test false is g = absurd (cc)

  fine : (s : Step) (c d : Book) → stepped m limits s c ≡ Some d → IsFine s
  unfolding happens
  fine (Claim w) c d e = tt
  fine (Read w q v) c d e = value_read c d w q v (claim_of c.claims w) e
  fine (Publish w kind time) c d e = tt
  fine (Late w) c d e = tt
  fine (Cut w j) c d e = tt
  fine (Commit w k) c d e = tt
  fine (Redo w) c d e = tt

  step_small : (s : Step) (c d : Book) → HasTokens c → stepped m limits s c ≡ Some d → HasTokens d
  step_small s c d h e =
      read_after HasTokens (stepped m limits s c) d
      (after_booked HasTokens s (happens m limits s c) (after_map (Keeps s) (λ (x : Book). HasTokens (booked s x)) (happens m limits s c) (λ x k. kept s x (fine s c d e) k) (handled m limits c Keeps (handles c h) s))) e

  pub run_small : (ss : List Step) (c d : Book) → HasTokens c → replayed m limits ss c ≡ Some d → HasTokens d
  run_small [] c d h e = subst HasTokens (some_same c d e) h
  run_small (s ∷ ss) c d h e = by_first (stepped m limits s c) refl (λ x k g. run_small ss x d k g) e
    where
      by_first : (o : Option Book) → stepped m limits s c ≡ o → ((x : Book) → HasTokens x → replayed m limits ss x ≡ Some d → HasTokens d) → then_by o (replayed m limits ss) ≡ Some d → HasTokens d
      by_first None is more g = absurd (cc)
      by_first (Some x) is more g = more x (step_small s c x h is) g

  pub opened_small : (workers : ℕ) (start : law.Core) → HoldsTokens start → HasTokens (opened m workers start)
  opened_small workers start h = record { held = h; chains = replicate_holds AllSmall (m.leaves start) [] [] tt tt; claims = replicate_holds ClaimSmall (suc workers) None None tt tt }
