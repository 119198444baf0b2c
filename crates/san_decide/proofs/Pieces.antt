-- What a piece read decides it.
use Rattle.std.proofs.Common.{ℕ, zero, suc, ◌+◌, ◌≡◌, ◌∙◌, ap, sym, refl, subst, arith, Bool, true, false, IsTrue, List, [], ◌∷◌, length, Option, Some, None, Result, Ok, Err}
use Rattle.std.specs.Prelude.{slice_index}
use Rattle.san_base.specs.declared.ending.Trap.{Trap}
use Rattle.san_draw.specs.Key.{draw_of}
use Rattle.san_expr.specs.Concerns.{AreEqualOn}
use Rattle.san_expr.specs.Meaning.{Evaluation}
use Rattle.san_law.specs.Block as law
use Rattle.san_law.specs.Block.{after_done, fault_of, more_of, settle}
use Rattle.san_law.specs.Net.{Done, Local, Net, Private, Row, Shared, Slot, without_timer}
use Rattle.san_law.specs.Piece.{Fire, Kind, LeafState, Refresh, Settle, fired_outcome, leaf_view, outcome_of, own, piece_of, renewed_outcome, with_write, writes_from}
use Rattle.san_law.specs.State.{part_of}
use Rattle.san_net.specs.Accepted.{IsAccepted}
use Rattle.san_net.specs.declared.part.Part.{Part}
use Rattle.san_leaf.specs.Blocks.{Made, made_of}
use Rattle.san_leaf.specs.Lawful.{Is, block_by, leaf_at, net_of_part}
use Rattle.san_leaf.specs.Pieces.{AgreesWith, reads_from, reads_in, sees_in, slots_in, with_read}
use Rattle.san_leaf.specs.inner.Ends.{row_by}
use Rattle.san_leaf.proofs.KindLaws.{block_in, block_is_made, comes, comes_by}
use Rattle.san_leaf.proofs.SoundLemmas.{leaf_view_long}
use Rattle.san_decide.specs.Decided.{ComeAlike, Decides, HaveOneAnswer, ReadsDecide}
use Rattle.san_decide.proofs.Blocks.{made_decides}

-- where other shared values agree with what was read
read_rest : (b : Bool) (q v : ℕ) (rest : List (ℕ × ℕ)) (other : List ℕ) → AgreesWith (with_read b (q, v) rest) other → AgreesWith rest other
read_rest true q v rest other h = h.1
read_rest false q v rest other h = h

read_here : (b : Bool) (q v : ℕ) (rest : List (ℕ × ℕ)) (other : List ℕ) → AgreesWith (with_read b (q, v) rest) other → IsTrue b → slice_index other q ≡ v
read_here true q v rest other h is = h.0
read_here false q v rest other h is = cc

-- a cell is private
abbrev IsPrivate : List Slot → ℕ → Type 0
IsPrivate [] i = ⊥
IsPrivate (Private q ∷ ss) zero = Unit {0}
IsPrivate (Shared q ∷ ss) zero = ⊥
IsPrivate (Private q ∷ ss) (suc i) = IsPrivate ss i
IsPrivate (Shared q ∷ ss) (suc i) = IsPrivate ss i

module _ (shared other : List ℕ) where
  -- the leaf sees the same in the cells that were looked at
  looked_same : (ss : List Slot) (values : List ℕ) (looks : ℕ → Bool) (k : ℕ) → AgreesWith (reads_from looks k ss (leaf_view ss values shared)) other
      → (i : ℕ) → IsTrue (looks (k + i)) → slice_index (leaf_view ss values shared) i ≡ slice_index (leaf_view ss values other) i
  looked_same [] values looks k h i l = refl
  looked_same (Private q ∷ ss) [] looks k h zero l = refl
  looked_same (Private q ∷ ss) [] looks k h (suc i) l = let z : k + suc i ≡ suc k + i = omega arith in looked_same ss [] looks (suc k) h i (subst (λ (j : ℕ). IsTrue (looks j)) z l)
  looked_same (Private q ∷ ss) (v ∷ values) looks k h zero l = refl
  looked_same (Private q ∷ ss) (v ∷ values) looks k h (suc i) l = let z : k + suc i ≡ suc k + i = omega arith in looked_same ss values looks (suc k) h i (subst (λ (j : ℕ). IsTrue (looks j)) z l)
  looked_same (Shared q ∷ ss) values looks k h zero l =
      let z : k + 0 ≡ k = omega arith in
      sym (read_here (looks k) q (slice_index shared q) (reads_from looks (suc k) ss (leaf_view ss values shared)) other h (subst (λ (j : ℕ). IsTrue (looks j)) z l))
  looked_same (Shared q ∷ ss) values looks k h (suc i) l =
      let z : k + suc i ≡ suc k + i = omega arith in
      looked_same ss values looks (suc k) (read_rest (looks k) q (slice_index shared q) (reads_from looks (suc k) ss (leaf_view ss values shared)) other h) i (subst (λ (j : ℕ). IsTrue (looks j)) z l)

  -- so the same is read
  read_by : (b c : Bool) (q v w : ℕ) (rest more : List (ℕ × ℕ)) → b ≡ c → (IsTrue b → v ≡ w) → rest ≡ more → with_read b (q, v) rest ≡ with_read c (q, w) more
  read_by true true q v w rest more e f g = ap (λ (x : ℕ). (q, x) ∷ rest) (f refl) ∙ ap (λ (xs : List (ℕ × ℕ)). (q, w) ∷ xs) g
  read_by true false q v w rest more e f g = cc
  read_by false true q v w rest more e f g = cc
  read_by false false q v w rest more e f g = g

  reads_same : (ss : List Slot) (values : List ℕ) (looks seen : ℕ → Bool) (k : ℕ) → ((i : ℕ) → looks i ≡ seen i)
      → AgreesWith (reads_from looks k ss (leaf_view ss values shared)) other → reads_from seen k ss (leaf_view ss values other) ≡ reads_from looks k ss (leaf_view ss values shared)
  reads_same [] values looks seen k e h = refl
  reads_same (Private q ∷ ss) [] looks seen k e h = reads_same ss [] looks seen (suc k) e h
  reads_same (Private q ∷ ss) (v ∷ values) looks seen k e h = reads_same ss values looks seen (suc k) e h
  reads_same (Shared q ∷ ss) values looks seen k e h =
      let rest = reads_from looks (suc k) ss (leaf_view ss values shared) in
      read_by (seen k) (looks k) q (slice_index other q) (slice_index shared q) (reads_from seen (suc k) ss (leaf_view ss values other)) rest (sym (e k))
      (λ is. read_here (looks k) q (slice_index shared q) rest other h (e k ∙ is))
      (reads_same ss values looks seen (suc k) e (read_rest (looks k) q (slice_index shared q) rest other h))

  -- the private cells are the same in any case
  private_same : (ss : List Slot) (values : List ℕ) (i : ℕ) → IsPrivate ss i → slice_index (leaf_view ss values shared) i ≡ slice_index (leaf_view ss values other) i
  private_same [] values i h = refl
  private_same (Private q ∷ ss) [] zero h = refl
  private_same (Private q ∷ ss) (v ∷ values) zero h = refl
  private_same (Shared q ∷ ss) values zero h = absurd h
  private_same (Private q ∷ ss) [] (suc i) h = private_same ss [] i h
  private_same (Private q ∷ ss) (v ∷ values) (suc i) h = private_same ss values i h
  private_same (Shared q ∷ ss) values (suc i) h = private_same ss values i h

  -- where every shared place was read, the leaf sees the same
  all_same : (ss : List Slot) (values : List ℕ) (k : ℕ) → AgreesWith (reads_from (λ i. true) k ss (leaf_view ss values shared)) other → leaf_view ss values other ≡ leaf_view ss values shared
  all_same [] values k h = refl
  all_same (Private q ∷ ss) [] k h = ap (λ (xs : List ℕ). 0 ∷ xs) (all_same ss [] (suc k) h)
  all_same (Private q ∷ ss) (v ∷ values) k h = ap (λ (xs : List ℕ). v ∷ xs) (all_same ss values (suc k) h)
  all_same (Shared q ∷ ss) values k h = ap (λ (x : ℕ). x ∷ leaf_view ss values other) h.0 ∙ ap (λ (xs : List ℕ). slice_index shared q ∷ xs) (all_same ss values (suc k) h.1)

-- equal assigned values give equal writes
write_by : (b c : Bool) (q v w : ℕ) (rest more : List (ℕ × ℕ)) → b ≡ c → (IsTrue b → v ≡ w) → rest ≡ more → with_write b (q, v) rest ≡ with_write c (q, w) more
write_by true true q v w rest more e f g = ap (λ (x : ℕ). (q, x) ∷ rest) (f refl) ∙ ap (λ (xs : List (ℕ × ℕ)). (q, w) ∷ xs) g
write_by true false q v w rest more e f g = cc
write_by false true q v w rest more e f g = cc
write_by false false q v w rest more e f g = g

writes_same : (ss : List Slot) (xs ys : List ℕ) (sets puts : ℕ → Bool) (k : ℕ) → length xs ≡ length ys → ((i : ℕ) → sets i ≡ puts i) → ((i : ℕ) → IsTrue (sets (k + i)) → slice_index xs i ≡ slice_index ys i)
    → writes_from sets k ss xs ≡ writes_from puts k ss ys
writes_same [] xs ys sets puts k l e h = refl
writes_same (s ∷ ss) [] [] sets puts k l e h = refl
writes_same (s ∷ ss) [] (y ∷ ys) sets puts k l e h = absurd (omega (arith, l))
writes_same (s ∷ ss) (x ∷ xs) [] sets puts k l e h = absurd (omega (arith, l))
writes_same (Private q ∷ ss) (x ∷ xs) (y ∷ ys) sets puts k l e h =
    writes_same ss xs ys sets puts (suc k) (omega (arith, l)) e (λ i is. let z : suc k + i ≡ k + suc i = omega arith in h (suc i) (subst (λ (j : ℕ). IsTrue (sets j)) z is))
writes_same (Shared q ∷ ss) (x ∷ xs) (y ∷ ys) sets puts k l e h =
    write_by (sets k) (puts k) q x y (writes_from sets (suc k) ss xs) (writes_from puts (suc k) ss ys) (e k)
    (λ is. let z : k ≡ k + 0 = omega arith in h 0 (subst (λ (j : ℕ). IsTrue (sets j)) z is))
    (writes_same ss xs ys sets puts (suc k) (omega (arith, l)) e (λ i is. let z : suc k + i ≡ k + suc i = omega arith in h (suc i) (subst (λ (j : ℕ). IsTrue (sets j)) z is)))

own_same : (ss : List Slot) (xs ys : List ℕ) → length xs ≡ length ys → ((i : ℕ) → IsPrivate ss i → slice_index xs i ≡ slice_index ys i) → own ss xs ≡ own ss ys
own_same [] xs ys l h = refl
own_same (s ∷ ss) [] [] l h = refl
own_same (s ∷ ss) [] (y ∷ ys) l h = absurd (omega (arith, l))
own_same (s ∷ ss) (x ∷ xs) [] l h = absurd (omega (arith, l))
own_same (Private q ∷ ss) (x ∷ xs) (y ∷ ys) l h = ap (λ (v : ℕ). v ∷ own ss xs) (h 0 tt) ∙ ap (λ (vs : List ℕ). y ∷ vs) (own_same ss xs ys (omega (arith, l)) (λ i is. h (suc i) is))
own_same (Shared q ∷ ss) (x ∷ xs) (y ∷ ys) l h = own_same ss xs ys (omega (arith, l)) (λ i is. h (suc i) is)

module _ (p : Part) (accepted : IsAccepted p.atomic) (seed time : ℕ) (base : LeafState) (shared other : List ℕ) where
  abbrev ss : List Slot
  ss = slots_in p

  abbrev v : List ℕ
  v = sees_in p base shared

  abbrev w : List ℕ
  w = sees_in p base other

  abbrev net : Net
  net = net_of_part (draw_of seed) p

  module _ (fired : Option ℕ) (agree : AgreesWith (reads_from (made_of (draw_of seed) p fired base.row.cases (sees_in p base shared)).looks 0 (slots_in p) (sees_in p base shared)) other) where
    abbrev block : List ℕ → Evaluation Made
    block = made_of (draw_of seed) p fired base.row.cases

    abbrev row : Row
    row = row_by fired base.row

    decides : Decides (made_of (draw_of seed) p fired base.row.cases)
    decides = made_decides (draw_of seed) p fired base.row.cases

    long : length v ≡ length w
    long = leaf_view_long ss base.values shared ∙ sym (leaf_view_long ss base.values other)

    equal : AreEqualOn (block v).looks v w
    equal = record { sized = long; same = λ i h. let z : i ≡ 0 + i = omega arith in looked_same shared other ss base.values (block v).looks 0 agree i (subst (λ (j : ℕ). IsTrue ((block v).looks j)) z h) }

    one : HaveOneAnswer (block v) (block w)
    one = decides.alike v w equal

    left_long : length (block v).left ≡ length (block w).left
    left_long = decides.sized v ∙ long ∙ sym (decides.sized w)

    private_left : (i : ℕ) → IsPrivate ss i → (b : Bool) → (block v).sets i ≡ b → slice_index (block v).left i ≡ slice_index (block w).left i
    private_left i h true is = one.assigned i is
    private_left i h false is = decides.unset v i is ∙ private_same shared other ss base.values i h ∙ sym (decides.unset w i (sym (one.sets i) ∙ is))

    writes_are : writes_from (block v).sets 0 ss (block v).left ≡ writes_from (block w).sets 0 ss (block w).left
    writes_are = writes_same ss (block v).left (block w).left (block v).sets (block w).sets 0 left_long one.sets (λ i h. let z : 0 + i ≡ i = omega arith in one.assigned i (subst (λ (j : ℕ). IsTrue ((block v).sets j)) z h))

    own_are : own ss (block v).left ≡ own ss (block w).left
    own_are = own_same ss (block v).left (block w).left left_long (λ i h. private_left i h ((block v).sets i) refl)

    pub reads_are : reads_from (block w).looks 0 ss w ≡ reads_from (block v).looks 0 ss v
    reads_are = reads_same shared other ss base.values (block v).looks (block w).looks 0 one.looks agree

    module _ (made : Made) (is : (block v).answer ≡ Ok made) where
      law_v : block_in (draw_of seed) p time base fired v ≡ block_by row (block v).left (block v).sets made
      law_v = subst (λ (r : Result Made Trap). Is (block_in (draw_of seed) p time base fired v) row (block v).left (block v).sets r) is (block_is_made (draw_of seed) p time base accepted fired v)

      law_w : block_in (draw_of seed) p time base fired w ≡ block_by row (block w).left (block w).sets made
      law_w = subst (λ (r : Result Made Trap). Is (block_in (draw_of seed) p time base fired w) row (block w).left (block w).sets r) (sym one.answer ∙ is) (block_is_made (draw_of seed) p time base accepted fired w)

      outcomes_are : outcome_of net 0 base.seen (block_by row (block v).left (block v).sets made) ≡ outcome_of net 0 base.seen (block_by row (block w).left (block w).sets made)
      outcomes_are =
          ap (λ (ws : List (ℕ × ℕ)). record { completions = made.completions; writes = ws; state = record { values = own ss (block v).left; row = (block_by row (block v).left (block v).sets made).left.row; seen = base.seen }; rates = []; fault = fault_of made.close; more = more_of made.close }) writes_are
          ∙ ap (λ (vs : List ℕ). record { completions = made.completions; writes = writes_from (block w).sets 0 ss (block w).left; state = record { values = vs; row = (block_by row (block w).left (block w).sets made).left.row; seen = base.seen }; rates = []; fault = fault_of made.close; more = more_of made.close }) own_are

      come_by : (cs : List law.Completion) → made.completions ≡ cs → comes_by cs net base (block_by row (block v).left (block v).sets made) ≡ comes_by cs net base (block_by row (block w).left (block w).sets made)
      come_by [] e = refl
      come_by (c ∷ cs) e = outcomes_are

      pub settled_are : outcome_of net 0 base.seen (block_in (draw_of seed) p time base fired w) ≡ outcome_of net 0 base.seen (block_in (draw_of seed) p time base fired v)
      settled_are = ap (outcome_of net 0 base.seen) law_w ∙ sym (ap (outcome_of net 0 base.seen) law_v ∙ outcomes_are)

      pub comes_are : comes net base (block_in (draw_of seed) p time base fired w) ≡ comes net base (block_in (draw_of seed) p time base fired v)
      comes_are = ap (comes net base) law_w ∙ sym (ap (comes net base) law_v ∙ come_by made.completions refl)

    never : (t : Trap) → (block v).answer ≡ Err t → ⊥
    never t e = subst (λ (r : Result Made Trap). Is (block_in (draw_of seed) p time base fired v) row (block v).left (block v).sets r) e (block_is_made (draw_of seed) p time base accepted fired v)

    pub settled_by : (r : Result Made Trap) → (block v).answer ≡ r → outcome_of net 0 base.seen (block_in (draw_of seed) p time base fired w) ≡ outcome_of net 0 base.seen (block_in (draw_of seed) p time base fired v)
    settled_by (Ok made) e = settled_are made e
    settled_by (Err t) e = absurd (never t e)

    pub comes_same : (r : Result Made Trap) → (block v).answer ≡ r → comes net base (block_in (draw_of seed) p time base fired w) ≡ comes net base (block_in (draw_of seed) p time base fired v)
    comes_same (Ok made) e = comes_are made e
    comes_same (Err t) e = absurd (never t e)

  -- a fired piece is what its block comes to
  fired_comes : (l : Local) (k : ℕ) (r : Result Done Trap) → fired_outcome net 63 0 base k r ≡ comes net base (after_done (settle net 0 63) l k r)
  fired_comes l k (Err t) = refl
  fired_comes l k (Ok d) = refl

  fired_is : (k : ℕ) (s : List ℕ) → piece_of net 0 (Fire k) time base s ≡ comes net base (block_in (draw_of seed) p time base (Some k) (leaf_view (part_of net 0) base.values s))
  unfolding without_timer
  fired_is k s =
      let l = leaf_at (row_by (Some k) base.row) base.row.cases (leaf_view (part_of net 0) base.values s) in
      fired_comes l k (net.done 0 k l)

  by_kind : (kind : Kind) → AgreesWith (reads_in p seed kind base shared) other → ComeAlike p seed kind time base shared other
  by_kind Settle agree = record {
    reads = reads_are None agree;
    makes = settled_by None agree (made_of (draw_of seed) p None base.row.cases v).answer refl;
  }
  by_kind (Fire k) agree = record {
    reads = reads_are (Some k) agree;
    makes = fired_is k other ∙ comes_same (Some k) agree (made_of (draw_of seed) p (Some k) base.row.cases v).answer refl ∙ sym (fired_is k shared);
  }
  by_kind Refresh agree =
      let same = all_same shared other ss base.values 0 agree in
      record {
        reads = ap (reads_from (λ i. true) 0 ss) same;
        makes = ap (λ (xs : List ℕ). renewed_outcome net 0 base xs (net.renewed 0 time base.seen (record { values = xs; row = base.row }))) same;
      }

pub reads_decide : (p : Part) → IsAccepted p.atomic → ReadsDecide p
reads_decide p accepted seed kind time base shared other agree = by_kind p accepted seed time base shared other kind agree
