-- A block over a leaf's cells makes a sound piece.
use Rattle.std.proofs.Common.{ℕ, zero, suc, ◌+◌, ◌<◌, ◌≡◌, ◌∙◌, ap, sym, refl, subst, arith, Bool, true, false, not, ◌||◌, ◌&&◌, List, [], ◌∷◌, length, map, Option, Some, None, Ok}
use Rattle.std.specs.Prelude.{slice_index}
use Rattle.std.proofs.lemmas.List.{ext_get_or, length-map}
use Rattle.san_draw.specs.Key.{draw_of}
use Rattle.san_expr.specs.Meaning.{Evaluation}
use Rattle.san_expr.specs.Meets.{Meets, marking_of}
use Rattle.san_expr.specs.View.{Agrees, IsAt, ViewState, is_known, or_else, over}
use Rattle.san_expr.proofs.ViewLemmas.{length-over, slice_index-over}
use Rattle.san_base.specs.declared.piece.Kind.{Kind}
use Rattle.san_law.specs.Net.{Net, Row}
use Rattle.san_law.specs.Net.{Private, Shared, Slot}
use Rattle.san_law.specs.Piece.{LeafState, own, privates, leaf_view, with_write, writes_from}
use Rattle.san_law.specs.Block.{fault_of, more_of}
use Rattle.san_law.specs.Block as law
use Rattle.san_net.specs.Accepted.{IsAccepted}
use Rattle.san_net.specs.Laid.{place_of}
use Rattle.san_net.specs.Leaf.{slot_in}
use Rattle.san_net.specs.declared.part.Slot as net
use Rattle.san_net.specs.declared.part.Slot.TheVariants as slot
use Rattle.san_expr.specs.View.{IsBehind, IsSeen}
use Rattle.san_leaf.specs.Claimed.{IsReadFrom}
use Rattle.san_leaf.specs.inner.ViewStates.{behind_of, known}
use Rattle.san_net.specs.declared.part.Part.{Part}
use Rattle.san_leaf.specs.Blocks.{Made, made_of}
use Rattle.san_leaf.specs.inner.Cells.{noted, noted_by, owned, starts, value_by}
use Rattle.san_leaf.specs.Lawful.{Is, block_by, net_of_part}
use Rattle.san_leaf.specs.Pieces.{AgreesWith, IsSound, looks_in, piece_in, reads_from, reads_in, slots_in, with_read}
use Rattle.san_leaf.specs.States.{kind_in}
use Rattle.san_leaf.specs.inner.Turns.{with_cases}
use Rattle.san_leaf.specs.inner.Ends.{kind_by, outcome_by, row_by}
use Rattle.san_leaf.proofs.KindLaws.{block_in, block_is_made, comes, comes_by, piece_comes}

-- the cells of a leaf as it sees shared values
pub leaf_view_long : (ss : List Slot) (values shared : List ℕ) → length (leaf_view ss values shared) ≡ length ss
leaf_view_long [] values shared = refl
leaf_view_long (Private q ∷ ss) [] shared = ap suc (leaf_view_long ss [] shared)
leaf_view_long (Private q ∷ ss) (v ∷ values) shared = ap suc (leaf_view_long ss values shared)
leaf_view_long (Shared q ∷ ss) values shared = ap suc (leaf_view_long ss values shared)

pub starts_long : (ss : List Slot) (values : List ℕ) → length (starts ss values) ≡ length ss
starts_long [] values = refl
starts_long (Private q ∷ ss) [] = ap suc (starts_long ss [])
starts_long (Private q ∷ ss) (v ∷ values) = ap suc (starts_long ss values)
starts_long (Shared q ∷ ss) values = ap suc (starts_long ss values)

-- the leaf's own values are in what it sees
own_there : (ss : List Slot) (values shared : List ℕ) (i : ℕ) → or_else (known (starts ss values) i) (slice_index (leaf_view ss values shared) i) ≡ slice_index (leaf_view ss values shared) i
own_there [] values shared i = refl
own_there (Private q ∷ ss) [] shared zero = refl
own_there (Private q ∷ ss) [] shared (suc i) = own_there ss [] shared i
own_there (Private q ∷ ss) (v ∷ values) shared zero = refl
own_there (Private q ∷ ss) (v ∷ values) shared (suc i) = own_there ss values shared i
own_there (Shared q ∷ ss) values shared zero = refl
own_there (Shared q ∷ ss) values shared (suc i) = own_there ss values shared i

-- so that they change nothing of it
over_leaf_view : (ss : List Slot) (values shared : List ℕ) → over (known (starts ss values)) (leaf_view ss values shared) ≡ leaf_view ss values shared
over_leaf_view ss values shared =
    ext_get_or 0 (over (known (starts ss values)) (leaf_view ss values shared)) (leaf_view ss values shared) (length-over (known (starts ss values)) (leaf_view ss values shared))
    (λ i h. slice_index-over (known (starts ss values)) (leaf_view ss values shared) i (omega (arith, h, length-over (known (starts ss values)) (leaf_view ss values shared))) ∙ own_there ss values shared i)

-- a cell that is noted has the value that the leaf sees, where the shared values agree
module _ (shared : List ℕ) where
  agrees_rest : (o : Option ℕ) (q : ℕ) (es : List (ℕ × ℕ)) → AgreesWith (noted_by o q es) shared → AgreesWith es shared
  agrees_rest None q es h = h
  agrees_rest (Some v) q es h = h.1

  agrees_here : (o : Option ℕ) (q : ℕ) (es : List (ℕ × ℕ)) → AgreesWith (noted_by o q es) shared → IsAt o (slice_index shared q)
  agrees_here None q es h = tt
  agrees_here (Some v) q es h = sym h.0

  -- no own cell was noted
  abbrev pub IsRead : List Slot → List ℕ → List (Option ℕ) → Type 0
  IsRead ss values cells = (i : ℕ) → i < length ss → is_known (known cells i) ≡ true → is_known (known (starts ss values) i) ≡ false

  none_at : (o : Option ℕ) (n : ℕ) → (is_known o ≡ true → true ≡ false) → IsAt o n
  none_at None n h = tt
  none_at (Some v) n h = let e : true ≡ false = h refl in cc

  pub sees_noted : (ss : List Slot) (values : List ℕ) (cells : List (Option ℕ)) → length cells ≡ length ss → IsRead ss values cells → AgreesWith (noted ss cells) shared → (i : ℕ) → IsAt (known cells i) (slice_index (leaf_view ss values shared) i)
  sees_noted ss values [] l r h i = tt
  sees_noted [] values (o ∷ cells) l r h i = cc
  sees_noted (Private q ∷ ss) [] (o ∷ cells) l r h zero = none_at o 0 (λ e. r 0 (omega arith) e)
  sees_noted (Private q ∷ ss) [] (o ∷ cells) l r h (suc i) = sees_noted ss [] cells (omega (arith, l)) (λ k b e. r (suc k) (omega (arith, b)) e) h i
  sees_noted (Private q ∷ ss) (v ∷ values) (o ∷ cells) l r h zero = none_at o v (λ e. r 0 (omega arith) e)
  sees_noted (Private q ∷ ss) (v ∷ values) (o ∷ cells) l r h (suc i) = sees_noted ss values cells (omega (arith, l)) (λ k b e. r (suc k) (omega (arith, b)) e) h i
  sees_noted (Shared q ∷ ss) values (o ∷ cells) l r h zero = agrees_here o q (noted ss cells) h
  sees_noted (Shared q ∷ ss) values (o ∷ cells) l r h (suc i) = sees_noted ss values cells (omega (arith, l)) (λ k b e. r (suc k) (omega (arith, b)) e) (agrees_rest o q (noted ss cells) h) i

-- what a list of cells says of the places that are assigned, and of those that are read
note_write : (o : Option ℕ) (b : Bool) (q v : ℕ) (rest : List (ℕ × ℕ)) → is_known o ≡ b → v ≡ or_else o v → noted_by o q rest ≡ with_write b (q, v) rest
note_write None true q v rest e f = cc
note_write None false q v rest e f = refl
note_write (Some w) true q v rest e f = ap (λ x. (q, x) ∷ rest) (sym f)
note_write (Some w) false q v rest e f = cc

note_read : (o : Option ℕ) (b : Bool) (q v : ℕ) (rest : List (ℕ × ℕ)) → is_known o ≡ b → IsAt o v → noted_by o q rest ≡ with_read b (q, v) rest
note_read None true q v rest e f = cc
note_read None false q v rest e f = refl
note_read (Some w) true q v rest e f = ap (λ x. (q, x) ∷ rest) f
note_read (Some w) false q v rest e f = cc

-- the assigned shared cells are the writes
pub writes_same : (ss : List Slot) (values left : List ℕ) (cells : List (Option ℕ)) (sets : ℕ → Bool) (k : ℕ) → length cells ≡ length ss → length left ≡ length ss
    → ((i : ℕ) → i < length ss → is_known (known cells i) ≡ (is_known (known (starts ss values) i) || sets (k + i))) → ((i : ℕ) → i < length ss → slice_index left i ≡ or_else (known cells i) (slice_index left i))
    → noted ss cells ≡ writes_from sets k ss left
writes_same [] values left cells sets k l n known_so left_so = refl
writes_same (s ∷ ss) values left [] sets k l n known_so left_so = cc
writes_same (s ∷ ss) values [] (o ∷ cells) sets k l n known_so left_so = cc
writes_same (Private q ∷ ss) [] (v ∷ left) (o ∷ cells) sets k l n known_so left_so =
    writes_same ss [] left cells sets (suc k) (omega (arith, l)) (omega (arith, n)) (λ i b. let z : k + suc i ≡ suc k + i = omega arith in known_so (suc i) (omega (arith, b)) ∙ ap (λ j. is_known (known (starts ss []) i) || sets j) z) (λ i b. left_so (suc i) (omega (arith, b)))
writes_same (Private q ∷ ss) (x ∷ values) (v ∷ left) (o ∷ cells) sets k l n known_so left_so =
    writes_same ss values left cells sets (suc k) (omega (arith, l)) (omega (arith, n)) (λ i b. let z : k + suc i ≡ suc k + i = omega arith in known_so (suc i) (omega (arith, b)) ∙ ap (λ j. is_known (known (starts ss values) i) || sets j) z) (λ i b. left_so (suc i) (omega (arith, b)))
writes_same (Shared q ∷ ss) values (v ∷ left) (o ∷ cells) sets k l n known_so left_so =
    let z : k + 0 ≡ k = omega arith in
    note_write o (sets k) q v (noted ss cells) (known_so 0 (omega arith) ∙ ap sets z) (left_so 0 (omega arith))
    ∙ ap (with_write (sets k) (q, v)) (writes_same ss values left cells sets (suc k) (omega (arith, l)) (omega (arith, n)) (λ i b. let z : k + suc i ≡ suc k + i = omega arith in known_so (suc i) (omega (arith, b)) ∙ ap (λ j. is_known (known (starts ss values) i) || sets j) z) (λ i b. left_so (suc i) (omega (arith, b))))

value_known : (o : Option ℕ) (v : ℕ) → is_known o ≡ true → v ≡ or_else o v → value_by o ≡ v
value_known None v e f = cc
value_known (Some w) v e f = sym f

-- the private cells are the leaf's own
pub owned_same : (ss : List Slot) (values left : List ℕ) (cells : List (Option ℕ)) (sets : ℕ → Bool) (k : ℕ) → length cells ≡ length ss → length left ≡ length ss
    → ((i : ℕ) → i < length ss → is_known (known cells i) ≡ (is_known (known (starts ss values) i) || sets (k + i))) → ((i : ℕ) → i < length ss → slice_index left i ≡ or_else (known cells i) (slice_index left i))
    → owned ss cells ≡ own ss left
owned_same [] values left cells sets k l n known_so left_so = refl
owned_same (s ∷ ss) values left [] sets k l n known_so left_so = cc
owned_same (s ∷ ss) values [] (o ∷ cells) sets k l n known_so left_so = cc
owned_same (Private q ∷ ss) [] (v ∷ left) (o ∷ cells) sets k l n known_so left_so =
    ap (λ x. x ∷ owned ss cells) (value_known o v (known_so 0 (omega arith)) (left_so 0 (omega arith)))
    ∙ ap (λ xs. v ∷ xs) (owned_same ss [] left cells sets (suc k) (omega (arith, l)) (omega (arith, n)) (λ i b. let z : k + suc i ≡ suc k + i = omega arith in known_so (suc i) (omega (arith, b)) ∙ ap (λ j. is_known (known (starts ss []) i) || sets j) z) (λ i b. left_so (suc i) (omega (arith, b))))
owned_same (Private q ∷ ss) (x ∷ values) (v ∷ left) (o ∷ cells) sets k l n known_so left_so =
    ap (λ y. y ∷ owned ss cells) (value_known o v (known_so 0 (omega arith)) (left_so 0 (omega arith)))
    ∙ ap (λ xs. v ∷ xs) (owned_same ss values left cells sets (suc k) (omega (arith, l)) (omega (arith, n)) (λ i b. let z : k + suc i ≡ suc k + i = omega arith in known_so (suc i) (omega (arith, b)) ∙ ap (λ j. is_known (known (starts ss values) i) || sets j) z) (λ i b. left_so (suc i) (omega (arith, b))))
owned_same (Shared q ∷ ss) values (v ∷ left) (o ∷ cells) sets k l n known_so left_so =
    owned_same ss values left cells sets (suc k) (omega (arith, l)) (omega (arith, n)) (λ i b. let z : k + suc i ≡ suc k + i = omega arith in known_so (suc i) (omega (arith, b)) ∙ ap (λ j. is_known (known (starts ss values) i) || sets j) z) (λ i b. left_so (suc i) (omega (arith, b)))

-- the cells that were read are those that are looked at
pub reads_same : (ss : List Slot) (values shared : List ℕ) (cells : List (Option ℕ)) (looks : ℕ → Bool) (k : ℕ) → length cells ≡ length ss
    → ((i : ℕ) → i < length ss → is_known (known cells i) ≡ (not (is_known (known (starts ss values) i)) && looks (k + i))) → ((i : ℕ) → IsAt (known cells i) (slice_index (leaf_view ss values shared) i))
    → reads_from looks k ss (leaf_view ss values shared) ≡ noted ss cells
reads_same [] values shared cells looks k l known_so at_so = refl
reads_same (s ∷ ss) values shared [] looks k l known_so at_so = cc
reads_same (Private q ∷ ss) [] shared (o ∷ cells) looks k l known_so at_so =
    reads_same ss [] shared cells looks (suc k) (omega (arith, l)) (λ i b. let z : k + suc i ≡ suc k + i = omega arith in known_so (suc i) (omega (arith, b)) ∙ ap (λ j. not (is_known (known (starts ss []) i)) && looks j) z) (λ i. at_so (suc i))
reads_same (Private q ∷ ss) (x ∷ values) shared (o ∷ cells) looks k l known_so at_so =
    reads_same ss values shared cells looks (suc k) (omega (arith, l)) (λ i b. let z : k + suc i ≡ suc k + i = omega arith in known_so (suc i) (omega (arith, b)) ∙ ap (λ j. not (is_known (known (starts ss values) i)) && looks j) z) (λ i. at_so (suc i))
reads_same (Shared q ∷ ss) values shared (o ∷ cells) looks k l known_so at_so =
    let z : k + 0 ≡ k = omega arith in
    ap (with_read (looks k) (q, slice_index shared q)) (reads_same ss values shared cells looks (suc k) (omega (arith, l)) (λ i b. let z : k + suc i ≡ suc k + i = omega arith in known_so (suc i) (omega (arith, b)) ∙ ap (λ j. not (is_known (known (starts ss values) i)) && looks j) z) (λ i. at_so (suc i)))
    ∙ sym (note_read o (looks k) q (slice_index shared q) (noted ss cells) (known_so 0 (omega arith) ∙ ap looks z) (at_so 0))

-- some marking agrees with what was read
filled : List (Option ℕ) → List ℕ
filled cells = map value_by cells

pub filled_at : (cells : List (Option ℕ)) (i : ℕ) → IsAt (known cells i) (slice_index (map value_by cells) i)
filled_at [] i = tt
filled_at (None ∷ cells) zero = tt
filled_at (Some v ∷ cells) zero = refl
filled_at (o ∷ cells) (suc i) = filled_at cells i

and_left : (a b : Bool) → (not a && b) ≡ true → a ≡ false
and_left true b e = cc
and_left false b e = refl

or_else_twice : (o : Option ℕ) (v : ℕ) → or_else o v ≡ or_else o (or_else o v)
or_else_twice None v = refl
or_else_twice (Some w) v = refl

-- the cells that a piece of completions looks at
looks_are : (p : Part) (seed : ℕ) (fired : Option ℕ) (base : LeafState) (v : List ℕ) → looks_in p seed (kind_by fired) base v ≡ (made_of (draw_of seed) p fired base.row.cases v).looks
looks_are p seed None base v = refl
looks_are p seed (Some k) base v = refl

module _ (p : Part) (seed time : ℕ) (base : LeafState) (accepted : IsAccepted p.atomic) (few : length base.values ≡ length (privates (slots_in p))) (fired : Option ℕ) (row : Row) (made : Made) (firsts cells read : List (Option ℕ)) (n0 n1 : ℕ) (behind0 behind1 kept0 kept1 : List ℕ) where
  abbrev ss : List Slot
  ss = slots_in p

  abbrev block : List ℕ → Evaluation Made
  block = made_of (draw_of seed) p fired base.row.cases

  abbrev before : ViewState
  before = record { places = n0; first = known firsts; own = known (starts ss base.values); behind = behind0; kept = kept0 }

  abbrev after : ViewState
  after = record { places = n1; first = known read; own = known cells; behind = behind1; kept = kept1 }

  module _ (many : n1 ≡ length ss) (fresh : (i : ℕ) → known firsts i ≡ None) (long : length cells ≡ length ss) (wide : length read ≡ length ss) (meets : Meets before after block (Ok made)) (is_row : row ≡ with_cases (row_by fired base.row) made.cases) where
    -- only shared cells were read
    read_shared : (i : ℕ) → i < length ss → is_known (known read i) ≡ true → is_known (known (starts ss base.values) i) ≡ false
    read_shared i l e =
        let m = map value_by read in
        let agrees : Agrees after m = record { sized = length-map read value_by ∙ wide ∙ sym many; has = filled_at read } in
        let looks = meets.looks m agrees i in
        and_left (is_known (known (starts ss base.values) i)) ((block (marking_of before m)).looks i)
        (sym (ap (λ (o : Option ℕ). is_known o || (not (is_known (known (starts ss base.values) i)) && (block (marking_of before m)).looks i)) (fresh i)) ∙ sym looks ∙ e)

    module _ (shared : List ℕ) (agree : AgreesWith (noted ss read) shared) where
      abbrev v : List ℕ
      v = leaf_view ss base.values shared

      agrees : Agrees after v
      agrees = record { sized = leaf_view_long ss base.values shared ∙ sym many; has = sees_noted shared ss base.values read wide read_shared agree }

      same : marking_of before v ≡ v
      same = over_leaf_view ss base.values shared

      answer : (block v).answer ≡ Ok made
      answer = ap (λ (m : List ℕ). (block m).answer) (sym same) ∙ meets.answer v agrees

      left : over (known cells) v ≡ (block v).left
      left = meets.left v agrees ∙ ap (λ (m : List ℕ). (block m).left) same

      left_long : length (block v).left ≡ length ss
      left_long = ap length (sym left) ∙ length-over (known cells) v ∙ leaf_view_long ss base.values shared

      left_so : (i : ℕ) → i < length ss → slice_index (block v).left i ≡ or_else (known cells i) (slice_index (block v).left i)
      left_so i l =
          let at : slice_index (block v).left i ≡ or_else (known cells i) (slice_index v i) = ap (λ (m : List ℕ). slice_index m i) (sym left) ∙ slice_index-over (known cells) v i (omega (arith, l, leaf_view_long ss base.values shared)) in
          at ∙ or_else_twice (known cells i) (slice_index v i) ∙ ap (or_else (known cells i)) (sym at)

      sets_so : (i : ℕ) → i < length ss → is_known (known cells i) ≡ (is_known (known (starts ss base.values) i) || (block v).sets (0 + i))
      sets_so i l =
          let z : i ≡ 0 + i = omega arith in
          meets.sets v agrees i ∙ ap (λ (m : List ℕ). is_known (known (starts ss base.values) i) || (block m).sets i) same ∙ ap (λ j. is_known (known (starts ss base.values) i) || (block v).sets j) z

      looks_so : (i : ℕ) → i < length ss → is_known (known read i) ≡ (not (is_known (known (starts ss base.values) i)) && (block v).looks (0 + i))
      looks_so i l =
          let z : i ≡ 0 + i = omega arith in
          meets.looks v agrees i ∙ ap (λ (o : Option ℕ). is_known o || (not (is_known (known (starts ss base.values) i)) && (block (marking_of before v)).looks i)) (fresh i)
          ∙ ap (λ (m : List ℕ). not (is_known (known (starts ss base.values) i)) && (block m).looks i) same ∙ ap (λ j. not (is_known (known (starts ss base.values) i)) && (block v).looks j) z

      abbrev of_part : Net
      of_part = net_of_part (draw_of seed) p

      -- the law's completions
      abbrev of_law : law.Block
      of_law = block_by (row_by fired base.row) (block v).left (block v).sets made

      block_is : block_in (draw_of seed) p time base fired v ≡ of_law
      block_is = subst (λ r. Is (block_in (draw_of seed) p time base fired v) (row_by fired base.row) (block v).left (block v).sets r) answer (block_is_made (draw_of seed) p time base accepted fired v)

      by_list : (cs : List law.Completion) → comes_by cs of_part base (record { completions = cs; sets = (block v).sets; left = of_law.left; close = made.close }) ≡ outcome_by p base cells row cs made.close
      by_list [] = refl
      by_list (c ∷ cs) =
          ap (λ ws. record { completions = c ∷ cs; writes = ws; state = record { values = own ss (block v).left; row = of_law.left.row; seen = base.seen }; rates = []; fault = fault_of made.close; more = more_of made.close })
          (sym (writes_same ss base.values (block v).left cells (block v).sets 0 long left_long sets_so left_so))
          ∙ ap (λ vs. record { completions = c ∷ cs; writes = noted ss cells; state = record { values = vs; row = of_law.left.row; seen = base.seen }; rates = []; fault = fault_of made.close; more = more_of made.close })
          (sym (owned_same ss base.values (block v).left cells (block v).sets 0 long left_long sets_so left_so))
          ∙ ap (λ r. record { completions = c ∷ cs; writes = noted ss cells; state = record { values = owned ss cells; row = r; seen = base.seen }; rates = []; fault = fault_of made.close; more = more_of made.close }) (sym is_row)

      makes : piece_in p seed (kind_by fired) time base shared ≡ outcome_by p base cells row made.completions made.close
      makes = piece_comes (draw_of seed) p time base few fired shared ∙ ap (comes of_part base) block_is ∙ by_list made.completions

      reads : reads_in p seed (kind_by fired) base shared ≡ noted ss read
      reads = ap (λ (f : ℕ → Bool). reads_from f 0 ss v) (looks_are p seed fired base v) ∙ reads_same ss base.values shared read (block v).looks 0 wide looks_so agrees.has

    pub sound : (kind : Kind) → kind_in p.first.0 kind ≡ kind_by fired → IsSound (record { part = p; seed = seed; kind = kind; base = base; time = time; log = noted ss read; outcome = outcome_by p base cells row made.completions made.close })
    sound kind is = record {
      makes = λ shared agree. ap (λ k. piece_in p seed k time base shared) is ∙ makes shared agree;
      reads = λ shared agree. ap (λ k. reads_in p seed k base shared) is ∙ reads shared agree;
    }

-- a piece's log has the values of the marking behind
behind_value : (places m : List ℕ) (i v : ℕ) → i < length places → IsBehind (map (λ q. slice_index m q) places) i v → slice_index m (slice_index places i) ≡ v
behind_value [] m i v l h = absurd (omega (arith, l))
behind_value (q ∷ places) m zero v l h = h
behind_value (q ∷ places) m (suc i) v l h = at_rest places i (omega (arith, l)) h
  where
    at_rest : (places : List ℕ) (i : ℕ) → i < length places → slice_index (map (λ q. slice_index m q) places) i ≡ v → slice_index m (slice_index places i) ≡ v
    at_rest [] i l h = absurd (omega (arith, l))
    at_rest (q ∷ places) zero l h = h
    at_rest (q ∷ places) (suc i) l h = at_rest places i (omega (arith, l)) h

abbrev HasValues : List net.Slot → List (Option ℕ) → List ℕ → Type 0
HasValues slots cells m = (i v : ℕ) → i < length slots → known cells i ≡ Some v → slice_index m (slice_index (map place_of slots) i) ≡ v

log_read : (slots : List net.Slot) (cells : List (Option ℕ)) (m : List ℕ) → length cells ≡ length slots → HasValues slots cells m → AgreesWith (noted (map slot_in slots) cells) m
log_read [] cells m l h = tt
log_read (slot.Private q ∷ slots) [] m l h = tt
log_read (slot.Shared q ∷ slots) [] m l h = tt
log_read (slot.Private q ∷ slots) (o ∷ cells) m l h = log_read slots cells m (omega (arith, l)) (λ i v b e. h (suc i) v (omega (arith, b)) e)
log_read (slot.Shared q ∷ slots) (o ∷ cells) m l h = by_cell o (λ v e. h 0 v (omega arith) e) (log_read slots cells m (omega (arith, l)) (λ i v b e. h (suc i) v (omega (arith, b)) e))
  where
    by_cell : (o : Option ℕ) → ((v : ℕ) → o ≡ Some v → slice_index m q.0 ≡ v) → AgreesWith (noted (map slot_in slots) cells) m → AgreesWith (noted_by o q.0 (noted (map slot_in slots) cells)) m
    by_cell None here rest = rest
    by_cell (Some v) here rest = (here v refl, rest)

pub is_read_from : (o : Option (List ℕ)) (slots : List net.Slot) (firsts read : List (Option ℕ)) → length read ≡ length slots → ((i : ℕ) → known firsts i ≡ None)
    → ((i v : ℕ) → known firsts i ≡ None → known read i ≡ Some v → IsSeen (behind_of (map place_of slots) o) i v) → IsReadFrom o (noted (map slot_in slots) read)
is_read_from None slots firsts read l fresh seen = tt
is_read_from (Some m) slots firsts read l fresh seen =
    log_read slots read m l (λ i v b e. let long = length-map slots place_of in behind_value (map place_of slots) m i v (omega (arith, b, long)) (seen i v (fresh i) e).1)
