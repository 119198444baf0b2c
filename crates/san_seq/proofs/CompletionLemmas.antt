-- A completion over a copy of a leaf's cells, as the law says it.
use Rattle.std.proofs.Common.{ℕ, zero, suc, ◌<◌, ◌≡◌, ◌≢◌, ◌∙◌, ◌⊎◌, inl, inr, ap, sym, refl, subst, arith, List, [], ◌∷◌, ◌++◌, length, map, take, Bool, cond, Option, Some, None, Result, Ok, Err, slice_index, slice_set}
use Rattle.std.specs.Prelude.{slice_get}
use Rattle.std.proofs.Math.Path.{fun_ext}
use Rattle.std.proofs.Math.Seq.{take-append_seam}
use Rattle.std.proofs.lemmas.Bool.{cases_eq, eq-eqb, ne_eqb}
use Rattle.std.proofs.lemmas.List.{length-set}
use Rattle.san_base.specs.declared.ending.Trap.{Trap}
use Rattle.san_expr.specs.Meaning.{Evaluation}
use Rattle.san_expr.specs.Meets.{Meets}
use Rattle.san_expr.specs.View.{Answers, Known, ReadsCell, assigned, plain, with}
use Rattle.san_expr.proofs.WholeLemmas.{plain_meets}
use Rattle.san_law.proofs.Places.{scatter_length}
use Rattle.san_law.specs.Activity.{Effected}
use Rattle.san_law.specs.State.{gather, scatter}
use Rattle.san_net.specs.Completion.{completion_of}
use Rattle.san_net.specs.Laid.{place_of, places_of}
use Rattle.san_net.specs.Leaf.{completed_in, effected_by}
use Rattle.san_net.specs.declared.activity.Activity.{Activity}
use Rattle.san_net.specs.declared.part.Part.{Part}
use Rattle.san_net.specs.declared.part.Slot.{Slot}
use Rattle.san_net.proofs.CellLemmas.{cells_are}
use Rattle.san_seq.proofs.FlaggedLemmas.{set_other, set_same}

-- the case and the marking with the leaf's new values; a trap leaves the marking as it was
abbrev pub values_left : List ℕ → List ℕ → Result Effected Trap → Result ℕ Trap × List ℕ
values_left places m (Ok e) = (Ok e.case, scatter places e.values m)
values_left places m (Err trap) = (Err trap, m)

module _ (p : Part) (slots : List Slot) (m values left : List ℕ) (slot : slots ≡ p.slots) (seen : values ≡ gather (map place_of slots) m) (a : Activity) (u : ℕ) (r : Result ℕ Trap)
    (did : Meets (plain values) (plain left) (completion_of u a) r) where
  abbrev done : Evaluation ℕ
  done = completion_of u a (gather (places_of p) m)

  values_are : values ≡ gather (places_of p) m
  values_are = seen ∙ ap (λ (ss : List Slot). gather (map place_of ss) m) slot

  answer : done.answer ≡ r
  answer = ap (λ (v : List ℕ). (completion_of u a v).answer) (sym values_are) ∙ (plain_meets values left (completion_of u a) r did).0

  left_is : left ≡ done.left
  left_is = (plain_meets values left (completion_of u a) r did).1 ∙ ap (λ (v : List ℕ). (completion_of u a v).left) values_are

  effected : values_left (places_of p) m (effected_by done r) ≡ values_left (places_of p) m (completed_in a u (gather (places_of p) m))
  effected = ap (λ (x : Result ℕ Trap). values_left (places_of p) m (effected_by done x)) (sym answer)

  -- there are as many cells as before
  pub as_many_cells : length left ≡ length slots
  as_many_cells = did.places ∙ ap length seen ∙ cells_are (map place_of slots) m ∙ Rattle.std.proofs.lemmas.List.length-map slots place_of

  pub completes : (case : ℕ) (final : List ℕ) → r ≡ Ok case → final ≡ scatter (map place_of slots) left m → (r, final) ≡ values_left (places_of p) m (completed_in a u (gather (places_of p) m))
  completes case final e is =
      ap (λ (x : Result ℕ Trap). (x, final)) e
      ∙ ap (λ (n : List ℕ). (let x : Result ℕ Trap = Ok case in x, n)) (is ∙ ap (λ (ss : List Slot). scatter (map place_of ss) left m) slot ∙ ap (λ (v : List ℕ). scatter (places_of p) v m) left_is)
      ∙ ap (λ (x : Result ℕ Trap). values_left (places_of p) m (effected_by done x)) (sym e) ∙ effected

  pub traps : (trap : Trap) → r ≡ Err trap → (r, m) ≡ values_left (places_of p) m (completed_in a u (gather (places_of p) m))
  traps trap e =
      ap (λ (x : Result ℕ Trap). (x, m)) e ∙ ap (λ (x : Result ℕ Trap). values_left (places_of p) m (effected_by done x)) (sym e) ∙ effected

-- a vector's elements written over by as many
pub written_over : (n : ℕ) (ws us : List ℕ) → length ws ≡ n → take n (ws ++ us) ≡ ws
written_over n ws us sized = ap (λ (k : ℕ). take k (ws ++ us)) (sym sized) ∙ take-append_seam ws us

pub refilled : (n : ℕ) (ws us before places values : List ℕ) → ws ≡ scatter places values before → length before ≡ n → take n (ws ++ us) ≡ ws
refilled n ws us before places values is sized = written_over n ws us (ap length is ∙ scatter_length places values before ∙ sized)

-- a cell of the front of a room
pub front_within : (n : ℕ) (xs : List ℕ) (k : ℕ) → k < length (take n xs) → k < length xs
front_within zero xs k h = absurd (omega (arith, h))
front_within (suc n) [] k h = absurd (omega (arith, h))
front_within (suc n) (x ∷ xs) zero h = omega arith
front_within (suc n) (x ∷ xs) (suc k) h = let rest : k < length xs = front_within n xs k (omega (arith, h)) in omega (arith, rest)

front_at : (n : ℕ) (xs : List ℕ) (k : ℕ) → k < length (take n xs) → slice_get (take n xs) k ≡ Some (slice_index xs k)
front_at zero xs k h = absurd (omega (arith, h))
front_at (suc n) [] k h = absurd (omega (arith, h))
front_at (suc n) (x ∷ xs) zero h = refl
front_at (suc n) (x ∷ xs) (suc k) h = front_at n xs k (omega (arith, h))

pub front_read : (n : ℕ) (xs s : List ℕ) (k v : ℕ) → take n xs ≡ s → k < length s → v ≡ slice_index xs k → ReadsCell (plain s) (plain s) k v
front_read n xs s k v is h e =
    let at = ap (λ (y : List ℕ). slice_get y k) (sym is) ∙ front_at n xs k (subst (λ (y : List ℕ). k < length y) (sym is) h) in
    subst (λ (o : Option ℕ). Answers o None (plain s) (plain s) k v) (sym at) (e, refl)

set_front : (n : ℕ) (xs : List ℕ) (k v : ℕ) → take n (slice_set xs k v) ≡ slice_set (take n xs) k v
set_front zero xs k v = refl
set_front (suc n) [] k v = refl
set_front (suc n) (x ∷ xs) zero v = refl
set_front (suc n) (x ∷ xs) (suc k) v = ap (λ (ys : List ℕ). x ∷ ys) (set_front n xs k v)

own_at : (values : List ℕ) (k v p : ℕ) → k < length values → (p ≡ k) ⊎ (p ≢ k) → slice_get (slice_set values k v) p ≡ with (λ q. slice_get values q) k v p
own_at values k v p h (inl e) =
    ap (slice_get (slice_set values k v)) e ∙ set_same values k v h ∙ sym (ap (λ (b : Bool). cond b (Some v) (slice_get values p)) (eq-eqb p k e))
own_at values k v p h (inr n) = set_other values k p v n ∙ sym (ap (λ (b : Bool). cond b (Some v) (slice_get values p)) (ne_eqb p k n))

-- an assignment to a view of these values
set_plain : (values : List ℕ) (k v : ℕ) → k < length values → plain (slice_set values k v) ≡ assigned (plain values) k v
set_plain values k v h =
    let own_is : (λ p. slice_get (slice_set values k v) p) ≡ with (λ p. slice_get values p) k v = fun_ext (λ p. own_at values k v p h (cases_eq p k)) in
    ap (λ (n : ℕ). record { places = n; first = λ p. None; own = λ p. slice_get (slice_set values k v) p; behind = []; kept = [] }) (length-set values k v)
    ∙ ap (λ (own : Known). record { places = length values; first = λ p. None; own = own; behind = []; kept = [] }) own_is

pub front_set : (n : ℕ) (xs s : List ℕ) (k v : ℕ) → take n xs ≡ s → k < length s → plain (take n (slice_set xs k v)) ≡ assigned (plain s) k v
front_set n xs s k v is h =
    ap plain (set_front n xs k v ∙ ap (λ (y : List ℕ). slice_set y k v) is) ∙ set_plain s k v h
