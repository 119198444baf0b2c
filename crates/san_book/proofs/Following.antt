-- What is committed of the law's own part follows the run, whatever is done to the core.
use Rattle.san_base.proofs.NumberTests.{same_number}
use Rattle.std.proofs.Common.{ℕ, zero, suc, ◌+◌, ◌<◌, ◌≡◌, ◌⊎◌, ◌∙◌, inl, inr, ap, sym, refl, subst, List, [], ◌∷◌, Option, Some, None, nat_eq, arith}
use Rattle.std.specs.Prelude.{if◌then◌else◌, slice_index}
use Rattle.std.proofs.lemmas.Bool.{eq-eqb, true≢false}
use Rattle.san_base.specs.declared.piece.Kind as named
use Rattle.san_line.proofs.Ordered.{by_bool}
use Rattle.san_log.specs.Logs.{Entry, find, found_by}
use Rattle.san_law.specs.Net.{Net, Private, Shared, Slot}
use Rattle.san_law.specs.State.{index_of, opening_state, part_of, slots_of}
use Rattle.san_law.specs.Step.{Ending}
use Rattle.san_law.specs.Piece.{Kind, piece_of, leaf_view}
use Rattle.san_law.specs.Order.{Finished, Need, Needs, need_of}
use Rattle.san_law.specs.Core as law
use Rattle.san_law.specs.Lawful as lawful
use Rattle.san_law.specs.Standing.{Follows}
use Rattle.san_law.proofs.Ahead.{same_view}
use Rattle.san_law.proofs.Standing.{pieces_keep}
use Rattle.san_book.specs.Machines.{advance, after_pieces, take_need}
use Rattle.san_book.specs.Nets.{EveryRunFollows, is_there, logged, machine_of, or_zero, places_in, shared_in, values_from}
use Rattle.san_book.proofs.Replaying.{every_run}
use Rattle.san_book.proofs.Subject.{net_is_lawful}

-- a shared place of a leaf
abbrev pub IsShared : ℕ → List Slot → Type 0
IsShared q [] = ⊥
IsShared q (Private p ∷ ss) = IsShared q ss
IsShared q (Shared r ∷ ss) = (q ≡ r) ⊎ IsShared q ss

-- the values that a log tells
pub value_from : (a n i : ℕ) (es : List Entry) → i < n → slice_index (values_from a n es) i ≡ or_zero (find (a + i) es)
value_from a zero i es h = absurd (omega (arith, h))
value_from a (suc n) zero es h = ap (λ (q : ℕ). or_zero (find q es)) (zero_more a)
  where
    zero_more : (a : ℕ) → a ≡ a + 0
    zero_more a = omega arith
value_from a (suc n) (suc i) es h = value_from (suc a) n i es (omega (arith, h)) ∙ ap (λ (q : ℕ). or_zero (find q es)) (next a i)
  where
    next : (a i : ℕ) → suc a + i ≡ a + suc i
    next a i = omega arith

find_logged : (ss : List Slot) (shared : List ℕ) (q : ℕ) → IsShared q ss → find q (logged (shared_in ss) shared) ≡ Some (slice_index shared q)
find_logged [] shared q h = absurd h
find_logged (Private p ∷ ss) shared q h = find_logged ss shared q h
find_logged (Shared r ∷ ss) shared q h = by_bool (λ b. nat_eq r q ≡ b → found_by b (slice_index shared r) (find q (logged (shared_in ss) shared)) ≡ Some (slice_index shared q)) (nat_eq r q)
    (λ _ e. ap (λ (n : ℕ). Some (slice_index shared n)) (same_number r q e))
    (λ _ e. elim h [ inl k ↦ absurd (true≢false (sym (eq-eqb r q (sym k)) ∙ e)) | inr k ↦ find_logged ss shared q k ])
    refl

-- a leaf sees the same in two lists with the same values at its shared places
view_by : (ss : List Slot) (values a b : List ℕ) → ((q : ℕ) → IsShared q ss → slice_index a q ≡ slice_index b q) → leaf_view ss values a ≡ leaf_view ss values b
view_by [] values a b f = refl
view_by (Shared q ∷ ss) values a b f = ap (λ (v : ℕ). v ∷ leaf_view ss values a) (f q (inl refl)) ∙ ap (λ (vs : List ℕ). slice_index b q ∷ vs) (view_by ss values a b (λ r h. f r (inr h)))
view_by (Private p ∷ ss) [] a b f = ap (λ (vs : List ℕ). 0 ∷ vs) (view_by ss [] a b f)
view_by (Private p ∷ ss) (v ∷ values) a b f = ap (λ (vs : List ℕ). v ∷ vs) (view_by ss values a b f)

pub shared_below : (n : ℕ) (others : ℕ → Type 0) (ss : List Slot) (q : ℕ) → lawful.AllApart n others ss → IsShared q ss → q < n
shared_below n others [] q a h = absurd h
shared_below n others (Private p ∷ ss) q a h = shared_below n others ss q a.2 h
shared_below n others (Shared r ∷ ss) q a (inl e) = let l = a.0 in omega (arith, l, e)
shared_below n others (Shared r ∷ ss) q a (inr k) = shared_below n others ss q a.1 k

module _ (net : Net) (kinds : ℕ → named.Kind → Option Kind) (places : ℕ) (laid : lawful.IsLaid net places) where
  -- the needed piece over its log is that over the committed values
  piece_is : (c : law.Core) (j : ℕ) (kind : Kind) (time : ℕ) → piece_of net j kind time (law.leaf_of c j) (values_from 0 net.shared (logged (places_in net j) c.shared)) ≡ piece_of net j kind time (law.leaf_of c j) c.shared
  piece_is c j kind time = same_view net j kind time (law.leaf_of c j) (values_from 0 net.shared (logged (places_in net j) c.shared)) c.shared
      (view_by (part_of net j) (law.leaf_of c j).values (values_from 0 net.shared (logged (places_in net j) c.shared)) c.shared (λ q h.
      value_from 0 net.shared q (logged (places_in net j) c.shared) (shared_below net.shared (λ p. index_of p (slots_of net (suc j)) ≡ None) (part_of net j) q (laid.apart j (suc j) (λ e. omega (arith, e))) h)
      ∙ (ap (λ (n : ℕ). or_zero (find n (logged (places_in net j) c.shared))) (none_more q) ∙ ap or_zero (find_logged (part_of net j) c.shared q h))))
    where
      none_more : (q : ℕ) → 0 + q ≡ q
      none_more q = omega arith

  need_is : (c : law.Core) (n : Need) → take_need (machine_of net kinds) c n ≡ law.take_need net c n
  need_is c (Needs j kind time) = ap (λ o. law.taken net c j kind time o) (piece_is c j kind time)
  need_is c Finished = refl

  advance_is : (c : law.Core) → advance (machine_of net kinds) net.horizon c ≡ law.advance_by net c c.stop
  unfolding law.advance
  advance_is c = by_stop c.stop
    where
      by_stop : (o : Option Ending) → (if is_there o then c else take_need (machine_of net kinds) c (need_of net.horizon c.order)) ≡ law.advance_by net c o
      by_stop None = need_is c (need_of net.horizon c.order)
      by_stop (Some e) = refl

  after_is : (n : ℕ) (start : law.Core) → after_pieces (machine_of net kinds) net.horizon n start ≡ law.after_pieces net n start
  unfolding law.after_pieces
  after_is zero start = refl
  after_is (suc n) start = ap (λ c. advance (machine_of net kinds) net.horizon c) (after_is n start) ∙ advance_is (law.after_pieces net n start)

pub every_run_follows : (net : Net) (kinds : ℕ → named.Kind → Option Kind) → lawful.IsLawful net → EveryRunFollows net kinds
every_run_follows net kinds law places laid limits horizon start is values workers ss c e =
    let r = every_run (machine_of net kinds) (net_is_lawful net kinds places laid) limits workers start ss c values e in
    let held : c.held ≡ after_pieces (machine_of net kinds) net.horizon c.taken start = r.0.committed ∙ ap (λ (h : ℕ). after_pieces (machine_of net kinds) h c.taken start) horizon in
    let f = is.follows in
    (f.0, subst (λ x. Follows net (opening_state net) f.0 x) (sym (held ∙ after_is net kinds places laid c.taken start)) (pieces_keep net law (opening_state net) f.0 start f.1 c.taken))
