-- The law's own committed part is as the book asks.
use Rattle.std.proofs.Common.{ℕ, zero, suc, ◌+◌, ◌<◌, ◌≡◌, ◌≢◌, ◌∙◌, ◌&&◌, ap, sym, refl, subst, List, [], ◌∷◌, ◌++◌, length, map, Option, Some, None, Bool, true, false, nat_eq, arith}
use Rattle.std.specs.Prelude.{All, Result, Ok, Err, slice_get, slice_index}
use Rattle.std.proofs.lemmas.Bool.{eq-eqb, eqb-true, true≢false}
use Rattle.std.proofs.lemmas.List.{append-nil, length-set}
use Rattle.san_base.proofs.Bools.{and_true, both_true}
use Rattle.san_base.proofs.NumberTests.{same_number, number_itself, number_turned}
use Rattle.san_base.specs.declared.ending.Trap.{Trap}
use Rattle.san_base.specs.declared.piece.Kind as named
use Rattle.san_log.specs.Logs.{Entry}
use Rattle.san_law.specs.Net.{Done, Faulty, Fresh, Net, Private, Renewing, Row, Shared, Slot, Timer}
use Rattle.san_law.specs.State.{index_of, or_next, part_of, place_of, slots_of}
use Rattle.san_law.specs.Step.{Ending, Event}
use Rattle.san_law.specs.Admitted.{Admitted, admitted, admitted_fire}
use Rattle.san_law.specs.Block.{before, settle}
use Rattle.san_law.specs.Piece.{Fire, Kind, LeafState, Outcome, Refresh, Settle, dropped, fired_outcome, piece_of, renewed_outcome, sees, leaf_view, with_write, writes_from}
use Rattle.san_law.specs.Core as law
use Rattle.san_law.specs.Lawful.{AllApart, AreDistinct, IsLaid}
use Rattle.san_law.proofs.Frames.{others_stay, own_is_the_pieces, unwritten_stay}
use Rattle.san_law.proofs.Places.{length_put, or_next_none}
use Rattle.san_book.specs.Lines.{AreWrites, agrees, is_value, write_of}
use Rattle.san_book.specs.Plans.{when}
use Rattle.san_book.specs.Whole.{IsAsAsked}
use Rattle.san_book.specs.Nets.{Ahead, NetIsLawful, ahead, is_logged, is_there, logged, of_outcome, places_in, same_bool, same_list, same_row, same_state, same_timer, shared_in, values_from}
use Rattle.san_book.proofs.Each.{either}
use Rattle.san_book.proofs.Noting.{value_is}

-- states that are the same are equal
bool_is : (a b : Bool) → same_bool a b ≡ true → a ≡ b
bool_is true b h = sym h
bool_is false true h = h
bool_is false false h = refl

pub list_is : {X : Type 0} (test : X → X → Bool) → ((x y : X) → test x y ≡ true → x ≡ y) → (xs ys : List X) → same_list test xs ys ≡ true → xs ≡ ys
list_is test f [] [] h = refl
list_is test f [] (y ∷ ys) h = absurd (true≢false (sym h))
list_is test f (x ∷ xs) [] h = absurd (true≢false (sym h))
list_is {X} test f (x ∷ xs) (y ∷ ys) h = let b = both_true (test x y) (same_list test xs ys) h in
    ap (λ z. z ∷ xs) (f x y b.0) ∙ ap (λ (zs : List X). y ∷ zs) (list_is test f xs ys b.1)

timer_is : (a b : Option Timer) → same_timer a b ≡ true → a ≡ b
timer_is None None h = refl
timer_is None (Some b) h = absurd (true≢false (sym h))
timer_is (Some a) None h = absurd (true≢false (sym h))
timer_is (Some a) (Some b) h = let t = both_true (nat_eq a.due b.due) (same_bool a.held b.held) h in
    ap (λ (n : ℕ). Some (record { due = n; held = a.held })) (eqb-true a.due b.due t.0) ∙ ap (λ (n : Bool). Some (record { due = b.due; held = n })) (bool_is a.held b.held t.1)

row_is : (a b : Row) → same_row a b ≡ true → a ≡ b
row_is a b h =
    let t = both_true (same_list same_timer a.timers b.timers) (same_list nat_eq a.delays b.delays && same_list nat_eq a.cases b.cases) h in
    let u = both_true (same_list nat_eq a.delays b.delays) (same_list nat_eq a.cases b.cases) t.1 in
    ap (λ (x : List (Option Timer)). record { timers = x; delays = a.delays; cases = a.cases }) (list_is same_timer timer_is a.timers b.timers t.0)
    ∙ (ap (λ (x : List ℕ). record { timers = b.timers; delays = x; cases = a.cases }) (list_is nat_eq same_number a.delays b.delays u.0)
    ∙ ap (λ (x : List ℕ). record { timers = b.timers; delays = b.delays; cases = x }) (list_is nat_eq same_number a.cases b.cases u.1))

pub state_is : (a b : LeafState) → same_state a b ≡ true → a ≡ b
state_is a b h =
    let t = both_true (same_list nat_eq a.values b.values) (same_row a.row b.row && same_list nat_eq a.seen b.seen) h in
    let u = both_true (same_row a.row b.row) (same_list nat_eq a.seen b.seen) t.1 in
    ap (λ (x : List ℕ). record { values = x; row = a.row; seen = a.seen }) (list_is nat_eq same_number a.values b.values t.0)
    ∙ (ap (λ (x : Row). record { values = b.values; row = x; seen = a.seen }) (row_is a.row b.row u.0)
    ∙ ap (λ (x : List ℕ). record { values = b.values; row = b.row; seen = x }) (list_is nat_eq same_number a.seen b.seen u.1))

-- and each is the same as itself
bool_itself : (b : Bool) → same_bool b b ≡ true
bool_itself true = refl
bool_itself false = refl

pub list_itself : {X : Type 0} (test : X → X → Bool) → ((x : X) → test x x ≡ true) → (xs : List X) → same_list test xs xs ≡ true
list_itself test f [] = refl
list_itself test f (x ∷ xs) = and_true (test x x) (same_list test xs xs) (f x) (list_itself test f xs)

timer_itself : (a : Option Timer) → same_timer a a ≡ true
timer_itself None = refl
timer_itself (Some a) = and_true (nat_eq a.due a.due) (same_bool a.held a.held) (number_itself a.due) (bool_itself a.held)

row_itself : (a : Row) → same_row a a ≡ true
row_itself a = and_true (same_list same_timer a.timers a.timers) (same_list nat_eq a.delays a.delays && same_list nat_eq a.cases a.cases) (list_itself same_timer timer_itself a.timers)
    (and_true (same_list nat_eq a.delays a.delays) (same_list nat_eq a.cases a.cases) (list_itself nat_eq number_itself a.delays) (list_itself nat_eq number_itself a.cases))

pub state_itself : (a : LeafState) → same_state a a ≡ true
state_itself a = and_true (same_list nat_eq a.values a.values) (same_row a.row a.row && same_list nat_eq a.seen a.seen) (list_itself nat_eq number_itself a.values)
    (and_true (same_row a.row a.row) (same_list nat_eq a.seen a.seen) (row_itself a.row) (list_itself nat_eq number_itself a.seen))

write_out : (q : ℕ) (sets : ℕ → Bool) (p : ℕ) (ss : List Slot) (vs : List ℕ) → index_of q (map place_of ss) ≡ None → write_of q (writes_from sets p ss vs) ≡ None
write_out q sets p [] vs h = refl
write_out q sets p (s ∷ ss) [] h = refl
write_out q sets p (Private r ∷ ss) (v ∷ vs) h = write_out q sets (suc p) ss vs (or_next_none (nat_eq q r) (index_of q (map place_of ss)) h).1
write_out q sets p (Shared r ∷ ss) (v ∷ vs) h =
    let n = or_next_none (nat_eq q r) (index_of q (map place_of ss)) h in
    by_set (sets p) (write_out q sets (suc p) ss vs n.1) n.0
  where
    by_set : (b : Bool) → write_of q (writes_from sets (suc p) ss vs) ≡ None → nat_eq q r ≡ false → write_of q (with_write b (r, v) (writes_from sets (suc p) ss vs)) ≡ None
    by_set true e d = ap (λ t. either t (Some v) (write_of q (writes_from sets (suc p) ss vs))) (number_turned q r d) ∙ e
    by_set false e d = e

fits_from : (n : ℕ) (others : ℕ → Type 0) (sets : ℕ → Bool) (p : ℕ) (ss : List Slot) (vs : List ℕ) → AllApart n others ss → AreDistinct (map place_of ss) → AreWrites n (writes_from sets p ss vs)
fits_from n others sets p [] vs a d = tt
fits_from n others sets p (s ∷ ss) [] a d = tt
fits_from n others sets p (Private r ∷ ss) (v ∷ vs) a d = fits_from n others sets (suc p) ss vs a.2 d.1
fits_from n others sets p (Shared r ∷ ss) (v ∷ vs) a d = by_set (sets p) (fits_from n others sets (suc p) ss vs a.1 d.1)
  where
    by_set : (b : Bool) → AreWrites n (writes_from sets (suc p) ss vs) → AreWrites n (with_write b (r, v) (writes_from sets (suc p) ss vs))
    by_set true w = (a.0, write_out r sets (suc p) ss vs d.0, w)
    by_set false w = w

module _ (net : Net) (places : ℕ) (laid : IsLaid net places) where
  part_fits : (j : ℕ) (sets : ℕ → Bool) (vs : List ℕ) → AreWrites net.shared (writes_from sets 0 (part_of net j) vs)
  part_fits j sets vs = fits_from net.shared (λ p. index_of p (slots_of net (suc j)) ≡ None) sets 0 (part_of net j) vs (laid.apart j (suc j) (λ e. omega (arith, e))) (laid.distinct j)

  fired_fits : (j k : ℕ) (base : LeafState) (r : Result Done Trap) → AreWrites net.shared (fired_outcome net 63 j base k r).writes
  fired_fits j k base (Err trap) = tt
  fired_fits j k base (Ok d) = part_fits j (before k d (settle net j 63 d.left)).sets (before k d (settle net j 63 d.left)).left.values

  renewed_fits : (j : ℕ) (base : LeafState) (values : List ℕ) (r : Renewing) → AreWrites net.shared (renewed_outcome net j base values r).writes
  renewed_fits j base values (Faulty k trap) = tt
  renewed_fits j base values (Fresh r) = tt

  pub piece_fits : (j : ℕ) (kind : Kind) (time : ℕ) (base : LeafState) (shared : List ℕ) → AreWrites net.shared (piece_of net j kind time base shared).writes
  piece_fits j Settle time base shared = part_fits j (settle net j 64 (sees net j base shared)).sets (settle net j 64 (sees net j base shared)).left.values
  piece_fits j (Fire k) time base shared = fired_fits j k base (net.done j k (dropped net (sees net j base shared) k))
  piece_fits j Refresh time base shared = renewed_fits j base (leaf_view (part_of net j) base.values shared) (net.renewed j time base.seen (sees net j base shared))

-- a core that a piece is taken of, in either way
abbrev Either : (law.Core → Type 0) → Net → law.Core → ℕ → (List Event → law.Core) → Type 0
Either Q net c time whole = ((burst : ℕ) (es : List Event) (e : Ending) → Q (law.stopped net c time burst es e)) × ((es : List Event) → Q (whole es))

admitted_by : (Q : law.Core → Type 0) (net : Net) (c : law.Core) (time : ℕ) (kind : Kind) (t : Admitted) (whole : List Event → law.Core) → Either Q net c time whole → Q (law.take_admitted net c time kind t whole)
admitted_by Q net c time kind (es, Some e) whole f = f.0 (law.burst_after kind c.burst (length es)) es e
admitted_by Q net c time kind (es, None) whole f = f.1 es

taken_by : (Q : law.Core → Type 0) (net : Net) (c : law.Core) (j : ℕ) (kind : Kind) (time : ℕ) (o : Outcome) → ((burst : ℕ) (es : List Event) (e : Ending) → Q (law.stopped net c time burst es e)) →
    ((burst count : ℕ) (es : List Event) → Q (law.with_block net c time burst count j es o)) → Q (law.with_renewal net c time j o) → Q (law.taken net c j kind time o)
taken_by Q net c j Settle time o s b r = admitted_by Q net c time Settle (admitted net time j c.burst c.count o.fault o.completions) (λ es. law.with_block net c time (law.burst_after Settle c.burst (length o.completions)) (c.count + length o.completions) j es o) (s, λ es. b (law.burst_after Settle c.burst (length o.completions)) (c.count + length o.completions) es)
taken_by Q net c j (Fire k) time o s b r = admitted_by Q net c time (Fire k) (admitted_fire net time j c.count o.fault o.completions) (λ es. law.with_block net c time (law.burst_after (Fire k) c.burst (length o.completions)) (c.count + length o.completions) j es o) (s, λ es. b (law.burst_after (Fire k) c.burst (length o.completions)) (c.count + length o.completions) es)
taken_by Q net c j Refresh time o s b r = admitted_by Q net c time Refresh (admitted net time j c.burst c.count o.fault o.completions) (λ es. law.with_renewal net c time j o) (s, λ es. r)

pub shared_long : (net : Net) (c : law.Core) (j : ℕ) (kind : Kind) (time : ℕ) (o : Outcome) → length (law.taken net c j kind time o).shared ≡ length c.shared
shared_long net c j kind time o = taken_by (λ d. length d.shared ≡ length c.shared) net c j kind time o (λ burst es e. refl) (λ burst count es. length_put o.writes c.shared) refl

pub leaves_long : (net : Net) (c : law.Core) (j : ℕ) (kind : Kind) (time : ℕ) (o : Outcome) → length (law.taken net c j kind time o).leaves ≡ length c.leaves
leaves_long net c j kind time o = taken_by (λ d. length d.leaves ≡ length c.leaves) net c j kind time o (λ burst es e. refl) (λ burst count es. length-set c.leaves j o.state) (length-set c.leaves j o.state)

pub events_more : (net : Net) (c : law.Core) (j : ℕ) (kind : Kind) (time : ℕ) (o : Outcome) → (es : List Event) × ((law.taken net c j kind time o).events ≡ c.events ++ es)
events_more net c j kind time o = taken_by (λ d. (es : List Event) × (d.events ≡ c.events ++ es)) net c j kind time o (λ burst es e. (es, refl)) (λ burst count es. (es, refl)) ([], sym (append-nil c.events))

pub not_stopped : (o : Option Ending) → is_there o ≡ false → o ≡ None
not_stopped None h = refl
not_stopped (Some e) h = absurd (true≢false h)

pub unwritten : (q : ℕ) (ws : List (ℕ × ℕ)) → write_of q ws ≡ None → All (λ w. w.0 ≢ q) ws
unwritten q [] h k d l = absurd (omega (arith, l))
unwritten q (w ∷ ws) h zero d l = λ e. some_none (sym (ap (λ t. either t (Some w.1) (write_of q ws)) (eq-eqb w.0 q e)) ∙ h)
  where
    some_none : Some w.1 ≡ None → ⊥
    some_none e = cc
unwritten q (w ∷ ws) h (suc k) d l = unwritten q ws (rest (nat_eq w.0 q) h) k d (omega (arith, l))
  where
    rest : (b : Bool) → either b (Some w.1) (write_of q ws) ≡ None → write_of q ws ≡ None
    rest true e = absurd (cc)
    rest false e = e

-- logs
entry_is : (e : Entry) (q v : ℕ) → e.0.0 ≡ q → e.1 ≡ v → e ≡ (record { 0 = q }, v)
entry_is e q v a b = ap (λ (n : ℕ). (record { 0 = n }, e.1)) a ∙ ap (λ (n : ℕ). (record { 0 = q }, n)) b

pub value_of : (shared : List ℕ) (q v : ℕ) → slice_get shared q ≡ Some v → v ≡ slice_index shared q
value_of [] q v h = absurd (cc)
value_of (x ∷ xs) zero v h = cc
value_of (x ∷ xs) (suc q) v h = value_of xs q v h

log_is : (qs : List ℕ) (log : List Entry) (shared : List ℕ) → is_logged qs log ≡ true → agrees (slice_get shared) log ≡ true → log ≡ logged qs shared
log_is [] [] shared h a = refl
log_is [] (e ∷ es) shared h a = absurd (true≢false (sym h))
log_is (q ∷ qs) [] shared h a = absurd (true≢false (sym h))
log_is (q ∷ qs) (e ∷ es) shared h a =
    let b = both_true (nat_eq e.0.0 q) (is_logged qs es) h in
    let k = both_true (is_value e.1 (slice_get shared e.0.0)) (agrees (slice_get shared) es) a in
    let place : e.0.0 ≡ q = same_number e.0.0 q b.0 in
    let v : e.1 ≡ slice_index shared q = value_of shared q e.1 (subst (λ (n : ℕ). slice_get shared n ≡ Some e.1) place (value_is e.1 (slice_get shared e.0.0) k.0)) in
    ap (λ (x : Entry). x ∷ es) (entry_is e q (slice_index shared q) place v) ∙ ap (λ (xs : List Entry). (record { 0 = q }, slice_index shared q) ∷ xs) (log_is qs es shared b.1 k.1)

logged_is : (qs : List ℕ) (shared : List ℕ) → is_logged qs (logged qs shared) ≡ true
logged_is [] shared = refl
logged_is (q ∷ qs) shared = ap (λ b. b && is_logged qs (logged qs shared)) (number_itself q) ∙ logged_is qs shared

pub there : (shared : List ℕ) (q : ℕ) → q < length shared → is_value (slice_index shared q) (slice_get shared q) ≡ true
there [] q h = absurd (omega (arith, h))
there (x ∷ xs) zero h = number_itself x
there (x ∷ xs) (suc q) h = there xs q (omega (arith, h))

logged_agrees : (n : ℕ) (others : ℕ → Type 0) (ss : List Slot) (shared : List ℕ) → length shared ≡ n → AllApart n others ss → agrees (slice_get shared) (logged (shared_in ss) shared) ≡ true
logged_agrees n others [] shared h a = refl
logged_agrees n others (Private p ∷ ss) shared h a = logged_agrees n others ss shared h a.2
logged_agrees n others (Shared q ∷ ss) shared h a = let l = a.0 in
    ap (λ b. b && agrees (slice_get shared) (logged (shared_in ss) shared)) (there shared q (omega (arith, h, l))) ∙ logged_agrees n others ss shared h a.1

-- what is made where a test holds
made_is : (b : Bool) (x p : Ahead) → when b (Some x) ≡ Some p → (b ≡ true) × (x ≡ p)
made_is true x p e = (refl, cc)
made_is false x p e = absurd (cc)

pub net_is_lawful : (net : Net) (kinds : ℕ → named.Kind → Option Kind) → NetIsLawful net kinds
net_is_lawful net kinds places laid = record {
  sizes = λ c j p. shared_long net c j p.kind p.time p.outcome;
  leaves = λ c j p. leaves_long net c j p.kind p.time p.outcome;
  others = λ c j i p d. others_stay net c j i p.kind p.time p.outcome d;
  frame = λ c j p q e. unwritten_stay net c j p.kind p.time p.outcome q (unwritten q p.outcome.writes e);
  own = λ c j p l s. own_is_the_pieces net c j p.kind p.time p.outcome l (not_stopped (law.taken net c j p.kind p.time p.outcome).stop s);
  grows = λ c j p. events_more net c j p.kind p.time p.outcome;
  made = λ j base kind time log p e. let i = made_is (is_logged (places_in net j) log) (ahead net j base kind time log) p e in
      subst (λ (x : Ahead). IsAsAsked of_outcome net.shared base kind time log x) i.1
      (record { based = refl; kinded = refl; timed = refl; logged = refl; fits = piece_fits net places laid j kind time base (values_from 0 net.shared log) });
  needed = λ c values j kind time. (
    ap (λ b. when b (Some (ahead net j (law.leaf_of c j) kind time (logged (places_in net j) c.shared)))) (logged_is (places_in net j) c.shared),
    logged_agrees net.shared (λ p. index_of p (slots_of net (suc j)) ≡ None) (part_of net j) c.shared values (laid.apart j (suc j) (λ e. omega (arith, e))),
  );
  sound = λ c j kind time log p e a.
      let i = made_is (is_logged (places_in net j) log) (ahead net j (law.leaf_of c j) kind time log) p e in
      ap (λ (x : Ahead). law.taken net c j x.kind x.time x.outcome)
      (sym i.1 ∙ ap (λ (es : List Entry). ahead net j (law.leaf_of c j) kind time es) (log_is (places_in net j) log c.shared i.0 a));
  same = λ a b. (state_is a b, λ e. subst (λ (x : LeafState). same_state a x ≡ true) e (state_itself a));
}
