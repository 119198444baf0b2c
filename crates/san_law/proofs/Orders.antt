-- What comes next, and how far the renewal has come.
use Rattle.std.proofs.Common.{ℕ, zero, suc, ◌+◌, ◌<◌, ◌≤◌, ◌≡◌, ◌∙◌, inl, inr, ap, sym, refl, subst, List, [], ◌∷◌, ◌++◌, length, Option, Some, None, Bool, true, false, arith, append_assoc, nat_lt, slice_index_or, cond}
use Rattle.std.proofs.lemmas.Bool.{cases_lt}
use Rattle.san_base.specs.declared.ending.Trap.{Trap}
use Rattle.san_law.specs.Net.{Faulty, Fresh, Local, Net, Rated, Row, no_row}
use Rattle.san_law.specs.State.{State, gather, row_of, slots_of}
use Rattle.san_law.specs.Next.{Completes, Next, Stable, TrapsAt, found_at, last_first, next_instant, next_of, scan}
use Rattle.san_law.specs.Renewal.{AllFresh, Due, FaultAt, and_rest, least_from, renewed_at, renewed_from, renewed_then, sooner}
use Rattle.san_law.specs.Step.{Event, step}
use Rattle.san_law.specs.Trajectory.{Runs}
use Rattle.san_law.specs.Piece.{LeafState}
use Rattle.san_law.specs.Order.{Order, first_true, flag}
use Rattle.san_law.specs.Core.{Core, leaf_of, rates_of}
use Rattle.san_law.specs.Lawful.{IsLawful}
use Rattle.san_law.specs.Standing.{Each, IsFresh, ServesRenewal, Upto, Waits, nothing_in, upto, upto_going, upto_stale, upto_unsettled}
use Rattle.san_law.proofs.Flags.{first_is, none_is}
use Rattle.san_law.proofs.Blocks.{IsReady}

pub runs_append : (net : Net) (s t u : State) (xs ys : List Event) → Runs net s xs t → Runs net t ys u → Runs net s (xs ++ ys) u
runs_append net s t u [] ys a b = subst (λ v. Runs net v ys u) (sym a) b
runs_append net s t u (x ∷ xs) ys a b = (a.0, runs_append net (step net s).1 t u xs ys a.1 b)

pub runs_later : (net : Net) (s t u : State) (past xs ys : List Event) → Runs net s (past ++ xs) t → Runs net t ys u → Runs net s (past ++ (xs ++ ys)) u
runs_later net s t u past xs ys a b = subst (λ (es : List Event). Runs net s es u) (append_assoc past xs ys) (runs_append net s t u (past ++ xs) ys a b)

-- leaves that have nothing are passed over
scan_to : (net : Net) (s : State) (n a j : ℕ) (w : Next) → a ≤ j → j < a + n → ((i : ℕ) → a ≤ i → i < j → nothing_in net s i) → ((rest : Next) → found_at j (next_of net s j) rest ≡ w) → scan net s a n ≡ w
scan_to net s zero a j w h k below at = absurd (omega (arith, h, k))
scan_to net s (suc n) a j w h k below at = elim (cases_lt a j) [
  | inl l ↦ ap (λ f. found_at a f (scan net s (suc a) n)) (below a (omega arith) l) ∙ scan_to net s n (suc a) j w l (omega (arith, k)) (λ i x y. below i (omega (arith, x)) y) at
  | inr g ↦ let e : a ≡ j = omega (arith, h, g) in ap (λ i. found_at i (next_of net s i) (scan net s (suc a) n)) e ∙ at (scan net s (suc a) n)
]

scan_none : (net : Net) (s : State) (n a : ℕ) → ((i : ℕ) → i < a + n → nothing_in net s i) → scan net s a n ≡ Stable
scan_none net s zero a h = refl
scan_none net s (suc n) a h = ap (λ f. found_at a f (scan net s (suc a) n)) (h a (omega arith)) ∙ scan_none net s n (suc a) (λ i k. h i (omega (arith, k)))

last_passed : (net : Net) (s : State) (o : Option ℕ) (w : Next) → ((i : ℕ) → o ≡ Some i → nothing_in net s i) → last_first net s o w ≡ w
last_passed net s None w h = refl
last_passed net s (Some i) w h = ap (λ f. found_at i f w) (h i refl)

-- the least unsettled leaf is ready
pub ready_least : (net : Net) (s : State) (j : ℕ) → j < length net.parts → ((i : ℕ) → i < j → nothing_in net s i) → ((i : ℕ) → s.last ≡ Some i → nothing_in net s i) → IsReady net s j
unfolding next_instant
ready_least net s j h below last = record {
  enabled = λ k e. last_passed net s s.last (scan net s 0 (length net.parts)) last ∙ scan_to net s (length net.parts) 0 j (Completes j k) (omega arith) (omega (arith, h)) (λ i x y. below i y) (λ rest. ap (λ f. found_at j f rest) e);
  broken = λ k trap e. last_passed net s s.last (scan net s 0 (length net.parts)) last ∙ scan_to net s (length net.parts) 0 j (TrapsAt j k trap) (omega arith) (omega (arith, h)) (λ i x y. below i y) (λ rest. ap (λ f. found_at j f rest) e);
}

-- where all leaves are settled nothing is next
pub nowhere : (net : Net) (s : State) → ((i : ℕ) → i < length net.parts → nothing_in net s i) → ((i : ℕ) → s.last ≡ Some i → nothing_in net s i) → next_instant net s ≡ Stable
unfolding next_instant
nowhere net s all last = last_passed net s s.last (scan net s 0 (length net.parts)) last ∙ scan_none net s (length net.parts) 0 (λ i h. all i (omega (arith, h)))

-- all rows renewed, leaf by leaf
renewed_all_from : (net : Net) (s : State) (a : ℕ) (rs qs : List Row) → length rs ≡ length qs → ((i : ℕ) → i < length rs → renewed_at net s (a + i) (slice_index_or rs i no_row) ≡ Fresh (slice_index_or qs i no_row)) → renewed_from net s a rs ≡ AllFresh qs
renewed_all_from net s a [] [] e h = refl
renewed_all_from net s a [] (q ∷ qs) e h = absurd (omega (arith, e))
renewed_all_from net s a (r ∷ rs) [] e h = absurd (omega (arith, e))
renewed_all_from net s a (r ∷ rs) (q ∷ qs) e h =
    let here : renewed_at net s a r ≡ Fresh q = let z : a ≡ a + 0 = omega arith in ap (λ n. renewed_at net s n r) z ∙ h 0 (omega arith) in
    ap (λ x. renewed_then a x (renewed_from net s (suc a) rs)) here
    ∙ ap (λ x. and_rest q x) (renewed_all_from net s (suc a) rs qs (omega (arith, e)) (λ i l. let z : suc a + i ≡ a + suc i = omega arith in ap (λ n. renewed_at net s n (slice_index_or rs i no_row)) z ∙ h (suc i) (omega (arith, l))))

pub renewed_all : (net : Net) (s : State) (rs qs : List Row) → length rs ≡ length qs → ((i : ℕ) → i < length rs → renewed_at net s i (slice_index_or rs i no_row) ≡ Fresh (slice_index_or qs i no_row)) → renewed_from net s 0 rs ≡ AllFresh qs
renewed_all net s rs qs e h = renewed_all_from net s 0 rs qs e (λ i l. let z : 0 + i ≡ i = omega arith in ap (λ n. renewed_at net s n (slice_index_or rs i no_row)) z ∙ h i l)

-- the first leaf that traps
fault_from : (net : Net) (s : State) (a d k : ℕ) (rs : List Row) (f : ℕ → Row) (trap : Trap) → d < length rs → ((i : ℕ) → i < d → renewed_at net s (a + i) (slice_index_or rs i no_row) ≡ Fresh (f i)) → renewed_at net s (a + d) (slice_index_or rs d no_row) ≡ Faulty k trap → renewed_from net s a rs ≡ FaultAt (a + d) k trap
fault_from net s a d k [] f trap h below at = absurd (omega (arith, h))
fault_from net s a zero k (r ∷ rs) f trap h below at =
    let z : a ≡ a + 0 = omega arith in
    ap (λ x. renewed_then a x (renewed_from net s (suc a) rs)) (ap (λ n. renewed_at net s n r) z ∙ at) ∙ ap (λ n. FaultAt n k trap) z
fault_from net s a (suc d) k (r ∷ rs) f trap h below at =
    let z : a ≡ a + 0 = omega arith in
    let y : suc a + d ≡ a + suc d = omega arith in
    ap (λ x. renewed_then a x (renewed_from net s (suc a) rs)) (ap (λ n. renewed_at net s n r) z ∙ below 0 (omega arith))
    ∙ (ap (λ x. and_rest (f 0) x) (fault_from net s (suc a) d k rs (λ i. f (suc i)) trap (omega (arith, h)) (λ i l. let w : suc a + i ≡ a + suc i = omega arith in ap (λ n. renewed_at net s n (slice_index_or rs i no_row)) w ∙ below (suc i) (omega (arith, l))) (ap (λ n. renewed_at net s n (slice_index_or rs d no_row)) y ∙ at))
    ∙ ap (λ n. FaultAt n k trap) y)

pub fault_at : (net : Net) (s : State) (j k : ℕ) (rs : List Row) (f : ℕ → Row) (trap : Trap) → j < length rs → ((i : ℕ) → i < j → renewed_at net s i (slice_index_or rs i no_row) ≡ Fresh (f i)) → renewed_at net s j (slice_index_or rs j no_row) ≡ Faulty k trap → renewed_from net s 0 rs ≡ FaultAt j k trap
fault_at net s j k rs f trap h below at =
    let z : 0 + j ≡ j = omega arith in
    fault_from net s 0 j k rs f trap h (λ i l. let y : 0 + i ≡ i = omega arith in ap (λ n. renewed_at net s n (slice_index_or rs i no_row)) y ∙ below i l) (ap (λ n. renewed_at net s n (slice_index_or rs j no_row)) z ∙ at) ∙ ap (λ n. FaultAt n k trap) z

-- a leaf that waits and isn't stale has the renewed row
served_kept : (net : Net) → IsLawful net → (j t : ℕ) (v : List ℕ) (l : Local) (b : Bool) → net.paired j ≡ b → net.renewed j t (cond b v []) l ≡ net.renewed j t v l
served_kept net law j t v l true e = refl
served_kept net law j t v l false e = law.unpaired j t [] v l e

pub served : (net : Net) → IsLawful net → (j t : ℕ) (seen v : List ℕ) (l : Local) → ServesRenewal net j seen v l.row → net.renewed j t seen l ≡ net.renewed j t v l
served net law j t seen v l (inl e) = ap (λ a. net.renewed j t a l) e ∙ served_kept net law j t v l (net.paired j) refl
served net law j t seen v l (inr f) = law.bare j t seen v l f.1

pub renewed_is : (net : Net) → IsLawful net → (s : State) (j : ℕ) (l : LeafState) (ws : List Rated) → Waits net s j l → IsFresh net s j l ws → renewed_at net s j (row_of s j) ≡ Fresh l.row
renewed_is net law s j l ws w f =
    let v = gather (slots_of net j) s.marking in
    let here : Local = record { values = v; row = l.row } in
    ap (renewed_at net s j) (sym w.row)
    ∙ (sym (served net law j s.time l.seen (gather (slots_of net j) s.stable) here w.seen)
    ∙ (served net law j s.time l.seen v here (inl f.seen)
    ∙ f.quiet s.time))

-- the renewal passes over leaves that aren't stale
pub skip : (net : Net) → IsLawful net → (c : Core) (s : State) (m n : ℕ) → Each net (λ i. flag c.order.stale i ≡ false → IsFresh net s i (leaf_of c i) (rates_of c i)) → Upto net c s m → m ≤ n → ((i : ℕ) → i < length net.parts → i < n → flag c.order.stale i ≡ false) → Upto net c s n
skip net law c s m n fresh u mn quiet = record {
  renewed = λ i h l. elim (cases_lt i m) [ inl x ↦ u.renewed i h x | inr y ↦ renewed_is net law s i (leaf_of c i) (rates_of c i) (u.waits i h y) (fresh i h (quiet i h l)) ];
  waits = λ i h l. u.waits i h (omega (arith, mn, l));
}

below_stale : (net : Net) (o : Order) (x : Option ℕ) → first_true 0 o.stale ≡ x → (i : ℕ) → i < upto_stale net x → flag o.stale i ≡ false
below_stale net o None e i h = none_is o.stale e i
below_stale net o (Some j) e i h = (first_is o.stale j e).below i h

below_unsettled : (net : Net) (o : Order) (x : Option ℕ) (i : ℕ) → i < upto_unsettled net o x → flag o.stale i ≡ false
below_unsettled net o (Some j) i h = absurd (omega (arith, h))
below_unsettled net o None i h = below_stale net o (first_true 0 o.stale) refl i h

below_going : (net : Net) (o : Order) (x : Option ℕ) (i : ℕ) → i < upto_going net o x → flag o.stale i ≡ false
below_going net o (Some j) i h = absurd (omega (arith, h))
below_going net o None i h = below_unsettled net o (first_true 0 o.unsettled) i h

pub below_upto : (net : Net) (o : Order) (i : ℕ) → i < upto net o → flag o.stale i ≡ false
below_upto net o i h = below_going net o o.going i h

-- the least timer is one of the leaves'
pub record IsDue (a : ℕ) (ds : List (Option (ℕ × ℕ))) (d : Due) (i : ℕ) : Type 0 where
  pub leaf : d.leaf ≡ a + i
  pub within : i < length ds

due_later : (a : ℕ) (x : Option (ℕ × ℕ)) (ds : List (Option (ℕ × ℕ))) (d : Due) → ((i : ℕ) × IsDue (suc a) ds d i) → (i : ℕ) × IsDue a (x ∷ ds) d i
due_later a x ds d (i, h) = (suc i, record { leaf = omega (arith, h.leaf); within = omega (arith, h.within) })

due_here : (a : ℕ) (x y : ℕ) (o : Option (ℕ × ℕ)) (ds : List (Option (ℕ × ℕ))) (d : Due) → Some (record { time = x; leaf = a; act = y }) ≡ Some d → (i : ℕ) × IsDue a (o ∷ ds) d i
due_here a x y o ds d e = let k : a ≡ d.leaf = cc in (0, record { leaf = omega (arith, k); within = omega arith })

due_by : (a : ℕ) (x : ℕ × ℕ) (o : Option (ℕ × ℕ)) (ds : List (Option (ℕ × ℕ))) (d : Due) (rest : Option Due) → (rest ≡ Some d → (i : ℕ) × IsDue (suc a) ds d i) → sooner (record { time = x.0; leaf = a; act = x.1 }) rest ≡ Some d → (i : ℕ) × IsDue a (o ∷ ds) d i
due_by a x o ds d None go e = due_here a x.0 x.1 o ds d e
due_by a x o ds d (Some r) go e = by_test (nat_lt r.time x.0) e
  where
    by_test : (b : Bool) → cond b (Some r) (Some (record { time = x.0; leaf = a; act = x.1 })) ≡ Some d → (i : ℕ) × IsDue a (o ∷ ds) d i
    by_test true e = due_later a o ds d (go e)
    by_test false e = due_here a x.0 x.1 o ds d e

due_from : (a : ℕ) (ds : List (Option (ℕ × ℕ))) (d : Due) → least_from a ds ≡ Some d → (i : ℕ) × IsDue a ds d i
due_from a [] d e = cc
due_from a (None ∷ ds) d e = due_later a None ds d (due_from (suc a) ds d e)
due_from a (Some x ∷ ds) d e = due_by a x (Some x) ds d (least_from (suc a) ds) (λ f. due_from (suc a) ds d f) e

pub due_within : (ds : List (Option (ℕ × ℕ))) (d : Due) → least_from 0 ds ≡ Some d → d.leaf < length ds
due_within ds d e = from_it (due_from 0 ds d e)
  where
    from_it : ((i : ℕ) × IsDue 0 ds d i) → d.leaf < length ds
    from_it (i, h) = omega (arith, h.leaf, h.within)
