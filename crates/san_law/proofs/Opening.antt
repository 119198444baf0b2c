-- The opening stands, and a leaf that isn't stale has nothing to refresh.
use Rattle.std.proofs.Common.{ℕ, zero, suc, ◌<◌, ◌≤◌, ◌≡◌, ◌∙◌, inl, inr, ap, sym, refl, List, [], ◌∷◌, length, map, Option, Some, None, true, false, arith, slice_index_or}
use Rattle.std.proofs.lemmas.Bool.{true≢false}
use Rattle.std.proofs.lemmas.List.{get_or-map, length-map}
use Rattle.san_law.specs.Net.{Fresh, Local, Net, Rated, Row, Slot, Span, is_bare, least_timer, least_timer_from, no_row, no_timers}
use Rattle.san_law.specs.State.{blank_rows, gather, opening_state, part_of, repeated, slots_of}
use Rattle.san_law.specs.Piece.{LeafState, Outcome, kept, no_leaf, privates, renewed_outcome}
use Rattle.san_law.specs.Order.{flag}
use Rattle.san_law.specs.Reward.{zero_sum}
use Rattle.san_law.specs.Core.{leaf_of, rates_of, leaf_view_of}
use Rattle.san_law.specs.Opening.{leaves_from, opening_core}
use Rattle.san_law.specs.Lawful.{IsLaid, IsLawful}
use Rattle.san_law.specs.Standing.{Counts, Follows, Holds, Upto}
use Rattle.san_law.specs.Laws.{FreshIsUnchanged, OpensWell, unchanged}
use Rattle.san_law.proofs.Orders.{served}
use Rattle.san_law.proofs.Settles.{local_from, leaf_view_values, stands_from}
use Rattle.san_law.proofs.Standing.{pieces_keep}

leaf_at : (ps : List (List Slot)) (rows : List Row) (m : List ℕ) (i : ℕ) → length rows ≡ length ps → i < length ps → slice_index_or (leaves_from ps rows m) i no_leaf ≡ (let l : LeafState = record { values = gather (privates (slice_index_or ps i [])) m; row = slice_index_or rows i no_row; seen = [] } in l)
leaf_at [] rows m i e h = absurd (omega (arith, h))
leaf_at (p ∷ ps) [] m i e h = absurd (omega (arith, e))
leaf_at (p ∷ ps) (r ∷ rows) m zero e h = refl
leaf_at (p ∷ ps) (r ∷ rows) m (suc i) e h = leaf_at ps rows m i (omega (arith, e)) (omega (arith, h))

leaves_long : (ps : List (List Slot)) (rows : List Row) (m : List ℕ) → length rows ≡ length ps → length (leaves_from ps rows m) ≡ length ps
leaves_long [] rows m e = refl
leaves_long (p ∷ ps) [] m e = absurd (omega (arith, e))
leaves_long (p ∷ ps) (r ∷ rows) m e = ap suc (leaves_long ps rows m (omega (arith, e)))

none_late : (o : Option (ℕ × ℕ)) → o ≡ None → (x : ℕ × ℕ) → o ≡ Some x → 0 ≤ x.0
none_late o e x f = omega arith

-- rows without timers
no_timers_repeated : (n : ℕ) → no_timers (repeated n None) ≡ true
no_timers_repeated zero = refl
no_timers_repeated (suc n) = no_timers_repeated n

least_repeated : (n k : ℕ) → least_timer_from k (repeated n None) ≡ None
least_repeated zero k = refl
least_repeated (suc n) k = least_repeated n (suc k)

blank_long : (net : Net) (j : ℕ) (ps : List (List Slot)) → length (blank_rows net j ps) ≡ length ps
blank_long net j [] = refl
blank_long net j (p ∷ ps) = ap suc (blank_long net (suc j) ps)

blank_bare : (net : Net) (j : ℕ) (ps : List (List Slot)) (i : ℕ) → is_bare (slice_index_or (blank_rows net j ps) i no_row) ≡ true
unfolding is_bare
blank_bare net j [] i = refl
blank_bare net j (p ∷ ps) zero = no_timers_repeated (net.acts j)
blank_bare net j (p ∷ ps) (suc i) = blank_bare net (suc j) ps i

blank_least : (net : Net) (j : ℕ) (ps : List (List Slot)) (i : ℕ) → least_timer (slice_index_or (blank_rows net j ps) i no_row) ≡ None
unfolding least_timer
blank_least net j [] i = refl
blank_least net j (p ∷ ps) zero = least_repeated (net.acts j) 0
blank_least net j (p ∷ ps) (suc i) = blank_least net (suc j) ps i

zero_sums : (ss : List Span) (r : ℕ) → slice_index_or (map (λ s. zero_sum) ss) r zero_sum ≡ zero_sum
zero_sums [] r = refl
zero_sums (s ∷ ss) zero = refl
zero_sums (s ∷ ss) (suc r) = zero_sums ss r

module _ (net : Net) (law : IsLawful net) (laid : IsLaid net (length net.initial)) where
  abbrev rows : List Row
  rows = blank_rows net 0 net.parts

  rows_long : length rows ≡ length net.parts
  rows_long = blank_long net 0 net.parts

  at : (i : ℕ) → i < length net.parts → leaf_of (opening_core net) i ≡ (let l : LeafState = record { values = gather (privates (part_of net i)) net.initial; row = slice_index_or rows i no_row; seen = [] } in l)
  at i h = leaf_at net.parts rows net.initial i rows_long h

  set_at : (i : ℕ) → i < length net.parts → flag (map (λ p. true) net.parts) i ≡ true
  set_at i h = get_or-map (λ p. true) net.parts i [] false h

  not_clear : (i : ℕ) → i < length net.parts → flag (map (λ p. true) net.parts) i ≡ false → ⊥
  not_clear i h e = true≢false (sym (set_at i h) ∙ e)

  holds : Holds net (opening_core net) (opening_state net)
  holds = record {
    sized = record {
      leaves = leaves_long net.parts rows net.initial rows_long;
      rows = rows_long;
      unsettled = length-map net.parts (λ p. true);
      stale = length-map net.parts (λ p. true);
      timers = length-map net.parts (λ p. None);
      rates = length-map net.parts (λ p. []);
      laid = laid;
    };
    time = refl;
    burst = refl;
    count = refl;
    shared = refl;
    values = λ i h. ap (λ (x : LeafState). x.values) (at i h);
    fresh = λ i h e. absurd (not_clear i h e);
    first = λ i h e g. absurd (not_clear i h e);
    going = λ j e. cc;
    last = λ e j f. cc;
    dues = λ i h. get_or-map (λ p. None) net.parts i [] None h ∙ sym (ap (λ (x : LeafState). least_timer x.row) (at i h) ∙ blank_least net 0 net.parts i);
    late = λ i h x e. none_late (least_timer (slice_index_or rows i no_row)) (blank_least net 0 net.parts i) x (sym (ap (λ (x : LeafState). least_timer x.row) (at i h)) ∙ e);
  }

  waits : Upto net (opening_core net) (opening_state net) 0
  waits = record {
    renewed = λ i h l. absurd (omega (arith, l));
    waits = λ i h l. record {
      row = ap (λ (x : LeafState). x.row) (at i h);
      seen = inr (ap (λ (x : LeafState). x.seen) (at i h), ap (λ (x : LeafState). is_bare x.row) (at i h) ∙ blank_bare net 0 net.parts i);
    };
  }

  counts : Counts net (opening_state net) [] 0 (opening_core net).tally
  counts = record {
    long = length-map net.spans (λ s. zero_sum);
    sums = λ r h. zero_sums net.spans r;
    impulses = omega arith;
    early = tt;
    timely = omega arith;
  }

  pub opening_follows : Follows net (opening_state net) [] (opening_core net)
  opening_follows = (opening_state net, stands_from net law (opening_state net) [] (opening_core net) (opening_state net) 0 refl holds waits (omega arith) counts)

pub opens_well : (net : Net) → IsLawful net → OpensWell net
opens_well net law laid n = pieces_keep net law (opening_state net) [] (opening_core net) (opening_follows net law laid) n

same_outcome : (net : Net) (j : ℕ) (l : LeafState) (v seen : List ℕ) (w : List Rated) → l.seen ≡ seen → seen ≡ kept net j v → w ≡ net.rates j v → renewed_outcome net j l v (Fresh l.row) ≡ unchanged l w
same_outcome net j l v seen w e f g = ap (λ (ws : List Rated). let o : Outcome = record { completions = []; writes = []; state = record { values = l.values; row = l.row; seen = kept net j v }; rates = ws; fault = None; more = false } in o) (sym g) ∙ ap (λ (vs : List ℕ). let o : Outcome = record { completions = []; writes = []; state = record { values = l.values; row = l.row; seen = vs }; rates = w; fault = None; more = false } in o) (sym (e ∙ f))

pub fresh_is_unchanged : (net : Net) → IsLawful net → FreshIsUnchanged net
fresh_is_unchanged net law opening past c s st i h e =
    let f = st.holds.fresh i h e in
    let v = gather (slots_of net i) s.marking in
    let l = leaf_of c i in
    let w : (leaf_view_of net c i).values ≡ v = leaf_view_values net c s i st.holds h in
    let here : leaf_view_of net c i ≡ (let x : Local = record { values = v; row = l.row } in x) = local_from (leaf_view_of net c i).values v l.row l.row w refl in
    let same : net.renewed i c.order.time l.seen (leaf_view_of net c i) ≡ Fresh l.row =
    ap (net.renewed i c.order.time l.seen) here ∙ (served net law i c.order.time l.seen v (record { values = v; row = l.row }) (inl f.seen) ∙ f.quiet c.order.time) in
    ap (renewed_outcome net i l (leaf_view_of net c i).values) same ∙ same_outcome net i l (leaf_view_of net c i).values l.seen (rates_of c i) refl (f.seen ∙ ap (kept net i) (sym w)) (f.rates ∙ ap (net.rates i) (sym w))
