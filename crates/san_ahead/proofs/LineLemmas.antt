-- One line that is changed, among those of the book.
use Rattle.std.proofs.Common.{ℕ, zero, suc, ◌+◌, ◌-◌, ◌<◌, ◌≤◌, ◌≡◌, ◌≢◌, ◌⊎◌, inl, inr, ◌∙◌, ◌&&◌, ap, sym, refl, subst, arith, Bool, true, false, nat_eq, List, [], ◌∷◌, length, map, drop, Option, Some, None}
use Rattle.std.specs.Prelude.{max, slice_index_or, slice_set}
use Rattle.std.proofs.lemmas.Bool.{cases_eq, cases_lt, eq-eqb}
use Rattle.std.proofs.lemmas.List.{at_drop_more, drop_more, get_or-drop, get_or-set_other, get_or-set_same, length-drop, length-map, length-set}
use Rattle.san_base.specs.declared.numbers.PlaceId.{PlaceId}
use Rattle.san_base.specs.declared.piece.Stamp.{Stamp}
use Rattle.san_line.specs.Lines.{LineValue, find, value_at}
use Rattle.san_leaf.specs.States.{pair_in}
use Rattle.san_book.specs.Lines.{AreWrites, Line, agrees, each, is_value, line_of, seen_at, write_of}
use Rattle.san_book.proofs.Each.{either}
use Rattle.san_ahead.specs.Aheads.{line_in, no_line, written_line}

pub line_changed : (lines : List LineValue) (q : ℕ) (d new : LineValue) (g : Line → Line) → q < length lines → line_in new ≡ g (line_in (slice_index_or lines q d))
    → map line_in (slice_set lines q new) ≡ slice_set (map line_in lines) q (g (line_of (map line_in lines) q))
line_changed [] q d new g h e = absurd (omega (arith, h))
line_changed (l ∷ ls) zero d new g h e = ap (λ (x : Line). x ∷ map line_in ls) e
line_changed (l ∷ ls) (suc q) d new g h e = ap (λ (xs : List Line). line_in l ∷ xs) (line_changed ls q d new g (omega (arith, h)) e)

-- the next of the written lines
module _ (ws : List (PlaceId × ℕ)) (k : ℕ) (none : PlaceId × ℕ) (here : k < length ws) where
  abbrev pub next : PlaceId × ℕ
  next = slice_index_or ws k none

  pub fits_here : (n : ℕ) → AreWrites n (map pair_in (drop k ws)) → (next.0.0 < n) × AreWrites n (map pair_in (drop (k + 1) ws))
  fits_here n fit = let more = subst (λ (xs : List (PlaceId × ℕ)). AreWrites n (map pair_in xs)) (drop_more ws k none here) fit in (more.0, more.2)

  pub each_next : (f : ℕ → ℕ → Line → Line) (lines : List LineValue) (d new : LineValue) → AreWrites (length lines) (map pair_in (drop k ws))
      → line_in new ≡ f next.0.0 next.1 (line_in (slice_index_or lines next.0.0 d))
      → each f (map pair_in (drop (k + 1) ws)) (map line_in (slice_set lines next.0.0 new)) ≡ each f (map pair_in (drop k ws)) (map line_in lines)
  each_next f lines e new fit so =
      ap (each f (map pair_in (drop (k + 1) ws))) (line_changed lines next.0.0 e new (f next.0.0 next.1) (fits_here (length lines) fit).0 so)
      ∙ sym (at_drop_more (λ (xs : List (PlaceId × ℕ)). each f (map pair_in xs) (map line_in lines)) ws k none here)

  pub fits_next : (lines : List LineValue) (new : LineValue) → AreWrites (length lines) (map pair_in (drop k ws)) → AreWrites (length (slice_set lines next.0.0 new)) (map pair_in (drop (k + 1) ws))
  fits_next lines new fit = subst (λ (n : ℕ). AreWrites n (map pair_in (drop (k + 1) ws))) (sym (length-set lines next.0.0 new)) (fits_here (length lines) fit).1

-- a value that was read, as the lines have it
pub seen_there : (lines : List LineValue) (s : Stamp) (q v : ℕ) (d : LineValue) → q < length lines
    → is_value v (seen_at (map line_in lines) s q) ≡ nat_eq (value_at s (slice_index_or lines q d).committed (slice_index_or lines q d).versions) v
seen_there [] s q v d h = absurd (omega (arith, h))
seen_there (l ∷ ls) s zero v d h = refl
seen_there (l ∷ ls) s (suc q) v d h = seen_there ls s q v d (omega (arith, h))

pub seen_nowhere : (lines : List LineValue) (s : Stamp) (q v : ℕ) → length lines ≤ q → is_value v (seen_at (map line_in lines) s q) ≡ false
seen_nowhere [] s q v h = refl
seen_nowhere (l ∷ ls) s zero v h = absurd (omega (arith, h))
seen_nowhere (l ∷ ls) s (suc q) v h = seen_nowhere ls s q v (omega (arith, h))

pub agree_next : (at : ℕ → Option ℕ) (log : List (PlaceId × ℕ)) (k : ℕ) (d : PlaceId × ℕ) (b : Bool) → k < length log → is_value (slice_index_or log k d).1 (at (slice_index_or log k d).0.0) ≡ b
    → agrees at (drop k log) ≡ (b && agrees at (drop (k + 1) log))
agree_next at log k d b h e = at_drop_more (agrees at) log k d h ∙ ap (λ (x : Bool). x && agrees at (drop (k + 1) log)) e

-- places that come later are others
later_apart : (xs : List (PlaceId × ℕ)) (q : ℕ) → write_of q (map pair_in xs) ≡ None → (j : ℕ) (d : PlaceId × ℕ) → j < length xs → (slice_index_or xs j d).0.0 ≢ q
later_apart [] q e j d h = absurd (omega (arith, h))
later_apart (x ∷ xs) q e zero d h = λ same. some_none (sym (ap (λ (t : Bool). either t (Some x.1) (write_of q (map pair_in xs))) (eq-eqb x.0.0 q same)) ∙ e)
  where
    some_none : Some x.1 ≡ None → ⊥
    some_none f = cc
later_apart (x ∷ xs) q e (suc j) d h = later_apart xs q (rest (nat_eq x.0.0 q) e) j d (omega (arith, h))
  where
    rest : (b : Bool) → either b (Some x.1) (write_of q (map pair_in xs)) ≡ None → write_of q (map pair_in xs) ≡ None
    rest true f = absurd cc
    rest false f = f

-- what holds of the line of another write still does when a line is changed
module _ (lines : List LineValue) (ws : List (PlaceId × ℕ)) (k : ℕ) (none : PlaceId × ℕ) (here : k < length ws) (fit : AreWrites (length lines) (map pair_in (drop k ws))) (new : LineValue) where
  abbrev place : ℕ
  place = (slice_index_or ws k none).0.0

  abbrev changed : List LineValue
  changed = slice_set lines place new

  within : place < length lines
  within = (fits_here ws k none here (length lines) fit).0

  -- the line that is changed
  any_write : (i : ℕ) → i < length ws → slice_index_or ws i (record { 0 = 0 }, 0) ≡ slice_index_or ws i none
  any_write i h = any_default ws i (record { 0 = 0 }, 0) none h
    where
      any_default : (xs : List (PlaceId × ℕ)) (j : ℕ) (d e : PlaceId × ℕ) → j < length xs → slice_index_or xs j d ≡ slice_index_or xs j e
      any_default [] j d e h = absurd (omega (arith, h))
      any_default (x ∷ xs) zero d e h = refl
      any_default (x ∷ xs) (suc j) d e h = any_default xs j d e (omega (arith, h))

  pub line_here : written_line changed ws k ≡ new
  line_here = ap (λ (w : PlaceId × ℕ). slice_index_or changed w.0.0 no_line) (any_write k here) ∙ get_or-set_same lines place new no_line within

  -- any line has what the changed one and the old ones have
  pub line_kept : (P : LineValue → Type 0) → P new → (i : ℕ) → P (written_line lines ws i) → P (written_line changed ws i)
  line_kept P now i was = by_place (cases_eq (slice_index_or ws i (record { 0 = 0 }, 0)).0.0 place)
    where
      by_place : ((slice_index_or ws i (record { 0 = 0 }, 0)).0.0 ≡ place) ⊎ ((slice_index_or ws i (record { 0 = 0 }, 0)).0.0 ≢ place) → P (written_line changed ws i)
      by_place (inl e) = subst P (sym (ap (λ (q : ℕ). slice_index_or changed q no_line) e ∙ get_or-set_same lines place new no_line within)) now
      by_place (inr n) = subst P (sym (get_or-set_other lines place (slice_index_or ws i (record { 0 = 0 }, 0)).0.0 new no_line n)) was

  -- a later write is to another place
  none_later : write_of place (map pair_in (drop (k + 1) ws)) ≡ None
  none_later = (subst (λ (xs : List (PlaceId × ℕ)). AreWrites (length lines) (map pair_in xs)) (drop_more ws k none here) fit).1

  other : (i : ℕ) → k < i → i < length ws → (slice_index_or ws i none).0.0 ≢ place
  other i h l =
      let at : (k + 1) + (i - (k + 1)) ≡ i = omega (arith, h) in
      let long = length-drop (k + 1) ws in
      subst (λ (w : PlaceId × ℕ). w.0.0 ≢ place) (get_or-drop (k + 1) ws (i - (k + 1)) none ∙ ap (λ (n : ℕ). slice_index_or ws n none) at)
      (later_apart (drop (k + 1) ws) place none_later (i - (k + 1)) none (omega (arith, h, l, long)))

  pub line_other : (i : ℕ) → k < i → i < length ws → written_line changed ws i ≡ written_line lines ws i
  line_other i h l =
      get_or-set_other lines place (slice_index_or ws i (record { 0 = 0 }, 0)).0.0 new no_line (λ e. other i h l (ap (λ (w : PlaceId × ℕ). w.0.0) (sym (any_write i l)) ∙ e))

-- a change that the book doesn't see
pub unseen : (lines : List LineValue) (q : ℕ) (d new : LineValue) → q < length lines → line_in new ≡ line_in (slice_index_or lines q d) → map line_in (slice_set lines q new) ≡ map line_in lines
unseen [] q d new h e = absurd (omega (arith, h))
unseen (l ∷ ls) zero d new h e = ap (λ (x : Line). x ∷ map line_in ls) e
unseen (l ∷ ls) (suc q) d new h e = ap (λ (xs : List Line). line_in l ∷ xs) (unseen ls q d new (omega (arith, h)) e)

pub some_room : (x : ℕ) → 0 < max x 1
some_room x = omega (arith)

-- one write more
pub at_write : (P : ℕ → Type 0) (k i : ℕ) → i < k + 1 → (i < k → P i) → P k → P i
at_write P k i h before here = by_case (cases_lt i k)
  where
    by_case : (i < k) ⊎ (k ≤ i) → P i
    by_case (inl l) = before l
    by_case (inr g) = let same : k ≡ i = omega (arith, h, g) in subst P same here

-- lines that the book has alike have the same versions
line_at : (lines : List LineValue) (q : ℕ) → line_of (map line_in lines) q ≡ line_in (slice_index_or lines q no_line)
line_at [] q = refl
line_at (l ∷ ls) zero = refl
line_at (l ∷ ls) (suc q) = line_at ls q

pair_at : (ws : List (PlaceId × ℕ)) (i : ℕ) → slice_index_or (map pair_in ws) i (0, 0) ≡ pair_in (slice_index_or ws i (record { 0 = 0 }, 0))
pair_at [] i = refl
pair_at (w ∷ ws) zero = refl
pair_at (w ∷ ws) (suc i) = pair_at ws i

pub none_there : (now was : List LineValue) (ws : List (PlaceId × ℕ)) (pairs : List (ℕ × ℕ)) (leaf pos : ℕ) → map line_in now ≡ map line_in was → map pair_in ws ≡ pairs
    → ((i : ℕ) → i < length pairs → find leaf pos (slice_index_or was (slice_index_or pairs i (0, 0)).0 no_line).versions ≡ None) → (i : ℕ) → i < length ws → find leaf pos (written_line now ws i).versions ≡ None
none_there now was ws pairs leaf pos same are none i h =
    let long = length-map ws pair_in in
    let many = ap length are in
    let q : ℕ = (slice_index_or ws i (record { 0 = 0 }, 0)).0.0 in
    let at : (slice_index_or pairs i (0, 0)).0 ≡ q = ap (λ (xs : List (ℕ × ℕ)). (slice_index_or xs i (0, 0)).0) (sym are) ∙ ap (λ (x : ℕ × ℕ). x.0) (pair_at ws i) in
    ap (λ (l : Line). find leaf pos l.versions) (sym (line_at now q) ∙ ap (λ (ls : List Line). line_of ls q) same ∙ line_at was q)
    ∙ ap (λ (p : ℕ). find leaf pos (slice_index_or was p no_line).versions) (sym at)
    ∙ none i (omega (arith, h, long, many))
