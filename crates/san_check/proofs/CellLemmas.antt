-- The cells of an atomic: as many as its initial values, no two the same, each with its place's value.
use Rattle.std.proofs.Common.{◌≡◌, ℕ, zero, suc, ◌+◌, ◌<◌, ◌≤◌, List, [], ◌∷◌, ◌++◌, length, replicate, Option, Some, is_some, refl, sym, ap, subst, ◌∙◌, true≢false, arith, length-append}
use Rattle.std.proofs.lemmas.List.{length-replicate}
use Rattle.std.specs.Prelude.{unwrap_or, slice_get}
use Rattle.san_text.specs.declared.syntax.PlaceDecl.{PlaceDecl}
use Rattle.san_net.specs.Apart.{AreApart}
use Rattle.san_check.specs.walk.Atomic.{cells_of}
use Rattle.san_check.specs.build.Composition.{capped}
use Rattle.san_check.specs.build.Cells.{values_of, all_values, elements, all_elements}

elements_long : (place element left : ℕ) → length (elements place element left) ≡ left
elements_long place element zero = refl
elements_long place element (suc left) = ap suc (elements_long place (capped (element + 1)) left)

-- as many cells as values
pub as_many : (q : ℕ) (ps : List PlaceDecl) → length (all_elements q ps) ≡ length (all_values ps)
as_many q [] = refl
as_many q (p ∷ ps) =
    let n = capped (cells_of p) in
    let own = length-append (elements q 0 n) (all_elements (capped (q + 1)) ps) in
    let values = length-append (values_of p) (all_values ps) in
    omega (arith, own, values, length-replicate n (capped (unwrap_or p.initial 0)), elements_long q 0 n, as_many (capped (q + 1)) ps)

elements_at : (place element left i p e : ℕ) → element + left ≤ 4294967295 → slice_get (elements place element left) i ≡ Some (p, e) → (p ≡ place) × (e ≡ element + i) × (i < left)
elements_at place element zero i p e few h = absurd (true≢false (sym (ap is_some h)))
elements_at place element (suc left) zero p e few h =
    let first : place ≡ p = ap (λ (o : Option (ℕ × ℕ)). (unwrap_or o (p, e)).0) h in
    let second : element ≡ e = ap (λ (o : Option (ℕ × ℕ)). (unwrap_or o (p, e)).1) h in
    (sym first, omega (arith, second), omega arith)
elements_at place element (suc left) (suc i) p e few h =
    let next : capped (element + 1) ≡ element + 1 = omega (arith, few) in
    let more = elements_at place (element + 1) left i p e (omega (arith, few)) (subst (λ (n : ℕ). slice_get (elements place n left) i ≡ Some (p, e)) next h) in
    (more.0, omega (arith, more.1), omega (arith, more.2))

-- what stands in two lists, one behind the other, stands in one of them
split_at : {A G : Type 0} (xs ys : List A) (i : ℕ) (y : A) → slice_get (xs ++ ys) i ≡ Some y → (slice_get xs i ≡ Some y → G) → ((j : ℕ) → i ≡ length xs + j → slice_get ys j ≡ Some y → G) → G
split_at [] ys i y h here behind = behind i (omega arith) h
split_at (x ∷ xs) ys zero y h here behind = here h
split_at (x ∷ xs) ys (suc i) y h here behind = split_at xs ys i y h here (λ j is there. behind j (omega (arith, is)) there)

front : (n v : ℕ) (ys : List ℕ) (i : ℕ) → i < n → slice_get (replicate n v ++ ys) i ≡ Some v
front zero v ys i lt = absurd (omega (arith, lt))
front (suc n) v ys zero lt = refl
front (suc n) v ys (suc i) lt = front n v ys i (omega (arith, lt))

past : (n v : ℕ) (ys : List ℕ) (j i : ℕ) → i ≡ n + j → slice_get (replicate n v ++ ys) i ≡ slice_get ys j
past zero v ys j i is = let same : i ≡ j = omega (arith, is) in ap (slice_get ys) same
past (suc n) v ys j zero is = absurd (omega (arith, is))
past (suc n) v ys j (suc i) is = past n v ys j i (omega (arith, is))

-- how many cells stand before a place
abbrev before : List PlaceDecl → ℕ → ℕ
before [] d = 0
before (p ∷ ps) zero = 0
before (p ∷ ps) (suc d) = capped (cells_of p) + before ps d

-- a cell is an element of a place, at the index that this makes
pub record CellAt (q : ℕ) (ps : List PlaceDecl) (i p e : ℕ) : Type 0 where
  pub behind : ℕ
  pub at : p ≡ q + behind
  pub index : i ≡ before ps behind + e
  pub decl : PlaceDecl
  pub there : slice_get ps behind ≡ Some decl
  pub value : slice_get (all_values ps) i ≡ Some (capped (unwrap_or decl.initial 0))

own_cell : (q : ℕ) (d : PlaceDecl) (ds : List PlaceDecl) (i p e : ℕ) → slice_get (elements q 0 (capped (cells_of d))) i ≡ Some (p, e) → CellAt q (d ∷ ds) i p e
own_cell q d ds i p e h =
    let n = capped (cells_of d) in
    let at = elements_at q 0 n i p e (omega arith) h in
    let same = at.0 in
    let index : i ≡ 0 + e = omega (arith, at.1) in
    record { behind = 0; at = omega (arith, same); index = index; decl = d; there = refl; value = front n (capped (unwrap_or d.initial 0)) (all_values ds) i at.2 }

later_cell : (q : ℕ) (d : PlaceDecl) (ds : List PlaceDecl) (i j p e : ℕ) → i ≡ length (elements q 0 (capped (cells_of d))) + j → CellAt (q + 1) ds j p e → CellAt q (d ∷ ds) i p e
later_cell q d ds i j p e is more =
    let n = capped (cells_of d) in
    let long = elements_long q 0 n in
    let at : i ≡ n + j = omega (arith, is, long) in
    let place = more.at in
    let inner = more.index in
    let index : i ≡ (n + before ds more.behind) + e = omega (arith, at, inner) in
    record {
      behind = suc more.behind;
      at = omega (arith, place);
      index = index;
      decl = more.decl;
      there = more.there;
      value = past n (capped (unwrap_or d.initial 0)) (all_values ds) j i at ∙ more.value;
    }

pub cell_at : (q : ℕ) (ps : List PlaceDecl) (i p e : ℕ) → q + length ps ≤ 4294967295 → slice_get (all_elements q ps) i ≡ Some (p, e) → CellAt q ps i p e
cell_at q [] i p e few h = absurd (true≢false (sym (ap is_some h)))
cell_at q (d ∷ ds) i p e few h =
    let next : capped (q + 1) ≡ q + 1 = omega (arith, few) in
    split_at (elements q 0 (capped (cells_of d))) (all_elements (capped (q + 1)) ds) i (p, e) h
    (own_cell q d ds i p e)
    (λ j is there. later_cell q d ds i j p e is (cell_at (q + 1) ds j p e (omega (arith, few)) (subst (λ (m : ℕ). slice_get (all_elements m ds) j ≡ Some (p, e)) next there)))

-- no two cells are the same
pub cells_apart : (ps : List PlaceDecl) → length ps ≤ 4294967295 → AreApart (all_elements 0 ps)
cells_apart ps few i j x a b =
    let u = cell_at 0 ps i x.0 x.1 (omega (arith, few)) a in
    let w = cell_at 0 ps j x.0 x.1 (omega (arith, few)) b in
    let one = u.at in
    let two = w.at in
    let same : u.behind ≡ w.behind = omega (arith, one, two) in
    u.index ∙ ap (λ (d : ℕ). before ps d + x.1) same ∙ sym w.index
