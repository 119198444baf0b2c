-- Without a fault the places of an atomic have the cells that they are given, in order.
use Rattle.std.proofs.Common.{◌≡◌, ℕ, ◌+◌, ◌≤◌, Bool, true, false, cond, ◌&&◌, ◌||◌, nat_lt, List, [], ◌∷◌, ◌++◌, length, Option, Some, None, is_some, is_none, All, refl, sym, ap, subst, ◌∙◌, true≢false, arith, length-append}
use Rattle.std.proofs.lemmas.Bool.{ltb-false}
use Rattle.std.proofs.lemmas.List.{length-replicate}
use Rattle.std.proofs.lemmas.List.Elements.{All-replicate, All-append, All-nil}
use Rattle.std.specs.Prelude.{unwrap_or}
use Rattle.std.specs.Map.{lookup}
use Rattle.std.specs.Str.{bytes_eq}
use Rattle.san_text.specs.declared.syntax.PlaceDecl.{PlaceDecl}
use Rattle.san_check.specs.declared.build.cells.Cells.{Cells}
use Rattle.san_check.specs.Tables.{Table, found, is_known, declared}
use Rattle.san_check.specs.walk.Entries.{code}
use Rattle.san_check.specs.walk.Expression.{Places}
use Rattle.san_check.specs.build.Composition.{capped}
use Rattle.san_check.specs.walk.Atomic.{cells_of, counted, place_code, length_entries, initial_entries, place_of, with_place, places_entries, all_places}
use Rattle.san_check.specs.build.Cells.{CellTable, cells_at, no_cells, cells_behind, all_cells, values_of, all_values}
use Rattle.san_check.proofs.TableLemmas.{declared_last}
use Rattle.san_check.proofs.NumberLemmas.{found_front}
use Rattle.san_check.proofs.FreeLemmas.{Free, free_left, free_right, code_free, else_first, else_second}
use Rattle.san_check.proofs.ListedLemmas.{cell_free}
use Rattle.san_check.proofs.FitLemmas.{In, Placed}

either_known : {V : Type 0} (b c : Bool) (v : V) (o o1 : Option V) → is_some o1 ≡ (is_some o || c) → is_some (cond b (Some v) o1) ≡ (is_some (cond b (Some v) o) || c)
either_known true c v o o1 h = refl
either_known false c v o o1 h = h

only : {V : Type 0} (b : Bool) (v : V) → is_some (cond b (Some v) None) ≡ b
only true v = refl
only false v = refl

-- a table with one more knows one more
known_with : {V : Type 0} (t : Table V) (n : List ℕ) (v : V) (name : List ℕ) → is_known (t ++ (n, v) ∷ []) name ≡ (is_known t name || bytes_eq name n)
known_with [] n v name = only (bytes_eq name n) v
known_with (e ∷ t) n v name = either_known (bytes_eq name e.0) (bytes_eq name n) e.1 (lookup (bytes_eq name) t) (lookup (bytes_eq name) (t ++ (n, v) ∷ [])) (known_with t n v name)

behind : {V : Type 0} (b : Bool) (v : V) (o o1 r : Option V) → is_some (cond b (Some v) o) ≡ false → (is_some o ≡ false → o1 ≡ r) → cond b (Some v) o1 ≡ r
behind true v o o1 r h more = absurd (true≢false h)
behind false v o o1 r h more = more h

pub found_new : {V : Type 0} (t : Table V) (n : List ℕ) (v : V) (name : List ℕ) → is_known t name ≡ false → found (t ++ (n, v) ∷ []) name ≡ cond (bytes_eq name n) (Some v) None
found_new [] n v name h = refl
found_new (e ∷ t) n v name h = behind (bytes_eq name e.0) e.1 (lookup (bytes_eq name) t) (lookup (bytes_eq name) (t ++ (n, v) ∷ [])) (cond (bytes_eq name n) (Some v) None) h (found_new t n v name)

-- the cells of a name are those before, or the new ones
fits_by : (old b : Bool) (cells : CellTable) (k : ℕ) (c : Cells) (n name : List ℕ) → is_known cells name ≡ old → bytes_eq name n ≡ b → (old ≡ true → In (cells_at cells name) k) → 1 ≤ c.length → c.first ≡ k → (old || b) ≡ true
    → In (cells_at (cells ++ (n, c) ∷ []) name) (k + c.length)
unfolding cells_at
fits_by true b cells k c n name is at h some first known =
    let same : found (cells ++ (n, c) ∷ []) name ≡ found cells name = found_front cells ((n, c) ∷ []) name is in
    subst (λ (o : Option Cells). In (unwrap_or o no_cells) (k + c.length)) (sym same) (let g = h refl in (g.0, omega (arith, g.1)))
fits_by false true cells k c n name is at h some first known =
    let new : found (cells ++ (n, c) ∷ []) name ≡ Some c = found_new cells n c name is ∙ ap (λ (b : Bool). cond b (Some c) None) at in
    subst (λ (o : Option Cells). In (unwrap_or o no_cells) (k + c.length)) (sym new) (some, omega (arith, first))
fits_by false false cells k c n name is at h some first known = absurd (true≢false (sym known))

placed_more : (places : Places) (cells : CellTable) (k : ℕ) (p : PlaceDecl) → Placed places cells k → is_known places p.name ≡ false → 1 ≤ capped (cells_of p) → k + capped (cells_of p) ≤ 256
    → Placed (with_place places p) (declared cells p.name (cells_behind k p)) (k + capped (cells_of p))
placed_more places cells k p at new some fits =
    let c = cells_behind k p in
    let wide : with_place places p ≡ places ++ (p.name, place_of p) ∷ [] = declared_last places p.name (place_of p) new in
    let long : declared cells p.name c ≡ cells ++ (p.name, c) ∷ [] = declared_last cells p.name c (at.same p.name ∙ new) in
    let same : (name : List ℕ) → is_known (cells ++ (p.name, c) ∷ []) name ≡ is_known (places ++ (p.name, place_of p) ∷ []) name =
    λ name. known_with cells p.name c name ∙ ap (λ (b : Bool). b || bytes_eq name p.name) (at.same name) ∙ sym (known_with places p.name (place_of p) name) in
    let inside : (name : List ℕ) → is_known (places ++ (p.name, place_of p) ∷ []) name ≡ true → In (cells_at (cells ++ (p.name, c) ∷ []) name) (k + capped (cells_of p)) =
    λ name h. fits_by (is_known places name) (bytes_eq name p.name) cells k c p.name name (at.same name) refl (at.fits name) some refl (sym (known_with places p.name (place_of p) name) ∙ h) in
    subst (λ (t : Places). Placed t (declared cells p.name c) (k + capped (cells_of p))) (sym wide) (subst (λ (t : CellTable). Placed (places ++ (p.name, place_of p) ∷ []) t (k + capped (cells_of p))) (sym long) (record { same = same; fits = inside; few = fits }))

pub record AllPlaced (places : Places) (cells : CellTable) (k : ℕ) (ps : List PlaceDecl) : Type 0 where
  pub placed : Placed (all_places places ps) (all_cells cells k ps) (k + length (all_values ps))
  pub values : All (λ v. v ≤ 2147483647) (all_values ps)

initial_free : (o : Option ℕ) → Free (initial_entries o) → capped (unwrap_or o 0) ≤ 2147483647
unfolding initial_entries
initial_free None h = omega arith
initial_free (Some n) h = let fits = ltb-false 2147483647 n (code_free 31 (nat_lt 2147483647 n) h.0) in omega (arith, fits)

pub all_placed : (places : Places) (cells : CellTable) (k : ℕ) (ps : List PlaceDecl) → Placed places cells k → Free (places_entries places k ps) → AllPlaced places cells k ps
unfolding place_code
all_placed places cells k [] at h = record { placed = subst (λ (n : ℕ). Placed places cells n) (omega arith) at; values = All-nil (λ v. v ≤ 2147483647) }
all_placed places cells k (p ∷ ps) at h =
    let n = capped (cells_of p) in
    let few = at.few in
    let behind_length = free_right (length_entries k p.length) (initial_entries p.initial ++ places_entries (with_place places p) (counted k (cells_of p)) ps) h.1 in
    let one = cell_free k p.length (else_second (code 20 (is_known places p.name)) (code 40 (is_none p.length && nat_lt 256 (counted k 1))) h.0) (free_left (length_entries k p.length) (initial_entries p.initial ++ places_entries (with_place places p) (counted k (cells_of p)) ps) h.1) few in
    let new = code_free 20 (is_known places p.name) (else_first (code 20 (is_known places p.name)) (code 40 (is_none p.length && nat_lt 256 (counted k 1))) h.0) in
    let small : n ≡ cells_of p = omega (arith, one.0, one.1) in
    let up : counted k (cells_of p) ≡ k + n = omega (arith, one.0, one.1) in
    let some : 1 ≤ n = omega (arith, one.0, one.1) in
    let fits : k + n ≤ 256 = omega (arith, one.0, one.1) in
    let next : capped (k + n) ≡ k + n = omega (arith, fits) in
    let rest = subst (λ (m : ℕ). Free (places_entries (with_place places p) m ps)) up (free_right (initial_entries p.initial) (places_entries (with_place places p) (counted k (cells_of p)) ps) behind_length) in
    let more = all_placed (with_place places p) (declared cells p.name (cells_behind k p)) (k + n) ps (placed_more places cells k p at new some fits) rest in
    let counts : (k + n) + length (all_values ps) ≡ k + length (all_values (p ∷ ps)) =
    omega (arith, length-append (values_of p) (all_values ps), length-replicate n (capped (unwrap_or p.initial 0))) in
    let initial = initial_free p.initial (free_left (initial_entries p.initial) (places_entries (with_place places p) (counted k (cells_of p)) ps) behind_length) in
    record {
      placed = subst (λ (m : ℕ). Placed (all_places (with_place places p) ps) (all_cells (declared cells p.name (cells_behind k p)) m ps) (k + length (all_values (p ∷ ps)))) (sym next)
          (subst (λ (m : ℕ). Placed (all_places (with_place places p) ps) (all_cells (declared cells p.name (cells_behind k p)) (k + n) ps) m) counts more.placed);
      values = All-append (λ v. v ≤ 2147483647) (values_of p) (all_values ps) (All-replicate (λ v. v ≤ 2147483647) n (capped (unwrap_or p.initial 0)) initial) more.values;
    }

none_placed : Placed [] [] 0
none_placed = record { same = λ name. refl; fits = λ name h. absurd (true≢false (sym h)); few = omega arith }

-- an atomic's places
pub places_placed : (ps : List PlaceDecl) → Free (places_entries [] 0 ps) → AllPlaced [] [] 0 ps
places_placed ps h = all_placed [] [] 0 ps none_placed h
