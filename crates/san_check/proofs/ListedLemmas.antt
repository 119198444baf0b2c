-- Without a fault a table has its names in the order of declaration, each once.
use Rattle.san_base.proofs.Lists.{nothing_behind}
use Rattle.std.proofs.Common.{◌≡◌, ℕ, zero, suc, ◌+◌, ◌<◌, ◌≤◌, Bool, true, false, cond, not, ◌&&◌, ◌||◌, nat_eq, nat_lt, nat_le, List, [], ◌∷◌, ◌++◌, length, map, Option, Some, None, is_some, is_none, refl, sym, ap, subst, ◌∙◌, true≢false, arith, append_assoc}
use Rattle.std.proofs.lemmas.Bool.{ltb-false}
use Rattle.std.proofs.lemmas.Slice.Eq.{bytes_eq-Decides}
use Rattle.std.specs.Prelude.{unwrap_or, slice_get}
use Rattle.std.specs.List.{position_or_len}
use Rattle.std.specs.Map.{keys_of, lookup}
use Rattle.std.specs.Option.{option_map}
use Rattle.std.specs.Str.{bytes_eq}
use Rattle.san_text.specs.declared.syntax.PlaceDecl.{PlaceDecl}
use Rattle.san_text.specs.declared.syntax.ChildDecl.{ChildDecl}
use Rattle.san_text.specs.declared.syntax.ShareDecl.{ShareDecl}
use Rattle.san_text.specs.declared.syntax.ModelDecl.{ModelDecl}
use Rattle.san_text.specs.declared.syntax.ModelDecl.TheVariants as model
use Rattle.san_check.specs.declared.place.Place.{Place}
use Rattle.san_check.specs.declared.known.Known.{Known}
use Rattle.san_check.specs.Tables.{Table, Pairs, found, is_known, declared, all_paired}
use Rattle.san_check.specs.walk.Entries.{code, ◌else◌}
use Rattle.san_check.specs.walk.Expression.{Places}
use Rattle.san_check.specs.walk.Atomic.{cells_of, counted, place_code, length_entries, initial_entries, place_of, with_place, places_entries, all_places, acts_entries}
use Rattle.san_check.specs.walk.Composition.{Models, Children, nothing, child_code, children_entries, with_child, all_children, shown_by, first_place, parts_entries, share_code, shares_entries, with_share, all_shares, shown_as, shown_code, shown_entries, with_shown, all_shown, known_of, model_entries}
use Rattle.san_check.specs.build.Composition.{number, place_at, places_at, shown_at}
use Rattle.san_check.proofs.TableLemmas.{declared_last}
use Rattle.san_check.proofs.FreeLemmas.{Free, free_left, free_right, code_free, else_first, else_second}
use Rattle.san_check.proofs.TreeLemmas.{grows, shares_free, shown_free}
use Rattle.san_check.proofs.NumberLemmas.{number_is}

-- one declaration more, of a name that isn't known
one_more : {V : Type 0} (t rest all : Table V) (name : List ℕ) (v : V) → is_known t name ≡ false → all ≡ declared t name v ++ rest → all ≡ t ++ (name, v) ∷ rest
one_more t rest all name v h is = is ∙ ap (λ u. u ++ rest) (declared_last t name v h) ∙ append_assoc t ((name, v) ∷ []) rest

pub places_listed : (places : Places) (cells : ℕ) (ps : List PlaceDecl) → Free (places_entries places cells ps) → all_places places ps ≡ places ++ map (λ p. (p.name, place_of p)) ps
unfolding place_code
places_listed places cells [] h = sym (nothing_behind places)
places_listed places cells (p ∷ ps) h =
    let behind = free_right (length_entries cells p.length) (initial_entries p.initial ++ places_entries (with_place places p) (counted cells (cells_of p)) ps) h.1 in
    one_more places (map (λ p. (p.name, place_of p)) ps) (all_places (with_place places p) ps) p.name (place_of p)
    (code_free 20 (is_known places p.name) (else_first (code 20 (is_known places p.name)) (code 40 (is_none p.length && nat_lt 256 (counted cells 1))) h.0))
    (places_listed (with_place places p) (counted cells (cells_of p)) ps (free_right (initial_entries p.initial) (places_entries (with_place places p) (counted cells (cells_of p)) ps) behind))

pub children_listed : (models : Models) (children : Children) (n : ℕ) (cs : List ChildDecl) → Free (children_entries models children n cs) → all_children models children cs ≡ children ++ map (λ c. (c.name, shown_by models c.of)) cs
unfolding child_code
children_listed models children n [] h = sym (nothing_behind children)
children_listed models children n (c ∷ cs) h =
    one_more children (map (λ c. (c.name, shown_by models c.of)) cs) (all_children models (with_child models children c) cs) c.name (shown_by models c.of)
    (code_free 20 (is_known children c.name) (else_first (code 20 (is_known children c.name)) (code 43 (nat_le 1024 n)) h.0)) (children_listed models (with_child models children c) (n + 1) cs h.1.1)

pub shares_listed : (children : Children) (shares : Places) (taken : Pairs) (n : ℕ) (ss : List ShareDecl) → Free (shares_entries children shares taken n ss) → all_shares children shares ss ≡ shares ++ map (λ s. (s.name, shown_as (first_place children s.parts))) ss
unfolding share_code
shares_listed children shares taken n [] h = sym (nothing_behind shares)
shares_listed children shares taken n (s ∷ ss) h =
    one_more shares (map (λ s. (s.name, shown_as (first_place children s.parts))) ss) (all_shares children (with_share children shares s) ss) s.name (shown_as (first_place children s.parts))
    (code_free 20 (is_known shares s.name) (else_first (code 20 (is_known shares s.name)) (code 44 (nat_le 1024 n)) h.0))
    (shares_listed children (with_share children shares s) (all_paired taken s.parts) (n + 1) ss (free_right (parts_entries children taken (first_place children s.parts) [] s.parts) (shares_entries children (with_share children shares s) (all_paired taken s.parts) (n + 1) ss) h.1))

pub shown_listed : (places shares : Places) (n : ℕ) (ss : List (List ℕ)) → Free (shown_entries places shares n ss) → all_shown places shares ss ≡ shares ++ map (λ s. (s, shown_as (found places s))) ss
unfolding shown_code
shown_listed places shares n [] h = sym (nothing_behind shares)
shown_listed places shares n (s ∷ ss) h =
    one_more shares (map (λ s. (s, shown_as (found places s))) ss) (all_shown places (with_shown places shares s) ss) s (shown_as (found places s))
    (code_free 20 (is_known shares s) (else_first (code 20 (is_known shares s)) (code 30 (not (is_known places s)) else code 44 (nat_le 1024 n)) h.0)) (shown_listed places (with_shown places shares s) (n + 1) ss h.1)

-- a name that is known stands at its number
stand_by : {V : Type 0} (b : Bool) (e : List ℕ × V) (t : Table V) (name : List ℕ) (o : Option V) (m : ℕ) → (b ≡ true → name ≡ e.0) → is_some (cond b (Some e.1) o) ≡ true
    → (is_some o ≡ true → (v : V) × (slice_get t m ≡ Some (name, v)) × (o ≡ Some v)) → (v : V) × (slice_get (e ∷ t) (cond (not b) (1 + m) 0) ≡ Some (name, v)) × (cond b (Some e.1) o ≡ Some v)
stand_by true e t name o m same h more = (e.1, ap (λ n. Some (n, e.1)) (sym (same refl)), refl)
stand_by false e t name o m same h more =
    let rest = more h in
    let up : 1 + m ≡ suc m = omega arith in
    (rest.0, ap (slice_get (e ∷ t)) up ∙ rest.1, rest.2)

pub stands_at : {V : Type 0} (t : Table V) (name : List ℕ) → is_known t name ≡ true → (v : V) × (slice_get t (position_or_len (bytes_eq name) (keys_of t)) ≡ Some (name, v)) × (found t name ≡ Some v)
stands_at [] name h = absurd (true≢false (sym h))
stands_at (e ∷ t) name h = stand_by (bytes_eq name e.0) e t name (lookup (bytes_eq name) t) (position_or_len (bytes_eq name) (keys_of t)) (bytes_eq-Decides name e.0).0 h (stands_at t name)

pub place_number : (places : Places) (name : List ℕ) (v : Place) → found places name ≡ Some v → length places ≤ 4294967295 → place_at places (number places name) ≡ Some v
place_number places name v h few =
    let known = ap is_some h in
    let st = stands_at places name known in
    ap (place_at places) (number_is places name known few) ∙ ap (option_map (λ e. e.1)) st.1 ∙ sym st.2 ∙ h

pub shown_models : (models : Models) (name : List ℕ) (p : ℕ) → is_known models name ≡ true → length models ≤ 4294967295 → shown_at models (number models name) p ≡ place_at (shown_by models name) p
shown_models models name p known few =
    let st = stands_at models name known in
    ap (λ n. shown_at models n p) (number_is models name known few) ∙ ap (λ o. place_at (places_at o) p) st.1 ∙ sym (ap (λ o. place_at (unwrap_or o nothing).places p) st.2)

-- what an option was made of
pub made_of : {A B : Type 0} (f : A → B) (o : Option A) (y : B) → option_map f o ≡ Some y → (x : A) × (o ≡ Some x) × (f x ≡ y)
made_of f None y h = absurd (true≢false (sym (ap is_some h)))
made_of f (Some x) y h = (x, refl, cc)

-- what models show is little
pub FewShown : Models → Type 0
FewShown models = (i : ℕ) (e : List ℕ × Known) → slice_get models i ≡ Some e → length e.1.places ≤ 1024

pub none_shown : FewShown []
unfolding FewShown
none_shown i e h = absurd (true≢false (sym (ap is_some h)))

pub few_push : (t : Models) (x : List ℕ × Known) → FewShown t → length x.1.places ≤ 1024 → FewShown (t ++ x ∷ [])
unfolding FewShown
few_push [] x h k zero e is = let same : x ≡ e = cc in subst (λ (u : List ℕ × Known). length u.1.places ≤ 1024) same k
few_push [] x h k (suc i) e is = absurd (true≢false (sym (ap is_some is)))
few_push (y ∷ t) x h k zero e is = h zero e is
few_push (y ∷ t) x h k (suc i) e is = few_push t x (λ j. h (suc j)) k i e is

pub few_at : (t : Models) (name : List ℕ) → FewShown t → is_known t name ≡ true → length (shown_by t name) ≤ 1024
unfolding FewShown
few_at t name h known =
    let st = stands_at t name known in
    subst (λ (o : Option Known). length (unwrap_or o nothing).places ≤ 1024) (sym st.2) (h (position_or_len (bytes_eq name) (keys_of t)) (name, st.0) st.1)

places_grow : (t : Places) (ps : List PlaceDecl) → length (all_places t ps) ≤ length t + length ps
places_grow t [] = omega arith
places_grow t (p ∷ ps) = let one = (grows t p.name (place_of p)).2 in let more = places_grow (with_place t p) ps in omega (arith, one, more)

shares_grow : (children : Children) (t : Places) (ss : List ShareDecl) → length (all_shares children t ss) ≤ length t + length ss
shares_grow children t [] = omega arith
shares_grow children t (s ∷ ss) = let one = (grows t s.name (shown_as (first_place children s.parts))).2 in let more = shares_grow children (with_share children t s) ss in omega (arith, one, more)

shown_grow : (places t : Places) (ss : List (List ℕ)) → length (all_shown places t ss) ≤ length t + length ss
shown_grow places t [] = omega arith
shown_grow places t (s ∷ ss) = let one = (grows t s (shown_as (found places s))).2 in let more = shown_grow places (with_shown places t s) ss in omega (arith, one, more)

pub or_left : (a b : Bool) → (a || b) ≡ false → a ≡ false
or_left true b h = h
or_left false b h = refl

pub or_right : (a b : Bool) → (a || b) ≡ false → b ≡ false
or_right true b h = absurd (true≢false h)
or_right false b h = h

pub positive : (l : ℕ) → nat_eq l 0 ≡ false → 0 < l
positive zero h = absurd (true≢false h)
positive (suc l) h = omega arith

-- a place takes a cell at least
pub cell_free : (cells : ℕ) (l : Option ℕ) → code 40 (is_none l && nat_lt 256 (counted cells 1)) ≡ None → Free (length_entries cells l) → cells ≤ 256 → (suc cells ≤ counted cells (unwrap_or l 1)) × (counted cells (unwrap_or l 1) ≤ 256)
unfolding length_entries
cell_free cells None h k few = let fits = ltb-false 256 (counted cells 1) (code_free 40 (nat_lt 256 (counted cells 1)) h) in (omega (arith, fits), fits)
cell_free cells (Some l) h k few =
    let both = code_free 53 (nat_eq l 0 || nat_lt 256 (counted cells l)) k.0 in
    let some = positive l (or_left (nat_eq l 0) (nat_lt 256 (counted cells l)) both) in
    let fits = ltb-false 256 (counted cells l) (or_right (nat_eq l 0) (nat_lt 256 (counted cells l)) both) in
    (omega (arith, some, fits), fits)

pub places_few : (places : Places) (cells n : ℕ) (ps : List PlaceDecl) → n ≤ cells → cells ≤ 256 → Free (places_entries places cells ps) → n + length ps ≤ 256
unfolding place_code
places_few places cells n [] lt few h = omega arith
places_few places cells n (p ∷ ps) lt few h =
    let rest = free_right (length_entries cells p.length) (initial_entries p.initial ++ places_entries (with_place places p) (counted cells (cells_of p)) ps) h.1 in
    let one = cell_free cells p.length (else_second (code 20 (is_known places p.name)) (code 40 (is_none p.length && nat_lt 256 (counted cells 1))) h.0) (free_left (length_entries cells p.length) (initial_entries p.initial ++ places_entries (with_place places p) (counted cells (cells_of p)) ps) h.1) few in
    let more = places_few (with_place places p) (counted cells (cells_of p)) (n + 1) ps (omega (arith, one.0)) one.1 (free_right (initial_entries p.initial) (places_entries (with_place places p) (counted cells (cells_of p)) ps) rest) in
    omega (arith, more)

pub known_few : (known : Models) (m : ModelDecl) → Free (model_entries known m) → length (known_of known m).places ≤ 1024
unfolding model_entries known_of
known_few known (model.Atomic name places acts) h =
    let few = places_few [] 0 0 places (omega arith) (omega arith) (free_left (places_entries [] 0 places) (acts_entries (all_places [] places) [] 0 acts) h) in
    let grow = places_grow [] places in
    omega (arith, few, grow)
known_few known (model.Join name children shares) h =
    let few = shares_free (all_children known [] children) [] [] 0 shares (omega arith) (free_right (children_entries known [] 0 children) (shares_entries (all_children known [] children) [] [] 0 shares) h) in
    let grow = shares_grow (all_children known [] children) [] shares in
    omega (arith, few, grow)
known_few known (model.Rep name of times shares) h =
    let few = shown_free (shown_by known of) [] 0 shares (omega arith) h.1.1 in
    let grow = shown_grow (shown_by known of) [] shares in
    omega (arith, few, grow)
