-- What is shared shows what the place that it was shows.
use Rattle.san_base.proofs.Bools.{not_false}
use Rattle.std.proofs.Common.{◌≡◌, ℕ, zero, suc, ◌+◌, ◌<◌, ◌≤◌, Bool, true, false, not, ◌&&◌, ◌||◌, nat_eq, nat_le, List, [], ◌∷◌, ◌++◌, length, map, Option, Some, None, is_some, is_none, refl, sym, ap, ap₂, subst, ◌∙◌, true≢false, arith}
use Rattle.std.proofs.lemmas.Bool.{eqb-true}
use Rattle.std.proofs.lemmas.List.Quantifiers.{position-Some}
use Rattle.std.proofs.lemmas.Option.{slice_get-get_or, slice_get-map, get_or_from_slice_get}
use Rattle.std.specs.Prelude.{unwrap_or, slice_get, slice_index_or, position}
use Rattle.std.specs.List.{list_any, position_or_len}
use Rattle.std.specs.Map.{keys_of}
use Rattle.std.specs.Option.{option_map}
use Rattle.std.specs.Str.{bytes_eq}
use Rattle.san_text.specs.declared.syntax.Syntax.{Syntax}
use Rattle.san_text.specs.declared.syntax.ModelDecl.{ModelDecl}
use Rattle.san_text.specs.declared.syntax.ModelDecl.TheVariants as model
use Rattle.san_text.specs.declared.syntax.ChildDecl.{ChildDecl}
use Rattle.san_text.specs.declared.syntax.ShareDecl.{ShareDecl}
use Rattle.san_tree.specs.declared.share.Share.{Share}
use Rattle.san_tree.specs.declared.node.Node.{Node}
use Rattle.san_tree.specs.Places as tree
use Rattle.san_check.specs.declared.place.Place.{Place}
use Rattle.san_check.specs.Tables.{Pairs, found, is_known, declared, has_pair, all_paired}
use Rattle.san_check.specs.walk.Entries.{code, ◌else◌}
use Rattle.san_check.specs.walk.Expression.{Places}
use Rattle.san_check.specs.walk.Activity.{ActNames}
use Rattle.san_check.specs.walk.Composition.{Models, Children, children_entries, all_children, shown_by, place_in, part_place, differs, initial_differs, length_differs, part_code, shared_code, parts_entries, first_place, shown_as, shares_entries, with_share, all_shares, shown_code, shown_entries, with_shown, all_shown, model_code, model_entries, known_of, name_code, name_of, models_entries, with_model, all_models}
use Rattle.san_check.specs.walk.Reward.{rewards_entries}
use Rattle.san_check.specs.walk.Model.{syntax_entries, syntax_fault}
use Rattle.san_check.specs.build.Composition.{number, child_places, part_numbers, share_of, child_of, node_of, atomics_after, nodes_from, nodes_of, place_at, places_at, shown_at, shown_of}
use Rattle.san_check.proofs.TableLemmas.{declared_last}
use Rattle.san_check.proofs.FreeLemmas.{Free, free_of, free_left, free_right, code_free, else_first, else_second}
use Rattle.san_check.proofs.TreeLemmas.{models_grow, models_few, models_free, children_free, grows}
use Rattle.san_check.proofs.NumberLemmas.{number_is, found_front}
use Rattle.san_check.proofs.OnceLemmas.{children_same, shown_same}
use Rattle.san_check.proofs.ListedLemmas.{children_listed, shares_listed, shown_listed, stands_at, place_number, shown_models, made_of, FewShown, none_shown, few_push, few_at, known_few}

same_length : (a b : Option ℕ) → differs a b ≡ false → a ≡ b
same_length None None h = refl
same_length None (Some n) h = absurd (true≢false h)
same_length (Some m) None h = absurd (true≢false h)
same_length (Some m) (Some n) h = ap (λ (k : ℕ). Some k) (eqb-true m n (not_false (nat_eq m n) h))

abbrev Like : Option Place → Place → Type 0
Like first place = (f : Place) → first ≡ Some f → place ≡ f

-- the place of a part is there, and is like that of the first
of_place : (pp first : Option Place) (b : Bool) → (code 26 (is_none pp) else (code 28 b else (code 29 (initial_differs first pp) else code 55 (length_differs first pp)))) ≡ None → (place : Place) × (pp ≡ Some place) × Like first place
of_place None first b h = absurd (true≢false (ap is_some h))
of_place (Some pl) first b h =
    let two = else_second (code 28 b) (code 29 (initial_differs first (Some pl)) else code 55 (length_differs first (Some pl))) h in
    let one = code_free 29 (initial_differs first (Some pl)) (else_first (code 29 (initial_differs first (Some pl))) (code 55 (length_differs first (Some pl))) two) in
    let last = code_free 55 (length_differs first (Some pl)) (else_second (code 29 (initial_differs first (Some pl))) (code 55 (length_differs first (Some pl))) two) in (
      pl,
      refl,
      λ f is.
          let i = eqb-true f.initial pl.initial (not_false (nat_eq f.initial pl.initial) (ap (λ o. initial_differs o (Some pl)) (sym is) ∙ one)) in
          let l = same_length f.length pl.length (ap (λ o. length_differs o (Some pl)) (sym is) ∙ last) in
          sym (ap₂ (λ (a : ℕ) (b : Option ℕ). record { initial = a; length = b }) i l),
    )

shared_free : (children : Children) (taken : Pairs) (first : Option Place) (part : List ℕ × List ℕ) → shared_code children taken first part ≡ None → (place : Place) × (part_place children part ≡ Some place) × Like first place
unfolding shared_code
shared_free children taken first part h = of_place (part_place children part) first (has_pair taken part) h

child_known : (children : Children) (earlier : ActNames) (child : List ℕ) → part_code children earlier child ≡ None → is_known children child ≡ true
unfolding part_code
child_known children earlier child h = not_false (is_known children child) (code_free 25 (not (is_known children child)) (else_first (code 25 (not (is_known children child))) (code 27 (is_known earlier child)) h))

choose : {G : Type 0} (b bp r : Bool) → ((b && bp) || r) ≡ true → (b ≡ true → bp ≡ true → G) → (r ≡ true → G) → G
choose true true r h here there = here refl refl
choose true false r h here there = there h
choose false bp r h here there = there h

-- the part of a share that has these numbers
pub record Part (children : Children) (first : Option Place) (c p : ℕ) : Type 0 where
  pub part : List ℕ × List ℕ
  pub known : is_known children part.0 ≡ true
  pub child : number children part.0 ≡ c
  pub at : number (child_places children part.0) part.1 ≡ p
  pub place : Place
  pub is : part_place children part ≡ Some place
  pub like : Like first place

part_of : (children : Children) (taken : Pairs) (first : Option Place) (earlier : ActNames) (ps : List (List ℕ × List ℕ)) (c p : ℕ) → Free (parts_entries children taken first earlier ps)
    → list_any (λ part. nat_eq part.0 c && nat_eq part.1 p) (map (part_numbers children) ps) ≡ true → Part children first c p
part_of children taken first earlier [] c p h k = absurd (true≢false (sym k))
part_of children taken first earlier (z ∷ ps) c p h k =
    choose (nat_eq (number children z.0) c) (nat_eq (number (child_places children z.0) z.1) p) (list_any (λ part. nat_eq part.0 c && nat_eq part.1 p) (map (part_numbers children) ps)) k
    (λ e f. let shared = shared_free children taken first z h.1.0 in
    record { part = z; known = child_known children earlier z.0 h.0; child = eqb-true (number children z.0) c e; at = eqb-true (number (child_places children z.0) z.1) p f; place = shared.0; is = shared.1; like = shared.2 })
    (part_of children taken first (declared earlier z.0 tt) ps c p h.1.1)

-- a share with a part has a first place
first_some : (children : Children) (taken : Pairs) (first : Option Place) (ps : List (List ℕ × List ℕ)) (c p : ℕ) → Free (parts_entries children taken first [] ps)
    → list_any (λ part. nat_eq part.0 c && nat_eq part.1 p) (map (part_numbers children) ps) ≡ true → (f : Place) × (first_place children ps ≡ Some f)
first_some children taken first [] c p h k = absurd (true≢false (sym k))
first_some children taken first (z ∷ ps) c p h k = let shared = shared_free children taken first z h.1.0 in (shared.0, shared.1)

parts_at : (children : Children) (shares : Places) (taken : Pairs) (n : ℕ) (ss : List ShareDecl) (k : ℕ) (s : ShareDecl) → Free (shares_entries children shares taken n ss) → slice_get ss k ≡ Some s → (t : Pairs) × Free (parts_entries children t (first_place children s.parts) [] s.parts)
parts_at children shares taken n [] k s h is = absurd (true≢false (sym (ap is_some is)))
parts_at children shares taken n (x ∷ ss) zero s h is =
    let same : x ≡ s = cc in (
      taken,
      subst (λ (u : ShareDecl). Free (parts_entries children taken (first_place children u.parts) [] u.parts)) same
          (free_left (parts_entries children taken (first_place children x.parts) [] x.parts) (shares_entries children (with_share children shares x) (all_paired taken x.parts) (n + 1) ss) h.1),
    )
parts_at children shares taken n (x ∷ ss) (suc k) s h is =
    parts_at children (with_share children shares x) (all_paired taken x.parts) (n + 1) ss k s (free_right (parts_entries children taken (first_place children x.parts) [] x.parts) (shares_entries children (with_share children shares x) (all_paired taken x.parts) (n + 1) ss) h.1) is

-- the model of a child, by its number
pub record Child (all before : Models) (children : List ChildDecl) (c : ℕ) (name : List ℕ) : Type 0 where
  pub decl : ChildDecl
  pub node : tree.node_of (map (child_of all) children) c ≡ number all decl.of
  pub known : is_known before decl.of ≡ true
  pub shows : found (all_children before [] children) name ≡ Some (shown_by before decl.of)

some_below : {A : Type 0} (xs : List A) (i : ℕ) (x : A) → slice_get xs i ≡ Some x → i < length xs
some_below [] i x h = absurd (true≢false (sym (ap is_some h)))
some_below (y ∷ xs) zero x h = omega arith
some_below (y ∷ xs) (suc i) x h = let below = some_below xs i x h in omega (arith, below)

child_at : (all known : Models) (children : List ChildDecl) (c : ℕ) (name : List ℕ) → Free (children_entries known [] 0 children) → is_known (all_children known [] children) name ≡ true → length (all_children known [] children) ≤ 4294967295
    → number (all_children known [] children) name ≡ c → Child all known children c name
child_at all known children c name h there few at =
    let table = all_children known [] children in
    let i = position_or_len (bytes_eq name) (keys_of table) in
    let st = stands_at table name there in
    let f : ChildDecl → List ℕ × Places = λ d. (d.name, shown_by known d.of) in
    let made = made_of f (slice_get children i) (name, st.0) (sym (slice_get-map f children i) ∙ ap (λ t. slice_get t i) (sym (children_listed known [] 0 children h)) ∙ st.1) in
    let at_i : c ≡ i = sym at ∙ number_is table name there few in
    let below = some_below children i made.0 made.1 in
    record {
      decl = made.0;
      node = ap (tree.node_of (map (child_of all) children)) at_i ∙ ap (λ (e : List ℕ × ℕ). e.1) (get_or_from_slice_get (map (child_of all) children) i (child_of all made.0) ([], 0) (slice_get-map (child_of all) children i ∙ ap (option_map (child_of all)) made.1));
      known = ap (λ (d : ChildDecl). is_known known d.of) (sym (get_or_from_slice_get children i made.0 made.0 made.1)) ∙ (children_free known [] 0 children (omega arith) h).1 i made.0 below;
      shows = st.2 ∙ ap (λ (e : List ℕ × Places). Some e.1) (sym made.2);
    }

join_keeps : (all known rest : Models) (children : List ChildDecl) (shares : List ShareDecl) (name : List ℕ) (n c p k : ℕ) → all ≡ known ++ rest → length all ≤ 4294967295 → FewShown known
    → slice_get all n ≡ Some (name, record { atomic = false; places = all_shares (all_children known [] children) [] shares; acts = [] })
    → Free (children_entries known [] 0 children) → Free (shares_entries (all_children known [] children) [] [] 0 shares) → length (all_children known [] children) ≤ 4294967295
    → position (tree.names c p) (map (share_of (all_children known [] children)) shares) ≡ Some k → shown_at all (tree.node_of (map (child_of all) children) c) p ≡ shown_at all n k
join_keeps all known rest children shares name n c p k is few shown at hc hs short h =
    let table = all_children known [] children in
    let none : Share = record { name = []; parts = [] } in
    let pos = position-Some (tree.names c p) (map (share_of table) shares) k none h in
    let got = slice_get-get_or (map (share_of table) shares) k none pos.0 in
    let made = made_of (share_of table) (slice_get shares k) (slice_index_or (map (share_of table) shares) k none) (sym (slice_get-map (share_of table) shares k) ∙ got) in
    let s = made.0 in
    let names = ap (tree.names c p) made.2 ∙ pos.1 in
    let free = parts_at table [] [] 0 shares k s hs made.1 in
    let part = part_of table free.0 (first_place table s.parts) [] s.parts c p free.1 names in
    let first = first_some table free.0 (first_place table s.parts) s.parts c p free.1 names in
    let child = child_at all known children c part.part.0 hc part.known short part.child in
    let v = shown_by known child.decl.of in
    let in_all : is_known all child.decl.of ≡ true = ap (λ (t : Models). is_known t child.decl.of) is ∙ ap is_some (found_front known rest child.decl.of child.known) ∙ child.known in
    let g : ShareDecl → List ℕ × Place = λ s. (s.name, shown_as (first_place table s.parts)) in
    let left : shown_at all (tree.node_of (map (child_of all) children) c) p ≡ Some part.place =
    ap (λ (m : ℕ). shown_at all m p) child.node ∙ shown_models all child.decl.of p in_all few ∙ ap (λ (t : Places). place_at t p) (shown_same known rest all child.decl.of is child.known)
    ∙ ap (place_at v) (sym part.at ∙ ap (λ (o : Option Places). number (unwrap_or o []) part.part.1) child.shows)
    ∙ place_number v part.part.1 part.place (ap (λ (o : Option Places). place_in o part.part.1) (sym child.shows) ∙ part.is) (let little = few_at known child.decl.of shown child.known in omega (arith, little)) in
    let right : shown_at all n k ≡ Some first.0 =
    ap (λ o. place_at (places_at o) k) at ∙ ap (λ (t : Places). place_at t k) (shares_listed table [] [] 0 shares hs)
    ∙ ap (option_map (λ (e : List ℕ × Place). e.1)) (slice_get-map g shares k ∙ ap (option_map g) made.1) ∙ ap (λ (o : Option Place). Some (shown_as o)) first.1 in
    left ∙ ap (λ (q : Place). Some q) (part.like first.0 first.1) ∙ sym right

shown_known : (places shares : Places) (n : ℕ) (ss : List (List ℕ)) (k : ℕ) (s : List ℕ) → Free (shown_entries places shares n ss) → slice_get ss k ≡ Some s → is_known places s ≡ true
unfolding shown_code
shown_known places shares n [] k s h is = absurd (true≢false (sym (ap is_some is)))
shown_known places shares n (x ∷ ss) zero s h is =
    let same : x ≡ s = cc in
    let rest = else_second (code 20 (is_known shares x)) (code 30 (not (is_known places x)) else code 44 (nat_le 1024 n)) h.0 in
    subst (λ (u : List ℕ). is_known places u ≡ true) same (not_false (is_known places x) (code_free 30 (not (is_known places x)) (else_first (code 30 (not (is_known places x))) (code 44 (nat_le 1024 n)) rest)))
shown_known places shares n (x ∷ ss) (suc k) s h is = shown_known places (with_shown places shares x) (n + 1) ss k s h.1 is

rep_keeps : (all known rest : Models) (of : List ℕ) (shares : List (List ℕ)) (name : List ℕ) (n p k : ℕ) → all ≡ known ++ rest → length all ≤ 4294967295 → FewShown known → is_known known of ≡ true
    → slice_get all n ≡ Some (name, record { atomic = false; places = all_shown (shown_by known of) [] shares; acts = [] }) → Free (shown_entries (shown_by known of) [] 0 shares)
    → position (λ q. nat_eq q p) (map (number (shown_by known of)) shares) ≡ Some k → shown_at all (number all of) p ≡ shown_at all n k
rep_keeps all known rest of shares name n p k is few shown there at hs h =
    let places = shown_by known of in
    let pos = position-Some (λ q. nat_eq q p) (map (number places) shares) k 0 h in
    let made = made_of (number places) (slice_get shares k) (slice_index_or (map (number places) shares) k 0) (sym (slice_get-map (number places) shares k) ∙ slice_get-get_or (map (number places) shares) k 0 pos.0) in
    let s = made.0 in
    let at_p : number places s ≡ p = made.2 ∙ eqb-true (slice_index_or (map (number places) shares) k 0) p pos.1 in
    let st = stands_at places s (shown_known places [] 0 shares k s hs made.1) in
    let in_all : is_known all of ≡ true = ap (λ (t : Models). is_known t of) is ∙ ap is_some (found_front known rest of there) ∙ there in
    let g : List ℕ → List ℕ × Place = λ s. (s, shown_as (found places s)) in
    shown_models all of p in_all few ∙ ap (λ (t : Places). place_at t p) (shown_same known rest all of is there) ∙ ap (place_at places) (sym at_p)
    ∙ place_number places s st.0 st.2 (let little = few_at known of shown there in omega (arith, little))
    ∙ sym (ap (λ o. place_at (places_at o) k) at ∙ ap (λ (t : Places). place_at t k) (shown_listed places [] 0 shares hs)
    ∙ ap (option_map (λ (e : List ℕ × Place). e.1)) (slice_get-map g shares k ∙ ap (option_map g) made.1) ∙ ap (λ (o : Option Place). Some (shown_as o)) st.2)

-- one node keeps what its children show
abbrev KeepsAt : Models → Node → ℕ → Type 0
KeepsAt all m n = (c p k : ℕ) → tree.shared_as m c p ≡ Some k → shown_at all (tree.child_of m c) p ≡ shown_at all n k

node_keeps : (all known rest : Models) (atomics : ℕ) (m : ModelDecl) (name : List ℕ) (n : ℕ) → all ≡ known ++ rest → length all ≤ 4294967295 → FewShown known → slice_get all n ≡ Some (name, known_of known m) → Free (model_entries known m) → KeepsAt all (node_of all atomics m) n
unfolding model_entries node_of known_of model_code
node_keeps all known rest atomics (model.Atomic nm places acts) name n is few shown at h c p k e = absurd (true≢false (sym (ap is_some e)))
node_keeps all known rest atomics (model.Join nm children shares) name n is few shown at h c p k e =
    let left = children_entries known [] 0 children in
    let right = shares_entries (all_children known [] children) [] [] 0 shares in
    let hc = free_left left right h in
    let cs = children_free known [] 0 children (omega arith) hc in
    let same = children_same known rest all [] children is cs.1 in
    let short = all_few known [] children in
    join_keeps all known rest children shares name n c p k is few shown at hc (free_right left right h) (omega (arith, short, cs.0)) (ap (λ (t : Children). position (tree.names c p) (map (share_of t) shares)) (sym same) ∙ e)
  where
    all_few : (models : Models) (children : Children) (cs : List ChildDecl) → length (all_children models children cs) ≤ length children + length cs
    all_few models children [] = omega arith
    all_few models children (c ∷ cs) =
        let one = (grows children c.name (shown_by models c.of)).2 in
        let more = all_few models (declared children c.name (shown_by models c.of)) cs in
        omega (arith, one, more)
node_keeps all known rest atomics (model.Rep nm of times shares) name n is few shown at h c p k e =
    let there = not_false (is_known known of) (code_free 22 (not (is_known known of)) h.0) in
    rep_keeps all known rest of shares name n p k is few shown there at h.1.1 (ap (λ (t : Places). position (λ q. nat_eq q p) (map (number t) shares)) (sym (shown_same known rest all of is there)) ∙ e)

at_end : {A : Type 0} (t rest : List A) (x : A) → slice_get (t ++ x ∷ rest) (length t) ≡ Some x
at_end [] rest x = refl
at_end (y ∷ t) rest x = at_end t rest x

one_longer : {A : Type 0} (t : List A) (x : A) → length (t ++ x ∷ []) ≡ suc (length t)
one_longer [] x = refl
one_longer (y ∷ t) x = ap suc (one_longer t x)

split : {A : Type 0} (t rest : List A) (x : A) → (t ++ x ∷ []) ++ rest ≡ t ++ x ∷ rest
split [] rest x = refl
split (y ∷ t) rest x = ap (λ u. y ∷ u) (split t rest x)

-- a model of this name isn't known before it
new_model : (known : Models) (n : ℕ) (m : ModelDecl) (ms : List ModelDecl) → Free (models_entries known n (m ∷ ms)) → with_model known m ≡ known ++ (name_of m, known_of known m) ∷ []
unfolding name_code
new_model known n m ms f = declared_last known (name_of m) (known_of known m) (code_free 20 (is_known known (name_of m)) (else_first (code 20 (is_known known (name_of m))) (code 42 (nat_le 256 n)) f.0))

-- a model stands behind those before it
pub model_at : (all known : Models) (n : ℕ) (m : ModelDecl) (ms : List ModelDecl) → all ≡ all_models known (m ∷ ms) → length known ≡ n → Free (models_entries known n (m ∷ ms)) → slice_get all n ≡ Some (name_of m, known_of known m)
model_at all known n m ms is long f =
    let more = models_grow (with_model known m) ms in
    let listed = is ∙ more.1 ∙ ap (λ (t : Models). t ++ more.0) (new_model known n m ms f) ∙ split known more.0 (name_of m, known_of known m) in
    ap₂ (λ (t : Models) (j : ℕ). slice_get t j) listed (sym long) ∙ at_end known more.0 (name_of m, known_of known m)

pub one_model_more : (known : Models) (n : ℕ) (m : ModelDecl) (ms : List ModelDecl) → length known ≡ n → Free (models_entries known n (m ∷ ms)) → length (with_model known m) ≡ n + 1
one_model_more known n m ms long f = let longer = ap length (new_model known n m ms f) ∙ one_longer known (name_of m, known_of known m) in omega (arith, longer, long)

nodes_keep : (all known : Models) (n atomics : ℕ) (ms : List ModelDecl) → all ≡ all_models known ms → length known ≡ n → length all ≤ 4294967295 → FewShown known → Free (models_entries known n ms) → (i : ℕ) → KeepsAt all (tree.node_at (nodes_from all atomics ms) i) (n + i)
nodes_keep all known n atomics [] is long few shown h i c p k e = absurd (true≢false (sym (ap is_some e)))
nodes_keep all known n atomics (m ∷ ms) is long few shown h zero c p k e =
    let grown = models_grow known (m ∷ ms) in
    subst (λ j. shown_at all (tree.child_of (node_of all atomics m) c) p ≡ shown_at all j k) (omega arith)
    (node_keeps all known grown.0 atomics m (name_of m) n (is ∙ grown.1) few shown (model_at all known n m ms is long h) (free_left (model_entries known m) (models_entries (with_model known m) (n + 1) ms) h.1) c p k e)
nodes_keep all known n atomics (m ∷ ms) is long few shown h (suc i) c p k e =
    let little = known_few known m (free_left (model_entries known m) (models_entries (with_model known m) (n + 1) ms) h.1) in
    let shown_more = subst FewShown (sym (new_model known n m ms h)) (few_push known (name_of m, known_of known m) shown little) in
    subst (λ j. shown_at all (tree.child_of (tree.node_at (nodes_from all (atomics_after atomics m) ms) i) c) p ≡ shown_at all j k) (omega arith)
    (nodes_keep all (with_model known m) (n + 1) (atomics_after atomics m) ms is (one_model_more known n m ms long h) few shown_more (free_right (model_entries known m) (models_entries (with_model known m) (n + 1) ms) h.1) i c p k e)

pub keeps : (s : Syntax) → syntax_fault s ≡ None → tree.Keeps (nodes_of s) (shown_of s)
unfolding syntax_entries nodes_of shown_of
keeps s h n c p k e =
    let all = all_models [] s.models in
    let free = (free_of 0 (syntax_entries s) h).1 in
    let models = free_left (models_entries [] 0 s.models) (model_code all s.system ∷ rewards_entries all [] 0 s.rewards) free in
    let many = models_few [] s.models in
    let few = models_free [] 0 s.models (omega arith) models in
    let from_zero : 0 + n ≡ n = omega arith in
    subst (λ (j : ℕ). shown_at all (tree.child_of (tree.node_at (nodes_from all 0 s.models) n) c) p ≡ shown_at all j k) from_zero (nodes_keep all [] 0 0 s.models refl refl (omega (arith, many, few)) none_shown models n c p k e)
