-- The shares of a syntax without a fault have at most one place of each child.
use Rattle.san_base.proofs.Bools.{not_false}
use Rattle.std.proofs.Common.{◌≡◌, ℕ, zero, suc, ◌+◌, ◌≤◌, Bool, true, false, not, ◌&&◌, ◌||◌, nat_eq, List, [], ◌∷◌, ◌++◌, length, map, Option, None, refl, sym, ap, subst, ◌∙◌, true≢false, arith}
use Rattle.std.proofs.lemmas.Bool.{eqb-true}
use Rattle.std.proofs.lemmas.List.Elements.{All-map, All-cons}
use Rattle.std.specs.List.{All, list_any}
use Rattle.san_text.specs.declared.syntax.Syntax.{Syntax}
use Rattle.san_text.specs.declared.syntax.ModelDecl.{ModelDecl}
use Rattle.san_text.specs.declared.syntax.ModelDecl.TheVariants as model
use Rattle.san_text.specs.declared.syntax.ChildDecl.{ChildDecl}
use Rattle.san_text.specs.declared.syntax.ShareDecl.{ShareDecl}
use Rattle.san_tree.specs.Places.{node_at, shares_of, NamesOnce, SharesApart}
use Rattle.san_tree.proofs.ShareLemmas.{shares-apart}
use Rattle.san_check.specs.declared.place.Place.{Place}
use Rattle.san_check.specs.Tables.{Pairs, is_known, declared, all_paired}
use Rattle.san_check.specs.walk.Entries.{code}
use Rattle.san_check.specs.walk.Expression.{Places}
use Rattle.san_check.specs.walk.Activity.{ActNames}
use Rattle.san_check.specs.walk.Composition.{Models, Children, children_entries, with_child, all_children, shown_by, nothing, part_code, parts_entries, first_place, shares_entries, with_share, model_entries, models_entries, with_model, all_models, model_code}
use Rattle.san_check.specs.walk.Reward.{rewards_entries}
use Rattle.san_check.specs.walk.Model.{syntax_entries, syntax_fault}
use Rattle.san_check.specs.build.Composition.{number, part_numbers, share_of, node_of, atomics_after, nodes_from, nodes_of}
use Rattle.san_check.proofs.FreeLemmas.{Free, free_of, free_left, free_right, code_free, else_first, else_second}
use Rattle.san_check.proofs.TreeLemmas.{models_grow, grows, children_free}
use Rattle.san_check.proofs.NumberLemmas.{numbers_apart, found_front, known_itself, known_stays}
use Rattle.std.specs.Prelude.{unwrap_or}

-- a part's child is the join's, and in no earlier part
part_free : (children : Children) (earlier : ActNames) (child : List ℕ) → part_code children earlier child ≡ None → (is_known children child ≡ true) × (is_known earlier child ≡ false)
unfolding part_code
part_free children earlier child h =
    let one = else_first (code 25 (not (is_known children child))) (code 27 (is_known earlier child)) h in
    let two = else_second (code 25 (not (is_known children child))) (code 27 (is_known earlier child)) h in
    (not_false (is_known children child) (code_free 25 (not (is_known children child)) one), code_free 27 (is_known earlier child) two)

neither : (b x r : Bool) → (b ≡ true → ⊥) → r ≡ false → ((b && x) || r) ≡ false
neither true x r h k = absurd (h refl)
neither false x r h k = k

-- a child of an earlier part stands in no later one
no_more : (children : Children) (taken : Pairs) (first : Option Place) (earlier : ActNames) (ps : List (List ℕ × List ℕ)) (n : List ℕ) (c q : ℕ) → length children ≤ 4294967295 → Free (parts_entries children taken first earlier ps)
    → is_known earlier n ≡ true → is_known children n ≡ true → c ≡ number children n → list_any (λ part. nat_eq part.0 c && nat_eq part.1 q) (map (part_numbers children) ps) ≡ false
no_more children taken first earlier [] n c q few h ke kc is = refl
no_more children taken first earlier (y ∷ ps) n c q few h ke kc is =
    let fresh = part_free children earlier y.0 h.0 in
    neither (nat_eq (number children y.0) c) (nat_eq (part_numbers children y).1 q) _
    (λ e. true≢false (sym ke ∙ ap (is_known earlier) (sym (numbers_apart children y.0 n few fresh.0 kc (eqb-true (number children y.0) c e ∙ is))) ∙ fresh.1))
    (no_more children taken first (declared earlier y.0 tt) ps n c q few h.1.1 (known_stays earlier y.0 n tt ke) kc is)

pick : {G : Type 0} (b bp bq rp rq : Bool) → ((b && bp) || rp) ≡ true → ((b && bq) || rq) ≡ true → (bp ≡ true → bq ≡ true → G) → (b ≡ true → rp ≡ false) → (b ≡ true → rq ≡ false) → (rp ≡ true → rq ≡ true → G) → G
pick true true true rp rq hp hq both np nq tail = both refl refl
pick true true false rp rq hp hq both np nq tail = absurd (true≢false (sym hq ∙ nq refl))
pick true false bq rp rq hp hq both np nq tail = absurd (true≢false (sym hp ∙ np refl))
pick false bp bq rp rq hp hq both np nq tail = tail hp hq

once : (children : Children) (taken : Pairs) (first : Option Place) (earlier : ActNames) (ps : List (List ℕ × List ℕ)) (c p q : ℕ) → length children ≤ 4294967295 → Free (parts_entries children taken first earlier ps)
    → list_any (λ part. nat_eq part.0 c && nat_eq part.1 p) (map (part_numbers children) ps) ≡ true → list_any (λ part. nat_eq part.0 c && nat_eq part.1 q) (map (part_numbers children) ps) ≡ true → p ≡ q
once children taken first earlier [] c p q few h hp hq = absurd (true≢false (sym hp))
once children taken first earlier (y ∷ ps) c p q few h hp hq =
    let fresh = part_free children earlier y.0 h.0 in
    let rest = λ (x : ℕ) (e : nat_eq (number children y.0) c ≡ true). no_more children taken first (declared earlier y.0 tt) ps y.0 c x few h.1.1 (known_itself earlier y.0 tt) fresh.0 (sym (eqb-true (number children y.0) c e)) in
    pick (nat_eq (number children y.0) c) (nat_eq (part_numbers children y).1 p) (nat_eq (part_numbers children y).1 q) _ _ hp hq
    (λ a b. sym (eqb-true (part_numbers children y).1 p a) ∙ eqb-true (part_numbers children y).1 q b)
    (rest p) (rest q)
    (once children taken first (declared earlier y.0 tt) ps c p q few h.1.1)

shares_once : (children : Children) (shares : Places) (taken : Pairs) (n : ℕ) (ss : List ShareDecl) → length children ≤ 4294967295 → Free (shares_entries children shares taken n ss) → All (λ s. NamesOnce (share_of children s)) ss
shares_once children shares taken n [] few h = λ k d bad. absurd (omega arith)
shares_once children shares taken n (s ∷ ss) few h =
    let parts = parts_entries children taken (first_place children s.parts) [] s.parts in
    let behind = shares_entries children (with_share children shares s) (all_paired taken s.parts) (n + 1) ss in
    All-cons (λ s. NamesOnce (share_of children s)) s ss (λ c p q. once children taken (first_place children s.parts) [] s.parts c p q few (free_left parts behind h.1))
    (shares_once children (with_share children shares s) (all_paired taken s.parts) (n + 1) ss few (free_right parts behind h.1))

-- a model that is known shows what it did
pub shown_same : (known rest all : Models) (name : List ℕ) → all ≡ known ++ rest → is_known known name ≡ true → shown_by all name ≡ shown_by known name
shown_same known rest all name is h = ap (λ (t : Models). shown_by t name) is ∙ ap (λ o. (unwrap_or o nothing).places) (found_front known rest name h)

pub children_same : (known rest all : Models) (children : Children) (cs : List ChildDecl) → all ≡ known ++ rest → All (λ c. is_known known c.of ≡ true) cs → all_children all children cs ≡ all_children known children cs
children_same known rest all children [] is h = refl
children_same known rest all children (c ∷ cs) is h =
    ap (λ (places : Places). all_children all (declared children c.name places) cs) (shown_same known rest all c.of is (h 0 c (omega arith)))
    ∙ children_same known rest all (with_child known children c) cs is (λ k d lt. h (suc k) d (omega (arith, lt)))

children_few : (models : Models) (children : Children) (cs : List ChildDecl) → length (all_children models children cs) ≤ length children + length cs
children_few models children [] = omega arith
children_few models children (c ∷ cs) =
    let one = (grows children c.name (shown_by models c.of)).2 in
    let more = children_few models (with_child models children c) cs in
    omega (arith, one, more)

node_once : (all known rest : Models) (atomics : ℕ) (m : ModelDecl) → all ≡ known ++ rest → Free (model_entries known m) → All NamesOnce (shares_of (node_of all atomics m))
unfolding model_entries node_of
node_once all known rest atomics (model.Atomic name places acts) is h = λ k d bad. absurd (omega arith)
node_once all known rest atomics (model.Rep name of times shares) is h = λ k d bad. absurd (omega arith)
node_once all known rest atomics (model.Join name children shares) is h =
    let left = children_entries known [] 0 children in
    let right = shares_entries (all_children known [] children) [] [] 0 shares in
    let cs = children_free known [] 0 children (omega arith) (free_left left right h) in
    let few = children_few known [] children in
    subst (λ (table : Children). All NamesOnce (map (share_of table) shares)) (sym (children_same known rest all [] children is cs.1))
    (All-map NamesOnce (share_of (all_children known [] children)) shares (shares_once (all_children known [] children) [] [] 0 shares (omega (arith, few, cs.0)) (free_right left right h)))

nodes_once : (all known : Models) (k atomics : ℕ) (ms : List ModelDecl) → all ≡ all_models known ms → Free (models_entries known k ms) → (i : ℕ) → All NamesOnce (shares_of (node_at (nodes_from all atomics ms) i))
nodes_once all known k atomics [] is h i = λ j d bad. absurd (omega arith)
nodes_once all known k atomics (m ∷ ms) is h zero =
    let grown = models_grow known (m ∷ ms) in
    node_once all known grown.0 atomics m (is ∙ grown.1) (free_left (model_entries known m) (models_entries (with_model known m) (k + 1) ms) h.1)
nodes_once all known k atomics (m ∷ ms) is h (suc i) =
    nodes_once all (with_model known m) (k + 1) (atomics_after atomics m) ms is (free_right (model_entries known m) (models_entries (with_model known m) (k + 1) ms) h.1) i

-- no two places of one child become one place
pub apart : (s : Syntax) → syntax_fault s ≡ None → (n : ℕ) → SharesApart (node_at (nodes_of s) n)
unfolding syntax_entries nodes_of
apart s h n =
    let all = all_models [] s.models in
    let free = (free_of 0 (syntax_entries s) h).1 in
    let models = free_left (models_entries [] 0 s.models) (model_code all s.system ∷ rewards_entries all [] 0 s.rewards) free in
    shares-apart (node_at (nodes_from all 0 s.models) n) (nodes_once all [] 0 0 s.models refl models n)
