-- The least timer of all leaves, by a tree over their keys.
use Rattle.std.proofs.Common.{ℕ, zero, suc, ◌<◌, ◌≡◌, ◌≢◌, ◌⊎◌, inl, inr, ◌∙◌, ap, sym, refl, arith, Bool, true, false, nat_lt, cond, List, [], ◌∷◌, length, map, replicate, Option, Some, None, slice_index_or, slice_set}
use Rattle.std.specs.Option.{option_map}
use Rattle.std.proofs.lemmas.List.{get_or-set_other, get_or-set_same, length-map, length-set, map-set, set-get_or, set-set}
use Rattle.san_law.specs.Net.{Row, least_timer, least_timer_from, no_row, without_timer}
use Rattle.san_law.specs.Renewal as law
use Rattle.san_law.specs.State.{blank_row, repeated}
use Rattle.san_net.specs.declared.part.Part.{Part}
use Rattle.san_winner.specs.Least as tree
use Rattle.san_base.specs.declared.numbers.LeafId.{LeafId}
use Rattle.std.proofs.lemmas.Bool.{cases_eq}
use Rattle.san_seq.specs.inner.Dues.{AreDues, first_due}
use Rattle.san_seq.specs.inner.Openings.{rows_of}
use Rattle.san_seq.specs.inner.Rows.{row_at}
use Rattle.san_seq.proofs.RangeLemmas.{due_is, due_within}
use Rattle.san_seq.proofs.RowLemmas.{any_row}
use Rattle.san_seq.proofs.StateLemmas.{put_same}

-- a timer's time and leaf, as the tree tells them
abbrev pub won_by : law.Due → ℕ × ℕ
won_by d = (d.time, d.leaf)

and_leaf : (j : ℕ) (t : Option (ℕ × ℕ)) (rest : Option law.Due) → tree.sooner (tree.leaf j (option_map (λ (d : ℕ × ℕ). d.0) t)) (option_map won_by rest) ≡ option_map won_by (law.and_sooner j t rest)
and_leaf j None rest = refl
and_leaf j (Some d) None = refl
and_leaf j (Some d) (Some e) = by_test (nat_lt e.time d.0)
  where
    by_test : (b : Bool) → (let o : tree.Won = cond b (Some (won_by e)) (Some (d.0, j)) in o) ≡ option_map won_by (let o : Option law.Due = cond b (Some e) (Some (record { time = d.0; leaf = j; act = d.1 })) in o)
    by_test true = refl
    by_test false = refl

-- the least of the leaves' keys, of equal ones the first, is of the law's least timer
pub keys_are : (j : ℕ) (rows : List Row) → tree.least_from j (map first_due rows) ≡ option_map won_by (law.least_from j (map least_timer rows))
unfolding tree.least_from
keys_are j [] = refl
keys_are j (r ∷ rs) = ap (tree.sooner (tree.leaf j (first_due r))) (keys_are (suc j) rs) ∙ and_leaf j (least_timer r) (law.least_from (suc j) (map least_timer rs))

-- the law's least timer is the least of this leaf's
pub record IsOfLeaf (rows : List Row) (leaf : ℕ) : Type 0 where
  pub within : leaf < length rows
  pub is : law.least_from 0 (map least_timer rows) ≡ law.and_sooner leaf (least_timer (row_at rows leaf)) None

pub of_leaf : (rows : List Row) (keys : List (Option ℕ)) (w : ℕ × ℕ) → keys ≡ map first_due rows → tree.least_from 0 keys ≡ Some w → IsOfLeaf rows w.1
of_leaf rows keys w same won = by_least (law.least_from 0 (map least_timer rows)) refl (sym won ∙ ap (tree.least_from 0) same ∙ keys_are 0 rows)
  where
    same_won : (x y : ℕ × ℕ) → (let o : Option (ℕ × ℕ) = Some x in o) ≡ Some y → x ≡ y
    same_won x y e = cc

    by_least : (o : Option law.Due) → law.least_from 0 (map least_timer rows) ≡ o → (let won : tree.Won = Some w in won) ≡ option_map won_by o → IsOfLeaf rows w.1
    by_least None is e = absurd cc
    by_least (Some d) is e =
        let leaf : w.1 ≡ d.leaf = ap (λ (x : ℕ × ℕ). x.1) (same_won w (won_by d) e) in
        let inside = (due_within rows d is).0 in
        record {
          within = omega (arith, leaf, inside);
          is = is ∙ ap (λ (t : Option (ℕ × ℕ)). law.and_sooner d.leaf t None) (sym (due_is rows d is))
              ∙ ap (λ (j : ℕ). law.and_sooner j (least_timer (row_at rows j)) None) (sym leaf);
        }

-- without a key there is no timer
pub none_due : (rows : List Row) (keys : List (Option ℕ)) → keys ≡ map first_due rows → tree.least_from 0 keys ≡ None → (let o : Option law.Due = None in o) ≡ law.least_from 0 (map least_timer rows)
none_due rows keys same none = by_least (law.least_from 0 (map least_timer rows)) (sym none ∙ ap (tree.least_from 0) same ∙ keys_are 0 rows)
  where
    by_least : (o : Option law.Due) → (let won : tree.Won = None in won) ≡ option_map won_by o → (let x : Option law.Due = None in x) ≡ o
    by_least None e = refl
    by_least (Some d) e = absurd cc

-- before the first step no leaf has a key
no_timer : (i k : ℕ) → least_timer_from i (repeated k None) ≡ None
no_timer i zero = refl
no_timer i (suc k) = no_timer (suc i) k

none_blank : (k : ℕ) → first_due (blank_row k) ≡ None
unfolding least_timer
none_blank k = ap (option_map (λ (d : ℕ × ℕ). d.0)) (no_timer 0 k)

none_begin : (ps : List Part) → (let ks : List (Option ℕ) = replicate (length ps) None in ks) ≡ map first_due (rows_of ps)
none_begin [] = refl
none_begin (p ∷ ps) =
    ap (λ (x : Option ℕ). x ∷ replicate (length ps) None) (sym (none_blank (length p.atomic.acts)))
    ∙ ap (λ (ks : List (Option ℕ)). first_due (blank_row (length p.atomic.acts)) ∷ ks) (none_begin ps)

pub keys_begin : (ps : List Part) (keys : List (Option ℕ)) (count : ℕ) (rows : List Row) → keys ≡ replicate count None → count ≡ length ps → rows ≡ rows_of ps → keys ≡ map first_due rows
keys_begin ps keys count rows is many begun = is ∙ ap (λ (k : ℕ). (let ks : List (Option ℕ) = replicate k None in ks)) many ∙ none_begin ps ∙ ap (map first_due) (sym begun)

-- a key that stays needn't be set
pub key_kept : (keys : List (Option ℕ)) (j : ℕ) (key due : Option ℕ) → key ≡ slice_index_or keys j None → key ≡ due → keys ≡ slice_set keys j due
key_kept keys j key due is same = sym (set-get_or keys j None) ∙ ap (slice_set keys j) (sym is ∙ same)

-- the keys are those of the rows still where a row keeps its timers
same_due : (new old : Row) → new.timers ≡ old.timers → first_due new ≡ first_due old
unfolding least_timer
same_due new old e = ap (λ (ts : List (Option Rattle.san_law.specs.Net.Timer)). option_map (λ (d : ℕ × ℕ). d.0) (least_timer_from 0 ts)) e

pub keys_stay : (keys : List (Option ℕ)) (rows : List Row) (j : ℕ) (old new : Row) → keys ≡ map first_due rows → old ≡ slice_index_or rows j old → new.timers ≡ old.timers → keys ≡ map first_due (slice_set rows j new)
keys_stay keys rows j old new are is same =
    are ∙ ap (map first_due) (sym (put_same rows j old old is)) ∙ map-set first_due rows j old
    ∙ ap (slice_set (map first_due rows) j) (sym (same_due new old same)) ∙ sym (map-set first_due rows j new)

-- the keys, one of which may be behind
pub dues_sized : (behind : Option LeafId) (dues : List (Option ℕ)) (rows : List Row) → AreDues behind dues rows → length dues ≡ length rows
dues_sized None dues rows is = ap length is ∙ length-map rows first_due
dues_sized (Some leaf) dues rows is = sym (length-set dues leaf.0 (first_due (row_at rows leaf.0))) ∙ ap length is.1 ∙ length-map rows first_due

-- those of the leaves but one are right
abbrev pub AreOthers : ℕ → List (Option ℕ) → List Row → Type 0
AreOthers j dues rows = (due : Option ℕ) → slice_set dues j due ≡ slice_set (map first_due rows) j due

pub others_behind : (leaf : LeafId) (j : ℕ) (dues : List (Option ℕ)) (rows : List Row) → AreDues (Some leaf) dues rows → leaf.0 ≡ j → AreOthers j dues rows
others_behind leaf j dues rows is same due =
    sym (set-set dues j (first_due (row_at rows leaf.0)) due)
    ∙ ap (λ (k : ℕ). slice_set (slice_set dues k (first_due (row_at rows leaf.0))) j due) (sym same)
    ∙ ap (λ (ks : List (Option ℕ)). slice_set ks j due) is.1

pub others_right : (j : ℕ) (dues : List (Option ℕ)) (rows : List Row) → dues ≡ map first_due rows → AreOthers j dues rows
others_right j dues rows is due = ap (λ (ks : List (Option ℕ)). slice_set ks j due) is

pub others_sized : (j : ℕ) (dues : List (Option ℕ)) (rows : List Row) → AreOthers j dues rows → length dues ≡ length rows
others_sized j dues rows others = sym (length-set dues j None) ∙ ap length (others None) ∙ length-set (map first_due rows) j None ∙ length-map rows first_due

-- then all are once its own is set
pub dues_set : (j : ℕ) (dues : List (Option ℕ)) (rows : List Row) (row : Row) → AreOthers j dues rows → slice_set dues j (first_due row) ≡ map first_due (slice_set rows j row)
dues_set j dues rows row others = others (first_due row) ∙ sym (map-set first_due rows j row)

-- and while it isn't, it is behind
pub dues_behind : (leaf : LeafId) (dues : List (Option ℕ)) (rows : List Row) (row : Row) → leaf.0 < length rows → AreOthers leaf.0 dues rows → AreDues (Some leaf) dues (slice_set rows leaf.0 row)
dues_behind leaf dues rows row h others = (
  omega (arith, h, length-set rows leaf.0 row),
  ap (λ (r : Row). slice_set dues leaf.0 (first_due r)) (get_or-set_same rows leaf.0 row no_row h) ∙ dues_set leaf.0 dues rows row others,
)

-- where a row keeps its timers they stay
pub dues_stay : (behind : Option LeafId) (dues : List (Option ℕ)) (rows : List Row) (j : ℕ) (old new : Row) → AreDues behind dues rows → j < length rows → old ≡ slice_index_or rows j old → new.timers ≡ old.timers → AreDues behind dues (slice_set rows j new)
dues_stay None dues rows j old new are h is same = keys_stay dues rows j old new are is same
dues_stay (Some leaf) dues rows j old new are h is same = (
  omega (arith, are.0, length-set rows j new),
  ap (slice_set dues leaf.0) (key (cases_eq leaf.0 j)) ∙ are.1 ∙ keys_stay (map first_due rows) rows j old new refl is same,
)
  where
    key : (leaf.0 ≡ j) ⊎ (leaf.0 ≢ j) → first_due (row_at (slice_set rows j new) leaf.0) ≡ first_due (row_at rows leaf.0)
    key (inl e) =
        ap (λ (k : ℕ). first_due (row_at (slice_set rows j new) k)) e ∙ ap first_due (get_or-set_same rows j new no_row h) ∙ same_due new old same
        ∙ ap first_due (is ∙ any_row rows j old no_row h) ∙ ap (λ (k : ℕ). first_due (row_at rows k)) (sym e)
    key (inr n) = ap first_due (get_or-set_other rows j leaf.0 new no_row n)

-- a leaf's row that is lent and put back
module _ (rows now : List Row) (j : ℕ) (old new : Row) (is : old ≡ slice_index_or rows j old) (same : rows ≡ now) (h : j < length now) where
  pub was_there : old ≡ row_at now j
  was_there = is ∙ ap (λ (rs : List Row). slice_index_or rs j old) same ∙ any_row now j old no_row h

  pub put_there : row_at (slice_set rows j new) j ≡ new
  put_there = ap (λ (rs : List Row). row_at (slice_set rs j new) j) same ∙ get_or-set_same now j new no_row h

  pub others_stay : slice_set rows j new ≡ slice_set now j (row_at (slice_set rows j new) j)
  others_stay = ap (λ (rs : List Row). slice_set rs j new) same ∙ ap (slice_set now j) (sym put_there)

pub timers_dropped : (r : Row) (k : ℕ) → length (without_timer r k).timers ≡ length r.timers
unfolding without_timer
timers_dropped r k = length-set r.timers k None
