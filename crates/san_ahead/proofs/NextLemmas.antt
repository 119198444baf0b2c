-- The last piece of a chain, and the version of another leaf that comes next.
use Rattle.std.proofs.Common.{ℕ, zero, suc, ◌<◌, ◌≤◌, ◌≡◌, ◌∙◌, ap, sym, subst, refl, arith, List, [], ◌∷◌, length, map, drop, Option, Some, None}
use Rattle.std.specs.Prelude.{slice_index, slice_index_or}
use Rattle.std.proofs.lemmas.List.{get_or_past, length-map}
use Rattle.san_base.proofs.SameLemmas.{at_any}
use Rattle.san_book.specs.Chains.{Chain}
use Rattle.san_book.specs.Lines as book
use Rattle.san_book.specs.Lines.{Line, line_of}
use Rattle.san_book.specs.Nets.{shared_in}
use Rattle.san_book.specs.Plans.{next_version, numbers_of}
use Rattle.san_chain.specs.Chains.{ChainValue}
use Rattle.san_law.specs.Net.{Private, Shared, Slot}
use Rattle.san_leaf.specs.Pieces.{PieceValue}
use Rattle.san_line.specs.Lines.{LineValue, next_after}
use Rattle.san_line.specs.declared.version.Version.{Version}
use Rattle.san_net.specs.Leaf.{slot_in}
use Rattle.san_net.specs.declared.part.Slot as code
use Rattle.san_ahead.specs.Ahead.{AheadValue, ahead_by, last_of, last_or}
use Rattle.san_ahead.specs.Aheads.{line_in, no_line, or_version}
use Rattle.san_ahead.proofs.AheadLemmas.{line_versions}

-- the piece at the last index
last_from : (o : Option PieceValue) (xs : Chain PieceValue) (k : ℕ) (x : ℕ × PieceValue) → suc k ≡ length xs → x ≡ slice_index_or xs k x → last_or o xs ≡ Some x.1
last_from o [] k x l e = absurd (omega (arith, l))
last_from o (y ∷ []) zero x l e = ap (λ (z : ℕ × PieceValue). (let p : Option PieceValue = Some z.1 in p)) (sym e)
last_from o (y ∷ []) (suc k) x l e = absurd (omega (arith, l))
last_from o (y ∷ (z ∷ zs)) zero x l e = absurd (omega (arith, l))
last_from o (y ∷ (z ∷ zs)) (suc k) x l e = last_from (Some y.1) (z ∷ zs) k x (omega (arith, l)) e

pub last_at : (xs : Chain PieceValue) (k : ℕ) (x : ℕ × PieceValue) → suc k ≡ length xs → x ≡ slice_index_or xs k x → last_of xs ≡ Some x.1
last_at xs k x l e = last_from None xs k x l e

-- one cell more
slot_more : (lines : List Line) (j after : ℕ) (s : Slot) (ss : List Slot) → or_version lines j after s (next_version lines j after (shared_in ss)) ≡ next_version lines j after (shared_in (s ∷ ss))
slot_more lines j after (Private q) ss = refl
slot_more lines j after (Shared q) ss = refl

pub versions_more : (lines : List Line) (j after : ℕ) (xs : List code.Slot) (k : ℕ) (x : code.Slot) → x ≡ slice_index_or xs k x → k < length xs
    → or_version lines j after (slot_in x) (next_version lines j after (shared_in (map slot_in (drop (suc k) xs)))) ≡ next_version lines j after (shared_in (map slot_in (drop k xs)))
versions_more lines j after [] k x e l = absurd (omega (arith, l))
versions_more lines j after (y ∷ ys) zero x e l = ap (λ (z : code.Slot). or_version lines j after (slot_in z) (next_version lines j after (shared_in (map slot_in ys)))) e ∙ slot_more lines j after (slot_in y) (map slot_in ys)
versions_more lines j after (y ∷ ys) (suc k) x e l = versions_more lines j after ys k x e (omega (arith, l))

-- the number of a leaf's next piece
pub number_is : (cs : List (ChainValue PieceValue)) (ks : List ℕ) (ls : List LineValue) (v : AheadValue) → ahead_by cs ks ls ≡ v → (j pos : ℕ) → j < length v.counters → pos ≡ slice_index_or ks j pos → pos ≡ slice_index v.counters j
number_is cs ks ls v is j pos l e = e ∙ (at_any ks j pos 0 (subst (λ (x : AheadValue). j < length x.counters) (sym is) l) ∙ ap (λ (x : AheadValue). slice_index x.counters j) is)

-- a place's line, and that of a place that isn't there
pub later_there : (ls : List LineValue) (j after q : ℕ) (l : LineValue) → q < length ls → l ≡ slice_index_or ls q l → numbers_of (next_after j after l.versions) ≡ numbers_of (next_after j after (line_of (map line_in ls) q).versions)
later_there ls j after q l within e =
    ap (λ (vs : List Version). numbers_of (next_after j after vs)) (ap (λ (x : LineValue). x.versions) (e ∙ at_any ls q l no_line within) ∙ sym (line_versions ls q))

pub later_past : (ls : List LineValue) (j after q : ℕ) → length ls ≤ q → None ≡ numbers_of (next_after j after (line_of (map line_in ls) q).versions)
later_past ls j after q past = sym (ap (λ (x : Line). numbers_of (next_after j after x.versions)) (get_or_past (map line_in ls) q book.no_line (let e = length-map ls line_in in omega (arith, e, past))))
