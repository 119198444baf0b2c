-- What is made ahead, by its parts in code.
use Rattle.std.proofs.Common.{ℕ, ◌<◌, ◌≡◌, ◌∙◌, ap, sym, subst, refl, arith, List, [], ◌∷◌, length, map, take, drop, ◌++◌, Option, Some, None, suc, zero, ◌+◌, add-one}
use Rattle.std.specs.Option.{MatchOption}
use Rattle.std.specs.Prelude.{slice_index, slice_index_or, slice_set}
use Rattle.std.proofs.lemmas.List.{get_or-map, length-map, map-set}
use Rattle.san_book.specs.Chains.{AllFit, Chain, chain_of, with_piece, without_piece, without_pieces}
use Rattle.san_book.specs.Lines.{AreWrites, Line, each, line_of, put, withdraw}
use Rattle.san_chain.specs.Chains.{ChainValue, GoesOn, end_from, end_of}
use Rattle.san_decide.specs.Booked.{of_piece}
use Rattle.san_leaf.specs.Pieces.{PieceValue}
use Rattle.san_line.specs.Lines.{LineValue}
use Rattle.san_base.proofs.NumberTests.{some_same}
use Rattle.san_base.proofs.SameLemmas.{at_any}
use Rattle.san_law.specs.Piece.{LeafState}
use Rattle.san_line.specs.Lines.{find}
use Rattle.san_ahead.specs.Ahead.{AheadValue, EndsWith, pushed, Heads, TakesOut, ahead_by, cut_from, pieces_of, without_head}
use Rattle.san_ahead.specs.Aheads.{line_in, no_line}
use Rattle.san_book.proofs.Each.{length_each}

-- the lines are as many
without_long : (j : ℕ) (xs : Chain PieceValue) (ls : List Line) → length (without_pieces of_piece j xs ls) ≡ length ls
without_long j [] ls = refl
without_long j (x ∷ xs) ls = without_long j xs (without_piece of_piece j x.0 x.1 ls) ∙ length_each (withdraw j x.0) x.1.outcome.writes ls

pub cut_long : (old new : List LineValue) (j : ℕ) (xs : Chain PieceValue) → map line_in new ≡ without_pieces of_piece j xs (map line_in old) → length new ≡ length old
cut_long old new j xs e = sym (length-map new line_in) ∙ (ap length e ∙ (without_long j xs (map line_in old) ∙ length-map old line_in))

-- the lines of code have the book's versions
pub line_versions : (ls : List LineValue) (q : ℕ) → (line_of (map line_in ls) q).versions ≡ (slice_index_or ls q no_line).versions
line_versions [] q = refl
line_versions (l ∷ ls) zero = refl
line_versions (l ∷ ls) (suc q) = line_versions ls q

-- a chain in its own place changes nothing
chain_same : (cs : List (Chain PieceValue)) (j : ℕ) → slice_set cs j (chain_of cs j) ≡ cs
chain_same [] j = refl
chain_same (c ∷ cs) zero = refl
chain_same (c ∷ cs) (suc j) = ap (λ (xs : List (Chain PieceValue)). c ∷ xs) (chain_same cs j)

end_is : (xs : Chain PieceValue) (s : LeafState) → end_of (λ (p : PieceValue). p.outcome.state) xs ≡ Some s → (d : LeafState) → end_from of_piece.end d xs ≡ s
end_is [] s e d = absurd (cc)
end_is (x ∷ xs) s e d = some_same (end_from of_piece.end (of_piece.end x.1) xs) s e

-- a head that may be there
pub match_map : {X : Type 0} (o : Option X) {N M : Type 0} {S T : X → Type 0} → (N → M) → ((x : X) → S x → T x) → MatchOption o N S → MatchOption o M T
match_map None f g h = f h
match_map (Some x) f g h = g x h

module _ (cs : List (ChainValue PieceValue)) (ks : List ℕ) (ls : List LineValue) (v : AheadValue) (is : ahead_by cs ks ls ≡ v) (j : ℕ) (there : j < length v.chains) (c : ChainValue PieceValue) (here : c ≡ slice_index_or cs j c) where
  within : j < length cs
  within = let e : length cs ≡ length v.chains = sym (length-map cs pieces_of) ∙ ap (λ (x : AheadValue). length x.chains) is in omega (arith, e, there)

  -- a leaf's chain is seen
  pub chain_seen : chain_of v.chains j ≡ c.pieces
  chain_seen = sym (ap (λ (x : AheadValue). chain_of x.chains j) is) ∙ (get_or-map pieces_of cs j c [] within ∙ ap pieces_of (sym here))

  pub lines_seen : length v.lines ≡ length ls
  lines_seen = sym (ap (λ (x : AheadValue). length x.lines) is) ∙ length-map ls line_in

  abbrev with_chain : List (Chain PieceValue) → List Line → AheadValue
  with_chain chains lines = record { chains = chains; counters = ks; lines = lines }

  pub head_in : (p : PieceValue) → (0 < length c.pieces) × ((pos : ℕ) → p ≡ (slice_index_or c.pieces 0 (pos, p)).1) → Heads v j p
  head_in p first = by_pieces c.pieces refl first
    where
      by_pieces : (xs : Chain PieceValue) → c.pieces ≡ xs → (0 < length xs) × ((pos : ℕ) → p ≡ (slice_index_or xs 0 (pos, p)).1) → Heads v j p
      by_pieces [] e h = absurd (let l = h.0 in omega (arith, l))
      by_pieces (x ∷ xs) e h = record { pos = x.0; rest = xs; is = chain_seen ∙ (e ∙ ap (λ (y : PieceValue). (x.0, y) ∷ xs) (sym (h.1 0))) }

  -- its pieces from one on go
  pub cut_seen : (k : ℕ) (d : ChainValue PieceValue) (new : List LineValue) → map line_in new ≡ without_pieces of_piece j (drop k c.pieces) (map line_in ls) → d.pieces ≡ take k c.pieces → ahead_by (slice_set cs j d) ks new ≡ cut_from v j k
  cut_seen k d new gone left =
      ap (λ (xs : List (Chain PieceValue)). with_chain xs (map line_in new)) (map-set pieces_of cs j d ∙ ap (slice_set (map pieces_of cs) j) left)
      ∙ (ap (with_chain (slice_set (map pieces_of cs) j (take k c.pieces))) gone
      ∙ (ap (λ (xs : Chain PieceValue). with_chain (slice_set (map pieces_of cs) j (take k xs)) (without_pieces of_piece j (drop k xs) (map line_in ls))) (sym chain_seen ∙ sym (ap (λ (x : AheadValue). chain_of x.chains j) is))
      ∙ ap (λ (x : AheadValue). cut_from x j k) is))

  -- its head goes
  pub head_seen : (pos : ℕ) (p : PieceValue) (d : ChainValue PieceValue) (new : List LineValue) → c.pieces ≡ (pos, p) ∷ d.pieces → map line_in new ≡ each (withdraw j pos) p.outcome.writes (map line_in ls) → TakesOut v j p (ahead_by (slice_set cs j d) ks new)
  head_seen pos p d new front gone = record {
    pos = pos;
    rest = d.pieces;
    is = chain_seen ∙ front;
    left = ap (λ (xs : List (Chain PieceValue)). with_chain xs (map line_in new)) (map-set pieces_of cs j d) ∙ (ap (with_chain (slice_set (map pieces_of cs) j d.pieces)) gone ∙ ap (λ (x : AheadValue). without_head x j (pos, p) d.pieces) is);
  }

  -- and writes what fits
  pub head_fits : (pos : ℕ) (p : PieceValue) (rest : Chain PieceValue) → c.pieces ≡ (pos, p) ∷ rest → AllFit of_piece (length v.lines) (chain_of v.chains j) → AreWrites (length ls) p.outcome.writes
  head_fits pos p rest front fit =
      let all : AllFit of_piece (length v.lines) ((pos, p) ∷ rest) = subst (λ (xs : Chain PieceValue). AllFit of_piece (length v.lines) xs) (chain_seen ∙ front) fit in
      subst (λ (n : ℕ). AreWrites n p.outcome.writes) lines_seen all.0

  -- what its pieces end with
  pub end_seen : (s : LeafState) → end_of (λ (p : PieceValue). p.outcome.state) c.pieces ≡ Some s → EndsWith v j s
  end_seen s e d = ap (end_from of_piece.end d) chain_seen ∙ end_is c.pieces s e d

  pub goes_on_seen : (b : LeafState) → GoesOn b (end_of (λ (p : PieceValue). p.outcome.state) (chain_of v.chains j)) → GoesOn b (end_of (λ (p : PieceValue). p.outcome.state) c.pieces)
  goes_on_seen b goes = subst (λ (xs : Chain PieceValue). GoesOn b (end_of (λ (p : PieceValue). p.outcome.state) xs)) chain_seen goes

  pub number_seen : slice_index v.counters j ≡ slice_index ks j
  number_seen = sym (ap (λ (x : AheadValue). slice_index x.counters j) is)

  pub number_at : (pos : ℕ) → j < length v.counters → pos ≡ slice_index_or ks j pos → pos ≡ slice_index ks j
  number_at pos l e = e ∙ at_any ks j pos 0 (subst (λ (x : AheadValue). j < length x.counters) (sym is) l)

  pub new_seen : (pos : ℕ) → pos ≡ slice_index ks j → ((q : ℕ) → find j (slice_index v.counters j) (line_of v.lines q).versions ≡ None) → (q : ℕ) → find j pos (slice_index_or ls q no_line).versions ≡ None
  new_seen pos at none q =
      ap (λ (k : ℕ). find j k (slice_index_or ls q no_line).versions) (at ∙ sym number_seen)
      ∙ (ap (find j (slice_index v.counters j)) (sym (line_versions ls q) ∙ ap (λ (x : AheadValue). (line_of x.lines q).versions) is)
      ∙ none q)

  chain_here : c.pieces ≡ chain_of (map pieces_of cs) j
  chain_here = sym chain_seen ∙ sym (ap (λ (x : AheadValue). chain_of x.chains j) is)

  abbrev with_all : List (Chain PieceValue) → List ℕ → List Line → AheadValue
  with_all chains counters lines = record { chains = chains; counters = counters; lines = lines }

  -- one more is pushed
  pub push_seen : (pos : ℕ) (p : PieceValue) (d : ChainValue PieceValue) (new : List LineValue) → pos ≡ slice_index ks j → d.pieces ≡ c.pieces ++ (pos, p) ∷ [] → map line_in new ≡ with_piece of_piece j pos p (map line_in ls)
      → ahead_by (slice_set cs j d) (slice_set ks j (pos + 1)) new ≡ pushed v j p
  push_seen pos p d new at more placed =
      ap (λ (xs : List (Chain PieceValue)). with_all xs (slice_set ks j (pos + 1)) (map line_in new)) (map-set pieces_of cs j d ∙ ap (slice_set (map pieces_of cs) j) (more ∙ (ap (λ (xs : Chain PieceValue). xs ++ (pos, p) ∷ []) chain_here ∙ ap (λ (k : ℕ). chain_of (map pieces_of cs) j ++ (k, p) ∷ []) at)))
      ∙ (ap (λ (k : ℕ). with_all (slice_set (map pieces_of cs) j (chain_of (map pieces_of cs) j ++ (slice_index ks j, p) ∷ [])) (slice_set ks j k) (map line_in new)) (add-one pos ∙ ap suc at)
      ∙ (ap (with_all (slice_set (map pieces_of cs) j (chain_of (map pieces_of cs) j ++ (slice_index ks j, p) ∷ [])) (slice_set ks j (suc (slice_index ks j)))) (placed ∙ ap (λ (k : ℕ). with_piece of_piece j k p (map line_in ls)) at)
      ∙ ap (λ (x : AheadValue). pushed x j p) is))

  -- or nothing is
  pub back_seen : (d : ChainValue PieceValue) (new : List LineValue) → d.pieces ≡ c.pieces → map line_in new ≡ map line_in ls → ahead_by (slice_set cs j d) ks new ≡ v
  back_seen d new same stay =
      ap (λ (xs : List (Chain PieceValue)). with_chain xs (map line_in new)) (map-set pieces_of cs j d ∙ (ap (slice_set (map pieces_of cs) j) (same ∙ chain_here) ∙ chain_same (map pieces_of cs) j))
      ∙ (ap (with_chain (map pieces_of cs)) stay
      ∙ is)

-- the lines are as many
pub put_long : (old new : List LineValue) (j pos : ℕ) (p : PieceValue) → map line_in new ≡ with_piece of_piece j pos p (map line_in old) → length new ≡ length old
put_long old new j pos p e = sym (length-map new line_in) ∙ (ap length e ∙ (length_each (put p.time j pos) p.outcome.writes (map line_in old) ∙ length-map old line_in))

pub same_long : (old new : List LineValue) → map line_in new ≡ map line_in old → length new ≡ length old
same_long old new e = sym (length-map new line_in) ∙ (ap length e ∙ length-map old line_in)
