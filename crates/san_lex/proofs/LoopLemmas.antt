-- One turn of the loop that makes the tokens.
use Rattle.san_base.proofs.Lists.{map_last}
use Rattle.std.proofs.Common.{◌≡◌, ℕ, zero, suc, ◌+◌, ◌-◌, ◌<◌, ◌≤◌, Bool, true, false, cond, List, [], ◌∷◌, ◌++◌, length, map, take, drop, get_or, Result, Ok, Err, Option, Some, None, refl, sym, ap, subst, ◌∙◌, append_assoc, arith, drop-cons}
use Rattle.std.specs.Prelude.{nat_eq, nat_le}
use Rattle.std.specs.Str.Parse.{digits_value}
use Rattle.std.proofs.lemmas.List.{append-nil, length-drop}
use Rattle.san_lex.specs.declared.sign.Sign.{Sign}
use Rattle.san_lex.specs.declared.token.Kind.{Kind}
use Rattle.san_lex.specs.declared.token.Kind.TheVariants as kind
use Rattle.san_lex.specs.declared.token.Token as tok
use Rattle.san_lex.specs.declared.piece.Piece.{Piece}
use Rattle.san_lex.specs.declared.piece.Piece.TheVariants as piece
use Rattle.san_base.specs.declared.limits.TheConstants.{MAX_NAME_BYTES}
use Rattle.san_lex.specs.declared.byte.TheConstants.{MAX_NUMBER}
use Rattle.san_base.specs.Names.{is_letter, is_digit, is_in_name}
use Rattle.san_lex.specs.Bytes.{is_blank, is_in_line, run, first}
use Rattle.san_lex.specs.Keywords.{keyword_of}
use Rattle.san_lex.specs.Lexer.{Word, Number, Name, TokenFault, Large, Long, Front, Gap, Token, Broken, name_word, named, numbered, single, double, sign_front, front, more, Located, with_token, grown, lex}
use Rattle.san_lex.specs.Pieces.{kind_word, located}
use Rattle.san_lex.specs.inner.Fronts.{piece_front, IsFront}
use Rattle.san_lex.proofs.PieceLemmas.{take_whole}

-- what was found before, and what is still found
abbrev pub gathered : List Located → Result (List Located) TokenFault → Result (List Located) TokenFault
gathered found (Ok ps) = Ok (found ++ ps)
gathered found (Err f) = Err f

-- ---- no piece goes past the end

run_within_at : (b : ℕ) (bs us : List ℕ) (c : Bool) → length us ≤ length bs → length (cond c (b ∷ us) []) ≤ length (b ∷ bs)
run_within_at b bs us true h = omega arith
run_within_at b bs us false h = omega arith

run_within : (p : ℕ → Bool) (bs : List ℕ) → length (run p bs) ≤ length bs
unfolding run
run_within p [] = omega arith
run_within p (b ∷ bs) = run_within_at b bs (run p bs) (p b) (run_within p bs)

within_cond : (c : Bool) (x y : Front) (n : ℕ) → more x ≤ n → more y ≤ n → more (cond c x y) ≤ n
within_cond true x y n h k = h
within_cond false x y n h k = k

signs_within : (o p : Option Sign) (n : ℕ) → 1 ≤ n → more (sign_front o p) ≤ n
signs_within (Some s) p n h = h
signs_within None (Some s) n h = omega arith
signs_within None None n h = omega arith

one : (p : Option Sign) → more (sign_front None p) ≤ 0
one (Some s) = omega arith
one None = omega arith

sign_within : (b : ℕ) (bs : List ℕ) → more (sign_front (double b (first bs)) (single b)) ≤ length bs
unfolding double
sign_within b [] = one (single b)
sign_within b (c ∷ bs) = signs_within (double b c) (single b) (length (c ∷ bs)) (omega arith)

named_within : (b : ℕ) (bs : List ℕ) (n : ℕ) → length bs ≤ n → more (named (b ∷ bs)) ≤ n
unfolding named
named_within b bs n h = within_cond (nat_le MAX_NAME_BYTES (length bs)) (Broken Long) (Token (name_word (keyword_of (b ∷ bs)) (b ∷ bs)) (length bs)) n (omega arith) h

numbered_within : (b : ℕ) (bs : List ℕ) (n : ℕ) → length bs ≤ n → more (numbered (b ∷ bs)) ≤ n
unfolding numbered
numbered_within b bs n h = within_cond (nat_le (digits_value 10 (b ∷ bs)) MAX_NUMBER) (Token (Number (digits_value 10 (b ∷ bs))) (length bs)) (Broken Large) n h (omega arith)

front_within : (b : ℕ) (bs : List ℕ) → more (front b bs) ≤ length bs
unfolding front
front_within b bs =
    let s = sign_front (double b (first bs)) (single b) in
    let d = cond (is_digit b) (numbered (b ∷ run is_digit bs)) s in
    let l = cond (is_letter b) (named (b ∷ run is_in_name bs)) d in
    let g = cond (nat_eq b 35) (Gap (length (run is_in_line bs))) l in
    within_cond (is_blank b) (Gap 0) g (length bs) (omega arith)
    (within_cond (nat_eq b 35) (Gap (length (run is_in_line bs))) l (length bs) (run_within is_in_line bs)
    (within_cond (is_letter b) (named (b ∷ run is_in_name bs)) d (length bs) (named_within b (run is_in_name bs) (length bs) (run_within is_in_name bs))
    (within_cond (is_digit b) (numbered (b ∷ run is_digit bs)) s (length bs) (numbered_within b (run is_digit bs) (length bs) (run_within is_digit bs))
    (sign_within b bs))))

-- ---- one turn

lex_drop : (k at : ℕ) (bs : List ℕ) (then : ℕ) → at + k ≡ then → lex k at bs ≡ lex 0 then (drop k bs)
unfolding lex
lex_drop zero at bs then e = let same : at ≡ then = omega arith in ap (λ (n : ℕ). lex 0 n bs) same
lex_drop (suc k) at [] then e = refl
lex_drop (suc k) at (b ∷ bs) then e = lex_drop k (suc at) bs then (omega arith)

nil_drop : (n : ℕ) → drop {A = ℕ} n [] ≡ []
nil_drop zero = refl
nil_drop (suc n) = refl

drop_end : (text : List ℕ) (at : ℕ) → length text ≤ at → drop at text ≡ []
drop_end [] at le = nil_drop at
drop_end (b ∷ bs) zero le = absurd (omega arith)
drop_end (b ∷ bs) (suc at) le = drop_end bs at (omega arith)

drop_more : (n at : ℕ) (bs : List ℕ) → drop n (drop (suc at) bs) ≡ drop (at + suc n) bs
drop_more n at [] = nil_drop n ∙ sym (nil_drop (at + suc n))
drop_more n zero (b ∷ bs) = let e : suc n ≡ 0 + suc n = omega arith in ap (λ (m : ℕ). drop m (b ∷ bs)) e
drop_more n (suc at) (b ∷ bs) = let e : suc (at + suc n) ≡ suc at + suc n = omega arith in drop_more n at bs ∙ ap (λ (m : ℕ). drop m (b ∷ bs)) e

lex_at : (text : List ℕ) (at : ℕ) (f : Front) → at < length text → f ≡ front (get_or text at 0) (drop (suc at) text) → lex 0 at (drop at text) ≡ grown f at (lex 0 (at + suc (more f)) (drop (at + suc (more f)) text))
unfolding lex
lex_at text at f lt e =
    ap (lex 0 at) (drop-cons text at 0 lt)
    ∙ ap (λ (g : Front). grown g at (lex (more g) (suc at) (drop (suc at) text))) (sym e)
    ∙ ap (grown f at) (lex_drop (more f) (suc at) (drop (suc at) text) (at + suc (more f)) (omega arith) ∙ ap (lex 0 (at + suc (more f))) (drop_more (more f) at text))

slice_is : (text : List ℕ) (at : ℕ) → take (length text - at) (drop at text) ≡ drop at text
slice_is text at = let e : length text - at ≡ length (drop at text) = sym (length-drop at text) in ap (λ (n : ℕ). take n (drop at text)) e ∙ take_whole (drop at text)

-- the piece at a place is what stands there
pub piece_is : (text : List ℕ) (at : ℕ) (p : Piece) → at < length text → IsFront (take (length text - at) (drop at text)) p → piece_front (drop at text) p ≡ front (get_or text at 0) (drop (suc at) text)
piece_is text at p lt h =
    let c = drop-cons text at 0 lt in
    let here : IsFront (get_or text at 0 ∷ drop (suc at) text) p = subst (λ (bs : List ℕ). IsFront bs p) (slice_is text at ∙ c) h in
    ap (λ (bs : List ℕ). piece_front bs p) c ∙ here

pub piece_within : (text : List ℕ) (at : ℕ) (p : Piece) → at < length text → IsFront (take (length text - at) (drop at text)) p → at + more (piece_front (drop at text) p) < length text
piece_within text at p lt h =
    let e = ap more (piece_is text at p lt h) in
    omega (arith, e, front_within (get_or text at 0) (drop (suc at) text), length-drop (suc at) text)

pub turn_gap : (text : List ℕ) (at n : ℕ) (found : List Located) (total : Result (List Located) TokenFault) → at < length text → IsFront (take (length text - at) (drop at text)) (piece.Gap n)
    → gathered found (lex 0 at (drop at text)) ≡ total → gathered found (lex 0 (at + suc n) (drop (at + suc n) text)) ≡ total
turn_gap text at n found total lt h so_far = sym (ap (gathered found) (lex_at text at (Gap n) lt (piece_is text at (piece.Gap n) lt h))) ∙ so_far

one_more : (found : List Located) (p : Located) (r : Result (List Located) TokenFault) → gathered found (with_token p r) ≡ gathered (found ++ p ∷ []) r
one_more found p (Ok ps) = ap (λ (qs : List Located). Ok qs) (sym (append_assoc found (p ∷ []) ps))
one_more found p (Err f) = refl

same_word : (text : List ℕ) (k : Kind) (at n : ℕ) → kind_word (drop at text) k 0 (suc n) ≡ kind_word text k at (at + suc n)
same_word text (kind.Number v) at n = refl
same_word text kind.Name at n =
    let e : suc n - 0 ≡ at + suc n - at = omega arith in ap (λ (m : ℕ). Name (take m (drop at text))) e
same_word text (kind.Fixed s) at n = refl

pub turn_token : (text : List ℕ) (at n : ℕ) (k : Kind) (found : List Located) (total : Result (List Located) TokenFault) → at < length text → IsFront (take (length text - at) (drop at text)) (piece.Token k n)
    → gathered found (lex 0 at (drop at text)) ≡ total → gathered (found ++ record { word = kind_word text k at (at + suc n); start = at; end = at + suc n } ∷ []) (lex 0 (at + suc n) (drop (at + suc n) text)) ≡ total
turn_token text at n k found total lt h so_far =
    let rest = lex 0 (at + suc n) (drop (at + suc n) text) in
    let e = lex_at text at (Token (kind_word text k at (at + suc n)) n) lt (ap (λ (w : Word). Token w n) (sym (same_word text k at n)) ∙ piece_is text at (piece.Token k n) lt h) in
    sym (one_more found (record { word = kind_word text k at (at + suc n); start = at; end = at + suc n }) rest) ∙ sym (ap (gathered found) e) ∙ so_far

pub turn_broken : (text : List ℕ) (at : ℕ) (p : Piece) (f : ℕ → TokenFault) (found : List Located) (total : Result (List Located) TokenFault) → at < length text → piece_front (drop at text) p ≡ Broken f → IsFront (take (length text - at) (drop at text)) p
    → gathered found (lex 0 at (drop at text)) ≡ total → total ≡ Err (f at)
turn_broken text at p f found total lt b h so_far = sym so_far ∙ ap (gathered found) (lex_at text at (Broken f) lt (sym b ∙ piece_is text at p lt h))

pub turns_end : (text : List ℕ) (at : ℕ) (found : List Located) (total : Result (List Located) TokenFault) → length text ≤ at → gathered found (lex 0 at (drop at text)) ≡ total → total ≡ Ok found
unfolding lex
turns_end text at found total le so_far = sym so_far ∙ ap (λ (bs : List ℕ). gathered found (lex 0 at bs)) (drop_end text at le) ∙ ap (λ (ps : List Located). Ok ps) (append-nil found)

-- the token that the code makes
pub token_found : (text : List ℕ) (at n : ℕ) (k : Kind) (t : tok.Token) (xs ys : List tok.Token) (total : Result (List Located) TokenFault) → at < length text → IsFront (take (length text - at) (drop at text)) (piece.Token k n)
    → t.kind ≡ k → t.start ≡ at → t.end ≡ at + suc n → ys ≡ xs ++ t ∷ []
    → gathered (map (located text) xs) (lex 0 at (drop at text)) ≡ total → (then : ℕ) → then ≡ at + suc n → gathered (map (located text) ys) (lex 0 then (drop then text)) ≡ total
token_found text at n k t xs ys total lt h ek es ee ey so_far then et =
    let q : Located = record { word = kind_word text k at (at + suc n); start = at; end = at + suc n } in
    let same : located text t ≡ q = ap (λ (x : Kind). let p : Located = record { word = kind_word text x t.start t.end; start = t.start; end = t.end } in p) ek
    ∙ ap (λ (x : ℕ). let p : Located = record { word = kind_word text k x t.end; start = x; end = t.end } in p) es
    ∙ ap (λ (x : ℕ). let p : Located = record { word = kind_word text k at x; start = at; end = x } in p) ee in
    ap (λ (m : ℕ). gathered (map (located text) ys) (lex 0 m (drop m text))) et
    ∙ ap (λ (ps : List Located). gathered ps (lex 0 (at + suc n) (drop (at + suc n) text))) (ap (map (located text)) ey ∙ map_last (located text) xs t ∙ ap (λ (p : Located). map (located text) xs ++ p ∷ []) same)
    ∙ turn_token text at n k (map (located text) xs) total lt h so_far

pub gap_found : (text : List ℕ) (at n : ℕ) (found : List Located) (total : Result (List Located) TokenFault) → at < length text → IsFront (take (length text - at) (drop at text)) (piece.Gap n)
    → gathered found (lex 0 at (drop at text)) ≡ total → (then : ℕ) → then ≡ at + suc n → gathered found (lex 0 then (drop then text)) ≡ total
gap_found text at n found total lt h so_far then et = ap (λ (m : ℕ). gathered found (lex 0 m (drop m text))) et ∙ turn_gap text at n found total lt h so_far
