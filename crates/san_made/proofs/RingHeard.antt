-- The words of a ring's text, line by line.
use Rattle.std.proofs.Common.{◌≡◌, ℕ, zero, suc, ◌+◌, ◌<◌, ◌≤◌, Bool, true, false, cond, nat_lt, List, [], ◌∷◌, ◌++◌, Ok, refl, sym, subst, ap, ◌∙◌, arith, append_assoc, append-nil, codes}
use Rattle.std.proofs.lemmas.Bool.{ltb-true}
use Rattle.std.specs.Fmt.{decimal}
use Rattle.san_gen.specs.Texts.{child_line, lines, lines_from, next_station, ring_head, ring_tail, ring_text, share_line}
use Rattle.san_lex.proofs.LayoutLemmas.{layout_law}
use Rattle.san_lex.specs.Layout.{Line, before, depth_after, hugs, layout, text_of}
use Rattle.san_lex.specs.Lexer.{Word, double, front, heard, lex, mark_of, named, numbered, operator_of, single, tokens}
use Rattle.san_lex.specs.Bytes.{run}
use Rattle.san_lex.specs.Keywords.{keyword_of}
use Rattle.san_lex.specs.Words.{IsName}
use Rattle.san_made.proofs.CutLemmas.{Hears, IsPlain, line_heard}
use Rattle.san_made.proofs.NameLemmas.{plain_around, station_named, wire_named}
use Rattle.san_made.proofs.RingWords.{all_words, child_words, head_words, share_words, tail_words, words_from}

-- ---- the next station

next_within : (n k : ℕ) → 1 ≤ n → next_station n k < n
next_within n k h = by_test (nat_lt (suc k) n) refl
  where
    by_test : (t : Bool) → nat_lt (suc k) n ≡ t → cond t (suc k) 0 < n
    by_test true e = ltb-true (suc k) n e
    by_test false e = omega (arith, h)

-- ---- a child's line

child_front : ℕ → List ℕ
child_front k = codes "  child s" ++ (decimal k ++ codes " = station;")

child_split : (k : ℕ) (vs : List ℕ) → child_line k ++ vs ≡ child_front k ++ 10 ∷ vs
unfolding child_line child_front
child_split k vs = ap (λ (xs : List ℕ). codes "  child s" ++ xs) (append_assoc (decimal k) (codes " = station;\n") vs ∙ sym (append_assoc (decimal k) (codes " = station;") (10 ∷ vs)))

child_laid : (k : ℕ) → child_front k ++ 10 ∷ [] ≡ layout Line 1 (child_words k)
unfolding child_front layout text_of before depth_after hugs
child_laid k = ap (λ (xs : List ℕ). codes "  child s" ++ xs) (append_assoc (decimal k) (codes " = station;") (10 ∷ []))

station_word : IsName (codes "station")
unfolding keyword_of
station_word = (refl, refl, omega arith, refl)

child_heard : (k : ℕ) → k ≤ 1024 → Hears (child_front k ++ 10 ∷ []) (child_words k)
child_heard k l at = ap (λ (bytes : List ℕ). heard (lex 0 at bytes)) (child_laid k) ∙ layout_law Line 1 (child_words k) (tt, (station_named k l, (tt, (station_word, (tt, tt))))) at

child_plain : (k : ℕ) → k ≤ 1024 → IsPlain (child_front k)
unfolding child_front
child_plain k l = plain_around (codes "  child s") k (codes " = station;") l refl refl

children_heard : (left k : ℕ) (vs : List ℕ) (xs : List Word) → k + left ≤ 1024 → Hears vs xs → Hears (lines_from child_line k left ++ vs) (words_from child_words k left ++ xs)
children_heard zero k vs xs l h = h
children_heard (suc left) k vs xs l h =
    let rest = children_heard left (suc k) vs xs (omega (arith, l)) h in
    let here : k ≤ 1024 = omega (arith, l) in
    let more = lines_from child_line (suc k) left ++ vs in
    let line = line_heard (child_front k) more (child_words k) (words_from child_words (suc k) left ++ xs) (child_plain k here) (child_heard k here) rest in
    subst (λ (bytes : List ℕ). Hears bytes (child_words k ++ (words_from child_words (suc k) left ++ xs))) (sym (append_assoc (child_line k) (lines_from child_line (suc k) left) vs ∙ child_split k more)) line

-- ---- a share's line

share_front : ℕ → ℕ → List ℕ
share_front n k = codes "  share w" ++ (decimal k ++ (codes " = s" ++ (decimal k ++ (codes ".outbox, s" ++ (decimal (next_station n k) ++ codes ".inbox;")))))

share_end : List ℕ → ℕ → ℕ → List ℕ
share_end end a b = decimal a ++ (codes " = s" ++ (decimal a ++ (codes ".outbox, s" ++ (decimal b ++ end))))

moved_inner : (a b : ℕ) (end more : List ℕ) → (decimal a ++ (codes ".outbox, s" ++ (decimal b ++ end))) ++ more ≡ decimal a ++ (codes ".outbox, s" ++ (decimal b ++ (end ++ more)))
moved_inner a b end more = append_assoc (decimal a) (codes ".outbox, s" ++ (decimal b ++ end)) more ∙ ap (λ (xs : List ℕ). decimal a ++ (codes ".outbox, s" ++ xs)) (append_assoc (decimal b) end more)

moved : (a b : ℕ) (end more : List ℕ) → share_end end a b ++ more ≡ decimal a ++ (codes " = s" ++ (decimal a ++ (codes ".outbox, s" ++ (decimal b ++ (end ++ more)))))
unfolding share_end
moved a b end more = append_assoc (decimal a) (codes " = s" ++ (decimal a ++ (codes ".outbox, s" ++ (decimal b ++ end)))) more ∙ ap (λ (xs : List ℕ). decimal a ++ (codes " = s" ++ xs)) (moved_inner a b end more)

end_moved : (a b : ℕ) (vs : List ℕ) → share_end (codes ".inbox;\n") a b ++ vs ≡ share_end (codes ".inbox;") a b ++ 10 ∷ vs
end_moved a b vs = moved a b (codes ".inbox;\n") vs ∙ sym (moved a b (codes ".inbox;") (10 ∷ vs))

-- what is joined from the left, joined from the right
from_right : (x a b y z : List ℕ) → ((((x ++ a) ++ x) ++ b) ++ y) ++ z ≡ x ++ (a ++ (x ++ (b ++ (y ++ z))))
from_right x a b y z = append_assoc (((x ++ a) ++ x) ++ b) y z ∙ (append_assoc ((x ++ a) ++ x) b (y ++ z) ∙ (append_assoc (x ++ a) x (b ++ (y ++ z)) ∙ append_assoc x a (x ++ (b ++ (y ++ z)))))

share_whole : (n k : ℕ) → share_line n k ≡ codes "  share w" ++ share_end (codes ".inbox;\n") k (next_station n k)
unfolding share_line share_end
share_whole n k = ap (λ (xs : List ℕ). codes "  share w" ++ xs) (from_right (decimal k) (codes " = s") (codes ".outbox, s") (decimal (next_station n k)) (codes ".inbox;\n"))

share_split : (n k : ℕ) (vs : List ℕ) → share_line n k ++ vs ≡ share_front n k ++ 10 ∷ vs
unfolding share_front share_end
share_split n k vs = ap (λ (xs : List ℕ). xs ++ vs) (share_whole n k) ∙ ap (λ (xs : List ℕ). codes "  share w" ++ xs) (end_moved k (next_station n k) vs)

share_laid : (n k : ℕ) → share_front n k ++ 10 ∷ [] ≡ layout Line 1 (share_words n k)
unfolding share_front share_end layout text_of before depth_after hugs
share_laid n k = ap (λ (xs : List ℕ). codes "  share w" ++ xs) (sym (end_moved k (next_station n k) []) ∙ append-nil (share_end (codes ".inbox;\n") k (next_station n k)))

outbox_word : IsName (codes "outbox")
unfolding keyword_of
outbox_word = (refl, refl, omega arith, refl)

inbox_word : IsName (codes "inbox")
unfolding keyword_of
inbox_word = (refl, refl, omega arith, refl)

share_heard : (n k : ℕ) → k ≤ 1024 → next_station n k ≤ 1024 → Hears (share_front n k ++ 10 ∷ []) (share_words n k)
share_heard n k l m at =
    ap (λ (bytes : List ℕ). heard (lex 0 at bytes)) (share_laid n k)
    ∙ layout_law Line 1 (share_words n k) (tt, (wire_named k l, (tt, (station_named k l, (tt, (outbox_word, (tt, (station_named (next_station n k) m, (tt, (inbox_word, (tt, tt))))))))))) at

share_plain : (n k : ℕ) → k ≤ 1024 → next_station n k ≤ 1024 → IsPlain (share_front n k)
unfolding share_front
share_plain n k l m =
    plain_around (codes "  share w") k (codes " = s" ++ (decimal k ++ (codes ".outbox, s" ++ (decimal (next_station n k) ++ codes ".inbox;")))) l refl
    (plain_around (codes " = s") k (codes ".outbox, s" ++ (decimal (next_station n k) ++ codes ".inbox;")) l refl
    (plain_around (codes ".outbox, s") (next_station n k) (codes ".inbox;") m refl refl))

shares_heard : (left n k : ℕ) (vs : List ℕ) (xs : List Word) → 1 ≤ n → n ≤ 1024 → k + left ≤ n → Hears vs xs → Hears (lines_from (share_line n) k left ++ vs) (words_from (share_words n) k left ++ xs)
shares_heard zero n k vs xs one few l h = h
shares_heard (suc left) n k vs xs one few l h =
    let rest = shares_heard left n (suc k) vs xs one few (omega (arith, l)) h in
    let here : k ≤ 1024 = omega (arith, l, few) in
    let within = next_within n k one in
    let there : next_station n k ≤ 1024 = omega (arith, within, few) in
    let more = lines_from (share_line n) (suc k) left ++ vs in
    let line = line_heard (share_front n k) more (share_words n k) (words_from (share_words n) (suc k) left ++ xs) (share_plain n k here there) (share_heard n k here there) rest in
    subst (λ (bytes : List ℕ). Hears bytes (share_words n k ++ (words_from (share_words n) (suc k) left ++ xs))) (sym (append_assoc (share_line n k) (lines_from (share_line n) (suc k) left) vs ∙ share_split n k more)) line

-- ---- what stands before the lines and behind them

head_front : List ℕ
head_front = lines (
    codes "san 1;"
    ∷ codes "atomic station {"
    ∷ codes "  place inbox = 1;"
    ∷ codes "  place outbox = 1;"
    ∷ codes "  place done;"
    ∷ codes "  timed local { delay geom 1 5; out done; }"
    ∷ codes "  timed pass { in inbox; delay uniform 3, 9; out outbox; }"
    ∷ codes "}"
    ∷ []) ++ codes "join ring {"

head_split : (vs : List ℕ) → ring_head ++ vs ≡ head_front ++ 10 ∷ vs
unfolding head_front
head_split vs = refl

head_heard : Hears (head_front ++ 10 ∷ []) head_words
unfolding head_front lex front named numbered single double mark_of operator_of run keyword_of
head_heard at = refl

head_plain : IsPlain head_front
unfolding head_front
head_plain = refl

tail_heard : Hears ring_tail tail_words
unfolding lex front named numbered single double mark_of operator_of run keyword_of
tail_heard at = refl

pub ring_heard : (n : ℕ) → 2 ≤ n → n ≤ 1024 → heard (tokens (ring_text n)) ≡ Ok (all_words n)
unfolding ring_text tokens
ring_heard n two few =
    let all_shares = shares_heard n n 0 ring_tail tail_words (omega (arith, two)) few (omega arith) tail_heard in
    let behind = lines_from child_line 0 n ++ (lines_from (share_line n) 0 n ++ ring_tail) in
    let every = children_heard n 0 (lines_from (share_line n) 0 n ++ ring_tail) (words_from (share_words n) 0 n ++ tail_words) (omega (arith, few)) all_shares in
    ap (λ (bytes : List ℕ). heard (lex 0 0 (ring_head ++ bytes))) (append_assoc (lines_from child_line 0 n) (lines_from (share_line n) 0 n) ring_tail) ∙ ap (λ (bytes : List ℕ). heard (lex 0 0 bytes)) (head_split behind) ∙ line_heard head_front behind head_words (words_from child_words 0 n ++ (words_from (share_words n) 0 n ++ tail_words)) head_plain head_heard every 0

pub ring_said : (n : ℕ) → 2 ≤ n → n ≤ 1024 → (ws : List Word) × (heard (tokens (ring_text n)) ≡ Ok ws)
ring_said n two few = (all_words n, ring_heard n two few)
