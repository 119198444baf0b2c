-- Bytes that are taken and put one piece after another.
use Rattle.std.proofs.Common.{ℕ, ◌+◌, ◌-◌, ◌≤◌, ◌≡◌, ◌∙◌, ap, sym, refl, List, [], ◌++◌, length, take, drop, Option, Some, None, append_assoc, append-nil, subst, arith, length-append, length-drop}
use Rattle.std.proofs.Math.Seq.{take-add, take-length, drop-append_seam, drop-append-add}
use Rattle.std.proofs.lemmas.List.{take-append-drop}
use Rattle.san_base.specs.Flow.{Appends, AppendsPrefix, Takes, TakesFirst, TakesUpTo, Gives}

pub appends_nothing : (a : Option (List ℕ)) → Appends a a []
appends_nothing None = refl
appends_nothing (Some held) = ap Some (sym (append-nil held))

-- one piece after another
pub appends_both : (a b c : Option (List ℕ)) (xs ys : List ℕ) → Appends a b xs → Appends b c ys → Appends a c (xs ++ ys)
appends_both None b c xs ys p q = let P : Option (List ℕ) → Type 0 = λ o. Appends o c ys in subst P p q
appends_both (Some held) b c xs ys p q =
    let P : Option (List ℕ) → Type 0 = λ o. Appends o c ys in
    let r : Appends (Some (held ++ xs)) c ys = subst P p q in
    r ∙ ap Some (append_assoc held xs ys)

take_all : (xs : List ℕ) (n : ℕ) → n ≡ length xs → take n xs ≡ xs
take_all xs n e = subst (λ (m : ℕ). take m xs ≡ xs) (sym e) (take-length xs)

-- the next piece of the bytes, as a slice of them from `at` on
pub appends_more : (a b c : Option (List ℕ)) (bytes : List ℕ) (at n : ℕ)
    → Appends a b (take at bytes) → Appends b c (take n (take (length bytes - at) (drop at bytes)))
    → Appends a c (take (at + n) bytes)
appends_more a b c bytes at n p q =
    let rest : take (length bytes - at) (drop at bytes) ≡ drop at bytes =
    take_all (drop at bytes) (length bytes - at) (sym (length-drop at bytes)) in
    let q' : Appends b c (take n (drop at bytes)) = subst (λ (xs : List ℕ). Appends b c (take n xs)) rest q in
    subst (Appends a c) (sym (take-add at n bytes)) (appends_both a b c (take at bytes) (take n (drop at bytes)) p q')

pub appends_whole : (a b : Option (List ℕ)) (bytes : List ℕ) (at : ℕ) → at ≤ length bytes → length bytes ≤ at → Appends a b (take at bytes) → Appends a b bytes
appends_whole a b bytes at h k p = let e : at ≡ length bytes = omega arith in subst (Appends a b) (take_all bytes at e) p

pub prefix_of : (a b c : Option (List ℕ)) (bytes : List ℕ) (at : ℕ) → Appends a b (take at bytes) → c ≡ b → AppendsPrefix a c bytes
prefix_of a b c bytes at p e =
    (take at bytes, drop at bytes, take-append-drop at bytes, subst (λ (o : Option (List ℕ)). Appends a o (take at bytes)) (sym e) p)

pub takes_nothing : (a : Option (List ℕ)) → Takes a a []
takes_nothing None = refl
takes_nothing (Some left) = (left, refl, refl)

-- the bytes of one more read
pub takes_more : (a b c : Option (List ℕ)) (xs buf : List ℕ) (n : ℕ) → Takes a b xs → Gives b c buf n → Takes a c (xs ++ take n buf)
takes_more None b c xs buf n p q = let P : Option (List ℕ) → Type 0 = λ o. Gives o c buf n in subst P p q
takes_more (Some left) b c xs buf n p q =
    let P : Option (List ℕ) → Type 0 = λ o. Gives o c buf n in
    let r : Gives (Some p.0) c buf n = subst P p.2 q in
    let parts : p.0 ≡ take n buf ++ drop n p.0 = sym (take-append-drop n p.0) ∙ ap (λ (zs : List ℕ). zs ++ drop n p.0) (sym r.1) in
    (drop n p.0, p.1 ∙ (ap (λ (zs : List ℕ). xs ++ zs) parts ∙ sym (append_assoc xs (take n buf) (drop n p.0))), r.2)

-- what was taken, known by its number alone
pub takes_first : (a b : Option (List ℕ)) (xs : List ℕ) (n : ℕ) → Takes a b xs → length xs ≡ n → TakesFirst a b n
takes_first None b xs n p e = p
takes_first (Some left) b xs n p e =
    let whole : length left ≡ length xs + length p.0 = ap length p.1 ∙ length-append xs p.0 in
    let rest : drop n left ≡ p.0 = ap (λ (zs : List ℕ). drop n zs) p.1 ∙ (ap (λ (m : ℕ). drop m (xs ++ p.0)) (sym e) ∙ drop-append_seam xs p.0) in
    (omega arith, p.2 ∙ ap Some (sym rest))

-- so many more were taken, known by their number alone
pub takes_further : (a b c : Option (List ℕ)) (xs : List ℕ) (n most : ℕ) → Takes a b xs → TakesFirst b c n → length xs + n ≤ most → TakesUpTo a c most
takes_further None b c xs n most p q h =
    let P : Option (List ℕ) → Type 0 = λ o. TakesFirst o c n in
    (0, omega arith, subst P p q)
takes_further (Some left) b c xs n most p q h =
    let P : Option (List ℕ) → Type 0 = λ o. TakesFirst o c n in
    let r : TakesFirst (Some p.0) c n = subst P p.2 q in
    let whole : length left ≡ length xs + length p.0 = ap length p.1 ∙ length-append xs p.0 in
    let rest : drop (length xs + n) left ≡ drop n p.0 = ap (λ (zs : List ℕ). drop (length xs + n) zs) p.1 ∙ drop-append-add xs p.0 n in
    (length xs + n, h, (omega arith, r.1 ∙ ap Some (sym rest)))

pub gives_first : (a b : Option (List ℕ)) (buf : List ℕ) (n : ℕ) → Gives a b buf n → TakesFirst a b n
gives_first None b buf n p = p
gives_first (Some left) b buf n p = (p.0, p.2)

-- the number that was taken before a turn, or in all
pub takes_at_most : (a b c : Option (List ℕ)) (xs : List ℕ) (most : ℕ) → Takes a b xs → c ≡ b → length xs ≤ most → TakesUpTo a c most
takes_at_most a b c xs most p e h =
    (length xs, h, subst (λ (o : Option (List ℕ)). TakesFirst a o (length xs)) (sym e) (takes_first a b xs (length xs) p refl))

pub takes_in_all : (a b c : Option (List ℕ)) (xs : List ℕ) (room most : ℕ) → Takes a b xs → TakesUpTo b c room → length xs + room ≤ most → TakesUpTo a c most
takes_in_all a b c xs room most p q h = takes_further a b c xs q.0 most p q.2 (omega (arith, q.1))
