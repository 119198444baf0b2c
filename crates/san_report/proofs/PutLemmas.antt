-- Pieces that are put one after another.
use Rattle.std.proofs.Common.{ℕ, zero, suc, ◌+◌, ◌-◌, ◌<◌, ◌≤◌, ◌≡◌, ◌∙◌, ap, sym, refl, List, [], ◌∷◌, ◌++◌, length, map, take, drop, Bor, Bool, true, false, Option, Some, append_assoc, arith, length-append, slice_index_or}
use Rattle.std.proofs.lemmas.List.{take_all}
use Rattle.san_report.specs.Lines.{joined}
use Rattle.san_base.specs.Flow.{CountRose}
use Rattle.san_base.proofs.FlowLemmas.{appends_nothing, appends_both}
use Rattle.san_report.specs.Puts.{Wrote}

pub wrote_none : (a : Option (List ℕ)) (f : ℕ) → Wrote true a a f f []
wrote_none a f = record { bytes_put = appends_nothing a; cause = tt; later = omega arith }

rose_later : (f g h : ℕ) → f ≤ g → CountRose g h → CountRose f h
rose_later f g h le r = omega (arith, le, r)

-- a piece, and then more pieces, or a part of them
pub wrote_then : (done : Bool) (a b c : Option (List ℕ)) (f g h : ℕ) (xs ys : List ℕ) → Wrote true a b f g xs → Wrote done b c g h ys → Wrote done a c f h (xs ++ ys)
wrote_then true a b c f g h xs ys p q =
    let one = p.later in
    let two = q.later in
    record { bytes_put = appends_both a b c xs ys p.bytes_put q.bytes_put; cause = tt; later = omega (arith, one, two) }
wrote_then false a b c f g h xs ys p q =
    let one = p.later in
    let two = q.later in
    let part = q.bytes_put in
    record {
      bytes_put = (
        xs ++ part.0,
        part.1,
        append_assoc xs part.0 part.1 ∙ ap (λ (z : List ℕ). xs ++ z) part.2,
        appends_both a b c xs part.0 p.bytes_put part.3,
      );
      cause = rose_later f g h one q.cause;
      later = omega (arith, one, two);
    }

-- a part of a piece, before pieces that aren't put any more
pub wrote_part : (a b : Option (List ℕ)) (f g : ℕ) (xs ys : List ℕ) → Wrote false a b f g xs → Wrote false a b f g (xs ++ ys)
wrote_part a b f g xs ys p =
    let part = p.bytes_put in
    record { bytes_put = (part.0, part.1 ++ ys, sym (append_assoc part.0 part.1 ys) ∙ ap (λ (z : List ℕ). z ++ ys) part.2, part.3); cause = p.cause; later = p.later }

-- the first piece, and the others as a slice of them
pub joined_front : (ps : List (Bor (List ℕ))) (d : Bor (List ℕ)) → 1 ≤ length ps → joined (map (λ (p : Bor (List ℕ)). p.now) ps) ≡ (slice_index_or ps 0 d).now ++ joined (map (λ (p : Bor (List ℕ)). p.now) (take (length ps - 1) (drop 1 ps)))
joined_front [] d h = absurd (omega (arith, h))
joined_front (p ∷ ps) d h = ap (λ (r : List (Bor (List ℕ))). p.now ++ joined (map (λ (q : Bor (List ℕ)). q.now) r)) (sym (take_all (length (p ∷ ps) - 1) ps (omega arith)))

-- what a sink that held nothing holds afterwards
pub text_is : (a b : List ℕ) (f g : ℕ) (xs : List ℕ) → a ≡ [] → Wrote true (Some a) (Some b) f g xs → b ≡ xs
text_is a b f g xs none p =
    let whole : Some b ≡ Some (a ++ xs) = p.bytes_put in
    let same : b ≡ a ++ xs = cc in
    same ∙ ap (λ (z : List ℕ). z ++ xs) none

-- a piece, and then the others, from the front of the rest
joined_suc : (ps : List (Bor (List ℕ))) (k : ℕ) (d : Bor (List ℕ)) → k < length ps → joined (drop k (map (λ (p : Bor (List ℕ)). p.now) ps)) ≡ (slice_index_or ps k d).now ++ joined (drop (suc k) (map (λ (p : Bor (List ℕ)). p.now) ps))
joined_suc [] k d h = absurd (omega (arith, h))
joined_suc (p ∷ ps) zero d h = refl
joined_suc (p ∷ ps) (suc k) d h = joined_suc ps k d (omega (arith, h))

pub joined_next : (ps : List (Bor (List ℕ))) (k : ℕ) (d : Bor (List ℕ)) → k < length ps → joined (drop k (map (λ (p : Bor (List ℕ)). p.now) ps)) ≡ (slice_index_or ps k d).now ++ joined (drop (k + 1) (map (λ (p : Bor (List ℕ)). p.now) ps))
joined_next ps k d h =
    let next : suc k ≡ k + 1 = omega arith in
    joined_suc ps k d h ∙ ap (λ (n : ℕ). (slice_index_or ps k d).now ++ joined (drop n (map (λ (p : Bor (List ℕ)). p.now) ps))) next

pub joined_none : (ps : List (Bor (List ℕ))) (k : ℕ) → length ps ≤ k → joined (drop k (map (λ (p : Bor (List ℕ)). p.now) ps)) ≡ []
joined_none [] zero h = refl
joined_none [] (suc k) h = refl
joined_none (p ∷ ps) zero h = absurd (omega (arith, h))
joined_none (p ∷ ps) (suc k) h = joined_none ps k (omega (arith, h))

-- how long the rest is
pub next_long : (ps : List (Bor (List ℕ))) (k : ℕ) (d : Bor (List ℕ)) → k < length ps
    → length (joined (drop k (map (λ (p : Bor (List ℕ)). p.now) ps))) ≡ length (slice_index_or ps k d).now + length (joined (drop (k + 1) (map (λ (p : Bor (List ℕ)). p.now) ps)))
next_long ps k d h = ap length (joined_next ps k d h) ∙ length-append (slice_index_or ps k d).now (joined (drop (k + 1) (map (λ (p : Bor (List ℕ)). p.now) ps)))

-- one piece more is on a page
pub put_next : (ps : List (Bor (List ℕ))) (k : ℕ) (d : Bor (List ℕ)) (held new whole : List ℕ) → k < length ps → new ≡ held ++ (slice_index_or ps k d).now
    → held ++ joined (drop k (map (λ (p : Bor (List ℕ)). p.now) ps)) ≡ whole → new ++ joined (drop (k + 1) (map (λ (p : Bor (List ℕ)). p.now) ps)) ≡ whole
put_next ps k d held new whole h is so =
    ap (λ (xs : List ℕ). xs ++ joined (drop (k + 1) (map (λ (p : Bor (List ℕ)). p.now) ps))) is
    ∙ append_assoc held (slice_index_or ps k d).now (joined (drop (k + 1) (map (λ (p : Bor (List ℕ)). p.now) ps)))
    ∙ ap (λ (xs : List ℕ). held ++ xs) (sym (joined_next ps k d h)) ∙ so
