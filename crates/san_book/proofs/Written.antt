-- What a chain writes, with a piece more and with one less.
use Rattle.std.proofs.Common.{ℕ, ◌≡◌, ◌∙◌, ◌||◌, ap, sym, refl, subst, [], ◌∷◌, ◌++◌, Option, None, Bool, true, false, nat_eq, arith}
use Rattle.std.specs.Prelude.{if◌then◌else◌}
use Rattle.std.proofs.lemmas.Bool.Decides.{nat_tests}
use Rattle.std.proofs.lemmas.Bool.{true≢false}
use Rattle.san_base.proofs.Bools.{or_none}
use Rattle.san_base.proofs.NumberTests.{same_number, number_itself, number_turned}
use Rattle.san_line.specs.declared.version.Version.{Version}
use Rattle.san_line.proofs.Ordered.{by_bool, hidden}
use Rattle.san_book.specs.Machines.{PieceReading}
use Rattle.san_book.specs.Lines.{write_of}
use Rattle.san_book.specs.Chains.{AreNumberedApart, Chain, has, version_of, written}
use Rattle.san_book.proofs.Each.{either}

-- a chain without pieces
abbrev pub no_chain : {P : Type 0} → Chain P
no_chain = []

-- the chains with another one at a leaf
abbrev pub with_chain : {P : Type 0} → (ℕ → Chain P) → ℕ → Chain P → ℕ → Chain P
with_chain chains j c i = if nat_eq j i then c else chains i

pub has_more : {P : Type 0} (pos : ℕ) (a b : Chain P) → has pos (a ++ b) ≡ (has pos a || has pos b)
has_more pos [] b = refl
has_more pos (x ∷ a) b = ap (λ h. nat_eq x.0 pos || h) (has_more pos a b) ∙ or_same (nat_eq x.0 pos) (has pos a) (has pos b)
  where
    or_same : (x y z : Bool) → (x || (y || z)) ≡ ((x || y) || z)
    or_same true y z = refl
    or_same false y z = refl

-- without one of its pieces
has_less : {P : Type 0} (pos : ℕ) (a b : Chain P) (x : ℕ × P) → has pos (a ++ x ∷ b) ≡ false → has pos (a ++ b) ≡ false
has_less pos [] b x h = (or_none (nat_eq x.0 pos) (has pos b) h).1
has_less pos (y ∷ a) b x h = let k = or_none (nat_eq y.0 pos) (has pos (a ++ x ∷ b)) h in ap (λ o. o || has pos (a ++ b)) k.0 ∙ has_less pos a b x k.1

-- the piece that stands between
has_here : {P : Type 0} (a b : Chain P) (x : ℕ × P) (pos : ℕ) → has pos (a ++ x ∷ b) ≡ false → nat_eq x.0 pos ≡ false
has_here [] b x pos h = (or_none (nat_eq x.0 pos) (has pos b) h).0
has_here (y ∷ a) b x pos h = has_here a b x pos (or_none (nat_eq y.0 pos) (has pos (a ++ x ∷ b)) h).1

pub apart_less : {P : Type 0} (a b : Chain P) (x : ℕ × P) → AreNumberedApart (a ++ x ∷ b) → AreNumberedApart (a ++ b)
apart_less [] b x h = h.1
apart_less (y ∷ a) b x h = (has_less y.0 a b x h.0, apart_less a b x h.1)

pub written_free : {S P : Type 0} (r : PieceReading S P) (j q pos : ℕ) (xs : Chain P) → has pos xs ≡ false → written r j q pos xs ≡ None
written_free r j q pos [] h = refl
written_free r j q pos (x ∷ xs) h =
    let k = or_none (nat_eq x.0 pos) (has pos xs) h in
    ap (λ b. either b (version_of (r.time x.1) j x.0 (write_of q (r.writes x.1))) (written r j q pos xs)) k.0 ∙ written_free r j q pos xs k.1

pub written_less : {S P : Type 0} (r : PieceReading S P) (j q pos : ℕ) (a b : Chain P) (x : ℕ × P) → AreNumberedApart (a ++ x ∷ b) → written r j q pos (a ++ b) ≡ hidden (nat_eq x.0 pos) (written r j q pos (a ++ x ∷ b))
written_less r j q pos [] b x h = by_bool (λ t. written r j q pos b ≡ hidden t (either t (version_of (r.time x.1) j x.0 (write_of q (r.writes x.1))) (written r j q pos b))) (nat_eq x.0 pos)
    (λ e. written_free r j q pos b (subst (λ (n : ℕ). has n b ≡ false) (same_number x.0 pos e) h.0))
    (λ e. refl)
written_less r j q pos (y ∷ a) b x h = by_bool (λ t. either t (version_of (r.time y.1) j y.0 (write_of q (r.writes y.1))) (written r j q pos (a ++ b)) ≡ hidden (nat_eq x.0 pos) (either t (version_of (r.time y.1) j y.0 (write_of q (r.writes y.1))) (written r j q pos (a ++ x ∷ b)))) (nat_eq y.0 pos)
    (λ e. let n : nat_eq x.0 pos ≡ false = subst (λ (n : ℕ). nat_eq x.0 n ≡ false) (same_number y.0 pos e) (has_here a b x y.0 h.0) in
    sym (ap (λ t. hidden t (version_of (r.time y.1) j y.0 (write_of q (r.writes y.1)))) n))
    (λ e. written_less r j q pos a b x h.1)

pub written_at : {S P : Type 0} (r : PieceReading S P) (j q : ℕ) (a b : Chain P) (x : ℕ × P) → AreNumberedApart (a ++ x ∷ b) → written r j q x.0 (a ++ x ∷ b) ≡ version_of (r.time x.1) j x.0 (write_of q (r.writes x.1))
written_at r j q [] b x h = ap (λ t. either t (version_of (r.time x.1) j x.0 (write_of q (r.writes x.1))) (written r j q x.0 b)) (number_itself x.0)
written_at r j q (y ∷ a) b x h = ap (λ t. either t (version_of (r.time y.1) j y.0 (write_of q (r.writes y.1))) (written r j q x.0 (a ++ x ∷ b))) (number_turned x.0 y.0 (has_here a b x y.0 h.0)) ∙ written_at r j q a b x h.1

swap : (s t : Bool) (u v w : Option Version) → (s ≡ true → t ≡ false) → either s u (either t v w) ≡ either t v (either s u w)
swap true true u v w f = absurd (true≢false (f refl))
swap true false u v w f = refl
swap false t u v w f = refl

three : (a b c : ℕ) → nat_eq a b ≡ false → nat_eq a c ≡ true → nat_eq b c ≡ false
three a b c h k = grind (arith, nat_tests)

pub written_push : {S P : Type 0} (r : PieceReading S P) (j q pos : ℕ) (a : Chain P) (x : ℕ × P) → has x.0 a ≡ false → written r j q pos (a ++ x ∷ []) ≡ either (nat_eq x.0 pos) (version_of (r.time x.1) j x.0 (write_of q (r.writes x.1))) (written r j q pos a)
written_push r j q pos [] x h = refl
written_push r j q pos (y ∷ a) x h =
    let k = or_none (nat_eq y.0 x.0) (has x.0 a) h in
    ap (λ o. either (nat_eq y.0 pos) (version_of (r.time y.1) j y.0 (write_of q (r.writes y.1))) o) (written_push r j q pos a x k.1)
    ∙ swap (nat_eq y.0 pos) (nat_eq x.0 pos) (version_of (r.time y.1) j y.0 (write_of q (r.writes y.1))) (version_of (r.time x.1) j x.0 (write_of q (r.writes x.1))) (written r j q pos a) (λ e. three y.0 x.0 pos k.0 e)
