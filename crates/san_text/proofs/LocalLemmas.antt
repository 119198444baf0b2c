-- Readers look no further than the first word that isn't legal.
use Rattle.std.proofs.Common.{◌≡◌, ℕ, zero, suc, ◌+◌, ◌<◌, ◌≤◌, Bool, true, false, cond, ◌&&◌, List, [], ◌∷◌, ◌++◌, length, Result, Ok, Err, Option, Some, None, refl, sym, ap, ◌∙◌, arith, ◌⊎◌, inl, inr}
use Rattle.san_lex.specs.declared.sign.Sign.{Sign}
use Rattle.san_lex.specs.Lexer.{Word, Number, Name, Fixed}
use Rattle.san_text.specs.Words.{is_next, tail, name_of, number_of}
use Rattle.san_text.specs.Steps.{GrammarFault, Illegal, Deep, Long, Version, Reading, ◌>>=◌, sign_at, name_at, number_at, number_or_none, legal, optional, many, all_of, gathered}
use Rattle.san_text.specs.Faults.{left_of, with_left}
use Rattle.san_text.proofs.FrontLemmas.{bind_ok, ok_is, next_is}
use Rattle.san_text.proofs.StepLemmas.{seq, sign_then, done, choice, maybe, guarded, signed}

-- ---- what a reader owes: words behind those that it looked at don't matter

pub record LocalTo (X : Type 0) (rest : X → List Word) (put : X → List Word → X) (r : List Word → Result X GrammarFault) : Type 0 where
  pub fails : (us xs ys : List Word) (f : GrammarFault) → r (us ++ xs) ≡ Err f → length xs < left_of f → (vs : List Word) × (left_of f ≡ length (vs ++ xs)) × (r (us ++ ys) ≡ Err (with_left f (length (vs ++ ys))))
  pub reads : (us xs ys : List Word) (p : X) → r (us ++ xs) ≡ Ok p → length xs < length (rest p) → (vs : List Word) × (rest p ≡ vs ++ xs) × (r (us ++ ys) ≡ Ok (put p (vs ++ ys)))
  pub bound : (ws : List Word) (f : GrammarFault) → r ws ≡ Err f → left_of f ≤ length ws
  pub within : (ws : List Word) (p : X) → r ws ≡ Ok p → length (rest p) ≤ length ws

abbrev pub after : {A : Type 0} → A × List Word → List Word
after p = p.1

abbrev pub moved : {A : Type 0} → A × List Word → List Word → A × List Word
moved p ws = (p.0, ws)

abbrev pub Local : {A : Type 0} → Reading A → Type 0
Local {A} r = LocalTo (A × List Word) after moved r

bind_err : {A B : Type 0} (r : Result A GrammarFault) (k : A → Result B GrammarFault) (f : GrammarFault) → (r >>= k) ≡ Err f → (r ≡ Err f) ⊎ ((x : A) × (r ≡ Ok x) × (k x ≡ Err f))
bind_err (Ok x) k f e = inr (x, refl, e)
bind_err (Err d) k f e = inl cc

abbrev failed : {A : Type 0} → GrammarFault → Result A GrammarFault
failed f = Err f

err_is : {A : Type 0} (f g : GrammarFault) → failed {A = A} f ≡ failed {A = A} g → f ≡ g
err_is f g e = cc

-- ---- one reader, then another

fails_by : {X Y : Type 0} {rest : X → List Word} {put : X → List Word → X} {rest' : Y → List Word} {put' : Y → List Word → Y} (r : List Word → Result X GrammarFault) (k : X → Result Y GrammarFault) → ((x : X) → put x (rest x) ≡ x)
    → LocalTo X rest put r → ((x : X) → LocalTo Y rest' put' (λ ws. k (put x ws))) → (us xs ys : List Word) (f : GrammarFault) → (r (us ++ xs) ≡ Err f) ⊎ ((x : X) × (r (us ++ xs) ≡ Ok x) × (k x ≡ Err f)) → length xs < left_of f
    → (vs : List Word) × (left_of f ≡ length (vs ++ xs)) × ((r (us ++ ys) >>= k) ≡ Err (with_left f (length (vs ++ ys))))
fails_by r k eta one two us xs ys f (inl e) lt = let t = one.fails us xs ys f e lt in (t.0, t.1, ap (λ q. q >>= k) t.2)
fails_by {rest = rest} {put = put} r k eta one two us xs ys f (inr s) lt =
    let at : k (put s.0 (rest s.0)) ≡ Err f = ap k (eta s.0) ∙ s.2 in
    let far : left_of f ≤ length (rest s.0) = (two s.0).bound (rest s.0) f at in
    let t = one.reads us xs ys s.0 s.1 (omega (arith, far, lt)) in
    let u = (two s.0).fails t.0 xs ys f (ap (λ ws. k (put s.0 ws)) (sym t.1) ∙ at) lt in
    (u.0, u.1, ap (λ q. q >>= k) t.2 ∙ u.2)

bound_by : {X Y : Type 0} {rest : X → List Word} {put : X → List Word → X} {rest' : Y → List Word} {put' : Y → List Word → Y} (r : List Word → Result X GrammarFault) (k : X → Result Y GrammarFault) → ((x : X) → put x (rest x) ≡ x)
    → LocalTo X rest put r → ((x : X) → LocalTo Y rest' put' (λ ws. k (put x ws))) → (ws : List Word) (f : GrammarFault) → (r ws ≡ Err f) ⊎ ((x : X) × (r ws ≡ Ok x) × (k x ≡ Err f)) → left_of f ≤ length ws
bound_by r k eta one two ws f (inl e) = one.bound ws f e
bound_by {rest = rest} {put = put} r k eta one two ws f (inr s) =
    let far : left_of f ≤ length (rest s.0) = (two s.0).bound (rest s.0) f (ap k (eta s.0) ∙ s.2) in
    let in_all : length (rest s.0) ≤ length ws = one.within ws s.0 s.1 in omega (arith, far, in_all)

pub bind_local : {X Y : Type 0} {rest : X → List Word} {put : X → List Word → X} {rest' : Y → List Word} {put' : Y → List Word → Y} (r : List Word → Result X GrammarFault) (k : X → Result Y GrammarFault) → ((x : X) → put x (rest x) ≡ x)
    → LocalTo X rest put r → ((x : X) → LocalTo Y rest' put' (λ ws. k (put x ws))) → LocalTo Y rest' put' (λ ws. r ws >>= k)
bind_local {rest = rest} {put = put} {rest' = rest'} r k eta one two = record {
  fails = λ us xs ys f e lt. fails_by r k eta one two us xs ys f (bind_err (r (us ++ xs)) k f e) lt;
  reads = λ us xs ys p e lt.
      let s = bind_ok (r (us ++ xs)) k p e in
      let at : k (put s.0 (rest s.0)) ≡ Ok p = ap k (eta s.0) ∙ s.2 in
      let far : length (rest' p) ≤ length (rest s.0) = (two s.0).within (rest s.0) p at in
      let t = one.reads us xs ys s.0 s.1 (omega (arith, far, lt)) in
      let u = (two s.0).reads t.0 xs ys p (ap (λ ws. k (put s.0 ws)) (sym t.1) ∙ at) lt in
      (u.0, u.1, ap (λ q. q >>= k) t.2 ∙ u.2);
  bound = λ ws f e. bound_by r k eta one two ws f (bind_err (r ws) k f e);
  within = λ ws p e.
      let s = bind_ok (r ws) k p e in
      let far : length (rest' p) ≤ length (rest s.0) = (two s.0).within (rest s.0) p (ap k (eta s.0) ∙ s.2) in
      let in_all : length (rest s.0) ≤ length ws = one.within ws s.0 s.1 in omega (arith, far, in_all);
}

-- ---- the parts of readers

pub same_local : {X : Type 0} {rest : X → List Word} {put : X → List Word → X} (r q : List Word → Result X GrammarFault) → ((ws : List Word) → r ws ≡ q ws) → LocalTo X rest put q → LocalTo X rest put r
same_local r q same l = record {
  fails = λ us xs ys f e lt. let t = l.fails us xs ys f (sym (same (us ++ xs)) ∙ e) lt in (t.0, t.1, same (us ++ ys) ∙ t.2);
  reads = λ us xs ys p e lt. let t = l.reads us xs ys p (sym (same (us ++ xs)) ∙ e) lt in (t.0, t.1, same (us ++ ys) ∙ t.2);
  bound = λ ws f e. l.bound ws f (sym (same ws) ∙ e);
  within = λ ws p e. l.within ws p (sym (same ws) ∙ e);
}

-- a reader that goes by the first word
first_fails : {X C : Type 0} {rest : X → List Word} {put : X → List Word → X} (g : List Word → C) (r : C → List Word → Result X GrammarFault) → ((w : Word) (us vs : List Word) → g (w ∷ us) ≡ g (w ∷ vs)) → ((c : C) → LocalTo X rest put (r c))
    → (us xs ys : List Word) (f : GrammarFault) → r (g (us ++ xs)) (us ++ xs) ≡ Err f → length xs < left_of f → (vs : List Word) × (left_of f ≡ length (vs ++ xs)) × (r (g (us ++ ys)) (us ++ ys) ≡ Err (with_left f (length (vs ++ ys))))
first_fails g r first l [] xs ys f e lt = let far : left_of f ≤ length xs = (l (g xs)).bound xs f e in absurd (omega (arith, far, lt))
first_fails g r first l (w ∷ us) xs ys f e lt =
    let t = (l (g (w ∷ (us ++ xs)))).fails (w ∷ us) xs ys f e lt in
    (t.0, t.1, ap (λ c. r c (w ∷ (us ++ ys))) (first w (us ++ ys) (us ++ xs)) ∙ t.2)

first_reads : {X C : Type 0} {rest : X → List Word} {put : X → List Word → X} (g : List Word → C) (r : C → List Word → Result X GrammarFault) → ((w : Word) (us vs : List Word) → g (w ∷ us) ≡ g (w ∷ vs)) → ((c : C) → LocalTo X rest put (r c))
    → (us xs ys : List Word) (p : X) → r (g (us ++ xs)) (us ++ xs) ≡ Ok p → length xs < length (rest p) → (vs : List Word) × (rest p ≡ vs ++ xs) × (r (g (us ++ ys)) (us ++ ys) ≡ Ok (put p (vs ++ ys)))
first_reads {rest = rest} g r first l [] xs ys p e lt = let far : length (rest p) ≤ length xs = (l (g xs)).within xs p e in absurd (omega (arith, far, lt))
first_reads g r first l (w ∷ us) xs ys p e lt =
    let t = (l (g (w ∷ (us ++ xs)))).reads (w ∷ us) xs ys p e lt in
    (t.0, t.1, ap (λ c. r c (w ∷ (us ++ ys))) (first w (us ++ ys) (us ++ xs)) ∙ t.2)

pub first_local : {X C : Type 0} {rest : X → List Word} {put : X → List Word → X} (g : List Word → C) (r : C → List Word → Result X GrammarFault) → ((w : Word) (us vs : List Word) → g (w ∷ us) ≡ g (w ∷ vs)) → ((c : C) → LocalTo X rest put (r c)) → LocalTo X rest put (λ ws. r (g ws) ws)
first_local g r first l = record {
  fails = first_fails g r first l;
  reads = first_reads g r first l;
  bound = λ ws f e. (l (g ws)).bound ws f e;
  within = λ ws p e. (l (g ws)).within ws p e;
}

pub cond_local : {X : Type 0} {rest : X → List Word} {put : X → List Word → X} (r q : List Word → Result X GrammarFault) → LocalTo X rest put r → LocalTo X rest put q → (c : Bool) → LocalTo X rest put (λ ws. cond c (r ws) (q ws))
cond_local r q one two true = one
cond_local r q one two false = two

pub tail_le : (ws : List Word) → length (tail ws) ≤ length ws
tail_le [] = omega arith
tail_le (w ∷ ws) = omega arith

skip_fails : {X : Type 0} {rest : X → List Word} {put : X → List Word → X} (r : List Word → Result X GrammarFault) → LocalTo X rest put r
    → (us xs ys : List Word) (f : GrammarFault) → r (tail (us ++ xs)) ≡ Err f → length xs < left_of f → (vs : List Word) × (left_of f ≡ length (vs ++ xs)) × (r (tail (us ++ ys)) ≡ Err (with_left f (length (vs ++ ys))))
skip_fails r l [] xs ys f e lt = let far : left_of f ≤ length (tail xs) = l.bound (tail xs) f e in absurd (omega (arith, far, lt, tail_le xs))
skip_fails r l (w ∷ us) xs ys f e lt = l.fails us xs ys f e lt

skip_reads : {X : Type 0} {rest : X → List Word} {put : X → List Word → X} (r : List Word → Result X GrammarFault) → LocalTo X rest put r
    → (us xs ys : List Word) (p : X) → r (tail (us ++ xs)) ≡ Ok p → length xs < length (rest p) → (vs : List Word) × (rest p ≡ vs ++ xs) × (r (tail (us ++ ys)) ≡ Ok (put p (vs ++ ys)))
skip_reads {rest = rest} r l [] xs ys p e lt = let far : length (rest p) ≤ length (tail xs) = l.within (tail xs) p e in absurd (omega (arith, far, lt, tail_le xs))
skip_reads r l (w ∷ us) xs ys p e lt = l.reads us xs ys p e lt

pub skip_local : {X : Type 0} {rest : X → List Word} {put : X → List Word → X} (r : List Word → Result X GrammarFault) → LocalTo X rest put r → LocalTo X rest put (λ ws. r (tail ws))
skip_local {rest = rest} r l = record {
  fails = skip_fails r l;
  reads = skip_reads r l;
  bound = λ ws f e. let far : left_of f ≤ length (tail ws) = l.bound (tail ws) f e in omega (arith, far, tail_le ws);
  within = λ ws p e. let far : length (rest p) ≤ length (tail ws) = l.within (tail ws) p e in omega (arith, far, tail_le ws);
}

fault_local : {X : Type 0} {rest : X → List Word} {put : X → List Word → X} (kind : ℕ → GrammarFault) → ((n : ℕ) → left_of (kind n) ≡ n) → ((m n : ℕ) → with_left (kind m) n ≡ kind n) → LocalTo X rest put (λ ws. Err (kind (length ws)))
fault_local kind left with = record {
  fails = λ us xs ys f e lt.
      let is : kind (length (us ++ xs)) ≡ f = err_is (kind (length (us ++ xs))) f e in
      (us, ap left_of (sym is) ∙ left (length (us ++ xs)), ap (λ g. Err g) (sym (with (length (us ++ xs)) (length (us ++ ys))) ∙ ap (λ g. with_left g (length (us ++ ys))) is));
  reads = λ us xs ys p e lt. absurd cc;
  bound = λ ws f e.
      let is : left_of f ≡ length ws = ap left_of (sym (err_is (kind (length ws)) f e)) ∙ left (length ws) in omega (arith, is);
  within = λ ws p e. absurd cc;
}

pub illegal_local : {X : Type 0} {rest : X → List Word} {put : X → List Word → X} → LocalTo X rest put (λ ws. Err (Illegal (length ws)))
illegal_local = fault_local (λ n. Illegal n) (λ n. refl) (λ m n. refl)

pub deep_local : {X : Type 0} {rest : X → List Word} {put : X → List Word → X} → LocalTo X rest put (λ ws. Err (Deep (length ws)))
deep_local = fault_local (λ n. Deep n) (λ n. refl) (λ m n. refl)

pub long_local : {X : Type 0} {rest : X → List Word} {put : X → List Word → X} → LocalTo X rest put (λ ws. Err (Long (length ws)))
long_local = fault_local (λ n. Long n) (λ n. refl) (λ m n. refl)

pub version_fault_local : {X : Type 0} {rest : X → List Word} {put : X → List Word → X} → LocalTo X rest put (λ ws. Err (Version (length ws)))
version_fault_local = fault_local (λ n. Version n) (λ n. refl) (λ m n. refl)

pub made_local : {X : Type 0} {rest : X → List Word} {put : X → List Word → X} (made : List Word → X) → ((ws : List Word) → rest (made ws) ≡ ws) → ((ws vs : List Word) → put (made ws) vs ≡ made vs) → LocalTo X rest put (λ ws. Ok (made ws))
made_local {rest = rest} {put = put} made back again = record {
  fails = λ us xs ys f e lt. absurd cc;
  reads = λ us xs ys p e lt.
      let is : made (us ++ xs) ≡ p = ok_is (made (us ++ xs)) p e in
      (us, ap rest (sym is) ∙ back (us ++ xs), ap (λ q. Ok q) (sym (again (us ++ xs) (us ++ ys)) ∙ ap (λ q. put q (us ++ ys)) is));
  bound = λ ws f e. absurd cc;
  within = λ ws p e. let is : rest p ≡ ws = ap rest (sym (ok_is (made ws) p e)) ∙ back ws in let le : length (rest p) ≡ length ws = ap length is in omega (arith, le);
}

pub done_local : {A : Type 0} (x : A) → Local (done x)
unfolding done
done_local x = made_local (λ ws. (x, ws)) (λ ws. refl) (λ ws vs. refl)

pub seq_local : {A B : Type 0} {r : Reading A} {k : A → Reading B} → Local r → ((a : A) → Local (k a)) → Local (seq r k)
unfolding seq
seq_local {r = r} {k = k} one two = bind_local r (λ x. k x.0 x.1) (λ x. refl) one (λ x. two x.0)

pub next_first : (s : Sign) (w : Word) (us vs : List Word) → is_next s (w ∷ us) ≡ is_next s (w ∷ vs)
unfolding is_next
next_first s w us vs = refl

sign_by : {A : Type 0} (r : Reading A) (b : Bool) (ws : List Word) → (cond b (Ok (tail ws)) (Err (Illegal (length ws))) >>= λ vs. r vs) ≡ cond b (r (tail ws)) (Err (Illegal (length ws)))
sign_by r true ws = refl
sign_by r false ws = refl

pub sign_local : {A : Type 0} {r : Reading A} (s : Sign) → Local r → Local (sign_then s r)
unfolding sign_then sign_at
sign_local {r = r} s l =
    let by : Reading _ = λ ws. cond (is_next s ws) (r (tail ws)) (Err (Illegal (length ws))) in
    same_local (λ ws. cond (is_next s ws) (Ok (tail ws)) (Err (Illegal (length ws))) >>= λ vs. r vs) by (λ ws. sign_by r (is_next s ws) ws)
    (first_local (is_next s) (λ c ws. cond c (r (tail ws)) (Err (Illegal (length ws)))) (next_first s) (cond_local (λ ws. r (tail ws)) (λ ws. Err (Illegal (length ws))) (skip_local r l) illegal_local))

pub choice_local : {A : Type 0} {r q : Reading A} (s : Sign) → Local r → Local q → Local (choice s r q)
unfolding choice
choice_local {r = r} {q = q} s one two = first_local (is_next s) (λ c ws. cond c (r (tail ws)) (q ws)) (next_first s) (cond_local (λ ws. r (tail ws)) q (skip_local r one) two)

pub maybe_local : {A : Type 0} {r : Reading (Option A)} (test : List Word → Bool) → ((w : Word) (us vs : List Word) → test (w ∷ us) ≡ test (w ∷ vs)) → Local r → Local (maybe test r)
unfolding maybe done
maybe_local {r = r} test first l = first_local test (λ c ws. cond c (r (tail ws)) (Ok (None, ws))) first (cond_local (λ ws. r (tail ws)) (λ ws. Ok (None, ws)) (skip_local r l) (done_local None))

pub guarded_local : {A : Type 0} {r q : Reading A} (g : Bool) (s : Sign) → Local r → Local q → Local (guarded g s r q)
unfolding guarded is_next
guarded_local {r = r} {q = q} g s one two = first_local (λ ws. g && is_next s ws) (λ c ws. cond c (r ws) (q ws)) (λ w us vs. refl) (cond_local r q one two)

-- ---- names and numbers

pub name_first : (w : Word) (us vs : List Word) → name_of (w ∷ us) ≡ name_of (w ∷ vs)
unfolding name_of
name_first (Number n) us vs = refl
name_first (Name s) us vs = refl
name_first (Fixed s) us vs = refl

pub number_first : (w : Word) (us vs : List Word) → number_of (w ∷ us) ≡ number_of (w ∷ vs)
unfolding number_of
number_first (Number n) us vs = refl
number_first (Name s) us vs = refl
number_first (Fixed s) us vs = refl

legal_local : {A : Type 0} (o : Option A) → Local (legal o)
unfolding done
legal_local (Some x) = skip_local (λ ws. Ok (x, ws)) (done_local x)
legal_local None = illegal_local

pub name_local : Local name_at
unfolding name_at
name_local = first_local name_of legal name_first legal_local

pub number_local : Local number_at
unfolding number_at
number_local = first_local number_of legal number_first legal_local

optional_local : (o : Option ℕ) → Local (optional o)
unfolding done
optional_local (Some n) = skip_local (λ ws. Ok (Some n, ws)) (done_local (Some n))
optional_local None = done_local None

pub weight_local : Local number_or_none
unfolding number_or_none
weight_local = first_local number_of optional number_first optional_local

-- ---- lists

abbrev pub Firsts : (List Word → Bool) → Type 0
Firsts starts = (w : Word) (us vs : List Word) → starts (w ∷ us) ≡ starts (w ∷ vs)

-- an item takes a word at least
abbrev pub Eats : {A : Type 0} → (List Word → Bool) → Reading A → Type 0
Eats {A} starts item = (ws : List Word) (p : A × List Word) → starts ws ≡ true → item ws ≡ Ok p → length p.1 < length ws

pub many_local : {A : Type 0} (starts : List Word → Bool) (item : Reading A) → Firsts starts → Local item → (n : ℕ) → Local (many starts item n)
unfolding many done
many_local starts item first l zero = done_local []
many_local starts item first l (suc n) =
    let more : Reading (List _) = λ ws. item ws >>= λ x. many starts item n x.1 >>= λ y. Ok (x.0 ∷ y.0, y.1) in
    first_local starts (λ c ws. cond c (more ws) (Ok ([], ws))) first
    (cond_local more (λ ws. Ok ([], ws)) (bind_local item (λ x. many starts item n x.1 >>= λ y. Ok (x.0 ∷ y.0, y.1)) (λ x. refl) l
    (λ x. bind_local (many starts item n) (λ y. Ok (x.0 ∷ y.0, y.1)) (λ y. refl) (many_local starts item first l n) (λ y. done_local (x.0 ∷ y.0)))) (done_local []))

none_more : {A : Type 0} (starts : List Word → Bool) (item : Reading A) (n : ℕ) → starts [] ≡ false → many starts item n [] ≡ Ok ([], [])
unfolding many
none_more starts item zero e = refl
none_more starts item (suc n) e = rw e refl

abbrev with_item : {A : Type 0} → A → Result (List A × List Word) GrammarFault → Result (List A × List Word) GrammarFault
with_item x q = q >>= λ y. Ok (x ∷ y.0, y.1)

abbrev turn : {A : Type 0} → (List Word → Bool) → Reading A → ℕ → List Word → Bool → Result (A × List Word) GrammarFault → Result (List A × List Word) GrammarFault
turn starts item n ws b r = cond b (r >>= λ x. many starts item n x.1 >>= λ y. Ok (x.0 ∷ y.0, y.1)) (Ok ([], ws))

enough_by : {A : Type 0} (starts : List Word → Bool) (item : Reading A) → Eats starts item → (n m : ℕ) → ((us : List Word) → length us ≤ n → length us ≤ m → many starts item n us ≡ many starts item m us)
    → (ws : List Word) → length ws ≤ suc n → length ws ≤ suc m → (b : Bool) → starts ws ≡ b → (r : Result (A × List Word) GrammarFault) → item ws ≡ r
    → turn starts item n ws b r ≡ turn starts item m ws b r
enough_by starts item eats n m again ws ln lm false is r e = refl
enough_by starts item eats n m again ws ln lm true is (Err f) e = refl
enough_by starts item eats n m again ws ln lm true is (Ok x) e =
    let lt : length x.1 < length ws = eats ws x is e in
    ap (with_item x.0) (again x.1 (omega (arith, lt, ln)) (omega (arith, lt, lm)))

-- more turns than words change nothing
enough : {A : Type 0} (starts : List Word → Bool) (item : Reading A) → starts [] ≡ false → Eats starts item → (n m : ℕ) (ws : List Word) → length ws ≤ n → length ws ≤ m → many starts item n ws ≡ many starts item m ws
unfolding many
enough starts item none eats n m [] ln lm = none_more starts item n none ∙ sym (none_more starts item m none)
enough starts item none eats zero m (w ∷ ws) ln lm = absurd (omega (arith, ln))
enough starts item none eats (suc n) zero (w ∷ ws) ln lm = absurd (omega (arith, lm))
enough starts item none eats (suc n) (suc m) (w ∷ ws) ln lm = enough_by starts item eats n m (λ us a b. enough starts item none eats n m us a b) (w ∷ ws) ln lm (starts (w ∷ ws)) refl (item (w ∷ ws)) refl

pub record Listed {A : Type 0} (starts : List Word → Bool) (item : Reading A) : Type 0 where
  pub none : starts [] ≡ false
  pub first : Firsts starts
  pub eats : Eats starts item
  pub each : Local item

pub all_local : {A : Type 0} {starts : List Word → Bool} {item : Reading A} → Listed starts item → Local (all_of starts item)
all_local {starts = starts} {item = item} l =
    let turns = λ (us vs : List Word). length us + length vs in
    let left = λ (us vs : List Word). enough starts item l.none l.eats (length us) (turns us vs) us (omega arith) (omega arith) in
    let right = λ (us vs : List Word). enough starts item l.none l.eats (turns us vs) (length vs) vs (omega arith) (omega arith) in
    let at = many_local starts item l.first l.each in
    record {
      fails = λ us xs ys f e lt. let t = (at (turns (us ++ xs) (us ++ ys))).fails us xs ys f (sym (left (us ++ xs) (us ++ ys)) ∙ e) lt in (t.0, t.1, sym (right (us ++ xs) (us ++ ys)) ∙ t.2);
      reads = λ us xs ys p e lt. let t = (at (turns (us ++ xs) (us ++ ys))).reads us xs ys p (sym (left (us ++ xs) (us ++ ys)) ∙ e) lt in (t.0, t.1, sym (right (us ++ xs) (us ++ ys)) ∙ t.2);
      bound = λ ws f e. (at (length ws)).bound ws f e;
      within = λ ws p e. (at (length ws)).within ws p e;
    }

gathered_is : {A : Type 0} (front : List A) (r : Result (List A × List Word) GrammarFault) → gathered front r ≡ (r >>= λ y. Ok (front ++ y.0, y.1))
gathered_is front (Ok y) = refl
gathered_is front (Err f) = refl

pub gathered_local : {A : Type 0} (front : List A) (r : Reading (List A)) → Local r → Local (λ ws. gathered front (r ws))
unfolding done
gathered_local front r l = same_local (λ ws. gathered front (r ws)) (λ ws. r ws >>= λ y. Ok (front ++ y.0, y.1)) (λ ws. gathered_is front (r ws)) (bind_local r (λ y. Ok (front ++ y.0, y.1)) (λ y. refl) l (λ y. done_local (front ++ y.0)))

-- ---- how many words are taken

abbrev pub Takes : {A : Type 0} → Reading A → Type 0
Takes {A} r = (ws : List Word) (p : A × List Word) → r ws ≡ Ok p → length p.1 < length ws

pub takes_sign : {A : Type 0} {r : Reading A} (s : Sign) → Local r → Takes (sign_then s r)
unfolding sign_then
takes_sign {r = r} s l ws p e =
    let b = bind_ok (sign_at s ws) (λ vs. r vs) p e in
    let is : length ws ≡ suc (length b.0) = ap length (signed s ws b.0 b.1) in
    let le : length p.1 ≤ length b.0 = l.within b.0 p b.2 in
    omega (arith, is, le)

pub takes_seq : {A B : Type 0} {r : Reading A} {k : A → Reading B} → Takes r → ((a : A) → Local (k a)) → Takes (seq r k)
unfolding seq
takes_seq {r = r} {k = k} takes l ws p e =
    let b = bind_ok (r ws) (λ x. k x.0 x.1) p e in
    let lt : length b.0.1 < length ws = takes ws b.0 b.1 in
    let le : length p.1 ≤ length b.0.1 = (l b.0.0).within b.0.1 p b.2 in
    omega (arith, lt, le)

takes_by : {A : Type 0} (s : Sign) (r q : Reading A) → Local r → Takes q → (b : Bool) (ws : List Word) (p : A × List Word) → is_next s ws ≡ b → cond b (r (tail ws)) (q ws) ≡ Ok p → length p.1 < length ws
takes_by s r q l takes true ws p is e =
    let front : length ws ≡ suc (length (tail ws)) = ap length (next_is s ws is) in
    let le : length p.1 ≤ length (tail ws) = l.within (tail ws) p e in
    omega (arith, front, le)
takes_by s r q l takes false ws p is e = takes ws p e

pub takes_choice : {A : Type 0} {r q : Reading A} (s : Sign) → Local r → Takes q → Takes (choice s r q)
unfolding choice
takes_choice {r = r} {q = q} s l takes ws p e = takes_by s r q l takes (is_next s ws) ws p refl e

pub listed : {A : Type 0} {starts : List Word → Bool} {item : Reading A} → starts [] ≡ false → Firsts starts → Takes item → Local item → Listed starts item
listed none first takes each = record { none = none; first = first; eats = λ ws p s e. takes ws p e; each = each }
