-- Pieces come into the lines and go.
use Rattle.san_base.proofs.NumberTests.{same_number, number_itself, by_number}
use Rattle.std.proofs.Common.{ℕ, ◌<◌, ◌≡◌, ◌∙◌, ◌&&◌, inl, inr, ap, sym, refl, subst, List, [], ◌∷◌, ◌++◌, length, Option, Some, None, Bool, true, false, nat_eq}
use Rattle.std.proofs.lemmas.Bool.{cases_lt, true≢false}
use Rattle.std.proofs.lemmas.List.{append-nil, get_or_past}
use Rattle.san_line.specs.declared.version.Version.{Version}
use Rattle.san_line.specs.Lines.{find, found_by}
use Rattle.san_line.specs.Ordered.{IsOrdered}
use Rattle.san_line.proofs.Ordered.{by_bool, find_inserted, find_without, hidden, ordered_inserted, ordered_without}
use Rattle.san_book.specs.Machines.{PieceReading}
use Rattle.san_book.specs.Lines.{AreCommitted, AreWrites, Line, commit, each, line_of, no_line, put, version_at, withdraw, write_of}
use Rattle.san_book.specs.Chains.{AllFit, AreNumberedApart, Chain, Exact, has, version_of, with_piece, without_piece, without_pieces, written}
use Rattle.san_book.proofs.Each.{changed, committed_kept, each_at, either, eq_turn, length_each, unlike}
use Rattle.san_book.proofs.Written.{apart_less, with_chain, written_at, written_free, written_less, written_push}

-- one line, when a piece's version comes
put_own : (t j n q pos : ℕ) (o : Option ℕ) (l : Line) → find j n l.versions ≡ None →
    find j pos (changed o (put t j n q) l).versions ≡ either (nat_eq n pos) (version_of t j n o) (find j pos l.versions)
put_own t j n q pos None l e = by_bool (λ b. find j pos l.versions ≡ either b None (find j pos l.versions)) (nat_eq n pos)
    (λ k. subst (λ (m : ℕ). find j m l.versions ≡ None) (same_number n pos k) e) (λ k. refl)
put_own t j n q pos (Some v) l e =
    find_inserted j pos (version_at t j n v) l.versions e ∙ turn (nat_eq j j) (nat_eq n pos) (version_at t j n v) (find j pos l.versions) (number_itself j)
  where
    turn : (a b : Bool) (w : Version) (o : Option Version) → a ≡ true → found_by (a && b) w o ≡ either b (Some w) o
    turn true true w o h = refl
    turn true false w o h = refl
    turn false b w o h = absurd (true≢false (sym h))

put_other : (t j n q i pos : ℕ) (o : Option ℕ) (l : Line) → find j n l.versions ≡ None → nat_eq j i ≡ false →
    find i pos (changed o (put t j n q) l).versions ≡ find i pos l.versions
put_other t j n q i pos None l e d = refl
put_other t j n q i pos (Some v) l e d =
    find_inserted i pos (version_at t j n v) l.versions e ∙ ap (λ b. found_by (b && nat_eq n pos) (version_at t j n v) (find i pos l.versions)) d

put_ordered : (t j n q : ℕ) (o : Option ℕ) (l : Line) → find j n l.versions ≡ None → IsOrdered l.versions → IsOrdered (changed o (put t j n q) l).versions
put_ordered t j n q None l e h = h
put_ordered t j n q (Some v) l e h = ordered_inserted (version_at t j n v) l.versions e h

-- one line, when a piece's version goes
drop_own : (t j n q pos : ℕ) (o : Option ℕ) (l : Line) → find j n l.versions ≡ version_of t j n o →
    find j pos (changed o (withdraw j n q) l).versions ≡ hidden (nat_eq n pos) (find j pos l.versions)
drop_own t j n q pos None l e = by_bool (λ b. find j pos l.versions ≡ hidden b (find j pos l.versions)) (nat_eq n pos)
    (λ k. subst (λ (m : ℕ). find j m l.versions ≡ None) (same_number n pos k) e) (λ k. refl)
drop_own t j n q pos (Some v) l e = find_without (λ l p. nat_eq l j && nat_eq p n) j pos l.versions
    ∙ (ap (λ b. hidden (b && nat_eq pos n) (find j pos l.versions)) (number_itself j) ∙ ap (λ b. hidden b (find j pos l.versions)) (eq_turn pos n))

drop_other : (j n q i pos : ℕ) (o : Option ℕ) (l : Line) → nat_eq i j ≡ false →
    find i pos (changed o (withdraw j n q) l).versions ≡ find i pos l.versions
drop_other j n q i pos None l d = refl
drop_other j n q i pos (Some v) l d = find_without (λ l p. nat_eq l j && nat_eq p n) i pos l.versions ∙ ap (λ b. hidden (b && nat_eq pos n) (find i pos l.versions)) d

drop_ordered : (j n q : ℕ) (o : Option ℕ) (l : Line) → IsOrdered l.versions → IsOrdered (changed o (withdraw j n q) l).versions
drop_ordered j n q None l h = h
drop_ordered j n q (Some v) l h = ordered_without (λ l p. nat_eq l j && nat_eq p n) l.versions h

-- the same chains
pub exact_same : {S P : Type 0} (r : PieceReading S P) (lines : List Line) (f g : ℕ → Chain P) → ((i : ℕ) → f i ≡ g i) → Exact r lines f → Exact r lines g
exact_same r lines f g s h = record { ordered = h.ordered; versions = λ q j pos k. h.versions q j pos k ∙ ap (λ c. written r j q pos c) (s j) }

exact_within : {S P : Type 0} (r : PieceReading S P) (lines : List Line) (f : ℕ → Chain P) → Exact r lines f → (q j n : ℕ) → has n (f j) ≡ false → find j n (line_of lines q).versions ≡ None
exact_within r lines f h q j n free = elim (cases_lt q (length lines)) [
  | inl k ↦ h.versions q j n k ∙ written_free r j q n (f j) free
  | inr k ↦ ap (λ (l : Line). find j n l.versions) (get_or_past lines q no_line k)
]

-- a piece is pushed
pub lines_more : {S P : Type 0} (r : PieceReading S P) (j : ℕ) (x : ℕ × P) (f : ℕ → Chain P) (lines : List Line) → AreWrites (length lines) (r.writes x.1) → has x.0 (f j) ≡ false → Exact r lines f →
    Exact r (with_piece r j x.0 x.1 lines) (with_chain f j (f j ++ x ∷ []))
lines_more r j x f lines fit free h = record {
  ordered = λ q. subst (λ (l : Line). IsOrdered l.versions) (sym (at q)) (put_ordered (r.time x.1) j x.0 q (write_of q (r.writes x.1)) (line_of lines q) (exact_within r lines f h q j x.0 free) (h.ordered q));
  versions = λ q i pos k.
      let k2 : q < length lines = subst (λ (n : ℕ). q < n) (length_each (put (r.time x.1) j x.0) (r.writes x.1) lines) k in
      ap (λ (l : Line). find i pos l.versions) (at q) ∙ by_number (λ i. find i pos (changed (write_of q (r.writes x.1)) (put (r.time x.1) j x.0 q) (line_of lines q)).versions ≡ written r i q pos (with_chain f j (f j ++ x ∷ []) i)) j
      (put_own (r.time x.1) j x.0 q pos (write_of q (r.writes x.1)) (line_of lines q) (exact_within r lines f h q j x.0 free)
      ∙ (ap (λ o. either (nat_eq x.0 pos) (version_of (r.time x.1) j x.0 (write_of q (r.writes x.1))) o) (h.versions q j pos k2)
      ∙ (sym (written_push r j q pos (f j) x free)
      ∙ sym (ap (λ b. written r j q pos (either b (f j ++ x ∷ []) (f j))) (number_itself j)))))
      (λ i d. put_other (r.time x.1) j x.0 q i pos (write_of q (r.writes x.1)) (line_of lines q) (exact_within r lines f h q j x.0 free) (unlike i j d)
      ∙ (h.versions q i pos k2
      ∙ sym (ap (λ b. written r i q pos (either b (f j ++ x ∷ []) (f i))) (unlike i j d))))
      i;
}
  where
    at : (q : ℕ) → line_of (with_piece r j x.0 x.1 lines) q ≡ changed (write_of q (r.writes x.1)) (put (r.time x.1) j x.0 q) (line_of lines q)
    at q = each_at (put (r.time x.1) j x.0) (r.writes x.1) lines q fit

-- a piece goes, wherever it stands
pub lines_less : {S P : Type 0} (r : PieceReading S P) (j : ℕ) (a b : Chain P) (x : ℕ × P) (f : ℕ → Chain P) (lines : List Line) → AreWrites (length lines) (r.writes x.1) → f j ≡ a ++ x ∷ b → AreNumberedApart (a ++ x ∷ b) → Exact r lines f →
    Exact r (without_piece r j x.0 x.1 lines) (with_chain f j (a ++ b))
lines_less r j a b x f lines fit is apart h = record {
  ordered = λ q. subst (λ (l : Line). IsOrdered l.versions) (sym (at q)) (drop_ordered j x.0 q (write_of q (r.writes x.1)) (line_of lines q) (h.ordered q));
  versions = λ q i pos k.
      let k2 : q < length lines = subst (λ (n : ℕ). q < n) (length_each (withdraw j x.0) (r.writes x.1) lines) k in
      ap (λ (l : Line). find i pos l.versions) (at q) ∙ by_number (λ i. find i pos (changed (write_of q (r.writes x.1)) (withdraw j x.0 q) (line_of lines q)).versions ≡ written r i q pos (with_chain f j (a ++ b) i)) j
      (drop_own (r.time x.1) j x.0 q pos (write_of q (r.writes x.1)) (line_of lines q) (h.versions q j x.0 k2 ∙ (ap (λ c. written r j q x.0 c) is ∙ written_at r j q a b x apart))
      ∙ (ap (λ o. hidden (nat_eq x.0 pos) o) (h.versions q j pos k2 ∙ ap (λ c. written r j q pos c) is)
      ∙ (sym (written_less r j q pos a b x apart)
      ∙ sym (ap (λ t. written r j q pos (either t (a ++ b) (f j))) (number_itself j)))))
      (λ i d. drop_other j x.0 q i pos (write_of q (r.writes x.1)) (line_of lines q) (eq_turn i j ∙ unlike i j d)
      ∙ (h.versions q i pos k2
      ∙ sym (ap (λ t. written r i q pos (either t (a ++ b) (f i))) (unlike i j d))))
      i;
}
  where
    at : (q : ℕ) → line_of (without_piece r j x.0 x.1 lines) q ≡ changed (write_of q (r.writes x.1)) (withdraw j x.0 q) (line_of lines q)
    at q = each_at (withdraw j x.0) (r.writes x.1) lines q fit

chain_twice : {P : Type 0} (f : ℕ → Chain P) (j : ℕ) (a b : Chain P) (i : ℕ) → with_chain (with_chain f j a) j b i ≡ with_chain f j b i
chain_twice {P} f j a b i = twice (nat_eq j i) a b (f i)
  where
    twice : (t : Bool) (u v w : Chain P) → either t v (either t u w) ≡ either t v w
    twice true u v w = refl
    twice false u v w = refl

pub chain_same : {P : Type 0} (f : ℕ → Chain P) (j : ℕ) (c : Chain P) → f j ≡ c → (i : ℕ) → f i ≡ with_chain f j c i
chain_same f j c e i = by_bool (λ t. f i ≡ either t c (f i)) (nat_eq j i) (λ k. subst (λ (n : ℕ). f n ≡ c) (same_number j i k) e) (λ k. refl)

-- all from one on go
pub lines_cut : {S P : Type 0} (r : PieceReading S P) (j : ℕ) (a b : Chain P) (f : ℕ → Chain P) (lines : List Line) → AllFit r (length lines) b → f j ≡ a ++ b → AreNumberedApart (a ++ b) → Exact r lines f →
    Exact r (without_pieces r j b lines) (with_chain f j a)
lines_cut r j a [] f lines fit is apart h = exact_same r lines f (with_chain f j a) (chain_same f j a (is ∙ append-nil a)) h
lines_cut {S} {P} r j a (x ∷ b) f lines fit is apart h =
    let less : List Line = without_piece r j x.0 x.1 lines in
    let there : with_chain f j (a ++ b) j ≡ a ++ b = ap (λ t. either t (a ++ b) (f j)) (number_itself j) in
    exact_same r (without_pieces r j b less) (with_chain (with_chain f j (a ++ b)) j a) (with_chain f j a) (chain_twice f j (a ++ b) a)
    (lines_cut r j a b (with_chain f j (a ++ b)) less (subst (λ n. AllFit r n b) (sym (length_each (withdraw j x.0) (r.writes x.1) lines)) fit.1) there (apart_less a b x apart)
    (lines_less r j a b x f lines fit.0 is apart h))

-- what is committed changes no version
pub exact_commit : {S P : Type 0} (r : PieceReading S P) (ws : List (ℕ × ℕ)) (new : List ℕ) (lines : List Line) (f : ℕ → Chain P) → AreWrites (length lines) ws → Exact r lines f → Exact r (each (commit new) ws lines) f
exact_commit r ws new lines f fit h = record {
  ordered = λ q. subst (λ (l : Line). IsOrdered l.versions) (sym (at q)) (subst (λ vs. IsOrdered vs) (sym (stays q (write_of q ws) (line_of lines q))) (h.ordered q));
  versions = λ q j pos k. ap (λ (l : Line). find j pos l.versions) (at q) ∙ (ap (λ vs. find j pos vs) (stays q (write_of q ws) (line_of lines q)) ∙ h.versions q j pos (subst (λ (n : ℕ). q < n) (length_each (commit new) ws lines) k));
}
  where
    at : (q : ℕ) → line_of (each (commit new) ws lines) q ≡ changed (write_of q ws) (commit new q) (line_of lines q)
    at q = each_at (commit new) ws lines q fit

    stays : (q : ℕ) (o : Option ℕ) (l : Line) → (changed o (commit new q) l).versions ≡ l.versions
    stays q None l = refl
    stays q (Some v) l = refl

pub length_without : {S P : Type 0} (r : PieceReading S P) (j : ℕ) (xs : Chain P) (lines : List Line) → length (without_pieces r j xs lines) ≡ length lines
length_without r j [] lines = refl
length_without r j (x ∷ xs) lines = length_without r j xs (without_piece r j x.0 x.1 lines) ∙ length_each (withdraw j x.0) (r.writes x.1) lines

pub committed_without : {S P : Type 0} (r : PieceReading S P) (j : ℕ) (xs : Chain P) (lines : List Line) (shared : List ℕ) → AllFit r (length lines) xs → AreCommitted lines shared → AreCommitted (without_pieces r j xs lines) shared
committed_without r j [] lines shared fit h = h
committed_without r j (x ∷ xs) lines shared fit h = committed_without r j xs (without_piece r j x.0 x.1 lines) shared (subst (λ n. AllFit r n xs) (sym (length_each (withdraw j x.0) (r.writes x.1) lines)) fit.1)
    (committed_kept (withdraw j x.0) (r.writes x.1) lines shared fit.0 (λ q v l. refl) h)
