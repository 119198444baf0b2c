-- What a free leaf comes to is no sooner after a step of another leaf that writes none of its places.
use Rattle.std.proofs.Common.{ℕ, zero, suc, ◌≤◌, ◌≡◌, ◌≢◌, ◌∙◌, ◌&&◌, ◌||◌, ap, sym, refl, subst, arith, not, Bool, true, false, nat_eq, nat_lt, List, [], ◌∷◌, length, drop, Option, Some, None, slice_set, cond}
use Rattle.std.proofs.lemmas.List.{get_or-set_other}
use Rattle.san_base.proofs.Bools.{or_none}
use Rattle.san_base.proofs.NumberTests.{number_itself}
use Rattle.san_base.specs.declared.limits.Limits.{Limits}
use Rattle.san_book.specs.Chains.{AllFit, Chain, chain_of, without_piece, without_pieces}
use Rattle.san_book.specs.Cores.{Core, Pending, claim_of, is_at, is_claimed}
use Rattle.san_book.specs.Lines.{AreWrites, Line, each, line_of, no_line, withdraw, write_of}
use Rattle.san_book.specs.Machines.{Machine, PieceReading}
use Rattle.san_book.specs.Plans.{free_at, is_leaf, plan_first, plan_of, plan_over, time_of, when}
use Rattle.san_book.proofs.Each.{changed, each_at, length_each}
use Rattle.san_law.specs.Order.{Order, flag}
use Rattle.san_line.specs.Ordered.{IsOrdered}
use Rattle.san_line.proofs.Ordered.{ordered_without}
use Rattle.san_plan.specs.Soonest.{NoLater}
use Rattle.san_plan.proofs.Rising.{LineRises, LinesRise, less_rises, next_time, no_later_then, plan_rises, same_rises}

-- some places aren't written
abbrev pub AreUnwritten : List (ℕ × ℕ) → List ℕ → Type 0
AreUnwritten ws [] = Unit {0}
AreUnwritten ws (q ∷ qs) = (write_of q ws ≡ None) × AreUnwritten ws qs

abbrev write_by : Bool → ℕ × ℕ → Option ℕ → Option ℕ
write_by b w rest = cond b (Some w.1) rest

not_here : (b : Bool) (w : ℕ × ℕ) (rest : Option ℕ) → write_by b w rest ≡ None → (b ≡ false) × (rest ≡ None)
not_here true w rest e = absurd (cc)
not_here false w rest e = (refl, e)

other_place : (a q : ℕ) → nat_eq a q ≡ false → q ≢ a
other_place a q e k = let t : nat_eq a q ≡ true = ap (nat_eq a) k ∙ number_itself a in let f : true ≡ false = sym t ∙ e in absurd (cc)

line_unwritten : (f : ℕ → ℕ → Line → Line) (ws : List (ℕ × ℕ)) (lines : List Line) (q : ℕ) → write_of q ws ≡ None → line_of (each f ws lines) q ≡ line_of lines q
line_unwritten f [] lines q e = refl
line_unwritten f (w ∷ ws) lines q e =
    let k = not_here (nat_eq w.0 q) w (write_of q ws) e in
    line_unwritten f ws (slice_set lines w.0 (f w.0 w.1 (line_of lines w.0))) q k.1
    ∙ get_or-set_other lines w.0 q (f w.0 w.1 (line_of lines w.0)) no_line (other_place w.0 q k.0)

line_same : (old new : List Line) (j q : ℕ) → line_of new q ≡ line_of old q → LineRises old new j q
line_same old new j q e t u l = subst (λ (x : Line). NoLater (next_time j t (line_of old q).versions) (next_time j u x.versions)) (sym e) (same_rises j t u (line_of old q).versions l)

pub unwritten_rise : (f : ℕ → ℕ → Line → Line) (ws : List (ℕ × ℕ)) (lines : List Line) (j : ℕ) (qs : List ℕ) → AreUnwritten ws qs → LinesRise lines (each f ws lines) j qs
unwritten_rise f ws lines j [] h = tt
unwritten_rise f ws lines j (q ∷ qs) h = (line_same lines (each f ws lines) j q (line_unwritten f ws lines q h.0), unwritten_rise f ws lines j qs h.1)

pub same_lines : (lines : List Line) (j : ℕ) (qs : List ℕ) → LinesRise lines lines j qs
same_lines lines j [] = tt
same_lines lines j (q ∷ qs) = (line_same lines lines j q refl, same_lines lines j qs)

pub rise_then : (old mid new : List Line) (j : ℕ) (qs : List ℕ) → LinesRise old mid j qs → LinesRise mid new j qs → LinesRise old new j qs
rise_then old mid new j [] h k = tt
rise_then old mid new j (q ∷ qs) h k =
    (λ t u l. no_later_then (next_time j t (line_of old q).versions) (next_time j u (line_of mid q).versions) (next_time j u (line_of new q).versions) (h.0 t u l) (k.0 u u (omega arith)), rise_then old mid new j qs h.1 k.1)

-- versions of other leaves' pieces go
less_line : (leaf pos q : ℕ) (o : Option ℕ) (l : Line) (j t u : ℕ) → t ≤ u → IsOrdered l.versions → NoLater (next_time j t l.versions) (next_time j u (changed o (withdraw leaf pos q) l).versions)
less_line leaf pos q None l j t u le ordered = same_rises j t u l.versions le
less_line leaf pos q (Some v) l j t u le ordered = less_rises j t u (λ a p. nat_eq a leaf && nat_eq p pos) l.versions le ordered

less_ordered : (leaf pos q : ℕ) (o : Option ℕ) (l : Line) → IsOrdered l.versions → IsOrdered (changed o (withdraw leaf pos q) l).versions
less_ordered leaf pos q None l h = h
less_ordered leaf pos q (Some v) l h = ordered_without (λ a p. nat_eq a leaf && nat_eq p pos) l.versions h

abbrev pub AreOrdered : List Line → Type 0
AreOrdered lines = (q : ℕ) → IsOrdered (line_of lines q).versions

module _ (leaf pos : ℕ) (ws : List (ℕ × ℕ)) (lines : List Line) (fit : AreWrites (length lines) ws) (ordered : AreOrdered lines) where
  pub withdrawn_rise : (j : ℕ) (qs : List ℕ) → LinesRise lines (each (withdraw leaf pos) ws lines) j qs
  withdrawn_rise j [] = tt
  withdrawn_rise j (q ∷ qs) =
      (λ t u l. subst (λ (x : Line). NoLater (next_time j t (line_of lines q).versions) (next_time j u x.versions)) (sym (each_at (withdraw leaf pos) ws lines q fit)) (less_line leaf pos q (write_of q ws) (line_of lines q) j t u l (ordered q)), withdrawn_rise j qs)

  pub withdrawn_ordered : AreOrdered (each (withdraw leaf pos) ws lines)
  withdrawn_ordered q = subst (λ (x : Line). IsOrdered x.versions) (sym (each_at (withdraw leaf pos) ws lines q fit)) (less_ordered leaf pos q (write_of q ws) (line_of lines q) (ordered q))

pub tail_rises : {S P : Type 0} (r : PieceReading S P) (leaf : ℕ) (xs : Chain P) (lines : List Line) (j : ℕ) (qs : List ℕ) → AllFit r (length lines) xs → AreOrdered lines → LinesRise lines (without_pieces r leaf xs lines) j qs
tail_rises r leaf [] lines j qs fit ordered = same_lines lines j qs
tail_rises r leaf (x ∷ xs) lines j qs fit ordered =
    let mid = without_piece r leaf x.0 x.1 lines in
    rise_then lines mid (without_pieces r leaf xs mid) j qs
    (withdrawn_rise leaf x.0 (r.writes x.1) lines fit.0 ordered j qs)
    (tail_rises r leaf xs mid j qs (subst (λ (n : ℕ). AllFit r n xs) (sym (length_each (withdraw leaf x.0) (r.writes x.1) lines)) fit.1) (withdrawn_ordered leaf x.0 (r.writes x.1) lines fit.0 ordered))

pub fit_drop : {S P : Type 0} (r : PieceReading S P) (n k : ℕ) (xs : Chain P) → AllFit r n xs → AllFit r n (drop k xs)
fit_drop r n zero xs h = h
fit_drop r n (suc k) [] h = tt
fit_drop r n (suc k) (x ∷ xs) h = fit_drop r n k xs h.1

-- the order of needs has the same of a leaf, at no earlier a time
pub record OrderStays (o p : Order) (i : ℕ) : Type 0 where
  pub going : is_leaf i o.going ≡ is_leaf i p.going
  pub unsettled : flag o.unsettled i ≡ flag p.unsettled i
  pub stale : flag o.stale i ≡ flag p.stale i
  pub time : o.time ≤ p.time

pub order_same : (o : Order) (i : ℕ) → OrderStays o o i
order_same o i = record { going = refl; unsettled = refl; stale = refl; time = omega arith }

when_rises : (b c : Bool) (x y : Option ℕ) → (c ≡ true → b ≡ true) → NoLater x y → NoLater (when b x) (when c y)
when_rises b false x y f h = tt
when_rises true true x y f h = h
when_rises false true x y f h = absurd (let k : false ≡ true = f refl in cc)

-- a free leaf's next piece
module _ {H S P : Type 0} (m : Machine H S P) (limits : Limits) (c d : Core H P) (i : ℕ) where
  free_test : (a b : Bool) (x y : Bool) → (b ≡ false → a ≡ false) → x ≡ y → (not b && y) ≡ true → (not a && x) ≡ true
  free_test a true x y f e h = absurd (let k : false ≡ true = h in cc)
  free_test true false x y f e h = absurd (let k : true ≡ false = f refl in cc)
  free_test false false x y f e h = e ∙ h

  pub free_rises : chain_of d.chains i ≡ chain_of c.chains i → m.state d.held i ≡ m.state c.held i → OrderStays (m.order c.held) (m.order d.held) i → (is_claimed i d.claims ≡ false → is_claimed i c.claims ≡ false) → LinesRise c.lines d.lines i (m.places i)
      → NoLater (free_at m limits c i) (free_at m limits d i)
  free_rises chain state order claims rise =
      when_rises (not (is_claimed i c.claims) && nat_lt (length (chain_of c.chains i)) limits.window) (not (is_claimed i d.claims) && nat_lt (length (chain_of d.chains i)) limits.window) (time_of (plan_of m limits c i)) (time_of (plan_of m limits d i))
      (free_test (is_claimed i c.claims) (is_claimed i d.claims) (nat_lt (length (chain_of c.chains i)) limits.window) (nat_lt (length (chain_of d.chains i)) limits.window) claims (ap (λ (xs : Chain P). nat_lt (length xs) limits.window) (sym chain)))
      (subst (λ (s : S). NoLater (time_of (plan_of m limits c i)) (time_of (plan_over m limits.horizon.0 d.lines i (plan_first m limits.horizon.0 d.lines i (m.order d.held) s) (chain_of d.chains i)))) (sym state)
      (subst (λ (xs : Chain P). NoLater (time_of (plan_of m limits c i)) (time_of (plan_over m limits.horizon.0 d.lines i (plan_first m limits.horizon.0 d.lines i (m.order d.held) (m.state c.held i)) xs))) (sym chain)
      (plan_rises m limits.horizon.0 c.lines d.lines i rise (m.order c.held) (m.order d.held) (m.state c.held i) (chain_of c.chains i) order.going order.unsettled order.stale order.time)))

-- claims that come and go
off_both : (a b : Bool) → (a || b) ≡ false → (a ≡ false) × (b ≡ false)
off_both a b e = or_none a b e

pub claimed_less : (claims : List (Option Pending)) (w i : ℕ) (p : Pending) → claim_of claims w ≡ Some p → nat_eq p.leaf i ≡ false → is_claimed i (slice_set claims w None) ≡ false → is_claimed i claims ≡ false
claimed_less [] w i p e other h = refl
claimed_less (o ∷ os) zero i p e other h =
    let here : is_at i o ≡ false = ap (is_at i) e ∙ other in
    ap (λ (b : Bool). b || is_claimed i os) here ∙ h
claimed_less (o ∷ os) (suc w) i p e other h =
    let k = off_both (is_at i o) (is_claimed i (slice_set os w None)) h in
    ap (λ (b : Bool). b || is_claimed i os) k.0 ∙ claimed_less os w i p e other k.1

pub claimed_more : (claims : List (Option Pending)) (w i : ℕ) (p : Pending) → claim_of claims w ≡ None → is_claimed i (slice_set claims w (Some p)) ≡ false → is_claimed i claims ≡ false
claimed_more [] w i p e h = refl
claimed_more (o ∷ os) zero i p e h =
    let k = off_both (nat_eq p.leaf i) (is_claimed i os) h in
    ap (λ (x : Option Pending). is_at i x || is_claimed i os) e ∙ k.1
claimed_more (o ∷ os) (suc w) i p e h =
    let k = off_both (is_at i o) (is_claimed i (slice_set os w (Some p))) h in
    ap (λ (b : Bool). b || is_claimed i os) k.0 ∙ claimed_more os w i p e k.1
