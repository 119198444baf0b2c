-- What fits a part.
use Rattle.std.proofs.Common.{ℕ, zero, suc, ◌^◌, ◌<◌, ◌≤◌, ◌≡◌, ◌∙◌, inl, ap, sym, refl, arith, All, List, [], ◌∷◌, length, Some, None}
use Rattle.std.specs.Prelude.{slice_get}
use Rattle.std.proofs.lemmas.List.{length-map}
use Rattle.san_base.specs.declared.limits.TheConstants.{MAX_HORIZON, MAX_TOKENS}
use Rattle.san_law.specs.Net.{Private, Shared, Slot, Timer}
use Rattle.san_law.specs.Piece.{own, privates}
use Rattle.san_law.specs.State.{repeated}
use Rattle.san_net.specs.Accepted.{IsAccepted}
use Rattle.san_net.specs.Laid.{IsNetwork}
use Rattle.san_net.specs.Leaf.{slot_in}
use Rattle.san_net.specs.Network.{Network}
use Rattle.san_net.specs.declared.part.Part.{Part}
use Rattle.san_net.proofs.FlatLemmas.{acts_within}
use Rattle.san_leaf.specs.Claimed.{Claimed}
use Rattle.san_leaf.specs.Fits.{Fits, KindFits, StateFits}
use Rattle.san_leaf.specs.Pieces.{opened_state, slots_in}

own_long : (ss : List Slot) (vs : List ℕ) → length vs ≡ length ss → length (own ss vs) ≡ length (privates ss)
own_long [] vs l = refl
own_long (s ∷ ss) [] l = cc
own_long (Private q ∷ ss) (v ∷ vs) l = ap suc (own_long ss vs (omega (arith, l)))
own_long (Shared q ∷ ss) (v ∷ vs) l = own_long ss vs (omega (arith, l))

own_small : (ss : List Slot) (vs : List ℕ) → All (λ v. v ≤ MAX_TOKENS) vs → All (λ v. v ≤ MAX_TOKENS) (own ss vs)
own_small [] vs h i d lt = absurd (omega (arith, lt))
own_small (s ∷ ss) [] h i d lt = absurd (omega (arith, lt))
own_small (Private q ∷ ss) (v ∷ vs) h zero d lt = h 0 d (omega arith)
own_small (Private q ∷ ss) (v ∷ vs) h (suc i) d lt = own_small ss vs (λ j e b. h (suc j) e (omega (arith, b))) i d (omega (arith, lt))
own_small (Shared q ∷ ss) (v ∷ vs) h i d lt = own_small ss vs (λ j e b. h (suc j) e (omega (arith, b))) i d lt

repeated_long : {A : Type 0} (n : ℕ) (a : A) → length (repeated n a) ≡ n
repeated_long zero a = refl
repeated_long (suc n) a = ap suc (repeated_long n a)

zeros_small : (n : ℕ) → All (λ k. k < 2 ^ 39) (repeated n 0)
zeros_small zero i d lt = absurd (omega (arith, lt))
zeros_small (suc n) zero d lt = omega arith
zeros_small (suc n) (suc i) d lt = zeros_small n i d (omega (arith, lt))

pub no_timer : (n k : ℕ) (t : Timer) → slice_get (repeated n None) k ≡ Some (Some t) → ⊥
no_timer zero k t is = cc
no_timer (suc n) zero t is = cc
no_timer (suc n) (suc k) t is = no_timer n k t is

-- the first state of a part
pub opened_fits : (p : Part) → IsAccepted p.atomic → length p.slots ≡ length p.atomic.initial → StateFits p (opened_state p)
opened_fits p accepted each = record {
  values = own_long (slots_in p) p.atomic.initial (sym each ∙ sym (length-map p.slots slot_in));
  small = own_small (slots_in p) p.atomic.initial accepted.initial;
  timers = repeated_long (length p.atomic.acts) None;
  delays = repeated_long (length p.atomic.acts) 0;
  cases = repeated_long (length p.atomic.acts) 0;
  delay_numbers = zeros_small (length p.atomic.acts);
  case_numbers = zeros_small (length p.atomic.acts);
  seen = inl refl;
  paired = λ k a t there pair timer. absurd (no_timer (length p.atomic.acts) k t timer);
}

-- a claim of a network's leaf
pub claim_fits : (n : Network) (j : ℕ) (c : Claimed) → IsNetwork n → slice_get n.parts j ≡ Some c.part → StateFits c.part c.base → KindFits c.part c.kind → c.time ≤ MAX_HORIZON → Fits c
claim_fits n j c network there base kind time =
    let slotted = network.slotted j c.part there in
    let acts = acts_within n j c.part network there in
    record {
      base = base;
      kind = kind;
      time = time;
      accepted = network.accepted j c.part there;
      few = omega (arith, acts, network.small.acts);
      each = slotted.each;
      apart = slotted.apart;
    }
