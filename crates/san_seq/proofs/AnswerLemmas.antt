-- What a step of the law answers, without impulses, and in the network's numbers.
use Rattle.std.proofs.Common.{ℕ, ◌≡◌, ◌∙◌, ap, sym, refl, Option, Some, None, Result, Ok, Err}
use Rattle.std.specs.Option.{option_map}
use Rattle.san_base.specs.declared.ending.Ending.{Ending}
use Rattle.san_base.specs.declared.ending.Event.{Event}
use Rattle.san_base.specs.declared.ending.Trap.{Trap}
use Rattle.san_law.specs.State.{State}
use Rattle.san_law.specs.Step as law
use Rattle.san_net.specs.Network.{Network}
use Rattle.san_net.specs.Tables.{act_of}
use Rattle.san_net.specs.Runs.{ending_in}
use Rattle.san_seq.specs.Outcomes.{event_or_ending}

-- an event without its impulses
pub record Happening : Type 0 where
  pub time : ℕ
  pub leaf : ℕ
  pub act : ℕ
  pub case : ℕ

abbrev pub happening_by : law.Stepped → Result Happening (ℕ × law.Ending)
happening_by (law.Happened e) = Ok (record { time = e.time; leaf = e.leaf; act = e.act; case = e.case })
happening_by (law.Over time ending) = Err (time, ending)

-- a completion's case or trap
abbrev pub case_by : ℕ → ℕ → ℕ → Result ℕ Trap → Result Happening (ℕ × law.Ending)
case_by time j k (Ok case) = Ok (record { time = time; leaf = j; act = k; case = case })
case_by time j k (Err trap) = Err (time, law.Trapped j k trap)

-- the same in the network's numbers
abbrev pub named : Network → Result Happening (ℕ × law.Ending) → Result Event Ending
named n (Ok t) = Ok (record { time = record { 0 = t.time }; act = act_of n t.leaf t.act; case = t.case })
named n (Err e) = Err (ending_in n e.0 e.1)

pub happening_named : (n : Network) (x : law.Stepped) → named n (happening_by x) ≡ event_or_ending n x
happening_named n (law.Happened e) = refl
happening_named n (law.Over time e) = refl

-- what a completion's case tells
pub case_answered : (n : Network) (time j k : ℕ) (r : Result ℕ Trap) (x : law.Stepped) → case_by time j k r ≡ happening_by x → named n (case_by time j k r) ≡ event_or_ending n x
case_answered n time j k r x is = ap (named n) is ∙ happening_named n x

-- an event that is answered is one of the law
pub happened : (n : Network) (x : law.Stepped) (e : Event) → event_or_ending n x ≡ Ok e → (t : Happening) × (happening_by x ≡ Ok t)
happened n (law.Happened ev) e is = (record { time = ev.time; leaf = ev.leaf; act = ev.act; case = ev.case }, refl)
happened n (law.Over time end) e is = absurd cc

-- a limit that is reached ends the run
pub record Stops (n : Network) (s : State) (e : Ending) (x : law.Stepped × State) : Type 0 where
  pub answered : (let r : Result Event Ending = Err e in r) ≡ event_or_ending n x.0
  pub left : s ≡ x.1

pub stopped : (n : Network) (time : ℕ) (o : Option Ending) (x : Option law.Ending) (s : State) (go : law.Stepped × State) (e : Ending) → s.time ≡ time → o ≡ option_map (ending_in n time) x → o ≡ Some e → Stops n s e (law.unless_over s x go)
stopped n time o None s go e at says is = absurd cc
stopped n time o (Some l) s go e at says is =
    let same : (let p : Option Ending = Some e in p) ≡ Some (ending_in n time l) = sym is ∙ says in
    record { answered = ap (λ (p : Ending). (let r : Result Event Ending = Err p in r)) (some_is e (ending_in n time l) same) ∙ ap (λ (t : ℕ). (let r : Result Event Ending = Err (ending_in n t l) in r)) (sym at); left = refl }
  where
    some_is : (x y : Ending) → (let p : Option Ending = Some x in p) ≡ Some y → x ≡ y
    some_is x y e = cc

-- a limit that isn't reached ends nothing
pub no_limit : (n : Network) (time : ℕ) (x : Option law.Ending) → option_map (ending_in n time) x ≡ None → x ≡ None
no_limit n time None is = refl
no_limit n time (Some l) is = absurd cc
