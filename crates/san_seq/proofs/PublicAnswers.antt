-- What a step answered, by its public answer.
use Rattle.std.proofs.Common.{◌≡◌, ap, refl, Result, Ok, Err}
use Rattle.san_base.specs.declared.ending.Ending.{Ending}
use Rattle.san_base.specs.declared.ending.Ending.TheVariants as ending
use Rattle.san_base.specs.declared.ending.Event.{Event}
use Rattle.san_base.specs.declared.ending.Stop.{Stop}
use Rattle.san_base.specs.declared.numbers.Tick.{Tick}
use Rattle.san_seq.specs.Outcomes.{stepped_of}
use Rattle.san_seq.specs.declared.steps.Stepped.TheVariants as stepped

pub event_answered : (x : Result Event Ending) (e : Event) → stepped_of x ≡ stepped.Event e → x ≡ Ok e
event_answered (Ok f) e is = ap (λ (y : Event). (let r : Result Event Ending = Ok y in r)) (same f e is)
  where
    same : (a b : Event) → stepped.Event a ≡ stepped.Event b → a ≡ b
    same a b q = cc
event_answered (Err (ending.End h)) e is = absurd cc
event_answered (Err (ending.Stop why)) e is = absurd cc

pub stop_answered : (x : Result Event Ending) (why : Stop) → stepped_of x ≡ stepped.Stopped why → x ≡ Err (ending.Stop why)
stop_answered (Ok f) why is = absurd cc
stop_answered (Err (ending.End h)) why is = absurd cc
stop_answered (Err (ending.Stop w)) why is = ap (λ (y : Stop). (let r : Result Event Ending = Err (ending.Stop y) in r)) (same w why is)
  where
    same : (a b : Stop) → stepped.Stopped a ≡ stepped.Stopped b → a ≡ b
    same a b q = cc

pub end_answered : (x : Result Event Ending) → stepped_of x ≡ stepped.End → (h : Tick) × (x ≡ Err (ending.End h))
end_answered (Ok f) is = absurd cc
end_answered (Err (ending.End h)) is = (h, refl)
end_answered (Err (ending.Stop w)) is = absurd cc
