use Rattle.std.proofs.Common.{◌∙◌, ◌++◌, ℕ, ap, arith, List, length, map}
use Rattle.san_base.specs.declared.numbers.PlaceId.{PlaceId}
use Rattle.san_law.specs.Piece.{Outcome}
use Rattle.san_leaf.specs.States.{pair_in}
use Rattle.san_base.specs.declared.ending.Event.{Event}
use Rattle.std.specs.Prelude.{take}
use Rattle.std.proofs.lemmas.Option.{slice_get_within}
use Rattle.san_net.specs.Runs.{limits_in, net_at}
use Rattle.san_draw.specs.Key.{draw_of}
use Rattle.san_core.proofs.TakePieces as takes
use Rattle.san_core.proofs.taking.take_piece.Goals as goal

pub admit-admission-requires-clause-few : goal.admit-admission-requires-clause-few
admit-admission-requires-clause-few c = takes.events_few (net_at c.args.flat.now c.args.piece.seed c.args.limits.now) c.args.flat.now c.args.held.now c.args.piece c.requires.can c.get-part.result.now c.kind.result c.time.result c.into_outcome-outcome.result (c.get-part.ensures ∙ c.part.ensures) c.kind.ensures c.time.ensures c.into_outcome-outcome.ensures.same c.into_outcome-outcome.ensures.numbered

pub append-requires-clause-passed : goal.append-requires-clause-passed
append-requires-clause-passed c = omega (arith, takes.within (net_at c.args.flat.now c.args.piece.seed c.args.limits.now) c.args.flat.now c.args.held.now c.args.piece c.requires.can c.get-part.result.now c.kind.result c.time.result c.into_outcome-outcome.result (c.get-part.ensures ∙ c.part.ensures) c.kind.ensures c.time.ensures c.into_outcome-outcome.ensures.same c.into_outcome-outcome.ensures.numbered c.admit-admission.result.passed c.admit-admission.result.over c.admit-admission.ensures.is, c.deref.ensures.len, ap (λ (es : List Event). length es) c.deref.ensures.value)

pub append-requires-clause-room : goal.append-requires-clause-room
append-requires-clause-room c = omega (arith, c.requires.room, takes.within (net_at c.args.flat.now c.args.piece.seed c.args.limits.now) c.args.flat.now c.args.held.now c.args.piece c.requires.can c.get-part.result.now c.kind.result c.time.result c.into_outcome-outcome.result (c.get-part.ensures ∙ c.part.ensures) c.kind.ensures c.time.ensures c.into_outcome-outcome.ensures.same c.into_outcome-outcome.ensures.numbered c.admit-admission.result.passed c.admit-admission.result.over c.admit-admission.ensures.is, takes.events_few (net_at c.args.flat.now c.args.piece.seed c.args.limits.now) c.args.flat.now c.args.held.now c.args.piece c.requires.can c.get-part.result.now c.kind.result c.time.result c.into_outcome-outcome.result (c.get-part.ensures ∙ c.part.ensures) c.kind.ensures c.time.ensures c.into_outcome-outcome.ensures.same c.into_outcome-outcome.ensures.numbered)

pub take-requires-clause-burst : goal.take-requires-clause-burst
take-requires-clause-burst c = takes.burst_fits (net_at c.args.flat.now c.args.piece.seed c.args.limits.now) c.args.flat.now c.args.held.now c.args.piece c.requires.can c.get-part.result.now c.kind.result c.time.result c.into_outcome-outcome.result (c.get-part.ensures ∙ c.part.ensures) c.kind.ensures c.time.ensures c.into_outcome-outcome.ensures.same c.into_outcome-outcome.ensures.numbered c.admit-admission.result.passed c.admit-admission.result.over c.admit-admission.ensures.is c.is_bounded.ensures

pub take-requires-clause-rewards : goal.take-requires-clause-rewards
take-requires-clause-rewards c = takes.rewards_known (net_at c.args.flat.now c.args.piece.seed c.args.limits.now) c.args.flat.now c.args.held.now c.args.piece c.requires.can c.get-part.result.now c.kind.result c.time.result c.into_outcome-outcome.result (c.get-part.ensures ∙ c.part.ensures) c.kind.ensures c.time.ensures c.into_outcome-outcome.ensures.same c.into_outcome-outcome.ensures.numbered c.admit-admission.result.passed c.admit-admission.result.over c.admit-admission.ensures.is

pub take-requires-clause-few : goal.take-requires-clause-few
take-requires-clause-few c = takes.impulses_fit (net_at c.args.flat.now c.args.piece.seed c.args.limits.now) c.args.flat.now c.args.held.now c.args.piece c.requires.can c.get-part.result.now c.kind.result c.time.result c.into_outcome-outcome.result (c.get-part.ensures ∙ c.part.ensures) c.kind.ensures c.time.ensures c.into_outcome-outcome.ensures.same c.into_outcome-outcome.ensures.numbered c.admit-admission.result.passed c.admit-admission.result.over c.admit-admission.ensures.is

pub take-requires-clause-rates : goal.take-requires-clause-rates
take-requires-clause-rates c = takes.rates_each (net_at c.args.flat.now c.args.piece.seed c.args.limits.now) c.args.flat.now c.args.held.now c.args.piece c.requires.can c.get-part.result.now c.kind.result c.time.result c.into_outcome-outcome.result (c.get-part.ensures ∙ c.part.ensures) c.kind.ensures c.time.ensures c.into_outcome-outcome.ensures.same c.into_outcome-outcome.ensures.numbered c.admit-admission.result.passed c.admit-admission.result.over c.admit-admission.ensures.is

pub take-requires-clause-written : goal.take-requires-clause-written
take-requires-clause-written c = takes.written_is (net_at c.args.flat.now c.args.piece.seed c.args.limits.now) c.args.flat.now c.args.held.now c.args.piece c.requires.can c.get-part.result.now c.kind.result c.time.result c.into_outcome-outcome.result (c.get-part.ensures ∙ c.part.ensures) c.kind.ensures c.time.ensures c.into_outcome-outcome.ensures.same c.into_outcome-outcome.ensures.numbered

pub take-requires-clause-leaf : goal.take-requires-clause-leaf
take-requires-clause-leaf c = slice_get_within c.args.flat.now.parts _ _ (takes.there (net_at c.args.flat.now c.args.piece.seed c.args.limits.now) c.args.flat.now c.args.held.now c.args.piece c.requires.can c.get-part.result.now c.kind.result c.time.result c.into_outcome-outcome.result (c.get-part.ensures ∙ c.part.ensures) c.kind.ensures c.time.ensures c.into_outcome-outcome.ensures.same c.into_outcome-outcome.ensures.numbered)

pub take-requires-clause-first : goal.take-requires-clause-first
take-requires-clause-first c = takes.first_is (net_at c.args.flat.now c.args.piece.seed c.args.limits.now) c.args.flat.now c.args.held.now c.args.piece c.requires.can c.get-part.result.now c.kind.result c.time.result c.into_outcome-outcome.result (c.get-part.ensures ∙ c.part.ensures) c.kind.ensures c.time.ensures c.into_outcome-outcome.ensures.same c.into_outcome-outcome.ensures.numbered

pub take-requires-clause-places : goal.take-requires-clause-places
take-requires-clause-places c = takes.places_are (net_at c.args.flat.now c.args.piece.seed c.args.limits.now) c.args.flat.now c.args.held.now c.args.piece c.requires.can c.get-part.result.now c.kind.result c.time.result c.into_outcome-outcome.result (c.get-part.ensures ∙ c.part.ensures) c.kind.ensures c.time.ensures c.into_outcome-outcome.ensures.same c.into_outcome-outcome.ensures.numbered

pub returns-clause-held : goal.returns-clause-held
returns-clause-held c = c.take.ensures.taken (draw_of c.args.piece.seed) (limits_in c.args.limits.now) ∙ takes.held_is (net_at c.args.flat.now c.args.piece.seed c.args.limits.now) c.args.flat.now c.args.held.now c.args.piece c.requires.can c.get-part.result.now c.kind.result c.time.result c.into_outcome-outcome.result (c.get-part.ensures ∙ c.part.ensures) c.kind.ensures c.time.ensures c.into_outcome-outcome.ensures.same c.into_outcome-outcome.ensures.numbered c.admit-admission.result.passed c.admit-admission.result.over c.admit-admission.ensures.is

pub returns-clause-events : goal.returns-clause-events
returns-clause-events c = c.append.ensures.appended ∙ ap (λ (es : List Event). c.args.events.now.items ++ es) (ap (λ (es : List Event). take c.admit-admission.result.passed es) c.deref.ensures.value ∙ takes.events_is (net_at c.args.flat.now c.args.piece.seed c.args.limits.now) c.args.flat.now c.args.held.now c.args.piece c.requires.can c.get-part.result.now c.kind.result c.time.result c.into_outcome-outcome.result (c.get-part.ensures ∙ c.part.ensures) c.kind.ensures c.time.ensures c.into_outcome-outcome.ensures.same c.into_outcome-outcome.ensures.numbered c.admit-admission.result.passed c.admit-admission.result.over c.admit-admission.ensures.is c.requires.can.quiet)

pub returns-clause-len : goal.returns-clause-len
returns-clause-len c = omega (arith, c.append.ensures.len, takes.within (net_at c.args.flat.now c.args.piece.seed c.args.limits.now) c.args.flat.now c.args.held.now c.args.piece c.requires.can c.get-part.result.now c.kind.result c.time.result c.into_outcome-outcome.result (c.get-part.ensures ∙ c.part.ensures) c.kind.ensures c.time.ensures c.into_outcome-outcome.ensures.same c.into_outcome-outcome.ensures.numbered c.admit-admission.result.passed c.admit-admission.result.over c.admit-admission.ensures.is, takes.events_few (net_at c.args.flat.now c.args.piece.seed c.args.limits.now) c.args.flat.now c.args.held.now c.args.piece c.requires.can c.get-part.result.now c.kind.result c.time.result c.into_outcome-outcome.result (c.get-part.ensures ∙ c.part.ensures) c.kind.ensures c.time.ensures c.into_outcome-outcome.ensures.same c.into_outcome-outcome.ensures.numbered)

pub returns-clause-written : goal.returns-clause-written
returns-clause-written c = ap (λ (ws : List (PlaceId × ℕ)). map pair_in ws) c.take.ensures.written ∙ ap (λ (o : Outcome). o.writes) c.into_outcome-outcome.ensures.same
