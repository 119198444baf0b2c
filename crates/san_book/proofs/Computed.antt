-- Small cores, by computation.
use Rattle.std.proofs.Common.{◌≡◌, refl, [], ◌∷◌, Some, None}
use Rattle.san_base.specs.declared.piece.Kind.TheVariants as kind
use Rattle.san_law.specs.Net.{least_timer, without_timer}
use Rattle.san_law.specs.Piece.{Fire, Refresh, Settle}
use Rattle.san_law.specs.Order.{need_of}
use Rattle.san_law.specs.Examples.{event_at, tick_at}
use Rattle.san_book.specs.Cores.{Commit, Cut, Publish, Redo}
use Rattle.san_book.specs.Steps.{happens}
use Rattle.san_book.specs.Examples.{dividing, four_redone, glance, grabbing, late, of_leaf, plan_in, ran, set_ahead, stale_read, ticking}

pub first_plans : plan_in dividing 0 (ran dividing (four_redone [])) ≡ Some (record { kind = Fire 0; time = 2 })
unfolding happens need_of least_timer without_timer
first_plans = refl

pub second_plans : plan_in dividing 1 (ran dividing (four_redone [])) ≡ Some (record { kind = Fire 0; time = 3 })
unfolding happens need_of least_timer without_timer
second_plans = refl

pub made_too_early : glance (ran dividing (stale_read [])) ≡ Some (record { events = event_at 2 0 0 ∷ []; chains = 0 ∷ 1 ∷ []; values = 1 ∷ []; versions = 0 ∷ []; claims = None ∷ of_leaf 0 ∷ None ∷ []; rollbacks = 0; taken = 5 })
unfolding happens need_of least_timer without_timer
made_too_early = refl

pub not_committed : ran dividing (stale_read (Commit 0 1 ∷ [])) ≡ None
unfolding happens need_of least_timer without_timer
not_committed = refl

pub then_cut : glance (ran dividing (stale_read (Cut 2 1 ∷ []))) ≡ Some (record { events = event_at 2 0 0 ∷ []; chains = 0 ∷ 0 ∷ []; values = 1 ∷ []; versions = 0 ∷ []; claims = None ∷ of_leaf 0 ∷ None ∷ []; rollbacks = 1; taken = 5 })
unfolding happens need_of least_timer without_timer
then_cut = refl

pub then_made_anew : glance (ran dividing (stale_read (Cut 2 1 ∷ four_redone []))) ≡ Some (record { events = event_at 2 0 0 ∷ event_at 3 1 0 ∷ []; chains = 0 ∷ 0 ∷ []; values = 1 ∷ []; versions = 0 ∷ []; claims = None ∷ of_leaf 0 ∷ None ∷ []; rollbacks = 1; taken = 9 })
unfolding happens need_of least_timer without_timer
then_made_anew = refl

pub late_plans : plan_in ticking 0 (ran ticking (late [])) ≡ Some (record { kind = Refresh; time = 3 })
unfolding happens need_of least_timer without_timer
late_plans = refl

pub late_then_committed : glance (ran ticking (late (Publish 1 kind.Refresh 3 ∷ Commit 0 1 ∷ []))) ≡ Some (record { events = tick_at 3 ∷ []; chains = 0 ∷ []; values = []; versions = []; claims = None ∷ None ∷ None ∷ []; rollbacks = 0; taken = 4 })
unfolding happens need_of least_timer without_timer
late_then_committed = refl

pub set_is_seen : glance (ran dividing (set_ahead 0 [])) ≡ Some (record { events = []; chains = 1 ∷ 0 ∷ []; values = 0 ∷ []; versions = 1 ∷ []; claims = None ∷ None ∷ None ∷ []; rollbacks = 0; taken = 4 })
unfolding happens need_of least_timer without_timer
set_is_seen = refl

pub set_is_awaited : plan_in dividing 1 (ran dividing (set_ahead 0 [])) ≡ Some (record { kind = Settle; time = 2 })
unfolding happens need_of least_timer without_timer
set_is_awaited = refl

pub set_is_committed : glance (ran dividing (set_ahead 0 (Commit 0 1 ∷ []))) ≡ Some (record { events = event_at 2 0 0 ∷ []; chains = 0 ∷ 0 ∷ []; values = 1 ∷ []; versions = 0 ∷ []; claims = None ∷ None ∷ None ∷ []; rollbacks = 0; taken = 5 })
unfolding happens need_of least_timer without_timer
set_is_committed = refl

pub misread_is_cut : glance (ran dividing (set_ahead 7 (Cut 1 0 ∷ []))) ≡ Some (record { events = []; chains = 0 ∷ 0 ∷ []; values = 0 ∷ []; versions = 0 ∷ []; claims = None ∷ None ∷ None ∷ []; rollbacks = 1; taken = 4 })
unfolding happens need_of least_timer without_timer
misread_is_cut = refl

pub misread_is_not_committed : ran dividing (set_ahead 7 (Commit 0 1 ∷ [])) ≡ None
unfolding happens need_of least_timer without_timer
misread_is_not_committed = refl

pub read_is_not_cut : ran dividing (set_ahead 0 (Cut 1 0 ∷ [])) ≡ None
unfolding happens need_of least_timer without_timer
read_is_not_cut = refl

pub misread_falls : glance (ran dividing (set_ahead 7 (Redo 0 ∷ []))) ≡ Some (record { events = event_at 2 0 0 ∷ []; chains = 0 ∷ 0 ∷ []; values = 1 ∷ []; versions = 0 ∷ []; claims = None ∷ None ∷ None ∷ []; rollbacks = 1; taken = 5 })
unfolding happens need_of least_timer without_timer
misread_falls = refl

pub grab_is_awaited : glance (ran grabbing (stale_read [])) ≡ Some (record { events = event_at 2 0 0 ∷ []; chains = 0 ∷ 1 ∷ []; values = 1 ∷ []; versions = 0 ∷ []; claims = None ∷ of_leaf 0 ∷ None ∷ []; rollbacks = 0; taken = 5 })
unfolding happens need_of least_timer without_timer
grab_is_awaited = refl

pub base_is_another : glance (ran grabbing (stale_read (Redo 0 ∷ []))) ≡ Some (record { events = event_at 2 0 0 ∷ event_at 2 1 1 ∷ []; chains = 0 ∷ 0 ∷ []; values = 1 ∷ []; versions = 0 ∷ []; claims = None ∷ of_leaf 0 ∷ None ∷ []; rollbacks = 1; taken = 6 })
unfolding happens need_of least_timer without_timer
base_is_another = refl

pub base_is_the_same : glance (ran dividing (stale_read (Redo 0 ∷ []))) ≡ Some (record { events = event_at 2 0 0 ∷ []; chains = 0 ∷ 1 ∷ []; values = 1 ∷ []; versions = 0 ∷ []; claims = None ∷ of_leaf 0 ∷ None ∷ []; rollbacks = 0; taken = 6 })
unfolding happens need_of least_timer without_timer
base_is_the_same = refl
