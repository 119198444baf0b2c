use Rattle.std.proofs.Common.{ℕ, Some, ap, sym, false, ◌∙◌, ◌≡◌}
use Rattle.san_book.specs.Nets.{is_there}
use Rattle.san_book.specs.Plans as book
use Rattle.san_law.specs.Piece as law
use Rattle.san_law.specs.Piece.{Refresh}
use Rattle.san_plan.proofs.Planned.{fault_seen, kind_after, renews_after, there_some}
use Rattle.san_plan.proofs.planning.comes_after.Goals as goal

pub returns-then-outcome-clause-fits : goal.returns-then-outcome-clause-fits
returns-then-outcome-clause-fits c = c.settled.ensures.fits c.args.piece.now.part

pub returns-in-Fire : goal.returns-in-Fire
returns-in-Fire c =
    let x = c.args.piece.now in
    let lines = c.args.ahead.now.lines in
    let trapped : is_there x.outcome.fault ≡ false = fault_seen x.part.first.0 c.outcome-outcome.result.now x.outcome c.outcome-outcome.ensures.same ∙ (there_some c.outcome-outcome.result.now.fault ∙ sym c.if-is_some.ensures) in
    let more : x.outcome.more ≡ false = ap (λ (o : law.Outcome). o.more) (sym c.outcome-outcome.ensures.same) ∙ c.if-outcome.false in
    record {
      is = ap (λ (p : book.Plan). Some p) (c.renewed.ensures.is x.part.first.0)
          ∙ (ap (λ (t : ℕ). Some (record { kind = Refresh; time = t })) c.time-time.ensures
          ∙ (renews_after lines c.args.horizon.0 x c.kind.result c.kind.ensures c.in-Fire.is
          ∙ kind_after lines c.args.horizon.0 x trapped more));
      fits = c.renewed.ensures.fits x.part;
    }
