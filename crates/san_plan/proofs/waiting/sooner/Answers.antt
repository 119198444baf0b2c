use Rattle.san_plan.proofs.waiting.sooner.Goals as goal

pub returns-then-version-part-clause-fits : goal.returns-then-version-part-clause-fits
returns-then-version-part-clause-fits c = c.settled.ensures.fits c.args.part.now
