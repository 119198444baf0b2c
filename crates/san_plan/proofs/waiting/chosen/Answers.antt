use Rattle.san_plan.proofs.waiting.chosen.Goals as goal

pub returns-in-None-Some-clause-fits : goal.returns-in-None-Some-clause-fits
returns-in-None-Some-clause-fits c = c.settled.ensures.fits c.args.part.now
