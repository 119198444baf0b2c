use Rattle.std.proofs.Common.{◌∙◌, ap, length, map}
use Rattle.std.proofs.lemmas.List.{length-map}
use Rattle.san_plain.specs.Reports.{Opened}
use Rattle.san_batch.specs.Outcomes.{number_of}
use Rattle.san_batch.proofs.OutcomeLemmas.{numbers_are_small, worths_sized}
use Rattle.san_batch.proofs.outcome.Lists.run.Goals as goal

pub returns-clause-sized : goal.returns-clause-sized
returns-clause-sized c =
    let o : Opened = record { network = c.args.flat.now; seed = c.args.seed; limits = c.args.limits } in
    ap length (c.in_ok-put_numbers.ensures ∙ ap (map number_of) c.as_slice.ensures.value)
    ∙ length-map c.measure.new.worths.items number_of
    ∙ worths_sized o c.in_ok-ending.ending c.measure.new.worths.items c.in_ok-ending.ensures.measured

pub returns-clause-small : goal.returns-clause-small
returns-clause-small c = numbers_are_small c.measure.new.worths.items c.put_numbers.new.numbers.items c.in_ok-ending.ensures.small (c.in_ok-put_numbers.ensures ∙ ap (map number_of) c.as_slice.ensures.value)
