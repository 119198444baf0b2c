use Rattle.std.proofs.Common.{◌∙◌, ℕ, length, ap}
use Rattle.san_clock.proofs.DrawnLemmas.{two_of_all}
use Rattle.san_draw.specs.declared.streams.Streams.{Streams}
use Rattle.san_core.proofs.maker.Maker.open.Goals as goal

pub returns : goal.returns
returns c =
    c.in_ok-open.ensures
    ∙ ap (λ (n : ℕ). (let s : Streams = record { seed = c.args.seed; streams = n } in s)) (ap length c.deref.ensures.value ∙ ap length c.in_ok-drawn.ensures ∙ two_of_all c.args.flat.now.parts)
