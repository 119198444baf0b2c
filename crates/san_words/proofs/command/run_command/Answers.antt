use Rattle.std.proofs.Common.{ap, ap₂, ◌∙◌}
use Rattle.std.proofs.lemmas.Result.{IfOk-weaker}
use Rattle.clap.specs.Words.{with_rule}
use Rattle.san_words.specs.Commands.{run_app, with_bounds, with_model}
use Rattle.san_words.proofs.command.run_command.Goals as goal

pub returns : goal.returns
unfolding run_app
returns c =
    let bounds = c.in_ok-with_bounds.ensures ∙ ap with_bounds c.bare.ensures in
    let model = c.in_ok-with_model.ensures ∙ ap with_model bounds in
    IfOk-weaker c.arg-3.result _ _ (λ m h. h.shape c.argument-3.ensures.local ∙ ap₂ with_rule (c.in_ok-arg-2.ensures.shape c.argument-2.ensures.local ∙ ap₂ with_rule (c.in_ok-arg.ensures.shape c.argument.ensures.local ∙ ap₂ with_rule model c.argument.ensures.rule) c.argument-2.ensures.rule) c.argument-3.ensures.rule) c.arg-3.ensures
