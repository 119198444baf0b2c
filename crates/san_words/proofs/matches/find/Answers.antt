use Rattle.std.proofs.Common.{ap, ◌∙◌}
use Rattle.clap.specs.Words.{found_of, one_of}
use Rattle.clap.proofs.WalkLemmas.{one_text-rows}
use Rattle.san_words.proofs.matches.find.Goals as goal

pub returns-in-Ok : goal.returns-in-Ok
returns-in-Ok c =
    let m = c.in-Ok.matches in
    let rows = c.in-Ok.ensures.matches c.requires.simple in
    (c.in-Ok.ensures.kinds c.requires.free, λ id. one_text-rows (found_of m) id ∙ ap (one_of id) rows.0)
