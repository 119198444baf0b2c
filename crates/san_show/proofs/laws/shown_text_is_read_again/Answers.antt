use Rattle.san_show.proofs.ShowLemmas.{parse_shown}
use Rattle.san_show.proofs.laws.shown_text_is_read_again.Goals as goal

pub returns : goal.returns
returns c = parse_shown
