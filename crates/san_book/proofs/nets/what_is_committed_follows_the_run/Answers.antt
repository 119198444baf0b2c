use Rattle.san_book.proofs.Following.{every_run_follows}
use Rattle.san_book.proofs.nets.what_is_committed_follows_the_run.Goals as goal

pub returns : goal.returns
returns c = λ net kinds law. every_run_follows net kinds law
