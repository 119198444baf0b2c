use Rattle.san_decide.proofs.Booking.{every_core_follows}
use Rattle.san_decide.proofs.laws.every_core_follows_its_run.Goals as goal

pub returns : goal.returns
returns c = every_core_follows
