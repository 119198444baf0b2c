use Rattle.san_decide.proofs.Booking.{book_is_lawful}
use Rattle.san_decide.proofs.laws.a_run_is_booked.Goals as goal

pub returns : goal.returns
returns c = book_is_lawful
