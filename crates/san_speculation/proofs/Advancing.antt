-- A core that goes on in the same run.
use Rattle.std.proofs.Common.{◌<◌, ◌≡◌, ◌∙◌, ap, sym, List, ◌++◌, map, Some}
use Rattle.std.proofs.lemmas.List.{map-append}
use Rattle.san_base.specs.declared.ending.Event.{Event as Named}
use Rattle.san_book.specs.Cores as book
use Rattle.san_book.specs.Journals.{stepped}
use Rattle.san_book.specs.Laws.{GoOn}
use Rattle.san_book.proofs.Committing.{events_grow}
use Rattle.san_book.proofs.Walking.{read_after}
use Rattle.san_decide.proofs.Booking.{book_is_lawful}
use Rattle.san_law.specs.Core as law
use Rattle.san_law.specs.Left.{left}
use Rattle.san_net.specs.Network.{Network}
use Rattle.san_net.specs.Runs.{event_in}
use Rattle.san_core.specs.Machines.{FollowsRun, core_in, net_in}
use Rattle.san_core.specs.Redone.{IsSameRun}
use Rattle.san_speculation.specs.CoreCalls.{Advances}
use Rattle.san_speculation.specs.Speculating.{CoreValue, book_in}
use Rattle.san_speculation.proofs.Speculated.{IsRun}

-- by a step, its committed events are those of before and perhaps more
pub advances : (old new : CoreValue) → FollowsRun old.machine → IsRun old.machine.network → FollowsRun new.machine → old.book.held ≡ core_in old.machine → new.book.held ≡ core_in new.machine
    → (s : book.Step) → stepped (book_in old.machine) old.machine.limits s old.book ≡ Some new.book → IsSameRun old.machine new.machine
    → left (net_in new.machine) (core_in new.machine) < left (net_in old.machine) (core_in old.machine) → Advances old s new
advances old new before run after here there s happens same less =
    let lawful = book_is_lawful old.machine.network run.known.network old.machine.seed old.machine.limits in
    let grown : GoOn (book_in old.machine) old.book new.book = read_after (GoOn (book_in old.machine) old.book) (stepped (book_in old.machine) old.machine.limits s old.book) new.book (events_grow (book_in old.machine) lawful old.machine.limits old.book s) happens in
    let more : (core_in new.machine).events ≡ (core_in old.machine).events ++ grown.0 = ap (λ (x : law.Core). x.events) (sym there) ∙ (grown.1 ∙ ap (λ (x : law.Core). x.events ++ grown.0) here) in
    record {
      happens = happens;
      run = same;
      events = (
        map (event_in old.machine.network) grown.0,
        after.events
            ∙ (ap (λ (n : Network). map (event_in n) (core_in new.machine).events) same.network
            ∙ (ap (map (event_in old.machine.network)) more
            ∙ (map-append (event_in old.machine.network) (core_in old.machine).events grown.0
            ∙ ap (λ (es : List Named). es ++ map (event_in old.machine.network) grown.0) (sym before.events)))),
      );
      less = less;
    }
