-- An accepted text and its canonical text.
use Rattle.std.proofs.Common.{ℕ, ◌≡◌, List, Option, Ok, refl}
use Rattle.san_net.specs.Network.{Network}
use Rattle.san_serve.specs.Accepted.{accepted}
use Rattle.san_serve.specs.Answers.{ServesBytes}
use Rattle.san_serve.specs.declared.task.Served.{Served}
use Rattle.san_serve.specs.declared.task.Served.TheVariants as served
use Rattle.san_show.specs.Canonical.{canonical}
use Rattle.san_text.specs.Texts.{parsed}
use Rattle.san_text.specs.declared.text.Parsed.{Parsed}
use Rattle.san_cmd.specs.Shown.{show_meaning}
use Rattle.san_cmd.specs.inner.Canon.{PutsCanon}

pub shows_text : (x : Parsed) (network : Network) (s : Served) (text : List ℕ) (old new : Option (List ℕ)) → parsed text ≡ Ok x → accepted text ≡ Ok network → PutsCanon x.syntax s old new → ServesBytes show_meaning s text old new
shows_text x network served.Done text old new is accepts h = (canonical x.syntax, (x, network, is, accepts, refl), h)
shows_text x network served.WriteFault text old new is accepts h = (canonical x.syntax, (x, network, is, accepts, refl), h)
shows_text x network served.NoMemory text old new is accepts h = h
shows_text x network served.Stopped text old new is accepts h = absurd h
shows_text x network (served.Refused refusal) text old new is accepts h = absurd h
