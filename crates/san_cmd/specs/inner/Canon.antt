-- What stands in the sink after what it held, once a syntax is shown.
use Rattle.std.specs.Prelude.{ℕ, ◌≡◌, List, Option}
use Rattle.san_base.specs.Flow.{Appends, AppendsPrefix}
use Rattle.san_serve.specs.declared.task.Served.{Served}
use Rattle.san_serve.specs.declared.task.Served.TheVariants as served
use Rattle.san_show.specs.Canonical.{canonical}
use Rattle.san_text.specs.declared.syntax.Syntax.{Syntax}

abbrev pub PutsCanon : Syntax → Served → Option (List ℕ) → Option (List ℕ) → Type 0
PutsCanon s served.Done old new = Appends old new (canonical s)
PutsCanon s served.WriteFault old new = AppendsPrefix old new (canonical s)
PutsCanon s served.NoMemory old new = new ≡ old
PutsCanon s why old new = ⊥
