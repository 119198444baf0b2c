use Rattle.std.proofs.Common.{◌≡◌, ◌++◌, drop, map}
use Rattle.san_lex.specs.Pieces.{located}
use Rattle.san_text.specs.declared.text.Before.TheVariants as before
use Rattle.san_text.specs.Texts.{spots_after}
use Rattle.san_text.proofs.text.spots_of.Given as goal

abbrev pub invariant-next : goal.invariant-next
invariant-next l = l.found.items ++ spots_after l.before (map (located l.text) (drop l.token-index l.tokens)) ≡ spots_after before.Other (map (located l.text) l.tokens)
