use Rattle.std.proofs.Common.{◌≡◌, ◌-◌, ◌≤◌, length, drop, map}
use Rattle.san_lex.specs.Lexer.{lex}
use Rattle.san_lex.specs.Pieces.{located}
use Rattle.san_lex.proofs.LoopLemmas.{gathered}
use Rattle.san_lex.proofs.lexer.tokens.Given as goal

abbrev pub invariant-next : goal.invariant-next
invariant-next l = (l.at ≤ length l.text) × (gathered (map (located l.text) l.found.items) (lex 0 l.at (drop l.at l.text)) ≡ lex 0 0 l.text)

abbrev pub decreases-next : goal.decreases-next
decreases-next l = length l.text - l.at
