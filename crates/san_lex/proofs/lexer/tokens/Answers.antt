use Rattle.std.proofs.Common.{◌+◌, ◌<◌, length, map, List, Ok, refl, sym, ap, ◌∙◌, arith}
use Rattle.san_lex.specs.declared.token.Token.{Token}
use Rattle.san_lex.specs.declared.piece.Piece.TheVariants as piece
use Rattle.san_lex.specs.Lexer.{lex, tokens, Bad, Large, Long}
use Rattle.san_lex.specs.Pieces.{located}
use Rattle.san_lex.proofs.LoopLemmas.{piece_within, gap_found, token_found, turn_broken, turns_end}
use Rattle.san_lex.proofs.lexer.tokens.Goals as goal

pub overflow_add-at : goal.overflow_add-at
overflow_add-at c = let w : c.next.at + c.in-Gap.n < length c.args.text.now = piece_within c.args.text.now c.next.at (piece.Gap c.in-Gap.n) (omega arith) c.in-Gap.ensures in omega arith

pub overflow_add-at-in-Gap : goal.overflow_add-at-in-Gap
overflow_add-at-in-Gap c = let w : c.next.at + c.in-Gap.n < length c.args.text.now = piece_within c.args.text.now c.next.at (piece.Gap c.in-Gap.n) (omega arith) c.in-Gap.ensures in omega arith

pub next-preserved-in-Gap : goal.next-preserved-in-Gap
next-preserved-in-Gap c =
    let w : c.next.at + c.in-Gap.n < length c.args.text.now = piece_within c.args.text.now c.next.at (piece.Gap c.in-Gap.n) (omega arith) c.in-Gap.ensures in
    (omega arith, gap_found c.args.text.now c.next.at c.in-Gap.n (map (located c.args.text.now) c.next.found.items) (lex 0 0 c.args.text.now) (omega arith) c.in-Gap.ensures c.next.invariant.1 (c.next.at + (c.in-Gap.n + 1)) (omega arith))

pub overflow_add-token : goal.overflow_add-token
overflow_add-token c = let w : c.next.at + c.in-Token.n < length c.args.text.now = piece_within c.args.text.now c.next.at (piece.Token c.in-Token.kind c.in-Token.n) (omega arith) c.in-Token.ensures in omega arith

pub overflow_add-token-in-Token : goal.overflow_add-token-in-Token
overflow_add-token-in-Token c = let w : c.next.at + c.in-Token.n < length c.args.text.now = piece_within c.args.text.now c.next.at (piece.Token c.in-Token.kind c.in-Token.n) (omega arith) c.in-Token.ensures in omega arith

pub overflow_cast-token-in-Token : goal.overflow_cast-token-in-Token
overflow_cast-token-in-Token c = let w : c.next.at + c.in-Token.n < length c.args.text.now = piece_within c.args.text.now c.next.at (piece.Token c.in-Token.kind c.in-Token.n) (omega arith) c.in-Token.ensures in omega arith

pub overflow_add-at-in-Token : goal.overflow_add-at-in-Token
overflow_add-at-in-Token c = let w : c.next.at + c.in-Token.n < length c.args.text.now = piece_within c.args.text.now c.next.at (piece.Token c.in-Token.kind c.in-Token.n) (omega arith) c.in-Token.ensures in omega arith

pub overflow_add-at-in-Token-2 : goal.overflow_add-at-in-Token-2
overflow_add-at-in-Token-2 c = let w : c.next.at + c.in-Token.n < length c.args.text.now = piece_within c.args.text.now c.next.at (piece.Token c.in-Token.kind c.in-Token.n) (omega arith) c.in-Token.ensures in omega arith

pub next-preserved : goal.next-preserved
next-preserved c =
    let w : c.next.at + c.in-Token.n < length c.args.text.now = piece_within c.args.text.now c.next.at (piece.Token c.in-Token.kind c.in-Token.n) (omega arith) c.in-Token.ensures in
    (omega arith, token_found c.args.text.now c.next.at c.in-Token.n c.in-Token.kind _ c.next.found.items c.push.new.self.items (lex 0 0 c.args.text.now) (omega arith) c.in-Token.ensures refl refl (omega arith) c.in-Ok.ensures.items c.next.invariant.1 (c.next.at + (c.in-Token.n + 1)) (omega arith))

pub returns-in-Bad : goal.returns-in-Bad
unfolding tokens
returns-in-Bad c = turn_broken c.args.text.now c.next.at piece.Bad Bad (map (located c.args.text.now) c.next.found.items) (lex 0 0 c.args.text.now) (omega arith) refl c.in-Bad.ensures c.next.invariant.1

pub returns-in-Large : goal.returns-in-Large
unfolding tokens
returns-in-Large c = turn_broken c.args.text.now c.next.at piece.Large Large (map (located c.args.text.now) c.next.found.items) (lex 0 0 c.args.text.now) (omega arith) refl c.in-Large.ensures c.next.invariant.1

pub returns-in-Long : goal.returns-in-Long
unfolding tokens
returns-in-Long c = turn_broken c.args.text.now c.next.at piece.Long Long (map (located c.args.text.now) c.next.found.items) (lex 0 0 c.args.text.now) (omega arith) refl c.in-Long.ensures c.next.invariant.1

pub returns : goal.returns
unfolding tokens
returns c = turns_end c.args.text.now c.next.at (map (located c.args.text.now) c.next.found.items) (lex 0 0 c.args.text.now) (omega arith) c.next.invariant.1 ∙ ap (λ (ts : List Token). Ok (map (located c.args.text.now) ts)) (sym c.from_vec.ensures)
