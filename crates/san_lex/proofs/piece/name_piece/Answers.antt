use Rattle.std.proofs.Common.{sym, ap, ◌∙◌, arith}
use Rattle.san_base.specs.Names.{is_in_name}
use Rattle.san_lex.specs.Keywords.{keyword_of}
use Rattle.san_lex.proofs.PieceLemmas.{run_rest, name_is, keyword_is}
use Rattle.san_lex.proofs.piece.name_piece.Goals as goal

pub returns-in-Some : goal.returns-in-Some
returns-in-Some c = keyword_is c.args.bytes.now c.name_length-n.result c.in-Some.keyword (omega arith) (run_rest is_in_name c.args.bytes.now c.name_length-n.result c.name_length-n.ensures) (omega arith) (ap keyword_of (sym c.front_of.ensures) ∙ sym c.in-Some.ensures)

pub returns-in-None : goal.returns-in-None
returns-in-None c = name_is c.args.bytes.now c.name_length-n.result (omega arith) (run_rest is_in_name c.args.bytes.now c.name_length-n.result c.name_length-n.ensures) (omega arith) (ap keyword_of (sym c.front_of.ensures) ∙ sym c.in-None.ensures)
