use Rattle.std.proofs.Common.{◌<◌, ap, subst, ◌∙◌, arith, List, ℕ}
use Rattle.std.specs.Str.Parse.{digits_value}
use Rattle.san_base.specs.Names.{is_digit, each}
use Rattle.san_lex.specs.declared.byte.TheConstants.{MAX_NUMBER}
use Rattle.san_lex.proofs.PieceLemmas.{run_rest, number_each, number_small, number_large}
use Rattle.san_lex.proofs.piece.number_piece.Goals as goal

pub value_of-requires : goal.value_of-requires
value_of-requires c = ap (each is_digit) c.front_of.ensures ∙ number_each c.args.bytes.now c.digits_length-n.result (omega arith) c.requires (run_rest is_digit c.args.bytes.now c.digits_length-n.result c.digits_length-n.ensures)

pub returns-in-Some : goal.returns-in-Some
returns-in-Some c = number_small c.args.bytes.now c.digits_length-n.result c.in-Some.value (omega arith) (run_rest is_digit c.args.bytes.now c.digits_length-n.result c.digits_length-n.ensures) (c.in-Some.ensures.0 ∙ ap (digits_value 10) c.front_of.ensures) c.in-Some.ensures.1

pub returns-in-None : goal.returns-in-None
returns-in-None c = number_large c.args.bytes.now c.digits_length-n.result (omega arith) (run_rest is_digit c.args.bytes.now c.digits_length-n.result c.digits_length-n.ensures) (subst (λ (ds : List ℕ). MAX_NUMBER < digits_value 10 ds) c.front_of.ensures c.in-None.ensures)
