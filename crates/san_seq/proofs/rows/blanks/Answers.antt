use Rattle.std.proofs.Common.{◌∙◌, ap, sym, length, Some}
use Rattle.san_net.specs.declared.part.Part.{Part}
use Rattle.san_seq.proofs.OpeningLemmas.{row_more}
use Rattle.san_seq.proofs.rows.blanks.Goals as goal

pub leaves-preserved : goal.leaves-preserved
leaves-preserved c =
    c.in_ok-push.ensures.items
    ∙ row_more c.args.flat.now.parts c.leaves.j c.get-part.result.now c.len.result c.in_ok-blank.field-0 c.leaves.rows.items
    (c.part.ensures ∙ ap (λ (p : Part). Some p) (sym c.get-part.ensures)) c.in_ok-blank.ensures (c.len.ensures ∙ ap (λ a. length a.acts) c.get.ensures) c.leaves.invariant
