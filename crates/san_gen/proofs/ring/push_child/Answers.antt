use Rattle.std.proofs.Common.{◌∙◌, ◌++◌, ap, List, ℕ, codes}
use Rattle.std.specs.Fmt.{decimal}
use Rattle.std.proofs.lemmas.List.{append_assoc}
use Rattle.san_gen.specs.Texts.{child_line}
use Rattle.san_gen.proofs.ring.push_child.Goals as goal

pub returns : goal.returns
unfolding child_line
returns c =
    let head = codes "  child s" in
    let number = decimal c.args.station in
    let tail = codes " = station;\n" in
    c.in_ok-extend_from_slice-2.ensures.items
    ∙ ap (λ (t : List ℕ). t ++ tail) (c.in_ok-push_number.ensures ∙ ap (λ (t : List ℕ). t ++ number) c.in_ok-extend_from_slice.ensures.items)
    ∙ append_assoc (c.args.text.now.items ++ head) number tail
    ∙ append_assoc c.args.text.now.items head (number ++ tail)
