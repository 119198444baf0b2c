use Rattle.std.proofs.Common.{arith, ◌∙◌, ap, sym, ◌+◌, ◌<◌, drop, length, unwrap_or, Option}
use Rattle.std.specs.Option.{option_map}
use Rattle.san_seq.specs.declared.next.Next.{Next}
use Rattle.san_seq.specs.inner.Nexts.{first_from, next_in}
use Rattle.san_seq.proofs.NextLemmas.{none_left, went_on}
use Rattle.san_seq.proofs.next.first_of_all.Goals as goal

pub returns-in-Some : goal.returns-in-Some
returns-in-Some c =
    let ps = c.args.flat.now.parts in
    let m = c.args.marking.now in
    let j = c.leaves.j in
    let rest = first_from (j + 1) m (drop (j + 1) ps) in
    let h : j < length ps = omega (arith, c.leaves-test.true, c.leaves-j-end.ensures) in
    sym (c.leaves.invariant ∙ went_on ps m j c.first_at.result h c.first_at.ensures ∙ ap (λ (o : Option Next). unwrap_or (option_map next_in o) rest) c.in-Some.is)

pub leaves-preserved : goal.leaves-preserved
leaves-preserved c =
    let ps = c.args.flat.now.parts in
    let m = c.args.marking.now in
    let j = c.leaves.j in
    let rest = first_from (j + 1) m (drop (j + 1) ps) in
    let h : j < length ps = omega (arith, c.leaves-test.true, c.leaves-j-end.ensures) in
    c.leaves.invariant ∙ went_on ps m j c.first_at.result h c.first_at.ensures ∙ ap (λ (o : Option Next). unwrap_or (option_map next_in o) rest) c.in_default.is

pub returns : goal.returns
returns c = sym (c.leaves.invariant ∙ none_left c.args.flat.now.parts c.args.marking.now c.leaves.j (omega (arith, c.leaves-test.false, c.leaves-j-end.ensures)))
