use Rattle.std.proofs.Common.{◌∙◌, ◌<◌, arith, ap, subst, length, unwrap_or, Option}
use Rattle.std.specs.Option.{option_map}
use Rattle.san_seq.specs.declared.next.First.{First}
use Rattle.san_seq.specs.declared.next.Next.{Next}
use Rattle.san_seq.specs.inner.Nexts.{next_in}
use Rattle.san_seq.proofs.AwakeLemmas.{found_awake, later_awake, more_awake, none_awake}
use Rattle.san_winner.specs.Flags.{SaysNext}
use Rattle.san_seq.proofs.next.first_awake.Goals as goal

pub returns-in_default : goal.returns-in_default
returns-in_default c =
    none_awake c.args.flat.now c.args.awake.now c.args.marking.now c.requires.asleep c.requires.flags c.leaves.from c.leaves.invariant.before c.args.first c.requires.first
    (subst (SaysNext c.leaves.from c.args.awake.now) c.in_default.is c.next.ensures)

pub returns-then-at-first : goal.returns-then-at-first
returns-then-at-first c =
    later_awake c.args.flat.now c.args.awake.now c.args.marking.now c.requires.asleep c.requires.flags c.leaves.from c.leaves.invariant.before c.args.first c.in-Some.at c.requires.first
    (subst (SaysNext c.leaves.from c.args.awake.now) c.in-Some.is c.next.ensures) c.if-at-first.true

pub returns-in-Some-first_at : goal.returns-in-Some-first_at
returns-in-Some-first_at c =
    let at = c.in-Some.at in
    let next = subst (SaysNext c.leaves.from c.args.awake.now) c.in-Some.is c.next.ensures in
    let g : First = record { leaf = record { 0 = at }; next = c.in-Some-first_at.next } in
    let inside : at < length c.args.flat.now.parts = omega (arith, next.within, c.requires.flags) in
    found_awake c.args.flat.now c.args.awake.now c.args.marking.now c.requires.asleep c.requires.flags c.leaves.from c.leaves.invariant.before c.args.first.leaf.0 g c.requires.first.within next
    (omega (arith, c.if-at-first.false))
    (record {
      within = omega (arith, inside);
      some = λ h rest. c.first_at.ensures rest ∙ ap (λ (o : Option Next). unwrap_or (option_map next_in o) rest) c.in-Some-first_at.is;
      none = λ h. absurd (omega (arith, h, inside));
    })

pub leaves-preserved : goal.leaves-preserved
leaves-preserved c =
    let at = c.in-Some.at in
    let next = subst (SaysNext c.leaves.from c.args.awake.now) c.in-Some.is c.next.ensures in
    record {
      low = omega (arith, next.within);
      before = more_awake c.args.flat.now c.args.awake.now c.args.marking.now c.requires.asleep c.requires.flags c.leaves.from c.leaves.invariant.before at next
          (λ rest. c.first_at.ensures rest ∙ ap (λ (o : Option Next). unwrap_or (option_map next_in o) rest) c.in_default-first_at.is);
    }
