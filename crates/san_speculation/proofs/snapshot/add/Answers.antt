use Rattle.std.proofs.Common.{ℕ, List, ◌∙◌, subst, sym}
use Rattle.std.specs.Prelude.{Ok, Err}
use Rattle.san_speculation.specs.inner.Ascending.{IsIndexOf}
use Rattle.san_speculation.proofs.SnapshotLemmas.{added_at, added_there}
use Rattle.san_speculation.proofs.snapshot.add.Goals as goal

pub returns-in-Ok : goal.returns-in-Ok
returns-in-Ok c =
    let xs = c.args.places.now.items in
    let f = subst (λ (ys : List ℕ). IsIndexOf c.args.place ys (Ok c.in-Ok.field-0)) c.as_slice.ensures.value c.in-Ok.ensures in
    sym (added_there c.args.place xs c.in-Ok.field-0 c.requires f.0 f.1)

pub returns-in_ok-insert-in-Err : goal.returns-in_ok-insert-in-Err
returns-in_ok-insert-in-Err c =
    let xs = c.args.places.now.items in
    let f = subst (λ (ys : List ℕ). IsIndexOf c.args.place ys (Err c.in-Err.at)) c.as_slice.ensures.value c.in-Err.ensures in
    c.in_ok-insert-in-Err.ensures.items ∙ sym (added_at c.args.place xs c.in-Err.at f.0 f.1 f.2)
