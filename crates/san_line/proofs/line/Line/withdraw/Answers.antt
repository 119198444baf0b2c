use Rattle.std.proofs.Common.{rules, arith, ◌≡◌, ◌&&◌, ap, sym, subst, not, nat_eq, nat_le, List}
use Rattle.std.proofs.lemmas.Fn.{filter_same}
use Rattle.san_line.proofs.Ordered.{ordered_without}
use Rattle.san_line.specs.Lines.{without_all}
use Rattle.san_line.specs.Ordered.{IsOrdered}
use Rattle.san_line.specs.declared.version.Version.{Version}
use Rattle.san_line.proofs.line.Line.withdraw.Goals as goal

pub invariant_of-self : goal.invariant_of-self
invariant_of-self c =
    let kept : c.retain.new.self.items ≡ without_all (λ l p. nat_eq l c.args.leaf.0 && nat_le c.args.from p) c.self.inside.versions.items = filter_same _ (λ (v : Version). not (nat_eq v.leaf.0 c.args.leaf.0 && nat_le c.args.from v.pos)) _ (λ x b f' k. search rules) _ _ c.retain.ensures.filtered in
    (subst IsOrdered (sym kept) (ordered_without (λ l p. nat_eq l c.args.leaf.0 && nat_le c.args.from p) c.self.inside.versions.items c.self.invariant.0), λ more. let old = c.self.invariant.1 more in omega (arith, old, c.retain.ensures.bound, c.retain.ensures.capacity), omega (arith, c.retain.ensures.bound, c.self.invariant.2))

pub returns-clause-left : goal.returns-clause-left
returns-clause-left c =
    let kept : c.retain.new.self.items ≡ without_all (λ l p. nat_eq l c.args.leaf.0 && nat_le c.args.from p) c.self.inside.versions.items = filter_same _ (λ (v : Version). not (nat_eq v.leaf.0 c.args.leaf.0 && nat_le c.args.from v.pos)) _ (λ x b f' k. search rules) _ _ c.retain.ensures.filtered in
    rw (← c.self.view_is) (ap (λ (vs : List Version). record { committed = c.self.inside.committed; versions = vs; spare = c.self.inside.spare }) kept)
