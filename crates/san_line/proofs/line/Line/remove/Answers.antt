use Rattle.std.proofs.Common.{rules, arith, ◌≡◌, ◌&&◌, ap, sym, subst, not, nat_eq, List}
use Rattle.std.proofs.lemmas.Fn.{filter_same}
use Rattle.san_line.proofs.Ordered.{ordered_without}
use Rattle.san_line.specs.Lines.{without_all}
use Rattle.san_line.specs.Ordered.{IsOrdered}
use Rattle.san_line.specs.declared.version.Version.{Version}
use Rattle.san_line.proofs.line.Line.remove.Goals as goal

pub invariant_of-self : goal.invariant_of-self
invariant_of-self c =
    let kept : c.retain.new.self.items ≡ without_all (λ l p. nat_eq l c.args.leaf.0 && nat_eq p c.args.pos) c.self.inside.versions.items = filter_same _ (λ (v : Version). not (nat_eq v.leaf.0 c.args.leaf.0 && nat_eq v.pos c.args.pos)) _ (λ x b f' k. search rules) _ _ c.retain.ensures.filtered in
    (subst IsOrdered (sym kept) (ordered_without (λ l p. nat_eq l c.args.leaf.0 && nat_eq p c.args.pos) c.self.inside.versions.items c.self.invariant.0), λ more. let old = c.self.invariant.1 more in omega (arith, old, c.retain.ensures.bound, c.retain.ensures.capacity), omega (arith, c.retain.ensures.bound, c.self.invariant.2))

pub returns : goal.returns
returns c =
    let kept : c.retain.new.self.items ≡ without_all (λ l p. nat_eq l c.args.leaf.0 && nat_eq p c.args.pos) c.self.inside.versions.items = filter_same _ (λ (v : Version). not (nat_eq v.leaf.0 c.args.leaf.0 && nat_eq v.pos c.args.pos)) _ (λ x b f' k. search rules) _ _ c.retain.ensures.filtered in
    rw (← c.self.view_is) (ap (λ (vs : List Version). record { committed = c.self.inside.committed; versions = vs; spare = c.self.inside.spare }) kept)
