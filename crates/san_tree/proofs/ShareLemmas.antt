-- Shares that have at most one place of each child.
use Rattle.std.proofs.Common.{[], ap, sym, ◌∙◌, nat_eq}
use Rattle.std.proofs.lemmas.List.Elements.{All-get_or}
use Rattle.std.proofs.lemmas.List.Quantifiers.{position-Some}
use Rattle.std.proofs.lemmas.Bool.{eqb-true}
use Rattle.std.proofs.Math.Bool.{true≢false}
use Rattle.std.specs.List.{All}
use Rattle.std.specs.Prelude.{is_some, slice_index_or}
use Rattle.san_tree.specs.declared.share.Share.{Share}
use Rattle.san_tree.specs.declared.node.Node.{Node}
use Rattle.san_tree.specs.declared.node.Node.TheVariants.{Leaf, Join, Rep}
use Rattle.san_tree.specs.Places.{names, shares_of, NamesOnce, SharesApart}

abbrev no_share : Share
no_share = record { name = []; parts = [] }

pub shares-apart : (node : Node) → All NamesOnce (shares_of node) → SharesApart node
shares-apart (Leaf atomic) h c p q k e f = absurd (true≢false (sym (ap is_some e)))
shares-apart (Join children shares) h c p q k e f =
    let one = position-Some (names c p) shares k no_share e in
    let two = position-Some (names c q) shares k no_share f in
    All-get_or NamesOnce shares k no_share one.0 h c p q one.1 two.1
shares-apart (Rep node times shares) h c p q k e f =
    let one = position-Some (λ x. nat_eq x p) shares k 0 e in
    let two = position-Some (λ x. nat_eq x q) shares k 0 f in
    sym (eqb-true (slice_index_or shares k 0) p one.1) ∙ eqb-true (slice_index_or shares k 0) q two.1
