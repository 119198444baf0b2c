-- Which streams a run draws from.
use Rattle.std.specs.Prelude.{nat_lt, Bool, true, false, List, [], ◌∷◌, length, map}
use Rattle.san_expr.specs.declared.dist.Dist.TheVariants as dist
use Rattle.san_net.specs.Instants.{Named}
use Rattle.san_net.specs.Numbering.{all_of}
use Rattle.san_net.specs.declared.activity.ActKind.{ActKind}
use Rattle.san_net.specs.declared.activity.ActKind.TheVariants as kind
use Rattle.san_net.specs.declared.part.Part.{Part}

-- a delay that isn't fixed
abbrev pub is_drawn : ActKind → Bool
is_drawn (kind.Timed (dist.Det e) pair) = false
is_drawn (kind.Timed (dist.Uniform low high) pair) = true
is_drawn (kind.Timed (dist.Geom p q) pair) = true
is_drawn (kind.Timed (dist.Table rows) pair) = true
is_drawn (kind.Instant priority) = false

-- of each activity the stream of its delays and the stream of its cases, of which there is more than one
abbrev pub drawn_in : List Named → List Bool
drawn_in acts = all_of (map (λ a. is_drawn a.1.kind ∷ nat_lt 1 (length a.1.cases) ∷ []) acts)

-- leaf by leaf
abbrev pub all_drawn : List Part → List Bool
all_drawn parts = all_of (map (λ p. drawn_in p.atomic.acts) parts)
