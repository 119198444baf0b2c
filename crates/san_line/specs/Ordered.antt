-- Versions in order.
use Rattle.std.specs.Prelude.{◌≡◌, List, [], ◌∷◌, None, true}
use Rattle.san_line.specs.Lines.{before, find}
use Rattle.san_line.specs.declared.version.Version.{Version}

-- a version comes before each of a list
abbrev pub AllAfter : Version → List Version → Type 0
AllAfter v [] = Unit {0}
AllAfter v (x ∷ xs) = (before v x ≡ true) × AllAfter v xs

-- each comes before those behind it, and none has the leaf and the number of another
abbrev pub IsOrdered : List Version → Type 0
IsOrdered [] = Unit {0}
IsOrdered (x ∷ xs) = AllAfter x xs × (find x.leaf.0 x.pos xs ≡ None) × IsOrdered xs
