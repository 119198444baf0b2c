-- The texts of the generated models, line by line.
use Rattle.std.specs.Prelude.{ℕ, zero, suc, nat_lt, cond, List, [], ◌∷◌, ◌++◌, codes}
use Rattle.std.specs.Fmt.{decimal}
use Rattle.san_gen.specs.declared.model.ModelKind.{ModelKind}
use Rattle.san_gen.specs.declared.model.ModelKind.TheVariants.{Farm, Ring}

-- each line with the line feed behind it
abbrev pub lines : List (List ℕ) → List ℕ
lines [] = []
lines (l ∷ ls) = l ++ 10 ∷ lines ls

-- a line for each of so many numbers from one on
abbrev pub lines_from : (ℕ → List ℕ) → ℕ → ℕ → List ℕ
lines_from line k zero = []
lines_from line k (suc left) = line k ++ lines_from line (suc k) left

-- a farm: what stands before the number of processors, and behind it
abbrev pub farm_head : List ℕ
farm_head = lines (
    codes "san 1;"
    ∷ codes "atomic cpu {"
    ∷ codes "  place up = 1;"
    ∷ codes "  place failed;"
    ∷ codes "  place mended;"
    ∷ codes "  timed fail { in up; delay geom 1 50; out failed; }"
    ∷ codes "  instant start { gate up == 0; in mended; out up; }"
    ∷ codes "}"
    ∷ codes "atomic crew {"
    ∷ codes "  place failed;"
    ∷ codes "  place mended;"
    ∷ codes "  timed fix { in failed; delay uniform 1, 4; out mended; }"
    ∷ codes "}"
    ∷ []) ++ codes "rep cpus = cpu times "

abbrev pub farm_tail : List ℕ
farm_tail = lines (
    codes " { share failed; share mended; }"
    ∷ codes "join farm {"
    ∷ codes "  child cpus = cpus;"
    ∷ codes "  child crew = crew;"
    ∷ codes "  share failed = cpus.failed, crew.failed;"
    ∷ codes "  share mended = cpus.mended, crew.mended;"
    ∷ codes "}"
    ∷ codes "system farm;"
    ∷ codes "reward down on cpu over 0 1000 { rate 1 - up; impulse fail 3; }"
    ∷ codes "reward queue on crew mean 0 1000 { rate failed; }"
    ∷ [])

unfoldable pub farm_text : ℕ → List ℕ
farm_text copies = farm_head ++ decimal copies ++ farm_tail

-- a ring: what stands before the stations' lines, and behind them
abbrev pub ring_head : List ℕ
ring_head = lines (
    codes "san 1;"
    ∷ codes "atomic station {"
    ∷ codes "  place inbox = 1;"
    ∷ codes "  place outbox = 1;"
    ∷ codes "  place done;"
    ∷ codes "  timed local { delay geom 1 5; out done; }"
    ∷ codes "  timed pass { in inbox; delay uniform 3, 9; out outbox; }"
    ∷ codes "}"
    ∷ codes "join ring {"
    ∷ [])

abbrev pub ring_tail : List ℕ
ring_tail = lines (
    codes "}"
    ∷ codes "system ring;"
    ∷ codes "reward work on station over 0 1000 { impulse local 1; impulse pass 10; }"
    ∷ [])

-- behind the last station stands the first
abbrev pub next_station : ℕ → ℕ → ℕ
next_station copies k = cond (nat_lt (suc k) copies) (suc k) 0

unfoldable pub child_line : ℕ → List ℕ
child_line k = codes "  child s" ++ decimal k ++ codes " = station;\n"

unfoldable pub share_line : ℕ → ℕ → List ℕ
share_line copies k = codes "  share w" ++ decimal k ++ codes " = s" ++ decimal k ++ codes ".outbox, s" ++ decimal (next_station copies k) ++ codes ".inbox;\n"

unfoldable pub ring_text : ℕ → List ℕ
ring_text copies = ring_head ++ lines_from child_line 0 copies ++ lines_from (share_line copies) 0 copies ++ ring_tail

abbrev pub model_text : ModelKind → ℕ → List ℕ
model_text Farm copies = farm_text copies
model_text Ring copies = ring_text copies
