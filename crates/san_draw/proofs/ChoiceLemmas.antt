-- The draws that pick a number.
use Rattle.std.proofs.Common.{ℕ, ◌+◌, ◌-◌, ◌*◌, ◌/◌, ◌^◌, ◌<◌, ◌≤◌, ◌≡◌, arith}
use Rattle.std.proofs.Math.Nat.{div-lt_iff_lt-mul, div-mul-le_self, lt-div-mul-add}
use Rattle.san_base.specs.Draws.{pick}

-- the least draw that picks a number
abbrev pub draw_for : ℕ → ℕ → ℕ
draw_for w v = (v * 2 ^ 64 + (w - 1)) / w

pub picked_by : (w v : ℕ) → w ≤ 2 ^ 32 → v < w → (u : ℕ) × (u < 2 ^ 64) × (pick u w ≡ v)
picked_by w v h k =
    let some : 0 < w = omega arith in
    let below : v * 2 ^ 64 + (w - 1) < 2 ^ 64 * w = omega arith in
    let most : draw_for w v < 2 ^ 64 = (div-lt_iff_lt-mul {k = w} {x = v * 2 ^ 64 + (w - 1)} {y = 2 ^ 64} some).1 below in
    let least : draw_for w v * w ≤ v * 2 ^ 64 + (w - 1) = div-mul-le_self (v * 2 ^ 64 + (w - 1)) w in
    let next : v * 2 ^ 64 + (w - 1) < draw_for w v * w + w = lt-div-mul-add some in
    (draw_for w v, most, omega arith)
