-- What an evaluation makes of a marking.
use Rattle.std.specs.Prelude.{ℕ, Bool, false, not, ◌||◌, ◌&&◌, nat_eq, List, slice_index, slice_set, Result, Ok, Err, ℤ, pos}
use Rattle.san_base.specs.declared.ending.Trap.{Trap}

-- the answer or the trap, the marking as it is then left, the cells that are looked at, the cells that are assigned
pub record Evaluation (T : Type 0) : Type 0 where
  pub answer : Result T Trap
  pub left : List ℕ
  pub looks : ℕ → Bool
  pub sets : ℕ → Bool

abbrev pub Meaning : Type 0 → Type 0
Meaning T = List ℕ → Evaluation T

abbrev pub no_cell : ℕ → Bool
no_cell q = false

abbrev pub one_cell : ℕ → ℕ → Bool
one_cell p q = nat_eq q p

-- an answer that no cell is needed for
abbrev pub settled : {T : Type 0} → Result T Trap → Meaning T
settled r m = record { answer = r; left = m; looks = no_cell; sets = no_cell }

-- the value of a cell
abbrev pub value_at : ℕ → Meaning ℤ
value_at p m = record { answer = Ok (pos (slice_index m p)); left = m; looks = one_cell p; sets = no_cell }

-- a cell's new value
abbrev pub put_at : ℕ → ℕ → Meaning (Unit {0})
put_at p v m = record { answer = Ok tt; left = slice_set m p v; looks = no_cell; sets = one_cell p }

-- one after another: what the first assigned, the second needs not look at
abbrev pub joined : {T U : Type 0} → Evaluation T → Evaluation U → Evaluation U
joined a b = record {
  answer = b.answer;
  left = b.left;
  looks = λ p. a.looks p || (not (a.sets p) && b.looks p);
  sets = λ p. a.sets p || b.sets p;
}

-- goes on with an answer, and ends with a trap
abbrev pub go_on : {T U : Type 0} → Result T Trap → Evaluation T → (T → Meaning U) → Evaluation U
go_on (Ok x) a next = joined a (next x a.left)
go_on (Err t) a next = record { answer = Err t; left = a.left; looks = a.looks; sets = a.sets }

-- first this, then what its answer calls for
abbrev pub then_do : {T U : Type 0} → Meaning T → (T → Meaning U) → Meaning U
then_do a next m = go_on (a m).answer (a m) next
