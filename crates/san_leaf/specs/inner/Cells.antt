-- A leaf's cells as a piece begins, and what is recorded of them as it ends.
use Rattle.std.specs.Prelude.{ℕ, List, [], ◌∷◌, Option, Some, None}
use Rattle.san_law.specs.Net.{Private, Shared, Slot}

-- a private cell has the leaf's own value, a shared one none yet
abbrev pub starts : List Slot → List ℕ → List (Option ℕ)
starts [] values = []
starts (Private q ∷ ss) [] = Some 0 ∷ starts ss []
starts (Private q ∷ ss) (v ∷ values) = Some v ∷ starts ss values
starts (Shared q ∷ ss) values = None ∷ starts ss values

abbrev pub noted_by : Option ℕ → ℕ → List (ℕ × ℕ) → List (ℕ × ℕ)
noted_by None q rest = rest
noted_by (Some v) q rest = (q, v) ∷ rest

-- the shared places among the cells that are known, with their values, in the order of the cells
abbrev pub noted : List Slot → List (Option ℕ) → List (ℕ × ℕ)
noted [] cells = []
noted (s ∷ ss) [] = []
noted (Private q ∷ ss) (o ∷ cells) = noted ss cells
noted (Shared q ∷ ss) (o ∷ cells) = noted_by o q (noted ss cells)

abbrev pub value_by : Option ℕ → ℕ
value_by None = 0
value_by (Some v) = v

-- the values of the private cells
abbrev pub owned : List Slot → List (Option ℕ) → List ℕ
owned [] cells = []
owned (s ∷ ss) [] = []
owned (Private q ∷ ss) (o ∷ cells) = value_by o ∷ owned ss cells
owned (Shared q ∷ ss) (o ∷ cells) = owned ss cells
