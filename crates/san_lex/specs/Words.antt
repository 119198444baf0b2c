-- What the words of a text are like, and those of them that are names and numbers.
use Rattle.std.specs.Prelude.{ℕ, ◌≡◌, ◌<◌, ◌≤◌, true, List, [], ◌∷◌, length, None}
use Rattle.san_base.specs.declared.limits.TheConstants.{MAX_NAME_BYTES}
use Rattle.san_lex.specs.declared.byte.TheConstants.{MAX_NUMBER}
use Rattle.san_base.specs.Names.{is_letter, is_in_name, each}
use Rattle.san_lex.specs.Keywords.{keyword_of}
use Rattle.san_lex.specs.Lexer.{Word, Number, Name, Fixed}

-- a letter, then letters, digits and `_`, no longer than a name may be, and no keyword
abbrev pub IsName : List ℕ → Type 0
IsName [] = ⊥
IsName (b ∷ bs) = (is_letter b ≡ true) × (each is_in_name bs ≡ true) × (length bs < MAX_NAME_BYTES) × (keyword_of (b ∷ bs) ≡ None)

abbrev pub IsWord : Word → Type 0
IsWord (Number n) = n ≤ MAX_NUMBER
IsWord (Name bs) = IsName bs
IsWord (Fixed s) = Unit {0}

abbrev pub AreWords : List Word → Type 0
AreWords [] = Unit {0}
AreWords (w ∷ ws) = IsWord w × AreWords ws

-- the names and numbers, in order
abbrev pub said : List Word → List Word
said [] = []
said (Number n ∷ ws) = Number n ∷ said ws
said (Name s ∷ ws) = Name s ∷ said ws
said (Fixed s ∷ ws) = said ws
