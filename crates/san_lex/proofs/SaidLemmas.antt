-- The names and numbers among words.
use Rattle.std.proofs.Common.{◌≡◌, List, [], ◌∷◌, ◌++◌, refl, ap}
use Rattle.san_lex.specs.Lexer.{Word, Number, Name, Fixed}
use Rattle.san_lex.specs.Words.{AreWords, said}

pub said_append : (us vs : List Word) → said (us ++ vs) ≡ said us ++ said vs
said_append [] vs = refl
said_append (Number n ∷ us) vs = ap (λ (x : List Word). Number n ∷ x) (said_append us vs)
said_append (Name s ∷ us) vs = ap (λ (x : List Word). Name s ∷ x) (said_append us vs)
said_append (Fixed s ∷ us) vs = said_append us vs

-- words can be written where their names and numbers can, and the other way round
pub said_fits : (ws : List Word) → AreWords ws → AreWords (said ws)
said_fits [] h = tt
said_fits (Number n ∷ ws) h = (h.0, said_fits ws h.1)
said_fits (Name s ∷ ws) h = (h.0, said_fits ws h.1)
said_fits (Fixed s ∷ ws) h = said_fits ws h.1

pub fits_said : (ws : List Word) → AreWords (said ws) → AreWords ws
fits_said [] h = tt
fits_said (Number n ∷ ws) h = (h.0, fits_said ws h.1)
fits_said (Name s ∷ ws) h = (h.0, fits_said ws h.1)
fits_said (Fixed s ∷ ws) h = (tt, fits_said ws h)
