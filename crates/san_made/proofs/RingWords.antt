-- The words of a ring's text.
use Rattle.std.proofs.Common.{ℕ, zero, suc, List, [], ◌∷◌, ◌++◌, codes}
use Rattle.std.specs.Fmt.{decimal}
use Rattle.san_gen.specs.Texts.{next_station}
use Rattle.san_lex.specs.declared.keyword.Keyword.{Keyword}
use Rattle.san_lex.specs.declared.keyword.Keyword.TheVariants as keyword
use Rattle.san_lex.specs.declared.sign.Mark.{Mark}
use Rattle.san_lex.specs.declared.sign.Mark.TheVariants as mark
use Rattle.san_lex.specs.declared.sign.Sign.TheVariants as sign
use Rattle.san_lex.specs.Lexer.{Fixed, Name, Number, Word}

abbrev pub key : Keyword → Word
key k = Fixed (sign.Keyword k)

abbrev pub mk : Mark → Word
mk m = Fixed (sign.Mark m)

abbrev pub left_brace : Word
left_brace = mk mark.OpenBrace

abbrev pub right_brace : Word
right_brace = mk mark.CloseBrace

abbrev pub semi : Word
semi = mk mark.Semicolon

abbrev pub equals : Word
equals = mk mark.Equals

abbrev pub version_words : List Word
version_words = key keyword.San ∷ Number 1 ∷ semi ∷ []

abbrev pub station_words : List Word
station_words =
    key keyword.Atomic ∷ Name (codes "station") ∷ left_brace
    ∷ key keyword.Place ∷ Name (codes "inbox") ∷ equals ∷ Number 1 ∷ semi
    ∷ key keyword.Place ∷ Name (codes "outbox") ∷ equals ∷ Number 1 ∷ semi
    ∷ key keyword.Place ∷ Name (codes "done") ∷ semi
    ∷ key keyword.Timed ∷ Name (codes "local") ∷ left_brace
    ∷ key keyword.Delay ∷ key keyword.Geom ∷ Number 1 ∷ Number 5 ∷ semi
    ∷ key keyword.Out ∷ Name (codes "done") ∷ semi
    ∷ right_brace
    ∷ key keyword.Timed ∷ Name (codes "pass") ∷ left_brace
    ∷ key keyword.In ∷ Name (codes "inbox") ∷ semi
    ∷ key keyword.Delay ∷ key keyword.Uniform ∷ Number 3 ∷ mk mark.Comma ∷ Number 9 ∷ semi
    ∷ key keyword.Out ∷ Name (codes "outbox") ∷ semi
    ∷ right_brace
    ∷ right_brace
    ∷ []

abbrev pub ring_words : List Word
ring_words = key keyword.Join ∷ Name (codes "ring") ∷ left_brace ∷ []

abbrev pub head_words : List Word
head_words = version_words ++ (station_words ++ ring_words)

abbrev pub station_name : ℕ → List ℕ
station_name k = 115 ∷ decimal k

abbrev pub wire_name : ℕ → List ℕ
wire_name k = 119 ∷ decimal k

abbrev pub child_words : ℕ → List Word
child_words k = key keyword.Child ∷ Name (station_name k) ∷ equals ∷ Name (codes "station") ∷ semi ∷ []

abbrev pub share_words : ℕ → ℕ → List Word
share_words n k =
    key keyword.Share ∷ Name (wire_name k) ∷ equals
    ∷ Name (station_name k) ∷ mk mark.Dot ∷ Name (codes "outbox") ∷ mk mark.Comma
    ∷ Name (station_name (next_station n k)) ∷ mk mark.Dot ∷ Name (codes "inbox") ∷ semi
    ∷ []

-- those of so many from one on
abbrev pub words_from : (ℕ → List Word) → ℕ → ℕ → List Word
words_from line k zero = []
words_from line k (suc left) = line k ++ words_from line (suc k) left

abbrev pub reward_words : List Word
reward_words =
    key keyword.Reward ∷ Name (codes "work") ∷ key keyword.On ∷ Name (codes "station") ∷ key keyword.Over ∷ Number 0 ∷ Number 1000 ∷ left_brace
    ∷ key keyword.Impulse ∷ Name (codes "local") ∷ Number 1 ∷ semi
    ∷ key keyword.Impulse ∷ Name (codes "pass") ∷ Number 10 ∷ semi
    ∷ right_brace
    ∷ []

abbrev pub system_words : List Word
system_words = key keyword.System ∷ Name (codes "ring") ∷ semi ∷ []

abbrev pub tail_words : List Word
tail_words = right_brace ∷ (system_words ++ reward_words)

abbrev pub all_words : ℕ → List Word
all_words n = head_words ++ (words_from child_words 0 n ++ (words_from (share_words n) 0 n ++ tail_words))
