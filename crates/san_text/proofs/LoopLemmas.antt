-- An item that is not read ends the loop with its fault.
use Rattle.std.proofs.Common.{◌≡◌, ℕ, ◌<◌, Bool, true, List, Result}
use Rattle.san_lex.specs.Lexer.{Word}
use Rattle.san_text.specs.declared.words.ReadError.{ReadError}
use Rattle.san_text.specs.declared.words.ReadError.TheVariants as error
use Rattle.san_text.specs.Steps.{GrammarFault, Illegal, Long, Deep, Version, Reading, many, gathered}
use Rattle.san_text.specs.inner.Answers.{Fails}
use Rattle.san_text.proofs.ManyLemmas.{turn_fails}

pub loop_fails : {A : Type 0} (e : ReadError) (starts : List Word → Bool) (item : Reading A) (front : List A) (turns : ℕ) (ws : List Word) (total : Result (List A × List Word) GrammarFault)
    → 0 < turns → starts ws ≡ true → Fails e (item ws) → gathered front (many starts item turns ws) ≡ total → Fails e total
loop_fails error.Memory starts item front turns ws total lt is h so_far = tt
loop_fails (error.Illegal n) starts item front turns ws total lt is h so_far = turn_fails starts item front turns ws (Illegal n) total lt is h so_far
loop_fails (error.Deep n) starts item front turns ws total lt is h so_far = turn_fails starts item front turns ws (Deep n) total lt is h so_far
loop_fails (error.Long n) starts item front turns ws total lt is h so_far = turn_fails starts item front turns ws (Long n) total lt is h so_far
loop_fails (error.Version n) starts item front turns ws total lt is h so_far = turn_fails starts item front turns ws (Version n) total lt is h so_far
