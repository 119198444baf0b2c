-- What is on a page after words were written, one by one.
use Rattle.std.specs.Prelude.{ℕ, ◌-◌, ◌*◌, Bool, cond, List, [], ◌∷◌, ◌++◌}
use Rattle.san_lex.specs.Lexer.{Word}
use Rattle.san_lex.specs.Layout as layout
use Rattle.san_lex.specs.Layout.{gap, spaces, text_of, ending, before, depth_after}
use Rattle.san_show.specs.declared.page.Before.{Before}
use Rattle.san_show.specs.declared.page.Before.TheVariants as stands

abbrev pub before_of : Before → layout.Spacing
before_of stands.Line = layout.Line
before_of stands.Tight = layout.Tight
before_of stands.Loose = layout.Loose

pub record Written : Type 0 where
  pub bytes : List ℕ
  pub before : layout.Spacing
  pub depth : ℕ

unfoldable pub put : Written → Word → Written
put p w = record { bytes = p.bytes ++ (gap p.before p.depth w ++ (text_of w ++ ending (before w))); before = before w; depth = depth_after w p.depth }

abbrev pub written : Written → List Word → Written
written p [] = p
written p (w ∷ ws) = written (put p w) ws

-- the blanks before a word, by what it is like
abbrev pub gap_by : layout.Spacing → ℕ → Bool → ℕ → List ℕ
gap_by layout.Line d hugging closing = spaces (2 * (d - closing))
gap_by layout.Tight d hugging closing = []
gap_by layout.Loose d hugging closing = cond hugging [] (32 ∷ [])

-- what a page is after some text of such a word
abbrev pub put_by : Written → List ℕ → Bool → ℕ → layout.Spacing → ℕ → Written
put_by p text hugging closing next depth = record { bytes = p.bytes ++ (gap_by p.before p.depth hugging closing ++ (text ++ ending next)); before = next; depth = depth }
