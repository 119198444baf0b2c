-- Sources and sinks in memory, as contracts see them.
use Rattle.std.specs.Prelude.{ℕ, ◌≡◌, ◌+◌, ◌-◌, ◌^◌, List, min}
use Rattle.san_base.specs.declared.sink.Put.{Put}
use Rattle.san_base.specs.declared.sink.Put.TheVariants as put
use Rattle.san_base.specs.declared.source.Read.{Read}
use Rattle.san_base.specs.declared.source.Read.TheVariants as read

-- one more, up to the greatest number of its type
abbrev pub counted : ℕ → ℕ
counted n = min (n + 1) (2 ^ 64 - 1)

-- bytes that are given in order, at most `greatest` a call, with faults at the calls numbered in `fails`
pub record Feed : Type 0 where
  pub left : List ℕ
  pub greatest : ℕ
  pub fails : List ℕ
  pub calls : ℕ
  pub faults : ℕ

-- bytes that are kept in order, at most `greatest` a call while there is room, with faults at the calls numbered in `fails`
pub record Store : Type 0 where
  pub held : List ℕ
  pub room : ℕ
  pub greatest : ℕ
  pub fails : List ℕ
  pub calls : ℕ
  pub faults : ℕ

-- bytes that are kept in order while there is room
pub record Page : Type 0 where
  pub held : List ℕ
  pub room : ℕ
  pub faults : ℕ

-- a read that gives bytes gives just so many
abbrev pub ReadsJust : Read → ℕ → Type 0
ReadsJust (read.Took count) most = count ≡ most
ReadsJust read.End most = Unit {0}
ReadsJust read.Failed most = Unit {0}

-- a put that takes bytes takes just so many
abbrev pub PutsJust : Put → ℕ → Type 0
PutsJust (put.Took count) most = count ≡ most
PutsJust put.Failed most = Unit {0}
