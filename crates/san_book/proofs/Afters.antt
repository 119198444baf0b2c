-- What holds after a step that is booked.
use Rattle.std.proofs.Common.{Option, Some, None}
use Rattle.san_book.specs.Cores.{Core, Step}
use Rattle.san_book.specs.Journals.{booked, booked_by}
use Rattle.san_book.specs.Laws.{After}

pub after_booked : {H P : Type 0} (Q : Core H P → Type 0) (s : Step) (o : Option (Core H P)) → After (λ d. Q (booked s d)) o → After Q (booked_by s o)
after_booked Q s None h = tt
after_booked Q s (Some d) h = h

pub after_map : {X : Type 0} (Q R : X → Type 0) (o : Option X) → ((x : X) → Q x → R x) → After Q o → After R o
after_map Q R None f h = tt
after_map Q R (Some x) f h = f x h

pub after_all : {X : Type 0} (Q : X → Type 0) (o : Option X) → ((x : X) → Q x) → After Q o
after_all Q None f = tt
after_all Q (Some x) f = f x
