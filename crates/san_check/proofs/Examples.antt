-- Worked values: the first fault of three models, and of their neighbours.
use Rattle.std.specs.Prelude.{◌≡◌, ℕ, List, [], ◌∷◌, codes, Option, Some, None}
use Rattle.std.proofs.Common.{refl}
use Rattle.san_text.specs.declared.syntax.Syntax.{Syntax}
use Rattle.san_text.specs.declared.syntax.PlaceDecl.{PlaceDecl}
use Rattle.san_text.specs.declared.syntax.ModelDecl.{ModelDecl}
use Rattle.san_text.specs.declared.syntax.ModelDecl.TheVariants as model
use Rattle.san_text.specs.declared.syntax.InputDecl.TheVariants as input
use Rattle.san_text.specs.declared.syntax.Cases.TheVariants as cases
use Rattle.san_check.specs.walk.Model.{syntax_entries, syntax_fault}
use Rattle.san_check.specs.Tables.{declared, paired}
use Rattle.san_check.specs.walk.Expression.{whole}
use Rattle.san_check.specs.walk.Activity.{act_code, act_entries, input_entries, arc_entries, weight_entries, priority_entries, timing_entries, cases_entries}
use Rattle.san_check.specs.walk.Atomic.{place_code, length_entries, initial_entries}
use Rattle.san_check.specs.walk.Composition.{child_code, model_code, part_code, shared_code, share_code, name_code, model_entries, known_of}

abbrev plain : List ℕ → Option ℕ → PlaceDecl
plain name initial = record { name = name; length = None; initial = initial }

abbrev of_models : List ModelDecl → List ℕ → Syntax
of_models models system = record { version = 1; models = models; system = system; rewards = [] }

-- san 1; atomic x { place p; place p; } system x;
abbrev twice : Syntax
twice = of_models (model.Atomic (codes "x") (plain (codes "p") None ∷ plain (codes "p") None ∷ []) [] ∷ []) (codes "x")

twice_the_same_name : syntax_fault twice ≡ Some (record { code = 20; word = 3 })
unfolding syntax_entries declared place_code length_entries initial_entries model_code name_code model_entries known_of
twice_the_same_name = refl

-- san 1; atomic a { place p = 1; } atomic b { place q = N; } join j { child x = a; child y = b; share s = x.p, y.q; } system j;
abbrev shared : ℕ → Syntax
shared initial = of_models
    (model.Atomic (codes "a") (plain (codes "p") (Some 1) ∷ []) []
    ∷ model.Atomic (codes "b") (plain (codes "q") (Some initial) ∷ []) []
    ∷ model.Join (codes "j") (record { name = codes "x"; of = codes "a" } ∷ record { name = codes "y"; of = codes "b" } ∷ [])
    (record { name = codes "s"; parts = (codes "x", codes "p") ∷ (codes "y", codes "q") ∷ [] } ∷ [])
    ∷ [])
    (codes "j")

share_of_unequal_initials : syntax_fault (shared 2) ≡ Some (record { code = 29; word = 16 })
unfolding syntax_entries declared paired place_code length_entries initial_entries child_code model_code part_code shared_code share_code name_code model_entries known_of
share_of_unequal_initials = refl

share_of_equal_initials : syntax_fault (shared 1) ≡ None
unfolding syntax_entries declared paired place_code length_entries initial_entries child_code model_code part_code shared_code share_code name_code model_entries known_of
share_of_equal_initials = refl

-- san 3; atomic x { place q[2]; instant t { in q; } } system x;
abbrev array_arc : Syntax
array_arc = record {
  version = 3;
  models = model.Atomic (codes "x") (record { name = codes "q"; length = Some 2; initial = None } ∷ [])
      (record { name = codes "t"; priority = None; inputs = input.Arc (codes "q") None ∷ []; timing = None; cases = cases.Plain [] } ∷ [])
      ∷ [];
  system = codes "x";
  rewards = [];
}

arc_of_an_array : syntax_fault array_arc ≡ Some (record { code = 54; word = 5 })
unfolding syntax_entries declared place_code length_entries initial_entries model_code name_code model_entries known_of act_code act_entries input_entries arc_entries weight_entries priority_entries timing_entries cases_entries whole
arc_of_an_array = refl
