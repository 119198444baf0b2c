-- Joins and reps, and all models.
use Rattle.std.specs.Prelude.{ℕ, ◌+◌, Bool, true, false, not, nat_eq, nat_le, List, [], ◌∷◌, ◌++◌, Option, Some, None, is_none, unwrap_or}
use Rattle.san_text.specs.declared.syntax.ModelDecl.{ModelDecl}
use Rattle.san_text.specs.declared.syntax.ModelDecl.TheVariants as model
use Rattle.san_text.specs.declared.syntax.ChildDecl.{ChildDecl}
use Rattle.san_text.specs.declared.syntax.ShareDecl.{ShareDecl}
use Rattle.san_check.specs.declared.codes.TheConstants.{NAME_TAKEN, UNKNOWN_MODEL, UNKNOWN_CHILD, PLACE_NOT_SHOWN, CHILD_NAMED_TWICE, PLACE_TAKEN, INITIALS_DIFFER, COPY_SHOWS_NO_SUCH_PLACE, COPIES, TOO_MANY_MODELS, TOO_MANY_CHILDREN, TOO_MANY_SHARES, LENGTHS_DIFFER}
use Rattle.san_check.specs.declared.limits.TheConstants.{MAX_COPIES}
use Rattle.san_tree.specs.declared.limits.TheConstants.{MAX_NODES, MAX_CHILDREN, MAX_SHARES}
use Rattle.san_check.specs.declared.place.Place.{Place}
use Rattle.san_check.specs.declared.known.Known.{Known}
use Rattle.san_check.specs.Tables.{Table, Pairs, found, is_known, declared, has_pair, all_paired}
use Rattle.san_check.specs.walk.Entries.{Entries, code, ◌else◌}
use Rattle.san_check.specs.walk.Expression.{Places}
use Rattle.san_check.specs.walk.Activity.{ActNames, is_outside}
use Rattle.san_check.specs.walk.Atomic.{places_entries, all_places, acts_entries, all_acts}

abbrev pub Models : Type 0
Models = Table Known

-- a name that no model has stands for this
abbrev pub nothing : Known
nothing = record { atomic = false; places = []; acts = [] }

abbrev pub known_as : Models → List ℕ → Known
known_as models name = unwrap_or (found models name) nothing

-- the places that a model of this name shows
abbrev pub shown_by : Models → List ℕ → Places
shown_by models name = (known_as models name).places

-- the children of a join, with the places that their models show
abbrev pub Children : Type 0
Children = Table Places

unfoldable pub child_code : Children → ℕ → List ℕ → Option ℕ
child_code children n name = code NAME_TAKEN (is_known children name) else code TOO_MANY_CHILDREN (nat_le MAX_CHILDREN n)

unfoldable pub model_code : Models → List ℕ → Option ℕ
model_code models name = code UNKNOWN_MODEL (not (is_known models name))

abbrev pub with_child : Models → Children → ChildDecl → Children
with_child models children c = declared children c.name (shown_by models c.of)

abbrev pub children_entries : Models → Children → ℕ → List ChildDecl → Entries
children_entries models children n [] = []
children_entries models children n (c ∷ cs) = child_code children n c.name ∷ (model_code models c.of ∷ children_entries models (with_child models children c) (n + 1) cs)

abbrev pub all_children : Models → Children → List ChildDecl → Children
all_children models children [] = children
all_children models children (c ∷ cs) = all_children models (with_child models children c) cs

abbrev pub place_in : Option Places → List ℕ → Option Place
place_in None name = None
place_in (Some places) name = found places name

-- the place that a part of a share names
abbrev pub part_place : Children → List ℕ × List ℕ → Option Place
part_place children part = place_in (found children part.0) part.1

abbrev pub differs : Option ℕ → Option ℕ → Bool
differs None None = false
differs None (Some n) = true
differs (Some m) None = true
differs (Some m) (Some n) = not (nat_eq m n)

abbrev pub initial_differs : Option Place → Option Place → Bool
initial_differs (Some first) (Some place) = not (nat_eq first.initial place.initial)
initial_differs (Some first) None = false
initial_differs None place = false

abbrev pub length_differs : Option Place → Option Place → Bool
length_differs (Some first) (Some place) = differs first.length place.length
length_differs (Some first) None = false
length_differs None place = false

-- the child of a part, where these stand in earlier parts of the share
unfoldable pub part_code : Children → ActNames → List ℕ → Option ℕ
part_code children earlier child = code UNKNOWN_CHILD (not (is_known children child)) else code CHILD_NAMED_TWICE (is_known earlier child)

-- the place of a part, where these parts stand in earlier shares, and the share's first part names this place
unfoldable pub shared_code : Children → Pairs → Option Place → List ℕ × List ℕ → Option ℕ
shared_code children taken first part =
    code PLACE_NOT_SHOWN (is_none (part_place children part)) else (code PLACE_TAKEN (has_pair taken part) else (code INITIALS_DIFFER (initial_differs first (part_place children part)) else code LENGTHS_DIFFER (length_differs first (part_place children part))))

abbrev pub parts_entries : Children → Pairs → Option Place → ActNames → List (List ℕ × List ℕ) → Entries
parts_entries children taken first earlier [] = []
parts_entries children taken first earlier (p ∷ ps) = part_code children earlier p.0 ∷ (shared_code children taken first p ∷ parts_entries children taken first (declared earlier p.0 tt) ps)

-- the place that the first part names
abbrev pub first_place : Children → List (List ℕ × List ℕ) → Option Place
first_place children [] = None
first_place children (p ∷ ps) = part_place children p

-- a share shows its first part's place; a share with a fault may show any
abbrev pub shown_as : Option Place → Place
shown_as place = unwrap_or place (record { initial = 0; length = None })

abbrev pub with_share : Children → Places → ShareDecl → Places
with_share children shares s = declared shares s.name (shown_as (first_place children s.parts))

-- the name of a share behind n others
unfoldable pub share_code : Places → ℕ → List ℕ → Option ℕ
share_code shares n name = code NAME_TAKEN (is_known shares name) else code TOO_MANY_SHARES (nat_le MAX_SHARES n)

abbrev pub shares_entries : Children → Places → Pairs → ℕ → List ShareDecl → Entries
shares_entries children shares taken n [] = []
shares_entries children shares taken n (s ∷ ss) =
    share_code shares n s.name ∷ (parts_entries children taken (first_place children s.parts) [] s.parts ++ shares_entries children (with_share children shares s) (all_paired taken s.parts) (n + 1) ss)

abbrev pub all_shares : Children → Places → List ShareDecl → Places
all_shares children shares [] = shares
all_shares children shares (s ∷ ss) = all_shares children (with_share children shares s) ss

-- the share of a rep behind n others, whose model shows these places
unfoldable pub shown_code : Places → Places → ℕ → List ℕ → Option ℕ
shown_code places shares n name = code NAME_TAKEN (is_known shares name) else (code COPY_SHOWS_NO_SUCH_PLACE (not (is_known places name)) else code TOO_MANY_SHARES (nat_le MAX_SHARES n))

abbrev pub with_shown : Places → Places → List ℕ → Places
with_shown places shares name = declared shares name (shown_as (found places name))

abbrev pub shown_entries : Places → Places → ℕ → List (List ℕ) → Entries
shown_entries places shares n [] = []
shown_entries places shares n (s ∷ ss) = shown_code places shares n s ∷ shown_entries places (with_shown places shares s) (n + 1) ss

abbrev pub all_shown : Places → Places → List (List ℕ) → Places
all_shown places shares [] = shares
all_shown places shares (s ∷ ss) = all_shown places (with_shown places shares s) ss

-- the name of a model behind n others
unfoldable pub name_code : Models → ℕ → List ℕ → Option ℕ
name_code models n name = code NAME_TAKEN (is_known models name) else code TOO_MANY_MODELS (nat_le MAX_NODES n)

abbrev pub name_of : ModelDecl → List ℕ
name_of (model.Atomic name places acts) = name
name_of (model.Join name children shares) = name
name_of (model.Rep name of times shares) = name

-- a model behind its name
unfoldable pub model_entries : Models → ModelDecl → Entries
model_entries models (model.Atomic name places acts) = places_entries [] 0 places ++ acts_entries (all_places [] places) [] 0 acts
model_entries models (model.Join name children shares) = children_entries models [] 0 children ++ shares_entries (all_children models [] children) [] [] 0 shares
model_entries models (model.Rep name of times shares) = model_code models of ∷ (code COPIES (is_outside times 1 MAX_COPIES) ∷ shown_entries (shown_by models of) [] 0 shares)

-- what a model declares and shows
unfoldable pub known_of : Models → ModelDecl → Known
known_of models (model.Atomic name places acts) = record { atomic = true; places = all_places [] places; acts = all_acts [] acts }
known_of models (model.Join name children shares) = record { atomic = false; places = all_shares (all_children models [] children) [] shares; acts = [] }
known_of models (model.Rep name of times shares) = record { atomic = false; places = all_shown (shown_by models of) [] shares; acts = [] }

abbrev pub with_model : Models → ModelDecl → Models
with_model models m = declared models (name_of m) (known_of models m)

abbrev pub models_entries : Models → ℕ → List ModelDecl → Entries
models_entries models n [] = []
models_entries models n (m ∷ ms) = name_code models n (name_of m) ∷ (model_entries models m ++ models_entries (with_model models m) (n + 1) ms)

abbrev pub all_models : Models → List ModelDecl → Models
all_models models [] = models
all_models models (m ∷ ms) = all_models (with_model models m) ms
