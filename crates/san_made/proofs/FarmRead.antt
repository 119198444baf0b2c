-- A farm's text is heard as its words, which are read as its syntax.
use Rattle.std.proofs.Common.{◌≡◌, ℕ, ◌≤◌, List, [], ◌∷◌, ◌++◌, Ok, refl, sym, ap, ◌∙◌, arith, append_assoc, codes}
use Rattle.std.specs.Fmt.{decimal}
use Rattle.san_gen.specs.Texts.{farm_text, lines}
use Rattle.san_lex.proofs.LayoutLemmas.{layout_law}
use Rattle.san_lex.specs.Bytes.{run}
use Rattle.san_lex.specs.Keywords.{keyword_of}
use Rattle.san_lex.specs.Layout.{Line, before, depth_after, hugs, layout, text_of}
use Rattle.san_lex.specs.Lexer.{double, front, heard, lex, mark_of, named, numbered, operator_of, single, tokens}
use Rattle.san_lex.specs.Words.{IsName}
use Rattle.san_text.specs.Activities as activity
use Rattle.san_text.specs.Expressions as expression
use Rattle.san_text.specs.Models.{atomic_at, bounds_at, child_at, copied_at, ended, head_at, impulse_at, join_at, measured_at, model_at, more_part, mean_at, over_at, part_at, parts_at, rate_at, rep_at, reward_at, share_at, shown_at, span_at, starts_model, starts_term, syntax_at, system_at, term_at, times_at, version_at}
use Rattle.san_text.specs.Steps.{many, name_at, number_at, number_or_none, sign_at}
use Rattle.san_text.specs.Words.{at_level, is_next, look, name_of, number_of, turns_of}
use Rattle.san_made.proofs.CutLemmas.{Hears, IsPlain, front_heard, line_heard}
use Rattle.san_made.proofs.FarmModel.{atomic_words, copies_words, farm_end_words, farm_syntax, farm_words}
use Rattle.san_made.proofs.NameLemmas.{plain_around}

-- ---- the words

atomic_front : List ℕ
atomic_front = lines (
    codes "san 1;"
    ∷ codes "atomic cpu {"
    ∷ codes "  place up = 1;"
    ∷ codes "  place failed;"
    ∷ codes "  place mended;"
    ∷ codes "  timed fail { in up; delay geom 1 50; out failed; }"
    ∷ codes "  instant start { gate up == 0; in mended; out up; }"
    ∷ codes "}"
    ∷ codes "atomic crew {"
    ∷ codes "  place failed;"
    ∷ codes "  place mended;"
    ∷ codes "  timed fix { in failed; delay uniform 1, 4; out mended; }"
    ∷ []) ++ codes "}"

copies_front : ℕ → List ℕ
copies_front n = codes "rep cpus = cpu times " ++ (decimal n ++ codes " {")

farm_end : List ℕ
farm_end = codes "share failed; share mended; }\n" ++ lines (
    codes "join farm {"
    ∷ codes "  child cpus = cpus;"
    ∷ codes "  child crew = crew;"
    ∷ codes "  share failed = cpus.failed, crew.failed;"
    ∷ codes "  share mended = cpus.mended, crew.mended;"
    ∷ codes "}"
    ∷ codes "system farm;"
    ∷ codes "reward down on cpu over 0 1000 { rate 1 - up; impulse fail 3; }"
    ∷ codes "reward queue on crew mean 0 1000 { rate failed; }"
    ∷ [])

farm_split : (n : ℕ) → farm_text n ≡ atomic_front ++ 10 ∷ (copies_front n ++ 32 ∷ farm_end)
unfolding farm_text atomic_front copies_front farm_end
farm_split n = ap (λ (xs : List ℕ). atomic_front ++ 10 ∷ (codes "rep cpus = cpu times " ++ xs)) (sym (append_assoc (decimal n) (codes " {") (32 ∷ farm_end)))

copies_laid : (n : ℕ) → copies_front n ++ 10 ∷ [] ≡ layout Line 0 (copies_words n)
unfolding copies_front layout text_of before depth_after hugs
copies_laid n = ap (λ (xs : List ℕ). codes "rep cpus = cpu times " ++ xs) (append_assoc (decimal n) (codes " {") (10 ∷ []))

cpus_word : IsName (codes "cpus")
unfolding keyword_of
cpus_word = (refl, refl, omega arith, refl)

cpu_word : IsName (codes "cpu")
unfolding keyword_of
cpu_word = (refl, refl, omega arith, refl)

copies_heard : (n : ℕ) → n ≤ 1024 → Hears (copies_front n ++ 10 ∷ []) (copies_words n)
copies_heard n l at = ap (λ (bytes : List ℕ). heard (lex 0 at bytes)) (copies_laid n) ∙ layout_law Line 0 (copies_words n) (tt, (cpus_word, (tt, (cpu_word, (tt, (omega (arith, l), (tt, tt))))))) at

copies_plain : (n : ℕ) → n ≤ 1024 → IsPlain (copies_front n)
unfolding copies_front
copies_plain n l = plain_around (codes "rep cpus = cpu times ") n (codes " {") l refl refl

atomics_heard : Hears (atomic_front ++ 10 ∷ []) atomic_words
unfolding atomic_front lex front named numbered single double mark_of operator_of run keyword_of
atomics_heard at = refl

atomics_plain : IsPlain atomic_front
unfolding atomic_front
atomics_plain = refl

end_heard : Hears farm_end farm_end_words
unfolding farm_end lex front named numbered single double mark_of operator_of run keyword_of
end_heard at = refl

pub farm_heard : (n : ℕ) → 2 ≤ n → n ≤ 1024 → heard (tokens (farm_text n)) ≡ Ok (farm_words n)
unfolding tokens
farm_heard n two few =
    let behind = front_heard (copies_front n) farm_end (copies_words n) farm_end_words (copies_plain n few) (copies_heard n few) end_heard in
    ap (λ (bytes : List ℕ). heard (lex 0 0 bytes)) (farm_split n) ∙ line_heard atomic_front (copies_front n ++ 32 ∷ farm_end) atomic_words (copies_words n ++ farm_end_words) atomics_plain atomics_heard behind 0

-- ---- the words are read

-- how many words are left at the system's name
abbrev pub farm_left : ℕ
farm_left = 32

pub farm_is_read : (n : ℕ) → syntax_at (farm_words n) ≡ Ok (farm_syntax n, farm_left)
unfolding syntax_at head_at version_at starts_model model_at atomic_at join_at rep_at times_at shown_at copied_at child_at share_at parts_at part_at more_part system_at reward_at ended many name_at number_at number_or_none sign_at is_next name_of number_of look at_level turns_of measured_at span_at over_at bounds_at starts_term term_at impulse_at activity.place_at activity.length_at activity.initial_at activity.arc_at activity.starts_act activity.act_at activity.timed_at activity.instant_at activity.priority_at activity.gate_at activity.body_at activity.starts_input activity.timing_at activity.dist_at activity.geom_at activity.pair_at activity.cases_at activity.plain_at activity.starts_output activity.output_at activity.output_arc activity.input_at activity.input_arc activity.uniform_at expression.expr expression.levels expression.chain expression.beginning expression.begun expression.closing expression.grouped expression.indexed expression.more expression.room expression.turned expression.unary activity.function_at rate_at mean_at
farm_is_read n = refl
