-- Rewards.
use Rattle.std.specs.Prelude.{ℕ, ◌+◌, Bool, true, false, not, ◌||◌, nat_le, nat_lt, List, [], ◌∷◌, ◌++◌, Option, None}
use Rattle.san_text.specs.declared.syntax.RewardDecl.{RewardDecl}
use Rattle.san_text.specs.declared.syntax.SpanDecl.{SpanDecl}
use Rattle.san_text.specs.declared.syntax.SpanDecl.TheVariants as span
use Rattle.san_text.specs.declared.syntax.TermDecl.{TermDecl}
use Rattle.san_text.specs.declared.syntax.TermDecl.TheVariants as term
use Rattle.san_check.specs.declared.codes.TheConstants.{NAME_TAKEN, NO_ATOMIC, UNKNOWN_ACTIVITY, INTERVAL, IMPULSE_AT_A_TICK, TOO_MANY_REWARDS, TOO_MANY_TERMS}
use Rattle.san_check.specs.declared.limits.TheConstants.{MAX_END}
use Rattle.san_net.specs.declared.atomic.TheConstants.{MAX_TERMS}
use Rattle.san_net.specs.declared.part.TheConstants.{MAX_REWARDS}
use Rattle.san_base.specs.declared.limits.TheConstants.{MAX_HORIZON}
use Rattle.san_check.specs.Tables.{is_known, declared}
use Rattle.san_check.specs.walk.Entries.{Entries, code, ◌else◌}
use Rattle.san_check.specs.walk.Expression.{Places, first_entries, expr_entries}
use Rattle.san_check.specs.walk.Activity.{ActNames}
use Rattle.san_check.specs.walk.Composition.{Models, known_as}

-- the name of a reward behind n others
unfoldable pub reward_code : ActNames → ℕ → List ℕ → Option ℕ
reward_code rewards n name = code NAME_TAKEN (is_known rewards name) else code TOO_MANY_REWARDS (nat_le MAX_REWARDS n)

-- the end of an interval
unfoldable pub end_code : ℕ → ℕ → Option ℕ
end_code from to = code INTERVAL (not (nat_lt from to) || nat_lt MAX_END to)

unfoldable pub span_entries : SpanDecl → Entries
span_entries (span.Over from to) = None ∷ (end_code from to ∷ [])
span_entries (span.Mean from to) = None ∷ (end_code from to ∷ [])
span_entries (span.At tick) = code INTERVAL (nat_lt MAX_HORIZON tick) ∷ []

abbrev pub is_at : SpanDecl → Bool
is_at (span.Over from to) = false
is_at (span.Mean from to) = false
is_at (span.At tick) = true

-- the activity of an impulse, in a term behind n others
unfoldable pub impulse_code : ActNames → Bool → ℕ → List ℕ → Option ℕ
impulse_code acts at n name = code UNKNOWN_ACTIVITY (not (is_known acts name)) else (code IMPULSE_AT_A_TICK at else code TOO_MANY_TERMS (nat_le MAX_TERMS n))

unfoldable pub term_entries : Places → ActNames → Bool → ℕ → TermDecl → Entries
term_entries places acts at n (term.Rate e) = first_entries places e (nat_le MAX_TERMS n)
term_entries places acts at n (term.Impulse act e) = impulse_code acts at n act ∷ expr_entries places e

abbrev pub terms_entries : Places → ActNames → Bool → ℕ → List TermDecl → Entries
terms_entries places acts at n [] = []
terms_entries places acts at n (t ∷ ts) = term_entries places acts at n t ++ terms_entries places acts at (n + 1) ts

-- a reward behind its name
unfoldable pub reward_entries : Models → RewardDecl → Entries
reward_entries models r = code NO_ATOMIC (not (known_as models r.atomic).atomic) ∷ (span_entries r.span ++ terms_entries (known_as models r.atomic).places (known_as models r.atomic).acts (is_at r.span) 0 r.terms)

abbrev pub rewards_entries : Models → ActNames → ℕ → List RewardDecl → Entries
rewards_entries models rewards n [] = []
rewards_entries models rewards n (r ∷ rs) = reward_code rewards n r.name ∷ (reward_entries models r ++ rewards_entries models (declared rewards r.name tt) (n + 1) rs)
