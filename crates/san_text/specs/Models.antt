-- Models, rewards, and the whole text.
use Rattle.std.specs.Prelude.{ℕ, Bool, cond, ◌&&◌, ◌||◌, nat_eq, nat_le, List, [], ◌∷◌, length, Result, Ok, Err}
use Rattle.san_lex.specs.declared.keyword.Keyword.TheVariants as keyword
use Rattle.san_lex.specs.declared.sign.Mark.TheVariants as mark
use Rattle.san_lex.specs.Lexer.{Word}
use Rattle.san_text.specs.declared.syntax.Syntax.{Syntax}
use Rattle.san_text.specs.declared.syntax.ModelDecl.{ModelDecl}
use Rattle.san_text.specs.declared.syntax.ModelDecl.TheVariants as model
use Rattle.san_text.specs.declared.syntax.ChildDecl.{ChildDecl}
use Rattle.san_text.specs.declared.syntax.ShareDecl.{ShareDecl}
use Rattle.san_text.specs.declared.syntax.RewardDecl.{RewardDecl}
use Rattle.san_text.specs.declared.syntax.SpanDecl.{SpanDecl}
use Rattle.san_text.specs.declared.syntax.SpanDecl.TheVariants as span
use Rattle.san_text.specs.declared.syntax.TermDecl.{TermDecl}
use Rattle.san_text.specs.declared.syntax.TermDecl.TheVariants as term
use Rattle.san_text.specs.declared.limits.TheConstants.{FIRST_VERSION, LAST_VERSION}
use Rattle.san_text.specs.Words.{tail}
use Rattle.san_text.specs.Steps.{GrammarFault, Illegal, Version, Reading, ◌>>=◌, name_at, number_at, mark_at, keyword_at, next_mark, next_keyword, all_of, gathered}
use Rattle.san_text.specs.Expressions.{expr}
use Rattle.san_text.specs.Activities.{place_at, act_at, starts_act}

-- "atomic" NAME "{" { place } { timed | instant } "}"
unfoldable pub atomic_at : ℕ → Reading ModelDecl
atomic_at version ws = name_at ws >>= λ n. mark_at mark.OpenBrace n.1 >>= λ b. all_of (next_keyword keyword.Place) (place_at version) b >>= λ p. all_of starts_act (act_at version) p.1 >>= λ a. mark_at mark.CloseBrace a.1 >>= λ r.
    Ok (model.Atomic n.0 p.0 a.0, r)

-- "child" NAME "=" NAME ";"
unfoldable pub child_at : Reading ChildDecl
child_at ws = keyword_at keyword.Child ws >>= λ c. name_at c >>= λ n. mark_at mark.Equals n.1 >>= λ e. name_at e >>= λ o. mark_at mark.Semicolon o.1 >>= λ r. Ok (record { name = n.0; of = o.0 }, r)

-- NAME "." NAME
unfoldable pub part_at : Reading (List ℕ × List ℕ)
part_at ws = name_at ws >>= λ c. mark_at mark.Dot c.1 >>= λ d. name_at d >>= λ p. Ok ((c.0, p.0), p.1)

-- "," NAME "." NAME
unfoldable pub more_part : Reading (List ℕ × List ℕ)
more_part ws = part_at (tail ws)

-- NAME "." NAME { "," NAME "." NAME }
unfoldable pub parts_at : Reading (List (List ℕ × List ℕ))
parts_at ws = part_at ws >>= λ x. gathered (x.0 ∷ []) (all_of (next_mark mark.Comma) more_part x.1)

-- jshare: "share" NAME "=" NAME "." NAME { "," NAME "." NAME } ";"
unfoldable pub share_at : Reading ShareDecl
share_at ws = keyword_at keyword.Share ws >>= λ s. name_at s >>= λ n. mark_at mark.Equals n.1 >>= λ e. parts_at e >>= λ p. mark_at mark.Semicolon p.1 >>= λ r. Ok (record { name = n.0; parts = p.0 }, r)

-- "join" NAME "{" { "child" NAME "=" NAME ";" } { jshare } "}"
unfoldable pub join_at : Reading ModelDecl
join_at ws = name_at ws >>= λ n. mark_at mark.OpenBrace n.1 >>= λ b. all_of (next_keyword keyword.Child) child_at b >>= λ c. all_of (next_keyword keyword.Share) share_at c.1 >>= λ s. mark_at mark.CloseBrace s.1 >>= λ r. Ok (model.Join n.0 c.0 s.0, r)

-- "share" NAME ";"
unfoldable pub shown_at : Reading (List ℕ)
shown_at ws = keyword_at keyword.Share ws >>= λ s. name_at s >>= λ n. mark_at mark.Semicolon n.1 >>= λ r. Ok (n.0, r)

-- "rep" NAME "=" NAME
unfoldable pub copied_at : Reading (List ℕ × List ℕ)
copied_at ws = keyword_at keyword.Rep ws >>= λ k. name_at k >>= λ n. mark_at mark.Equals n.1 >>= λ e. name_at e >>= λ o. Ok ((n.0, o.0), o.1)

-- "times" INT
unfoldable pub times_at : Reading ℕ
times_at ws = keyword_at keyword.Times ws >>= λ t. number_at t

-- rep: "rep" NAME "=" NAME "times" INT "{" { "share" NAME ";" } "}"
unfoldable pub rep_at : Reading ModelDecl
rep_at ws = copied_at ws >>= λ n. times_at n.1 >>= λ t. mark_at mark.OpenBrace t.1 >>= λ b. all_of (next_keyword keyword.Share) shown_at b >>= λ s. mark_at mark.CloseBrace s.1 >>= λ r. Ok (model.Rep n.0.0 n.0.1 t.0 s.0, r)

-- atomic | join | rep
unfoldable pub model_at : ℕ → Reading ModelDecl
model_at version ws = cond (next_keyword keyword.Atomic ws) (atomic_at version (tail ws)) (cond (next_keyword keyword.Join ws) (join_at (tail ws)) (rep_at ws))

unfoldable pub starts_model : List Word → Bool
starts_model ws = next_keyword keyword.Atomic ws || (next_keyword keyword.Join ws || next_keyword keyword.Rep ws)

-- INT INT
unfoldable pub bounds_at : Reading (ℕ × ℕ)
bounds_at ws = number_at ws >>= λ a. number_at a.1 >>= λ b. Ok ((a.0, b.0), b.1)

-- span: "over" INT INT | "mean" INT INT | "at" INT
unfoldable pub over_at : Reading SpanDecl
over_at ws = bounds_at ws >>= λ b. Ok (span.Over b.0.0 b.0.1, b.1)

unfoldable pub mean_at : Reading SpanDecl
mean_at ws = bounds_at ws >>= λ b. Ok (span.Mean b.0.0 b.0.1, b.1)

unfoldable pub tick_at : Reading SpanDecl
tick_at ws = keyword_at keyword.At ws >>= λ a. number_at a >>= λ t. Ok (span.At t.0, t.1)

unfoldable pub span_at : Reading SpanDecl
span_at ws = cond (next_keyword keyword.Over ws) (over_at (tail ws)) (cond (next_keyword keyword.Mean ws) (mean_at (tail ws)) (tick_at ws))

-- term: "rate" expr ";" | "impulse" NAME expr ";"
unfoldable pub rate_at : ℕ → Reading TermDecl
rate_at version ws = expr version ws >>= λ e. mark_at mark.Semicolon e.1 >>= λ r. Ok (term.Rate e.0, r)

unfoldable pub impulse_at : ℕ → Reading TermDecl
impulse_at version ws = keyword_at keyword.Impulse ws >>= λ i. name_at i >>= λ n. expr version n.1 >>= λ e. mark_at mark.Semicolon e.1 >>= λ r. Ok (term.Impulse n.0 e.0, r)

unfoldable pub term_at : ℕ → Reading TermDecl
term_at version ws = cond (next_keyword keyword.Rate ws) (rate_at version (tail ws)) (impulse_at version ws)

unfoldable pub starts_term : List Word → Bool
starts_term ws = next_keyword keyword.Rate ws || next_keyword keyword.Impulse ws

-- "reward" NAME "on" NAME
unfoldable pub measured_at : Reading (List ℕ × List ℕ)
measured_at ws = keyword_at keyword.Reward ws >>= λ k. name_at k >>= λ n. keyword_at keyword.On n.1 >>= λ o. name_at o >>= λ a. Ok ((n.0, a.0), a.1)

-- reward: "reward" NAME "on" NAME span "{" { term } "}"
unfoldable pub reward_at : ℕ → Reading RewardDecl
reward_at version ws = measured_at ws >>= λ n. span_at n.1 >>= λ s. mark_at mark.OpenBrace s.1 >>= λ b. all_of starts_term (term_at version) b >>= λ t. mark_at mark.CloseBrace t.1 >>= λ r. Ok (record { name = n.0.0; atomic = n.0.1; span = s.0; terms = t.0 }, r)

-- the number of a version
unfoldable pub version_at : Reading ℕ
version_at ws = number_at ws >>= λ v. cond (nat_le FIRST_VERSION v.0 && nat_le v.0 LAST_VERSION) (Ok v) (Err (Version (length ws)))

-- "san" INT ";"
unfoldable pub head_at : Reading ℕ
head_at ws = keyword_at keyword.San ws >>= λ s. version_at s >>= λ v. mark_at mark.Semicolon v.1 >>= λ r. Ok (v.0, r)

-- "system" NAME ";", and how many words are left at the name
unfoldable pub system_at : Reading (List ℕ × ℕ)
system_at ws = keyword_at keyword.System ws >>= λ s. name_at s >>= λ n. mark_at mark.Semicolon n.1 >>= λ r. Ok ((n.0, length s), r)

-- the end
unfoldable pub ended : List Word → Result ℕ GrammarFault
ended ws = cond (nat_eq (length ws) 0) (Ok 0) (Err (Illegal (length ws)))

-- model: the syntax, and how many words are left at the system's name
unfoldable pub syntax_at : List Word → Result (Syntax × ℕ) GrammarFault
syntax_at ws = head_at ws >>= λ v. all_of starts_model (model_at v.0) v.1 >>= λ m. system_at m.1 >>= λ s. all_of (next_keyword keyword.Reward) (reward_at v.0) s.1 >>= λ r. ended r.1 >>= λ e.
    Ok (record { version = v.0; models = m.0; system = s.0.0; rewards = r.0 }, s.0.1)
