-- A report that goes out page by page.
use Rattle.std.proofs.Common.{ℕ, ◌≡◌, ◌∙◌, ap, sym, List, [], ◌++◌, Bool, true, false, MatchBool, Option, Some, append_assoc, subst}
use Rattle.san_base.specs.Flow.{Appends, AppendsPrefix}
use Rattle.san_base.proofs.FlowLemmas.{appends_both}
use Rattle.san_report.specs.Puts.{Wrote}
use Rattle.san_report.specs.Pages.{Sent}

-- the page went into the sink whole
pub sent_page : (a b c : Option (List ℕ)) (page whole rest : List ℕ) → Sent a b page whole rest → Appends b c page → Sent a c [] whole rest
sent_page a b c page whole rest p q = (p.0 ++ page, appends_both a b c p.0 page p.1 q, append_assoc p.0 page rest ∙ p.2)

-- it went into the sink in part
pub sent_cut : (a b c : Option (List ℕ)) (page whole rest : List ℕ) → Sent a b page whole rest → AppendsPrefix b c page → AppendsPrefix a c whole
sent_cut a b c page whole rest p q = (
  p.0 ++ q.0,
  q.1 ++ rest,
  append_assoc p.0 q.0 (q.1 ++ rest) ∙ (ap (λ (xs : List ℕ). p.0 ++ xs) (sym (append_assoc q.0 q.1 rest) ∙ ap (λ (xs : List ℕ). xs ++ rest) q.2) ∙ p.2),
  appends_both a b c p.0 q.0 p.1 q.3,
)

-- a piece of the rest was written on the page
pub sent_written : (a b : Option (List ℕ)) (page piece whole rest : List ℕ) → Sent a b page whole (piece ++ rest) → Sent a b (page ++ piece) whole rest
sent_written a b page piece whole rest p = (p.0, p.1, ap (λ (xs : List ℕ). p.0 ++ xs) (append_assoc page piece rest) ∙ p.2)

-- with nothing on the page, a piece of the rest went into the sink
pub sent_straight : (a b c : Option (List ℕ)) (piece whole rest : List ℕ) → Sent a b [] whole (piece ++ rest) → Appends b c piece → Sent a c [] whole rest
sent_straight a b c piece whole rest p q = (p.0 ++ piece, appends_both a b c p.0 piece p.1 q, append_assoc p.0 piece rest ∙ p.2)

-- or a part of it did
pub sent_straight_cut : (a b c : Option (List ℕ)) (piece whole rest : List ℕ) → Sent a b [] whole (piece ++ rest) → AppendsPrefix b c piece → AppendsPrefix a c whole
sent_straight_cut a b c piece whole rest p q = sent_cut a b c piece whole rest (p.0, p.1, p.2) q

-- what a page held nothing of, and now holds, is the line
pub line_kept : (a b text : List ℕ) (f g : ℕ) → a ≡ [] → Wrote true (Some a) (Some b) f g text → b ≡ text
line_kept a b text f g none p =
    let whole : Some b ≡ Some (a ++ text) = p.bytes_put in
    let same : b ≡ a ++ text = cc in
    same ∙ ap (λ (z : List ℕ). z ++ text) none

-- all that was kept back went into the sink, or a part of it did
pub flushed : (done : Bool) (a b c : Option (List ℕ)) (bytes page whole rest : List ℕ) → bytes ≡ page → MatchBool done (Appends b c bytes) (AppendsPrefix b c bytes) → Sent a b page whole rest
    → MatchBool done (Sent a c [] whole rest) (AppendsPrefix a c whole)
flushed true a b c bytes page whole rest is q p = sent_page a b c page whole rest p (subst (Appends b c) is q)
flushed false a b c bytes page whole rest is q p = sent_cut a b c page whole rest p (subst (AppendsPrefix b c) is q)

-- with an empty page a line went straight into the sink, or a part of it did
pub straight : (done : Bool) (a b c : Option (List ℕ)) (old new line whole rest : List ℕ) → old ≡ [] → new ≡ old → MatchBool done (Appends b c line) (AppendsPrefix b c line) → Sent a b old whole (line ++ rest)
    → MatchBool done (Sent a c new whole rest) (AppendsPrefix a c whole)
straight true a b c old new line whole rest none same q p =
    subst (λ (page : List ℕ). Sent a c page whole rest) (sym (same ∙ none)) (sent_straight a b c line whole rest (subst (λ (page : List ℕ). Sent a b page whole (line ++ rest)) none p) q)
straight false a b c old new line whole rest none same q p = sent_straight_cut a b c line whole rest (subst (λ (page : List ℕ). Sent a b page whole (line ++ rest)) none p) q
