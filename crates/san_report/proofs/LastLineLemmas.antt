-- The lines that end a report.
use Rattle.std.proofs.Common.{ℕ, zero, suc, ◌+◌, ◌≤◌, ◌<◌, ◌≡◌, ◌∙◌, ap, sym, arith, subst, Bool, true, false, MatchBool, List, [], ◌∷◌, ◌++◌, length, drop, get_or, append_assoc, append-nil, Option}
use Rattle.std.proofs.lemmas.List.{drop_all}
use Rattle.san_base.specs.Flow.{Appends, AppendsPrefix}
use Rattle.san_net.specs.declared.part.Reward.{Reward}
use Rattle.san_report.specs.Lines.{reward_line, reward_lines}
use Rattle.san_reward.specs.declared.worth.Worth.{Worth}
use Rattle.san_report.specs.Pages.{Sent}

-- a reward's line comes first, and then those of the others
line_next : (xs : List Reward) (i k : ℕ) (x : Reward) (w : ℕ → Option Worth) → i < length xs → x ≡ get_or xs i x → reward_lines (drop i xs) k w ≡ reward_line x.name (w k) ++ reward_lines (drop (suc i) xs) (suc k) w
line_next [] i k x w h is = absurd (omega (arith, h))
line_next (y ∷ xs) zero k x w h is = ap (λ (z : Reward). reward_line z.name (w k) ++ reward_lines xs (suc k) w) (sym is)
line_next (y ∷ xs) (suc i) k x w h is = line_next xs i k x w (omega (arith, h)) is

pub reward_next : (xs : List Reward) (i : ℕ) (x : Reward) (w : ℕ → Option Worth) (rest : List ℕ) → i < length xs → x ≡ get_or xs i x
    → reward_lines (drop i xs) i w ++ rest ≡ reward_line x.name (w i) ++ (reward_lines (drop (i + 1) xs) (i + 1) w ++ rest)
reward_next xs i x w rest h is =
    let z : suc i ≡ i + 1 = omega arith in
    ap (λ (ys : List ℕ). ys ++ rest) (line_next xs i i x w h is ∙ ap (λ (k : ℕ). reward_line x.name (w i) ++ reward_lines (drop k xs) k w) z)
    ∙ append_assoc (reward_line x.name (w i)) (reward_lines (drop (i + 1) xs) (i + 1) w) rest

pub rewards_done : (xs : List Reward) (i : ℕ) (w : ℕ → Option Worth) (rest : List ℕ) → length xs ≤ i → reward_lines (drop i xs) i w ++ rest ≡ rest
rewards_done xs i w rest h = ap (λ (ys : List Reward). reward_lines ys i w ++ rest) (drop_all i xs h)

-- what was sent, with a reward's line before those of the others
pub sent_next : (first now : Option (List ℕ)) (page whole rest : List ℕ) (items xs : List Reward) (i : ℕ) (x : Reward) (w : ℕ → Option Worth) (v : Option Worth) → items ≡ xs → i < length items → x ≡ get_or items i x → v ≡ w i
    → Sent first now page whole (reward_lines (drop i xs) i w ++ rest) → Sent first now page whole (reward_line x.name v ++ (reward_lines (drop (i + 1) xs) (i + 1) w ++ rest))
sent_next first now page whole rest items xs i x w v are h is value sent =
    let lines : reward_lines (drop i xs) i w ++ rest ≡ reward_line x.name v ++ (reward_lines (drop (i + 1) xs) (i + 1) w ++ rest) =
    reward_next xs i x w rest (omega (arith, h, ap (λ (ys : List Reward). length ys) are)) (is ∙ ap (λ (ys : List Reward). get_or ys i x) are)
    ∙ ap (λ (u : Option Worth). reward_line x.name u ++ (reward_lines (drop (i + 1) xs) (i + 1) w ++ rest)) (sym value) in
    subst (λ (ys : List ℕ). Sent first now page whole ys) lines sent

pub sent_rewards : (first now : Option (List ℕ)) (page whole rest : List ℕ) (items xs : List Reward) (i : ℕ) (w : ℕ → Option Worth) → items ≡ xs → length items ≤ i → Sent first now page whole (reward_lines (drop i xs) i w ++ rest) → Sent first now page whole rest
sent_rewards first now page whole rest items xs i w are h sent =
    subst (λ (ys : List ℕ). Sent first now page whole ys) (rewards_done xs i w rest (omega (arith, h, ap (λ (ys : List Reward). length ys) are))) sent

-- nothing comes after the last line
pub sent_last : (first now : Option (List ℕ)) (page whole lines : List ℕ) → Sent first now page whole lines → Sent first now page whole (lines ++ [])
sent_last first now page whole lines sent = subst (λ (ys : List ℕ). Sent first now page whole ys) (sym (append-nil lines)) sent

sent_all : (first now : Option (List ℕ)) (whole : List ℕ) → Sent first now [] whole [] → Appends first now whole
sent_all first now whole (gone, put, is) = subst (Appends first now) (sym (append-nil gone) ∙ is) put

-- once all is flushed the whole text is out
pub flushed : (done : Bool) (first now : Option (List ℕ)) (whole : List ℕ) → MatchBool done (Sent first now [] whole []) (AppendsPrefix first now whole) → MatchBool done (Appends first now whole) (AppendsPrefix first now whole)
flushed true first now whole h = sent_all first now whole h
flushed false first now whole h = h
