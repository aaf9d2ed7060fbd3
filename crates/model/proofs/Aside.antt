-- With its counts set aside a table does the same: where no count of what was sent is at its end, the counts decide nothing.
use Prim.Native.Nat.{ℕ, zero, suc, ◌+◌, ◌-◌, ◌≤◌, ◌<◌}
use native.Mathlib.Omega.{arith}
use mathlib.Core.Bool.{Bool, true, false, not}
use mathlib.Core.Path.{◌≡◌, refl, sym, ◌∙◌, ap}
use mathlib.Core.List.{List, [], ◌∷◌, ◌++◌}
use lib.ListN.{length, get_or, set, replicate}
use borrow.Author.Tests.{ne_eqb}
use Rattle.model.specs.Range.{PairRule, pair_rule, is_within_tower}
use Rattle.model.specs.Pick.{pick, pick_false}
use Rattle.model.specs.Limits.{traffic_end}
use Rattle.model.specs.Counts.{pair_place, no_counts}
use Rattle.model.specs.State.{in_range, State, start, counts_of, all_waiting_by, counts_aside, base_in_range, traffic_in_range}
use Rattle.model.specs.Grounds.{Ground, ground, judged}
use Rattle.model.specs.Step.{step, grounds, run_from, actor, reaction_to, remaining, sent, with_sent, effect, pair_at_end, Result, refused, accepted, kept, changed, aside, after, run}
use Rattle.model.specs.History.{history_from, History, noted}
use Rattle.model.specs.Claims.{BelowEnd, CountsDecideNothing}
use Rattle.model.proofs.Judged.{by_step}
use Rattle.model.proofs.Local.{both_left, both_right}
use Rattle.model.proofs.Fields.{in_range_pair, in_range_size}
use Rattle.model.proofs.InRange.{run_in}
use Rattle.model.proofs.Waiting.{waiting_in}
use Rattle.model.specs.declared.Limits.{Limits}
use Rattle.model.specs.declared.Node.{Node}
use Rattle.model.specs.declared.Message.{Message}
use Rattle.std.specs.Prelude.{Option, None, Some}
use Rattle.model.specs.declared.Mark.{Mark}
use Rattle.model.specs.declared.Event.{Event}
use Rattle.model.specs.declared.Event.TheVariants.{Crash, Recover, Check, Timeout, Tick, Expire, Finish, Deliver, Lose}

-- ── counts below the end ──

set_bounded : (l : List ℕ) (p k x m : ℕ) → get_or l k 0 ≤ m → x ≤ m → get_or (set l p x) k 0 ≤ m
set_bounded [] p k x m h i = h
set_bounded (y ∷ l) zero zero x m h i = i
set_bounded (y ∷ l) zero (suc k) x m h i = h
set_bounded (y ∷ l) (suc p) zero x m h i = h
set_bounded (y ∷ l) (suc p) (suc k) x m h i = set_bounded l p k x m h i

none_bounded : (j k : ℕ) → get_or (replicate j 0) k 0 ≤ 0
none_bounded zero k = omega arith
none_bounded (suc j) zero = omega arith
none_bounded (suc j) (suc k) = none_bounded j k

-- no count of a queue is above its length
counts_bounded : (q : List Message) (k : ℕ) → get_or (counts_of q) k 0 ≤ length q
unfolding counts_of
counts_bounded [] k = none_bounded 256 k
counts_bounded (m ∷ ms) k = set_bounded (counts_of ms) _ k _ _ (omega (arith, counts_bounded ms k)) (omega (arith, counts_bounded ms (pair_place m.sender m.receiver)))

-- there is room for j more of each
abbrev pub Room : ℕ → List ℕ → Type 0
Room j l = (k : ℕ) → get_or l k 0 + j < traffic_end

sent_room : (j : ℕ) (l : List ℕ) (o : Option Message) → Room (suc j) l → Room j (with_sent l o)
sent_room j l None h k = omega (arith, h k)
sent_room j l (Some m) h k =
    let p = pair_place m.sender m.receiver in
    let b = set_bounded l p k (get_or l p 0 + 1) (traffic_end - suc j) (omega (arith, h k)) (omega (arith, h p)) in
    omega (arith, b, h k)

pub below : (l : List ℕ) (o : Option Message) → BelowEnd l → pair_at_end l o ≡ false
below l None h = refl
below l (Some m) h = let p = pair_place m.sender m.receiver in ne_eqb (get_or l p 0) traffic_end (λ q. omega (arith, q, h p))

-- ── the step by the grounds between the first, 1, and the last, 17 ──
abbrev pub later : List Ground → List Ground
later [] = []
later (g ∷ gs) = gs

abbrev sooner : List Ground → List Ground
sooner [] = []
sooner (g ∷ []) = []
sooner (g ∷ h ∷ gs) = g ∷ sooner (h ∷ gs)

abbrev pub between : State → Event → List Ground
between s e = sooner (later (grounds s e))

-- the result with the counts aside
abbrev pub result_aside : State → Event → Result
result_aside s e =
    judged refused
    (accepted (all_waiting_by s.rule s.n s.limits (set s.nodes (actor e - 1) (reaction_to s e).node) (remaining s e ++ sent (reaction_to s e).outgoing)) (reaction_to s e).mark)
    (between s e)

changed_pick : (f : State → State) (t : Bool) (r : ℕ) (x : Result) → changed f (pick t (refused r) x) ≡ pick t (refused r) (changed f x)
unfolding pick
changed_pick f true r x = refl
changed_pick f false r x = refl

-- what is judged does not depend on what would be left
pub changed_judged : (f : State → State) (u : State) (k : Mark) (gs : List Ground) → changed f (judged refused (accepted u k) gs) ≡ judged refused (accepted (f u) k) gs
unfolding judged
changed_judged f u k [] = refl
changed_judged f u k (g ∷ gs) = changed_pick f g.applies g.number (judged refused (accepted u k) gs) ∙ ap (pick g.applies (refused g.number)) (changed_judged f u k gs)

judged_last : (x : Result) (r : ℕ) (gs : List Ground) → judged refused x (gs ++ (ground r false ∷ [])) ≡ judged refused x gs
unfolding judged
judged_last x r [] = pick_false _ _
judged_last x r (g ∷ gs) = ap (pick g.applies (refused g.number)) (judged_last x r gs)

pub by_between : (s : State) (e : Event) → in_range s ≡ true → BelowEnd s.sent → step s e ≡ judged refused (accepted (effect s e) (reaction_to s e).mark) (between s e)
unfolding step grounds judged
by_between s e r b =
    let x = accepted (effect s e) (reaction_to s e).mark in
    ap (λ (t : Bool). judged refused x (ground 1 (not t) ∷ (between s e ++ (ground 17 (pair_at_end s.sent (reaction_to s e).outgoing) ∷ [])))) r
    ∙ pick_false _ _
    ∙ ap (λ (t : Bool). judged refused x (between s e ++ (ground 17 t ∷ []))) (below s.sent (reaction_to s e).outgoing b)
    ∙ judged_last x 17 (between s e)

pub result_aside_lem : (s : State) (e : Event) → in_range s ≡ true → BelowEnd s.sent → aside (step s e) ≡ result_aside s e
unfolding effect
result_aside_lem s e r b = ap aside (by_between s e r b) ∙ changed_judged counts_aside (effect s e) (reaction_to s e).mark (between s e)

same_aside : (s : State) (e : Event) → result_aside s e ≡ result_aside (counts_aside s) e
unfolding reaction_to remaining grounds
same_aside s (Crash i) = refl
same_aside s (Recover i) = refl
same_aside s (Check i) = refl
same_aside s (Timeout i) = refl
same_aside s (Tick i) = refl
same_aside s (Expire i) = refl
same_aside s (Finish i t) = refl
same_aside s (Deliver a b) = refl
same_aside s (Lose a b) = refl

-- ── a table in which all that was sent still waits ──
module _ (rule : PairRule) (n : ℕ) (lim : Limits) (cs : List Node) (q : List Message) (p : pair_rule rule lim ≡ true) (w : is_within_tower lim ≡ true) (r : base_in_range lim n cs q ≡ true) where
  pub waiting_small : (k : ℕ) → get_or (counts_of q) k 0 ≤ 64
  waiting_small k = omega (arith, counts_bounded q k, (in_range_size (all_waiting_by rule n lim cs q) (waiting_in rule n lim cs q p w r)).3)

  pub waiting_below : BelowEnd (counts_of q)
  waiting_below k = omega (arith, waiting_small k)

  pub waiting_aside : (e : Event) → aside (step (all_waiting_by rule n lim cs q) e) ≡ result_aside (all_waiting_by rule n lim cs q) e
  waiting_aside e = result_aside_lem (all_waiting_by rule n lim cs q) e (waiting_in rule n lim cs q p w r) waiting_below

pub in_range_base : (s : State) → in_range s ≡ true → (is_within_tower s.limits ≡ true) × (base_in_range s.limits s.n s.nodes s.queue ≡ true)
unfolding in_range
in_range_base s r =
    let x = both_right (pair_rule s.rule s.limits) _ r in
    (both_left (is_within_tower s.limits) _ x, both_left _ (traffic_in_range s) (both_right (is_within_tower s.limits) _ x))

pub aside_result : (s : State) (e : Event) → in_range s ≡ true → BelowEnd s.sent → aside (step s e) ≡ result_aside (counts_aside s) e
aside_result s e r b = result_aside_lem s e r b ∙ same_aside s e

pub counts_decide_nothing : CountsDecideNothing
counts_decide_nothing s e r b = aside_result s e r b ∙ sym (waiting_aside s.rule s.n s.limits s.nodes s.queue (in_range_pair s r) (in_range_base s r).0 (in_range_base s r).1 e)

-- ── runs ──

-- the tables of a run, with the counts of each set aside
abbrev pub quick : State → List Event → State
quick s [] = s
quick s (e ∷ es) = quick (kept s (result_aside s e)) es

pub changed_kept : (f : State → State) (s : State) (x : Result) → f (kept s x) ≡ kept (f s) (changed f x)
changed_kept f s (refused r) = refl
changed_kept f s (accepted u k) = refl

pub aside_kept : (s : State) (x : Result) → counts_aside (kept s x) ≡ kept (counts_aside s) (aside x)
aside_kept s x = changed_kept counts_aside s x

-- after an event there is room for one fewer
pub room_after : (j : ℕ) (s : State) (e : Event) → Room (suc j) s.sent → Room j (after s e).sent
unfolding effect
room_after j s e h =
    by_step (λ x. Room j (kept s x).sent) s e (λ _ k. omega (arith, h k)) (λ _ _. sent_room j s.sent (reaction_to s e).outgoing h)

pub room_below : (j : ℕ) (l : List ℕ) → Room j l → BelowEnd l
room_below j l h k = omega (arith, h k)

pub run_aside : (s : State) (es : List Event) → in_range s ≡ true → Room (length es) s.sent → counts_aside (run_from s es) ≡ quick (counts_aside s) es
unfolding run_from
run_aside s [] r h = refl
run_aside s (e ∷ es) r h =
    run_aside (after s e) es (run_in s (e ∷ []) r) (room_after (length es) s e (λ k. omega (arith, h k)))
    ∙ ap (λ (u : State). quick u es) (aside_kept s (step s e) ∙ ap (kept (counts_aside s)) (aside_result s e r (room_below _ s.sent h)))

pub quick_append : (s : State) (es fs : List Event) → quick s (es ++ fs) ≡ quick (quick s es) fs
quick_append s [] fs = refl
quick_append s (e ∷ es) fs = quick_append (kept s (result_aside s e)) es fs

-- the same with the counts
abbrev pub counting : State → List Event → State
counting s [] = s
counting s (e ∷ es) = counting (kept s (judged refused (accepted (effect s e) (reaction_to s e).mark) (between s e))) es

pub run_counting : (s : State) (es : List Event) → in_range s ≡ true → Room (length es) s.sent → run_from s es ≡ counting s es
unfolding run_from
run_counting s [] r h = refl
run_counting s (e ∷ es) r h =
    run_counting (after s e) es (run_in s (e ∷ []) r) (room_after (length es) s e (λ k. omega (arith, h k)))
    ∙ ap (λ (x : Result). counting (kept s x) es) (by_between s e r (room_below _ s.sent h))

abbrev pub quick_history : State → History → List Event → History
quick_history s h [] = h
quick_history s h (e ∷ es) = quick_history (kept s (result_aside s e)) (noted h e (result_aside s e)) es

pub changed_noted : (f : State → State) (h : History) (e : Event) (x : Result) → noted h e x ≡ noted h e (changed f x)
changed_noted f h e (refused r) = refl
changed_noted f h e (accepted u k) = refl

pub history_aside : (s : State) (h : History) (es : List Event) → in_range s ≡ true → Room (length es) s.sent → history_from s h es ≡ quick_history (counts_aside s) h es
unfolding history_from run_from
history_aside s h [] r k = refl
history_aside s h (e ∷ es) r k =
    let t = aside_result s e r (room_below _ s.sent k) in
    history_aside (after s e) (noted h e (step s e)) es (run_in s (e ∷ []) r) (room_after (length es) s e (λ j. omega (arith, k j)))
    ∙ ap (λ (u : State). quick_history u (noted h e (step s e)) es) (aside_kept s (step s e) ∙ ap (kept (counts_aside s)) t)
    ∙ ap (λ (g : History). quick_history (kept (counts_aside s) (result_aside (counts_aside s) e)) g es) (changed_noted counts_aside h e (step s e) ∙ ap (noted h e) t)

-- from the starting table
pub start_room : (j : ℕ) → j < traffic_end → Room j no_counts
start_room j h k = omega (arith, h, none_bounded 256 k)

pub room_run : (j : ℕ) (s : State) (es : List Event) → Room (length es + j) s.sent → Room j (run_from s es).sent
unfolding run_from
room_run j s [] h k = omega (arith, h k)
room_run j s (e ∷ es) h k = room_run j (after s e) es (room_after (length es + j) s e (λ i. omega (arith, h i))) k

-- a run of fewer events leaves every count below its end
pub run_below : (n : ℕ) (lim : Limits) (es : List Event) → length es < traffic_end → BelowEnd (run n lim es).sent
run_below n lim es h = room_below 0 (run n lim es).sent (room_run 0 (start n lim) es (start_room (length es + 0) (omega arith)))
