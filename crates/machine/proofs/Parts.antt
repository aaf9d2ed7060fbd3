-- The model's step by the parts that the code computes: the grounds in three groups, the message by its place.
use Prim.Native.Nat.{ℕ, suc, ◌≤◌}
use native.Mathlib.Numerals.{add-one}
use native.Mathlib.Omega.{arith}
use native.Mathlib.Nat.{le_refl}
use mathlib.Core.Path.{◌≡◌, refl, sym, ◌∙◌, ap}
use mathlib.Core.List.{List, [], ◌∷◌, ◌++◌}
use mathlib.Core.Bool.{Bool, true, false, not, ◌&&◌, ◌||◌, true≢false}
use lib.Dec.{ltb, leb-suc-suc}
use lib.ListN.{length, get_or}
use borrow.Author.Tests.{lt-ltb}
use Rattle.model.specs.Pick.{pick, pick_true, pick_false}
use Rattle.model.specs.State.{State, node_at, no_message, goes, waits, oldest, without_oldest, in_range, view}
use Rattle.model.specs.Grounds.{Ground, ground, first}
use Rattle.model.specs.Step.{actor, reaction_to, remaining, none_waits, pair_at_end, effect, grounds, refused, accepted, step, kept}
use Rattle.model.specs.React.{react}
use Rattle.model.specs.Answers.{refusal_number, result_number, Accepted}
use Rattle.model.proofs.Answers.{ground_some}
use Rattle.model.proofs.Grounds.{first_clear, first_met, judged_clear, judged_first}
use Rattle.model.specs.declared.Input.TheVariants.{Receive}
use Rattle.model.specs.declared.Node.{Node}
use Rattle.model.specs.declared.Message.{Message}
use Rattle.model.specs.declared.Reaction.{Reaction}
use Rattle.model.specs.declared.Table.{Table}
use Rattle.std.specs.Prelude.{Err}
use Rattle.model.specs.declared.Refusal.TheVariants.{NotInRange}
use Rattle.model.specs.declared.Refusal.{Refusal}
use Rattle.model.specs.declared.Event.{Event}
use Rattle.model.specs.declared.Event.TheVariants.{Crash, Recover, Check, Timeout, Tick, Expire, Finish, Deliver, Lose}
use Rattle.node_step.specs.Grounds.{number_grounds}
use Rattle.machine.specs.Parts.{place, without, takes, sender, place_for, state_grounds, end_grounds, last_grounds, reacts_to}
use Rattle.machine.specs.Stepped.{Stepped}
use Rattle.machine.proofs.Laws.{without_none}

-- ── the message of an event by its place ──
pub waits_place : (a b : ℕ) (q : List Message) → waits a b q ≡ ltb (place a b q) (length q)
unfolding waits place
waits_place a b [] = refl
waits_place a b (m ∷ ms) = by_goes (goes a b m) refl (waits_place a b ms)
  where
    by_goes : (t : Bool) → goes a b m ≡ t → waits a b ms ≡ ltb (place a b ms) (length ms) → (goes a b m || waits a b ms) ≡ ltb (pick (goes a b m) 0 (suc (place a b ms))) (suc (length ms))
    by_goes true g r = rw (g, pick_true) (sym (lt-ltb 0 (suc (length ms)) (omega arith)))
    by_goes false g r = rw (g, pick_false) (r ∙ sym (leb-suc-suc (suc (place a b ms)) (length ms)))

pub oldest_place : (a b : ℕ) (q : List Message) → oldest a b q ≡ get_or q (place a b q) no_message
unfolding oldest place
oldest_place a b [] = refl
oldest_place a b (m ∷ ms) = by_goes (goes a b m) refl (oldest_place a b ms)
  where
    by_goes : (t : Bool) → goes a b m ≡ t → oldest a b ms ≡ get_or ms (place a b ms) no_message → pick (goes a b m) m (oldest a b ms) ≡ get_or (m ∷ ms) (pick (goes a b m) 0 (suc (place a b ms))) no_message
    by_goes true g r = rw (g, pick_true, pick_true)
    by_goes false g r = rw (g, pick_false, pick_false) r

pub without_place : (a b : ℕ) (q : List Message) → without_oldest a b q ≡ without (place a b q) q
unfolding without_oldest place
without_place a b [] = refl
without_place a b (m ∷ ms) = by_goes (goes a b m) refl (without_place a b ms)
  where
    by_goes : (t : Bool) → goes a b m ≡ t → without_oldest a b ms ≡ without (place a b ms) ms → pick (goes a b m) ms (m ∷ without_oldest a b ms) ≡ without (pick (goes a b m) 0 (suc (place a b ms))) (m ∷ ms)
    by_goes true g r = rw (g, pick_true, pick_true)
    by_goes false g r = rw (g, pick_false, pick_false, add-one (suc (place a b ms))) (ap (λ (l : List Message). m ∷ l) (rw (add-one (place a b ms)) at r))

-- the place of an event's message, where it takes one, and where it takes none
pub place_taken : (q : List Message) (e : Event) → takes e ≡ true → place_for q e ≡ place (sender e) (actor e) q
place_taken q (Crash i) t = absurd (true≢false (sym t))
place_taken q (Recover i) t = absurd (true≢false (sym t))
place_taken q (Check i) t = absurd (true≢false (sym t))
place_taken q (Timeout i) t = absurd (true≢false (sym t))
place_taken q (Tick i) t = absurd (true≢false (sym t))
place_taken q (Expire i) t = absurd (true≢false (sym t))
place_taken q (Finish i x) t = absurd (true≢false (sym t))
place_taken q (Deliver a b) t = refl
place_taken q (Lose a b) t = refl

pub place_none : (q : List Message) (e : Event) → takes e ≡ false → place_for q e ≡ length q
place_none q (Crash i) t = refl
place_none q (Recover i) t = refl
place_none q (Check i) t = refl
place_none q (Timeout i) t = refl
place_none q (Tick i) t = refl
place_none q (Expire i) t = refl
place_none q (Finish i x) t = refl
place_none q (Deliver a b) t = absurd (true≢false t)
place_none q (Lose a b) t = absurd (true≢false t)

without_all : (q : List Message) → q ≡ without (length q) q
without_all q = sym (without_none q (length q) (le_refl (length q)))

pub remaining_place : (s : State) (e : Event) → remaining s e ≡ without (place_for s.queue e) s.queue
unfolding remaining
remaining_place s (Crash i) = without_all s.queue
remaining_place s (Recover i) = without_all s.queue
remaining_place s (Check i) = without_all s.queue
remaining_place s (Timeout i) = without_all s.queue
remaining_place s (Tick i) = without_all s.queue
remaining_place s (Expire i) = without_all s.queue
remaining_place s (Finish i x) = without_all s.queue
remaining_place s (Deliver a b) = without_place a b s.queue
remaining_place s (Lose a b) = without_place a b s.queue

pub none_place : (q : List Message) (e : Event) → none_waits q e ≡ takes e && not (ltb (place_for q e) (length q))
none_place q (Crash i) = refl
none_place q (Recover i) = refl
none_place q (Check i) = refl
none_place q (Timeout i) = refl
none_place q (Tick i) = refl
none_place q (Expire i) = refl
none_place q (Finish i x) = refl
none_place q (Deliver a b) = ap not (waits_place a b q)
none_place q (Lose a b) = ap not (waits_place a b q)

-- the reaction does not depend on a message that the event does not act on
pub reaction_place : (s : State) (e : Event) (m : Message) → (takes e ≡ true → m ≡ get_or s.queue (place_for s.queue e) no_message) → reaction_to s e ≡ reacts_to s.n (node_at s (actor e)) m e
unfolding reaction_to
reaction_place s (Crash i) m h = refl
reaction_place s (Recover i) m h = refl
reaction_place s (Check i) m h = refl
reaction_place s (Timeout i) m h = refl
reaction_place s (Tick i) m h = refl
reaction_place s (Expire i) m h = refl
reaction_place s (Finish i x) m h = refl
reaction_place s (Deliver a b) m h = ap (λ (x : Message). react s.n b (node_at s b) (Receive x)) (oldest_place a b s.queue ∙ sym (h refl))
reaction_place s (Lose a b) m h = refl

-- ── what a step comes to ──

-- a refusal with the first ground's number, and the same table
refused_stepped : (t : Table) (e : Event) (g : Refusal) → refusal_number g ≡ first (grounds (view t) e) → Stepped t e (record { answer = Err g; table = t })
unfolding step
refused_stepped t e g h =
    let n : 1 ≤ first (grounds (view t) e) = omega (arith, ground_some g, h) in
    let r = judged_first refused (accepted (effect (view t) e) (reaction_to (view t) e).mark) (grounds (view t) e) n in
    record { answer = h ∙ sym (ap result_number r); table = sym (ap (kept (view t)) r); same = λ _. refl }

-- the grounds in three groups, of a table in range
module _ (t : Table) (e : Event) (ok : in_range (view t) ≡ true) (c : Node) (hc : c ≡ node_at (view t) (actor e)) (found : Bool) (hf : found ≡ ltb (place_for (view t).queue e) (length (view t).queue)) where
  grounds_are : (r : Reaction) (left : ℕ) → r ≡ reaction_to (view t) e → left ≡ length (remaining (view t) e)
      → grounds (view t) e ≡ ground 1 false ∷ (number_grounds t.n e ++ (state_grounds t.n c e found ++ (end_grounds c r left t.limits.messages ++ last_grounds t.sent r.outgoing)))
  unfolding grounds
  grounds_are r left hr hl = rw (hc, hf, hr, hl, ok, none_place (view t).queue e)

  -- those behind the state's, of the event's own reaction
  abbrev behind : List Ground
  behind = end_grounds c (reaction_to (view t) e) (length (remaining (view t) e)) t.limits.messages ++ last_grounds t.sent (reaction_to (view t) e).outgoing

  first_is : (xs : List Ground) → first (ground 1 false ∷ xs) ≡ first xs
  unfolding first
  first_is xs = pick_false 1 (first xs)

  actual : first (grounds (view t) e) ≡ first (number_grounds t.n e ++ (state_grounds t.n c e found ++ behind))
  actual = ap first (grounds_are _ _ refl refl) ∙ first_is _

  -- 7 and 8
  pub numbers_refuse : (g : Refusal) → refusal_number g ≡ first (number_grounds t.n e) → Stepped t e (record { answer = Err g; table = t })
  numbers_refuse g h = refused_stepped t e g (h ∙ sym (actual ∙ first_met (number_grounds t.n e) _ (omega (arith, ground_some g, h))))

  module _ (clear : first (number_grounds t.n e) ≡ 0) where
    past_numbers : first (grounds (view t) e) ≡ first (state_grounds t.n c e found ++ behind)
    past_numbers = actual ∙ first_clear (number_grounds t.n e) _ refl clear

    -- 9, 10, 18, 19 and 11
    pub state_refuses : (g : Refusal) → refusal_number g ≡ first (state_grounds t.n c e found) → Stepped t e (record { answer = Err g; table = t })
    state_refuses g h = refused_stepped t e g (h ∙ sym (past_numbers ∙ first_met (state_grounds t.n c e found) _ (omega (arith, ground_some g, h))))

    module _ (going : first (state_grounds t.n c e found) ≡ 0) (r : Reaction) (hr : r ≡ reaction_to (view t) e) (left : ℕ) (hl : left ≡ length (remaining (view t) e)) where
      past_state : first (grounds (view t) e) ≡ first (end_grounds c r left t.limits.messages ++ last_grounds t.sent r.outgoing)
      past_state = rw (hr, hl) (past_numbers ∙ first_clear (state_grounds t.n c e found) _ refl going)

      -- 12 to 14
      pub ends_refuse : (g : Refusal) → refusal_number g ≡ first (end_grounds c r left t.limits.messages) → Stepped t e (record { answer = Err g; table = t })
      ends_refuse g h = refused_stepped t e g (h ∙ sym (past_state ∙ first_met (end_grounds c r left t.limits.messages) _ (omega (arith, ground_some g, h))))

      module _ (ends : first (end_grounds c r left t.limits.messages) ≡ 0) where
        past_ends : first (grounds (view t) e) ≡ first (last_grounds t.sent r.outgoing)
        past_ends = past_state ∙ first_clear (end_grounds c r left t.limits.messages) _ refl ends

        -- 17
        pub last_refuses : (g : Refusal) → refusal_number g ≡ first (last_grounds t.sent r.outgoing) → Stepped t e (record { answer = Err g; table = t })
        last_refuses g h = refused_stepped t e g (h ∙ sym past_ends)

        -- none
        pub step_accepts : pair_at_end t.sent r.outgoing ≡ false → step (view t) e ≡ accepted (effect (view t) e) (reaction_to (view t) e).mark
        unfolding step grounds first
        step_accepts p =
            judged_clear refused (accepted (effect (view t) e) (reaction_to (view t) e).mark) (grounds (view t) e) refl
            (past_ends ∙ rw (p, pick_false))

        pub all_clear : pair_at_end t.sent r.outgoing ≡ false → (u : Table) → view u ≡ effect (view t) e → Stepped t e (record { answer = Accepted; table = u })
        all_clear p u v =
            let k = step_accepts p in
            record { answer = sym (ap result_number k); table = v ∙ sym (ap (kept (view t)) k); same = λ n. absurd (n refl) }

-- a table that is not in range
pub range_refuses : (t : Table) (e : Event) → in_range (view t) ≡ false → Stepped t e (record { answer = Err NotInRange; table = t })
unfolding grounds first
range_refuses t e h = refused_stepped t e NotInRange (sym (rw (h, pick_true)))
