-- Into each state but the first leads one transition, from the state whose list is without the last event.
use Prim.Native.Nat.{ℕ, zero, suc, ◌+◌, ◌-◌, ◌≤◌, ◌<◌}
use native.Mathlib.Omega.{arith}
use mathlib.Core.Bool.{Bool, true, false}
use mathlib.Core.Path.{◌≡◌, refl, sym, ◌∙◌, ap, subst}
use mathlib.Core.Logic.{inl, inr}
use mathlib.Core.List.{List, [], ◌∷◌, ◌++◌}
use lib.Dec.{eqb, ltb}
use lib.ListN.{length, take, drop, get_or, length-append, length-drop}
use lib.Seq.{take-length, take-suc, take_at, get_or_at, get_or-drop}
use borrow.Author.Tests.{ltb-true, ltb-false, eqb-true, eqb-false}
use Rattle.model.specs.State.{State}
use Rattle.model.specs.Step.{step, after, run_from}
use Rattle.model.specs.Claims.{Accepts}
use Rattle.model.specs.declared.Event.{Event}
use Rattle.model.specs.declared.Event.TheVariants.{Crash}
use Rattle.model.proofs.Whole.{run_append}
use Rattle.short_lists_text.specs.Rows.{All}
use Rattle.short_lists_text.specs.Lists.{is_accepted, AcceptedFrom, TaskFits, Legal}
use Rattle.short_lists_text.proofs.Rows.{all_append}
use Rattle.short_lists_text.proofs.Legal.{accepts_at}
use Rattle.aldebaran_text.specs.System.{states, number_in, Transition, without_last, last_of, transition_into, transitions}
use Rattle.aldebaran_text.specs.Claims.{StateBefore, list_of, transition_at, IsTransition, HasTransition, EveryTransition}
use Rattle.aldebaran_text.proofs.Numbers.{at_place, ascending_at, number_of, numbered_long, numbered_at}
use Rattle.aldebaran_text.proofs.States.{never_itself, all_states}

-- ── a list and its last event ──

-- a list that is not empty is the one without its last event, and that event
pub parted : (l : List Event) → 1 ≤ length l → l ≡ without_last l ++ (last_of l ∷ [])
parted l h = let z : length l ≡ suc (length l - 1) = omega arith in sym (take-length l) ∙ (ap (λ k. take k l) z ∙ take-suc l (length l - 1) (Crash 0) (omega arith))

last_place : (l : List Event) (e : Event) → length (l ++ (e ∷ [])) - 1 ≡ length l
last_place l e = omega (arith, length-append l (e ∷ []))

pub without_last_lem : (l : List Event) (e : Event) → without_last (l ++ (e ∷ [])) ≡ l
without_last_lem l e = take_at l (e ∷ []) _ (sym (last_place l e))

pub last_of_lem : (l : List Event) (e : Event) → last_of (l ++ (e ∷ [])) ≡ e
last_of_lem l e = get_or_at l e [] _ _ (sym (last_place l e))

-- ── an accepted list and one event more ──

all_left : (P : Event → Type 0) (l r : List Event) → All P (l ++ r) → All P l
all_left P [] r a = tt
all_left P (e ∷ l) r a = (a.0, all_left P l r a.1)

accepted_left : (s : State) (l r : List Event) → AcceptedFrom s (l ++ r) → AcceptedFrom s l
accepted_left s [] r a = tt
accepted_left s (e ∷ l) r a = (a.0, accepted_left (after s e) l r a.1)

accepted_more : (s : State) (l : List Event) (e : Event) → AcceptedFrom s l → is_accepted (step (run_from s l) e) ≡ true → AcceptedFrom s (l ++ (e ∷ []))
unfolding run_from
accepted_more s [] e a q = (q, tt)
accepted_more s (d ∷ l) e a q = (a.0, accepted_more (after s d) l e a.1 q)

legal_less : (k : ℕ) (s : State) (l : List Event) (e : Event) → Legal k s (l ++ (e ∷ [])) → Legal (length l) s l
legal_less k s l e x = record { long = refl; tasks = all_left TaskFits l (e ∷ []) x.tasks; taken = accepted_left s l (e ∷ []) x.taken }

legal_more : (s : State) (l : List Event) (e : Event) → Legal (length l) s l → TaskFits e → Accepts (run_from s l) e → Legal (suc (length l)) s (l ++ (e ∷ []))
legal_more s l e x t a = record {
  long = omega (arith, length-append l (e ∷ []));
  tasks = all_append TaskFits l (e ∷ []) x.tasks (t, tt);
  taken = accepted_more s l e x.taken (ap is_accepted a.is);
}

-- the state after one event more
pub run_one : (s : State) (l : List Event) (e : Event) → run_from s (l ++ (e ∷ [])) ≡ after (run_from s l) e
unfolding run_from
run_one s l e = run_append s l (e ∷ [])

-- ── transitions by their places ──

pub transitions_long : (ls : List (List Event)) → length (transitions ls) ≡ length ls - 1
unfolding transitions
transitions_long ls = numbered_long (transition_into ls) 1 (drop 1 ls) ∙ length-drop 1 ls

pub transitions_at : (ls : List (List Event)) (k : ℕ) (d : Transition) → k + 1 < length ls → get_or (transitions ls) k d ≡ transition_into ls (k + 1) (get_or ls (k + 1) [])
unfolding transitions
transitions_at ls k d h =
    let z : 1 + k ≡ k + 1 = omega arith in
    numbered_at (transition_into ls) 1 (drop 1 ls) k d [] (omega (arith, h, length-drop 1 ls)) ∙ (ap (λ m. transition_into ls (1 + k) m) (get_or-drop 1 ls k []) ∙ ap (λ b. transition_into ls b (get_or ls b [])) z)

-- ── of the states ──

module _ (m : ℕ) (s : State) where
  abbrev all : List (List Event)
  all = states m s

  -- each state but the first has a list with an event
  not_empty : (b : ℕ) → 1 ≤ b → b < length all → 1 ≤ length (list_of m s b)
  not_empty b h k = by (ascending_at StateBefore [] all 0 b (all_states m s).ascending (omega arith) k)
    where
      by : StateBefore (list_of m s 0) (list_of m s b) → 1 ≤ length (list_of m s b)
      by (inl x) = omega arith
      by (inr x) = let q = x.0 in some (list_of m s b) (subst (λ l. StateBefore l (list_of m s b)) (all_states m s).first (inr x))
        where
          some : (l : List Event) → StateBefore [] l → 1 ≤ length l
          some [] y = absurd (never_itself [] y)
          some (e ∷ l) y = omega arith

  -- the state of b's list without its last event is before b
  earlier : (a b : ℕ) → a < length all → b < length all → length (list_of m s a) < length (list_of m s b) → a < b
  earlier a b h k q = by (ltb a b) refl
    where
      by : (t : Bool) → ltb a b ≡ t → a < b
      by true z = ltb-true a b z
      by false z = let y = ltb-false a b z in absurd (back (eqb a b) refl (omega arith))
        where
          back : (t : Bool) → eqb a b ≡ t → b ≤ a → ⊥
          back true w r = let v = eqb-true a b w in let u = ap (λ c. length (list_of m s c)) v in omega arith
          back false w r = let v = eqb-false a b w in turn (ascending_at StateBefore [] all b a (all_states m s).ascending (omega arith) h)
            where
              turn : StateBefore (list_of m s b) (list_of m s a) → ⊥
              turn (inl x) = omega arith
              turn (inr x) = let u = x.0 in omega arith

  module _ (b : ℕ) (some : 1 ≤ b) (within : b < length all) where
    abbrev here : List Event
    here = list_of m s b

    is_parted : here ≡ without_last here ++ (last_of here ∷ [])
    is_parted = parted here (not_empty b some within)

    is_legal : Legal (length here) s here
    is_legal = ((all_states m s).only here (at_place [] all b within)).0

    prefix : Legal (length (without_last here)) s (without_last here)
    prefix = legal_less (length here) s (without_last here) (last_of here) (subst (Legal (length here) s) is_parted is_legal)

    prefix_long : length (without_last here) + 1 ≡ length here
    prefix_long = sym (ap length is_parted ∙ length-append (without_last here) (last_of here ∷ []))

    found : (number_in all (without_last here) < length all) × (list_of m s (number_in all (without_last here)) ≡ without_last here)
    found =
        let h = ((all_states m s).only here (at_place [] all b within)).1 in
        number_of all (without_last here) ((all_states m s).complete (length (without_last here)) (without_last here) (omega (arith, h, prefix_long)) prefix)

    one_more : here ≡ list_of m s (number_in all (without_last here)) ++ (last_of here ∷ [])
    one_more = is_parted ∙ ap (λ l. l ++ (last_of here ∷ [])) (sym found.1)

    pub into_state : IsTransition m s b (transition_into all b here)
    into_state = record {
      target = refl;
      smaller = earlier (number_in all (without_last here)) b found.0 within (let e = ap length found.1 in omega (arith, e, prefix_long));
      one_more = one_more;
      shorter = found.1;
      last = refl;
      accepts = accepts_at s (list_of m s (number_in all (without_last here))) (last_of here) [] (subst (AcceptedFrom s) one_more is_legal.taken);
      table_after = sym (ap (run_from s) one_more ∙ run_one s (list_of m s (number_in all (without_last here))) (last_of here));
    }

  -- ── and by their places ──

  long : length (transitions all) + 1 ≡ length all
  long = let h = (all_states m s).some in omega (arith, transitions_long all)

  is_at : (k : ℕ) → k < length (transitions all) → transition_at m s k ≡ transition_into all (k + 1) (list_of m s (k + 1))
  is_at k h = transitions_at all k _ (omega (arith, h, long))

  each : (k : ℕ) → k < length (transitions all) → IsTransition m s (k + 1) (transition_at m s k)
  each k h = subst (IsTransition m s (k + 1)) (sym (is_at k h)) (into_state (k + 1) (omega arith) (omega (arith, h, long)))

  -- the state b + 1 whose list is a's with e behind it
  from_place : (a b : ℕ) (e : Event) → a < length all → b + 1 < length all → list_of m s (b + 1) ≡ list_of m s a ++ (e ∷ []) → HasTransition m s a e
  from_place a b e h k q =
      let t : b < length (transitions all) = omega (arith, k, long) in
      record {
        place = b;
        within = t;
        source =
            ap (λ (x : Transition). x.source) (is_at b t)
            ∙ (ap (λ l. number_in all (without_last l)) q ∙ (ap (number_in all) (without_last_lem (list_of m s a) e) ∙ (all_states m s).number a h));
        event = ap (λ (x : Transition). x.event) (is_at b t) ∙ (ap last_of q ∙ last_of_lem (list_of m s a) e);
      }

  complete : (a : ℕ) (e : Event) → a < length all → length (list_of m s a) < m → TaskFits e → Accepts (run_from s (list_of m s a)) e → HasTransition m s a e
  complete a e h k t x =
      let l = list_of m s a ++ (e ∷ []) in
      let g = legal_more s (list_of m s a) e ((all_states m s).only (list_of m s a) (at_place [] all a h)).0 t x in
      let r = number_of all l ((all_states m s).complete (suc (length (list_of m s a))) l (omega arith) g) in
      by (number_in all l) r.0 r.1
    where
      by : (b : ℕ) → b < length all → list_of m s b ≡ list_of m s a ++ (e ∷ []) → HasTransition m s a e
      by zero j q = absurd (let z = ap length (sym q ∙ (all_states m s).first) in omega (arith, z, length-append (list_of m s a) (e ∷ [])))
      by (suc b) j q = let z : suc b ≡ b + 1 = omega arith in from_place a b e h (omega arith) (subst (λ c. list_of m s c ≡ list_of m s a ++ (e ∷ [])) z q)

  same_place : (j k : ℕ) → j < length all → k < length all → list_of m s j ≡ list_of m s k → j ≡ k
  same_place j k g h q = sym ((all_states m s).number j g) ∙ (ap (number_in all) q ∙ (all_states m s).number k h)

  once : (j k : ℕ) → j < length (transitions all) → k < length (transitions all) → (transition_at m s j).source ≡ (transition_at m s k).source → (transition_at m s j).event ≡ (transition_at m s k).event → j ≡ k
  once j k g h p q =
      let e : list_of m s (j + 1) ≡ list_of m s (k + 1) =
      (each j g).one_more ∙ (ap (λ a. list_of m s a ++ ((transition_at m s j).event ∷ [])) p ∙ (ap (λ x. list_of m s (transition_at m s k).source ++ (x ∷ [])) q ∙ sym (each k h).one_more))
      in
      let z = same_place (j + 1) (k + 1) (omega (arith, g, long)) (omega (arith, h, long)) e in
      omega arith

pub all_transitions : EveryTransition
all_transitions m s = record { count = long m s; each = each m s; complete = complete m s; once = once m s }
