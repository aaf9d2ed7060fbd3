-- The promise of `nevraspu_turn` by its cases: too little room, a refusal, and a turn that is accepted; and the claims `TurnClaims`.
use Rattle.std.specs.Prelude.{Some, Ok}
use Prim.Native.Nat.{ℕ, ◌+◌, ◌≤◌, ◌<◌}
use native.Mathlib.Omega.{arith}
use mathlib.Core.Bool.{Bool, true, false}
use mathlib.Core.Logic.{◌⊎◌, inl, inr, ⊎_elim}
use mathlib.Core.Path.{◌≡◌, refl, sym, ◌∙◌, ap, subst}
use mathlib.Core.List.{List, [], ◌∷◌, ◌++◌, append_assoc}
use lib.ListN.{length, take, drop, set, get_or, length-append, length-drop}
use lib.Seq.{drop-drop, drop-set-add, take_at, get_or-append-add}
use Rattle.model.specs.State.{State, in_range, view}
use Rattle.model.specs.Step.{run_from}
use Rattle.model.specs.Answers.{answer_number, result_number}
use Rattle.model.proofs.InRange.{run_in}
use Rattle.model.specs.declared.Event.{Event}
use Rattle.event_list.specs.Format.{next_at}
use Rattle.number_bytes.specs.Bytes.{written}
use Rattle.number_bytes.proofs.Lent.{short_in, long_in, only_short_in, accepts_in, keeps_in, gives_in, behind_in}
use Rattle.table_bytes.specs.Bytes.{decoded, size}
use Rattle.round.specs.Order.{pair}
use Rattle.round.specs.Turn.{Turn, turn_refused, turn_accepted, turn_at, turn_number, table_after, place_after, done_in, done_number, event_of}
use Rattle.round.specs.declared.Place.{Place}
use Rattle.round.specs.declared.Done.{Done}
use Rattle.round.specs.declared.TurnOutcome.{TurnOutcome}
use Rattle.round.proofs.Turns.{turn_rules, event_accepted}
use Rattle.round.proofs.Schedules.{turn_event}
use Rattle.driver.specs.Turned.{Turned}
use Rattle.exports.specs.Boundary.{state_of, state_bytes, field_number, field_after, step_number, step_bytes}
use Rattle.exports.specs.TurnBoundary.{turn_size, turn_on, behind_table, turn_given, turn_answer, turn_bytes, TurnExported}
use Rattle.exports.specs.Parts.{Answered}
use Rattle.exports.specs.Claims.{TurnClaims}
use Rattle.exports.proofs.Claims.{state_long}
use Rattle.exports.proofs.Claims as step_claims

-- the numbers of a turn
turn_number_lem : (x : Turn) → ((r : ℕ) → x ≡ turn_refused r → (r ≡ 1) ⊎ (r ≡ 7)) → (turn_number x ≡ 0) ⊎ ((turn_number x ≡ 1) ⊎ (turn_number x ≡ 7))
turn_number_lem (turn_refused r) f = inr (f r refl)
turn_number_lem (turn_accepted u q d) f = inl refl

numbers : (t : List ℕ) (a b : ℕ) → (turn_number (turn_on t a b) ≡ 0) ⊎ ((turn_number (turn_on t a b) ≡ 1) ⊎ (turn_number (turn_on t a b) ≡ 7))
numbers t a b = turn_number_lem (turn_on t a b) (turn_rules.numbers (state_of t) (pair a b))

-- a turn that is accepted is on a table in range, and leaves one
in_range_lem : (s : State) (p : Place) → turn_number (turn_at s p) ≡ 0 → in_range s ≡ true
in_range_lem s p z = by (in_range s) refl
  where
    by : (r : Bool) → in_range s ≡ r → in_range s ≡ true
    by true e = e
    by false e = absurd (omega (arith, z, ap turn_number (turn_rules.not_in_range s p e)))

after_in_range : (s : State) (p : Place) → turn_number (turn_at s p) ≡ 0 → in_range (table_after s (turn_at s p)) ≡ true
after_in_range s p z = ap in_range (turn_event s p) ∙ run_in s (event_of p (done_in (turn_at s p))) (in_range_lem s p z)

-- ── three bytes behind a table ──
behind_is : (l : List ℕ) (x y z : ℕ) → 3 ≤ length l → set (set (set l 0 x) 1 y) 2 z ≡ x ∷ y ∷ z ∷ drop 3 l
behind_is [] x y z h = absurd (omega (arith, h))
behind_is (a ∷ []) x y z h = absurd (omega (arith, h))
behind_is (a ∷ b ∷ []) x y z h = absurd (omega (arith, h))
behind_is (a ∷ b ∷ c ∷ l) x y z h = refl

written_behind : (k : ℕ) (l : List ℕ) (x y z : ℕ) → k + 3 ≤ length l → drop k (set (set (set l (k + 0) x) (k + 1) y) (k + 2) z) ≡ x ∷ y ∷ z ∷ drop (k + 3) l
written_behind k l x y z h =
    drop-set-add k _ 2 z
    ∙ ap (λ (m : List ℕ). set m 2 z) (drop-set-add k _ 1 y ∙ ap (λ (m : List ℕ). set m 1 y) (drop-set-add k l 0 x))
    ∙ behind_is (drop k l) x y z (omega (arith, h, length-drop k l))
    ∙ ap (λ (m : List ℕ). x ∷ y ∷ z ∷ m) (drop-drop 3 k l)

table_behind : (l : List ℕ) (p : Place) (d : Done) → turn_size ≤ length l → drop size (written l size (behind_table p d)) ≡ behind_table p d ++ drop turn_size l
unfolding written
table_behind l p d h = written_behind size l p.sender p.receiver (done_number d) h

-- and read back
place_behind : (k m : List ℕ) (p : Place) (d : Done) → length k ≡ size → pair (get_or (k ++ (behind_table p d ++ m)) size 0) (get_or (k ++ (behind_table p d ++ m)) (size + 1) 0) ≡ p
place_behind k m p d e =
    let y = get_or-append-add k (behind_table p d ++ m) 0 0 in
    let z = get_or-append-add k (behind_table p d ++ m) 1 0 in
    ap (λ (x : ℕ). pair x (get_or (k ++ (behind_table p d ++ m)) (size + 1) 0)) (ap (λ (i : ℕ). get_or (k ++ (behind_table p d ++ m)) i 0) (at 0 (omega arith)) ∙ y)
    ∙ ap (pair p.sender) (ap (λ (i : ℕ). get_or (k ++ (behind_table p d ++ m)) i 0) (at 1 refl) ∙ z)
  where
    at : (i : ℕ) {j : ℕ} → j ≡ size + i → j ≡ length k + i
    at i h = omega (arith, h, e)

-- ── the promise ──
module _ (t : List ℕ) (a b : ℕ) (l : List ℕ) where
  kept_by : (r : ℕ) → r ≡ turn_answer t a b l → (r ≡ 0 → ⊥) → TurnExported t a b l l r
  unfolding turn_bytes
  kept_by r e h = record { number = e; buffer = sym (keeps_in turn_size l (turn_answer t a b l) (turn_given (state_of t) (pair a b) (turn_on t a b)) (λ z. h (e ∙ z))); back = λ z. absurd (h z); back_place = λ z. absurd (h z) }

  too_short : length l < turn_size → turn_answer t a b l ≡ 255
  unfolding turn_answer
  too_short = short_in turn_size l (turn_number (turn_on t a b))

  long : turn_size ≤ length l → turn_answer t a b l ≡ turn_number (turn_on t a b)
  unfolding turn_answer
  long = long_in turn_size l (turn_number (turn_on t a b))

  pub short : length l < turn_size → TurnExported t a b l l 255
  short h = kept_by 255 (sym (too_short h)) (λ z. omega arith)

  module _ (room : turn_size ≤ length l) (q : TurnOutcome) (x : Turned (decoded t) (pair a b) q) (r : ℕ) (e : r ≡ answer_number q.answer) where
    number_is : r ≡ turn_answer t a b l
    number_is = e ∙ x.answer ∙ sym (long room)

    pub refused : (r ≡ 0 → ⊥) → TurnExported t a b l l r
    refused h = kept_by r number_is h

    pub accepted_turn : r ≡ 0 → (m o : List ℕ) (n : ℕ) → m ≡ written l size (behind_table q.place q.done) → Answered q.answer q.table m o n → TurnExported t a b l o n
    unfolding turn_bytes
    accepted_turn z m o n w y =
        record {
          number = y.number ∙ sym e ∙ number_is;
          buffer =
              y.whole zero
              ∙ ap (λ (k : List ℕ). state_bytes (view q.table) ++ k) behind_m
              ∙ sym (append_assoc (state_bytes (view q.table)) (behind_table q.place q.done) (drop turn_size l))
              ∙ ap (λ (k : List ℕ). k ++ drop turn_size l) given
              ∙ sym (gives_in turn_size l (turn_answer t a b l) (turn_given (state_of t) (pair a b) (turn_on t a b)) (sym number_is ∙ z));
          back = λ _. y.back zero ∙ x.table;
          back_place = λ _.
              ap (λ (k : List ℕ). pair (get_or k size 0) (get_or k (size + 1) 0)) (y.whole zero ∙ ap (λ (k : List ℕ). state_bytes (view q.table) ++ k) behind_m)
              ∙ place_behind (state_bytes (view q.table)) (drop turn_size l) q.place q.done table_long
              ∙ x.place;
        }
      where
        zero : n ≡ 0
        zero = y.number ∙ sym e ∙ z

        behind_m : drop size m ≡ behind_table q.place q.done ++ drop turn_size l
        behind_m = ap (drop size) w ∙ table_behind l q.place q.done room

        table_long : length (state_bytes (view q.table)) ≡ size
        table_long = state_long (view q.table) (ap in_range x.table ∙ after_in_range (state_of t) (pair a b) (sym x.answer ∙ sym e ∙ z))

        given : state_bytes (view q.table) ++ behind_table q.place q.done ≡ turn_given (state_of t) (pair a b) (turn_on t a b)
        given =
            ap (λ (s : State). state_bytes s ++ behind_table q.place q.done) x.table
            ∙ ap (λ (p : Place). state_bytes (table_after (state_of t) (turn_on t a b)) ++ behind_table p q.done) x.place
            ∙ ap (λ (d : Done). state_bytes (table_after (state_of t) (turn_on t a b)) ++ behind_table (place_after (pair a b) (turn_on t a b)) d) x.done

-- ── the claims ──

module _ (t : List ℕ) (a b : ℕ) (l : List ℕ) where
  only_short : turn_answer t a b l ≡ 255 → length l < turn_size
  unfolding turn_answer
  only_short = only_short_in turn_size l (turn_number (turn_on t a b)) (⊎_elim (λ z. omega (arith, z)) (⊎_elim (λ z. omega (arith, z)) (λ z. omega (arith, z))) (numbers t a b))

  accepts : turn_answer t a b l ≡ 0 → turn_number (turn_on t a b) ≡ 0
  unfolding turn_answer
  accepts = accepts_in turn_size l (turn_number (turn_on t a b))

  table_long : turn_answer t a b l ≡ 0 → length (state_bytes (table_after (state_of t) (turn_on t a b))) ≡ size
  table_long z = state_long _ (after_in_range (state_of t) (pair a b) (accepts z))

  given_long : turn_answer t a b l ≡ 0 → length (turn_given (state_of t) (pair a b) (turn_on t a b)) ≡ turn_size
  given_long z =
      length-append (state_bytes (table_after (state_of t) (turn_on t a b))) (behind_table (place_after (pair a b) (turn_on t a b)) (done_in (turn_on t a b)))
      ∙ ap (λ (k : ℕ). k + 3) (table_long z)

  bytes_are : turn_answer t a b l ≡ 0 → turn_bytes t a b l ≡ turn_given (state_of t) (pair a b) (turn_on t a b) ++ drop turn_size l
  unfolding turn_bytes
  bytes_are = gives_in turn_size l (turn_answer t a b l) (turn_given (state_of t) (pair a b) (turn_on t a b))

  -- the table's bytes come first
  table_first : turn_answer t a b l ≡ 0 → take size (turn_bytes t a b l) ≡ state_bytes (table_after (state_of t) (turn_on t a b))
  table_first z =
      ap (take size) (bytes_are z ∙ append_assoc (state_bytes (table_after (state_of t) (turn_on t a b))) (behind_table (place_after (pair a b) (turn_on t a b)) (done_in (turn_on t a b))) (drop turn_size l))
      ∙ take_at (state_bytes (table_after (state_of t) (turn_on t a b))) _ size (table_long z)

-- a turn's event, as a field for the step
module _ (t : List ℕ) (a b : ℕ) (l m : List ℕ) (e : Event) (f : List ℕ) (room : size ≤ length m) (z : turn_answer t a b l ≡ 0) (x : event_of (pair a b) (done_in (turn_on t a b)) ≡ e ∷ []) (k : ℕ) (g : next_at f 0 ≡ Ok (Some (e, k))) where
  good : in_range (state_of t) ≡ true
  good = in_range_lem (state_of t) (pair a b) (accepts t a b l z)

  step_zero : step_number t f m ≡ 0
  step_zero = step_claims.long t f m room good ∙ ap (field_number (state_of t)) g ∙ ap result_number (turn_rules.accepts (state_of t) (pair a b) e x).is

  same_state : field_after (state_of t) (next_at f 0) ≡ table_after (state_of t) (turn_on t a b)
  unfolding run_from
  same_state = ap (field_after (state_of t)) g ∙ sym (turn_event (state_of t) (pair a b) ∙ ap (run_from (state_of t)) x)

  step_bytes_lem : step_bytes t f m ≡ state_bytes (table_after (state_of t) (turn_on t a b)) ++ drop size m
  unfolding step_bytes
  step_bytes_lem = gives_in size m (step_number t f m) (state_bytes (field_after (state_of t) (next_at f 0))) step_zero ∙ ap (λ (s : State). state_bytes s ++ drop size m) same_state

  same_table : take size (step_bytes t f m) ≡ take size (turn_bytes t a b l)
  same_table =
      ap (take size) step_bytes_lem
      ∙ take_at (state_bytes (table_after (state_of t) (turn_on t a b))) (drop size m) size (table_long t a b l z)
      ∙ sym (table_first t a b l z)

pub turn_claims : TurnClaims
unfolding turn_bytes
turn_claims =
    record {
      short = too_short;
      only_short = only_short;
      numbers = λ t a b l h. subst (λ (r : ℕ). (r ≡ 0) ⊎ ((r ≡ 1) ⊎ (r ≡ 7))) (sym (long t a b l h)) (numbers t a b);
      keeps = λ t a b l. keeps_in turn_size l (turn_answer t a b l) (turn_given (state_of t) (pair a b) (turn_on t a b));
      behind = λ t a b l. behind_in turn_size l (turn_answer t a b l) (turn_given (state_of t) (pair a b) (turn_on t a b)) (given_long t a b l);
      not_in_range = λ t a b l h r. long t a b l h ∙ ap turn_number (turn_rules.not_in_range (state_of t) (pair a b) r);
      as_step = λ t a b l m e f k h room x g.
          let z = long t a b l h ∙ event_accepted (turn_on t a b) (pair a b) e x in
          (z, step_zero t a b l m e f room z x k g, same_table t a b l m e f room z x k g);
    }
