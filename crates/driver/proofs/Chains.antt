-- The tables and places that turns and steps return, one after another, are those of the model's schedule; and the turns are steps of the machine, so that demand 3 holds of them.
use Prim.Native.Nat.{ℕ, ◌+◌, ◌-◌, ◌≤◌, ◌<◌}
use native.Mathlib.Omega.{arith}
use mathlib.Core.Path.{◌≡◌, refl, sym, ◌∙◌, ap, subst}
use mathlib.Core.List.{List, [], ◌∷◌}
use Rattle.model.specs.Counts.{count_at}
use Rattle.model.specs.State.{State, oldest, view}
use Rattle.model.specs.Step.{accepted, step, run_from}
use Rattle.model.specs.Answers.{answer_number, result_number}
use Rattle.model.specs.declared.Table.{Table}
use Rattle.model.specs.declared.Mark.{Mark}
use Rattle.model.specs.declared.Event.{Event}
use Rattle.model.specs.declared.Event.TheVariants.{Deliver, Lose}
use Rattle.model.specs.Answers.{Answer}
use Rattle.model.specs.Answers.{Accepted}
use Rattle.machine.specs.Stepped.{Stepped}
use Rattle.machine.specs.Folded.{Folded}
use Rattle.machine.proofs.Runs.{folded_append, answer_known, chain_runs, chain_fixes, chain_both}
use Rattle.round.specs.Turn.{Turn, turn_refused, turn_accepted, turn_at, turn_number, done_in, event_of}
use Rattle.round.specs.Schedule.{Move, turn, Drive, drive, moved, driven, events_of, pair_queue, Waits, message_at, out_in}
use Rattle.round.specs.Claims.{AtPair}
use Rattle.round.specs.declared.Place.{Place}
use Rattle.round.specs.declared.Done.{Done}
use Rattle.round.specs.declared.Done.TheVariants.{Delivered, Lost}
use Rattle.round.specs.declared.TurnOutcome.{TurnOutcome}
use Rattle.round.proofs.Turns.{Does, idles, loses, passes_on, turn_cases, turn_is, turn_rules, event_accepted, lose_accepted}
use Rattle.round.proofs.Schedules.{turn_event, round_of_the_cable}
use Rattle.round.proofs.Driver.{in_range_not_one}
use Rattle.driver.specs.Turned.{Turned}
use Rattle.driver.specs.Scheduled.{Scheduled, none, turned, stepped, ByDriver}
use Rattle.driver.specs.Claims.{TurnedAlike, CodeRound, CodeDriverRuns}

-- ── the model's schedule ──
pub turned_drive : {t : Table} {p : Place} {r : TurnOutcome} → Turned t p r → drive (view r.table) r.place ≡ moved (drive (view t) p) turn
turned_drive {t} {p} {r} x = ap (λ (s : State). drive s r.place) x.table ∙ ap (drive (moved (drive (view t) p) turn).table) x.place

drives : {t u : Table} {p q : Place} {ms : List Move} → Scheduled t p ms u q → drive (view u) q ≡ driven (drive (view t) p) ms
unfolding driven
drives none = refl
drives (turned {ms = ms} x d) = drives d ∙ ap (λ (e : Drive). driven e ms) (turned_drive x)
drives (stepped {p = p} {ms = ms} x d) = drives d ∙ ap (λ (s : State). driven (drive s p) ms) x.table

tables : {t u : Table} {p q : Place} {ms : List Move} → Scheduled t p ms u q → view u ≡ (driven (drive (view t) p) ms).table
tables d = ap (λ (e : Drive). e.table) (drives d)

stays : {t u : Table} {p q : Place} {ms : List Move} → Scheduled t p ms u q → AtPair (view t) p → AtPair (view u) q
stays {t} {u} {p} {q} {ms} d x = subst (λ (e : Drive). AtPair e.table e.place) (sym (drives d)) (round_of_the_cable.stays (view t) p ms x)

pub code_round : CodeRound
code_round =
    record {
      drives = drives;
      takes_oldest = λ {t} {a} {b} {r} x y w.
          turn_rules.takes_oldest (view t) a b y w ∙ ap (λ (s : State). oldest a b (view t).queue ∷ pair_queue s.queue a b) (sym x.table);
      gone = λ {t} {u} {p} {q} {ms} d a b k x w h. ap (λ (s : State). pair_queue s.queue a b) (tables d) ∙ round_of_the_cable.gone (view t) p a b k ms x w h;
      counted = λ {t} {u} {p} {q} {ms} d a b k x w h.
          subst (λ (s : State). count_at t.delivered a b + count_at t.lost a b + k < count_at s.delivered a b + count_at s.lost a b) (sym (tables d))
          (round_of_the_cable.counted (view t) p a b k ms x w h);
      same = λ {t} {u} {p} {q} {ms} d a b k w h.
          subst (λ (s : State). Waits s.queue a b (k - out_in a b (drive (view t) p) ms) × (message_at s.queue a b (k - out_in a b (drive (view t) p) ms) ≡ message_at (view t).queue a b k))
          (sym (tables d)) (round_of_the_cable.same (view t) p a b k ms w h);
      stays = stays;
      never_refused = λ {t} {u} {p} {q} {ms} {r} d x y. answer_known r.answer Accepted (y.answer ∙ ap turn_number (turn_is (view u) q (stays d x)));
    }

alike : {t : Table} {p : Place} {r q : TurnOutcome} → Turned t p r → Turned t p q → r.done ≡ q.done
alike x y = x.done ∙ sym y.done

pub turned_alike : TurnedAlike
turned_alike =
    record {
      answer = λ {t} {p} {r} {q} x y. answer_known r.answer q.answer (x.answer ∙ sym y.answer);
      table = λ x y. x.table ∙ sym y.table;
      place = λ x y. x.place ∙ sym y.place;
      done = alike;
      same = λ x y n. x.same n ∙ sym (y.same (sym (alike x y) ∙ n));
    }

-- ── a turn is a step, or none ──
module _ {t : Table} {p : Place} {r : TurnOutcome} (x : Turned t p r) where
  -- the step with the turn's event, where it is accepted
  one_step : (e : Event) (u : State) (k : Mark) → step (view t) e ≡ accepted u k → event_of p (done_in (turn_at (view t) p)) ≡ e ∷ [] → Stepped t e (record { table = r.table; answer = Accepted })
  unfolding run_from
  one_step e u k q z =
      record {
        answer = sym (ap result_number q);
        table = x.table ∙ turn_event (view t) p ∙ ap (run_from (view t)) z;
        same = λ h. absurd (h refl);
      }

  turn_folds : Folded t (event_of p (done_in (turn_at (view t) p))) r.table
  turn_folds = by (turn_cases (view t) p)
    where
      folds_by : (e : Event) (u : State) (k : Mark) → step (view t) e ≡ accepted u k → event_of p (done_in (turn_at (view t) p)) ≡ e ∷ [] → Folded t (event_of p (done_in (turn_at (view t) p))) r.table
      folds_by e u k q z = subst (λ (l : List Event). Folded t l r.table) (sym z) (Folded.more (one_step e u k q z) Folded.none)

      by : Does (view t) p → Folded t (event_of p (done_in (turn_at (view t) p))) r.table
      by (idles d) =
          subst (λ (v : Table). Folded t (event_of p (done_in (turn_at (view t) p))) v) (sym (x.same (x.done ∙ d))) (subst (λ (e : Done). Folded t (event_of p e) t) (sym d) Folded.none)
      by (loses y w d) = folds_by (Lose p.sender p.receiver) _ _ (lose_accepted (view t) p.sender p.receiver y w) (ap (λ (z : Turn). event_of p (done_in z)) d)
      by (passes_on u k q d) = folds_by (Deliver p.sender p.receiver) u k q (ap (λ (z : Turn). event_of p (done_in z)) d)

schedudriver_folds : {t u : Table} {p q : Place} {ms : List Move} → Scheduled t p ms u q → Folded t (events_of (drive (view t) p) ms) u
unfolding events_of
schedudriver_folds none = Folded.none
schedudriver_folds {u = u} (turned {r = r} {ms = ms} x d) =
    folded_append (turn_folds x) (subst (λ (e : Drive). Folded r.table (events_of e ms) u) (turned_drive x) (schedudriver_folds d))
schedudriver_folds {u = u} (stepped {p = p} {r = r} {ms = ms} x d) =
    Folded.more x (subst (λ (s : State). Folded r.table (events_of (drive s p) ms) u) x.table (schedudriver_folds d))

driver_folds : (t : Table) (es : List Event) (u : Table) → ByDriver t es u → Folded t es u
driver_folds t es u l = subst (λ (fs : List Event). Folded t fs u) (sym l.events) (schedudriver_folds l.schedule)

-- a turn with a number is that refusal
refused_by : (x : Turn) (r : ℕ) → 1 ≤ r → r ≡ turn_number x → x ≡ turn_refused r
refused_by (turn_refused k) r l h = ap turn_refused (sym h)
refused_by (turn_accepted u q d) r l h = absurd (omega (arith, l, h))

-- a turn that did d, which is the event e
does_step : {t : Table} {p : Place} {r : TurnOutcome} (x : Turned t p r) (d : Done) (e : Event) → r.done ≡ d → event_of p d ≡ e ∷ [] → Stepped t e (record { table = r.table; answer = r.answer })
does_step {t} {p} {r} x d e q z =
    let w = ap (event_of p) (sym x.done ∙ q) ∙ z in
    let m = turn_rules.accepts (view t) p e w in
    subst (λ (a : Answer). Stepped t e (record { table = r.table; answer = a })) (sym (answer_known r.answer Accepted (x.answer ∙ event_accepted (turn_at (view t) p) p e w))) (one_step x e m.state m.mark m.is w)

pub code_driver_runs : CodeDriverRuns
code_driver_runs =
    record {
      delivers = λ {t} {p} x q. does_step x Delivered (Deliver p.sender p.receiver) q refl;
      loses = λ {t} {p} x q. does_step x Lost (Lose p.sender p.receiver) q refl;
      folds = driver_folds;
      runs = chain_runs ByDriver driver_folds;
      fixes = chain_fixes ByDriver driver_folds;
      both = chain_both ByDriver driver_folds;
      never_one = λ n l m {es} {u} {q} {r} c x a.
          in_range_not_one (view u) q ((chain_runs ByDriver driver_folds).in_range_lem n l m es u c) (refused_by (turn_at (view u) q) 1 (omega arith) (sym (ap answer_number a) ∙ x.answer));
    }
