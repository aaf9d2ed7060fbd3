-- A legal list is one whose events a run accepts; and a line is its events, parted.
use Prim.Native.Nat.{ℕ}
use mathlib.Core.Bool.{true, true≢false}
use mathlib.Core.Path.{◌≡◌, refl, sym, ap, subst}
use mathlib.Core.List.{List, [], ◌∷◌, ◌++◌, append-nil}
use Rattle.model.specs.Claims.{Accepts}
use Rattle.model.specs.State.{State}
use Rattle.model.specs.Step.{Result, refused, accepted, step, after, run_from}
use Rattle.model.specs.declared.TaskNo.{TaskNo}
use Rattle.model.specs.declared.Event.{Event}
use Rattle.model.specs.declared.Event.TheVariants.{Crash, Recover, Check, Timeout, Tick, Expire, Finish, Deliver, Lose}
use Rattle.listing.specs.Ascii.{bytes}
use Rattle.short_lists_text.specs.Rows.{All}
use Rattle.short_lists_text.specs.Lists.{is_accepted, AcceptedFrom, TaskFits, Legal}
use Rattle.short_lists_text.specs.Text.{event_text, more_text, events_text, list_line}
use Rattle.short_lists_text.specs.Claims.{LegalByRun, LegalIs, LineIs}

-- ── accepted in turn ──

accepts_one : (s : State) (e : Event) → is_accepted (step s e) ≡ true → Accepts s e
accepts_one s e q = by (step s e) refl q
  where
    by : (r : Result) → step s e ≡ r → is_accepted r ≡ true → Accepts s e
    by (refused x) z b = absurd (true≢false (sym b))
    by (accepted u m) z b = record { state = u; mark = m; is = z }

pub accepts_at : (s : State) (before : List Event) (e : Event) (after : List Event) → AcceptedFrom s (before ++ (e ∷ after)) → Accepts (run_from s before) e
unfolding run_from
accepts_at s [] e rest a = accepts_one s e a.0
accepts_at s (b ∷ bs) e rest a = accepts_at (after s b) bs e rest a.1

in_turn : (s : State) (l : List Event) → ((before : List Event) (e : Event) (rest : List Event) → l ≡ before ++ (e ∷ rest) → Accepts (run_from s before) e) → AcceptedFrom s l
unfolding run_from
in_turn s [] f = tt
in_turn s (e ∷ es) f = (ap is_accepted (f [] e es refl).is, in_turn (after s e) es (λ before d rest q. f (e ∷ before) d rest (ap (λ l. e ∷ l) q)))

-- ── the tasks ──

task_at : (before : List Event) (i : ℕ) (t : TaskNo) (rest : List Event) → All TaskFits (before ++ (Finish i t ∷ rest)) → t.number ≡ 100
task_at [] i t rest a = a.0
task_at (b ∷ bs) i t rest a = task_at bs i t rest a.1

task_fits : (e : Event) → ((i : ℕ) (t : TaskNo) → e ≡ Finish i t → t.number ≡ 100) → TaskFits e
task_fits (Crash i) f = tt
task_fits (Recover i) f = tt
task_fits (Check i) f = tt
task_fits (Timeout i) f = tt
task_fits (Tick i) f = tt
task_fits (Expire i) f = tt
task_fits (Finish i t) f = f i t refl
task_fits (Deliver a b) f = tt
task_fits (Lose a b) f = tt

all_fit : (l : List Event) → ((before : List Event) (i : ℕ) (t : TaskNo) (rest : List Event) → l ≡ before ++ (Finish i t ∷ rest) → t.number ≡ 100) → All TaskFits l
all_fit [] f = tt
all_fit (e ∷ es) f = (task_fits e (λ i t q. f [] i t es (ap (λ d. d ∷ es) q)), all_fit es (λ before i t rest q. f (e ∷ before) i t rest (ap (λ l. e ∷ l) q)))

by_run : (m : ℕ) (s : State) (l : List Event) → Legal m s l → LegalByRun m s l
by_run m s l x = record {
  long = x.long;
  accepts = λ before e rest q. accepts_at s before e rest (subst (AcceptedFrom s) q x.taken);
  tasks = λ before i t rest q. task_at before i t rest (subst (All TaskFits) q x.tasks);
}

pub legal_is : LegalIs
legal_is = record {
  by_run = by_run;
  from_run = λ m s l x. record { long = x.long; tasks = all_fit l x.tasks; taken = in_turn s l x.accepts };
}

-- ── a line ──

one_event : (e : Event) → events_text (e ∷ []) ≡ event_text e
unfolding events_text more_text
one_event e = append-nil (event_text e)

two_events : (e f : Event) (l : List Event) → events_text (e ∷ f ∷ l) ≡ event_text e ++ (bytes ", " ++ events_text (f ∷ l))
unfolding events_text more_text
two_events e f l = refl

no_events : events_text [] ≡ []
unfolding events_text
no_events = refl

line_end : (l : List Event) → list_line l ≡ events_text l ++ bytes "\n"
unfolding list_line
line_end l = refl

pub line_is : LineIs
line_is = record { none = no_events; one = one_event; more = two_events; end = line_end }
