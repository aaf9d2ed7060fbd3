-- Demand 3 by the list itself: the event of the list that fixed a task, and that there is one only.
use Prim.Native.Nat.{ℕ, ◌+◌, ◌≤◌}
use mathlib.Core.Path.{◌≡◌, refl, sym, ◌∙◌, ap, subst}
use mathlib.Core.Logic.{◌⊎◌, inl, inr}
use mathlib.Core.List.{List, [], ◌∷◌, ◌++◌, append-nil, append_assoc}
use borrow.Author.Tests.{eqb-true}
use Rattle.model.specs.Pick.{by_test}
use Rattle.model.specs.Node.{group_of}
use Rattle.model.specs.React.{react}
use Rattle.model.specs.Range.{PairRule}
use Rattle.model.specs.State.{State, start_by, node_at}
use Rattle.model.specs.Step.{actor, reaction_to, Result, refused, accepted, step, run_by}
use Rattle.model.specs.History.{Entry, NotFormed, NoTask, Task, History, blank, updated, newest, coming, marked, given, noted, history_from, history_by}
use Rattle.model.specs.Claims.{Recovering, Finishing, Fixes, TaskFromList}
use Rattle.model.proofs.Judged.{accepted_is}
use Rattle.model.proofs.Invariant.{updated_same, task_is, no_task≢task, not_formed≢task}
use Rattle.model.proofs.Origin.{finish_mark}
use Rattle.model.proofs.Whole.{history_append, run_fixes}
use Rattle.model.specs.declared.Limits.{Limits}
use Rattle.model.specs.declared.Status.TheVariants.{Normal}
use Rattle.model.specs.declared.TaskNo.{TaskNo}
use Rattle.model.specs.declared.Mark.{Mark}
use Rattle.model.specs.declared.Mark.TheVariants.{Plain, Recovers, Merges}
use Rattle.model.specs.declared.Event.{Event}
use Rattle.model.specs.declared.Event.TheVariants.{Crash, Recover, Check, Timeout, Tick, Expire, Finish, Deliver, Lose}

-- ── one event ──
history_one : (s : State) (h : History) (e : Event) → history_from s h (e ∷ []) ≡ noted h e (step s e)
unfolding history_from
history_one s h e = refl

-- the history of a list with one event more
history_next : (rule : PairRule) (n : ℕ) (lim : Limits) (es : List Event) (e : Event) → history_by rule n lim (es ++ (e ∷ [])) ≡ noted (history_by rule n lim es) e (step (run_by rule n lim es) e)
history_next rule n lim es e = history_append blank (start_by rule n lim) es (e ∷ []) ∙ history_one (run_by rule n lim es) (history_by rule n lim es) e

given_count : (h : History) (e : Event) → (given h e).count ≡ h.count
given_count h (Crash i) = refl
given_count h (Recover i) = refl
given_count h (Check i) = refl
given_count h (Timeout i) = refl
given_count h (Tick i) = refl
given_count h (Expire i) = refl
given_count h (Finish i t) = refl
given_count h (Deliver a b) = refl
given_count h (Lose a b) = refl

coming_given : (h : History) (e : Event) (i : ℕ) → coming (given h e) i ≡ coming h i
coming_given h e i = ap (λ (f : ℕ → ℕ). group_of (f i + 1) i) (given_count h e)

-- a finish forms no group
finish_plain : (s : State) (i : ℕ) (t : TaskNo) (u : State) (k : Mark) → step s (Finish i t) ≡ accepted u k → k ≡ Plain
unfolding reaction_to react
finish_plain s i t u k q = (accepted_is s (Finish i t) u k q).mark ∙ finish_mark i (node_at s i) t

-- ── where a history's task comes from, in one event ──
record Finished (h : History) (e : Event) (g t : ℕ) : Type 0 where
  by : ℕ
  given_task : TaskNo
  event : e ≡ Finish by given_task
  group : newest h by ≡ g
  task : given_task.number ≡ t

record Recovered (h : History) (e : Event) (k : Mark) (g t : ℕ) : Type 0 where
  mark : k ≡ Recovers
  group : coming h (actor e) ≡ g
  task : actor e ≡ t

updated_task : (f : ℕ → Entry) (i : ℕ) (a : Entry) (g t : ℕ) → updated f i a g ≡ Task t → ((g ≡ i) × (a ≡ Task t)) ⊎ (f g ≡ Task t)
unfolding updated
updated_task f i a g t =
    by_test (λ (x : Entry). x ≡ Task t → ((g ≡ i) × (a ≡ Task t)) ⊎ (f g ≡ Task t)) (λ q e. inl (eqb-true g i q, e)) (λ q e. inr e)

task_given : (h : History) (e : Event) (g t : ℕ) → (given h e).entry g ≡ Task t → (h.entry g ≡ Task t) ⊎ Finished h e g t
task_given h (Crash i) g t q = inl q
task_given h (Recover i) g t q = inl q
task_given h (Check i) g t q = inl q
task_given h (Timeout i) g t q = inl q
task_given h (Tick i) g t q = inl q
task_given h (Expire i) g t q = inl q
task_given h (Deliver a b) g t q = inl q
task_given h (Lose a b) g t q = inl q
task_given h (Finish i x) g t q = by (updated_task h.entry (newest h i) (Task x.number) g t q)
  where
    by : ((g ≡ newest h i) × (Task x.number ≡ Task t)) ⊎ (h.entry g ≡ Task t) → (h.entry g ≡ Task t) ⊎ Finished h (Finish i x) g t
    by (inl p) = inr (record { by = i; given_task = x; event = refl; group = sym p.0; task = task_is _ _ p.1 })
    by (inr p) = inl p

-- a task of the history after an accepted event was there before, or the event gave it
task_noted : (h : History) (e : Event) (k : Mark) (g t : ℕ) → (marked (given h e) (actor e) k).entry g ≡ Task t
    → (h.entry g ≡ Task t) ⊎ (Finished h e g t ⊎ Recovered h e k g t)
task_noted h e k g t = by k
  where
    earlier : {k : Mark} → (h.entry g ≡ Task t) ⊎ Finished h e g t → (h.entry g ≡ Task t) ⊎ (Finished h e g t ⊎ Recovered h e k g t)
    earlier (inl p) = inl p
    earlier (inr p) = inr (inl p)

    solo : ((g ≡ coming (given h e) (actor e)) × (Task (actor e) ≡ Task t)) ⊎ ((given h e).entry g ≡ Task t)
        → (h.entry g ≡ Task t) ⊎ (Finished h e g t ⊎ Recovered h e Recovers g t)
    solo (inl p) = inr (inr (record { mark = refl; group = sym (coming_given h e (actor e)) ∙ sym p.0; task = task_is _ _ p.1 }))
    solo (inr p) = earlier (task_given h e g t p)

    none : ((g ≡ coming (given h e) (actor e)) × (NoTask ≡ Task t)) ⊎ ((given h e).entry g ≡ Task t)
        → (h.entry g ≡ Task t) ⊎ (Finished h e g t ⊎ Recovered h e Merges g t)
    none (inl p) = absurd (no_task≢task NoTask t refl p.1)
    none (inr p) = earlier (task_given h e g t p)

    by : (k : Mark) → (marked (given h e) (actor e) k).entry g ≡ Task t → (h.entry g ≡ Task t) ⊎ (Finished h e g t ⊎ Recovered h e k g t)
    by Plain q = earlier (task_given h e g t q)
    by Recovers q = solo (updated_task (given h e).entry (coming (given h e) (actor e)) (Task (actor e)) g t q)
    by Merges q = none (updated_task (given h e).entry (coming (given h e) (actor e)) NoTask g t q)

-- ── two places in one list ──
data Order {A : Type 0} (xs ys : List A) (a b : A) : Type 0 where
  same : xs ≡ ys → a ≡ b → Order xs ys a b
  sooner : (zs : List A) → ys ≡ xs ++ (a ∷ zs) → Order xs ys a b
  later : (zs : List A) → xs ≡ ys ++ (b ∷ zs) → Order xs ys a b

head_is : {A : Type 0} {a b : A} {cs ds : List A} → ◌≡◌ {A = List A} (a ∷ cs) (b ∷ ds) → a ≡ b
head_is e = cc

tail_is : {A : Type 0} {a b : A} {cs ds : List A} → ◌≡◌ {A = List A} (a ∷ cs) (b ∷ ds) → cs ≡ ds
tail_is e = cc

order : {A : Type 0} (xs ys cs ds : List A) (a b : A) → xs ++ (a ∷ cs) ≡ ys ++ (b ∷ ds) → Order xs ys a b
order [] [] cs ds a b q = same refl (head_is q)
order [] (y ∷ ys) cs ds a b q = sooner ys (ap (◌∷ ys) (sym (head_is q)))
order (x ∷ xs) [] cs ds a b q = later xs (ap (◌∷ xs) (head_is q))
order (x ∷ xs) (y ∷ ys) cs ds a b q = behind (order xs ys cs ds a b (tail_is q))
  where
    behind : Order xs ys a b → Order (x ∷ xs) (y ∷ ys) a b
    behind (same p e) = same (cc) e
    behind (sooner zs p) = sooner zs (cc)
    behind (later zs p) = later zs (cc)

module _ (rule : PairRule) (n : ℕ) (lim : Limits) (small : n ≤ 16) where
  -- ── a task of the history was fixed by an event of the list ──
  fixed_after : (es fs : List Event) (g t : ℕ) → (history_by rule n lim (es ++ fs)).entry g ≡ Task t → ((history_by rule n lim es).entry g ≡ Task t) ⊎ Fixes rule n lim (es ++ fs) g t
  fixed_after es [] g t q = inl (rw append-nil at q)
  fixed_after es (e ∷ fs) g t q =
      let z : (es ++ (e ∷ [])) ++ fs ≡ es ++ (e ∷ fs) = append_assoc es (e ∷ []) fs in
      by_rest z (fixed_after (es ++ (e ∷ [])) fs g t (subst (λ (v : List Event). (history_by rule n lim v).entry g ≡ Task t) (sym z) q))
    where
      here : Recovering rule n lim es e g t ⊎ Finishing rule n lim es e g t → Fixes rule n lim (es ++ (e ∷ fs)) g t
      here x = record { before = es; event = e; behind = fs; whole = refl; how = x }

      by_event : (u : State) (k : Mark) → step (run_by rule n lim es) e ≡ accepted u k
          → ((history_by rule n lim es).entry g ≡ Task t) ⊎ (Finished (history_by rule n lim es) e g t ⊎ Recovered (history_by rule n lim es) e k g t)
          → ((history_by rule n lim es).entry g ≡ Task t) ⊎ Fixes rule n lim (es ++ (e ∷ fs)) g t
      by_event u k i (inl p) = inl p
      by_event u k i (inr (inl f)) =
          let j : step (run_by rule n lim es) (Finish f.by f.given_task) ≡ accepted u k = ap (step (run_by rule n lim es)) (sym f.event) ∙ i in
          inr (here (inr (record {
            node = f.by;
            task = f.given_task;
            table = u;
            event = f.event;
            finishes = i ∙ ap (accepted u) (finish_plain (run_by rule n lim es) f.by f.given_task u k j);
            group = (run_fixes rule n lim small).own_group es f.by f.given_task u k j ∙ f.group;
            number = f.task;
          })))
      by_event u k i (inr (inr r)) =
          let j : step (run_by rule n lim es) e ≡ accepted u Recovers = i ∙ ap (accepted u) r.mark in
          inr (here (inl (record { table = u; recovers = j; group = (run_fixes rule n lim small).numbered es e u Recovers j refl ∙ r.group; solo = r.task })))

      by_result : (r : Result) → step (run_by rule n lim es) e ≡ r → (noted (history_by rule n lim es) e r).entry g ≡ Task t
          → ((history_by rule n lim es).entry g ≡ Task t) ⊎ Fixes rule n lim (es ++ (e ∷ fs)) g t
      by_result (refused x) i p = inl p
      by_result (accepted u k) i p = by_event u k i (task_noted (history_by rule n lim es) e k g t p)

      by_rest : (es ++ (e ∷ [])) ++ fs ≡ es ++ (e ∷ fs) → ((history_by rule n lim (es ++ (e ∷ []))).entry g ≡ Task t) ⊎ Fixes rule n lim ((es ++ (e ∷ [])) ++ fs) g t
          → ((history_by rule n lim es).entry g ≡ Task t) ⊎ Fixes rule n lim (es ++ (e ∷ fs)) g t
      by_rest z (inl p) = by_result (step (run_by rule n lim es) e) refl (subst (λ (d : History). d.entry g ≡ Task t) (history_next rule n lim es e) p)
      by_rest z (inr p) = inr (subst (λ (v : List Event). Fixes rule n lim v g t) z p)

  blank_entry : (g : ℕ) → (history_by rule n lim []).entry g ≡ NotFormed
  unfolding history_from
  blank_entry g = refl

  entry_fixed : (es : List Event) (g t : ℕ) → (history_by rule n lim es).entry g ≡ Task t → Fixes rule n lim es g t
  entry_fixed es g t q = by (fixed_after [] es g t q)
    where
      by : ((history_by rule n lim []).entry g ≡ Task t) ⊎ Fixes rule n lim es g t → Fixes rule n lim es g t
      by (inl p) = absurd (not_formed≢task _ t (blank_entry g) p)
      by (inr p) = p

  task_from : (es : List Event) (i : ℕ) → 1 ≤ i → i ≤ n → (node_at (run_by rule n lim es) i).status ≡ Normal
      → Fixes rule n lim es (node_at (run_by rule n lim es) i).group.number (node_at (run_by rule n lim es) i).task.number
  task_from es i l u q = entry_fixed es _ _ (rw append-nil at ((run_fixes rule n lim small).fixed_task es [] i l u q))

  -- ── before that event the group has no task, and from it on it has this one ──
  module _ (es : List Event) (e : Event) (g t : ℕ) where
    no_task_yet : Recovering rule n lim es e g t ⊎ Finishing rule n lim es e g t → (x : ℕ) → (history_by rule n lim es).entry g ≡ Task x → ⊥
    no_task_yet (inl r) x q =
        let z = (run_fixes rule n lim small).formed_once es e r.table Recovers r.recovers refl in
        let c : coming (history_by rule n lim es) (actor e) ≡ g = sym ((run_fixes rule n lim small).numbered es e r.table Recovers r.recovers refl) ∙ r.group in
        not_formed≢task _ x z (ap (history_by rule n lim es).entry c ∙ q)
    no_task_yet (inr f) x q =
        let j = ap (step (run_by rule n lim es)) (sym f.event) ∙ f.finishes in
        let z = (run_fixes rule n lim small).given_once es f.node f.task f.table Plain j in
        let c : newest (history_by rule n lim es) f.node ≡ g = sym ((run_fixes rule n lim small).own_group es f.node f.task f.table Plain j) ∙ f.group in
        no_task≢task _ x z (ap (history_by rule n lim es).entry c ∙ q)

    -- the history with that event
    has_task : Recovering rule n lim es e g t ⊎ Finishing rule n lim es e g t → (history_by rule n lim (es ++ (e ∷ []))).entry g ≡ Task t
    has_task (inl r) =
        let c : g ≡ coming (given (history_by rule n lim es) e) (actor e) = sym (coming_given (history_by rule n lim es) e (actor e) ∙ sym ((run_fixes rule n lim small).numbered es e r.table Recovers r.recovers refl) ∙ r.group) in
        ap (λ (d : History). d.entry g) (history_next rule n lim es e ∙ ap (noted (history_by rule n lim es) e) r.recovers)
        ∙ ap (marked (given (history_by rule n lim es) e) (actor e) Recovers).entry c
        ∙ updated_same (given (history_by rule n lim es) e).entry (coming (given (history_by rule n lim es) e) (actor e)) (Task (actor e))
        ∙ ap Task r.solo
    has_task (inr f) =
        let j = ap (step (run_by rule n lim es)) (sym f.event) ∙ f.finishes in
        let c : g ≡ newest (history_by rule n lim es) f.node = sym f.group ∙ (run_fixes rule n lim small).own_group es f.node f.task f.table Plain j in
        ap (λ (d : History). d.entry g) (history_next rule n lim es e ∙ ap (noted (history_by rule n lim es) e) f.finishes)
        ∙ ap (λ (v : Event). (given (history_by rule n lim es) v).entry g) f.event
        ∙ ap (given (history_by rule n lim es) (Finish f.node f.task)).entry c
        ∙ updated_same (history_by rule n lim es).entry (newest (history_by rule n lim es) f.node) (Task f.task.number)
        ∙ ap Task f.number

    still_has : (fs : List Event) → Recovering rule n lim es e g t ⊎ Finishing rule n lim es e g t → (history_by rule n lim (es ++ (e ∷ fs))).entry g ≡ Task t
    still_has fs x =
        subst (λ (v : List Event). (history_by rule n lim v).entry g ≡ Task t) (append_assoc es (e ∷ []) fs) ((run_fixes rule n lim small).lasts (es ++ (e ∷ [])) fs g t (has_task x))

  fixed_entry : (es : List Event) (g t : ℕ) → Fixes rule n lim es g t → (history_by rule n lim es).entry g ≡ Task t
  fixed_entry es g t a =
      subst (λ (v : List Event). (history_by rule n lim v).entry g ≡ Task t) (sym a.whole) (still_has a.before a.event g t a.behind a.how)

  -- ── so there is one such event only ──
  module _ (es : List Event) (g t u : ℕ) (a : Fixes rule n lim es g t) (b : Fixes rule n lim es g u) where
    places : Order a.before b.before a.event b.event
    places = order a.before b.before a.behind b.behind a.event b.event (sym a.whole ∙ b.whole)

    one : a.before ≡ b.before
    one = by places
      where
        by : Order a.before b.before a.event b.event → a.before ≡ b.before
        by (same p e) = p
        by (sooner zs p) =
            absurd (no_task_yet b.before b.event g u b.how t (subst (λ (v : List Event). (history_by rule n lim v).entry g ≡ Task t) (sym p) (still_has a.before a.event g t zs a.how)))
        by (later zs p) =
            absurd (no_task_yet a.before a.event g t a.how u (subst (λ (v : List Event). (history_by rule n lim v).entry g ≡ Task u) (sym p) (still_has b.before b.event g u zs b.how)))

    same_task : t ≡ u
    same_task =
        task_is t u (sym (fixed_entry es g t a) ∙ fixed_entry es g u b)

pub task_from_list : (rule : PairRule) (n : ℕ) (lim : Limits) → n ≤ 16 → TaskFromList rule n lim
task_from_list rule n lim small =
    record { task = task_from rule n lim small; entry_fixed = entry_fixed rule n lim small; fixed_entry = fixed_entry rule n lim small; one = one rule n lim small; same = same_task rule n lim small }
