-- The changes that the procedures make, each of one node, and each keeps the invariant.
use Prim.Native.Nat.{ℕ, zero, suc, ◌-◌, ◌≤◌, ◌<◌}
use native.Mathlib.Omega.{arith}
use native.Mathlib.Nat.{le_refl}
use mathlib.Core.Bool.{Bool, true, false, true≢false}
use mathlib.Core.Logic.{◌⊎◌, inl, inr, ⊎_elim}
use mathlib.Core.Path.{◌≡◌, refl, sym, ◌∙◌, ap, subst}
use lib.Dec.{ltb}
use borrow.Author.Tests.{ltb-true, ltb-false}
use Rattle.model.specs.Node.{is_election, is_normal, is_active}
use Rattle.model.specs.History.{updated}
use Rattle.model.proofs.Invariant.{updated_same, updated_other}
use Rattle.model.specs.declared.Status.{Status}
use Rattle.model.specs.declared.Status.TheVariants.{Down, Election, Reorganization, Normal}
use Rattle.model.specs.declared.TaskNo.{TaskNo}
use Rattle.bully_model.proofs.Invariant.{Phase, Free, Announces, Hands, Asks, Halts, Aspect, DealtIn, Dealt, HaltedBy, LedBy, Doing, IsAnnouncing, IsHanding, HandingOut, Suits, Suited, Safe}
use Rattle.bully_model.proofs.Changes.{Was, new, old, was, Past, Halter, Leader, Given, change_safe}

-- ── aspects ──

-- another phase
abbrev pub moved : Aspect → Phase → Aspect
moved c p = record { status = c.status; coordinator = c.coordinator; task = c.task; halter = c.halter; phase = p }

-- halted by m, now this far
abbrev pub stopped : Aspect → ℕ → Phase → Aspect
stopped c m p = record { status = Election; coordinator = c.coordinator; task = c.task; halter = m; phase = p }

-- in Reorganization under o, now this far
abbrev pub under : Aspect → ℕ → Phase → Aspect
under c o p = record { status = Reorganization; coordinator = o; task = c.task; halter = c.halter; phase = p }

-- Normal with the task t, now this far
abbrev pub normal : Aspect → TaskNo → Phase → Aspect
normal c t p = record { status = Normal; coordinator = c.coordinator; task = t; halter = c.halter; phase = p }

-- handing out t
abbrev pub handing : Aspect → TaskNo → Aspect
handing c t = record { status = c.status; coordinator = c.coordinator; task = t; halter = c.halter; phase = Hands }

-- ── numbers ──
pub lt_or_ge : (a b : ℕ) → (a < b) ⊎ (b ≤ a)
lt_or_ge a b = by_value (ltb a b) refl
  where
    by_value : (t : Bool) → ltb a b ≡ t → (a < b) ⊎ (b ≤ a)
    by_value true e = inl (ltb-true a b e)
    by_value false e = inr (ltb-false a b e)

-- ── what statuses and phases say ──
election_unled : (c : Aspect) (o : ℕ) → c.status ≡ Election → LedBy c o → ⊥
election_unled c o e l = true≢false (sym (rw e at l.active))

not_both : (s : Status) → s ≡ Reorganization → is_election s ≡ true → ⊥
not_both s e h = true≢false (sym (rw e at h))

normal_active : (s : Status) → is_normal s ≡ true → is_active s ≡ true
normal_active Down e = e
normal_active Election e = e
normal_active Reorganization e = refl
normal_active Normal e = refl

doing_led : (c : Aspect) (t : TaskNo) → Doing c t → LedBy c c.coordinator
doing_led c t x = record { active = normal_active c.status x.normal; by = refl }

undealt_itself : (i : ℕ) (p : Phase) → DealtIn i p i → ⊥
undealt_itself i Free x = x
undealt_itself i Announces x = x
undealt_itself i Hands x = x
undealt_itself i (Asks j) x = omega arith
undealt_itself i (Halts j) x = x.1 refl

-- who has dealt with a lower one halts, and so is in Election, halted by itself
dealer : (i k : ℕ) (c : Aspect) → k < i → Dealt i c k → Suited i c → (c.status ≡ Election) × (c.halter ≡ i)
dealer i k c l = this_far c.phase
  where
    this_far : (p : Phase) → DealtIn i p k → Suits i c.status c.coordinator c.halter p → (c.status ≡ Election) × (c.halter ≡ i)
    this_far Free x y = absurd x
    this_far Announces x y = absurd x
    this_far Hands x y = absurd x
    this_far (Asks j) x y = absurd (omega arith)
    this_far (Halts j) x y = y

-- and it has dealt with all above that one
dealt_above : (i k l : ℕ) (p : Phase) → k < i → DealtIn i p k → k < l → (l ≡ i → ⊥) → DealtIn i p l
dealt_above i k l Free h x m n = absurd x
dealt_above i k l Announces h x m n = absurd x
dealt_above i k l Hands h x m n = absurd x
dealt_above i k l (Asks j) h x m n = absurd (omega arith)
dealt_above i k l (Halts j) h x m n = (omega arith, n)

-- who announces itself leads, and so does who hands a task out
announcer : (i : ℕ) (c : Aspect) → IsAnnouncing c.phase → Suited i c → (c.status ≡ Reorganization) × (c.coordinator ≡ i)
announcer i c = this_far c.phase
  where
    this_far : (p : Phase) → IsAnnouncing p → Suits i c.status c.coordinator c.halter p → (c.status ≡ Reorganization) × (c.coordinator ≡ i)
    this_far Free x y = absurd x
    this_far Announces x y = y
    this_far Hands x y = absurd x
    this_far (Asks j) x y = absurd x
    this_far (Halts j) x y = absurd x

hander : (i : ℕ) (c : Aspect) → IsHanding c.phase → Suited i c → (c.status ≡ Reorganization) × (c.coordinator ≡ i)
hander i c = this_far c.phase
  where
    this_far : (p : Phase) → IsHanding p → Suits i c.status c.coordinator c.halter p → (c.status ≡ Reorganization) × (c.coordinator ≡ i)
    this_far Free x y = absurd x
    this_far Announces x y = absurd x
    this_far Hands x y = y
    this_far (Asks j) x y = absurd x
    this_far (Halts j) x y = absurd x

not_announcing_and_handing : (p : Phase) → IsAnnouncing p → IsHanding p → ⊥
not_announcing_and_handing Free x y = x
not_announcing_and_handing Announces x y = y
not_announcing_and_handing Hands x y = x
not_announcing_and_handing (Asks j) x y = x
not_announcing_and_handing (Halts j) x y = x

-- one in Election, halted by another, may go over to Reorganization
led_suits : (k l : ℕ) (s : Status) (o h : ℕ) (p : Phase) → is_election s ≡ true → (h ≡ k → ⊥) → Suits k s o h p → Suits k Reorganization l h p
led_suits k l s o h Free e n x = tt
led_suits k l s o h Announces e n x = absurd (not_both s x.0 e)
led_suits k l s o h Hands e n x = absurd (not_both s x.0 e)
led_suits k l s o h (Asks j) e n x = tt
led_suits k l s o h (Halts j) e n x = absurd (n x.1)

-- one in Reorganization under another may go over to Normal
ready_suits : (k : ℕ) (s : Status) (o h : ℕ) (p : Phase) → s ≡ Reorganization → (o ≡ k → ⊥) → Suits k s o h p → Suits k Normal o h p
ready_suits k s o h Free e n x = tt
ready_suits k s o h Announces e n x = absurd (n x.1)
ready_suits k s o h Hands e n x = absurd (n x.1)
ready_suits k s o h (Asks j) e n x = tt
ready_suits k s o h (Halts j) e n x = absurd (let z : ◌≡◌ {A = ℕ} 0 1 = cc in omega arith)

module _ {f : ℕ → Aspect} (ok : Safe f) where
  announcing_leads : (i : ℕ) → IsAnnouncing (f i).phase → LedBy (f i) i
  announcing_leads i x =
      let y = announcer i (f i) x (ok.suited i) in
      record { active = rw y.0 refl; by = y.1 }

  handing_leads : (i : ℕ) → IsHanding (f i).phase → LedBy (f i) i
  handing_leads i x =
      let y = hander i (f i) x (ok.suited i) in
      record { active = rw y.0 refl; by = y.1 }

  -- ── the moves ──
  module _ (i : ℕ) (c : Aspect) (here : f i ≡ c) where
    suited_here : Suited i c
    suited_here = subst (Suited i) here (ok.suited i)

    -- on to another phase, where all that it then has dealt with is excused
    pub moves : (p : Phase) → Suits i c.status c.coordinator c.halter p → ((k : ℕ) → DealtIn i p k → Dealt i c k ⊎ Past f i k) → (IsAnnouncing p → IsAnnouncing c.phase) → (IsHanding p → IsHanding c.phase) → Safe (updated f i (moved c p))
    moves p s m a h =
        change_safe f i c (moved c p) here
        (record {
          suited = s;
          dealt = m;
          halted = λ m x. inl (record { election = x.election; by = x.by });
          led = λ o x. inl (record { active = x.active; by = x.by });
          announcing = λ x. inl (a x);
          doing = λ t x. inl (record { normal = x.normal; task = x.task });
          handing = λ t x. inl (record { hands = h x.hands; task = x.task });
        })
        ok

    -- to rest, Down
    pub rests : (d : Aspect) → d.status ≡ Down → d.phase ≡ Free → Safe (updated f i d)
    rests d s p =
        change_safe f i c d here
        (record {
          suited = rw p tt;
          dealt = λ k x. absurd (rw p at x);
          halted = λ m x. absurd (true≢false (sym (rw s at x.election)));
          led = λ o x. absurd (true≢false (sym (rw s at x.active)));
          announcing = λ x. absurd (rw p at x);
          doing = λ t x. absurd (true≢false (sym (rw s at x.normal)));
          handing = λ t x. absurd (rw p at x.hands);
        })
        ok

    -- the halting step: it has dealt with all above, and stops itself
    pub stops : 1 ≤ i → ((k : ℕ) → i < k → Dealt i c k ⊎ Past f i k) → Safe (updated f i (stopped c i (Halts (i - 1))))
    stops l above =
        change_safe f i c d here
        (record {
          suited = (refl, refl);
          dealt = λ k x. above k (higher k x);
          halted = λ m x. inr (subst (Halter f i d) x.by itself);
          led = λ o x. absurd (true≢false (sym x.active));
          announcing = λ x. absurd x;
          doing = λ t x. absurd (true≢false (sym x.normal));
          handing = λ t x. absurd x.hands;
        })
        ok
      where
        d : Aspect
        d = stopped c i (Halts (i - 1))

        higher : (k : ℕ) → Dealt i d k → i < k
        higher k x = let n : k ≡ i → ⊥ = x.1 in omega (arith, x.0)

        itself : Halter f i d i
        itself =
            record {
              high = le_refl i;
              clear = λ a h z.
                  ⊎_elim (λ y. omega (arith, higher a y)) (λ y. true≢false (sym y.active)) (rw (updated_same f i d) at z);
            }

    -- the election point: it has dealt with all others; 0 is nobody
    pub wins : c.phase ≡ Halts 0 → Past f i 0 → Safe (updated f i (under c i Announces))
    wins all nobody =
        change_safe f i c d here
        (record {
          suited = (refl, refl);
          dealt = λ k x. absurd x;
          halted = λ m x. absurd (true≢false (sym x.election));
          led = λ o x. inr (subst (Leader f i d) x.by (record { undealt = undealt; itself = λ _. itself; only = λ k p n y. absurd (others k p n y) }));
          announcing = λ _. inr none;
          doing = λ t x. absurd (true≢false (sym x.normal));
          handing = λ t x. absurd x.hands;
        })
        ok
      where
        d : Aspect
        d = under c i Announces

        -- it has dealt with every other node
        dealt : (k : ℕ) → 1 ≤ k → (k ≡ i → ⊥) → Dealt i (f i) k
        dealt k l n = rw (here, all) (l, n)

        halts : HaltedBy (f i) i
        halts = let y : Suits i c.status c.coordinator c.halter (Halts 0) = rw all at suited_here in rw here (record { election = rw y.0 refl; by = y.1 })

        -- nobody is led
        others : (k p : ℕ) → (k ≡ i → ⊥) → LedBy (f k) p → ⊥
        others zero p n y = nobody.unled p y
        others (suc k) p n y = ok.unled i (suc k) p (dealt (suc k) (omega arith) n) y

        -- nobody has dealt with it
        rival : (j : ℕ) → (j ≡ i → ⊥) → Dealt j (f j) i → ⊥
        rival zero n x = rw nobody.free at x
        rival (suc j) n x =
            ⊎_elim
            (λ l. ok.halter_not_past (suc j) i i l x halts (inl (dealt (suc j) (omega arith) n)))
            (λ l.
            let h : i < suc j = omega arith in
            let y = dealer (suc j) i (f (suc j)) h x (ok.suited (suc j)) in
            ok.halter_not_past i (suc j) (suc j) h (dealt (suc j) (omega arith) n) (record { election = rw y.0 refl; by = y.1 }) (inl x))
            (lt_or_ge (suc j) i)

        undealt : (j : ℕ) → Dealt j (updated f i d j) i → ⊥
        undealt j x = from (was f i d (λ (j : ℕ) (c : Aspect). Dealt j c i) j x)
          where
            from : Was f i d (λ (j : ℕ) (c : Aspect). Dealt j c i) j → ⊥
            from (new e y) = y
            from (old n y) = rival j n y

        itself : (a b : ℕ) → a < b → Dealt a (updated f i d a) b → HaltedBy (f b) i → ⊥
        itself a b l x h = from a l (was f i d (λ (j : ℕ) (c : Aspect). Dealt j c b) a x)
          where
            from : (a : ℕ) → a < b → Was f i d (λ (j : ℕ) (c : Aspect). Dealt j c b) a → ⊥
            from a l (new e y) = y
            from zero l (old n y) = rw nobody.free at y
            from (suc a) l (old n y) = ok.halter_not_past (suc a) b i l y h (inl (dealt (suc a) (omega arith) n))

        none : (k : ℕ) (t : TaskNo) → Doing (updated f i d k) t → ⊥
        none k t x = from (was f i d (λ (j : ℕ) (c : Aspect). Doing c t) k x)
          where
            from : Was f i d (λ (j : ℕ) (c : Aspect). Doing c t) k → ⊥
            from (new e y) = true≢false (sym y.normal)
            from (old n y) = others k (f k).coordinator n (doing_led (f k) t y)

    -- the end of the reorganization: it has a task to hand_next out
    pub gets_task : (t : TaskNo) → IsAnnouncing c.phase → Safe (updated f i (handing c t))
    gets_task t a =
        change_safe f i c (handing c t) here
        (record {
          suited = leads;
          dealt = λ k x. absurd x;
          halted = λ m x. inl (record { election = x.election; by = x.by });
          led = λ o x. inl (record { active = x.active; by = x.by });
          announcing = λ x. absurd x;
          doing = λ u x. absurd (true≢false (sym (rw leads.0 at x.normal)));
          handing = λ u x. inr (λ k v y. absurd (none k v y));
        })
        ok
      where
        leads : (c.status ≡ Reorganization) × (c.coordinator ≡ i)
        leads = announcer i c a suited_here

        none : (k : ℕ) (v : TaskNo) → Doing (updated f i (handing c t) k) v → ⊥
        none k v x = from (was f i (handing c t) (λ (j : ℕ) (c : Aspect). Doing c v) k x)
          where
            from : Was f i (handing c t) (λ (j : ℕ) (c : Aspect). Doing c v) k → ⊥
            from (new e y) = true≢false (sym (rw leads.0 at y.normal))
            from (old n y) = ok.none_normal i k v (rw here a) y

    -- the end of the election
    pub settles : IsHanding c.phase → Safe (updated f i (normal c c.task Free))
    settles a =
        change_safe f i c d here
        (record {
          suited = tt;
          dealt = λ k x. absurd x;
          halted = λ m x. absurd (true≢false (sym x.election));
          led = λ o x. inl (record { active = rw leads.0 refl; by = x.by });
          announcing = λ x. absurd x;
          doing = λ t x. inr (subst (Given f i d) x.task given);
          handing = λ t x. absurd x.hands;
        })
        ok
      where
        d : Aspect
        d = normal c c.task Free

        leads : (c.status ≡ Reorganization) × (c.coordinator ≡ i)
        leads = hander i c a suited_here

        hands : IsHanding (f i).phase
        hands = rw here a

        settled : (j : ℕ) → Was f i d (λ (j : ℕ) (c : Aspect). IsAnnouncing c.phase) j → ⊥
        settled j (new e y) = y
        settled j (old n y) = n (ok.one_leader j i j i (announcing_leads j y) (handing_leads i hands))

        handed : (k : ℕ) (u : TaskNo) → Was f i d (λ (j : ℕ) (c : Aspect). HandingOut c u) k → c.task ≡ u
        handed k u (new e y) = absurd y.hands
        handed k u (old n y) = absurd (n (ok.one_leader k i k i (handing_leads k y.hands) (handing_leads i hands)))

        given : Given f i d c.task
        given =
            record {
              settled = λ j x. settled j (was f i d (λ (j : ℕ) (c : Aspect). IsAnnouncing c.phase) j x);
              others = λ k u x. sym (ok.handed_task k i u c.task x (rw here (record { hands = a; task = refl })));
              handed = λ k u x. handed k u (was f i d (λ (j : ℕ) (c : Aspect). HandingOut c u) k x);
            }

  -- ── calls: what node l does to node k ──
  module _ (l k : ℕ) (c : Aspect) (here : f k ≡ c) where
    -- Halt
    pub is_halted : (f l).phase ≡ Halts k → k < l → Safe (updated f k (stopped c l Free))
    is_halted p h =
        change_safe f k c d here
        (record {
          suited = tt;
          dealt = λ j x. absurd x;
          halted = λ m x. inr (subst (Halter f k d) x.by by);
          led = λ o x. absurd (true≢false (sym x.active));
          announcing = λ x. absurd x;
          doing = λ t x. absurd (true≢false (sym x.normal));
          handing = λ t x. absurd x.hands;
        })
        ok
      where
        d : Aspect
        d = stopped c l Free

        halts : Suits l (f l).status (f l).coordinator (f l).halter (Halts k)
        halts = rw p at (ok.suited l)

        by : Halter f k d l
        by =
            record {
              high = omega arith;
              clear = λ a m z.
                  ⊎_elim
                  (λ y. let q : (k < a) × (a ≡ l → ⊥) = rw p at y in omega (arith, q.0))
                  (λ y. election_unled (f l) l halts.0 y)
                  (rw (updated_other f k d l (λ e. omega arith)) at z);
            }

    -- NewCoordinator
    pub is_led : IsAnnouncing (f l).phase → (k ≡ l → ⊥) → HaltedBy c l → Safe (updated f k (under c l c.phase))
    is_led a n h =
        change_safe f k c d here
        (record {
          suited = led_suits k l c.status c.coordinator c.halter c.phase h.election (λ e. n (sym e ∙ h.by)) (subst (Suited k) here (ok.suited k));
          dealt = λ j x. inl x;
          halted = λ m x. absurd (true≢false (sym x.election));
          led = λ o x. inr (subst (Leader f k d) x.by (record { undealt = undealt; itself = λ e. absurd (n (sym e)); only = λ j p _ y. ok.one_leader l j l p leads y }));
          announcing = λ x. inl x;
          doing = λ t x. absurd (true≢false (sym x.normal));
          handing = λ t x. inl (record { hands = x.hands; task = x.task });
        })
        ok
      where
        d : Aspect
        d = under c l c.phase

        leads : LedBy (f l) l
        leads = announcing_leads l a

        halted : HaltedBy (f k) l
        halted = rw here h

        higher : k < l
        higher = omega (arith, n, ok.halter_high k l halted)

        -- nobody has dealt with k
        rival : (j : ℕ) → (j ≡ k → ⊥) → Dealt j (f j) k → ⊥
        rival j m x =
            ⊎_elim
            (λ q. ok.halter_not_past j k l q x halted (inr leads))
            (λ q.
            let g : k < j = omega arith in
            let y = dealer j k (f j) g x (ok.suited j) in
            ok.unled j l l (dealt_above j k l (f j).phase g x higher (λ e. election_unled (f l) l (rw e y.0) leads)) leads)
            (lt_or_ge j k)

        undealt : (j : ℕ) → Dealt j (updated f k d j) k → ⊥
        undealt j x = from (was f k d (λ (j : ℕ) (c : Aspect). Dealt j c k) j x)
          where
            from : Was f k d (λ (j : ℕ) (c : Aspect). Dealt j c k) j → ⊥
            from (new e y) = undealt_itself k c.phase y
            from (old m y) = rival j m y

    -- Ready
    pub is_ready : IsHanding (f l).phase → (k ≡ l → ⊥) → c.status ≡ Reorganization → c.coordinator ≡ l → Safe (updated f k (normal c (f l).task c.phase))
    is_ready a n s o =
        change_safe f k c d here
        (record {
          suited = ready_suits k c.status c.coordinator c.halter c.phase s other suited_here;
          dealt = λ j x. inl x;
          halted = λ m x. absurd (true≢false (sym x.election));
          led = λ p x. inl (record { active = rw s refl; by = x.by });
          announcing = λ x. inl x;
          doing = λ t x. inr (subst (Given f k d) x.task given);
          handing = λ t x. absurd (other (hander k c x.hands suited_here).1);
        })
        ok
      where
        d : Aspect
        d = normal c (f l).task c.phase

        other : c.coordinator ≡ k → ⊥
        other e = n (sym e ∙ o)

        suited_here : Suited k c
        suited_here = subst (Suited k) here (ok.suited k)

        leads : LedBy (f l) l
        leads = handing_leads l a

        settled : (j : ℕ) → Was f k d (λ (j : ℕ) (c : Aspect). IsAnnouncing c.phase) j → ⊥
        settled j (new e y) = other (announcer k c y suited_here).1
        settled j (old m y) =
            let e : j ≡ l = ok.one_leader j l j l (announcing_leads j y) leads in
            not_announcing_and_handing (f l).phase (rw e at y) a

        handed : (j : ℕ) (u : TaskNo) → Was f k d (λ (j : ℕ) (c : Aspect). HandingOut c u) j → (f l).task ≡ u
        handed j u (new e y) = absurd (other (hander k c y.hands suited_here).1)
        handed j u (old m y) =
            let e : j ≡ l = ok.one_leader j l j l (handing_leads j y.hands) leads in
            ap (λ (j : ℕ). (f j).task) (sym e) ∙ y.task

        given : Given f k d (f l).task
        given =
            record {
              settled = λ j x. settled j (was f k d (λ (j : ℕ) (c : Aspect). IsAnnouncing c.phase) j x);
              others = λ j u x. sym (ok.handed_task j l u (f l).task x (record { hands = a; task = refl }));
              handed = λ j u x. handed j u (was f k d (λ (j : ℕ) (c : Aspect). HandingOut c u) j x);
            }
