-- A change of one node's aspect keeps the invariant, where each thing that is new about it is excused. Moves has the changes.
use Prim.Native.Nat.{ℕ, ◌≤◌, ◌<◌}
use mathlib.Core.Bool.{Bool, true, false}
use mathlib.Core.Logic.{◌⊎◌, inl, inr, ⊎_elim}
use mathlib.Core.Path.{◌≡◌, refl, sym, ◌∙◌, subst, fun_ext}
use lib.Dec.{eqb}
use borrow.Author.Tests.{eqb-true, eqb-false}
use Rattle.model.specs.Pick.{pick, by_test}
use Rattle.model.specs.History.{updated}
use Rattle.model.specs.declared.TaskNo.{TaskNo}
use Rattle.bully_model.proofs.Invariant.{Free, Aspect, Dealt, HaltedBy, LedBy, Doing, IsAnnouncing, HandingOut, Suited, Safe}

-- ── a function changed at one number ──

-- what holds of j after a change at i to d: j is i and it holds of d, or j is another and it held of j before
pub data Was (f : ℕ → Aspect) (i : ℕ) (d : Aspect) (P : ℕ → Aspect → Type 0) (j : ℕ) : Type 0 where
  new : j ≡ i → P i d → Was f i d P j
  old : (j ≡ i → ⊥) → P j (f j) → Was f i d P j

pub was : (f : ℕ → Aspect) (i : ℕ) (d : Aspect) (P : ℕ → Aspect → Type 0) (j : ℕ) → P j (updated f i d j) → Was f i d P j
unfolding updated
was f i d P j =
    by_test (λ (c : Aspect). P j c → Was f i d P j)
    (λ e x. new (eqb-true j i e) (subst (λ (k : ℕ). P k d) (eqb-true j i e) x))
    (λ e x. old (eqb-false j i e) x)

pub everywhere : (f : ℕ → Aspect) (i : ℕ) (d : Aspect) (P : ℕ → Aspect → Type 0) → P i d → ((j : ℕ) → P j (f j)) → (j : ℕ) → P j (updated f i d j)
unfolding updated
everywhere f i d P x y j = by_test (P j) (λ e. subst (λ (k : ℕ). P k d) (sym (eqb-true j i e)) x) (λ _. y j)

pub updated_twice : (f : ℕ → Aspect) (i : ℕ) (c d : Aspect) → updated (updated f i c) i d ≡ updated f i d
unfolding updated pick
updated_twice f i c d = fun_ext (λ j. chosen (f j) (eqb j i))
  where
    chosen : (e : Aspect) (b : Bool) → pick b d (pick b c e) ≡ pick b d e
    chosen e true = refl
    chosen e false = refl

-- ── what excuses a change ──
module _ (f : ℕ → Aspect) (i : ℕ) where
  -- node i may count k among those it has dealt with
  pub record Past (k : ℕ) : Type 0 where
    pub free : (f k).phase ≡ Free
    pub unled : (o : ℕ) → LedBy (f k) o → ⊥
    pub lower : (m : ℕ) → i < k → HaltedBy (f k) m → ⊥

  module _ (d : Aspect) where
    -- m may halt node i
    pub record Halter (m : ℕ) : Type 0 where
      pub high : i ≤ m
      pub clear : (a : ℕ) → a < i → Dealt m (updated f i d m) a ⊎ LedBy (updated f i d m) m → ⊥

    -- o may lead node i
    pub record Leader (o : ℕ) : Type 0 where
      pub undealt : (j : ℕ) → Dealt j (updated f i d j) i → ⊥
      pub itself : o ≡ i → (a b : ℕ) → a < b → Dealt a (updated f i d a) b → HaltedBy (f b) i → ⊥
      pub only : (k p : ℕ) → (k ≡ i → ⊥) → LedBy (f k) p → o ≡ p

    -- node i may be Normal with the task t
    pub record Given (t : TaskNo) : Type 0 where
      pub settled : (j : ℕ) → IsAnnouncing (updated f i d j).phase → ⊥
      pub others : (k : ℕ) (u : TaskNo) → Doing (f k) u → t ≡ u
      pub handed : (k : ℕ) (u : TaskNo) → HandingOut (updated f i d k) u → t ≡ u

-- node i changes from c to d
pub record Change (f : ℕ → Aspect) (i : ℕ) (c d : Aspect) : Type 0 where
  pub suited : Suited i d
  pub dealt : (k : ℕ) → Dealt i d k → Dealt i c k ⊎ Past f i k
  pub halted : (m : ℕ) → HaltedBy d m → HaltedBy c m ⊎ Halter f i d m
  pub led : (o : ℕ) → LedBy d o → LedBy c o ⊎ Leader f i d o
  pub announcing : IsAnnouncing d.phase → IsAnnouncing c.phase ⊎ ((k : ℕ) (t : TaskNo) → Doing (updated f i d k) t → ⊥)
  pub doing : (t : TaskNo) → Doing d t → Doing c t ⊎ Given f i d t
  pub handing : (t : TaskNo) → HandingOut d t → HandingOut c t ⊎ ((k : ℕ) (u : TaskNo) → Doing (updated f i d k) u → u ≡ t)

module _ (f : ℕ → Aspect) (i : ℕ) (c d : Aspect) (here : f i ≡ c) (x : Change f i c d) (ok : Safe f) where
  -- what holds of j after the change held before, or node i is excused
  before : (P : ℕ → Aspect → Type 0) (E : Type 0) → (P i d → P i c ⊎ E) → (j : ℕ) → P j (updated f i d j) → P j (f j) ⊎ ((j ≡ i) × E)
  before P E h j y = from (was f i d P j y)
    where
      from : Was f i d P j → P j (f j) ⊎ ((j ≡ i) × E)
      from (new e z) = ⊎_elim (λ p. inl (subst (λ (k : ℕ). P k (f k)) (sym e) (subst (P i) (sym here) p))) (λ q. inr (e, q)) (h z)
      from (old n z) = inl z

  dealt_before : (j k : ℕ) → Dealt j (updated f i d j) k → Dealt j (f j) k ⊎ ((j ≡ i) × Past f i k)
  dealt_before j k = before (λ (j : ℕ) (c : Aspect). Dealt j c k) (Past f i k) (x.dealt k) j

  halted_before : (j m : ℕ) → HaltedBy (updated f i d j) m → HaltedBy (f j) m ⊎ ((j ≡ i) × Halter f i d m)
  halted_before j m = before (λ (j : ℕ) (c : Aspect). HaltedBy c m) (Halter f i d m) (x.halted m) j

  led_before : (j o : ℕ) → LedBy (updated f i d j) o → LedBy (f j) o ⊎ ((j ≡ i) × Leader f i d o)
  led_before j o = before (λ (j : ℕ) (c : Aspect). LedBy c o) (Leader f i d o) (x.led o) j

  doing_before : (j : ℕ) (t : TaskNo) → Doing (updated f i d j) t → Doing (f j) t ⊎ ((j ≡ i) × Given f i d t)
  doing_before j t = before (λ (j : ℕ) (c : Aspect). Doing c t) (Given f i d t) (x.doing t) j

  halter_high : (j m : ℕ) → HaltedBy (updated f i d j) m → j ≤ m
  halter_high j m h = ⊎_elim (ok.halter_high j m) (λ y. rw y.0 y.1.high) (halted_before j m h)

  unled : (j k o : ℕ) → Dealt j (updated f i d j) k → LedBy (updated f i d k) o → ⊥
  unled j k o y z =
      ⊎_elim
      (λ l. ⊎_elim (λ p. ok.unled j k o p l) (λ p. p.1.unled o l) (dealt_before j k y))
      (λ l. l.1.undealt j (rw l.0 at y))
      (led_before k o z)

  halter_not_past : (a b m : ℕ) → a < b → Dealt a (updated f i d a) b → HaltedBy (updated f i d b) m → Dealt m (updated f i d m) a ⊎ LedBy (updated f i d m) m → ⊥
  halter_not_past a b m l p q r =
      ⊎_elim
      (λ h. ⊎_elim (λ e. past h e) (λ e. e.1.lower m (rw e.0 at l) h) (dealt_before a b p))
      (λ h. h.1.clear a (rw h.0 at l) r)
      (halted_before b m q)
    where
      past : HaltedBy (f b) m → Dealt a (f a) b → ⊥
      past h e =
          ⊎_elim
          (λ y. ⊎_elim (λ g. ok.halter_not_past a b m l e h (inl g)) (λ g. rw g.1.free at e) (dealt_before m a y))
          (λ y. ⊎_elim (λ g. ok.halter_not_past a b m l e h (inr g)) (λ g. g.1.itself g.0 a b l p (rw g.0 at h)) (led_before m m y))
          r

  one_leader : (j k o p : ℕ) → LedBy (updated f i d j) o → LedBy (updated f i d k) p → o ≡ p
  one_leader j k o p y z = from (was f i d (λ (j : ℕ) (c : Aspect). LedBy c o) j y) (was f i d (λ (j : ℕ) (c : Aspect). LedBy c p) k z)
    where
      one : (o k p : ℕ) → LedBy d o → (k ≡ i → ⊥) → LedBy (f k) p → o ≡ p
      one o k p y n z = ⊎_elim (λ l. ok.one_leader i k o p (subst (λ (c : Aspect). LedBy c o) (sym here) l) z) (λ l. l.only k p n z) (x.led o y)

      from : Was f i d (λ (j : ℕ) (c : Aspect). LedBy c o) j → Was f i d (λ (j : ℕ) (c : Aspect). LedBy c p) k → o ≡ p
      from (new e y) (new e' z) = sym y.by ∙ z.by
      from (new e y) (old n z) = one o k p y n z
      from (old n y) (new e z) = sym (one p j o z n y)
      from (old n y) (old n' z) = ok.one_leader j k o p y z

  none_normal : (j k : ℕ) (t : TaskNo) → IsAnnouncing (updated f i d j).phase → Doing (updated f i d k) t → ⊥
  none_normal j k t y z =
      ⊎_elim
      (λ g. ⊎_elim (λ a. ok.none_normal j k t a g) (λ a. a.1 k t z) (before (λ (j : ℕ) (c : Aspect). IsAnnouncing c.phase) ((k : ℕ) (t : TaskNo) → Doing (updated f i d k) t → ⊥) x.announcing j y))
      (λ g. g.1.settled j y)
      (doing_before k t z)

  one_task : (j k : ℕ) (t u : TaskNo) → Doing (updated f i d j) t → Doing (updated f i d k) u → t ≡ u
  one_task j k t u y z = from (was f i d (λ (j : ℕ) (c : Aspect). Doing c t) j y) (was f i d (λ (j : ℕ) (c : Aspect). Doing c u) k z)
    where
      one : (k : ℕ) (t u : TaskNo) → Doing d t → Doing (f k) u → t ≡ u
      one k t u y z = ⊎_elim (λ l. ok.one_task i k t u (subst (λ (c : Aspect). Doing c t) (sym here) l) z) (λ l. l.others k u z) (x.doing t y)

      from : Was f i d (λ (j : ℕ) (c : Aspect). Doing c t) j → Was f i d (λ (j : ℕ) (c : Aspect). Doing c u) k → t ≡ u
      from (new e y) (new e' z) = sym y.task ∙ z.task
      from (new e y) (old n z) = one k t u y z
      from (old n y) (new e z) = sym (one j u t z y)
      from (old n y) (old n' z) = ok.one_task j k t u y z

  handed_task : (j k : ℕ) (t u : TaskNo) → Doing (updated f i d j) t → HandingOut (updated f i d k) u → t ≡ u
  handed_task j k t u y z =
      ⊎_elim
      (λ g. ⊎_elim (λ h. ok.handed_task j k t u g h) (λ h. h.1 j t y)
      (before (λ (j : ℕ) (c : Aspect). HandingOut c u) ((k : ℕ) (v : TaskNo) → Doing (updated f i d k) v → v ≡ u) (x.handing u) k z))
      (λ g. g.1.handed k u z)
      (doing_before j t y)

  pub change_safe : Safe (updated f i d)
  change_safe =
      record {
        suited = everywhere f i d Suited x.suited ok.suited;
        halter_high = halter_high;
        unled = unled;
        halter_not_past = halter_not_past;
        one_leader = one_leader;
        none_normal = none_normal;
        one_task = one_task;
        handed_task = handed_task;
      }
