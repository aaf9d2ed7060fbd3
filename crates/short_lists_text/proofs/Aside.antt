-- The lists from a table do not depend on its counts, as long as no count comes to its end.
use Prim.Native.Nat.{ℕ, zero, suc, ◌+◌, ◌<◌}
use native.Mathlib.Omega.{arith}
use mathlib.Core.Bool.{true}
use mathlib.Core.Path.{◌≡◌, refl, sym, ◌∙◌, ap, subst}
use mathlib.Core.List.{◌∷◌, map}
use Rattle.model.specs.Limits.{traffic_end}
use Rattle.model.specs.State.{State, counts_aside, in_range}
use Rattle.model.specs.Step.{Result, refused, accepted, step, kept, aside}
use Rattle.model.specs.declared.Mark.{Mark}
use Rattle.model.specs.declared.Event.{Event}
use Rattle.model.proofs.InRange.{stays_in_range}
use Rattle.model.proofs.Waiting.{waiting_in}
use Rattle.model.proofs.Fields.{in_range_pair}
use Rattle.model.proofs.Aside.{Room, room_after, waiting_small, in_range_base, result_aside, aside_result}
use Rattle.short_lists_text.specs.Rows.{concat_map}
use Rattle.short_lists_text.specs.Lists.{alphabet, continued, lists_from}
use Rattle.short_lists_text.proofs.Rows.{same_rows}

-- a table in range, with room for j more of each count of what was sent
pub record HasRoom (j : ℕ) (s : State) : Type 0 where
  pub range : in_range s ≡ true
  pub room : Room j s.sent

-- after an event there is room for one fewer
pub keeps_room : (j : ℕ) (s : State) (e : Event) (u : State) (k : Mark) → HasRoom (suc j) s → step s e ≡ accepted u k → HasRoom j u
keeps_room j s e u k h q = record {
  range = stays_in_range.keeps s e u k q;
  room = subst (λ r. Room j (kept s r).sent) q (room_after j s e h.room);
}

-- tables that differ in nothing but their counts have the same lists
same_lists : (m : ℕ) (s u : State) → counts_aside s ≡ counts_aside u → HasRoom m s → HasRoom m u → lists_from m s ≡ lists_from m u
unfolding lists_from
same_lists zero s u c h i = refl
same_lists (suc m) s u c h i =
    same_rows _ _ (λ e. by (same_lists m) e (step s e) (step u e) refl refl (answers e)) (alphabet s.n)
    ∙ ap (λ (x : State). concat_map (λ e. continued e (step u e) (lists_from m)) (alphabet x.n)) c
  where
    answers : (e : Event) → aside (step s e) ≡ aside (step u e)
    answers e =
        aside_result s e h.range (λ k. omega (arith, h.room k))
        ∙ ap (λ (x : State). result_aside x e) c
        ∙ sym (aside_result u e i.range (λ k. omega (arith, i.room k)))

    by : ((v w : State) → counts_aside v ≡ counts_aside w → HasRoom m v → HasRoom m w → lists_from m v ≡ lists_from m w)
        → (e : Event) (r q : Result) → step s e ≡ r → step u e ≡ q → aside r ≡ aside q → continued e r (lists_from m) ≡ continued e q (lists_from m)
    by f e (refused x) (refused y) a b p = refl
    by f e (refused x) (accepted v k) a b p = absurd (let z : ◌≡◌ {A = ℕ} 0 1 = cc in omega arith)
    by f e (accepted v k) (refused y) a b p = absurd (let z : ◌≡◌ {A = ℕ} 0 1 = cc in omega arith)
    by f e (accepted v k) (accepted w l) a b p =
        ap (map (λ l. e ∷ l)) (f v w (cc) (keeps_room m s e v k h a) (keeps_room m u e w l i b))

-- so those from a table are those from it with its counts set aside
pub lists_aside : (m : ℕ) (s : State) → m + 64 < traffic_end → HasRoom m s → lists_from m s ≡ lists_from m (counts_aside s)
lists_aside m s l h =
    let b = in_range_base s h.range in
    let p = in_range_pair s h.range in
    same_lists m s (counts_aside s) refl h
    (record {
      range = waiting_in s.rule s.n s.limits s.nodes s.queue p b.0 b.1;
      room = λ k. omega (arith, l, waiting_small s.rule s.n s.limits s.nodes s.queue p b.0 b.1 k);
    })
