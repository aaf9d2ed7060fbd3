-- The turns behind a printed text: the claim `AllRestBehind`.
use Prim.Native.Nat.{ℕ, ◌≤◌}
use mathlib.Core.Path.{◌≡◌, sym, ◌∙◌, ap, subst}
use mathlib.Core.List.{◌∷◌, ◌++◌}
use lib.ListN.{length}
use borrow.Author.Tests.{eqb-true}
use Rattle.model.specs.Node.{is_active}
use Rattle.model.specs.Range.{TwoPairs}
use Rattle.model.specs.State.{State, start, node_at}
use Rattle.model.specs.Step.{run}
use Rattle.model.proofs.Whole.{run_append}
use Rattle.model.specs.declared.Status.TheVariants.{Normal}
use Rattle.listing.specs.Lines.{messages_line, total_lines, node_lines, table_lines}
use Rattle.run_list.specs.Text.{lines_with}
use Rattle.run_list.proofs.Behind.{nodes_good}
use Rattle.model.proofs.TowerAndStand.{holds}
use Rattle.rest_bound.specs.Turns.{table_at_rest}
use Rattle.rest_bound.proofs.Turns.{rest_is, driver_rests}
use Rattle.rest_list.specs.Claims.{last_table, turn_events, AllRestBehind}

pub all_rest_behind : AllRestBehind
unfolding lines_with table_lines
all_rest_behind l n lim r e =
    let g = nodes_good l n lim r e in
    let h = holds TwoPairs n lim g in
    let d = driver_rests TwoPairs n lim h in
    let s = last_table n lim r in
    let z : table_at_rest s ≡ run n lim (r.events ++ turn_events n lim r) = rest_is s ∙ sym (run_append (start n lim) r.events (turn_events n lim r)) in
    record {
      starts = g;
      text = rw e;
      rests = d.first r.events;
      within = d.within r.events;
      messages = ap (λ (k : ℕ). node_lines 1 (table_at_rest s).nodes ++ (messages_line k ∷ total_lines (table_at_rest s))) (eqb-true (length (table_at_rest s).queue) 0 (d.first r.events).empty);
      is_run = z;
      holds = h;
      agree = subst (λ (u : State). (i j : ℕ) → 1 ≤ i → i ≤ n → 1 ≤ j → j ≤ n → (node_at u i).status ≡ Normal → (node_at u j).status ≡ Normal
          → (node_at u i).group.number ≡ (node_at u j).group.number → ((node_at u i).coordinator ≡ (node_at u j).coordinator) × ((node_at u i).task.number ≡ (node_at u j).task.number))
          (sym z)
          (λ i j a b c f p q s. (
            h.fixes.same_coordinator (r.events ++ turn_events n lim r) i j a b c f (ap is_active p) (ap is_active q) s,
            h.fixes.same_task (r.events ++ turn_events n lim r) i j a b c f p q s,
          ));
    }
