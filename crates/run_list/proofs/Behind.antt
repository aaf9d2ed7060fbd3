-- The run behind a printed text: for any bytes at all whose first field is good.
use Prim.Native.Nat.{ℕ, zero, suc, ◌+◌, ◌-◌, ◌≤◌, ◌<◌}
use native.Mathlib.Omega.{arith}
use mathlib.Core.Path.{◌≡◌, refl, sym, ◌∙◌, ap, subst}
use mathlib.Core.List.{List, [], ◌∷◌, ◌++◌, append_assoc}
use lib.ListN.{length, get_or, take, drop}
use Rattle.model.specs.Range.{TwoPairs}
use Rattle.model.specs.State.{starting_node, start, node_at}
use Rattle.model.specs.Step.{run}
use Rattle.model.specs.History.{Task}
use Rattle.model.specs.Node.{is_active}
use Rattle.model.specs.Claims.{MayStart, RunFixes}
use Rattle.model.specs.declared.Limits.{Limits}
use Rattle.model.specs.declared.Event.{Event}
use Rattle.model.specs.declared.Node.{Node}
use Rattle.model.specs.declared.Status.TheVariants.{Normal}
use Rattle.model.proofs.TowerAndStand.{holds}
use Rattle.model.proofs.Fields.{in_range_size}
use Rattle.model.proofs.InRange.{stays_in_range}
use Rattle.machine.proofs.Runs.{run_nodes}
use Rattle.std.specs.Prelude.{Ok, Err}
use Rattle.event_list.specs.Format.{First, first_of, Reading, begun, listed, reading}
use Rattle.event_list.proofs.Reading.{first_good}
use Rattle.listing.specs.Lines.{cabinets_line, node_line, messages_line, node_lines, table_lines, total_lines}
use Rattle.run_list.specs.Text.{refused_lines, ending_lines, run_lines, lines_with}
use Rattle.run_list.specs.Claims.{lines_before, lines_behind, Behind}

pub nodes_good : (l : List ℕ) (n : ℕ) (lim : Limits) (r : Reading) → reading l ≡ begun n lim r → MayStart TwoPairs n lim
unfolding reading
nodes_good l n lim r e = by (first_of l) refl e
  where
    by : (x : First) → x ≡ first_of l → listed l x ≡ begun n lim r → MayStart TwoPairs n lim
    by (Err s) i f = let z : ◌≡◌ {A = ℕ} 0 1 = cc in absurd (omega arith)
    by (Ok (m, k)) i f =
        let g = (first_good l i refl).2 in
        let z : m ≡ n = cc in
        let y : k ≡ lim = cc in
        subst (λ (j : ℕ). MayStart TwoPairs j lim) z (subst (MayStart TwoPairs m) y g)

-- the line of the record at j, among those of records of which the first is node k
line_at : (k : ℕ) (cs : List Node) (j : ℕ) → j < length cs
    → node_lines k cs ≡ node_lines k (take j cs) ++ (node_line (k + j) (get_or cs j starting_node) ∷ node_lines (k + j + 1) (drop (suc j) cs))
unfolding node_lines
line_at k [] j h = absurd (omega arith)
line_at k (c ∷ cs) zero h = let z : k + 0 ≡ k = omega arith in rw z refl
line_at k (c ∷ cs) (suc j) h =
    let z : k + 1 + j ≡ k + suc j = omega arith in
    ap (λ (x : List (List ℕ)). node_line k c ∷ x) (line_at (k + 1) cs j (omega arith) ∙ rw z refl)

regrouped : (a b c f m : List (List ℕ)) (d : List ℕ) (x : List (List ℕ)) → x ≡ c ++ (d ∷ f) → a ++ (b ++ (x ++ m)) ≡ (a ++ (b ++ c)) ++ (d ∷ (f ++ m))
regrouped a b c f m d x e =
    ap (λ (y : List (List ℕ)). a ++ (b ++ (y ++ m))) e
    ∙ ap (λ (y : List (List ℕ)). a ++ (b ++ y)) (append_assoc c (d ∷ f) m)
    ∙ ap (λ (y : List (List ℕ)). a ++ y) (sym (append_assoc b c (d ∷ (f ++ m))))
    ∙ sym (append_assoc a (b ++ c) (d ∷ (f ++ m)))

-- the line of node i, among all that are printed
line_of : (n : ℕ) (lim : Limits) (r : Reading) (i : ℕ) → MayStart TwoPairs n lim → 1 ≤ i → i ≤ n
    → cabinets_line n ∷ run_lines (start n lim) 1 r ≡ lines_before n lim r i ++ (node_line i (node_at (run n lim r.events) i) ∷ lines_behind n lim r i)
unfolding table_lines
line_of n lim r i m l h =
    let s = run n lim r.events in
    let g = in_range_size s (stays_in_range.runs TwoPairs n lim m r.events) in
    let k = run_nodes n lim r.events in
    let x : 1 + (i - 1) ≡ i = omega arith in
    let y : suc (i - 1) ≡ i = omega arith in
    ap (λ (z : List (List ℕ)). cabinets_line n ∷ z)
    (regrouped (refused_lines (start n lim) 1 r.events) (ending_lines r.ending) (node_lines 1 (take (i - 1) s.nodes)) (node_lines (i + 1) (drop i s.nodes))
    (messages_line (length s.queue) ∷ total_lines s) (node_line i (node_at s i)) (node_lines 1 s.nodes)
    (line_at 1 s.nodes (i - 1) (omega (arith, l, h, k, g.2))
    ∙ ap (λ (z : ℕ). node_lines 1 (take (i - 1) s.nodes) ++ (node_line z (node_at s i) ∷ node_lines (z + 1) (drop (suc (i - 1)) s.nodes))) x
    ∙ ap (λ (z : ℕ). node_lines 1 (take (i - 1) s.nodes) ++ (node_line i (node_at s i) ∷ node_lines (i + 1) (drop z s.nodes))) y))

pub behind : (l : List ℕ) (n : ℕ) (lim : Limits) (r : Reading) → reading l ≡ begun n lim r → Behind l n lim r
unfolding lines_with
behind l n lim r e =
    let g = nodes_good l n lim r e in
    let h = holds TwoPairs n lim g in
    let d = h.fixes in
    record {
      starts = g;
      text = rw e;
      node_line_lem = λ i l h. rw e (line_of n lim r i g l h);
      holds = h;
      agree = λ i j h₁ h₂ k₁ k₂ p q s. (
        d.same_coordinator r.events i j h₁ h₂ k₁ k₂ (ap is_active p) (ap is_active q) s,
        same d r.events i j h₁ h₂ k₁ k₂ p q s,
      );
    }
  where
    same : RunFixes TwoPairs n lim → (es : List Event) (i j : ℕ) → 1 ≤ i → i ≤ n → 1 ≤ j → j ≤ n
        → (node_at (run n lim es) i).status ≡ Normal → (node_at (run n lim es) j).status ≡ Normal
        → (node_at (run n lim es) i).group.number ≡ (node_at (run n lim es) j).group.number
        → (node_at (run n lim es) i).task.number ≡ (node_at (run n lim es) j).task.number
    same d es i j h₁ h₂ k₁ k₂ p q s =
        let a = d.fixed_task es es i h₁ h₂ p in
        let b = d.fixed_task es es j k₁ k₂ q in
        let z : Task (node_at (run n lim es) i).task.number ≡ Task (node_at (run n lim es) j).task.number = sym a ∙ rw s b in
        cc
