-- What specs/Claims says of both ways, from the laws of fields, of parsed lines and of what a text says.
use Prim.Native.Nat.{ℕ, ◌≤◌}
use native.Mathlib.Omega.{arith}
use mathlib.Core.Path.{◌≡◌, refl, sym, ◌∙◌, ap, subst}
use mathlib.Core.List.{List, [], ◌∷◌, ◌++◌, map, append-nil}
use lib.ListN.{length}
use Rattle.model.specs.Pick.{by_test}
use Rattle.model.specs.declared.Limits.{Limits}
use Rattle.model.specs.declared.Event.{Event}
use Rattle.event_list.specs.declared.Stop.{Stop}
use Rattle.event_list.specs.declared.Stop.TheVariants.{WrongCount}
use Rattle.event_list.specs.Format.{First, max_bytes, tag_at, limits_of, nodes_of, Ending, complete, Reading, Listed, failed, begun, reading}
use Rattle.listing.specs.Printing.{joined}
use Rattle.run_list.specs.Text.{ending_lines}
use Rattle.list_text.specs.Text.{opening_line, event_line, shown_lines, list_lines, list_text}
use Rattle.list_text.specs.Words.{AllBytes}
use Rattle.list_text.specs.Script.{list_bytes, Script, wrong_at, script, script_of, Outcome, bad, list, outcome, list_of}
use Rattle.list_text.specs.Claims.{ReadsBack, TextReads, opened}
use Rattle.list_text.proofs.Fields.{fields_read, fields_only, fields_bytes}
use Rattle.list_text.proofs.Lines.{lines_read, pasted_read}
use Rattle.list_text.proofs.Script.{script_fits}

-- the text of a list that reads to its end has the lines of its events, and no other behind the first
pub text_is : (l : List ℕ) (n : ℕ) (lim : Limits) (r : Reading) → reading l ≡ begun n lim r → r.ending ≡ complete → list_text l ≡ joined (opening_line (tag_at l 0) n ∷ map event_line r.events)
unfolding list_lines
text_is l n lim r e q = ap (λ (x : Listed). joined (shown_lines (tag_at l 0) x)) e ∙ ap (λ (m : List (List ℕ)). joined (opening_line (tag_at l 0) n ∷ m)) whole
  where
    whole : map event_line r.events ++ ending_lines r.ending ≡ map event_line r.events
    whole = ap (λ (x : Ending). map event_line r.events ++ ending_lines x) q ∙ append-nil _

good_read : (l : List ℕ) (n : ℕ) (lim : Limits) (r : Reading) → AllBytes l → reading l ≡ begun n lim r → r.ending ≡ complete → list_of (list_text l) ≡ list l
good_read l n lim r b e q =
    let f = fields_only l n lim r b e q in
    let k : length (list_bytes (tag_at l 0) n r.events) ≤ max_bytes = subst (λ (m : List ℕ). length m ≤ max_bytes) f.bytes f.long in
    ap list_of (text_is l n lim r e q) ∙ (lines_read (tag_at l 0) n r.events f.tag f.nodes f.fit k ∙ ap list (sym f.bytes))

pub reads_back : ReadsBack
reads_back = record { good = good_read; lines = lines_read; pasted = pasted_read }

-- what a text says that gives the list l
record Came (t l : List ℕ) : Type 0 where
  u : ℕ
  n : ℕ
  es : List Event
  says : script_of t ≡ script u n es
  is : list_bytes u n es ≡ l

came : (t l : List ℕ) → list_of t ≡ list l → Came t l
unfolding list_of
came t l e = by (script_of t) refl e
  where
    bytes_of : Outcome → List ℕ
    bytes_of (bad p x) = []
    bytes_of (list m) = m

    is_list : Outcome → ℕ
    is_list (bad p x) = 0
    is_list (list m) = 1

    by : (s : Script) → script_of t ≡ s → outcome t s ≡ list l → Came t l
    by (wrong_at p x) q h = let z : ◌≡◌ {A = ℕ} 0 1 = ap is_list h in absurd (omega arith)
    by (script u n es) q h = record { u = u; n = n; es = es; says = q; is = ap bytes_of h }

-- what ends a list at its first field, and how one ends behind it; where a list has no such thing, what the claims say of it
abbrev stop_of : Listed → Stop
stop_of (failed s) = s
stop_of (begun n lim r) = WrongCount

abbrev ending_of : Listed → Ending
ending_of (failed s) = complete
ending_of (begun n lim r) = r.ending

stop_opened : (lim : Limits) (n : ℕ) (es : List Event) → stop_of (opened (nodes_of lim n) es) ≡ WrongCount
unfolding nodes_of
stop_opened lim n es = by_test (λ (x : First). stop_of (opened x es) ≡ WrongCount) (λ h. refl) (λ h. refl)

ending_opened : (lim : Limits) (n : ℕ) (es : List Event) → ending_of (opened (nodes_of lim n) es) ≡ complete
unfolding nodes_of
ending_opened lim n es = by_test (λ (x : First). ending_of (opened x es) ≡ complete) (λ h. refl) (λ h. refl)

list_read : (t : List ℕ) (u n : ℕ) (es : List Event) → script_of t ≡ script u n es → reading (list_bytes u n es) ≡ opened (nodes_of (limits_of u) n) es
list_read t u n es e = let f = script_fits t u n es e in fields_read u n es f.tag f.long

list_bytes_lem : (t l : List ℕ) → list_of t ≡ list l → AllBytes l × (length l ≤ max_bytes)
list_bytes_lem t l e =
    let c = came t l e in
    let f = script_fits t c.u c.n c.es c.says in
    subst (λ (m : List ℕ). AllBytes m × (length m ≤ max_bytes)) c.is (fields_bytes c.u c.n c.es f.tag f.nodes f.fit, f.long)

came_read : (t l : List ℕ) (c : Came t l) → reading l ≡ opened (nodes_of (limits_of c.u) c.n) c.es
came_read t l c = ap reading (sym c.is) ∙ list_read t c.u c.n c.es c.says

ends_complete : (t l : List ℕ) (n : ℕ) (lim : Limits) (r : Reading) → list_of t ≡ list l → reading l ≡ begun n lim r → r.ending ≡ complete
ends_complete t l n lim r e q = let c = came t l e in ap ending_of (sym q ∙ came_read t l c) ∙ ending_opened (limits_of c.u) c.n c.es

pub text_reads : TextReads
text_reads =
    record {
      reads = list_read;
      tag = λ t u n es e. (script_fits t u n es e).tag;
      bytes = list_bytes_lem;
      only_six = λ t l s e q. let c = came t l e in ap stop_of (sym q ∙ came_read t l c) ∙ stop_opened (limits_of c.u) c.n c.es;
      to_end = ends_complete;
      again = λ t l n lim r e q. good_read l n lim r (list_bytes_lem t l e).0 q (ends_complete t l n lim r e q);
    }
