-- What the inner functions of the field's reader answer is what the definition says; and the claims `FieldRules`.
use Rattle.std.specs.Prelude.{Ok, Err}
use Prim.Native.Nat.{ℕ, ◌-◌, ◌≤◌}
use native.Mathlib.Omega.{arith}
use mathlib.Core.Bool.{true, false}
use mathlib.Core.Path.{◌≡◌, refl}
use mathlib.Core.List.{List, ◌++◌}
use lib.ListN.{length, take, drop}
use Rattle.model.specs.Pick.{pick, by_test}
use Rattle.event_list.specs.Format.{stop_number, cut_short, checked}
use Rattle.event_list.specs.Parts.{sized}
use Rattle.event_list.specs.declared.Stop.{Stop}
use Rattle.event_list.specs.declared.Stop.TheVariants.{CutShort}
use Rattle.event_list.proofs.Fields.{Found, cut_empty, own_length, own_part, checked_alone}
use Rattle.bully_bytes.specs.Field.{event_tag, length_of, event_of, FieldRead, event_in}
use Rattle.bully_bytes.specs.Parts.{decoded_field}
use Rattle.bully_bytes.specs.Claims.{FieldRules}

module _ (l : List ℕ) where
  pub field_short : cut_short l 0 ≡ true → event_in l ≡ Err CutShort
  unfolding event_in checked pick
  field_short k = rw k

  pub field_none : length l ≤ 0 → event_in l ≡ Err CutShort
  field_none z = field_short (cut_empty l z)

  pub field_whole : (t s e : ℕ) → Found l 0 t s e → event_in l ≡ decoded_field t (take (e - s) (drop s l))
  unfolding event_in checked decoded_field sized pick
  field_whole t s e f = rw (f.uncut, own_part l 0 t s e f, own_length l 0 t s e f, f.tag)

-- ── the claims ──

abbrev Bad : FieldRead → Type 0
Bad (Err s) = (3 ≤ stop_number s) × (stop_number s ≤ 5)
Bad (Ok e) = Unit {0}

bad_in : (f : List ℕ) → Bad (event_in f)
unfolding event_in checked
bad_in f = by_test Bad (λ u. omega arith) (λ u. by_test Bad (λ t. omega arith) (λ t. by_test Bad (λ w. omega arith) (λ w. tt)))

grounds : (f : List ℕ) (s : Stop) → event_in f ≡ Err s → (3 ≤ stop_number s) × (stop_number s ≤ 5)
grounds f s e = rw e at (bad_in f)

first_alone : (f g : List ℕ) → cut_short f 0 ≡ false → event_in (f ++ g) ≡ event_in f
unfolding event_in
first_alone f g h = checked_alone event_tag length_of Err (λ t c _. Ok (event_of t c)) f g h

pub field_rules : FieldRules
unfolding cut_short checked length_of event_of event_in pick
field_rules =
    record {
      crash = λ i. refl;
      recover = λ i. refl;
      check = λ i. refl;
      timeout = λ i. refl;
      go_on = λ i. refl;
      finish = λ i high low. refl;
      grounds = grounds;
      empty = refl;
      tick = λ i. refl;
      expire = λ i. refl;
      deliver = λ a b. refl;
      lose = λ a b. refl;
      first_tag = λ n. refl;
      tag_below = λ i. refl;
      tag_above = λ i. refl;
      go_on_empty = refl;
      go_on_long = λ i j. refl;
      crash_long = λ i j. refl;
      recover_long = λ i j. refl;
      check_long = λ i j. refl;
      timeout_long = λ i j. refl;
      finish_long = λ i j k l. refl;
      finish_short = λ i. refl;
      one_byte = λ t. refl;
      two_bytes = λ t l. refl;
      no_contents = λ t. refl;
      cut_first = refl;
      tag_first = refl;
      first_alone = first_alone;
    }
