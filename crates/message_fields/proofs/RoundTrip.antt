-- A message in range is read back from its bytes, as far as its kind carries it; and bytes that are read are those of what is read: the claims `OneForm`.
use Prim.Native.Nat.{ℕ, suc, ◌+◌, ◌≤◌, ◌<◌}
use native.Mathlib.Omega.{arith}
use mathlib.Core.Bool.{Bool, true, false, ◌&&◌, true≢false}
use mathlib.Core.Path.{◌≡◌, refl, sym, ◌∙◌, ap}
use mathlib.Core.List.{List, [], ◌∷◌, ◌++◌}
use lib.Dec.{eqb}
use lib.ListN.{length, get_or, length-append, get_or-append}
use borrow.Author.Tests.{eq-eqb, ne_eqb}
use Rattle.std.specs.Prelude.{Option, Some, None}
use Rattle.model.specs.Pick.{pick, pick_true, pick_false, by_test}
use Rattle.model.specs.Range.{carries_group, message_in_range}
use Rattle.model.proofs.Fields.{IsGroup, message_facts}
use Rattle.model.proofs.Range.{is_message_lem}
use Rattle.model.proofs.Local.{both_left, both_right}
use Rattle.model.specs.declared.Message.{Message}
use Rattle.number_bytes.specs.Bytes.{number, bytes, same_bytes, yes_of, yes_number}
use Rattle.number_bytes.proofs.Numbers.{read, one_is}
use Rattle.number_bytes.proofs.Same.{same_self, same_is}
use Rattle.number_bytes.proofs.Records.{yes_back, yes_small}
use Rattle.message_fields.specs.Fields.{field, group_field, task_field, yes_field, carries_task, carries_yes, fields, message_in, is_message, read_number, reading, carried}
use Rattle.message_fields.specs.Parts.{call_fields}
use Rattle.message_fields.specs.Claims.{OneForm}
use Rattle.message_fields.proofs.Forms.{Kind, low, middle, five, six, high, kind_of, no_group_low, no_group_high, a_group, plain_low, plain_high, grouped, ready, reply, at_most}

-- ── read back ──

-- the numbers of a message fit their bytes
pub record Widths (m : Message) : Type 0 where
  pub sender : m.sender < 256
  pub receiver : m.receiver < 256
  pub kind : m.kind < 256
  pub call : m.call.number < 4294967296
  pub group : carries_group m.kind ≡ true → m.group.number < 4294967296
  pub task : eqb m.kind 5 ≡ true → m.task.number < 65536

group_small : (n g : ℕ) → IsGroup n g → g < 4294967296
group_small n g x = omega (arith, x.high)

pub widths : (n : ℕ) (m : Message) → n ≤ 16 → message_in_range n m ≡ true → Widths m
widths n m h e =
    let x = message_facts n m e in
    record {
      sender = omega (arith, h, x.sender.high);
      receiver = omega (arith, h, x.receiver.high);
      kind = omega (arith, x.kind_high);
      call = omega (arith, x.call.high);
      group = λ q. group_small n m.group.number (x.group q);
      task = λ q. omega (arith, (x.task q).high);
    }

module _ (m : Message) (w : Widths m) where
  plain_back : carries_group m.kind ≡ false → eqb m.kind 5 ≡ false → eqb m.kind 6 ≡ false → message_in (call_fields m) ≡ carried m
  unfolding pick number bytes message_in carried
  plain_back g t y =
      rw (read 1 m.sender w.sender, read 1 m.receiver w.receiver, read 1 m.kind w.kind, read 4 m.call.number w.call, g, t, y)

  grouped_back : carries_group m.kind ≡ true → eqb m.kind 5 ≡ false → eqb m.kind 6 ≡ false → message_in (call_fields m ++ group_field m) ≡ carried m
  unfolding pick number bytes message_in carried
  grouped_back g t y =
      rw (read 1 m.sender w.sender, read 1 m.receiver w.receiver, read 1 m.kind w.kind, read 4 m.call.number w.call, read 4 m.group.number (w.group g), g, t, y)

  ready_back : carries_group m.kind ≡ true → eqb m.kind 5 ≡ true → eqb m.kind 6 ≡ false → message_in ((call_fields m ++ group_field m) ++ task_field m) ≡ carried m
  unfolding pick number bytes message_in carried
  ready_back g t y =
      rw (read 1 m.sender w.sender, read 1 m.receiver w.receiver, read 1 m.kind w.kind, read 4 m.call.number w.call, read 4 m.group.number (w.group g), read 2 m.task.number (w.task t), g, t, y)

  reply_back : carries_group m.kind ≡ false → eqb m.kind 5 ≡ false → eqb m.kind 6 ≡ true → message_in (call_fields m ++ yes_field m) ≡ carried m
  unfolding pick number bytes message_in carried
  reply_back g t y =
      rw (read 1 m.sender w.sender, read 1 m.receiver w.receiver, read 1 m.kind w.kind, read 4 m.call.number w.call, read 1 (yes_number m.yes) (yes_small m.yes), yes_back, g, t, y)

  pub message_back : message_in (fields m) ≡ carried m
  message_back = by (kind_of m.kind)
    where
      by : Kind m.kind → message_in (fields m) ≡ carried m
      by (low h) = rw (plain_low m h).bytes (plain_back (no_group_low m.kind h) (ne_eqb m.kind 5 (λ q. omega (arith, q, h))) (ne_eqb m.kind 6 (λ q. omega (arith, q, h))))
      by (middle h l) = rw (grouped m h l).bytes (grouped_back (a_group m.kind h (omega (arith, l))) (ne_eqb m.kind 5 (λ q. omega (arith, q, l))) (ne_eqb m.kind 6 (λ q. omega (arith, q, l))))
      by (five h) = rw (ready m h).bytes (ready_back (a_group m.kind (omega (arith, h)) (omega (arith, h))) (eq-eqb m.kind 5 h) (ne_eqb m.kind 6 (λ q. omega (arith, q, h))))
      by (six h) = rw (reply m h).bytes (reply_back (no_group_high m.kind (omega (arith, h))) (ne_eqb m.kind 5 (λ q. omega (arith, q, h))) (eq-eqb m.kind 6 h))
      by (high h) = rw (plain_high m h).bytes (plain_back (no_group_high m.kind (omega (arith, h))) (ne_eqb m.kind 5 (λ q. omega (arith, q, h))) (ne_eqb m.kind 6 (λ q. omega (arith, q, h))))

-- what a table's message carries is in range too
carried_in : (n : ℕ) (m : Message) → message_in_range n m ≡ true → message_in_range n (carried m) ≡ true
unfolding carried
carried_in n m e =
    let x = message_facts n m e in
    is_message_lem n (carried m)
    (record {
      sender = x.sender;
      receiver = x.receiver;
      kind_low = x.kind_low;
      kind_high = x.kind_high;
      call = x.call;
      group = λ q. rw (q, pick_true) (x.group q);
      task = λ q. rw (q, pick_true) (x.task q);
    })

-- and its bytes are the same
only_number : (b : Bool) (tag k x : ℕ) → pick b (field tag (bytes k (pick b x 0))) [] ≡ pick b (field tag (bytes k x)) []
unfolding pick
only_number true tag k x = refl
only_number false tag k x = refl

only_yes : (b y : Bool) → pick b (field 0x24 (bytes 1 (yes_number (b && y)))) [] ≡ pick b (field 0x24 (bytes 1 (yes_number y))) []
unfolding pick
only_yes true y = refl
only_yes false y = refl

pub fields_carried : (m : Message) → fields (carried m) ≡ fields m
unfolding fields carried
fields_carried m = rw (only_number (carries_group m.kind) 0x22 4 m.group.number, only_number (carries_task m.kind) 0x23 2 m.task.number, only_yes (carries_yes m.kind) m.yes)

-- ── what is read ──
apart : {m : Message} → None ≡ Some m → ⊥
apart q = let z : ◌≡◌ {A = ℕ} 0 1 = cc in omega arith

got_same : {m k : Message} → Some m ≡ Some k → m ≡ k
got_same q = cc

pub reading_got : (n : ℕ) (l : List ℕ) → is_message n l ≡ true → reading n l ≡ Some (message_in l)
unfolding reading
reading_got n l h = rw (h, pick_true)

pub reading_wrong : (n : ℕ) (l : List ℕ) → is_message n l ≡ false → reading n l ≡ None
unfolding reading
reading_wrong n l h = rw (h, pick_false)

pub got_is : (n : ℕ) (l : List ℕ) (m : Message) → reading n l ≡ Some m → (is_message n l ≡ true) × (message_in l ≡ m)
unfolding reading
got_is n l m = by_test (λ (x : Option Message). x ≡ Some m → (is_message n l ≡ true) × (message_in l ≡ m)) (λ h q. (h, got_same q)) (λ h q. absurd (apart q))

pub wrong_is : (n : ℕ) (l : List ℕ) → reading n l ≡ None → is_message n l ≡ false
unfolding reading
wrong_is n l = by_test (λ (x : Option Message). x ≡ None → is_message n l ≡ false) (λ h q. absurd (apart (sym q))) (λ h q. h)

-- they are its bytes, and it is in range
pub its_bytes : (n : ℕ) (l : List ℕ) → is_message n l ≡ true → l ≡ fields (message_in l)
unfolding is_message
its_bytes n l h = same_is l (fields (message_in l)) (both_left (same_bytes l (fields (message_in l))) _ h)

pub its_range : (n : ℕ) (l : List ℕ) → is_message n l ≡ true → message_in_range n (message_in l) ≡ true
unfolding is_message
its_range n l h = both_right (same_bytes l (fields (message_in l))) _ h

pick_twice : (b : Bool) (x : ℕ) → pick b (pick b x 0) 0 ≡ pick b x 0
unfolding pick
pick_twice true x = refl
pick_twice false x = refl

and_twice : (b y : Bool) → (b && (b && y)) ≡ (b && y)
and_twice true y = refl
and_twice false y = refl

-- what is read holds nothing that its kind does not carry
pub read_carried : (l : List ℕ) → carried (message_in l) ≡ message_in l
unfolding message_in carried
read_carried l = rw (pick_twice (carries_group (number 1 l 5)) (number 4 l 16), pick_twice (carries_task (number 1 l 5)) (number 2 l 23), and_twice (carries_yes (number 1 l 5)) (yes_of (number 1 l 16)))

pub fields_message : (n : ℕ) (m : Message) → n ≤ 16 → message_in_range n m ≡ true → is_message n (fields m) ≡ true
unfolding is_message
fields_message n m h e =
    let b = message_back m (widths n m h e) in
    rw (b, fields_carried m, same_self (fields m)) (carried_in n m e)

pub fields_read : (n : ℕ) (m : Message) → n ≤ 16 → message_in_range n m ≡ true → reading n (fields m) ≡ Some (carried m)
fields_read n m h e = reading_got n (fields m) (fields_message n m h e) ∙ ap Some (message_back m (widths n m h e))

-- from whom and to whom
pub sender_at : (n : ℕ) (m : Message) → n ≤ 16 → message_in_range n m ≡ true → get_or (fields m) 3 0 ≡ m.sender
unfolding message_in carried
sender_at n m h r = sym (one_is (fields m) 3) ∙ ap (λ (x : Message). x.sender) (message_back m (widths n m h r))

pub receiver_at : (n : ℕ) (m : Message) → n ≤ 16 → message_in_range n m ≡ true → get_or (fields m) 4 0 ≡ m.receiver
unfolding message_in carried
receiver_at n m h r = sym (one_is (fields m) 4) ∙ ap (λ (x : Message). x.receiver) (message_back m (widths n m h r))

-- ── how many bytes ──

-- what holds of any bytes holds of a message's, which are some
pub has_bytes : (m : Message) (P : List ℕ → Type 0) → ((x : ℕ) (l : List ℕ) → P (x ∷ l)) → P (fields m)
unfolding bytes fields
has_bytes m P f = f _ _

same_kind : (a b : Message) → a.kind ≡ b.kind → length (fields a) ≡ length (fields b)
same_kind a b e = by (kind_of b.kind)
  where
    by : Kind b.kind → length (fields a) ≡ length (fields b)
    by (low h) = (plain_low a (omega (arith, e, h))).length ∙ sym (plain_low b h).length
    by (middle h l) = (grouped a (omega (arith, e, h)) (omega (arith, e, l))).length ∙ sym (grouped b h l).length
    by (five h) = (ready a (e ∙ h)).length ∙ sym (ready b h).length
    by (six h) = (reply a (e ∙ h)).length ∙ sym (reply b h).length
    by (high h) = (plain_high a (omega (arith, e, h))).length ∙ sym (plain_high b h).length

-- the shortest has 13
at_least : (m : Message) → 13 ≤ length (fields m)
at_least m = by (kind_of m.kind)
  where
    by : Kind m.kind → 13 ≤ length (fields m)
    by (low h) = rw (plain_low m h).length (omega arith)
    by (middle h l) = rw (grouped m h l).length (omega arith)
    by (five h) = rw (ready m h).length (omega arith)
    by (six h) = rw (reply m h).length (omega arith)
    by (high h) = rw (plain_high m h).length (omega arith)

kind_kept : (l k : List ℕ) → 6 ≤ length l → (message_in (l ++ k)).kind ≡ (message_in l).kind
unfolding number message_in
kind_kept l k h = rw (get_or-append l k 0 5 (omega arith))

no_more : (l : List ℕ) (x : ℕ) → x + length l ≡ x → l ≡ []
no_more [] x e = refl
no_more (y ∷ ys) x e = absurd (more e)
  where
    more : x + suc (length ys) ≡ x → ⊥
    more q = omega (arith, q)

behind : (n : ℕ) (l k : List ℕ) → is_message n l ≡ true → is_message n (l ++ k) ≡ true → k ≡ []
behind n l k h e =
    let a = ap length (its_bytes n l h) in
    let b = ap length (its_bytes n (l ++ k) e) in
    let s = same_kind (message_in (l ++ k)) (message_in l) (kind_kept l k (omega (arith, a, at_least (message_in l)))) in
    no_more k (length l) (sym (length-append l k) ∙ b ∙ s ∙ sym a)

number_is : (n : ℕ) (l : List ℕ) → read_number (reading n l) ≡ pick (is_message n l) 0 20
unfolding reading pick
number_is n l = by (is_message n l)
  where
    by : (t : Bool) → read_number (pick t (Some (message_in l)) None) ≡ pick t 0 20
    by true = refl
    by false = refl

pub one_form : OneForm
one_form =
    record {
      same = λ n m h e c. fields_read n m h e ∙ ap Some c;
      back = fields_read;
      exactly = λ n l m h. let g = got_is n l m h in its_bytes n l g.0 ∙ ap fields g.1;
      decoded = λ n l m h. let g = got_is n l m h in (sym (ap (message_in_range n) g.1) ∙ its_range n l g.0, sym (ap carried g.1) ∙ read_carried l ∙ g.1);
      one_form = λ n l k m h g. let x = got_is n l m h in let y = got_is n k m g in its_bytes n l x.0 ∙ ap fields (x.1 ∙ sym y.1) ∙ sym (its_bytes n k y.0);
      one_message = λ n m k h e f q. got_same (sym (fields_read n m h e) ∙ ap (reading n) q ∙ fields_read n k h f);
      no_other = λ n l m h w e q. true≢false (sym (fields_message n m h e) ∙ sym (ap (is_message n) q) ∙ wrong_is n l w);
      number = number_is;
      nothing_behind = behind;
      most = at_most;
      length_one = λ m h. (plain_low m (omega (arith, h))).length;
      length_group = λ m h l. (grouped m h l).length;
      length_ready = λ m h. (ready m h).length;
      length_reply = λ m h. (reply m h).length;
    }
