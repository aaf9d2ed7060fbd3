-- Single lists: K1, the first field of T-08, each ground with its number, the order of the grounds, and every event. The proof is in proofs/Cases.
use Rattle.std.specs.Prelude.{ℕ, ◌≡◌, List, [], ◌∷◌, ◌++◌, replicate}
use Rattle.model.specs.Limits.{tower, stand}
use Rattle.model.specs.declared.Event.TheVariants.{Crash, Recover, Check, Timeout, Tick, Expire, Finish, Deliver, Lose}
use Rattle.event_list.specs.declared.Stop.TheVariants.{TooLong, CutShort, WrongTag, WrongLength, WrongCount}
use Rattle.event_list.specs.Format.{stop_number, complete, stopped, ended, after, failed, begun, reading}

-- ── fields ──

-- "First field: 0x01, one byte n"
abbrev pub nodes : ℕ → List ℕ
nodes n = 0x01 ∷ 0 ∷ 1 ∷ n ∷ []

-- T-08: "a first tag of 0x02 instead of 0x01, with the same byte n"
abbrev pub stand_nodes : ℕ → List ℕ
stand_nodes n = 0x02 ∷ 0 ∷ 1 ∷ n ∷ []

-- "each one byte i"
abbrev pub crash : ℕ → List ℕ
crash i = 0x10 ∷ 0 ∷ 1 ∷ i ∷ []

abbrev pub recover : ℕ → List ℕ
recover i = 0x11 ∷ 0 ∷ 1 ∷ i ∷ []

abbrev pub check : ℕ → List ℕ
check i = 0x12 ∷ 0 ∷ 1 ∷ i ∷ []

abbrev pub timeout : ℕ → List ℕ
timeout i = 0x13 ∷ 0 ∷ 1 ∷ i ∷ []

abbrev pub tick : ℕ → List ℕ
tick i = 0x14 ∷ 0 ∷ 1 ∷ i ∷ []

abbrev pub expire : ℕ → List ℕ
expire i = 0x15 ∷ 0 ∷ 1 ∷ i ∷ []

-- "i and a two-byte task, high byte first"
abbrev pub finish : ℕ → ℕ → ℕ → List ℕ
finish i high low = 0x16 ∷ 0 ∷ 3 ∷ i ∷ high ∷ low ∷ []

-- "sender and receiver"
abbrev pub deliver : ℕ → ℕ → List ℕ
deliver a b = 0x17 ∷ 0 ∷ 2 ∷ a ∷ b ∷ []

abbrev pub lose : ℕ → ℕ → List ℕ
lose a b = 0x18 ∷ 0 ∷ 2 ∷ a ∷ b ∷ []

-- ── what they say ──

pub record ReadingCases : Type 0 where
  -- the "No." of each ground, 2 to 6
  pub number_two : stop_number TooLong ≡ 2
  pub number_three : stop_number CutShort ≡ 3
  pub number_four : stop_number WrongTag ≡ 4
  pub number_five : stop_number WrongLength ≡ 5
  pub number_six : stop_number WrongCount ≡ 6
  -- 6, "K1 n = 0 and 17: 6; 1 and 16 pass."
  pub k1_low : reading (nodes 0) ≡ failed WrongCount
  pub k1_high : reading (nodes 17) ≡ failed WrongCount
  pub k1_first : reading (nodes 1) ≡ begun 1 tower (ended complete)
  pub k1_last : reading (nodes 16) ≡ begun 16 tower (ended complete)
  -- T-08, of the stand: 0 and 5: 6; 1 and 4 pass; 16 is refused there, and 5 passes in the tower
  pub stand_low : reading (stand_nodes 0) ≡ failed WrongCount
  pub stand_high : reading (stand_nodes 5) ≡ failed WrongCount
  pub stand_first : reading (stand_nodes 1) ≡ begun 1 stand (ended complete)
  pub stand_last : reading (stand_nodes 4) ≡ begun 4 stand (ended complete)
  pub stand_tower : reading (stand_nodes 16) ≡ failed WrongCount
  pub tower_five : reading (nodes 5) ≡ begun 5 tower (ended complete)
  -- "Ground 4 lets 0x02 stand first as well, and nowhere else": behind either first field, and behind an event
  pub stand_second : reading (nodes 2 ++ stand_nodes 2) ≡ begun 2 tower (ended (stopped 4 WrongTag))
  pub stand_again : reading (stand_nodes 2 ++ stand_nodes 2) ≡ begun 2 stand (ended (stopped 4 WrongTag))
  pub tower_second : reading (stand_nodes 2 ++ nodes 2) ≡ begun 2 stand (ended (stopped 4 WrongTag))
  pub stand_later : reading (stand_nodes 2 ++ (crash 1 ++ stand_nodes 2)) ≡ begun 2 stand (after (Crash 1) (ended (stopped 8 WrongTag)))
  -- 0x02 not first: 4 whatever its length is, but 3 comes first
  pub stand_again_long : reading (nodes 2 ++ (0x02 ∷ 0 ∷ 2 ∷ 2 ∷ 2 ∷ [])) ≡ begun 2 tower (ended (stopped 4 WrongTag))
  pub stand_again_cut : reading (nodes 2 ++ (0x02 ∷ 0 ∷ 1 ∷ [])) ≡ begun 2 tower (ended (stopped 4 CutShort))
  -- other tags first
  pub zero_first : reading (0x00 ∷ 0 ∷ 1 ∷ 2 ∷ []) ≡ failed WrongTag
  pub three_first : reading (0x03 ∷ 0 ∷ 1 ∷ 2 ∷ []) ≡ failed WrongTag
  -- 3 and 5 of a first field with 0x02, 5 before 6
  pub stand_cut : reading (0x02 ∷ 0 ∷ 1 ∷ []) ≡ failed CutShort
  pub stand_none : reading (0x02 ∷ 0 ∷ 0 ∷ []) ≡ failed WrongLength
  pub stand_long : reading (0x02 ∷ 0 ∷ 2 ∷ 5 ∷ 1 ∷ []) ≡ failed WrongLength
  -- 2, "over 65,536 bytes": a list of 65,536 is read, one of 65,537 is not
  pub longest : reading (nodes 2 ++ replicate 65532 0) ≡ begun 2 tower (ended (stopped 4 WrongTag))
  pub too_long : reading (nodes 2 ++ replicate 65533 0) ≡ failed TooLong
  -- 3, "only 1 or 2 bytes left, or fewer contents than its length says; an empty list too"
  pub empty : reading [] ≡ failed CutShort
  pub one_left : reading (0x01 ∷ []) ≡ failed CutShort
  pub two_left : reading (0x01 ∷ 0 ∷ []) ≡ failed CutShort
  pub no_contents : reading (0x01 ∷ 0 ∷ 1 ∷ []) ≡ failed CutShort
  -- 4, "another tag first"
  pub other_first : reading (crash 1) ≡ failed WrongTag
  -- 4, "0x01 not first"
  pub first_again : reading (nodes 2 ++ nodes 2) ≡ begun 2 tower (ended (stopped 4 WrongTag))
  -- 4, "unknown tag", of which exactly three bytes are left
  pub three_left : reading (nodes 2 ++ (0x19 ∷ 0 ∷ 0 ∷ [])) ≡ begun 2 tower (ended (stopped 4 WrongTag))
  -- 5, "length wrong for the tag": of the first field, and of an event behind another
  pub long_first : reading (0x01 ∷ 0 ∷ 2 ∷ 1 ∷ 1 ∷ []) ≡ failed WrongLength
  pub known_long : reading (nodes 2 ++ (crash 1 ++ (0x11 ∷ 0 ∷ 2 ∷ 1 ∷ 1 ∷ []))) ≡ begun 2 tower (after (Crash 1) (ended (stopped 8 WrongLength)))
  -- "two-byte length with the high byte first": 257 is not 1, with too few contents and with as many as it says
  pub high_cut : reading (0x01 ∷ 1 ∷ 1 ∷ 2 ∷ []) ≡ failed CutShort
  pub high_first : reading (0x01 ∷ 1 ∷ 1 ∷ replicate 257 2) ≡ failed WrongLength
  pub high_event : reading (nodes 2 ++ (0x10 ∷ 1 ∷ 1 ∷ replicate 257 1)) ≡ begun 2 tower (ended (stopped 4 WrongLength))
  -- "Checked from the top; the first that applies is given". 2 before 3: 65,537 bytes, one fewer than the first field needs
  pub two_three : reading (0x01 ∷ 255 ∷ 255 ∷ replicate 65534 2) ≡ failed TooLong
  -- 2 before 4: 65,537 bytes with another tag first
  pub two_four : reading (replicate 65537 0) ≡ failed TooLong
  -- 3 before 4: another tag first, and an unknown one, cut short
  pub other_cut : reading (0x10 ∷ 0 ∷ 1 ∷ []) ≡ failed CutShort
  pub unknown_cut : reading (nodes 2 ++ (0x19 ∷ 0 ∷ 1 ∷ [])) ≡ begun 2 tower (ended (stopped 4 CutShort))
  -- 4 before 5: another tag first, an unknown one and 0x01 not first, each of a length wrong for the tag
  pub other_long : reading (0x10 ∷ 0 ∷ 2 ∷ 1 ∷ 1 ∷ []) ≡ failed WrongTag
  pub unknown_long : reading (nodes 2 ++ (0x19 ∷ 0 ∷ 1 ∷ 7 ∷ [])) ≡ begun 2 tower (ended (stopped 4 WrongTag))
  pub again_long : reading (nodes 2 ++ (0x01 ∷ 0 ∷ 2 ∷ 2 ∷ 2 ∷ [])) ≡ begun 2 tower (ended (stopped 4 WrongTag))
  -- 5 before 6: a first field without n, and with n = 0 and 17 and a byte more
  pub none_first : reading (0x01 ∷ 0 ∷ 0 ∷ []) ≡ failed WrongLength
  pub long_low : reading (0x01 ∷ 0 ∷ 2 ∷ 0 ∷ 1 ∷ []) ≡ failed WrongLength
  pub long_high : reading (0x01 ∷ 0 ∷ 2 ∷ 17 ∷ 1 ∷ []) ≡ failed WrongLength
  -- every event, and a last field of which only one byte is there
  pub every_event_lem :
      reading (nodes 2 ++ (crash 1 ++ (recover 1 ++ (check 1 ++ (timeout 1 ++ (tick 1 ++ (expire 1 ++ (finish 2 1 44 ++ (deliver 2 1 ++ (lose 1 2 ++ (0x10 ∷ [])))))))))))
      ≡ begun 2 tower
      (record {
        events = Crash 1 ∷ Recover 1 ∷ Check 1 ∷ Timeout 1 ∷ Tick 1 ∷ Expire 1 ∷ Finish 2 (record { number = 300 }) ∷ Deliver 2 1 ∷ Lose 1 2 ∷ [];
        ending = stopped 44 CutShort;
      })
