-- One table of one entry, and what is no table, computed. docs/TABLE.md shows these bytes. Assumes nothing.
use Prim.Native.Nat.{ℕ, suc, ◌-◌}
use mathlib.Core.Path.{◌≡◌, refl}
use mathlib.Core.Bool.{Bool, true, false}
use mathlib.Core.List.{List, [], ◌∷◌}
use lib.IntN.{negsuc}
use lib.ListN.{take, set}
use Rattle.types.specs.Number.{all_zero, le, bytes_of, signed_of, residue}
use Rattle.frame.specs.Reply.{padded}
use Rattle.reporting.specs.declared.entry.Entry.{Entry}
use Rattle.reporting.specs.Table.{capacity}
use Rattle.reporting.specs.Carried.{laid, numbers_in, rows_laid, rows_in, numbers_of, entry_of, is_slot, are_slots, slots_in, table_in, table_bytes, is_table, table_size, table_length}

-- cluster 0402, attribute 0000, from 10 to 300 seconds, change 50; last reported at 100000 with the value -5
entry : Entry
entry = record {
  key = record { cluster = record { 0 = 1026 }; attribute = record { 0 = 0 } };
  config = record { min_interval = 10; max_interval = 300; reportable_change = 50; unsigned = false };
  marked = true;
  last_time = 100000;
  last_value = negsuc 4;
}

head : List ℕ
head = 1 ∷ 2 ∷ 4 ∷ 0 ∷ 0 ∷ 10 ∷ 0 ∷ 44 ∷ 1 ∷ 50 ∷ 0 ∷ 0 ∷ 0 ∷ 0 ∷ 0 ∷ 0 ∷ 0 ∷ 0 ∷ 1 ∷ 160 ∷ 134 ∷ 1 ∷ 0 ∷ 251 ∷ 255 ∷ 255 ∷ 255 ∷ 255 ∷ 255 ∷ 255 ∷ 255 ∷ []

bytes : List ℕ
bytes = padded table_length head

its_bytes : table_bytes capacity (entry ∷ []) ≡ bytes
unfolding table_bytes rows_laid laid numbers_of bytes_of residue entry bytes head padded
its_bytes = refl

its_table : table_in bytes ≡ entry ∷ []
unfolding table_in slots_in rows_in numbers_in entry_of le signed_of entry bytes head padded
its_table = refl

-- whether these bytes are a table after one of them was changed
with : ℕ → ℕ → Bool
with at b = is_table capacity (set bytes at b)

is_one : with 0 1 ≡ true
unfolding with is_table slots_in are_slots is_slot all_zero rows_in numbers_in le bytes head padded
is_one = refl

-- a count above the room; a count of 2, and of all slots, empty slots being some; mark 1, and mark 2; flag 2; a time under flag 0; a stray byte behind the slot in use, behind the sixteenth, and at
-- the end
count_above : with 0 (suc capacity) ≡ false
unfolding with is_table slots_in are_slots is_slot all_zero rows_in numbers_in le bytes head padded
count_above = refl

count_full : with 0 capacity ≡ true
unfolding with is_table slots_in are_slots is_slot all_zero rows_in numbers_in le bytes head padded
count_full = refl

count_2 : with 0 2 ≡ true
unfolding with is_table slots_in are_slots is_slot all_zero rows_in numbers_in le bytes head padded
count_2 = refl

mark_1 : with 17 1 ≡ true
unfolding with is_table slots_in are_slots is_slot all_zero rows_in numbers_in le bytes head padded
mark_1 = refl

mark_2 : with 17 2 ≡ false
unfolding with is_table slots_in are_slots is_slot all_zero rows_in numbers_in le bytes head padded
mark_2 = refl

flag_2 : with 18 2 ≡ false
unfolding with is_table slots_in are_slots is_slot all_zero rows_in numbers_in le bytes head padded
flag_2 = refl

flag_0 : with 18 0 ≡ false
unfolding with is_table slots_in are_slots is_slot all_zero rows_in numbers_in le bytes head padded
flag_0 = refl

stray_next : with (table_size 1) 1 ≡ false
unfolding with is_table slots_in are_slots is_slot all_zero rows_in numbers_in le bytes head padded
stray_next = refl

stray_sixteen : with (table_size 16) 1 ≡ false
unfolding with is_table slots_in are_slots is_slot all_zero rows_in numbers_in le bytes head padded
stray_sixteen = refl

stray : with (table_length - 1) 1 ≡ false
unfolding with is_table slots_in are_slots is_slot all_zero rows_in numbers_in le bytes head padded
stray = refl

one_short : is_table capacity (take (table_length - 1) bytes) ≡ false
unfolding is_table slots_in are_slots is_slot all_zero rows_in numbers_in le bytes head padded
one_short = refl
