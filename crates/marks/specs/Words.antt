-- Marks in a list of 64-bit words: the mark m is the bit m % 64 of the word m / 64.
use Rattle.std.specs.Prelude.{ℕ, ◌/◌, ◌%◌, ◌^◌, List, ◌==◌, slice_index}
use Rattle.marks.specs.Sets.{Marks}

-- the bits of a number, the lowest at 0, as a set
unfoldable pub bit : ℕ → Marks
bit n k = n / 2 ^ k % 2 == 1

-- the set that the words hold
abbrev pub held : List ℕ → Marks
held ws m = bit (slice_index ws (m / 64)) (m % 64)
