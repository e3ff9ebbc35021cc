-- What a place, a buffer, a chunk row and a descriptor may be.
use Rattle.std.specs.Prelude.{ℕ, ◌+◌, Bool, ◌&&◌, nat_le}
use Rattle.records.specs.declared.buffer.Buffer.{Buffer}
use Rattle.records.specs.declared.buffer.ChunkRow.{ChunkRow}

-- 2^47 is where user memory ends
abbrev pub below_top : (place bytes : ℕ) → Bool
below_top place bytes = nat_le (place + bytes) 140737488355328

abbrev pub buffer_limits : Buffer → Bool
buffer_limits b = nat_le b.length b.capacity && below_top b.place b.capacity

-- a length from 1 to 2^30
abbrev pub row_limits : ChunkRow → Bool
row_limits r = nat_le 1 r.length && (nat_le r.length 1073741824 && below_top r.place r.length)

-- no request moves more than 2^40 bytes
abbrev pub few_bytes : ℕ → Bool
few_bytes n = nat_le n 1099511627776

-- 2^31 - 1 is the largest descriptor, an int
abbrev pub descriptor_limits : ℕ → Bool
descriptor_limits d = nat_le d 2147483647
