-- The token of a submission (user_data): the low half of the waiter's generation above its index.
use Rattle.std.specs.Prelude.{ℕ, ◌+◌, ◌*◌, ◌/◌, ◌%◌}
use Rattle.records.specs.declared.id.WaiterId.{WaiterId}

abbrev pub token : WaiterId → ℕ
token w = (w.0.generation % 4294967296) * 4294967296 + w.0.index

abbrev pub token_index : ℕ → ℕ
token_index t = t % 4294967296

abbrev pub token_generation : ℕ → ℕ
token_generation t = t / 4294967296
